-- Colours by their identities.
use Rattle.std.specs.Prelude.{◌≡◌, ◌≢◌, ℕ, ◌+◌, false, cond, ◌&&◌, nat_lt, List, Option, Some, sum_by}
use Rattle.std.specs.BTreeMap.{BTreeMap, is_at}
use Rattle.std.specs.Map.{lookup, set_value, values_of}
use Rattle.std.specs.Ordering.{nat_cmp}
use Rattle.ms_monitor.specs.declared.colours.Colour.{Colour}

-- the colour of an identity
abbrev pub colour_of : List (ℕ × Colour) → ℕ → Option Colour
colour_of colours id = lookup (is_at (nat_cmp id)) colours

-- 1 for a live colour
abbrev pub one_live : Colour → ℕ
one_live c = cond c.is_live 1 0

-- 1 for a live colour that has bytes
abbrev pub one_filled : Colour → ℕ
one_filled c = cond (c.is_live && nat_lt 0 c.size) 1 0

-- how many colours are live
abbrev pub live_in : List (ℕ × Colour) → ℕ
live_in colours = sum_by one_live (values_of colours)

-- how many of them have bytes
abbrev pub filled_in : List (ℕ × Colour) → ℕ
filled_in colours = sum_by one_filled (values_of colours)

-- the colour, live no more
abbrev pub ended : Colour → Colour
ended c = record c { is_live = false }

-- the identity has this colour, all others have theirs as before
pub record Changes (old new : List (ℕ × Colour)) (id : ℕ) (colour : Colour) : Type 0 where
  pub here : colour_of new id ≡ Some colour
  pub others : (other : ℕ) → other ≢ id → colour_of new other ≡ colour_of old other

-- a colour more
pub record Adds (old new : List (ℕ × Colour)) (id : ℕ) (colour : Colour) : Type 0 where
  pub changes : Changes old new id colour
  pub live : live_in new ≡ live_in old + one_live colour
  pub filled : filled_in new ≡ filled_in old + one_filled colour

-- a live colour has ended
pub record Ends (old new : List (ℕ × Colour)) (id : ℕ) (colour : Colour) : Type 0 where
  pub changes : Changes old new id (ended colour)
  pub live : live_in new + one_live colour ≡ live_in old
  pub filled : filled_in new + one_filled colour ≡ filled_in old

-- the same of a map
abbrev pub IsPutOut : BTreeMap ℕ Colour → BTreeMap ℕ Colour → ℕ → Type 0
IsPutOut old new id = (c : Colour) → colour_of old.entries id ≡ Some c → (Changes old.entries new.entries id (ended c)) × (new.entries ≡ set_value (is_at (nat_cmp id)) old.entries (ended c))
