-- Locals that lie far from the beginning of their frames: a place for each in a directory, and what was written to them.
use Rattle.std.specs.Prelude.{◌≡◌, ◌≢◌, ℕ, suc, ◌+◌, ◌-◌, ◌≤◌, ◌⊎◌, List, [], ◌∷◌, ◌++◌, ◌==◌, nat_le, if◌then◌else◌, length, take, drop, reverse, slice_get, unwrap_or, Option, Some, None}
use Rattle.ms_linear.specs.declared.value.Value.{Value}
use Rattle.ms_linear.specs.Values.{default_of}
use Rattle.ms_types.specs.declared.types.ValType.{ValType}
use Rattle.ms_task.specs.declared.far.Far.{Far}
use Rattle.ms_task.specs.declared.far.Written.{Written}

-- how many declared locals of a frame are near
abbrev pub near : ℕ
near = 256

abbrev pub count : Far → ℕ
count f = length f.types - near

abbrev pub total : List Far → ℕ
total [] = 0
total (f ∷ fs) = count f + total fs

-- ---- what was written to them

abbrev pub value_for : ℕ → Option Written → Option Value
value_for j None = None
value_for j (Some w) = if w.index == j then Some w.cell else None

abbrev pub value_at : ℕ → ℕ → List Written → Option ℕ → Option Value
value_at from j ws None = None
value_at from j ws (Some place) = if nat_le from place then value_for j (slice_get ws place) else None

-- what was written to the far local of this number: its place in the directory has what was written to it, and not to another one
abbrev pub look : List ℕ → List Written → Far → ℕ → Option Value
look ds ws f j = value_at f.written j ws (slice_get ds (f.directory + j))

-- what was written to it stands there
pub record Holds (ds : List ℕ) (ws : List Written) (f : Far) (j place : ℕ) : Type 0 where
  pub what : Written
  pub there : slice_get ws place ≡ Some what
  pub within : f.written ≤ place
  pub its : what.index ≡ j
  pub listed : slice_get ds (f.directory + j) ≡ Some place

-- a value was written to it, and to no other one
pub record Puts (ds : List ℕ) (ws : List Written) (ds' : List ℕ) (ws' : List Written) (f : Far) (j : ℕ) (v : Value) : Type 0 where
  pub here : look ds' ws' f j ≡ Some v
  pub others : (k : ℕ) → k ≢ j → look ds' ws' f k ≡ look ds ws f k
  pub low_directory : take f.directory ds' ≡ take f.directory ds
  pub low_written : take f.written ws' ≡ take f.written ws
  pub length_directory : length ds' ≡ length ds
  pub length_written : length ws ≤ length ws'

-- ---- their values

abbrev pub type_at : Far → ℕ → Option ValType
type_at f j = slice_get f.types (near + j)

abbrev pub values_from : List ℕ → List Written → Far → ℕ → List ValType → List Value
values_from ds ws f j [] = []
values_from ds ws f j (t ∷ ts) = unwrap_or (look ds ws f j) (default_of t) ∷ values_from ds ws f (suc j) ts

abbrev pub far_values : List ℕ → List Written → Far → List Value
far_values ds ws f = values_from ds ws f 0 (drop near f.types)

-- the locals of all frames: the near ones, and among them the far ones, the last of which stand first in the list
abbrev pub all_of : List Far → List Value → List ℕ → List Written → List Value
all_of [] items ds ws = items
all_of (f ∷ fs) items ds ws = all_of fs (take f.at items) (take f.directory ds) (take f.written ws) ++ (far_values ds ws f ++ drop f.at items)

-- ---- how they lie

-- where the next part of the directory begins
abbrev pub directory_end : List Far → ℕ
directory_end [] = 0
directory_end (f ∷ fs) = f.directory + count f

-- they lie over the others, below so many items, and in directory and writings of such lengths
pub record Lies (f : Far) (fs : List Far) (n d w : ℕ) : Type 0 where
  pub at : f.at ≤ n
  pub directory : f.directory + count f ≤ d
  pub written : f.written ≤ w
  pub first : f.first ≡ f.at + total fs
  pub end : f.end ≡ f.first + count f

abbrev pub IsStacked : List Far → (n d w : ℕ) → Type 0
IsStacked [] n d w = Unit {0}
IsStacked (f ∷ fs) n d w = Lies f fs n d w × IsStacked fs f.at f.directory f.written

-- the last ones begin at or before this number of all locals
abbrev pub HaveBegun : List Far → ℕ → Type 0
HaveBegun [] p = Unit {0}
HaveBegun (f ∷ fs) p = f.first ≤ p

-- ---- the near locals of the current frame

-- they begin at this place of all near ones, over all far ones, where so many locals lie below
abbrev pub IsOver : List Far → (start base : ℕ) → Type 0
IsOver [] start base = base ≡ start
IsOver (f ∷ fs) start base = (f.at ≤ start) × (base ≡ start + total (f ∷ fs))

-- the same where all of them, so many, lie below the last far ones, which are the frame's own
abbrev pub IsUnderLast : List Far → (items start base : ℕ) → Type 0
IsUnderLast [] n start base = ⊥
IsUnderLast (f ∷ fs) n start base = (n ≤ f.at) × IsOver fs start base

-- The near locals from this place on are the first of the current frame; there are none of them where it's behind all.
abbrev pub AreFirst : List Far → (items start base : ℕ) → Type 0
AreFirst fs n start base = (n ≤ start) ⊎ (IsOver fs start base ⊎ IsUnderLast fs n start base)

-- the frame's far ones were put on top of the others
pub record IsPushed (far far' : List Far) (f : Far) (at first written : ℕ) (types : List ValType) : Type 0 where
  pub pushed : far' ≡ far ++ f ∷ []
  pub lies_at : f.at ≡ at
  pub lies_first : f.first ≡ first
  pub ends : f.end ≡ first + count f
  pub in_directory : f.directory ≡ directory_end (reverse far)
  pub in_written : f.written ≡ written
  pub of_types : f.types ≡ types
