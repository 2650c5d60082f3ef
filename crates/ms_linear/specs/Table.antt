-- The entry of a table that a call goes to (WebAssembly 1.0, 4.4.5).
use Rattle.std.specs.Prelude.{◌≡◌, ◌≢◌, ◌≤◌, ℕ, Bool, true, false, ◌&&◌, if◌then◌else◌, List, [], ◌∷◌, length, slice_get, slice_set, Option, Some, None, Result, Ok, Err}
use Rattle.ms_types.specs.declared.types.ValType.{ValType}
use Rattle.ms_types.specs.declared.types.ValType.TheVariants.{I32, I64, Handle}
use Rattle.ms_types.specs.declared.types.FuncType.{FuncType}
use Rattle.ms_linear.specs.declared.table.Entry.{Entry}
use Rattle.ms_linear.specs.declared.table.FuncRef.{FuncRef}
use Rattle.ms_linear.specs.declared.table.CallTrap.{CallTrap}
use Rattle.ms_linear.specs.declared.table.CallTrap.TheVariants.{Outside, Empty, Signature}

-- its entries, and the greatest number that it may have, if one is set
pub record Table : Type 0 where
  pub entries : List (Option Entry)
  pub max : Option ℕ

-- how many entries a table may have at most
abbrev pub most_entries : ℕ
most_entries = 65536

-- with a function at an index, all other entries as before
abbrev pub with_entry : Table → ℕ → Entry → Table
with_entry t i entry = record { entries = slice_set t.entries i (Some entry); max = t.max }

-- the first of these that holds
pub data IsTarget (entries : List (Option Entry)) (i : ℕ) (sig : FuncType) : Result FuncRef CallTrap → Type 0 where
  outside : length entries ≤ i → IsTarget entries i sig (Err Outside)
  empty : slice_get entries i ≡ Some None → IsTarget entries i sig (Err Empty)
  other : (e : Entry) → slice_get entries i ≡ Some (Some e) → e.sig ≢ sig → IsTarget entries i sig (Err Signature)
  found : (e : Entry) → slice_get entries i ≡ Some (Some e) → e.sig ≡ sig → IsTarget entries i sig (Ok e.func)

-- ---- the same as a function

abbrev pub same_type : ValType → ValType → Bool
same_type I32 I32 = true
same_type I64 I64 = true
same_type Handle Handle = true
same_type _ _ = false

abbrev pub same_types : List ValType → List ValType → Bool
same_types [] [] = true
same_types (t ∷ ts) (u ∷ us) = same_type t u && same_types ts us
same_types _ _ = false

abbrev pub same_sig : FuncType → FuncType → Bool
same_sig a b = same_types a.params b.params && same_types a.results b.results

abbrev pub target_in : FuncType → Option (Option Entry) → Result FuncRef CallTrap
target_in sig None = Err Outside
target_in sig (Some None) = Err Empty
target_in sig (Some (Some e)) = if same_sig e.sig sig then Ok e.func else Err Signature

abbrev pub target_of : List (Option Entry) → ℕ → FuncType → Result FuncRef CallTrap
target_of entries i sig = target_in sig (slice_get entries i)
