-- Reading with tests: of a value and the text of its item, of these items, of the longest run of items.
use Rattle.std.specs.Prelude.{◌≡◌, ◌-◌, ℕ, suc, Bool, true, false, ◌&&◌, List, [], ◌∷◌, ◌++◌, length, take, drop, nat_eq, nat_lt, Ok, Err, if◌then◌else◌}
use Rattle.std.specs.List.{starts_with}
use Rattle.ms_bytes.specs.Reading.{◌>>=◌, Reader}

-- the text of an item, in front of what follows it
abbrev pub text_before : {E : Type 0} → List E → List E → List E
text_before s t = take (length s - length t) s

abbrev pub only_at : {E F A : Type 0} → (A → List E → Bool) → (ℕ → List E → F) → Reader E F A → Reader E F A
only_at test fault f end s = f end s >>= λ x. if test x.0 (text_before s x.1) then Ok x else Err (fault end s)

abbrev pub from_text_at : {E F A B : Type 0} → (List E → B) → Reader E F A → Reader E F B
from_text_at g f end s = f end s >>= λ x. Ok (g (text_before s x.1), x.1)

abbrev pub check_at : {E F : Type 0} → (ℕ → List E → F) → Bool → Reader E F (Unit {0})
check_at fault b end s = if b then Ok (tt, s) else Err (fault end s)

-- these bytes
abbrev pub marks_at : {F : Type 0} → (ℕ → List ℕ → F) → List ℕ → Reader ℕ F (Unit {0})
marks_at fault marks end s = if starts_with nat_eq s marks then Ok (tt, drop (length marks) s) else Err (fault end s)

-- so many items, of which a missing one is a fault where the text ends
abbrev pub front_at : {E F : Type 0} → (ℕ → List E → F) → ℕ → Reader E F (List E)
front_at fault n end s = if nat_lt (length s) n then Err (fault end []) else Ok (take n s, drop n s)

-- ---- the longest run of items that pass a test

abbrev pub run_len : {E : Type 0} → (E → Bool) → List E → ℕ
run_len test [] = 0
run_len test (x ∷ xs) = if test x then suc (run_len test xs) else 0

abbrev pub all_pass : {E : Type 0} → (E → Bool) → List E → Bool
all_pass test [] = true
all_pass test (x ∷ xs) = test x && all_pass test xs

abbrev pub next_passes : {E : Type 0} → (E → Bool) → List E → Bool
next_passes test [] = false
next_passes test (x ∷ xs) = test x

abbrev pub IsRun : {E : Type 0} → (E → Bool) → List E → List E → List E → Type 0
IsRun test s x t = (s ≡ x ++ t) × (all_pass test x ≡ true) × (next_passes test t ≡ false)
