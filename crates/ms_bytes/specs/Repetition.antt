-- Items one after the other: so many, one for each of a list, so many steps, or steps as long as there is another one.
use Rattle.std.specs.Prelude.{ℕ, zero, suc, Bool, List, [], ◌∷◌, length}
use Rattle.std.proofs.Common.{arith}
use Rattle.ms_bytes.specs.Format.{Format}
use Rattle.ms_bytes.specs.Parts.{pure, seq}
use Rattle.ms_bytes.specs.Runs.{Runs, TakesItem, run_at}
use Rattle.ms_bytes.specs.RunLaws.{run_again, run_fits, run_takes}

-- so many items
unfoldable pub times : {E F A : Type 0} → ℕ → Format E F A → Format E F (List A)
times zero f = pure []
times (suc n) f = seq f (λ x. seq (times n f) (λ xs. pure (x ∷ xs)))

-- an item for each of a list, which says what the item is
unfoldable pub each : {E F K A : Type 0} → (K → Format E F A) → List K → Format E F (List A)
each f [] = pure []
each f (k ∷ ks) = seq (f k) (λ x. seq (each f ks) (λ xs. pure (x ∷ xs)))

-- so many steps, each from the state that the one before left
unfoldable pub repeat : {E F S : Type 0} → (S → Format E F S) → ℕ → S → Format E F S
repeat step zero st = pure st
repeat step (suc n) st = seq (step st) (λ next. repeat step n next)

-- the steps from a state on, as long as there is another one
abbrev pub run : {E F S : Type 0} → (ℕ → List E → F) → (going : S → List E → Bool) → (step : S → Format E F S) → TakesItem going step → S → Format E F S
run fault going step shorter st = record {
  read = λ end s. run_at fault going step (length s) st end s;
  spelled = λ s x t. Runs going step st s x t;
  takes = λ end s x t e. run_takes fault going step (length s) st end s x t e;
  again = λ end s x t h. run_again fault going step shorter h (length s) end (omega arith);
  least = 0;
  fits = λ s x t h. run_fits fault going step h;
}
