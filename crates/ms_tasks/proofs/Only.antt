-- Entries of which one task is named alone.
use Rattle.std.proofs.Common.{◌≡◌, ◌∙◌, ◌==◌, ◌-◌, ◌+◌, ◌≤◌, ℕ, zero, suc, cond, List, [], ◌∷◌, ◌++◌, Option, Some, None, drop, length, replicate, refl, ap}
use Rattle.ms_machine.specs.Crews.{turns_from}
use Rattle.ms_tasks.specs.refinement.Rows.{IsInTurn}
use Rattle.ms_tasks.specs.Alone.{alone, by_only}
use Rattle.ms_tasks.specs.refinement.Schedules.{named}
use Rattle.ms_tasks.proofs.Turns.{row_first}

length_alone : (n absent : ℕ) (ks : List ℕ) → length (alone n absent ks) ≡ length ks
length_alone n absent [] = refl
length_alone n absent (k ∷ ks) = ap suc (length_alone n absent ks)

pub length_by_only : (o : Option ℕ) (tasks : ℕ) (ks : List ℕ) → length (by_only o tasks ks) ≡ length ks
length_by_only None tasks ks = refl
length_by_only (Some n) tasks ks = length_alone n tasks ks

alone_append : (n absent : ℕ) (xs ys : List ℕ) → alone n absent (xs ++ ys) ≡ alone n absent xs ++ alone n absent ys
alone_append n absent [] ys = refl
alone_append n absent (x ∷ xs) ys = ap (λ (ks : List ℕ). (cond (x == n) x absent) ∷ ks) (alone_append n absent xs ys)

alone_replicate : (n absent k m : ℕ) → alone n absent (replicate m k) ≡ replicate m (named (Some n) absent k)
alone_replicate n absent k zero = refl
alone_replicate n absent k (suc m) = ap (λ (ks : List ℕ). (cond (k == n) k absent) ∷ ks) (alone_replicate n absent k m)

pub by_only_row : (o : Option ℕ) (tasks m k : ℕ) (ys : List ℕ) → by_only o tasks (replicate m k ++ ys) ≡ replicate m (named o tasks k) ++ by_only o tasks ys
by_only_row None tasks m k ys = refl
by_only_row (Some n) tasks m k ys =
    alone_append n tasks (replicate m k) ys ∙ ap (λ (ks : List ℕ). ks ++ alone n tasks ys) (alone_replicate n tasks k m)

drop_alone : (n absent i : ℕ) (ks : List ℕ) → drop i (alone n absent ks) ≡ alone n absent (drop i ks)
drop_alone n absent zero ks = refl
drop_alone n absent (suc i) [] = refl
drop_alone n absent (suc i) (k ∷ ks) = drop_alone n absent i ks

pub drop_by_only : (o : Option ℕ) (tasks i : ℕ) (ks : List ℕ) → drop i (by_only o tasks ks) ≡ by_only o tasks (drop i ks)
drop_by_only None tasks i ks = refl
drop_by_only (Some n) tasks i ks = drop_alone n tasks i ks

pub none_by_only : (o : Option ℕ) (tasks : ℕ) (ks : List ℕ) → ks ≡ [] → by_only o tasks ks ≡ []
none_by_only None tasks ks is = is
none_by_only (Some n) tasks ks is = ap (alone n tasks) is

-- the first row of turns
pub row_named : (o : Option ℕ) (q n i k room row left : ℕ) → row ≤ room → row ≤ left → IsInTurn q n i k room
    → by_only o n (turns_from q n i left) ≡ replicate row (named o n k) ++ by_only o n (turns_from q n (i + row) (left - row))
row_named o q n i k room row left under within place =
    ap (by_only o n) (row_first q n i k room row left under within place) ∙ by_only_row o n row k (turns_from q n (i + row) (left - row))
