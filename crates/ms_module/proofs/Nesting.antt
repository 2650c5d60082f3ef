-- A body has a depth, and what nests within one nests within each greater one.
use Rattle.std.proofs.Common.{ℕ, zero, suc, ◌+◌, ◌<◌, ◌≤◌, List, [], ◌∷◌, length, arith}
use Rattle.std.specs.Prelude.{Some, None}
use Rattle.ms_module.specs.declared.instr.Instr.{Instr}
use Rattle.ms_module.specs.declared.instr.Instr.TheVariants.{Block, Loop, If}
use Rattle.ms_module.specs.Building.{IsNumbered}
use Rattle.ms_module.specs.refinement.Nesting.{NestsWithin, OfAllNamed, OfNamed}
use Rattle.ms_module.specs.Numbered.{AllNameWithin, NamesWithin, sequence_at}
use Rattle.ms_module.proofs.Order.{names_later}

pub of_named : (P Q : ℕ → Type 0) (i : Instr) → ((n : ℕ) → P n → Q n) → OfNamed P i → OfNamed Q i
of_named P Q (Block ty body) f h = f body h
of_named P Q (Loop ty body) f h = f body h
of_named P Q (If ty first None) f h = f first h
of_named P Q (If ty first (Some second)) f h = (f first h.0, f second h.1)
of_named P Q _ f h = tt

pub of_all_named : (P Q : ℕ → Type 0) (is : List Instr) → ((n : ℕ) → P n → Q n) → OfAllNamed P is → OfAllNamed Q is
of_all_named P Q [] f h = tt
of_all_named P Q (i ∷ is) f h = (of_named P Q i f h.0, of_all_named P Q is f h.1)

pub deeper : (d e : ℕ) (ss : List (List Instr)) (k : ℕ) → d ≤ e → NestsWithin d ss k → NestsWithin e ss k
deeper zero zero ss k le h = h
deeper zero (suc e) ss k le h = of_all_named (λ n. ⊥) (λ n. NestsWithin e ss n) (sequence_at ss k) (λ n none. absurd none) h
deeper (suc d) zero ss k le h = absurd (omega arith)
deeper (suc d) (suc e) ss k le h = of_all_named (λ n. NestsWithin d ss n) (λ n. NestsWithin e ss n) (sequence_at ss k) (λ n g. deeper d e ss n (omega arith) g) h

named_later : (P : ℕ → Type 0) (n k : ℕ) (i : Instr) → NamesWithin n k i → ((j : ℕ) → k < j → j < n → P j) → OfNamed P i
named_later P n k (Block ty body) h f = f body h.0 h.1
named_later P n k (Loop ty body) h f = f body h.0 h.1
named_later P n k (If ty first None) h f = f first h.0 h.1
named_later P n k (If ty first (Some second)) h f = (f first h.0 h.1, f second (omega (arith, h.0, h.2.0)) h.2.1)
named_later P n k _ h f = tt

all_named_later : (P : ℕ → Type 0) (n k : ℕ) (is : List Instr) → AllNameWithin n k is → ((j : ℕ) → k < j → j < n → P j) → OfAllNamed P is
all_named_later P n k [] h f = tt
all_named_later P n k (i ∷ is) h f = (named_later P n k i h.0 f, all_named_later P n k is h.1 f)

from_number : (ss : List (List Instr)) → IsNumbered ss → (d k : ℕ) → length ss ≤ k + suc d → NestsWithin d ss k
from_number ss h zero k le = all_named_later (λ n. ⊥) (length ss) k (sequence_at ss k) (names_later ss h k) (λ j lt within. omega arith)
from_number ss h (suc d) k le =
    all_named_later (λ n. NestsWithin d ss n) (length ss) k (sequence_at ss k) (names_later ss h k) (λ j lt within. from_number ss h d j (omega arith))

pub nests : (d : ℕ) (ss : List (List Instr)) → IsNumbered ss → length ss ≤ suc d → NestsWithin d ss 0
nests d ss h le = from_number ss h d 0 (omega arith)
