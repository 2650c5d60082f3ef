-- The items of a sequence by those of the sequences that it names.
use Rattle.std.proofs.Common.{◌≡◌, ℕ, zero, suc, ◌+◌, ◌<◌, ◌≤◌, List, [], ◌∷◌, ◌++◌, length, refl, ap, ◌∙◌, arith}
use Rattle.std.specs.Prelude.{◌≢◌, Some, None}
use Rattle.std.specs.List.{flat_map}
use Rattle.ms_module.specs.declared.instr.Instr.{Instr}
use Rattle.ms_module.specs.declared.instr.Instr.TheVariants.{Block, Loop, If}
use Rattle.ms_module.specs.Building.{IsNumbered, put}
use Rattle.ms_module.specs.refinement.Nesting.{OfAllNamed, OfNamed}
use Rattle.ms_module.specs.Numbered.{AllNameWithin, IsPlain, NamesWithin, sequence_at}
use Rattle.ms_module.proofs.Order.{names_later, at_more}
use Rattle.ms_flat.specs.Flat.{Item, items_of, items_within, sequence_items}
use Rattle.ms_module.proofs.Nesting.{of_all_named}

-- ---- what holds of named sequences

pub plain_names_none : (P : ℕ → Type 0) (i : Instr) → IsPlain i → OfNamed P i
plain_names_none P (Block ty body) h = absurd h
plain_names_none P (Loop ty body) h = absurd h
plain_names_none P (If ty first second) h = absurd h
plain_names_none P _ h = tt

named_within : (P : ℕ → Type 0) (n k : ℕ) (i : Instr) → NamesWithin n k i → OfNamed P i → OfNamed (λ j. (k < j) × (j < n) × P j) i
named_within P n k (Block ty body) h g = (h.0, h.1, g)
named_within P n k (Loop ty body) h g = (h.0, h.1, g)
named_within P n k (If ty first None) h g = (h.0, h.1, g)
named_within P n k (If ty first (Some second)) h g = ((h.0, h.1, g.0), (omega (arith, h.0, h.2.0), h.2.1, g.1))
named_within P n k _ h g = tt

pub all_named_within : (P : ℕ → Type 0) (n k : ℕ) (is : List Instr) → AllNameWithin n k is → OfAllNamed P is → OfAllNamed (λ j. (k < j) × (j < n) × P j) is
all_named_within P n k [] h g = tt
all_named_within P n k (i ∷ is) h g = (named_within P n k i h.0 g.0, all_named_within P n k is h.1 g.1)

trivial : (i : Instr) → OfNamed (λ n. Unit {0}) i
trivial (Block ty body) = tt
trivial (Loop ty body) = tt
trivial (If ty first None) = tt
trivial (If ty first (Some second)) = (tt, tt)
trivial _ = tt

pub all_trivial : (is : List Instr) → OfAllNamed (λ n. Unit {0}) is
all_trivial [] = tt
all_trivial (i ∷ is) = (trivial i, all_trivial is)

-- ---- items of the same

pub same_items : (F G : ℕ → List Item) (i : Instr) → OfNamed (λ n. F n ≡ G n) i → items_of F i ≡ items_of G i
same_items F G (Block ty body) h = rw h refl
same_items F G (Loop ty body) h = rw h refl
same_items F G (If ty first None) h = rw h refl
same_items F G (If ty first (Some second)) h = rw (h.0, h.1) refl
same_items F G _ h = refl

pub all_same : (F G : ℕ → List Item) (is : List Instr) → OfAllNamed (λ n. F n ≡ G n) is → flat_map (items_of F) is ≡ flat_map (items_of G) is
all_same F G [] h = refl
all_same F G (i ∷ is) h = rw (same_items F G i h.0, all_same F G is h.1) refl

-- ---- each sequence names later ones

abbrev pub Later : List (List Instr) → Type 0
Later ss = (k : ℕ) → AllNameWithin (length ss) k (sequence_at ss k)

pub past_end : (ss : List (List Instr)) (k : ℕ) → length ss ≤ k → sequence_at ss k ≡ []
past_end [] k le = refl
past_end (s ∷ ss) zero le = absurd (omega arith)
past_end (s ∷ ss) (suc k) le = past_end ss k (omega arith)

-- one more level makes no difference where there are enough
stable : (ss : List (List Instr)) → Later ss → (d k : ℕ) → length ss ≤ d + k → items_within d ss k ≡ items_within (suc d) ss k
unfolding items_within
stable ss later zero k le = rw (past_end ss k (omega arith)) refl
stable ss later (suc d) k le =
    all_same (items_within d ss) (items_within (suc d) ss) (sequence_at ss k)
    (of_all_named (λ j. (k < j) × (j < length ss) × Unit {0}) (λ j. items_within d ss j ≡ items_within (suc d) ss j) (sequence_at ss k) (λ j h. stable ss later d j (omega (arith, h.0)))
    (all_named_within (λ n. Unit {0}) (length ss) k (sequence_at ss k) (later k) (all_trivial (sequence_at ss k))))

-- what the items of a sequence are, with as many levels as there are sequences, or more
pub within_is : (ss : List (List Instr)) → Later ss → (d k : ℕ) → length ss ≤ d → items_within d ss k ≡ flat_map (items_of (items_within d ss)) (sequence_at ss k)
unfolding items_within
within_is ss later d k le = stable ss later d k (omega arith)

pub sequence_items-is : (ss : List (List Instr)) → IsNumbered ss → (k : ℕ) → sequence_items ss k ≡ flat_map (items_of (sequence_items ss)) (sequence_at ss k)
unfolding sequence_items
sequence_items-is ss h k = within_is ss (names_later ss h) (length ss) k (omega arith)

-- ---- sequences that grow

pub put_same : (ss : List (List Instr)) (k : ℕ) (i : Instr) → k < length ss → sequence_at (put ss k i) k ≡ sequence_at ss k ++ i ∷ []
put_same [] k i lt = absurd (omega arith)
put_same (s ∷ ss) zero i lt = refl
put_same (s ∷ ss) (suc k) i lt = put_same ss k i (omega arith)

pub put_other : (ss : List (List Instr)) (c k : ℕ) (i : Instr) → k ≢ c → sequence_at (put ss c i) k ≡ sequence_at ss k
put_other [] c k i ne = refl
put_other (s ∷ ss) zero zero i ne = absurd (ne refl)
put_other (s ∷ ss) zero (suc k) i ne = refl
put_other (s ∷ ss) (suc c) zero i ne = refl
put_other (s ∷ ss) (suc c) (suc k) i ne = put_other ss c k i (λ e. ne (ap suc e))

-- ---- items where sequences grow

-- a further sequence with nothing in it
pub within-more : (ss : List (List Instr)) (d k : ℕ) → items_within d (ss ++ [] ∷ []) k ≡ items_within d ss k
unfolding items_within
within-more ss zero k = refl
within-more ss (suc d) k =
    ap (flat_map (items_of (items_within d (ss ++ [] ∷ [])))) (at_more ss k)
    ∙ all_same (items_within d (ss ++ [] ∷ [])) (items_within d ss) (sequence_at ss k)
    (of_all_named (λ n. Unit {0}) (λ n. items_within d (ss ++ [] ∷ []) n ≡ items_within d ss n) (sequence_at ss k) (λ n t. within-more ss d n) (all_trivial (sequence_at ss k)))

-- sequences of numbers that are the same, and name such
pub within-agrees : (P : ℕ → Type 0) (ss ts : List (List Instr)) → ((k : ℕ) → P k → (sequence_at ss k ≡ sequence_at ts k) × OfAllNamed P (sequence_at ss k))
    → (d k : ℕ) → P k → items_within d ss k ≡ items_within d ts k
unfolding items_within
within-agrees P ss ts h zero k p = refl
within-agrees P ss ts h (suc d) k p =
    let q = h k p in
    all_same (items_within d ss) (items_within d ts) (sequence_at ss k)
    (of_all_named P (λ n. items_within d ss n ≡ items_within d ts n) (sequence_at ss k) (λ n r. within-agrees P ss ts h d n r) q.1)
    ∙ ap (flat_map (items_of (items_within d ts))) q.0
