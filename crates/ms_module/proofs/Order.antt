-- The sequences that an instruction names begin after its own.
use Rattle.std.proofs.Common.{◌≡◌, ℕ, zero, suc, ◌<◌, ◌≤◌, Bool, true, false, List, [], ◌∷◌, ◌++◌, length, get_or, refl, sym, ap, subst, arith}
use Rattle.std.specs.Prelude.{Option, Some, None}
use Rattle.std.proofs.lemmas.List.{length-append}
use Rattle.ms_module.specs.declared.instr.Instr.{Instr}
use Rattle.ms_module.specs.declared.instr.Instr.TheVariants as instr
use Rattle.ms_module.specs.declared.builder.Opening.{Opening}
use Rattle.ms_module.specs.declared.builder.Opening.TheVariants.{Block, If, Loop}
use Rattle.ms_module.specs.declared.builder.Arm.{Arm}
use Rattle.ms_module.specs.declared.builder.Arm.TheVariants.{First, Second, AfterElse}
use Rattle.ms_module.specs.declared.builder.Open.{Open}
use Rattle.ms_types.specs.declared.types.ValType.{ValType}
use Rattle.ms_module.specs.Building.{Builds, IsNumbered, State, begins, begun_in, closed_in, closes, current, in_second, is_after_else, is_after_else_in, may_else, may_else_in, opens, placed_in, places, put, started, after_else_blocks, elses, whole}
use Rattle.ms_module.specs.Numbered.{AllNameWithin, IsPlain, NamesWithin, sequence_at}

-- ---- sequences that grow

pub length-put : (ss : List (List Instr)) (k : ℕ) (i : Instr) → length (put ss k i) ≡ length ss
length-put [] k i = refl
length-put (s ∷ ss) zero i = refl
length-put (s ∷ ss) (suc k) i = ap suc (length-put ss k i)

-- what holds of each sequence holds still, if it does of the one that grows
pub at_put : (P : ℕ → List Instr → Type 0) (ss : List (List Instr)) (c : ℕ) (i : Instr)
    → ((k : ℕ) → P k (sequence_at ss k)) → ((is : List Instr) → P c is → P c (is ++ i ∷ [])) → (k : ℕ) → P k (sequence_at (put ss c i) k)
at_put P [] c i h g k = h k
at_put P (s ∷ ss) zero i h g zero = g s (h 0)
at_put P (s ∷ ss) zero i h g (suc k) = h (suc k)
at_put P (s ∷ ss) (suc c) i h g zero = h 0
at_put P (s ∷ ss) (suc c) i h g (suc k) = at_put (λ n. P (suc n)) ss c i (λ j. h (suc j)) g k

pub at_more : (ss : List (List Instr)) (k : ℕ) → sequence_at (ss ++ [] ∷ []) k ≡ sequence_at ss k
at_more [] zero = refl
at_more [] (suc k) = refl
at_more (s ∷ ss) zero = refl
at_more (s ∷ ss) (suc k) = at_more ss k

names_more : (n m k : ℕ) (i : Instr) → n ≤ m → NamesWithin n k i → NamesWithin m k i
names_more n m k (instr.Block ty body) le h = (h.0, omega (arith, h.1))
names_more n m k (instr.Loop ty body) le h = (h.0, omega (arith, h.1))
names_more n m k (instr.If ty then_ None) le h = (h.0, omega (arith, h.1), tt)
names_more n m k (instr.If ty then_ (Some e)) le h = (h.0, omega (arith, h.1), (h.2.0, omega (arith, h.2.1)))
names_more n m k _ le h = tt

all_more : (n m k : ℕ) (is : List Instr) → n ≤ m → AllNameWithin n k is → AllNameWithin m k is
all_more n m k [] le h = tt
all_more n m k (i ∷ is) le h = (names_more n m k i le h.0, all_more n m k is le h.1)

all_last : (n k : ℕ) (is : List Instr) (i : Instr) → AllNameWithin n k is → NamesWithin n k i → AllNameWithin n k (is ++ i ∷ [])
all_last n k [] i h g = (g, tt)
all_last n k (j ∷ is) i h g = (h.0, all_last n k is i h.1 g)

-- ---- the numbers of open blocks fall outwards, within n sequences

abbrev pub ArmFalls : Arm → ℕ → ℕ → ℕ → Type 0
ArmFalls (First opening) around seq n = (around < seq) × (seq < n)
ArmFalls AfterElse around seq n = (around < seq) × (seq < n)
ArmFalls (Second before) around seq n = (around < before) × (before < seq) × (seq < n)

abbrev pub Fall : List Open → ℕ → Type 0
Fall [] n = 0 < n
Fall (o ∷ os) n = ArmFalls o.arm (current os) o.seq n × Fall os n

arm_more : (arm : Arm) (around seq n m : ℕ) → n ≤ m → ArmFalls arm around seq n → ArmFalls arm around seq m
arm_more (First opening) around seq n m le h = (h.0, omega (arith, h.1))
arm_more AfterElse around seq n m le h = (h.0, omega (arith, h.1))
arm_more (Second before) around seq n m le h = (h.0, h.1, omega (arith, h.2))

fall_more : (os : List Open) (n m : ℕ) → n ≤ m → Fall os n → Fall os m
fall_more [] n m le h = omega (arith, h)
fall_more (o ∷ os) n m le h = (arm_more o.arm (current os) o.seq n m le h.0, fall_more os n m le h.1)

arm_within : (arm : Arm) (around seq n : ℕ) → ArmFalls arm around seq n → seq < n
arm_within (First opening) around seq n h = h.1
arm_within AfterElse around seq n h = h.1
arm_within (Second before) around seq n h = h.2

pub current_within : (os : List Open) (n : ℕ) → Fall os n → current os < n
current_within [] n h = h
current_within (o ∷ os) n h = arm_within o.arm (current os) o.seq n h.0

-- what stands of a state that is built
abbrev pub InOrder : State → Type 0
InOrder st = ((k : ℕ) → AllNameWithin (length st.seqs) k (sequence_at st.seqs k)) × Fall st.blocks (length st.seqs)

-- ---- each step keeps it

pub longer : (ss : List (List Instr)) → length (ss ++ [] ∷ []) ≡ suc (length ss)
longer ss = omega (arith, length-append ss ([] ∷ []))

more_in_order : (ss : List (List Instr)) → ((k : ℕ) → AllNameWithin (length ss) k (sequence_at ss k)) → (k : ℕ) → AllNameWithin (length (ss ++ [] ∷ [])) k (sequence_at (ss ++ [] ∷ []) k)
more_in_order ss h k = rw (at_more ss k) (all_more (length ss) (length (ss ++ [] ∷ [])) k (sequence_at ss k) (omega (arith, longer ss)) (h k))

placed_in-in_order : (st : State) (i : Instr) → NamesWithin (length st.seqs) (current st.blocks) i → InOrder st → InOrder (placed_in st i)
placed_in-in_order st i names h =
    let c = current st.blocks in
    let n = length st.seqs in
    subst (λ m. ((k : ℕ) → AllNameWithin m k (sequence_at (put st.seqs c i) k)) × Fall st.blocks m) (sym (length-put st.seqs c i))
    (at_put (AllNameWithin n) st.seqs c i h.0 (λ is all. all_last n c is i all names), h.1)

begun_in-in_order : (st : State) (opening : Opening) (ty : Option ValType) → InOrder st → InOrder (begun_in st opening ty)
begun_in-in_order st opening ty h =
    let l = longer st.seqs in
    let c = current_within st.blocks (length st.seqs) h.1 in
    (more_in_order st.seqs h.0, ((c, omega (arith, l)), fall_more st.blocks (length st.seqs) (length (st.seqs ++ [] ∷ [])) (omega (arith, l)) h.1))

second_falls : (arm : Arm) (o : Open) (os : List Open) (n m : ℕ) → o.arm ≡ arm → is_after_else_in arm ≡ true → m ≡ suc n → Fall (o ∷ os) n → Fall (in_second n (o ∷ os)) m
second_falls (First opening) o os n m e is l h = absurd cc
second_falls (Second before) o os n m e is l h = absurd cc
second_falls AfterElse o os n m e is l h =
    let f = subst (λ (a : Arm). ArmFalls a (current os) o.seq n) e h.0 in
    ((f.0, f.1, omega arith), fall_more os n m (omega arith) h.1)

started_falls : (blocks : List Open) (n m : ℕ) → is_after_else blocks ≡ true → m ≡ suc n → Fall blocks n → Fall (in_second n blocks) m
started_falls [] n m is l h = absurd cc
started_falls (o ∷ os) n m is l h = second_falls o.arm o os n m refl is l h

started-in_order : (st : State) → InOrder st → InOrder (started st)
started-in_order st h = go (is_after_else st.blocks) refl where
  go : (b : Bool) → is_after_else st.blocks ≡ b → InOrder (started st)
  go false e = rw e h
  go true e = rw e (more_in_order st.seqs h.0, started_falls st.blocks (length st.seqs) (length (st.seqs ++ [] ∷ [])) e (longer st.seqs) h.1)

plain_names : (n k : ℕ) (i : Instr) → IsPlain i → NamesWithin n k i
plain_names n k (instr.Block ty body) h = absurd h
plain_names n k (instr.Loop ty body) h = absurd h
plain_names n k (instr.If ty then_ other) h = absurd h
plain_names n k _ h = tt

after_else_falls : (arm : Arm) (around seq n : ℕ) → may_else_in arm ≡ true → ArmFalls arm around seq n → ArmFalls AfterElse around seq n
after_else_falls (First opening) around seq n e h = h
after_else_falls AfterElse around seq n e h = h
after_else_falls (Second before) around seq n e h = absurd cc

after_else-in_order : (blocks : List Open) (n : ℕ) → may_else blocks ≡ true → Fall blocks n → Fall (after_else_blocks blocks) n
after_else-in_order [] n e h = absurd cc
after_else-in_order (o ∷ os) n e h = (after_else_falls o.arm (current os) o.seq n e h.0, h.1)

whole_names : (arm : Arm) (ty : Option ValType) (around seq n : ℕ) → ArmFalls arm around seq n → NamesWithin n around (whole arm ty seq)
whole_names (First Block) ty around seq n h = h
whole_names (First Loop) ty around seq n h = h
whole_names (First If) ty around seq n h = (h.0, h.1, tt)
whole_names AfterElse ty around seq n h = (h.0, h.1, tt)
whole_names (Second before) ty around seq n h = (h.0, omega (arith, h.1, h.2), (h.1, h.2))

closed_in-in_order : (blocks : List Open) (ss : List (List Instr)) → InOrder (record { blocks = blocks; seqs = ss }) → InOrder (closed_in blocks ss)
closed_in-in_order [] ss h = h
closed_in-in_order (o ∷ os) ss h =
    placed_in-in_order (record { blocks = os; seqs = ss }) (whole o.arm o.ty o.seq) (whole_names o.arm o.ty (current os) o.seq (length ss) h.1.0) (h.0, h.1.1)

first_names : (k : ℕ) → AllNameWithin 1 k (sequence_at ([] ∷ []) k)
first_names zero = tt
first_names (suc k) = tt

pub in_order : {st : State} → Builds st → InOrder st
in_order begins = (first_names, omega arith)
in_order (places {st = st} i plain b) =
    placed_in-in_order (started st) i (plain_names (length (started st).seqs) (current (started st).blocks) i plain) (started-in_order st (in_order b))
in_order (opens {st = st} opening ty b) = begun_in-in_order (started st) opening ty (started-in_order st (in_order b))
in_order (elses {st = st} may b) = let h = in_order b in (h.0, after_else-in_order st.blocks (length st.seqs) may h.1)
in_order (closes {st = st} some b) = closed_in-in_order st.blocks st.seqs (in_order b)

-- ---- bodies

pub names_later : (ss : List (List Instr)) → IsNumbered ss → (s : ℕ) → AllNameWithin (length ss) s (sequence_at ss s)
names_later ss h s = (in_order h).0 s

-- a body has its own sequence
pub some_sequence : (ss : List (List Instr)) → IsNumbered ss → 0 < length ss
some_sequence ss h = (in_order h).1

pub sequence_is : (ss : List (List Instr)) (s : ℕ) (is : List Instr) → s < length ss → is ≡ get_or ss s is → is ≡ sequence_at ss s
sequence_is [] s is lt e = absurd (omega arith)
sequence_is (q ∷ ss) zero is lt e = e
sequence_is (q ∷ ss) (suc s) is lt e = sequence_is ss s is (omega arith) e
