-- The sequences that still grow while a body is built: its own one and that of each open block. No instruction names one.
use Rattle.std.proofs.Common.{◌≡◌, ℕ, zero, suc, ◌<◌, Bool, true, false, List, [], ◌∷◌, ◌++◌, length, refl, arith}
use Rattle.std.specs.Prelude.{◌≢◌, Option}
use Rattle.ms_types.specs.declared.types.ValType.{ValType}
use Rattle.ms_module.specs.declared.instr.Instr.{Instr}
use Rattle.ms_module.specs.declared.builder.Opening.{Opening}
use Rattle.ms_module.specs.declared.builder.Opening.TheVariants.{Block, If, Loop}
use Rattle.ms_module.specs.declared.builder.Arm.{Arm}
use Rattle.ms_module.specs.declared.builder.Arm.TheVariants.{First, Second, AfterElse}
use Rattle.ms_module.specs.declared.builder.Open.{Open}
use Rattle.ms_module.specs.Building.{Builds, State, begins, begun_in, closed_in, closes, current, in_second, is_after_else, opens, placed_in, places, started, after_else_blocks, elses, whole}
use Rattle.ms_module.specs.refinement.Nesting.{OfAllNamed, OfNamed}
use Rattle.ms_module.specs.Numbered.{sequence_at}
use Rattle.ms_module.proofs.Order.{ArmFalls, Fall, InOrder, in_order, at_more, at_put, longer}
use Rattle.ms_flat.proofs.Sequences.{all_named_within, plain_names_none}
use Rattle.ms_module.proofs.Nesting.{of_all_named}

-- a number is none of theirs
abbrev pub Apart : ℕ → List Open → Type 0
Apart n [] = n ≢ 0
Apart n (o ∷ os) = (n ≢ o.seq) × Apart n os

-- their numbers, and those of the arms before an `else`, are below n
abbrev pub ArmBelow : ℕ → Arm → Type 0
ArmBelow n (First opening) = Unit {0}
ArmBelow n AfterElse = Unit {0}
ArmBelow n (Second before) = before < n

abbrev pub Below : ℕ → List Open → Type 0
Below n [] = 0 < n
Below n (o ∷ os) = (o.seq < n) × ArmBelow n o.arm × Below n os

arm_below : (arm : Arm) (around seq m n : ℕ) → ArmFalls arm around seq m → seq < n → (around < n) × ArmBelow n arm
arm_below (First opening) around seq m n h lt = (omega (arith, h.0), tt)
arm_below AfterElse around seq m n h lt = (omega (arith, h.0), tt)
arm_below (Second before) around seq m n h lt = (omega (arith, h.0, h.1), omega (arith, h.1))

pub below : (os : List Open) (m n : ℕ) → Fall os m → current os < n → Below n os
below [] m n h lt = lt
below (o ∷ os) m n h lt = let a = arm_below o.arm (current os) o.seq m n h.0 lt in (lt, a.1, below os m n h.1 a.0)

pub apart : (os : List Open) (n : ℕ) → Below n os → Apart n os
apart [] n h = λ e. omega arith
apart (o ∷ os) n h = ((λ e. omega (arith, h.0)), apart os n h.2)

-- the arms of the innermost block come behind what is around it
pub arm_apart : (arm : Arm) (os : List Open) (seq m : ℕ) → ArmFalls arm (current os) seq m → Fall os m → (ArmBelow seq arm) × Below seq os
arm_apart (First opening) os seq m h f = (tt, below os m seq f h.0)
arm_apart AfterElse os seq m h f = (tt, below os m seq f h.0)
arm_apart (Second before) os seq m h f = (h.1, below os m seq f (omega (arith, h.0, h.1)))

abbrev pub Kept : State → Type 0
Kept st = (k : ℕ) → OfAllNamed (λ n. Apart n st.blocks) (sequence_at st.seqs k)

pub all_last : (P : ℕ → Type 0) (is : List Instr) (i : Instr) → OfAllNamed P is → OfNamed P i → OfAllNamed P (is ++ i ∷ [])
all_last P [] i h g = (g, tt)
all_last P (j ∷ is) i h g = (h.0, all_last P is i h.1 g)

pub kept_placed : (st : State) (i : Instr) → OfNamed (λ n. Apart n st.blocks) i → Kept st → Kept (placed_in st i)
kept_placed st i names h =
    at_put (λ k is. OfAllNamed (λ n. Apart n st.blocks) is) st.seqs (current st.blocks) i h (λ is all. all_last (λ n. Apart n st.blocks) is i all names)

-- names are below the number of sequences
kept_within : (st : State) → InOrder st → Kept st → (k : ℕ) → OfAllNamed (λ n. (k < n) × (n < length st.seqs) × Apart n st.blocks) (sequence_at st.seqs k)
kept_within st order h k = all_named_within (λ n. Apart n st.blocks) (length st.seqs) k (sequence_at st.seqs k) (order.0 k) (h k)

kept_begun : (st : State) (opening : Opening) (ty : Option ValType)
    → ((k : ℕ) → OfAllNamed (λ n. (n < length st.seqs) × Apart n st.blocks) (sequence_at st.seqs k)) → Kept (begun_in st opening ty)
kept_begun st opening ty h k =
    rw (at_more st.seqs k)
    (of_all_named (λ n. (n < length st.seqs) × Apart n st.blocks) (λ n. (n ≢ length st.seqs) × Apart n st.blocks) (sequence_at st.seqs k) (λ n p. ((λ e. omega (arith, p.0)), p.1)) (h k))

second_apart : (blocks : List Open) (n m : ℕ) → n < m → Apart n blocks → Apart n (in_second m blocks)
second_apart [] n m lt h = h
second_apart (o ∷ os) n m lt h = ((λ e. omega arith), h.1)

started_within : (st : State) → InOrder st → Kept st → (k : ℕ) → OfAllNamed (λ n. (n < length (started st).seqs) × Apart n (started st).blocks) (sequence_at (started st).seqs k)
started_within st order h = go (is_after_else st.blocks) refl where
  go : (b : Bool) → is_after_else st.blocks ≡ b → (k : ℕ) → OfAllNamed (λ n. (n < length (started st).seqs) × Apart n (started st).blocks) (sequence_at (started st).seqs k)
  go false e =
      rw e (λ k. of_all_named (λ n. (k < n) × (n < length st.seqs) × Apart n st.blocks) (λ n. (n < length st.seqs) × Apart n st.blocks) (sequence_at st.seqs k) (λ n p. (p.1, p.2)) (kept_within st order h k))
  go true e =
      rw e (λ k. rw (at_more st.seqs k)
      (of_all_named (λ n. (k < n) × (n < length st.seqs) × Apart n st.blocks) (λ n. (n < length (st.seqs ++ [] ∷ [])) × Apart n (in_second (length st.seqs) st.blocks)) (sequence_at st.seqs k)
      (λ n p. (omega (arith, p.1, longer st.seqs), second_apart st.blocks n (length st.seqs) p.1 p.2)) (kept_within st order h k)))

pub kept_started : (st : State) → InOrder st → Kept st → Kept (started st)
kept_started st order h k =
    of_all_named (λ n. (n < length (started st).seqs) × Apart n (started st).blocks) (λ n. Apart n (started st).blocks) (sequence_at (started st).seqs k) (λ n p. p.1) (started_within st order h k)

-- the names of a block that ends
pub whole_apart : (arm : Arm) (ty : Option ValType) (os : List Open) (seq m : ℕ) → ArmFalls arm (current os) seq m → Fall os m → OfNamed (λ n. Apart n os) (whole arm ty seq)
whole_apart (First Block) ty os seq m h f = apart os seq (below os m seq f h.0)
whole_apart (First Loop) ty os seq m h f = apart os seq (below os m seq f h.0)
whole_apart (First If) ty os seq m h f = apart os seq (below os m seq f h.0)
whole_apart AfterElse ty os seq m h f = apart os seq (below os m seq f h.0)
whole_apart (Second before) ty os seq m h f = (apart os before (below os m before f h.0), apart os seq (below os m seq f (omega (arith, h.0, h.1))))

kept_closed : (blocks : List Open) (ss : List (List Instr)) → InOrder (record { blocks = blocks; seqs = ss }) → Kept (record { blocks = blocks; seqs = ss }) → Kept (closed_in blocks ss)
kept_closed [] ss order h = h
kept_closed (o ∷ os) ss order h =
    kept_placed (record { blocks = os; seqs = ss }) (whole o.arm o.ty o.seq) (whole_apart o.arm o.ty os o.seq (length ss) order.1.0 order.1.1)
    (λ k. of_all_named (λ n. Apart n (o ∷ os)) (λ n. Apart n os) (sequence_at ss k) (λ n p. p.1) (h k))

after_else_apart : (blocks : List Open) (n : ℕ) → Apart n blocks → Apart n (after_else_blocks blocks)
after_else_apart [] n h = h
after_else_apart (o ∷ os) n h = h

first_kept : (k : ℕ) → OfAllNamed (λ n. n ≢ 0) (sequence_at ([] ∷ []) k)
first_kept zero = tt
first_kept (suc k) = tt

pub kept : {st : State} → Builds st → Kept st
kept begins = first_kept
kept (places {st = st} i plain b) = kept_placed (started st) i (plain_names_none (λ n. Apart n (started st).blocks) i plain) (kept_started st (in_order b) (kept b))
kept (opens {st = st} opening ty b) = kept_begun (started st) opening ty (started_within st (in_order b) (kept b))
kept (elses {st = st} may b) = λ k. of_all_named (λ n. Apart n st.blocks) (λ n. Apart n (after_else_blocks st.blocks)) (sequence_at st.seqs k) (λ n p. after_else_apart st.blocks n p) (kept b k)
kept (closes {st = st} some b) = kept_closed st.blocks st.seqs (in_order b) (kept b)
