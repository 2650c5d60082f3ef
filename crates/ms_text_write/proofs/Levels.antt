-- How deep blocks are in one another in a body, by how many were open while it was built: each sequence has a level, and
-- each block in it names sequences of the next level.
use Rattle.std.proofs.Common.{◌≡◌, ℕ, zero, suc, ◌+◌, ◌<◌, ◌≤◌, Bool, true, false, List, [], ◌∷◌, ◌++◌, length, refl, sym, ap, subst, arith}
use Rattle.std.specs.Prelude.{Option}
use Rattle.ms_types.specs.declared.types.ValType.{ValType}
use Rattle.ms_module.specs.declared.instr.Instr.{Instr}
use Rattle.ms_module.specs.declared.instr.Instr.TheVariants as instr
use Rattle.ms_module.specs.declared.builder.Arm.{Arm}
use Rattle.ms_module.specs.declared.builder.Arm.TheVariants.{First, Second, AfterElse}
use Rattle.ms_module.specs.declared.builder.Open.{Open}
use Rattle.ms_module.specs.declared.builder.Opening.{Opening}
use Rattle.ms_module.specs.declared.builder.Opening.TheVariants.{Block, If, Loop}
use Rattle.ms_module.specs.Building.{State, begun, begun_in, closed, closed_in, current, first_state, in_second, is_after_else, placed, placed_in, put, started, after_else, after_else_blocks, whole}
use Rattle.ms_module.specs.refinement.Nesting.{NestsWithin, OfAllNamed, OfNamed}
use Rattle.ms_module.specs.Numbered.{IsPlain, sequence_at}
use Rattle.ms_module.proofs.Nesting.{of_all_named}
use Rattle.ms_flat.proofs.Sequences.{plain_names_none}
use Rattle.ms_flat.proofs.Growing.{all_last}
use Rattle.ms_flat.proofs.Depths.{second_len, started_blocks, after_else_len}

-- ---- levels by the numbers of sequences

-- the level of number k is d
abbrev IsAt : List ℕ → ℕ → ℕ → Type 0
IsAt [] k d = ⊥
IsAt (l ∷ ls) zero d = l ≡ d
IsAt (l ∷ ls) (suc k) d = IsAt ls k d

at_more : (ls : List ℕ) (k d e : ℕ) → IsAt ls k d → IsAt (ls ++ e ∷ []) k d
at_more [] k d e h = absurd h
at_more (l ∷ ls) zero d e h = h
at_more (l ∷ ls) (suc k) d e h = at_more ls k d e h

at_last : (ls : List ℕ) (n d : ℕ) → n ≡ length ls → IsAt (ls ++ d ∷ []) n d
at_last [] zero d e = refl
at_last [] (suc n) d e = absurd (omega arith)
at_last (l ∷ ls) zero d e = absurd (omega arith)
at_last (l ∷ ls) (suc n) d e = at_last ls n d (omega arith)

abbrev AtMost : ℕ → List ℕ → Type 0
AtMost most [] = Unit {0}
AtMost most (l ∷ ls) = (l ≤ most) × AtMost most ls

most_more : (most : ℕ) (ls : List ℕ) (e : ℕ) → AtMost most ls → e ≤ most → AtMost most (ls ++ e ∷ [])
most_more most [] e h le = (le, tt)
most_more most (l ∷ ls) e h le = (h.0, most_more most ls e h.1 le)

at_most : (most : ℕ) (ls : List ℕ) (k d : ℕ) → AtMost most ls → IsAt ls k d → d ≤ most
at_most most [] k d h at = absurd at
at_most most (l ∷ ls) zero d h at = omega (arith, h.0)
at_most most (l ∷ ls) (suc k) d h at = at_most most ls k d h.1 at

-- ---- what stands in sequences, by their levels

-- the names in sequences of these levels are of the next one, by the levels of all
abbrev Levelled : List ℕ → List ℕ → List (List Instr) → Type 0
Levelled all [] [] = Unit {0}
Levelled all [] (is ∷ ss) = ⊥
Levelled all (d ∷ ds) [] = ⊥
Levelled all (d ∷ ds) (is ∷ ss) = OfAllNamed (λ n. IsAt all n (suc d)) is × Levelled all ds ss

levels_len : (all ds : List ℕ) (ss : List (List Instr)) → Levelled all ds ss → length ss ≡ length ds
levels_len all [] [] h = refl
levels_len all [] (is ∷ ss) h = absurd h
levels_len all (d ∷ ds) [] h = absurd h
levels_len all (d ∷ ds) (is ∷ ss) h = ap suc (levels_len all ds ss h.1)

levels_more : (all ds : List ℕ) (ss : List (List Instr)) (e f : ℕ) → Levelled all ds ss → Levelled (all ++ e ∷ []) (ds ++ f ∷ []) (ss ++ [] ∷ [])
levels_more all [] [] e f h = (tt, tt)
levels_more all [] (is ∷ ss) e f h = absurd h
levels_more all (d ∷ ds) [] e f h = absurd h
levels_more all (d ∷ ds) (is ∷ ss) e f h =
    (of_all_named (λ n. IsAt all n (suc d)) (λ n. IsAt (all ++ e ∷ []) n (suc d)) is (λ n at. at_more all n (suc d) e at) h.0, levels_more all ds ss e f h.1)

levels_put : (all ds : List ℕ) (ss : List (List Instr)) (k d : ℕ) (i : Instr) → IsAt ds k d → OfNamed (λ n. IsAt all n (suc d)) i → Levelled all ds ss → Levelled all ds (put ss k i)
levels_put all [] ss k d i at g h = absurd at
levels_put all (l ∷ ds) [] k d i at g h = absurd h
levels_put all (l ∷ ds) (is ∷ ss) zero d i at g h =
    (all_last (λ n. IsAt all n (suc l)) is i h.0 (subst (λ (m : ℕ). OfNamed (λ n. IsAt all n (suc m)) i) (sym at) g), h.1)
levels_put all (l ∷ ds) (is ∷ ss) (suc k) d i at g h = (h.0, levels_put all ds ss k d i at g h.1)

names_at : (all ds : List ℕ) (ss : List (List Instr)) (k d : ℕ) → IsAt ds k d → Levelled all ds ss → OfAllNamed (λ n. IsAt all n (suc d)) (sequence_at ss k)
names_at all [] ss k d at h = absurd at
names_at all (l ∷ ds) [] k d at h = absurd h
names_at all (l ∷ ds) (is ∷ ss) zero d at h = subst (λ (m : ℕ). OfAllNamed (λ n. IsAt all n (suc m)) is) at h.0
names_at all (l ∷ ds) (is ∷ ss) (suc k) d at h = names_at all ds ss k d at h.1

nests_from : (most : ℕ) (ls : List ℕ) (ss : List (List Instr)) → Levelled ls ls ss → AtMost most ls → (e k d : ℕ) → IsAt ls k d → d + e ≡ most → NestsWithin e ss k
nests_from most ls ss h m zero k d at is =
    of_all_named (λ n. IsAt ls n (suc d)) (λ n. ⊥) (sequence_at ss k) (λ n next. let le : suc d ≤ most = at_most most ls n (suc d) m next in omega arith) (names_at ls ls ss k d at h)
nests_from most ls ss h m (suc e) k d at is =
    of_all_named (λ n. IsAt ls n (suc d)) (λ n. NestsWithin e ss n) (sequence_at ss k) (λ n next. nests_from most ls ss h m e n (suc d) next (omega arith)) (names_at ls ls ss k d at h)

-- ---- the levels of open blocks

abbrev ArmAt : List ℕ → Arm → ℕ → Type 0
ArmAt ls (First opening) d = Unit {0}
ArmAt ls AfterElse d = Unit {0}
ArmAt ls (Second before) d = IsAt ls before d

abbrev OpenAt : List ℕ → List Open → Type 0
OpenAt ls [] = IsAt ls 0 0
OpenAt ls (o ∷ os) = IsAt ls o.seq (suc (length os)) × ArmAt ls o.arm (suc (length os)) × OpenAt ls os

current_at : (ls : List ℕ) (os : List Open) → OpenAt ls os → IsAt ls (current os) (length os)
current_at ls [] h = h
current_at ls (o ∷ os) h = h.0

arm_more : (ls : List ℕ) (a : Arm) (d e : ℕ) → ArmAt ls a d → ArmAt (ls ++ e ∷ []) a d
arm_more ls (First opening) d e h = tt
arm_more ls AfterElse d e h = tt
arm_more ls (Second before) d e h = at_more ls before d e h

open_more : (ls : List ℕ) (os : List Open) (e : ℕ) → OpenAt ls os → OpenAt (ls ++ e ∷ []) os
open_more ls [] e h = at_more ls 0 0 e h
open_more ls (o ∷ os) e h = (at_more ls o.seq (suc (length os)) e h.0, arm_more ls o.arm (suc (length os)) e h.1, open_more ls os e h.2)

second_at : (ls : List ℕ) (n : ℕ) (os : List Open) → n ≡ length ls → OpenAt ls os → OpenAt (ls ++ length os ∷ []) (in_second n os)
second_at ls n [] e h = at_more ls 0 0 0 h
second_at ls n (o ∷ os) e h =
    let d : ℕ = suc (length os) in
    (at_last ls n d e, at_more ls o.seq d d h.0, open_more ls os d h.2)

after_else_at : (ls : List ℕ) (os : List Open) → OpenAt ls os → OpenAt ls (after_else_blocks os)
after_else_at ls [] h = h
after_else_at ls (o ∷ os) h = (h.0, tt, h.2)

whole_at : (ls : List ℕ) (a : Arm) (ty : Option ValType) (seq d : ℕ) → IsAt ls seq d → ArmAt ls a d → OfNamed (λ n. IsAt ls n d) (whole a ty seq)
whole_at ls (First Block) ty seq d at h = at
whole_at ls (First Loop) ty seq d at h = at
whole_at ls (First If) ty seq d at h = at
whole_at ls AfterElse ty seq d at h = at
whole_at ls (Second before) ty seq d at h = (h, at)

-- ---- a body while it is built

pub record HasLevels (most : ℕ) (st : State) : Type 0 where
  pub levels : List ℕ
  pub names : Levelled levels levels st.seqs
  pub opened : OpenAt levels st.blocks
  pub bounded : AtMost most levels
  pub few : length st.blocks ≤ most

module _ (most : ℕ) where
  pub first_levels : HasLevels most first_state
  first_levels = record { levels = 0 ∷ []; names = (tt, tt); opened = refl; bounded = (omega arith, tt); few = omega arith }

  second_levels : (st : State) → HasLevels most st → HasLevels most (record { blocks = in_second (length st.seqs) st.blocks; seqs = st.seqs ++ [] ∷ [] })
  second_levels st h = record {
    levels = h.levels ++ length st.blocks ∷ [];
    names = levels_more h.levels h.levels st.seqs (length st.blocks) (length st.blocks) h.names;
    opened = second_at h.levels (length st.seqs) st.blocks (levels_len h.levels h.levels st.seqs h.names) h.opened;
    bounded = most_more most h.levels (length st.blocks) h.bounded h.few;
    few = let n = second_len (length st.seqs) st.blocks in let le = h.few in omega arith;
  }

  started_levels : (st : State) → HasLevels most st → HasLevels most (started st)
  started_levels st h = go (is_after_else st.blocks) refl where
    go : (b : Bool) → is_after_else st.blocks ≡ b → HasLevels most (started st)
    go false e = rw e h
    go true e = rw e (second_levels st h)

  put_levels : (st : State) (i : Instr) (h : HasLevels most st) → OfNamed (λ n. IsAt h.levels n (suc (length st.blocks))) i → HasLevels most (placed_in st i)
  put_levels st i h g = record {
    levels = h.levels;
    names = levels_put h.levels h.levels st.seqs (current st.blocks) (length st.blocks) i (current_at h.levels st.blocks h.opened) g h.names;
    opened = h.opened;
    bounded = h.bounded;
    few = h.few;
  }

  pub placed_levels : (st : State) (i : Instr) → IsPlain i → HasLevels most st → HasLevels most (placed st i)
  placed_levels st i plain h =
      let k = started_levels st h in
      put_levels (started st) i k (plain_names_none (λ n. IsAt k.levels n (suc (length (started st).blocks))) i plain)

  begun_in_levels : (st : State) (opening : Opening) (ty : Option ValType) → length st.blocks < most → HasLevels most st → HasLevels most (begun_in st opening ty)
  begun_in_levels st opening ty room h =
      let d : ℕ = suc (length st.blocks) in
      record {
        levels = h.levels ++ d ∷ [];
        names = levels_more h.levels h.levels st.seqs d d h.names;
        opened = (at_last h.levels (length st.seqs) d (levels_len h.levels h.levels st.seqs h.names), tt, open_more h.levels st.blocks d h.opened);
        bounded = most_more most h.levels d h.bounded (omega arith);
        few = omega arith;
      }

  pub begun_levels : (st : State) (opening : Opening) (ty : Option ValType) → length st.blocks < most → HasLevels most st → HasLevels most (begun st opening ty)
  begun_levels st opening ty room h = begun_in_levels (started st) opening ty (let n = started_blocks st in omega arith) (started_levels st h)

  pub after_else_levels : (st : State) → HasLevels most st → HasLevels most (after_else st)
  after_else_levels st h = record {
    levels = h.levels;
    names = h.names;
    opened = after_else_at h.levels st.blocks h.opened;
    bounded = h.bounded;
    few = let n = after_else_len st.blocks in let le = h.few in omega arith;
  }

  closed_in_levels : (os : List Open) (ss : List (List Instr)) → HasLevels most (record { blocks = os; seqs = ss }) → HasLevels most (closed_in os ss)
  closed_in_levels [] ss h = h
  closed_in_levels (o ∷ os) ss h =
      let around : HasLevels most (record { blocks = os; seqs = ss }) = record {
        levels = h.levels;
        names = h.names;
        opened = h.opened.2;
        bounded = h.bounded;
        few = let le = h.few in omega arith;
      } in
      put_levels (record { blocks = os; seqs = ss }) (whole o.arm o.ty o.seq) around (whole_at h.levels o.arm o.ty o.seq (suc (length os)) h.opened.0 h.opened.1)

  pub closed_levels : (st : State) → HasLevels most st → HasLevels most (closed st)
  closed_levels st h = closed_in_levels st.blocks st.seqs h

  -- with no block open
  pub levels_nest : (ss : List (List Instr)) → HasLevels most (record { blocks = []; seqs = ss }) → NestsWithin most ss 0
  levels_nest ss h = nests_from most h.levels ss h.names h.bounded most 0 0 h.opened (omega arith)
