-- The items of a body build its sequences again.
use Rattle.std.proofs.Common.{◌≡◌, ℕ, ◌<◌, ◌≤◌, List, [], ◌∷◌, ◌++◌, length, refl, sym, ap, ◌∙◌, arith, append_assoc}
use Rattle.std.specs.Prelude.{◌≢◌, Option}
use Rattle.std.specs.List.{flat_map}
use Rattle.std.proofs.lemmas.List.{append-nil}
use Rattle.std.proofs.lemmas.Grind.{flat_map-append}
use Rattle.ms_types.specs.declared.types.ValType.{ValType}
use Rattle.ms_module.specs.declared.instr.Instr.{Instr}
use Rattle.ms_module.specs.declared.builder.Opening.{Opening}
use Rattle.ms_module.specs.declared.builder.Opening.TheVariants.{Block, If, Loop}
use Rattle.ms_module.specs.declared.builder.Arm.{Arm}
use Rattle.ms_module.specs.declared.builder.Arm.TheVariants.{First, Second, AfterElse}
use Rattle.ms_module.specs.declared.builder.Open.{Open}
use Rattle.ms_module.specs.Building.{current, put, whole}
use Rattle.ms_module.specs.refinement.Nesting.{OfAllNamed, OfNamed}
use Rattle.ms_module.specs.Numbered.{sequence_at}
use Rattle.ms_module.proofs.Order.{Fall, at_more}
use Rattle.ms_flat.specs.Flat.{Item, Begin, Else, End, items_of, items_within}
use Rattle.ms_flat.proofs.Sequences.{Later, all_same, all_trivial, past_end, put_other, put_same, same_items, within-agrees, within-more, within_is}
use Rattle.ms_flat.proofs.Growing.{Apart, ArmBelow, Below, Kept, arm_apart}
use Rattle.ms_module.proofs.Nesting.{of_all_named, of_named}

-- the items of a sequence, by those of the sequences that it names
abbrev pub items_at : (ℕ → List Item) → List (List Instr) → ℕ → List Item
items_at F ss k = flat_map (items_of F) (sequence_at ss k)

-- the items up to the place at which a body is built
abbrev pub begun_items : (ℕ → List Item) → List (List Instr) → Arm → Option ValType → List Item
begun_items F ss (First opening) ty = Begin opening ty ∷ []
begun_items F ss AfterElse ty = Begin If ty ∷ []
begun_items F ss (Second before) ty = Begin If ty ∷ (items_at F ss before ++ Else ∷ [])

abbrev pub so_far : (ℕ → List Item) → List (List Instr) → List Open → List Item
so_far F ss [] = items_at F ss 0
so_far F ss (o ∷ os) = so_far F ss os ++ (begun_items F ss o.arm o.ty ++ items_at F ss o.seq)

-- ---- an instruction at the end of the current sequence

-- sequences that don't grow, with functions that give the same items for what they name
module _ (F G : ℕ → List Item) (ss ts : List (List Instr)) (P : ℕ → Type 0) (agree : (n : ℕ) → P n → F n ≡ G n) (names : (k : ℕ) → OfAllNamed P (sequence_at ss k)) where
  pub same_at : (k : ℕ) → sequence_at ts k ≡ sequence_at ss k → items_at G ts k ≡ items_at F ss k
  same_at k e =
      ap (flat_map (items_of G)) e ∙ sym (all_same F G (sequence_at ss k) (of_all_named P (λ n. F n ≡ G n) (sequence_at ss k) agree (names k)))

  same_arm : (arm : Arm) (ty : Option ValType) (c : ℕ) → ((k : ℕ) → k < c → sequence_at ts k ≡ sequence_at ss k) → ArmBelow c arm → begun_items G ts arm ty ≡ begun_items F ss arm ty
  same_arm (First opening) ty c e h = refl
  same_arm AfterElse ty c e h = refl
  same_arm (Second before) ty c e h = rw (same_at before (e before h)) refl

  same_so_far : (os : List Open) (c : ℕ) → ((k : ℕ) → k < c → sequence_at ts k ≡ sequence_at ss k) → Below c os → so_far G ts os ≡ so_far F ss os
  same_so_far [] c e h = same_at 0 (e 0 h)
  same_so_far (o ∷ os) c e h = rw (same_so_far os c e h.2, same_arm o.arm o.ty c e h.1, same_at o.seq (e o.seq h.0)) refl

-- the sequence that grows by an instruction
module _ (d : ℕ) (blocks : List Open) (ss : List (List Instr)) (i : Instr) (k : Kept (record { blocks = blocks; seqs = ss })) (names : OfNamed (λ n. Apart n blocks) i) (c : ℕ) (is : c ≡ current blocks) (fits : c < length ss) where
  abbrev F : ℕ → List Item
  F = items_within d ss

  abbrev G : ℕ → List Item
  G = items_within d (put ss c i)

  not_current : (os : List Open) (n : ℕ) → Apart n os → n ≢ current os
  not_current [] n h = h
  not_current (o ∷ os) n h = h.0

  agree : (n : ℕ) → Apart n blocks → F n ≡ G n
  agree n h =
      within-agrees (λ m. Apart m blocks) ss (put ss c i)
      (λ m p. (sym (put_other ss c m i (λ e. not_current blocks m p (e ∙ is))), k m)) d n h

  grown : items_at G (put ss c i) c ≡ items_at F ss c ++ items_of F i
  grown =
      let one : flat_map (items_of G) (i ∷ []) ≡ items_of F i = append-nil (items_of G i) ∙ sym (same_items F G i (of_named (λ n. Apart n blocks) (λ n. F n ≡ G n) i agree names)) in
      let old = all_same F G (sequence_at ss c) (of_all_named (λ n. Apart n blocks) (λ n. F n ≡ G n) (sequence_at ss c) agree (k c)) in
      ap (flat_map (items_of G)) (put_same ss c i fits)
      ∙ (flat_map-append (items_of G) (sequence_at ss c) (i ∷ []) ∙ rw (old, one) refl)

  others : (n : ℕ) → n < c → sequence_at (put ss c i) n ≡ sequence_at ss n
  others n lt = put_other ss c n i (λ e. omega arith)

  around : (os : List Open) → Below c os → so_far G (put ss c i) os ≡ so_far F ss os
  around os b = same_so_far F G ss (put ss c i) (λ n. Apart n blocks) agree k os c others b

  arm : (a : Arm) (ty : Option ValType) → ArmBelow c a → begun_items G (put ss c i) a ty ≡ begun_items F ss a ty
  arm a ty b = same_arm F G ss (put ss c i) (λ n. Apart n blocks) agree k a ty c others b

abbrev pub Lower : List Open → Type 0
Lower [] = Unit {0}
Lower (o ∷ os) = ArmBelow o.seq o.arm × Below o.seq os

pub lower : (blocks : List Open) (m : ℕ) → Fall blocks m → Lower blocks
lower [] m h = tt
lower (o ∷ os) m h = arm_apart o.arm os o.seq m h.0 h.1

pub put_so_far : (d : ℕ) (blocks : List Open) (ss : List (List Instr)) (i : Instr) → Kept (record { blocks = blocks; seqs = ss }) → current blocks < length ss → OfNamed (λ n. Apart n blocks) i → Lower blocks
    → so_far (items_within d (put ss (current blocks) i)) (put ss (current blocks) i) blocks ≡ so_far (items_within d ss) ss blocks ++ items_of (items_within d ss) i
put_so_far d [] ss i k fits names low = grown d [] ss i k names 0 refl fits
put_so_far d (o ∷ os) ss i k fits names low =
    let F = items_within d ss in
    rw (around d (o ∷ os) ss i k names o.seq refl fits os low.1, arm d (o ∷ os) ss i k names o.seq refl fits o.arm o.ty low.0, grown d (o ∷ os) ss i k names o.seq refl fits)
    (simp append_assoc)

-- ---- a further sequence

pub more_so_far : (d : ℕ) (blocks : List Open) (ss : List (List Instr)) → Below (length ss) blocks → so_far (items_within d (ss ++ [] ∷ [])) (ss ++ [] ∷ []) blocks ≡ so_far (items_within d ss) ss blocks
more_so_far d blocks ss b =
    same_so_far (items_within d ss) (items_within d (ss ++ [] ∷ [])) ss (ss ++ [] ∷ []) (λ n. Unit {0}) (λ n t. sym (within-more ss d n)) (λ k. all_trivial (sequence_at ss k))
    blocks (length ss) (λ k lt. at_more ss k) b

pub more_at : (d : ℕ) (ss : List (List Instr)) (k : ℕ) → items_at (items_within d (ss ++ [] ∷ [])) (ss ++ [] ∷ []) k ≡ items_at (items_within d ss) ss k
more_at d ss k =
    same_at (items_within d ss) (items_within d (ss ++ [] ∷ [])) ss (ss ++ [] ∷ []) (λ n. Unit {0}) (λ n t. sym (within-more ss d n)) (λ k. all_trivial (sequence_at ss k)) k (at_more ss k)

pub none_at : (d : ℕ) (ss : List (List Instr)) → items_at (items_within d (ss ++ [] ∷ [])) (ss ++ [] ∷ []) (length ss) ≡ []
none_at d ss = more_at d ss (length ss) ∙ rw (past_end ss (length ss) (omega arith)) refl

pub begun_so_far : (d : ℕ) (blocks : List Open) (ss : List (List Instr)) (opening : Opening) (ty : Option ValType) → Below (length ss) blocks
    → so_far (items_within d (ss ++ [] ∷ [])) (ss ++ [] ∷ []) (record { arm = First opening; ty = ty; seq = length ss } ∷ blocks) ≡ so_far (items_within d ss) ss blocks ++ Begin opening ty ∷ []
begun_so_far d blocks ss opening ty b = rw (more_so_far d blocks ss b, none_at d ss) refl

-- ---- the end of a block

pub close_items : (d : ℕ) (ss : List (List Instr)) → Later ss → length ss ≤ d → (a : Arm) (ty : Option ValType) (seq : ℕ)
    → items_of (items_within d ss) (whole a ty seq) ≡ (begun_items (items_within d ss) ss a ty ++ items_at (items_within d ss) ss seq) ++ End ∷ []
close_items d ss later le (First Block) ty seq = rw (within_is ss later d seq le) refl
close_items d ss later le (First Loop) ty seq = rw (within_is ss later d seq le) refl
close_items d ss later le (First If) ty seq = rw (within_is ss later d seq le) refl
close_items d ss later le AfterElse ty seq = rw (within_is ss later d seq le) refl
close_items d ss later le (Second before) ty seq = rw (within_is ss later d seq le, within_is ss later d before le) (simp append_assoc)
