-- What is left of a body behind each step.
use Rattle.std.proofs.Common.{◌≡◌, ℕ, zero, suc, ◌+◌, List, [], ◌∷◌, ◌++◌, drop, refl, sym, ap, subst, ◌∙◌, append_assoc, add-one}
use Rattle.std.specs.Prelude.{Option, Some, None, slice_get}
use Rattle.std.proofs.lemmas.List.{append-nil}
use Rattle.ms_module.specs.declared.instr.Instr.{Instr}
use Rattle.ms_module.specs.declared.instr.Instr.TheVariants as instr
use Rattle.ms_module.specs.declared.builder.Opening.TheVariants as opening
use Rattle.ms_module.specs.Building.{IsNumbered}
use Rattle.ms_module.specs.Numbered.{AllNameWithin, NamesWithin, sequence_at}
use Rattle.ms_flat.specs.declared.walk.Block.{Block}
use Rattle.ms_flat.specs.declared.walk.Place.{Place}
use Rattle.ms_flat.specs.Flat.{Item, Begin, Else, End, flat, items_of, sequence_items}
use Rattle.ms_flat.specs.refinement.Places.{Within, block_of, else_then, left, rest_of}
use Rattle.ms_flat.proofs.Sequences.{sequence_items-is}

abbrev arm_then : (ℕ → List Item) → Option ℕ → List Item → List Item
arm_then F None t = t
arm_then F (Some k) t = Else ∷ (F k ++ t)

abbrev pub start : ℕ → Option ℕ → Place
start k other = record { sequence = k; next = 0; other = other }

abbrev pub behind : Place → Place
behind p = record { sequence = p.sequence; next = p.next + 1; other = p.other }

rest_of_start : (ss : List (List Instr)) → IsNumbered ss → (k : ℕ) (other : Option ℕ) → rest_of ss (start k other) ≡ sequence_items ss k
rest_of_start ss b k other = sym (sequence_items-is ss b k)

pub left_first : (ss : List (List Instr)) → IsNumbered ss → left ss (start 0 None) [] ≡ flat ss
left_first ss b = append-nil (rest_of ss (start 0 None)) ∙ rest_of_start ss b 0 None

past : (is : List Instr) (n : ℕ) → slice_get is n ≡ None → drop n is ≡ []
past [] zero e = refl
past [] (suc n) e = refl
past (i ∷ is) zero e = absurd cc
past (i ∷ is) (suc n) e = past is n e

drop_at : (is : List Instr) (n : ℕ) (i : Instr) → slice_get is n ≡ Some i → drop n is ≡ i ∷ drop (suc n) is
drop_at [] n i e = absurd cc
drop_at (j ∷ is) zero i e = let s : j ≡ i = cc in ap (λ (x : Instr). x ∷ is) s
drop_at (j ∷ is) (suc n) i e = drop_at is n i e

-- at the end of a sequence
pub left_else : (ss : List (List Instr)) → IsNumbered ss → (p : Place) (ps : List Place) (k : ℕ) → slice_get (sequence_at ss p.sequence) p.next ≡ None → p.other ≡ Some k
    → left ss p ps ≡ Else ∷ left ss (start k None) ps
left_else ss b p ps k e o = rw (past (sequence_at ss p.sequence) p.next e, o, rest_of_start ss b k None) refl

-- at an instruction
at_instr : (ss : List (List Instr)) (p : Place) (ps : List Place) (i : Instr) → slice_get (sequence_at ss p.sequence) p.next ≡ Some i
    → left ss p ps ≡ items_of (sequence_items ss) i ++ left ss (behind p) ps
at_instr ss p ps i e = rw (drop_at (sequence_at ss p.sequence) p.next i e, add-one) (simp append_assoc)

begins : (F : ℕ → List Item) (i : Instr) (b : Block) (t : List Item) → block_of i ≡ Some b
    → items_of F i ++ t ≡ Begin b.opening b.ty ∷ (F b.first ++ arm_then F b.other (End ∷ t))
begins F (instr.Block ty body) b t e = let s : b ≡ record { opening = opening.Block; ty = ty; first = body; other = None } = cc in rw s (simp append_assoc)
begins F (instr.Loop ty body) b t e = let s : b ≡ record { opening = opening.Loop; ty = ty; first = body; other = None } = cc in rw s (simp append_assoc)
begins F (instr.If ty first None) b t e = let s : b ≡ record { opening = opening.If; ty = ty; first = first; other = None } = cc in rw s (simp append_assoc)
begins F (instr.If ty first (Some second)) b t e = let s : b ≡ record { opening = opening.If; ty = ty; first = first; other = Some second } = cc in rw s (simp append_assoc)
begins F _ b t e = absurd cc

arm_is : (ss : List (List Instr)) (o : Option ℕ) (t : List Item) → arm_then (sequence_items ss) o t ≡ else_then ss o t
arm_is ss None t = refl
arm_is ss (Some k) t = refl

-- a block begins
pub left_block : (ss : List (List Instr)) → IsNumbered ss → (p : Place) (ps : List Place) (i : Instr) (b : Block) → slice_get (sequence_at ss p.sequence) p.next ≡ Some i → block_of i ≡ Some b
    → left ss p ps ≡ Begin b.opening b.ty ∷ left ss (start b.first b.other) (behind p ∷ ps)
left_block ss n p ps i b e is =
    at_instr ss p ps i e ∙ (begins (sequence_items ss) i b (left ss (behind p) ps) is
    ∙ rw (rest_of_start ss n b.first b.other, arm_is ss b.other (End ∷ left ss (behind p) ps)) refl)

-- ---- places stay within

names_at : (n k : ℕ) (is : List Instr) (j : ℕ) (i : Instr) → AllNameWithin n k is → slice_get is j ≡ Some i → NamesWithin n k i
names_at n k [] j i h e = absurd cc
names_at n k (x ∷ is) zero i h e = let s : x ≡ i = cc in subst (λ (y : Instr). NamesWithin n k y) s h.0
names_at n k (x ∷ is) (suc j) i h e = names_at n k is j i h.1 e

pub block_within : (n k : ℕ) (is : List Instr) (j : ℕ) (i : Instr) (b : Block) → AllNameWithin n k is → slice_get is j ≡ Some i → block_of i ≡ Some b → Within n (start b.first b.other)
block_within n k is j i b h e o = go i (names_at n k is j i h e) o where
  go : (x : Instr) → NamesWithin n k x → block_of x ≡ Some b → Within n (start b.first b.other)
  go (instr.Block ty body) w q = let s : b ≡ record { opening = opening.Block; ty = ty; first = body; other = None } = cc in rw s (w.1, tt)
  go (instr.Loop ty body) w q = let s : b ≡ record { opening = opening.Loop; ty = ty; first = body; other = None } = cc in rw s (w.1, tt)
  go (instr.If ty first None) w q = let s : b ≡ record { opening = opening.If; ty = ty; first = first; other = None } = cc in rw s (w.1, tt)
  go (instr.If ty first (Some second)) w q = let s : b ≡ record { opening = opening.If; ty = ty; first = first; other = Some second } = cc in rw s (w.1, w.2.1)
  go _ w q = absurd cc
