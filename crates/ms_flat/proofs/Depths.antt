-- How many blocks are open where an item comes.
use Rattle.std.proofs.Common.{◌≡◌, ℕ, zero, suc, ◌+◌, ◌-◌, ◌<◌, ◌≤◌, Bool, true, false, List, [], ◌∷◌, ◌++◌, length, refl, sym, ap, subst, arith, append_assoc}
use Rattle.std.specs.Prelude.{Some, None}
use Rattle.std.specs.List.{flat_map}
use Rattle.std.proofs.lemmas.List.{append-nil}
use Rattle.ms_module.specs.declared.instr.Instr.{Instr}
use Rattle.ms_module.specs.declared.instr.Instr.TheVariants as instr
use Rattle.ms_module.specs.declared.builder.Open.{Open}
use Rattle.ms_module.specs.Building.{IsNumbered, State, closed_in, first_state, in_second, is_after_else, started, after_else_blocks}
use Rattle.ms_module.specs.refinement.Nesting.{NestsWithin, OfAllNamed, OfNamed}
use Rattle.ms_module.specs.Numbered.{sequence_at}
use Rattle.ms_flat.specs.Flat.{Item, Plain, Begin, Else, End, flat, items_of, items_within, sequence_items}
use Rattle.ms_flat.specs.refinement.Rebuilt.{AllMayCome, after_item}
use Rattle.ms_flat.proofs.Arriving.{AllCome, flat_leads}

-- where n blocks are open before these items, fewer than `most` are open before each that begins
abbrev pub Shallow : ℕ → ℕ → List Item → Type 0
Shallow most n [] = Unit {0}
Shallow most n (Plain i ∷ xs) = Shallow most n xs
Shallow most n (Begin opening ty ∷ xs) = (n < most) × Shallow most (suc n) xs
Shallow most n (Else ∷ xs) = Shallow most n xs
Shallow most n (End ∷ xs) = Shallow most (n - 1) xs

-- ---- the items of a body

-- by what holds of the sequences that are named
module _ (most n : ℕ) (F : ℕ → List Item) (P : ℕ → Type 0) (room : (b : ℕ) → P b → n < most)
    (inner : (b : ℕ) → P b → (rest : List Item) → Shallow most (suc n) rest → Shallow most (suc n) (F b ++ rest)) where
  arm : (b : ℕ) → P b → (rest : List Item) → Shallow most n rest → Shallow most (suc n) ((F b ++ End ∷ []) ++ rest)
  arm b h rest g =
      let one_less : n ≡ suc n - 1 = omega arith in
      let ended : Shallow most (suc n) (End ∷ rest) = subst (λ (m : ℕ). Shallow most m rest) one_less g in
      subst (λ (l : List Item). Shallow most (suc n) l) (sym (append_assoc (F b) (End ∷ []) rest)) (inner b h (End ∷ rest) ended)

  one : (i : Instr) → OfNamed P i → (rest : List Item) → Shallow most n rest → Shallow most n (items_of F i ++ rest)
  one (instr.Block ty body) h rest g = (room body h, arm body h rest g)
  one (instr.Loop ty body) h rest g = (room body h, arm body h rest g)
  one (instr.If ty first None) h rest g = (room first h, arm first h rest g)
  one (instr.If ty first (Some second)) h rest g =
      let other : Shallow most (suc n) ((F second ++ End ∷ []) ++ rest) = arm second h.1 rest g in
      (room first h.0, subst (λ (l : List Item). Shallow most (suc n) l) (sym (append_assoc (F first) (Else ∷ (F second ++ End ∷ [])) rest)) (inner first h.0 ((Else ∷ (F second ++ End ∷ [])) ++ rest) other))
  one _ h rest g = g

  all : (is : List Instr) → OfAllNamed P is → (rest : List Item) → Shallow most n rest → Shallow most n (flat_map (items_of F) is ++ rest)
  all [] h rest g = g
  all (i ∷ is) h rest g =
      subst (λ (l : List Item). Shallow most n l) (sym (append_assoc (items_of F i) (flat_map (items_of F) is) rest)) (one i h.0 (flat_map (items_of F) is ++ rest) (all is h.1 rest g))

shallow : (d e most n : ℕ) (ss : List (List Instr)) (k : ℕ) → NestsWithin e ss k → n + e ≤ most → (rest : List Item) → Shallow most n rest → Shallow most n (items_within d ss k ++ rest)
unfolding items_within
shallow zero e most n ss k h le rest g = g
shallow (suc d) zero most n ss k h le rest g = all most n (items_within d ss) (λ b. ⊥) (λ b none. absurd none) (λ b none. absurd none) (sequence_at ss k) h rest g
shallow (suc d) (suc e) most n ss k h le rest g =
    all most n (items_within d ss) (λ b. NestsWithin e ss b) (λ b p. omega arith) (λ b p rest' g'. shallow d e most (suc n) ss b p (omega arith) rest' g') (sequence_at ss k) h rest g

-- ---- how many blocks are open

pub second_len : (n : ℕ) (os : List Open) → length (in_second n os) ≡ length os
second_len n [] = refl
second_len n (o ∷ os) = refl

pub after_else_len : (os : List Open) → length (after_else_blocks os) ≡ length os
after_else_len [] = refl
after_else_len (o ∷ os) = refl

pub started_blocks : (st : State) → length (started st).blocks ≡ length st.blocks
started_blocks st = go (is_after_else st.blocks) refl where
  go : (b : Bool) → is_after_else st.blocks ≡ b → length (started st).blocks ≡ length st.blocks
  go false e = rw e refl
  go true e = rw e (second_len (length st.seqs) st.blocks)

closed_blocks : (os : List Open) (ss : List (List Instr)) → length (closed_in os ss).blocks ≡ length os - 1
closed_blocks [] ss = refl
closed_blocks (o ∷ os) ss = omega arith

-- ---- both together

both : (most : ℕ) (st : State) (xs : List Item) → AllCome st xs → Shallow most (length st.blocks) xs → AllMayCome most st xs
both most st [] h g = tt
both most st (Plain i ∷ xs) h g = (h.0, both most (after_item st (Plain i)) xs h.1 (subst (λ (n : ℕ). Shallow most n xs) (sym (started_blocks st)) g))
both most st (Begin opening ty ∷ xs) h g = (g.0, both most (after_item st (Begin opening ty)) xs h.1 (subst (λ (n : ℕ). Shallow most n xs) (ap suc (sym (started_blocks st))) g.1))
both most st (Else ∷ xs) h g = (h.0, both most (after_item st Else) xs h.1 (subst (λ (n : ℕ). Shallow most n xs) (sym (after_else_len st.blocks)) g))
both most st (End ∷ xs) h g = (h.0, both most (after_item st End) xs h.1 (subst (λ (n : ℕ). Shallow most n xs) (sym (closed_blocks st.blocks st.seqs)) g))

pub flat_may_come : (most : ℕ) (ss : List (List Instr)) → IsNumbered ss → NestsWithin most ss 0 → AllMayCome most first_state (flat ss)
unfolding sequence_items
flat_may_come most ss b h =
    let g = shallow (length ss) most most 0 ss 0 h (omega arith) [] tt in
    both most first_state (flat ss) (flat_leads ss b).1 (subst (λ (l : List Item). Shallow most 0 l) (append-nil (items_within (length ss) ss 0)) g)
