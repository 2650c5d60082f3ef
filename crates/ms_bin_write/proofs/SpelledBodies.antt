-- Bodies are spelled as they are written: each item is a turn of the grammar.
use Rattle.std.proofs.Common.{◌≡◌, ℕ, ◌<◌, ◌≤◌, ◌^◌, Bool, true, false, eqb, ltb, not, List, [], ◌∷◌, ◌++◌, length, inl, inr, refl, sym, ap, subst, arith, append_assoc}
use Rattle.std.specs.Prelude.{◌≢◌, ◌||◌, Option}
use Rattle.std.specs.List.{flat_map}
use Rattle.std.proofs.lemmas.Bool.{eq-eqb, lt-ltb}
use Rattle.std.proofs.lemmas.Bool.Decides.{nat_tests}
use Rattle.std.proofs.lemmas.List.{length-append}
use Rattle.ms_bytes.specs.Runs.{Runs, goes, rests}
use Rattle.ms_types.specs.declared.types.ValType.{ValType}
use Rattle.ms_module.specs.declared.instr.Instr.{Instr}
use Rattle.ms_module.specs.declared.builder.Opening.{Opening}
use Rattle.ms_module.specs.declared.builder.Opening.TheVariants.{Block, Loop, If}
use Rattle.ms_module.specs.Building.{State, begun, first_state, placed}
use Rattle.ms_module.specs.Instructions.{end_code, opening_rows}
use Rattle.ms_module.specs.refinement.Nesting.{NestsWithin}
use Rattle.ms_module.specs.Numbered.{IsPlain}
use Rattle.ms_flat.specs.Flat.{Item, Plain, Begin, Else, End, flat}
use Rattle.ms_flat.specs.refinement.Rebuilt.{AllMayCome, MayCome, after, after_item}
use Rattle.ms_flat.proofs.Arriving.{flat_leads}
use Rattle.ms_flat.proofs.Depths.{flat_may_come}
use Rattle.ms_bin_grammar.specs.Body.{block_rows, body, goes_on, advance, advance_codes}
use Rattle.ms_bin_write.specs.Instrs.{body_bytes, item_bytes, opcode, operands}
use Rattle.ms_bin_write.specs.Types.{block_type_code}
use Rattle.ms_flat.specs.refinement.Ranges.{AllFit, CodeFits, InstrFits, ItemFits}
use Rattle.ms_bin_write.proofs.Found.{is_block_code}
use Rattle.ms_bin_write.proofs.Spelled.{back_few, block_type_law, front_few}
use Rattle.ms_bin_write.proofs.SpelledInstrs.{plain_law}

-- ---- codes that are none of blocks

or_left : (a b : Bool) → a || b ≡ false → a ≡ false
or_left true b e = absurd cc
or_left false b e = refl

or_right : (a b : Bool) → a || b ≡ false → b ≡ false
or_right true b e = absurd cc
or_right false b e = e

differs : (b c : ℕ) → eqb b c ≡ false → b ≢ c
differs b c e is = absurd (let f : eqb b c ≡ true = eq-eqb b c is in cc)

abbrev pub IsOtherCode : ℕ → Type 0
IsOtherCode c = (c ≢ 0x02) × (c ≢ 0x03) × (c ≢ 0x04) × (c ≢ 0x05) × (c ≢ 0x0B)

other_code : (c : ℕ) → is_block_code c ≡ false → IsOtherCode c
other_code c e =
    let four = or_left (eqb c 0x02 || eqb c 0x03 || eqb c 0x04 || eqb c 0x05) (eqb c 0x0B) e in
    let three = or_left (eqb c 0x02 || eqb c 0x03 || eqb c 0x04) (eqb c 0x05) four in
    let two = or_left (eqb c 0x02 || eqb c 0x03) (eqb c 0x04) three in (
      differs c 0x02 (or_left (eqb c 0x02) (eqb c 0x03) two),
      differs c 0x03 (or_right (eqb c 0x02) (eqb c 0x03) two),
      differs c 0x04 (or_right (eqb c 0x02 || eqb c 0x03) (eqb c 0x04) three),
      differs c 0x05 (or_right (eqb c 0x02 || eqb c 0x03 || eqb c 0x04) (eqb c 0x05) four),
      differs c 0x0B (or_right (eqb c 0x02 || eqb c 0x03 || eqb c 0x04 || eqb c 0x05) (eqb c 0x0B) e),
    )

-- ---- turns

advance_plain : (most : ℕ) (st : State) (i : Instr) → IsPlain i → InstrFits i → length (operands i) < 2 ^ 32 → (t : List ℕ) → (advance most st).spelled (opcode i ∷ (operands i ++ t)) (placed st i) t
unfolding advance advance_codes block_rows opening_rows
advance_plain most st i p h small t =
    let law = plain_law i p h small in
    let o = other_code (opcode i) law.0 in
    (opcode i, operands i ++ t, refl, inr (o.0, inr (o.1, inr (o.2, inr (o.3, inr (o.4, (i, t, law.1 t, (refl, refl))))))))

advance_begin : (most : ℕ) (st : State) (o : Opening) (ty : Option ValType) → length st.blocks < most → (t : List ℕ) → (advance most st).spelled (item_bytes (Begin o ty) ++ t) (begun st o ty) t
unfolding advance advance_codes block_rows opening_rows
advance_begin most st Block ty lt t = (0x02, block_type_code ty ∷ t, refl, inl (refl, (lt-ltb (length st.blocks) most lt, (ty, t, block_type_law ty t, (refl, refl)))))
advance_begin most st Loop ty lt t = (0x03, block_type_code ty ∷ t, refl, inr ((λ e. omega arith), inl (refl, (lt-ltb (length st.blocks) most lt, (ty, t, block_type_law ty t, (refl, refl))))))
advance_begin most st If ty lt t =
    (0x04, block_type_code ty ∷ t, refl, inr ((λ e. omega arith), inr ((λ e. omega arith), inl (refl, (lt-ltb (length st.blocks) most lt, (ty, t, block_type_law ty t, (refl, refl)))))))

advance_law : (most : ℕ) (st : State) (x : Item) → MayCome most st x → ItemFits x → length (item_bytes x) < 2 ^ 32 → (t : List ℕ) → (advance most st).spelled (item_bytes x ++ t) (after_item st x) t
unfolding advance advance_codes block_rows opening_rows
advance_law most st (Plain i) p h small t = advance_plain most st i p h (omega arith) t
advance_law most st (Begin o ty) p h small t = advance_begin most st o ty p t
advance_law most st Else p h small t = (0x05, t, refl, inr ((λ e. omega arith), inr ((λ e. omega arith), inr ((λ e. omega arith), inl (refl, (p, (refl, refl)))))))
advance_law most st End p h small t =
    (0x0B, t, refl, inr ((λ e. omega arith), inr ((λ e. omega arith), inr ((λ e. omega arith), inr ((λ e. omega arith), inl (refl, (lt-ltb 0 (length st.blocks) p, (refl, refl))))))))

-- another turn comes wherever an item does
not_end : (b : Bool) (c : ℕ) → c ≢ 0x0B → b || not (eqb c 0x0B) ≡ true
not_end true c ne = refl
not_end false c ne = rw (apart c ne) refl where
  apart : (c : ℕ) → c ≢ 0x0B → eqb c 0x0B ≡ false
  apart c ne = grind (arith, nat_tests)

item_goes : (most : ℕ) (st : State) (x : Item) → MayCome most st x → ItemFits x → length (item_bytes x) < 2 ^ 32 → (t : List ℕ) → goes_on st (item_bytes x ++ t) ≡ true
unfolding opening_rows
item_goes most st (Plain i) p h small t = not_end (ltb 0 (length st.blocks)) (opcode i) (other_code (opcode i) (plain_law i p h (omega arith)).0).4
item_goes most st (Begin Block ty) p h small t = not_end (ltb 0 (length st.blocks)) 0x02 (λ e. omega arith)
item_goes most st (Begin Loop ty) p h small t = not_end (ltb 0 (length st.blocks)) 0x03 (λ e. omega arith)
item_goes most st (Begin If ty) p h small t = not_end (ltb 0 (length st.blocks)) 0x04 (λ e. omega arith)
item_goes most st Else p h small t = not_end (ltb 0 (length st.blocks)) 0x05 (λ e. omega arith)
item_goes most st End p h small t = rw (lt-ltb 0 (length st.blocks) p) refl

-- all items, up to an `end` behind which no block is open
items_run : (most : ℕ) (st : State) (xs : List Item) → AllMayCome most st xs → AllFit ItemFits xs → length (flat_map item_bytes xs) < 2 ^ 32 → (t : List ℕ) → (after st xs).blocks ≡ []
    → Runs goes_on (advance most) st (flat_map item_bytes xs ++ end_code ∷ t) (after st xs) (end_code ∷ t)
items_run most st [] p h small t e = rests (rw e refl)
items_run most st (x ∷ xs) p h small t e =
    let rest = flat_map item_bytes xs in
    let few = front_few (item_bytes x) rest small in
    let behind = rest ++ end_code ∷ t in
    let run = items_run most (after_item st x) xs p.1 h.1 (back_few (item_bytes x) rest small) t e in
    subst (λ (s : List ℕ). Runs goes_on (advance most) st s (after st (x ∷ xs)) (end_code ∷ t)) (sym (append_assoc (item_bytes x) rest (end_code ∷ t)))
    (goes (after_item st x) (item_goes most st x p.0 h.0 few behind) (advance_law most st x p.0 h.0 few behind) run)

pub body_law : (most : ℕ) (ss : List (List Instr)) → CodeFits ss → NestsWithin most ss 0 → length (body_bytes ss) < 2 ^ 32 → (t : List ℕ) → (body most).spelled (body_bytes ss ++ t) ss t
unfolding body body_bytes
body_law most ss h nests small t =
    let items = flat_map item_bytes (flat ss) in
    let leads = flat_leads ss h.0 in
    let built : State = record { blocks = []; seqs = ss } in
    let run = items_run most first_state (flat ss) (flat_may_come most ss h.0 nests) h.1 (front_few items (end_code ∷ []) small) t (ap (λ (st : State). st.blocks) leads.0) in
    let to = subst (λ (st : State). Runs goes_on (advance most) first_state (items ++ end_code ∷ t) st (end_code ∷ t)) leads.0 run in
    let all = subst (λ (s : List ℕ). Runs goes_on (advance most) first_state s built (end_code ∷ t)) (sym (append_assoc items (end_code ∷ []) t)) to in
    (built, end_code ∷ t, all, (tt, t, refl, (refl, refl)))

pub body_some : (ss : List (List Instr)) → 1 ≤ length (body_bytes ss)
unfolding body_bytes
body_some ss = omega (arith, length-append (flat_map item_bytes (flat ss)) (end_code ∷ []))
