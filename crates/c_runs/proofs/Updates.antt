-- Assignments with an operator to places that are no plain variables.
use Rattle.std.proofs.Common.{◌≡◌, ◌⊎◌, inl, inr, ℕ, ◌+◌, List, [], ◌∷◌, ◌++◌, length, length-append, append_assoc, Bool, true, false, None, refl, sym, ap, ◌∙◌, arith, subst}
use Rattle.std.specs.Prelude.{ℤ, if◌then◌else◌}
use Rattle.ms_linear.specs.declared.value.Value.TheVariants.{Handle}
use Rattle.ms_module.specs.declared.instr.Instr.TheVariants.{LocalGet, LocalTee}
use Rattle.c_types.specs.declared.integers.IntType.{IntType}
use Rattle.c_types.specs.declared.types.Scalar.{Scalar}
use Rattle.c_types.specs.declared.types.Scalar.TheVariants as scalars
use Rattle.c_types.specs.Types.{integer, pointer}
use Rattle.c_typed.specs.declared.ops.BinaryOp.{BinaryOp}
use Rattle.c_typed.specs.refinement.Expressions.{IsPromoted}
use Rattle.c_meaning.specs.Values.{Value, number}
use Rattle.c_meaning.specs.Objects.{read, write}
use Rattle.c_meaning.specs.World.{World, Does, ◌>>=◌, ◌>>◌, pure, alter, ask}
use Rattle.c_meaning.specs.Integers as meant
use Rattle.c_meaning.specs.Integers.{wrap}
use Rattle.c_meaning.specs.Expressions as meaning
use Rattle.c_meaning.specs.Expressions.{Spot, as_number, at, fetch, variable}
use Rattle.ms_emit.specs.Codes.{Code, coded, joined, plain, one, ◌⨾◌}
use Rattle.c_code.specs.Expressions.{begun_over_old, begun_with_old, ended, put, updated}
use Rattle.c_code.specs.Operations.{convert, load, operated}
use Rattle.c_code.specs.Targets.{scratch_of, scratch_place}
use Rattle.c_numbers.specs.Operands.{IsIn, word}
use Rattle.ms_relate.specs.refinement.Homes.{Home, handle}
use Rattle.ms_relate.proofs.Growing.{Extends, handle_still}
use Rattle.c_runs.proofs.Goes.{after_after}
use Rattle.c_runs.proofs.Related.{Env, IsValue, extends_trans, pushes}
use Rattle.c_runs.proofs.Ops.{OpIn, Stack, op_any, op_look_in, op_over_in, op_seen_in, op_then_in, same}
use Rattle.c_runs.proofs.Nodes.{Always, Leaves, Num, of_number, remains}
use Rattle.c_runs.proofs.Operations.{after_same, change_runs, changes}
use Rattle.c_runs.proofs.Steps.{op_store}
use Rattle.c_runs.proofs.Cells.{IsSpot, Leads, LeadsTo, ends_there, lead_still, op_old, op_over_old, spot_pushed}

-- ---- assignments with an operator (6.5.16.2, 6.5.2.4, 6.5.3.1)

-- code is put together in either order
pub code_assoc : (a b x : Code) → ((a ⨾ b) ⨾ x) ≡ (a ⨾ (b ⨾ x))
code_assoc a b x = λ j n. go n j where
  go : (n : ℕ) → ((a ⨾ b) ⨾ x) n ≡ (a ⨾ (b ⨾ x)) n
  go n =
      let xa = a n in
      let n' = n + length xa.seqs in
      let xb = b n' in
      let e : n + length (xa.seqs ++ xb.seqs) ≡ n' + length xb.seqs = let l = length-append xa.seqs xb.seqs in omega (arith, l) in
      let xc = x (n' + length xb.seqs) in
      ap (λ (i : ℕ). joined (joined xa xb) (x i)) e ∙ (λ j. coded (append_assoc xa.instrs xb.instrs xc.instrs j) (append_assoc xa.seqs xb.seqs xc.seqs j))

module _ (E : Env) (o : BinaryOp) (u v : IntType) (c : Code) (p : Does Spot) (lead : Leads E c (integer u) p) (d : Code) (y : Does Value) (pr : IsPromoted v) (h : Leaves E d (integer v) y) where
  abbrev s : Scalar
  s = scalars.Int u

  abbrev change : Code
  change = convert u v ⨾ d ⨾ one (operated o v) ⨾ convert v u

  abbrev behind_spot : Bool → Spot → Does Value
  behind_spot old q =
      fetch q >>= (λ w0. as_number w0 >>= (λ z. meaning.integer y >>= (λ q'. meant.operated o v (wrap v z) q' >>= (λ p'.
      let new = number (wrap u p') in meaning.store q new >> pure (if old then w0 else new)))))

  abbrev pub whole : Bool → Does Value
  whole old = p >>= behind_spot old

  abbrev puts_there : Value → Bool → ℤ → ℤ → Does Value
  puts_there pv old z q = alter (λ os. write os pv (number q)) >> pure (if old then number z else number q)

  abbrev behind_there : Value → Bool → Value → Does Value
  behind_there pv old w0 = as_number w0 >>= (λ z. meaning.integer y >>= (λ q. meant.operated o v (wrap v z) q >>= (λ q'. let new = number (wrap u q') in meaning.store (at pv) new >> pure (if old then w0 else new))))

  same_there : (pv : Value) (old : Bool) (z : ℤ) (w : World) → (changes E o u v y z >>= puts_there pv old z) w ≡ behind_there pv old (number z) w
  same_there pv old z w =
      after_after (meaning.integer y w) (λ q. meant.operated o v (wrap v z) q >>= (λ q'. pure (wrap u q'))) (puts_there pv old z)
      ∙ after_same (meaning.integer y w) _ _ (λ q w1. after_after (meant.operated o v (wrap v z) q w1) (λ q'. pure (wrap u q')) (puts_there pv old z))

  -- the new value over the handle, and what stands behind it
  new_there : (gs hs : List Home) → Extends gs hs → (pv : Value) → LeadsTo E (integer u) gs pv → (old : Bool) (z : ℤ) → IsIn u z → (under : Stack) (post : List Home → Value → Stack) (e : Code)
      → ((ks : List Home) → Extends hs ks → (q : ℤ) → IsIn u q → OpIn E ks e (λ vs. word u q ∷ Handle (handle ks pv) ∷ under vs) post (IsValue E (integer u)) (puts_there pv old z q))
      → OpIn E hs (change ⨾ e) (λ vs. word u z ∷ Handle (handle gs pv) ∷ under vs) post (IsValue E (integer u)) (behind_there pv old (number z))
  new_there gs hs grown pv of_p old z iz under post e g =
      let low : Stack = λ vs. Handle (handle gs pv) ∷ under vs in
      op_seen_in E hs (change ⨾ e) (λ vs. word u z ∷ low vs) post (IsValue E (integer u)) (changes E o u v y z >>= puts_there pv old z) (behind_there pv old (number z)) (same_there pv old z)
      (op_then_in E hs change e (λ vs. word u z ∷ low vs) (λ ks q vs. word u q ∷ low vs) post (λ ks. IsIn u) (IsValue E (integer u)) (changes E o u v y z) (puts_there pv old z)
      (op_over_in E hs change (Num E u z) low (λ ks. Num E u) (λ ks. IsIn u) (changes E o u v y z) (op_any E hs change (Num E u z) (λ ks. Num E u) (λ ks. IsIn u) (changes E o u v y z) (change_runs E o u v d y pr h z iz)))
      (λ ks more' q iq.
      subst (λ (st : Stack). OpIn E ks e st post (IsValue E (integer u)) (puts_there pv old z q))
      (λ j vs. word u q ∷ Handle (handle_still E.unit.structs E.places gs ks (extends_trans gs hs ks grown more') (pointer (integer u)) pv of_p j) ∷ under vs)
      (g ks more' q iq)))

  end_value : (k old : Bool) → (k ≡ false) ⊎ (old ≡ false) → (a b : Value) → k ≡ true → (if old then a else b) ≡ b
  end_value k false e a b t = refl
  end_value k true (inl f) a b t = absurd (let z : false ≡ true = sym f ∙ t in cc)
  end_value k true (inr f) a b t = absurd cc

  either : (k old : Bool) (a b : Value) (hs : List Home) → IsValue E (integer u) hs a → IsValue E (integer u) hs b → IsValue E (integer u) hs (if old then a else b)
  either k true a b hs x y = x
  either k false a b hs x y = y

  -- one of the two values remains, or none
  one_there : (k old : Bool) → (k ≡ false) ⊎ (old ≡ false)
      → OpIn E [] (begun_with_old E.target None c s ⨾ (change ⨾ ended E.target k None s)) same (remains E k (integer u)) (IsValue E (integer u)) (whole old)
  one_there k old e =
      let reads = plain (LocalTee (scratch_place E.target) ∷ LocalGet (scratch_place E.target) ∷ load s ∷ []) in
      let rest = change ⨾ ended E.target k None s in
      subst (λ (x : Code). OpIn E [] x same (remains E k (integer u)) (IsValue E (integer u)) (whole old)) (sym (code_assoc c reads rest))
      (op_then_in E [] c (reads ⨾ rest) same (spot_pushed E) (remains E k (integer u)) (IsSpot E (integer u)) (IsValue E (integer u)) p (behind_spot old) lead (λ gs grown q ok. by gs q ok))
    where
      by : (gs : List Home) (q : Spot) → IsSpot E (integer u) gs q
          → OpIn E gs (plain (LocalTee (scratch_place E.target) ∷ LocalGet (scratch_place E.target) ∷ load s ∷ []) ⨾ (change ⨾ ended E.target k None s)) (spot_pushed E gs q) (remains E k (integer u)) (IsValue E (integer u))
          (behind_spot old q)
      by gs (variable x) ok = absurd ok
      by gs (at pv) ok =
          let rest = change ⨾ ended E.target k None s in
          op_then_in E gs (plain (LocalTee (scratch_place E.target) ∷ LocalGet (scratch_place E.target) ∷ load s ∷ [])) rest (λ vs. Handle (handle gs pv) ∷ vs) (λ hs w0 vs. pushes E (integer u) hs w0 (Handle (handle gs pv) ∷ vs)) (remains E k (integer u)) (IsValue E (integer u)) (IsValue E (integer u)) (ask (λ os. read os pv)) (behind_there pv old)
          (op_old E (integer u) s tt refl gs pv ok)
          (λ hs grown w0 ok0.
          of_number E u (λ w0. OpIn E hs rest (λ vs. pushes E (integer u) hs w0 (Handle (handle gs pv) ∷ vs)) (remains E k (integer u)) (IsValue E (integer u)) (behind_there pv old w0))
          (λ z iz.
          new_there gs hs grown pv ok old z iz (λ vs. vs) (remains E k (integer u)) (ended E.target k None s)
          (λ ks more' q iq. ends_there E (integer u) s tt refl k ks pv (number q) (lead_still E (integer u) s tt refl gs ks (extends_trans gs hs ks grown more') pv ok) iq (if old then number z else number q) (end_value k old e (number z) (number q)) (either k old (number z) (number q) ks iz iq)))
          w0 ok0)

  -- the old value remains below
  two_there : OpIn E [] (begun_over_old E.target None c s ⨾ (change ⨾ put E.target None s)) same (pushes E (integer u)) (IsValue E (integer u)) (whole true)
  two_there =
      let reads = plain (LocalTee (scratch_place E.target) ∷ load s ∷ LocalTee (scratch_of E.target s) ∷ LocalGet (scratch_place E.target) ∷ LocalGet (scratch_of E.target s) ∷ []) in
      let rest = change ⨾ put E.target None s in
      subst (λ (x : Code). OpIn E [] x same (pushes E (integer u)) (IsValue E (integer u)) (whole true)) (sym (code_assoc c reads rest))
      (op_then_in E [] c (reads ⨾ rest) same (spot_pushed E) (pushes E (integer u)) (IsSpot E (integer u)) (IsValue E (integer u)) p (behind_spot true) lead (λ gs grown q ok. by gs q ok))
    where
      by : (gs : List Home) (q : Spot) → IsSpot E (integer u) gs q
          → OpIn E gs (plain (LocalTee (scratch_place E.target) ∷ load s ∷ LocalTee (scratch_of E.target s) ∷ LocalGet (scratch_place E.target) ∷ LocalGet (scratch_of E.target s) ∷ []) ⨾ (change ⨾ put E.target None s)) (spot_pushed E gs q) (pushes E (integer u)) (IsValue E (integer u))
          (behind_spot true q)
      by gs (variable x) ok = absurd ok
      by gs (at pv) ok =
          let rest = change ⨾ put E.target None s in
          op_then_in E gs (plain (LocalTee (scratch_place E.target) ∷ load s ∷ LocalTee (scratch_of E.target s) ∷ LocalGet (scratch_place E.target) ∷ LocalGet (scratch_of E.target s) ∷ [])) rest (λ vs. Handle (handle gs pv) ∷ vs) (λ hs w0 vs. pushes E (integer u) hs w0 (Handle (handle gs pv) ∷ pushes E (integer u) hs w0 vs)) (pushes E (integer u)) (IsValue E (integer u)) (IsValue E (integer u)) (ask (λ os. read os pv)) (behind_there pv true)
          (op_over_old E (integer u) s tt refl gs pv ok)
          (λ hs grown w0 ok0.
          of_number E u (λ w0. OpIn E hs rest (λ vs. pushes E (integer u) hs w0 (Handle (handle gs pv) ∷ pushes E (integer u) hs w0 vs)) (pushes E (integer u)) (IsValue E (integer u)) (behind_there pv true w0))
          (λ z iz.
          new_there gs hs grown pv ok true z iz (λ vs. word u z ∷ vs) (pushes E (integer u)) (put E.target None s)
          (λ ks more' q iq.
          op_look_in E ks (put E.target None s) (λ vs. word u q ∷ Handle (handle ks pv) ∷ word u z ∷ vs) (λ js r vs. word u z ∷ vs) (pushes E (integer u)) (λ js. Always E) (IsValue E (integer u)) (alter (λ os. write os pv (number q))) (λ r. pure (number z))
          (op_over_in E ks (put E.target None s) (λ vs. word u q ∷ Handle (handle ks pv) ∷ vs) (λ vs. word u z ∷ vs) (λ js r vs. vs) (λ js. Always E) (alter (λ os. write os pv (number q)))
          (op_store E (integer u) s tt refl ks pv (lead_still E (integer u) s tt refl gs ks (extends_trans gs hs ks grown more') pv ok) (number q) iq))
          (λ js grown' r ok'. (number z, refl, λ vs. refl, iz))))
          w0 ok0)

  pub update_there : (k old : Bool) → OpIn E [] (updated E.target k old None c s change) same (remains E k (integer u)) (IsValue E (integer u)) (whole old)
  update_there true true = two_there
  update_there true false = one_there true false (inr refl)
  update_there false true = one_there false true (inl refl)
  update_there false false = one_there false false (inl refl)
