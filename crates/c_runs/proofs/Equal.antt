-- Pointers that are compared for equality (C11, 6.5.9).
use Rattle.std.proofs.Common.{◌≡◌, ℕ, List, [], ◌∷◌, Bool, true, false, None, refl, sym, ap, ◌∙◌, subst}
use Rattle.std.specs.Prelude.{not, slice_get}
use Rattle.ms_num.specs.Integers.{truth as bit}
use Rattle.ms_operate.specs.Outcomes as operate
use Rattle.ms_linear.specs.declared.value.Value.{Value as Word}
use Rattle.ms_linear.specs.declared.value.Value.TheVariants.{Handle, I32}
use Rattle.ms_machine.specs.Segments.{is_null as is_no_handle}
use Rattle.ms_machine.specs.Step.{act}
use Rattle.ms_module.specs.declared.access.Segment.TheVariants as segment
use Rattle.ms_module.specs.declared.instr.Instr.TheVariants.{Segment}
use Rattle.ms_task.specs.Thread.{thread}
use Rattle.c_types.specs.declared.integers.IntType.TheVariants.{Int}
use Rattle.c_types.specs.Layout.{Table}
use Rattle.c_types.specs.Types.{Ty, integer, pointer, is_function}
use Rattle.c_typed.specs.declared.ops.RelOp.TheVariants as relations
use Rattle.c_meaning.specs.Values.{Value, null}
use Rattle.c_meaning.specs.Integers.{from_truth}
use Rattle.c_meaning.specs.Objects as objects
use Rattle.c_meaning.specs.Objects.{Object, same_place}
use Rattle.c_meaning.specs.Expressions as meaning
use Rattle.c_meaning.specs.World.{Does, ask, as_done, ◌>>=◌, pure}
use Rattle.ms_emit.specs.Codes.{Code, one, ◌⨾◌}
use Rattle.c_code.specs.Expressions.{pointers_compared}
use Rattle.c_code.specs.Operations.{eqz}
use Rattle.c_numbers.specs.Operands.{carried, word}
use Rattle.ms_relate.specs.refinement.Homes as homes
use Rattle.ms_relate.specs.refinement.Homes.{Home, handle}
use Rattle.ms_relate.proofs.Acts.{act_gives, eq_acts}
use Rattle.ms_relate.proofs.Growing.{Extends}
use Rattle.c_runs.specs.Words.{pushed}
use Rattle.c_runs.proofs.Goes as goes
use Rattle.c_runs.proofs.Goes.{RunsTo, one_here}
use Rattle.c_runs.proofs.Values.{IsOf, value_still, word_of, word_still}
use Rattle.c_runs.proofs.Related.{Env, IsValue, extends_trans, frame_of, pushes}
use Rattle.c_runs.proofs.Ops.{GoodIn, OpIn, Stack, ToIn, at_work, op_any, op_carried, op_look_in, op_over_in, op_seen_in, op_then_in, same}
use Rattle.c_runs.proofs.Nodes.{Leaves}
use Rattle.c_runs.proofs.Operations.{truth_in}
use Rattle.c_runs.proofs.Cells.{pointer_word}
use Rattle.c_runs.proofs.Scalars.{no_null, tests}

bit_is : (r : Bool) (vs : List Word) → (I32 (bit r) ∷ vs) ≡ pushed (integer Int) (meaning.truth r) vs
bit_is true vs = refl
bit_is false vs = refl

turned : (r : Bool) (vs : List Word) → carried eqz (I32 (bit r) ∷ vs) ≡ operate.Gives (word Int (from_truth (not r)) ∷ vs)
turned true vs = refl
turned false vs = refl

abbrev IsNothing : List Home → Value → Type 0
IsNothing hs v = (r : Bool) × (is_no_handle (handle hs v) ≡ r) × ((os : List Object) → same_place os v null ≡ objects.gives r)

nothing_is : (table : Table) (places : Ty → ℕ → ℕ) (hs : List Home) (t : Ty) (v : Value) → is_function t ≡ false → homes.IsOf table places hs (pointer t) v → IsNothing hs v
nothing_is table places hs t v d (homes.is_null e) = (true, refl, λ os. refl)
nothing_is table places hs t v d (homes.is_invalid e) = (false, refl, λ os. refl)
nothing_is table places hs t v d (homes.is_pointer {p = p} h s e at span shape near) = (false, no_null (slice_get hs p.object) p, λ os. refl)
nothing_is table places hs t v d (homes.is_named e lt) = absurd (let z : false ≡ true = sym d ∙ e in cc)
nothing_is table places hs t v d (homes.is_no_function e) = absurd (let z : false ≡ true = sym d ∙ e in cc)

module _ (E : Env) (t : Ty) (data_is : is_function t ≡ false) where
  abbrev I : List Home → Value → Stack
  I hs = pushed (integer Int)

  abbrev Is : List Home → Value → Type 0
  Is hs = IsOf (integer Int)

  abbrev bits : List Home → Bool → Stack
  bits hs r vs = I32 (bit r) ∷ vs

  abbrev Any : {A : Type 0} → List Home → A → Type 0
  Any hs a = Unit {0}

  abbrev two : List Home → List Home → Value → Value → Stack
  two gs hs p q vs = pushes E (pointer t) hs q (pushes E (pointer t) gs p vs)

  equal_step : (gs hs : List Home) → Extends gs hs → (p q : Value) → IsValue E (pointer t) gs p → IsValue E (pointer t) hs q → OpIn E hs (one (Segment segment.Eq)) (two gs hs p q) bits Any (ask (λ os. same_place os p q))
  equal_step gs hs grown p q okp okq n has now le vs r dep w m k ag =
      let more = extends_trans hs now.homes m.homes le.grown k.grown in
      let far = extends_trans gs hs m.homes grown more in
      let p' = value_still E.unit.structs E.places gs m.homes far (pointer t) p okp in
      let q' = value_still E.unit.structs E.places hs m.homes more (pointer t) q okq in
      let f = eq_acts E.unit.structs E.places m.homes m.segments w.objects t t p q k.related data_is data_is p' q' in
      let p_is : word_of E.places (pointer t) gs p ≡ Handle (handle m.homes p) = sym (word_still E.unit.structs E.places gs m.homes far (pointer t) p okp) ∙ pointer_word E t m.homes p data_is in
      let q_is : word_of E.places (pointer t) hs q ≡ Handle (handle m.homes q) = sym (word_still E.unit.structs E.places hs m.homes more (pointer t) q okq) ∙ pointer_word E t m.homes q data_is in
      let fr = frame_of E m w in
      let pre = two gs hs p q vs in
      subst (λ (y : objects.Outcome Bool). RunsTo E.site 1 m (at_work E m w pre (Rattle.ms_task.specs.Thread.Do (Segment segment.Eq) ∷ r)) w (ToIn E bits vs r) (GoodIn E Any now) (as_done y w)) (sym f.1) (
        m,
        (tt, k),
        one_here E.site w m m (Segment segment.Eq) fr pre r (thread fr (I32 (bit f.0) ∷ vs) r)
            (ap (λ (x : Word). act (goes.store E.site m) (Segment segment.Eq) (thread fr (x ∷ word_of E.places (pointer t) gs p ∷ vs) r)) q_is
            ∙ ap (λ (x : Word). act (goes.store E.site m) (Segment segment.Eq) (thread fr (Handle (handle m.homes q) ∷ x ∷ vs) r)) p_is
            ∙ act_gives (goes.store E.site m) fr r segment.Eq (Handle (handle m.homes q) ∷ Handle (handle m.homes p) ∷ vs) (I32 (bit f.0) ∷ vs) m.segments None (f.2 vs)),
      )

  -- a truth value that is turned, or not
  abbrev ending : Bool → Code → Code
  ending true c = c ⨾ one eqz
  ending false c = c

  abbrev ended : Bool → Bool → Value
  ended true r = meaning.truth (not r)
  ended false r = meaning.truth r

  ends_in : (turn : Bool) (hs : List Home) (c : Code) (pre : Stack) (x : Does Bool) → OpIn E hs c pre bits Any x → OpIn E hs (ending turn c) pre I Is (x >>= (λ r. pure (ended turn r)))
  ends_in true hs c pre x h =
      op_then_in E hs c (one eqz) pre bits I Any Is x (λ r. pure (meaning.truth (not r))) h
      (λ js more r ok.
      op_any E js (one eqz) (λ vs. I32 (bit r) ∷ vs) I Is (pure (meaning.truth (not r)))
      (op_carried E eqz (λ vs. I32 (bit r) ∷ vs) (pushed (integer Int)) (IsOf (integer Int)) (meaning.truth (not r)) (truth_in (not r)) (λ vs. turned r vs)))
  ends_in false hs c pre x h = op_look_in E hs c pre bits I Any Is x (λ r. pure (meaning.truth r)) h (λ js more r ok. (meaning.truth r, refl, λ vs. bit_is r vs, truth_in r))

  module _ (turn : Bool) (a b : Code) (x y : Does Value) (ra : Leaves E a (pointer t) x) where
    abbrev pub whole : Does Value
    whole = x >>= (λ p. y >>= (λ q. ask (λ os. same_place os p q) >>= (λ r. pure (ended turn r))))

    pub two_equal : Leaves E b (pointer t) y → OpIn E [] (a ⨾ (b ⨾ ending turn (one (Segment segment.Eq)))) same I Is whole
    two_equal rb =
        op_then_in E [] a (b ⨾ ending turn (one (Segment segment.Eq))) same (pushes E (pointer t)) I (IsValue E (pointer t)) Is x (λ p. y >>= (λ q. ask (λ os. same_place os p q) >>= (λ r. pure (ended turn r)))) ra
        (λ gs grown p okp.
        op_then_in E gs b (ending turn (one (Segment segment.Eq))) (pushes E (pointer t) gs p) (λ hs q vs. two gs hs p q vs) I (IsValue E (pointer t)) Is y (λ q. ask (λ os. same_place os p q) >>= (λ r. pure (ended turn r)))
        (op_over_in E gs b same (pushes E (pointer t) gs p) (pushes E (pointer t)) (IsValue E (pointer t)) y (op_any E gs b same (pushes E (pointer t)) (IsValue E (pointer t)) y rb))
        (λ hs grown' q okq. ends_in turn hs (one (Segment segment.Eq)) (two gs hs p q) (ask (λ os. same_place os p q)) (equal_step gs hs grown' p q okp okq)))

    -- against null
    pub one_equal : y ≡ pure null → OpIn E [] (a ⨾ ending turn (one (Segment segment.IsNull))) same I Is whole
    one_equal e =
        subst (λ (z : Does Value). OpIn E [] (a ⨾ ending turn (one (Segment segment.IsNull))) same I Is (x >>= (λ p. z >>= (λ q. ask (λ os. same_place os p q) >>= (λ r. pure (ended turn r)))))) (sym e)
        (op_then_in E [] a (ending turn (one (Segment segment.IsNull))) same (pushes E (pointer t)) I (IsValue E (pointer t)) Is x (λ p. ask (λ os. same_place os p null) >>= (λ r. pure (ended turn r))) ra
        (λ gs grown p okp. by gs p (nothing_is E.unit.structs E.places gs t p data_is okp)))
      where
        by : (gs : List Home) (p : Value) → IsNothing gs p → OpIn E gs (ending turn (one (Segment segment.IsNull))) (pushes E (pointer t) gs p) I Is (ask (λ os. same_place os p null) >>= (λ r. pure (ended turn r)))
        by gs p q =
            ends_in turn gs (one (Segment segment.IsNull)) (pushes E (pointer t) gs p) (ask (λ os. same_place os p null))
            (op_seen_in E gs (one (Segment segment.IsNull)) (pushes E (pointer t) gs p) bits Any (pure (tt {0}) >>= (λ u. pure q.0)) (ask (λ os. same_place os p null)) (λ w. ap (λ (o : objects.Outcome Bool). as_done o w) (sym (q.2 w.objects)))
            (op_look_in E gs (one (Segment segment.IsNull)) (pushes E (pointer t) gs p) (λ hs u vs. I32 (bit q.0) ∷ vs) bits Any Any (pure (tt {0})) (λ u. pure q.0) (tests E t data_is gs p q.0 q.1) (λ js more u ok. (q.0, refl, λ vs. refl, tt))))

  pub equal_runs : (nothing : Bool) (a b : Code) (x y : Does Value) → (nothing ≡ true → y ≡ pure null) → Leaves E a (pointer t) x → Leaves E b (pointer t) y
      → Leaves E (pointers_compared relations.Equal nothing a b) (integer Int) (x >>= (λ p. y >>= (λ q. ask (λ os. same_place os p q) >>= (λ r. pure (meaning.truth r)))))
  equal_runs true a b x y e ra rb = one_equal false a b x y ra (e refl)
  equal_runs false a b x y e ra rb = two_equal false a b x y ra rb

  pub unequal_runs : (nothing : Bool) (a b : Code) (x y : Does Value) → (nothing ≡ true → y ≡ pure null) → Leaves E a (pointer t) x → Leaves E b (pointer t) y
      → Leaves E (pointers_compared relations.NotEqual nothing a b) (integer Int) (x >>= (λ p. y >>= (λ q. ask (λ os. same_place os p q) >>= (λ r. pure (meaning.truth (not r))))))
  unequal_runs true a b x y e ra rb = one_equal true a b x y ra (e refl)
  unequal_runs false a b x y e ra rb = two_equal true a b x y ra rb
