-- Assignments and casts give forms of which is known what has to be.
use Rattle.std.proofs.Common.{◌≡◌, sym, subst, refl, ℕ, Bool, false, Option, Some, None, arith}
use Rattle.std.proofs.lemmas.Option.{none-some, same_Some}
use Rattle.c_types.specs.declared.integers.IntType.{IntType}
use Rattle.c_types.specs.declared.integers.IntType.TheVariants.{Int, LongLong}
use Rattle.c_types.specs.declared.types.Scalar.{Scalar}
use Rattle.c_types.specs.Integers.{promoted, common}
use Rattle.c_types.specs.Layout.{IsSmall}
use Rattle.c_types.specs.Types.{Ty, void, integer, struct, pointer, scalar_of}
use Rattle.c_typed.specs.declared.ops.BinaryOp.{BinaryOp}
use Rattle.c_typed.specs.declared.ops.BinaryOp.TheVariants as ops
use Rattle.c_typed.specs.Tree as to
use Rattle.c_typed.specs.Tree.{Place}
use Rattle.c_check_types.specs.declared.operators.Operator.{Operator}
use Rattle.c_check_types.specs.declared.operators.Operator.TheVariants.{Arithmetic, Shift, Plus, Minus}
use Rattle.c_check_types.specs.State.{State, Rule, pure, ◌>>=◌}
use Rattle.c_check_types.specs.TypeEquality.{same_type}
use Rattle.c_check_types.specs.Types.{size_of}
use Rattle.c_conversions.specs.Conversions.{Form, value, at_type}
use Rattle.c_check_exprs.specs.Expressions.{copied, stored, assigned, worked, goes_back, updated, assigning, stepped, a_step, cast}
use Rattle.c_typed.specs.refinement.Types.{IsValue, IsType}
use Rattle.c_typed.specs.refinement.Expressions.{IsPlace, IsPromoted}
use Rattle.c_check.proofs.States.{context, Good, Quiet, Does}
use Rattle.c_check.proofs.Extension.{quiet-same}
use Rattle.c_check.proofs.Rules.{ends, given-then, only-then, quietly}
use Rattle.c_check.proofs.Integers.{same-type, promoted-twice, common-promoted}
use Rattle.c_check.proofs.Conversions.{IsInteger, IsPlaced, IsForm, none-does, sized, at_type-is, integer_of-does, place_of-does, assigned_to-does, thrown_away-does}
use Rattle.c_check.proofs.Uses.{type-stays, place-stays, placed-stays, GivesForms}

-- ---- assignments (6.5.16, 6.5.2.4, 6.5.3.1)

copied-does : (n : ℕ) (p q : Place) (t : Ty) (s : State) → Good s → IsPlace (context s) p (struct n) → IsPlace (context s) q t → Does Quiet (copied n p (q, t)) s IsForm
copied-does n p q t s g h k =
    only-then Quiet (same_type (struct n) t) (size_of t >>= (λ m. pure (value (to.copy n p q) void))) s IsForm
    (λ is. sized t (λ m. pure (value (to.copy n p q) void)) s IsForm
    (λ m small e. let back = sym (same-type (struct n) t is) in
    ends Quiet (value (to.copy n p q) void) s s IsForm g (quiet-same s)
    (tt, tt, (refl, subst (λ u. IsSmall s.structs u) back small, h, subst (λ u. IsPlace (context s) q u) back k))))

scalar-value : (t : Ty) (s : Scalar) → scalar_of t ≡ Some s → IsValue t
scalar-value void s e = tt
scalar-value (integer t) s e = tt
scalar-value (pointer t) s e = tt
scalar-value t s e = absurd (none-some s e)

stored-does : (p : Place) (t : Ty) (f : Form) (s : State) → Good s → IsPlaced s (p, t) → IsForm s f → Does Quiet (stored p t f) s IsForm
stored-does p t f s g h k =
    given-then Quiet (scalar_of t) _ s IsForm
    (λ c is. quietly s (assigned_to-does t f s g h.0 k)
    (λ e u good r a. ends Quiet (value (to.assign c p e) t) u u IsForm good (quiet-same u)
    (type-stays s u r t h.0, scalar-value t c is, (is, place-stays s u r p t h.3, a.1))))

assigned-does : (p : Place × Ty) (f : Form) (s : State) → Good s → IsPlaced s p → IsForm s f → Does Quiet (assigned p f) s IsForm
assigned-does (p, struct n) f s g h k =
    quietly s (place_of-does f s g k)
    (λ q t good r a. copied-does n p q.0 q.1 t good (place-stays s t r p (struct n) h.3) a.3)
assigned-does (p, t) f s g h k = stored-does p t f s g h k

-- the type at which `op=` works is one that arithmetic works at
worked-is : (op : Operator) (t u : IntType) (w : BinaryOp × IntType) → worked op t u ≡ Some w → IsPromoted w.1
worked-is (Arithmetic op) t u w e =
    subst (λ x. IsPromoted x.1) (same_Some (op, common t u) w e) (common-promoted t u)
worked-is (Shift op) t u w e =
    subst (λ x. IsPromoted x.1) (same_Some (op, promoted t) w e) (promoted-twice t)
worked-is Plus t u w e =
    subst (λ x. IsPromoted x.1) (same_Some (ops.Add, common t u) w e) (common-promoted t u)
worked-is Minus t u w e =
    subst (λ x. IsPromoted x.1) (same_Some (ops.Sub, common t u) w e) (common-promoted t u)
worked-is op t u w e = absurd (none-some w e)

updated-does : (old : Bool) (op : Operator) (p : Place × Ty) (v : to.Expr × IntType) (s : State) → Good s → IsPlaced s p → IsInteger s v → Does Quiet (updated old op p v) s IsForm
updated-does old op (p, integer t) (e, u) s g h k =
    given-then Quiet (worked op t u) _ s IsForm
    (λ w is. ends Quiet (value (to.update old t w.0 w.1 p (at_type u w.1 e)) (integer t)) s s IsForm g (quiet-same s)
    (tt, tt, (refl, worked-is op t u w is, h.3, at_type-is (context s) u w.1 e k)))
updated-does old op (p, pointer t) (e, u) s g h k =
    given-then Quiet (goes_back op) (λ back. size_of t >>= (λ n. pure (value (to.advance old t back p (at_type u LongLong e)) (pointer t)))) s IsForm
    (λ back is. sized t (λ n. pure (value (to.advance old t back p (at_type u LongLong e)) (pointer t))) s IsForm
    (λ n small m. ends Quiet (value (to.advance old t back p (at_type u LongLong e)) (pointer t)) s s IsForm g (quiet-same s)
    (h.0, tt, (refl, small, h.3, at_type-is (context s) u LongLong e k))))
updated-does old op p v s g h k = none-does s IsForm

-- `=`, and `op=`
pub assigning-does : (o : Option Operator) (p : Place × Ty) (f : Form) (s : State) → Good s → IsPlaced s p → IsForm s f → Does Quiet (assigning o p f) s IsForm
assigning-does None p f s g h k = assigned-does p f s g h k
assigning-does (Some op) p f s g h k =
    quietly s (integer_of-does f s g k)
    (λ v t good r a. updated-does false op p v t good (placed-stays s t r p h) a)

-- by 1
stepped-does : (old : Bool) (op : Operator) (f : Form) (s : State) → Good s → IsForm s f → Does Quiet (stepped old op f) s IsForm
stepped-does old op f s g h =
    quietly s (place_of-does f s g h)
    (λ p t good r k. updated-does old op p (to.number Int 1, Int) t good k (refl, omega arith))

pub a_step-does : (old : Bool) (op : Operator) (rule : Rule Form) → GivesForms rule → GivesForms (a_step old op rule)
a_step-does old op rule d s g =
    quietly s (d s g) (λ x t good r k. stepped-does old op x t good k)

-- ---- a cast of a form (6.5.4)

pub cast-does : (t : Ty) (f : Form) (s : State) → Good s → IsType s.structs t → IsForm s f → Does Quiet (cast t f) s IsForm
cast-does void f s g i h =
    quietly s (thrown_away-does f s g h)
    (λ e t good r k. ends Quiet (value (to.discard e) void) t t IsForm good (quiet-same t) (tt, tt, (k.0, refl, k.1)))
cast-does (integer t) f s g i h =
    quietly s (integer_of-does f s g h)
    (λ v u good r k. ends Quiet (value (at_type v.1 t v.0) (integer t)) u u IsForm good (quiet-same u) (tt, tt, at_type-is (context u) v.1 t v.0 k))
cast-does (pointer t) f s g i h =
    quietly s (assigned_to-does (pointer t) f s g i h)
    (λ e u good r k. ends Quiet (value e (pointer t)) u u IsForm good (quiet-same u) (type-stays s u r (pointer t) i, tt, k.1))
cast-does t f s g i h = none-does s IsForm
