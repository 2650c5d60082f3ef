-- What operators on values and on operands make has a type.
use Rattle.std.proofs.Common.{◌≡◌, sym, subst, refl, Bool, true, false, Option, Some, None, if◌then◌else◌}
use Rattle.std.proofs.lemmas.Option.{none-some, same_Some}
use Rattle.c_types.specs.declared.integers.IntType.{IntType}
use Rattle.c_types.specs.declared.integers.IntType.TheVariants.{Int, LongLong}
use Rattle.c_types.specs.Integers.{promoted, common}
use Rattle.c_types.specs.Types.{Ty, void, integer, pointer, is_function}
use Rattle.c_typed.specs.declared.ops.BinaryOp.{BinaryOp}
use Rattle.c_typed.specs.declared.ops.BinaryOp.TheVariants as ops
use Rattle.c_typed.specs.declared.ops.RelOp.{RelOp}
use Rattle.c_typed.specs.Tree as to
use Rattle.c_typed.specs.Tree.{Expr}
use Rattle.c_check_types.specs.State.{State, pure, ◌>>=◌, and_then}
use Rattle.c_check_types.specs.TypeEquality.{same_type}
use Rattle.c_check_types.specs.Types.{size_of}
use Rattle.c_conversions.specs.Conversions as form
use Rattle.c_conversions.specs.Conversions.{Form, value, zero, at_type, null_of}
use Rattle.c_typed.specs.Forms.{promoted_value, at_one_type, arithmetic, shift, compared}
use Rattle.c_operators.specs.Operations.{moved, moved_by, difference, equal_pointers, sum, minus, ordered_pointers, order, Both, integers, pointers, voids, beside, equality_of, equality, chosen, choice_of, choice}
use Rattle.c_typed.specs.refinement.Types.{IsValue, IsType}
use Rattle.c_typed.specs.refinement.Expressions.{HasType, IsCondition, IsPromoted}
use Rattle.c_check.proofs.States.{context, Good, Quiet, Does}
use Rattle.c_check.proofs.Extension.{quiet-same}
use Rattle.c_check.proofs.Rules.{ends, only-then}
use Rattle.c_check.proofs.Integers.{same-type, promoted-twice, common-promoted, zero-fits}
use Rattle.c_check.proofs.Conversions.{IsTyped, IsInteger, IsForm, none-does, sized, at_type-is, null-is}

-- ---- operators on integers

pub promoted_value-is : (v : Expr × IntType) (s : State) → IsInteger s v → HasType (context s) (promoted_value v) (integer (promoted v.1))
promoted_value-is (e, t) s h = at_type-is (context s) t (promoted t) e h

at_one_type-is : (op : BinaryOp) (c : IntType) (x y : Expr × IntType) (s : State) → IsPromoted c → IsInteger s x → IsInteger s y → IsForm s (at_one_type op c x y)
at_one_type-is op c (a, t) (b, u) s i h k =
    (tt, tt, (refl, i, at_type-is (context s) t c a h, at_type-is (context s) u c b k))

pub arithmetic-is : (op : BinaryOp) (x y : Expr × IntType) (s : State) → IsInteger s x → IsInteger s y → IsForm s (arithmetic op x y)
arithmetic-is op x y s h k =
    at_one_type-is op (common x.1 y.1) x y s (common-promoted x.1 y.1) h k

pub shift-is : (op : BinaryOp) (x y : Expr × IntType) (s : State) → IsInteger s x → IsInteger s y → IsForm s (shift op x y)
shift-is op x y s h k =
    at_one_type-is op (promoted x.1) x y s (promoted-twice x.1) h k

compared-is : (op : RelOp) (x y : Expr × IntType) (s : State) → IsInteger s x → IsInteger s y → IsForm s (compared op x y)
compared-is op (a, t) (b, u) s h k =
    let c = common t u in
    (tt, tt, (refl, common-promoted t u, at_type-is (context s) t c a h, at_type-is (context s) u c b k))

-- ---- operators on pointers (6.5.6, 6.5.8, 6.5.9)

moved-does : (back : Bool) (p i : Expr) (t : Ty) (u : IntType) (s : State) → Good s → IsTyped s (p, pointer t) → HasType (context s) i (integer u)
    → Does Quiet (moved back (p, t) (i, u)) s IsForm
moved-does back p i t u s g h k =
    let e = value (to.move t back p (at_type u LongLong i)) (pointer t) in
    sized t (λ n. pure e) s IsForm
    (λ n small q. ends Quiet e s s IsForm g (quiet-same s) (h.0, tt, (refl, small, h.2, at_type-is (context s) u LongLong i k)))

moved_by-does : (i p : Expr) (u : IntType) (t : Ty) (s : State) → Good s → HasType (context s) i (integer u) → IsTyped s (p, pointer t)
    → Does Quiet (moved_by (i, u) (p, t)) s IsForm
moved_by-does i p u t s g k h =
    let e = value (to.move_by t (at_type u LongLong i) p) (pointer t) in
    sized t (λ n. pure e) s IsForm
    (λ n small q. ends Quiet e s s IsForm g (quiet-same s) (h.0, tt, (refl, small, at_type-is (context s) u LongLong i k, h.2)))

difference-does : (p q : Expr) (t u : Ty) (s : State) → Good s → IsTyped s (p, pointer t) → IsTyped s (q, pointer u)
    → Does Quiet (difference (p, t) (q, u)) s IsForm
difference-does p q t u s g h k =
    let e = value (to.difference t p q) (integer LongLong) in
    only-then Quiet (same_type t u) (size_of t >>= (λ n. pure e)) s IsForm
    (λ is. sized t (λ n. pure e) s IsForm
    (λ n small m. ends Quiet e s s IsForm g (quiet-same s)
    (tt, tt, (refl, small, h.2, subst (λ v. HasType (context s) q (pointer v)) (sym (same-type t u is)) k.2))))

equal_pointers-is : (op : RelOp) (t : Ty) (p q : Expr) (s : State) → HasType (context s) p (pointer t) → HasType (context s) q (pointer t)
    → (b : Bool) → is_function t ≡ b → IsForm s (equal_pointers op b p q)
equal_pointers-is op t p q s h k true e = (tt, tt, (t, refl, e, h, k))
equal_pointers-is op t p q s h k false e = (tt, tt, (t, refl, e, h, k))

-- ---- operators on two values

pub sum-does : (x y : Expr × Ty) (s : State) → Good s → IsTyped s x → IsTyped s y → Does Quiet (sum x y) s IsForm
sum-does (a, integer t) (b, integer u) s g h k =
    ends Quiet (arithmetic ops.Add (a, t) (b, u)) s s IsForm g (quiet-same s) (arithmetic-is ops.Add (a, t) (b, u) s h.2 k.2)
sum-does (a, pointer t) (b, integer u) s g h k = moved-does false a b t u s g h k.2
sum-does (a, integer t) (b, pointer u) s g h k = moved_by-does a b t u s g h.2 k
sum-does x y s g h k = none-does s IsForm

pub minus-does : (x y : Expr × Ty) (s : State) → Good s → IsTyped s x → IsTyped s y → Does Quiet (minus x y) s IsForm
minus-does (a, integer t) (b, integer u) s g h k =
    ends Quiet (arithmetic ops.Sub (a, t) (b, u)) s s IsForm g (quiet-same s) (arithmetic-is ops.Sub (a, t) (b, u) s h.2 k.2)
minus-does (a, pointer t) (b, integer u) s g h k = moved-does true a b t u s g h k.2
minus-does (a, pointer t) (b, pointer u) s g h k = difference-does a b t u s g h k
minus-does x y s g h k = none-does s IsForm

-- pointers to the same type, in order
ordered-is : (op : RelOp) (t : Ty) (p q : Expr) (s : State) → HasType (context s) p (pointer t) → HasType (context s) q (pointer t)
    → (b : Bool) → is_function t ≡ b → (f : Form) → ordered_pointers op b p q ≡ Some f → IsForm s f
ordered-is op t p q s h k true i f e = absurd (none-some f e)
ordered-is op t p q s h k false i f e =
    subst (λ x. IsForm s x) (same_Some (value (to.compare_pointers op p q) (integer Int)) f e) (tt, tt, (t, refl, i, h, k))

pointers-ordered : (op : RelOp) (t u : Ty) (p q : Expr) (s : State) → HasType (context s) p (pointer t) → HasType (context s) q (pointer u)
    → (b : Bool) → same_type t u ≡ b → (f : Form) → (if b then ordered_pointers op (is_function t) p q else None) ≡ Some f → IsForm s f
pointers-ordered op t u p q s h k true i f e =
    ordered-is op t p q s h (subst (λ v. HasType (context s) q (pointer v)) (sym (same-type t u i)) k) (is_function t) refl f e
pointers-ordered op t u p q s h k false i f e = absurd (none-some f e)

pub order-is : (op : RelOp) (x y : Expr × Ty) (s : State) → IsTyped s x → IsTyped s y → (f : Form) → order op x y ≡ Some f → IsForm s f
order-is op (a, integer t) (b, integer u) s h k f e =
    subst (λ x. IsForm s x) (same_Some (compared op (a, t) (b, u)) f e) (compared-is op (a, t) (b, u) s h.2 k.2)
order-is op (a, pointer t) (b, pointer u) s h k f e =
    pointers-ordered op t u a b s h.2 k.2 (same_type t u) refl f e
order-is op x y s h k f e = absurd (none-some f e)

-- ---- two operands beside each other (6.5.9, 6.5.15)

abbrev pub IsBoth : State → Both → Type 0
IsBoth s (integers a t b u) =
    HasType (context s) a (integer t) × HasType (context s) b (integer u)
IsBoth s (pointers t a b) =
    IsType s.structs (pointer t) × HasType (context s) a (pointer t) × HasType (context s) b (pointer t)
IsBoth s (voids a b) = HasType (context s) a void × HasType (context s) b void

both-is : (s : State) (p q : Both) → Some p ≡ Some q → IsBoth s p → IsBoth s q
both-is s p q e h = subst (λ x. IsBoth s x) (same_Some p q e) h

pointers-beside : (t u : Ty) (a b : Expr) (p : Both) (s : State) → IsTyped s (a, pointer t) → IsTyped s (b, pointer u)
    → (is : Bool) → same_type t u ≡ is → (if is then Some (pointers t a b) else None) ≡ Some p → IsBoth s p
pointers-beside t u a b p s h k true i e =
    both-is s (pointers t a b) p e (h.0, h.2, subst (λ v. HasType (context s) b (pointer v)) (sym (same-type t u i)) k.2)
pointers-beside t u a b p s h k false i e = absurd (none-some p e)

beside-is : (x y : Form) (p : Both) (s : State) → IsForm s x → IsForm s y → beside x y ≡ Some p → IsBoth s p
beside-is (value a (integer t)) (value b (integer u)) p s h k e =
    both-is s (integers a t b u) p e (h.2, k.2)
beside-is (value a (integer t)) (zero u) p s h k e =
    both-is s (integers a t (to.number u 0) u) p e (h.2, (refl, zero-fits u))
beside-is (zero t) (value b (integer u)) p s h k e =
    both-is s (integers (to.number t 0) t b u) p e ((refl, zero-fits t), k.2)
beside-is (zero t) (zero u) p s h k e =
    both-is s (integers (to.number t 0) t (to.number u 0) u) p e ((refl, zero-fits t), (refl, zero-fits u))
beside-is (value a (pointer t)) (value b (pointer u)) p s h k e =
    pointers-beside t u a b p s h k (same_type t u) refl e
beside-is (value a (pointer t)) (zero u) p s h k e =
    both-is s (pointers t a (null_of t)) p e (h.0, h.2, null-is (context s) t h.0)
beside-is (value a (pointer t)) form.null p s h k e =
    both-is s (pointers t a (null_of t)) p e (h.0, h.2, null-is (context s) t h.0)
beside-is (zero t) (value b (pointer u)) p s h k e =
    both-is s (pointers u (null_of u) b) p e (k.0, null-is (context s) u k.0, k.2)
beside-is form.null (value b (pointer u)) p s h k e =
    both-is s (pointers u (null_of u) b) p e (k.0, null-is (context s) u k.0, k.2)
beside-is (value a void) (value b void) p s h k e = both-is s (voids a b) p e (h.2, k.2)
beside-is x y p s h k e = absurd (none-some p e)

-- equality (6.5.9)
equal-is : (op : RelOp) (p : Both) (f : Form) (s : State) → IsBoth s p → equality_of op p ≡ Some f → IsForm s f
equal-is op (integers a t b u) f s h e =
    subst (λ x. IsForm s x) (same_Some (compared op (a, t) (b, u)) f e) (compared-is op (a, t) (b, u) s h.0 h.1)
equal-is op (pointers t a b) f s h e =
    subst (λ x. IsForm s x) (same_Some (equal_pointers op (is_function t) a b) f e) (equal_pointers-is op t a b s h.1 h.2 (is_function t) refl)
equal-is op (voids a b) f s h e = absurd (none-some f e)

pub equality-is : (op : RelOp) (x y : Form) (s : State) → IsForm s x → IsForm s y → (f : Form) → equality op x y ≡ Some f → IsForm s f
equality-is op x y s h k f e = behind (beside x y) refl e where
  behind : (o : Option Both) → beside x y ≡ o → and_then o (λ p. equality_of op p) ≡ Some f → IsForm s f
  behind None is q = absurd (none-some f q)
  behind (Some p) is q = equal-is op p f s (beside-is x y p s h k is) q

-- `c ? x : y` (6.5.15)
chosen-is : (c : Expr) (t : Ty) (a b : Expr) (s : State) → IsCondition (context s) c → IsType s.structs t → IsValue t
    → HasType (context s) a t → HasType (context s) b t → IsForm s (chosen c t a b)
chosen-is c t a b s h i v p q = (i, v, (h.0, refl, h.1, h.2, p, q))

choice_of-is : (c : Expr) (p : Both) (s : State) → IsCondition (context s) c → IsBoth s p → IsForm s (choice_of c p)
choice_of-is c (integers a t b u) s h k =
    let v = common t u in
    chosen-is c (integer v) (at_type t v a) (at_type u v b) s h tt tt (at_type-is (context s) t v a k.0) (at_type-is (context s) u v b k.1)
choice_of-is c (pointers t a b) s h k = chosen-is c (pointer t) a b s h k.0 tt k.1 k.2
choice_of-is c (voids a b) s h k = chosen-is c void a b s h tt tt k.0 k.1

pub choice-is : (c : Expr) (x y : Form) (s : State) → IsCondition (context s) c → IsForm s x → IsForm s y → (f : Form) → choice c x y ≡ Some f → IsForm s f
choice-is c x y s i h k f e = behind (beside x y) refl e where
  behind : (o : Option Both) → beside x y ≡ o → and_then o (λ p. Some (choice_of c p)) ≡ Some f → IsForm s f
  behind None is q = absurd (none-some f q)
  behind (Some p) is q =
      subst (λ v. IsForm s v) (same_Some (choice_of c p) f q) (choice_of-is c p s i (beside-is x y p s h k is))
