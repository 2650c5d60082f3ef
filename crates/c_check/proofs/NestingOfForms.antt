-- Rules that keep a bound on how deep blocks nest in what is made so far, and what the uses of forms and operators nest.
use Rattle.std.proofs.Common.{ℕ, ◌+◌, max, ◌≤◌, Bool, true, false, List, [], ◌∷◌, ◌++◌, nat_le, Option, Some, None, if◌then◌else◌, arith}
use Rattle.c_types.specs.declared.integers.IntType.{IntType}
use Rattle.c_types.specs.declared.integers.IntType.TheVariants.{LongLong}
use Rattle.c_types.specs.declared.types.Scalar.TheVariants as scalars
use Rattle.c_types.specs.Integers.{bits, promoted, common}
use Rattle.c_types.specs.Types.{Ty, void, integer, struct, pointer, array, function, is_function}
use Rattle.c_typed.specs.declared.ops.BinaryOp.{BinaryOp}
use Rattle.c_typed.specs.declared.ops.BinaryOp.TheVariants as ops
use Rattle.c_typed.specs.declared.ops.RelOp.{RelOp}
use Rattle.c_typed.specs.Forms.{promoted_value, at_one_type, arithmetic, shift, compared}
use Rattle.c_operators.specs.Operations.{moved, moved_by, difference, equal_pointers, sum, minus, ordered_pointers, order, Both, integers, pointers, voids, beside, equality_of, equality, choice_of, choice}
use Rattle.c_typed.specs.Tree as to
use Rattle.c_typed.specs.Tree.{Expr, Place}
use Rattle.c_typed.specs.refinement.Nesting.{place_nesting, expr_nesting, deepest, made_nesting, function_nesting}
use Rattle.c_check_types.specs.State.{State, Rule, followed, ◌>>=◌, pure, none, given, only_if, and_then}
use Rattle.c_check_types.specs.TypeEquality.{same_integer, same_type}
use Rattle.c_check_types.specs.Types.{measured, size_of}
use Rattle.c_conversions.specs.Conversions as form
use Rattle.c_conversions.specs.Conversions.{Amount, bytes, product, Form, place, value, designator, text, zero, allocation, literal_pointer, read_place, operand, plain, value_of, as_integer, integer_of, as_pointer, pointer_of, as_place, place_of, at_type, condition, condition_of, null_of, to_integer, to_pointer, allocation_of, allocated, assigned_to, thrown_away}

-- ---- bounds

pub nil : {n : ℕ} → 0 ≤ n
nil = omega arith

pub both : {a b n : ℕ} → a ≤ n → b ≤ n → max a b ≤ n
both p q = omega arith

pub deepest-more : {A : Type 0} (nesting : A → ℕ) (xs : List A) (x : A) {m : ℕ} → deepest nesting xs ≤ m → nesting x ≤ m → deepest nesting (xs ++ x ∷ []) ≤ m
deepest-more nesting [] x h k = both k h
deepest-more nesting (y ∷ ys) x h k = both (omega arith) (deepest-more nesting ys x (omega arith) k)

-- ---- rules

-- what is made at a state nests at most so deep
abbrev pub Fits : ℕ → State → Type 0
Fits m s = (deepest made_nesting s.made ≤ m) × (deepest function_nesting s.functions ≤ m)

-- of an answer of which nothing is said
abbrev pub Any : {A : Type 0} → A → Type 0
Any a = Unit {0}

-- of what an option has, where it has something
abbrev pub Holds : {A : Type 0} → Option A → (A → Type 0) → Type 0
Holds None P = Unit {0}
Holds (Some a) P = P a

-- if there is an answer, what is made so far nests at most so deep, and the answer has this property
pub record After {A : Type 0} (m : ℕ) (o : Option (A × State)) (P : A → Type 0) : Type 0 where
  pub holds : Holds o (λ x. Fits m x.1 × P x.0)

-- so it is at each state at which what is made so far nests at most so deep
pub record Gives {A : Type 0} (m : ℕ) (rule : Rule A) (P : A → Type 0) : Type 0 where
  pub after : (s : State) → Fits m s → After m (rule s) P

-- Rules one behind the other: `step` at a state that is known, `onward` at any. `done` and `ends` are answers.
module _ {m : ℕ} where
  pub step : {A B : Type 0} {o : Option (A × State)} {next : A → Rule B} {P : A → Type 0} {Q : B → Type 0} → After m o P → ((a : A) → P a → Gives m (next a) Q)
      → After m (followed o next) Q
  step {A = A} {o = o} {next = next} {P = P} {Q = Q} does more = behind o does.holds where
    behind : (o : Option (A × State)) → Holds o (λ x. Fits m x.1 × P x.0) → After m (followed o next) Q
    behind None h = record { holds = tt }
    behind (Some (a, t)) h = (more a h.1).after t h.0

  pub onward : {A B : Type 0} {rule : Rule A} {next : A → Rule B} {P : A → Type 0} {Q : B → Type 0} → Gives m rule P → ((a : A) → P a → Gives m (next a) Q)
      → Gives m (rule >>= next) Q
  onward does more = record { after = λ s g. step (does.after s g) more }

  pub done : {A : Type 0} {a : A} {s : State} {P : A → Type 0} → Fits m s → P a → After m (Some (a, s)) P
  done g p = record { holds = (g, p) }

  pub ends : {A : Type 0} {x : A} {P : A → Type 0} → P x → Gives m (pure x) P
  ends p = record { after = λ s g. done g p }

  pub nothing : {A : Type 0} {P : A → Type 0} → Gives m (none {A = A}) P
  nothing = record { after = λ s g. record { holds = tt } }

  pub given-is : {A : Type 0} (o : Option A) {P : A → Type 0} → Holds o P → Gives m (given o) P
  given-is None h = nothing
  given-is (Some a) h = ends h

  pub given-any : {A : Type 0} (o : Option A) → Gives m (given o) Any
  given-any None = nothing
  given-any (Some a) = ends tt

  pub only_if-any : (b : Bool) → Gives m (only_if b) Any
  only_if-any false = nothing
  only_if-any true = ends tt

  pub size_of-any : (t : Ty) → Gives m (size_of t) Any
  size_of-any t = record { after = λ s g. (given-any (measured s.structs t)).after s g }

pub any-holds : {A : Type 0} (o : Option A) → Holds o Any
any-holds None = tt
any-holds (Some a) = tt

pub and_then-holds : {A B : Type 0} (o : Option A) (f : A → Option B) (P : A → Type 0) (Q : B → Type 0) → Holds o P → ((a : A) → P a → Holds (f a) Q) → Holds (and_then o f) Q
and_then-holds None f P Q h k = tt
and_then-holds (Some a) f P Q h k = k a h

-- ---- forms

abbrev pub amount_nesting : Amount → ℕ
amount_nesting (bytes e) = expr_nesting e
amount_nesting (product n e) = max (expr_nesting n) (expr_nesting e)

abbrev pub form_nesting : Form → ℕ
form_nesting (place p t) = place_nesting p
form_nesting (value e t) = expr_nesting e
form_nesting (designator e t) = expr_nesting e
form_nesting (text b) = 0
form_nesting (zero t) = 0
form_nesting form.null = 0
form_nesting (allocation a) = amount_nesting a

abbrev pub FormIn : ℕ → Form → Type 0
FormIn n f = form_nesting f ≤ n

abbrev pub ExprIn : ℕ → Expr → Type 0
ExprIn n e = expr_nesting e ≤ n

-- of an expression and its type
abbrev pub ValueIn : ℕ → {A : Type 0} → Expr × A → Type 0
ValueIn n v = expr_nesting v.0 ≤ n

abbrev pub PlaceIn : ℕ → Place × Ty → Type 0
PlaceIn n p = place_nesting p.0 ≤ n

-- ---- values (6.3.2.1)

-- what the uses of a form take from it nests at most as deep as the form
module _ {n : ℕ} where
  plain-in : (f : Form) → FormIn n f → Holds (plain f) (ValueIn n)
  plain-in (value e t) h = h
  plain-in (zero t) h = h
  plain-in f h = tt

  integer-in : (v : Expr × Ty) → ValueIn n v → Holds (as_integer v) (ValueIn n)
  integer-in (e, integer t) h = h
  integer-in v h = tt

  pointer-in : (v : Expr × Ty) → ValueIn n v → Holds (as_pointer v) (ValueIn n)
  pointer-in (e, pointer t) h = h
  pointer-in v h = tt

  place-in : (f : Form) → FormIn n f → Holds (as_place f) (PlaceIn n)
  place-in (place p t) h = h
  place-in f h = tt

  pub at_type-in : (t u : IntType) (e : Expr) → ExprIn n e → ExprIn n (at_type t u e)
  at_type-in t u e h = behind (same_integer t u) where
    behind : (b : Bool) → ExprIn n (if b then e else to.convert t u e)
    behind true = h
    behind false = h

  condition-in : (v : Expr × Ty) → ValueIn n v → Holds (condition v) (ExprIn n)
  condition-in (e, integer t) h = behind (nat_le (bits t) 32) where
    behind : (b : Bool) → ExprIn n (if b then e else to.truth (scalars.Int t) e)
    behind true = h
    behind false = h
  condition-in (e, pointer t) h = h
  condition-in v h = tt

  pub null-in : (t : Ty) → ExprIn n (null_of t)
  null-in t = behind (is_function t) where
    behind : (b : Bool) → ExprIn n (if b then to.no_function else to.null)
    behind true = nil
    behind false = nil

  to_integer-in : (t : IntType) (f : Form) → FormIn n f → Holds (to_integer t f) (ExprIn n)
  to_integer-in t (value e (integer u)) h = at_type-in u t e h
  to_integer-in t (zero u) h = at_type-in u t (to.number u 0) nil
  to_integer-in t f h = tt

  to_pointer-in : (t : Ty) (f : Form) → FormIn n f → Holds (to_pointer t f) (ExprIn n)
  to_pointer-in t (value e (pointer u)) h = behind (same_type t u) where
    behind : (b : Bool) → Holds (if b then Some e else None) (ExprIn n)
    behind true = h
    behind false = tt
  to_pointer-in t (zero u) h = null-in t
  to_pointer-in t form.null h = null-in t
  to_pointer-in t f h = tt

  allocation-in : (t : Ty) (a : Amount) → amount_nesting a ≤ n → ExprIn n (allocation_of t a)
  allocation-in t (bytes e) h = h
  allocation-in t (product k e) h = h

-- so do the rules of its uses
module _ {m n : ℕ} where
  text-nests : (b : List ℕ) → Gives m (literal_pointer b) (FormIn n)
  text-nests b = record { after = λ s g. done (deepest-more made_nesting s.made (to.text b) g.0 nil, g.1) nil }

  read-nests : (p : Place) (t : Ty) → place_nesting p ≤ n → Gives m (read_place p t) (FormIn n)
  read-nests p void h = nothing
  read-nests p (integer t) h = ends h
  read-nests p (struct k) h = nothing
  read-nests p (pointer t) h = ends h
  read-nests p (array t k) h = ends h
  read-nests p (function r ps) h = nothing

  pub operand-nests : (f : Form) → FormIn n f → Gives m (operand f) (FormIn n)
  operand-nests (place p t) h = read-nests p t h
  operand-nests (value e t) h = ends h
  operand-nests (designator e t) h = ends h
  operand-nests (text b) h = text-nests b
  operand-nests (zero t) h = ends h
  operand-nests form.null h = ends h
  operand-nests (allocation a) h = nothing

  pub value_of-nests : (f : Form) → FormIn n f → Gives m (value_of f) (ValueIn n)
  value_of-nests f h = onward (operand-nests f h) (λ v k. given-is (plain v) (plain-in v k))

  pub integer_of-nests : (f : Form) → FormIn n f → Gives m (integer_of f) (ValueIn n)
  integer_of-nests f h = onward (value_of-nests f h) (λ v k. given-is (as_integer v) (integer-in v k))

  pub pointer_of-nests : (f : Form) → FormIn n f → Gives m (pointer_of f) (ValueIn n)
  pointer_of-nests f h = onward (value_of-nests f h) (λ v k. given-is (as_pointer v) (pointer-in v k))

  pub place_of-nests : (f : Form) → FormIn n f → Gives m (place_of f) (PlaceIn n)
  place_of-nests f h = given-is (as_place f) (place-in f h)

  pub condition_of-nests : (f : Form) → FormIn n f → Gives m (condition_of f) (ExprIn n)
  condition_of-nests f h = onward (value_of-nests f h) (λ v k. given-is (condition v) (condition-in v k))

  -- as if by assignment, and thrown away (6.5.16.1, 6.3.2.2)
  pub assigned_to-nests : (t : Ty) (f : Form) → FormIn n f → Gives m (assigned_to t f) (ExprIn n)
  assigned_to-nests (pointer t) (allocation a) h = onward (size_of-any t) (λ k q. ends (allocation-in t a h))
  assigned_to-nests (pointer t) f h = onward (operand-nests f h) (λ v k. given-is (to_pointer t v) (to_pointer-in t v k))
  assigned_to-nests (integer t) f h = onward (operand-nests f h) (λ v k. given-is (to_integer t v) (to_integer-in t v k))
  assigned_to-nests t f h = nothing

  thrown : (f : Form) → FormIn n f → Gives m (value_of f >>= (λ v. pure v.0)) (ExprIn n)
  thrown f h = onward (value_of-nests f h) (λ v k. ends k)

  pub thrown_away-nests : (f : Form) → FormIn n f → Gives m (thrown_away f) (ExprIn n)
  thrown_away-nests (place p (struct k)) h = onward (size_of-any (struct k)) (λ q r. ends h)
  thrown_away-nests f h = thrown f h

-- ---- operators on integers

module _ {n : ℕ} where
  pub promoted-in : (v : Expr × IntType) → ValueIn n v → ExprIn n (promoted_value v)
  promoted-in (e, t) h = at_type-in t (promoted t) e h

  at_one_type-in : (op : BinaryOp) (c : IntType) (x y : Expr × IntType) → ValueIn n x → ValueIn n y → FormIn n (at_one_type op c x y)
  at_one_type-in op c (a, t) (b, u) h k = both (at_type-in t c a h) (at_type-in u c b k)

  pub arithmetic-in : (op : BinaryOp) (x y : Expr × IntType) → ValueIn n x → ValueIn n y → FormIn n (arithmetic op x y)
  arithmetic-in op x y h k = at_one_type-in op (common x.1 y.1) x y h k

  pub shift-in : (op : BinaryOp) (x y : Expr × IntType) → ValueIn n x → ValueIn n y → FormIn n (shift op x y)
  shift-in op x y h k = at_one_type-in op (promoted x.1) x y h k

  compared-in : (op : RelOp) (x y : Expr × IntType) → ValueIn n x → ValueIn n y → FormIn n (compared op x y)
  compared-in op (a, t) (b, u) h k = both (at_type-in t (common t u) a h) (at_type-in u (common t u) b k)

  -- on pointers (6.5.6, 6.5.8, 6.5.9)
  equal_pointers-in : (op : RelOp) (b : Bool) (p q : Expr) → ExprIn n p → ExprIn n q → FormIn n (equal_pointers op b p q)
  equal_pointers-in op true p q h k = both h k
  equal_pointers-in op false p q h k = both h k

  ordered-in : (op : RelOp) (b : Bool) (p q : Expr) → ExprIn n p → ExprIn n q → Holds (ordered_pointers op b p q) (FormIn n)
  ordered-in op true p q h k = tt
  ordered-in op false p q h k = both h k

  pub order-in : (op : RelOp) (x y : Expr × Ty) → ValueIn n x → ValueIn n y → Holds (order op x y) (FormIn n)
  order-in op (a, integer t) (b, integer u) h k = compared-in op (a, t) (b, u) h k
  order-in op (a, pointer t) (b, pointer u) h k = behind (same_type t u) where
    behind : (is : Bool) → Holds (if is then ordered_pointers op (is_function t) a b else None) (FormIn n)
    behind true = ordered-in op (is_function t) a b h k
    behind false = tt
  order-in op x y h k = tt

module _ {m n : ℕ} where
  moved-nests : (back : Bool) (p i : Expr) (t : Ty) (u : IntType) → ExprIn n p → ExprIn n i → Gives m (moved back (p, t) (i, u)) (FormIn n)
  moved-nests back p i t u h k = onward (size_of-any t) (λ z q. ends (both h (at_type-in u LongLong i k)))

  moved_by-nests : (i p : Expr) (u : IntType) (t : Ty) → ExprIn n i → ExprIn n p → Gives m (moved_by (i, u) (p, t)) (FormIn n)
  moved_by-nests i p u t h k = onward (size_of-any t) (λ z q. ends (both (at_type-in u LongLong i h) k))

  difference-nests : (p q : Expr) (t u : Ty) → ExprIn n p → ExprIn n q → Gives m (difference (p, t) (q, u)) (FormIn n)
  difference-nests p q t u h k = onward (only_if-any (same_type t u)) (λ a r. onward (size_of-any t) (λ z w. ends (both h k)))

  pub sum-nests : (x y : Expr × Ty) → ValueIn n x → ValueIn n y → Gives m (sum x y) (FormIn n)
  sum-nests (a, integer t) (b, integer u) h k = ends (arithmetic-in ops.Add (a, t) (b, u) h k)
  sum-nests (a, pointer t) (b, integer u) h k = moved-nests false a b t u h k
  sum-nests (a, integer t) (b, pointer u) h k = moved_by-nests a b t u h k
  sum-nests x y h k = nothing

  pub minus-nests : (x y : Expr × Ty) → ValueIn n x → ValueIn n y → Gives m (minus x y) (FormIn n)
  minus-nests (a, integer t) (b, integer u) h k = ends (arithmetic-in ops.Sub (a, t) (b, u) h k)
  minus-nests (a, pointer t) (b, integer u) h k = moved-nests true a b t u h k
  minus-nests (a, pointer t) (b, pointer u) h k = difference-nests a b t u h k
  minus-nests x y h k = nothing

-- ---- two operands beside each other (6.5.9, 6.5.15)

abbrev BothIn : ℕ → Both → Type 0
BothIn n (integers a t b u) = ExprIn n a × ExprIn n b
BothIn n (pointers t a b) = ExprIn n a × ExprIn n b
BothIn n (voids a b) = ExprIn n a × ExprIn n b

equal-in : (n : ℕ) (op : RelOp) (p : Both) → BothIn n p → Holds (equality_of op p) (FormIn n)
equal-in n op (integers a t b u) h = compared-in op (a, t) (b, u) h.0 h.1
equal-in n op (pointers t a b) h = equal_pointers-in op (is_function t) a b h.0 h.1
equal-in n op (voids a b) h = tt

module _ {n : ℕ} where
  pointers-in : (t u : Ty) (a b : Expr) → ExprIn n a → ExprIn n b → (is : Bool) → Holds (if is then Some (pointers t a b) else None) (BothIn n)
  pointers-in t u a b h k true = (h, k)
  pointers-in t u a b h k false = tt

  beside-in : (x y : Form) → FormIn n x → FormIn n y → Holds (beside x y) (BothIn n)
  beside-in (value a (integer t)) (value b (integer u)) h k = (h, k)
  beside-in (value a (integer t)) (zero u) h k = (h, nil)
  beside-in (zero t) (value b (integer u)) h k = (nil, k)
  beside-in (zero t) (zero u) h k = (nil, nil)
  beside-in (value a (pointer t)) (value b (pointer u)) h k = pointers-in t u a b h k (same_type t u)
  beside-in (value a (pointer t)) (zero u) h k = (h, null-in t)
  beside-in (value a (pointer t)) form.null h k = (h, null-in t)
  beside-in (zero t) (value b (pointer u)) h k = (null-in u, k)
  beside-in form.null (value b (pointer u)) h k = (null-in u, k)
  beside-in (value a void) (value b void) h k = (h, k)
  beside-in x y h k = tt

  pub equality-in : (op : RelOp) (x y : Form) → FormIn n x → FormIn n y → Holds (equality op x y) (FormIn n)
  equality-in op x y h k =
      and_then-holds (beside x y) (λ p. equality_of op p) (BothIn n) (FormIn n) (beside-in x y h k) (λ p l. equal-in n op p l)

-- `c ? x : y` is an `if`
module _ {n o : ℕ} (up : n + 1 ≤ o) where
  chosen-in : {a b c : ℕ} → c ≤ n → a ≤ n → b ≤ n → max c (max a b) + 1 ≤ o
  chosen-in h k l = omega arith

  choice_of-in : (c : Expr) (p : Both) → ExprIn n c → BothIn n p → FormIn o (choice_of c p)
  choice_of-in c (integers a t b u) h k = chosen-in h (at_type-in t (common t u) a k.0) (at_type-in u (common t u) b k.1)
  choice_of-in c (pointers t a b) h k = chosen-in h k.0 k.1
  choice_of-in c (voids a b) h k = chosen-in h k.0 k.1

  pub choice-in : (c : Expr) (x y : Form) → ExprIn n c → FormIn n x → FormIn n y → Holds (choice c x y) (FormIn o)
  choice-in c x y i h k =
      and_then-holds (beside x y) (λ p. Some (choice_of c p)) (BothIn n) (FormIn o) (beside-in x y h k) (λ p l. choice_of-in c p i l)
