-- What typing makes of an expression nests at most as deep as the expression is high.
use Rattle.std.proofs.Common.{ℕ, ◌+◌, max, ◌≤◌, ◌==◌, Bool, true, false, List, [], ◌∷◌, ◌++◌, slice_get, Option, Some, None, if◌then◌else◌, arith}
use Rattle.c_types.specs.declared.integers.IntType.{IntType}
use Rattle.c_types.specs.declared.integers.IntType.TheVariants.{Int, UnsignedInt, LongLong}
use Rattle.c_types.specs.declared.types.Scalar.{Scalar}
use Rattle.c_types.specs.Layout.{members_of}
use Rattle.c_types.specs.Types.{Ty, void, integer, struct, pointer, function, Tys, no_types, types, is_function, scalar_of}
use Rattle.c_tree.specs.declared.operators.Access.{Access}
use Rattle.c_tree.specs.declared.operators.Access.TheVariants as accesses
use Rattle.c_tree.specs.declared.operators.Infix.TheVariants.{Comma, Assign, Binary}
use Rattle.c_tree.specs.declared.operators.UnaryOp.TheVariants as unaries
use Rattle.c_tree.specs.Heights.{expr_height, tallest}
use Rattle.c_tree.specs.Tree as tree
use Rattle.c_tree.specs.Tree.{Expr, Exprs, Declarator, Parameters}
use Rattle.c_typed.specs.declared.ops.UnaryOp.{UnaryOp}
use Rattle.c_typed.specs.declared.ops.UnaryOp.TheVariants as signs
use Rattle.c_typed.specs.refinement.Nesting.{place_nesting, exprs_nesting}
use Rattle.c_typed.specs.Tree as to
use Rattle.c_typed.specs.Tree.{Place}
use Rattle.c_check_types.specs.declared.entity.Entity.{Entity}
use Rattle.c_check_types.specs.declared.entity.Entity.TheVariants as entities
use Rattle.c_check_types.specs.declared.operators.Operator.{Operator}
use Rattle.c_check_types.specs.declared.operators.Operator.TheVariants.{And, Or, Equality, Order, Arithmetic, Shift, Plus, Minus}
use Rattle.c_check_types.specs.declared.prelude.LibraryName.{LibraryName}
use Rattle.c_check_types.specs.declared.prelude.LibraryName.TheVariants as prelude
use Rattle.c_check_types.specs.Constants.{constant_type, constant_bits}
use Rattle.c_check_types.specs.Operators.{operator_of}
use Rattle.c_check_types.specs.Scopes.{library}
use Rattle.c_check_types.specs.State.{State, Rule, followed, number_of}
use Rattle.c_check_types.specs.TypeEquality.{same_type}
use Rattle.c_conversions.specs.Conversions as form
use Rattle.c_conversions.specs.Conversions.{Form, place, value, designator, text, zero}
use Rattle.c_operators.specs.Operations.{order, equality, choice}
use Rattle.c_check_exprs.specs.Expressions.{slot_type, global_type, function_type, entity_form, name_form, an_operand, a_value, an_integer, a_pointer, a_place, a_condition, as_assigned, performed, operating, led_to, deref, address, plus, signed, negated, size, size_of_value, unevaluated, copied, stored, assigned, worked, goes_back, updated, assigning, stepped, a_step, step_operator, assign_operator, member_named, member_in, member, element as element_of, exprs_of, function_number, call_of, called, freed, freeing, putting, allocating, multiplying, no_arguments, library_call, calling, cast, called_library, typing, sole, factors, arguments}
use Rattle.c_check.proofs.NestingOfForms.{nil, both, Fits, Any, Holds, After, Gives, step, onward, done, ends, nothing, given-is, given-any, only_if-any, size_of-any, FormIn, ExprIn, ValueIn, PlaceIn, at_type-in, operand-nests, value_of-nests, integer_of-nests, pointer_of-nests, place_of-nests, condition_of-nests, assigned_to-nests, thrown_away-nests, promoted-in, arithmetic-in, shift-in, order-in, sum-nests, minus-nests, equality-in, choice-in}
use Rattle.c_check.proofs.NestingOfTypes.{named_entity-any, type_name-any}

-- ---- names (6.5.1)

module _ {m : ℕ} where
  slot_type-any : (k : ℕ) → Gives m (slot_type k) Any
  slot_type-any k = record { after = λ s g. (given-any (slice_get s.slots k)).after s g }

  global_type-any : (k : ℕ) → Gives m (global_type k) Any
  global_type-any k = record { after = λ s g. (given-any (slice_get s.globals k)).after s g }

  function_type-any : (k : ℕ) → Gives m (function_type k) Any
  function_type-any k = record { after = λ s g. step ((given-any (slice_get s.functions k)).after s g) (λ f p. ends tt) }

module _ {m n : ℕ} where
  entity-nests : (e : Entity) → Gives m (entity_form e) (FormIn n)
  entity-nests (entities.Local k) = onward (slot_type-any k) (λ t p. ends nil)
  entity-nests (entities.Global k) = onward (global_type-any k) (λ t p. ends nil)
  entity-nests (entities.Function k) = onward (function_type-any k) (λ t p. ends nil)
  entity-nests (entities.Constant k) = ends nil

  name-nests : (name : List ℕ) (l : Option LibraryName) → Gives m (name_form name l) (FormIn n)
  name-nests name (Some prelude.Null) = ends nil
  name-nests name (Some prelude.Eof) = ends nil
  name-nests name (Some l) = nothing
  name-nests name None = onward (named_entity-any name) (λ e p. entity-nests e)

-- ---- an expression that is used, by its rule

module _ {m n : ℕ} {rule : Rule Form} (does : Gives m rule (FormIn n)) where
  an_operand-nests : Gives m (an_operand rule) (FormIn n)
  an_operand-nests = onward does (λ f k. operand-nests f k)

  a_value-nests : Gives m (a_value rule) (ValueIn n)
  a_value-nests = onward does (λ f k. value_of-nests f k)

  pub an_integer-nests : Gives m (an_integer rule) (ValueIn n)
  an_integer-nests = onward does (λ f k. integer_of-nests f k)

  a_pointer-nests : Gives m (a_pointer rule) (ValueIn n)
  a_pointer-nests = onward does (λ f k. pointer_of-nests f k)

  pub a_place-nests : Gives m (a_place rule) (PlaceIn n)
  a_place-nests = onward does (λ f k. place_of-nests f k)

  pub a_condition-nests : Gives m (a_condition rule) (ExprIn n)
  a_condition-nests = onward does (λ f k. condition_of-nests f k)

  pub as_assigned-nests : (t : Ty) → Gives m (as_assigned t rule) (ExprIn n)
  as_assigned-nests t = onward does (λ f k. assigned_to-nests t f k)

  pub performed-nests : Gives m (performed rule) (ExprIn n)
  performed-nests = onward does (λ f k. thrown_away-nests f k)

-- ---- operators between two operands: `&&` and `||` are an `if`

either-in : {n o a b : ℕ} → n + 1 ≤ o → a ≤ n → b ≤ n → max a b + 1 ≤ o
either-in up h k = omega arith

module _ {m n o : ℕ} (up : n + 1 ≤ o) where
  operating-nests : (op : Operator) (x : Form) (rule : Rule Form) → FormIn n x → Gives m rule (FormIn n) → Gives m rule (FormIn o) → Gives m (operating op x rule) (FormIn o)
  operating-nests And x rule h d z = onward (condition_of-nests x h) (λ u k. onward (a_condition-nests d) (λ v l. ends (either-in up k l)))
  operating-nests Or x rule h d z = onward (condition_of-nests x h) (λ u k. onward (a_condition-nests d) (λ v l. ends (either-in up k l)))
  operating-nests (Equality op) x rule h d z =
      onward (operand-nests {n = o} x (omega arith)) (λ u k. onward (an_operand-nests z) (λ v l. given-is (equality op u v) (equality-in op u v k l)))
  operating-nests (Order op) x rule h d z =
      onward (value_of-nests {n = o} x (omega arith)) (λ u k. onward (a_value-nests z) (λ v l. given-is (order op u v) (order-in op u v k l)))
  operating-nests (Arithmetic op) x rule h d z =
      onward (integer_of-nests {n = o} x (omega arith)) (λ u k. onward (an_integer-nests z) (λ v l. ends (arithmetic-in op u v k l)))
  operating-nests (Shift op) x rule h d z =
      onward (integer_of-nests {n = o} x (omega arith)) (λ u k. onward (an_integer-nests z) (λ v l. ends (shift-in op u v k l)))
  operating-nests Plus x rule h d z = onward (value_of-nests {n = o} x (omega arith)) (λ u k. onward (a_value-nests z) (λ v l. sum-nests u v k l))
  operating-nests Minus x rule h d z = onward (value_of-nests {n = o} x (omega arith)) (λ u k. onward (a_value-nests z) (λ v l. minus-nests u v k l))

-- ---- unary operators (6.5.3)

led_to-in : {n : ℕ} (e : to.Expr) (t : Ty) → ExprIn n e → FormIn n (led_to e t)
led_to-in e (function r ps) h = h
led_to-in e t h = h

module _ {m n : ℕ} where
  deref-nests : (f : Form) → FormIn n f → Gives m (deref f) (FormIn n)
  deref-nests f h = onward (pointer_of-nests f h) (λ v k. ends (led_to-in v.0 v.1 k))

  address-nests : (f : Form) → FormIn n f → Gives m (address f) (FormIn n)
  address-nests (place p t) h = ends h
  address-nests (designator e t) h = ends h
  address-nests f h = nothing

  plus-nests : (f : Form) → FormIn n f → Gives m (plus f) (FormIn n)
  plus-nests f h = onward (integer_of-nests f h) (λ v k. ends (promoted-in v k))

  signed-nests : (op : UnaryOp) (f : Form) → FormIn n f → Gives m (signed op f) (FormIn n)
  signed-nests op f h = onward (integer_of-nests f h) (λ v k. ends (promoted-in v k))

  negated-nests : (f : Form) → FormIn n f → Gives m (negated f) (FormIn n)
  negated-nests f h = onward (condition_of-nests f h) (λ e k. ends k)

  size-nests : (f : Form) → Gives m (size f) (FormIn n)
  size-nests (place p t) = onward (size_of-any t) (λ k q. ends nil)
  size-nests (value e t) = onward (size_of-any t) (λ k q. ends nil)
  size-nests (text b) = ends nil
  size-nests (zero t) = ends nil
  size-nests f = nothing

module _ {m : ℕ} where
  -- what stands in sizeof leaves nothing behind
  unevaluated-nests : {A : Type 0} (rule : Rule A) {P : A → Type 0} → Gives m rule P → Gives m (unevaluated rule) P
  unevaluated-nests {A} rule {P} does = record { after = λ s g. behind s g (rule (record s { made = []; literals = 0 })) ((does.after (record s { made = []; literals = 0 }) (nil, g.1)).holds) } where
    behind : (s : State) → Fits m s → (o : Option (A × State)) → Holds o (λ x. Fits m x.1 × P x.0)
        → After m (followed o (λ a after. Some (a, record after { made = s.made; literals = s.literals }))) P
    behind s g None h = record { holds = tt }
    behind s g (Some (a, t)) h = done (g.0, h.0.1) h.1

-- ---- assignments and casts (6.5.16, 6.5.2.4, 6.5.3.1, 6.5.4)

module _ {m n : ℕ} where
  copied-nests : (k : ℕ) (p q : Place) (t : Ty) → place_nesting p ≤ n → place_nesting q ≤ n → Gives m (copied k p (q, t)) (FormIn n)
  copied-nests k p q t h l = onward (only_if-any (same_type (struct k) t)) (λ a r. onward (size_of-any t) (λ z w. ends (both h l)))

  stored-nests : (p : Place) (t : Ty) (f : Form) → place_nesting p ≤ n → FormIn n f → Gives m (stored p t f) (FormIn n)
  stored-nests p t f h k = onward (given-any (scalar_of t)) (λ s q. onward (assigned_to-nests t f k) (λ e l. ends (both h l)))

  assigned-nests : (p : Place × Ty) (f : Form) → PlaceIn n p → FormIn n f → Gives m (assigned p f) (FormIn n)
  assigned-nests (p, struct z) f h k = onward (place_of-nests f k) (λ q l. copied-nests z p q.0 q.1 h l)
  assigned-nests (p, t) f h k = stored-nests p t f h k

  updated-nests : (old : Bool) (op : Operator) (p : Place × Ty) (v : to.Expr × IntType) → PlaceIn n p → ValueIn n v → Gives m (updated old op p v) (FormIn n)
  updated-nests old op (p, integer t) (e, u) h k = onward (given-any (worked op t u)) (λ w q. ends (both h (at_type-in u w.1 e k)))
  updated-nests old op (p, pointer t) (e, u) h k =
      onward (given-any (goes_back op)) (λ back q. onward (size_of-any t) (λ z r. ends (both h (at_type-in u LongLong e k))))
  updated-nests old op p v h k = nothing

  assigning-nests : (op : Option Operator) (p : Place × Ty) (f : Form) → PlaceIn n p → FormIn n f → Gives m (assigning op p f) (FormIn n)
  assigning-nests None p f h k = assigned-nests p f h k
  assigning-nests (Some op) p f h k = onward (integer_of-nests f k) (λ v l. updated-nests false op p v h l)

  stepped-nests : (old : Bool) (op : Operator) (f : Form) → FormIn n f → Gives m (stepped old op f) (FormIn n)
  stepped-nests old op f h = onward (place_of-nests f h) (λ p k. updated-nests old op p (to.number Int 1, Int) k nil)

  a_step-nests : (old : Bool) (op : Operator) {rule : Rule Form} → Gives m rule (FormIn n) → Gives m (a_step old op rule) (FormIn n)
  a_step-nests old op does = onward does (λ f k. stepped-nests old op f k)

  cast-nests : (t : Ty) (f : Form) → FormIn n f → Gives m (cast t f) (FormIn n)
  cast-nests void f h = onward (thrown_away-nests f h) (λ e k. ends k)
  cast-nests (integer t) f h = onward (integer_of-nests f h) (λ v k. ends (at_type-in v.1 t v.0 k))
  cast-nests (pointer t) f h = onward (assigned_to-nests (pointer t) f h) (λ e k. ends k)
  cast-nests t f h = nothing

-- ---- members and elements (6.5.2.1, 6.5.2.3)

module _ {m : ℕ} where
  member_named-any : (k : ℕ) (name : List ℕ) → Gives m (member_named k name) Any
  member_named-any k name =
      record {
        after = λ s g. step ((given-any (slice_get s.members k)).after s g) (λ names p. onward (given-any (number_of names name)) (λ i q.
            onward (given-any (slice_get (members_of s.structs (struct k)) i)) (λ t r. ends tt)));
      }

module _ {m n : ℕ} where
  member_in-nests : (p : Place) (t : Ty) (name : List ℕ) → place_nesting p ≤ n → Gives m (member_in p t name) (FormIn n)
  member_in-nests p (struct k) name h = onward (member_named-any k name) (λ i q. ends h)
  member_in-nests p t name h = nothing

  member-nests : (op : Access) (f : Form) (name : List ℕ) → FormIn n f → Gives m (member op f name) (FormIn n)
  member-nests accesses.Dot f name h = onward (place_of-nests f h) (λ p k. member_in-nests p.0 p.1 name k)
  member-nests accesses.Arrow f name h = onward (pointer_of-nests f h) (λ v k. member_in-nests (to.deref v.0) v.1 name k)

  element-nests : (v : to.Expr × Ty) (w : to.Expr × IntType) → ValueIn n v → ValueIn n w → Gives m (element_of v w) (FormIn n)
  element-nests (p, t) (i, u) h k = onward (size_of-any t) (λ z q. ends (both h (at_type-in u LongLong i k)))

-- ---- calls (6.5.2.2)

abbrev ListIn : ℕ → List to.Expr → Type 0
ListIn n es = exprs_nesting (exprs_of es) ≤ n

module _ {n : ℕ} where
  call-in : (f : Option ℕ) (e : to.Expr) (t : Ty) (s : Option Scalar) (es : to.Exprs) → ExprIn n e → exprs_nesting es ≤ n → ExprIn n (call_of f e t s es)
  call-in None e t s es h k = both h k
  call-in (Some i) e t s es h k = k

  freed-in : (f : Form) → FormIn n f → Holds (freed f) (ExprIn n)
  freed-in (value e (pointer t)) h = behind (is_function t) where
    behind : (b : Bool) → Holds (if b then None else Some (to.free e)) (ExprIn n)
    behind true = tt
    behind false = h
  freed-in (zero t) h = nil
  freed-in form.null h = nil
  freed-in f h = tt

module _ {m n : ℕ} where
  called-nests : (v : to.Expr × Ty) (arguments : Tys → Rule (List to.Expr)) → ValueIn n v → ((ts : Tys) → Gives m (arguments ts) (ListIn n)) → Gives m (called v arguments) (FormIn n)
  called-nests (e, function r ps) arguments h d =
      onward (d ps) (λ es k. ends (call-in (function_number e) e (function r ps) (scalar_of r) (exprs_of es) h k))
  called-nests v arguments h d = nothing

  freeing-nests : (f : Form) → FormIn n f → Gives m (freeing f) (FormIn n)
  freeing-nests f h = onward (operand-nests f h) (λ v k. onward (given-is (freed v) (freed-in v k)) (λ e l. ends l))

  putting-nests : (f : Form) → FormIn n f → Gives m (putting f) (FormIn n)
  putting-nests f h = onward (assigned_to-nests (integer Int) f h) (λ e k. ends k)

  allocating-nests : (f : Form) → FormIn n f → Gives m (allocating f) (FormIn n)
  allocating-nests f h = onward (assigned_to-nests (integer UnsignedInt) f h) (λ e k. ends k)

  multiplying-nests : {count size : Rule Form} → Gives m count (FormIn n) → Gives m size (FormIn n) → Gives m (multiplying count size) (FormIn n)
  multiplying-nests c d = onward (as_assigned-nests c (integer UnsignedInt)) (λ k h. onward (as_assigned-nests d (integer UnsignedInt)) (λ e l. ends (both h l)))

  library_call-nests : (l : LibraryName) (es : Exprs) (only two : Rule Form) → Gives m only (FormIn n) → Gives m two (FormIn n) → Gives m (library_call l es only two) (FormIn n)
  library_call-nests prelude.Putchar es only two d e = onward d (λ x k. putting-nests x k)
  library_call-nests prelude.Getchar es only two d e = onward (only_if-any (no_arguments es)) (λ a p. ends nil)
  library_call-nests prelude.Abort es only two d e = onward (only_if-any (no_arguments es)) (λ a p. ends nil)
  library_call-nests prelude.Malloc es only two d e = onward d (λ x k. allocating-nests x k)
  library_call-nests prelude.Calloc es only two d e = e
  library_call-nests prelude.Free es only two d e = onward d (λ x k. freeing-nests x k)
  library_call-nests prelude.Null es only two d e = nothing
  library_call-nests prelude.Eof es only two d e = nothing

  calling-nests : (l : Option LibraryName) (callee : Rule Form) (es : Exprs) (only two : Rule Form) (arguments : Tys → Rule (List to.Expr))
      → Gives m callee (FormIn n) → Gives m only (FormIn n) → Gives m two (FormIn n) → ((ts : Tys) → Gives m (arguments ts) (ListIn n))
      → Gives m (calling l callee es only two arguments) (FormIn n)
  calling-nests (Some l) callee es only two arguments c d e a = library_call-nests l es only two d e
  calling-nests None callee es only two arguments c d e a = onward (a_pointer-nests c) (λ v k. called-nests v arguments k a)

-- ---- the rules

one-more : (n : ℕ) (vs : List to.Expr) (v : to.Expr) → ListIn n vs → ExprIn n v → ListIn n (vs ++ v ∷ [])
one-more n [] v h k = both k h
one-more n (w ∷ ws) v h k = both (omega arith) (one-more n ws v (omega arith) k)

constant-in : {n : ℕ} (b : Bool) (k : ℕ) (t : IntType) → FormIn n (if b then zero t else value (to.number t k) (integer t))
constant-in true k t = nil
constant-in false k t = nil

module _ {m : ℕ} where
  mutual
    pub typing-nests : (e : Expr) (n : ℕ) → expr_height e ≤ n → Gives m (typing e) (FormIn n)
    typing-nests (tree.name name) n h = name-nests name (library name)
    typing-nests (tree.integer k t) n h = ends (constant-in (constant_bits (constant_type t) k == 0) (constant_bits (constant_type t) k) (constant_type t))
    typing-nests (tree.character c) n h = ends nil
    typing-nests (tree.string b) n h = ends nil
    typing-nests (tree.paren e) n h = typing-nests e n (omega arith)
    typing-nests (tree.index a i) n h =
        onward (a_pointer-nests (typing-nests a n (omega arith))) (λ p k. onward (an_integer-nests (typing-nests i n (omega arith))) (λ j l. element-nests p j k l))
    typing-nests (tree.call f es) n h =
        calling-nests (called_library f) (typing f) es (sole es) (factors es) (λ ts. arguments es ts []) (typing-nests f n (omega arith)) (sole-nests es n (omega arith))
        (factors-nests es n (omega arith)) (λ ts. arguments-nests es ts [] n (omega arith) nil)
    typing-nests (tree.member op e name) n h = onward (typing-nests e n (omega arith)) (λ x k. member-nests op x name k)
    typing-nests (tree.after op e) n h = a_step-nests true (step_operator op) (typing-nests e n (omega arith))
    typing-nests (tree.unary unaries.AddressOf e) n h = onward (typing-nests e n (omega arith)) (λ x k. address-nests x k)
    typing-nests (tree.unary unaries.Deref e) n h = onward (typing-nests e n (omega arith)) (λ x k. deref-nests x k)
    typing-nests (tree.unary unaries.Plus e) n h = onward (typing-nests e n (omega arith)) (λ x k. plus-nests x k)
    typing-nests (tree.unary unaries.Minus e) n h = onward (typing-nests e n (omega arith)) (λ x k. signed-nests signs.Negate x k)
    typing-nests (tree.unary unaries.Complement e) n h = onward (typing-nests e n (omega arith)) (λ x k. signed-nests signs.Complement x k)
    typing-nests (tree.unary unaries.Not e) n h = onward (typing-nests e n (omega arith)) (λ x k. negated-nests x k)
    typing-nests (tree.unary unaries.Increment e) n h = a_step-nests false Plus (typing-nests e n (omega arith))
    typing-nests (tree.unary unaries.Decrement e) n h = a_step-nests false Minus (typing-nests e n (omega arith))
    typing-nests (tree.unary unaries.SizeOf e) n h =
        unevaluated-nests (size_of_value (typing e)) (onward (typing-nests e n (omega arith)) (λ x k. size-nests x))
    typing-nests (tree.size_of_type x d) n h = onward (type_name-any x d) (λ t p. onward (size_of-any t) (λ k q. ends nil))
    typing-nests (tree.cast x d e) n h = onward (type_name-any x d) (λ t p. onward (typing-nests e n (omega arith)) (λ y k. cast-nests t y k))
    typing-nests (tree.between Comma a b) n h =
        onward (performed-nests (typing-nests a n (omega arith))) (λ e k. onward (a_value-nests (typing-nests b n (omega arith))) (λ v l. ends (both k l)))
    typing-nests (tree.between (Assign op) a b) n h =
        onward (a_place-nests (typing-nests a n (omega arith))) (λ p k. onward (typing-nests b n (omega arith)) (λ y l. assigning-nests (assign_operator op) p y k l))
    typing-nests (tree.between (Binary op) a b) n h =
        let o = max (expr_height a) (expr_height b) in
        onward (typing-nests a o (omega arith)) (λ x k. operating-nests h (operator_of op) x (typing b) k (typing-nests b o (omega arith)) (typing-nests b n (omega arith)))
    typing-nests (tree.choice c a b) n h =
        let o = max (max (expr_height c) (expr_height a)) (expr_height b) in
        onward (a_condition-nests (typing-nests c o (omega arith))) (λ e k. onward (an_operand-nests (typing-nests a o (omega arith))) (λ x l.
        onward (an_operand-nests (typing-nests b o (omega arith))) (λ y w. given-is (choice e x y) (choice-in h e x y k l w))))

    sole-nests : (es : Exprs) (n : ℕ) → tallest es ≤ n → Gives m (sole es) (FormIn n)
    sole-nests (tree.expr_and e tree.no_exprs) n h = typing-nests e n (omega arith)
    sole-nests es n h = nothing

    factors-nests : (es : Exprs) (n : ℕ) → tallest es ≤ n → Gives m (factors es) (FormIn n)
    factors-nests (tree.expr_and a (tree.expr_and b tree.no_exprs)) n h = multiplying-nests (typing-nests a n (omega arith)) (typing-nests b n (omega arith))
    factors-nests es n h = nothing

    arguments-nests : (es : Exprs) (ts : Tys) (vs : List to.Expr) (n : ℕ) → tallest es ≤ n → ListIn n vs → Gives m (arguments es ts vs) (ListIn n)
    arguments-nests tree.no_exprs no_types vs n h k = ends k
    arguments-nests (tree.expr_and e es) (types t ts) vs n h k =
        onward (as_assigned-nests (typing-nests e n (omega arith)) t) (λ v l. arguments-nests es ts (vs ++ v ∷ []) n (omega arith) (one-more n vs v k l))
    arguments-nests es ts vs n h k = nothing
