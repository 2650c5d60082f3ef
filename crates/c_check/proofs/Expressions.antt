-- Each expression that has a typing is one of the types that it is said to have.
use Rattle.std.proofs.Common.{◌≡◌, sym, ap, subst, refl, true, false, List, [], ◌∷◌, ◌++◌}
use Rattle.c_types.specs.declared.integers.IntType.TheVariants.{Int, UnsignedInt}
use Rattle.c_types.specs.Types.{Ty, integer, Tys, no_types, types}
use Rattle.c_tree.specs.declared.operators.Infix.TheVariants.{Comma, Assign, Binary}
use Rattle.c_tree.specs.declared.operators.UnaryOp.TheVariants as unaries
use Rattle.c_tree.specs.Tree as tree
use Rattle.c_tree.specs.Tree.{Expr, Exprs}
use Rattle.c_typed.specs.declared.ops.UnaryOp.TheVariants as signs
use Rattle.c_typed.specs.Tree as to
use Rattle.c_check_types.specs.declared.operators.Operator.TheVariants.{Plus, Minus}
use Rattle.c_check_types.specs.State.{State, pure}
use Rattle.c_check_types.specs.Scopes.{library}
use Rattle.c_check_types.specs.Constants.{constant_type, constant_bits, character_bits}
use Rattle.c_check_types.specs.Operators.{operator_of}
use Rattle.c_conversions.specs.Conversions.{value, text}
use Rattle.c_operators.specs.Operations.{choice}
use Rattle.c_check_exprs.specs.Expressions.{exprs_of, a_place, a_condition, as_assigned, performed, step_operator, assign_operator, called_library, constant_form, typing, sole, factors, arguments}
use Rattle.c_typed.specs.refinement.Types.{IsType, AreParameters}
use Rattle.c_typed.specs.refinement.Expressions.{Context, HasType, HaveTypes}
use Rattle.c_check.proofs.States.{context, Good, Quiet, Does}
use Rattle.c_check.proofs.Extension.{quiet-same, quiet-grows, parameters-kept}
use Rattle.c_check.proofs.Growth.{exprs-grown}
use Rattle.c_check.proofs.Rules.{ends, given-ends, quietly}
use Rattle.c_check.proofs.Types.{type_name-does}
use Rattle.c_check.proofs.Conversions.{IsForm, IsAssigned, IsThrown, IsPlaced, none-does, sized}
use Rattle.c_check.proofs.Operations.{choice-is}
use Rattle.c_check.proofs.Uses.{type-stays, expr-stays, condition-stays, form-stays, pointer-stays, placed-stays, IsTested, an_operand-by, a_value-by, an_integer-by, a_pointer-by, a_place-by, a_condition-by, as_assigned-by, performed-by}
use Rattle.c_check.proofs.Operands.{constant-is, character-fits, name-does, operating-does, deref-does, address-does, plus-does, signed-does, negated-does, unevaluated-does, member-does, element-does}
use Rattle.c_check.proofs.Assignments.{assigning-does, a_step-does, cast-does}
use Rattle.c_check.proofs.Calls.{HaveAll, calling-does, multiplying-does}

-- ---- arguments, behind those so far

abbrev joined : Tys → Tys → Tys
joined no_types ts = ts
joined (types u us) ts = types u (joined us ts)

joined-none : (us : Tys) → joined us no_types ≡ us
joined-none no_types = refl
joined-none (types u us) = ap (λ x. types u x) (joined-none us)

joined-one : (us : Tys) (t : Ty) (ts : Tys) → joined (joined us (types t no_types)) ts ≡ joined us (types t ts)
joined-one no_types t ts = refl
joined-one (types u us) t ts = ap (λ x. types u x) (joined-one us t ts)

one-more : (c : Context) (vs : List to.Expr) (us : Tys) (v : to.Expr) (t : Ty) → HaveTypes c (exprs_of vs) us → HasType c v t
    → HaveTypes c (exprs_of (vs ++ v ∷ [])) (joined us (types t no_types))
one-more c [] no_types v t h k = (k, tt)
one-more c [] (types u us) v t h k = elim h [ ]
one-more c (w ∷ ws) no_types v t h k = elim h [ ]
one-more c (w ∷ ws) (types u us) v t h k = (h.0, one-more c ws us v t h.1 k)

-- ---- the rules

mutual
  pub typing-does : (e : Expr) (s : State) → Good s → Does Quiet (typing e) s IsForm
  typing-does (tree.name n) s g = name-does n (library n) s g
  typing-does (tree.integer n t) s g =
      ends Quiet (constant_form (constant_bits (constant_type t) n) (constant_type t)) s s IsForm g (quiet-same s) (constant-is t n s)
  typing-does (tree.character c) s g =
      ends Quiet (value (to.number Int (character_bits c)) (integer Int)) s s IsForm g (quiet-same s) (tt, tt, (refl, character-fits c))
  typing-does (tree.string bytes) s g = ends Quiet (text bytes) s s IsForm g (quiet-same s) tt
  typing-does (tree.paren e) s g = typing-does e s g
  typing-does (tree.index a i) s g =
      quietly s (a_pointer-by (typing a) (typing-does a) s g)
      (λ p t good q h. quietly t (an_integer-by (typing i) (typing-does i) t good)
      (λ j u fine r k. element-does p j u fine (pointer-stays t u r p h) k))
  typing-does (tree.call f es) s g =
      calling-does (called_library f) (typing f) es (sole es) (factors es) (λ ts. arguments es ts []) (typing-does f) (sole-does es) (factors-does es)
      (λ ts u good i. arguments-does es ts [] no_types u good i tt) s g
  typing-does (tree.member op e n) s g =
      quietly s (typing-does e s g) (λ x t good q h. member-does op x n t good h)
  typing-does (tree.after op e) s g =
      a_step-does true (step_operator op) (typing e) (typing-does e) s g
  typing-does (tree.unary unaries.AddressOf e) s g =
      quietly s (typing-does e s g) (λ x t good q h. address-does x t good h)
  typing-does (tree.unary unaries.Deref e) s g =
      quietly s (typing-does e s g) (λ x t good q h. deref-does x t good h)
  typing-does (tree.unary unaries.Plus e) s g =
      quietly s (typing-does e s g) (λ x t good q h. plus-does x t good h)
  typing-does (tree.unary unaries.Minus e) s g =
      quietly s (typing-does e s g) (λ x t good q h. signed-does signs.Negate x t good h)
  typing-does (tree.unary unaries.Complement e) s g =
      quietly s (typing-does e s g) (λ x t good q h. signed-does signs.Complement x t good h)
  typing-does (tree.unary unaries.Not e) s g =
      quietly s (typing-does e s g) (λ x t good q h. negated-does x t good h)
  typing-does (tree.unary unaries.Increment e) s g =
      a_step-does false Plus (typing e) (typing-does e) s g
  typing-does (tree.unary unaries.Decrement e) s g =
      a_step-does false Minus (typing e) (typing-does e) s g
  typing-does (tree.unary unaries.SizeOf e) s g =
      unevaluated-does (typing e) (typing-does e) s g
  typing-does (tree.size_of_type x d) s g =
      quietly s (type_name-does x d s g)
      (λ t u good q h. sized t (λ n. pure (value (to.size_of_type n) (integer UnsignedInt))) u IsForm
      (λ n small m. ends Quiet (value (to.size_of_type n) (integer UnsignedInt)) u u IsForm good (quiet-same u) (tt, tt, refl)))
  typing-does (tree.cast x d e) s g =
      quietly s (type_name-does x d s g)
      (λ t u good q h. quietly u (typing-does e u good)
      (λ f v fine r k. cast-does t f v fine (type-stays u v r t h) k))
  typing-does (tree.between Comma a b) s g =
      quietly s (performed-by (typing a) (typing-does a) s g)
      (λ e t good q h. quietly t (a_value-by (typing b) (typing-does b) t good)
      (λ v u fine r k. ends Quiet (value (to.comma e v.0) v.1) u u IsForm fine (quiet-same u) (k.0, k.1, (h.0, expr-stays t u r e h.0 h.1, k.2))))
  typing-does (tree.between (Assign op) a b) s g =
      quietly s (a_place-by (typing a) (typing-does a) s g)
      (λ p t good q h. quietly t (typing-does b t good)
      (λ y u fine r k. assigning-does (assign_operator op) p y u fine (placed-stays t u r p h) k))
  typing-does (tree.between (Binary op) a b) s g =
      quietly s (typing-does a s g)
      (λ x t good q h. operating-does (operator_of op) x (typing b) t good h (typing-does b))
  typing-does (tree.choice c a b) s g =
      quietly s (a_condition-by (typing c) (typing-does c) s g)
      (λ test t good q h. quietly t (an_operand-by (typing a) (typing-does a) t good)
      (λ x u fine r k. quietly u (an_operand-by (typing b) (typing-does b) u fine)
      (λ y v last w l. given-ends Quiet (choice test x y) v IsForm last (quiet-same v)
      (λ f e. choice-is test x y v (condition-stays u v w test (condition-stays t u r test h)) (form-stays u v w x k) l f e))))

  -- the sole argument
  pub sole-does : (es : Exprs) (s : State) → Good s → Does Quiet (sole es) s IsForm
  sole-does (tree.expr_and e tree.no_exprs) s g = typing-does e s g
  sole-does es s g = none-does s IsForm

  -- calloc's two arguments
  pub factors-does : (es : Exprs) (s : State) → Good s → Does Quiet (factors es) s IsForm
  factors-does (tree.expr_and a (tree.expr_and b tree.no_exprs)) s g =
      multiplying-does (typing a) (typing b) (typing-does a) (typing-does b) s g
  factors-does es s g = none-does s IsForm

  pub arguments-does : (es : Exprs) (ts : Tys) (vs : List to.Expr) (us : Tys) (s : State) → Good s → AreParameters s.structs ts → HaveAll us s vs
      → Does Quiet (arguments es ts vs) s (HaveAll (joined us ts))
  arguments-does tree.no_exprs no_types vs us s g i h =
      ends Quiet vs s s (HaveAll (joined us no_types)) g (quiet-same s)
      (subst (λ xs. HaveTypes (context s) (exprs_of vs) xs) (sym (joined-none us)) h)
  arguments-does (tree.expr_and e es) (types t ts) vs us s g i h =
      quietly s (as_assigned-by (typing e) (typing-does e) s g t i.1)
      (λ v u good q k.
      subst (λ xs. Does Quiet (arguments es ts (vs ++ v ∷ [])) u (HaveAll xs)) (joined-one us t ts)
      (arguments-does es ts (vs ++ v ∷ []) (joined us (types t no_types)) u good (parameters-kept s.structs u.structs q.structs ts i.2)
      (one-more (context u) vs us v t (exprs-grown (context s) (context u) (quiet-grows s u q) (exprs_of vs) us h) k.1)))
  arguments-does es ts vs us s g i h = none-does s (HaveAll (joined us ts))

-- ---- expressions that are used

pub as_assigned-does : (t : Ty) (e : Expr) (s : State) → Good s → IsType s.structs t → Does Quiet (as_assigned t (typing e)) s (IsAssigned t)
as_assigned-does t e s g i = as_assigned-by (typing e) (typing-does e) s g t i

pub a_condition-does : (e : Expr) (s : State) → Good s → Does Quiet (a_condition (typing e)) s IsTested
a_condition-does e s g = a_condition-by (typing e) (typing-does e) s g

pub performed-does : (e : Expr) (s : State) → Good s → Does Quiet (performed (typing e)) s IsThrown
performed-does e s g = performed-by (typing e) (typing-does e) s g

pub a_place-does : (e : Expr) (s : State) → Good s → Does Quiet (a_place (typing e)) s IsPlaced
a_place-does e s g = a_place-by (typing e) (typing-does e) s g
