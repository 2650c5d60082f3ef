-- What stays known of a form where a state goes on, and rules that use one that another rule gives.
use Rattle.std.proofs.Common.{◌≡◌, subst, ℕ, List, Some, slice_get}
use Rattle.std.proofs.lemmas.Option.{slice_get_within, get_or_from_slice_get}
use Rattle.std.specs.List.{All}
use Rattle.c_types.specs.declared.integers.IntType.{IntType}
use Rattle.c_types.specs.Types.{Ty, integer, pointer}
use Rattle.c_typed.specs.Tree as to
use Rattle.c_typed.specs.Tree.{Place}
use Rattle.c_check_types.specs.State.{State, Rule}
use Rattle.c_conversions.specs.Conversions.{Form}
use Rattle.c_check_exprs.specs.Expressions.{an_operand, a_value, an_integer, a_pointer, a_place, a_condition, as_assigned, performed}
use Rattle.c_typed.specs.refinement.Types.{IsType}
use Rattle.c_typed.specs.refinement.Expressions.{HasType, IsPlace, IsCondition}
use Rattle.c_check.proofs.States.{context, Good, Quiet, Does}
use Rattle.c_check.proofs.Extension.{quiet-grows, type-kept}
use Rattle.c_check.proofs.Growth.{expr-grown, place-grown, condition-grown}
use Rattle.c_check.proofs.Rules.{quietly}
use Rattle.c_check.proofs.Conversions.{IsTyped, IsInteger, IsPointer, IsPlaced, IsForm, IsAssigned, IsThrown, form-grown, operand-does, value_of-does, integer_of-does, pointer_of-does, place_of-does, condition_of-does, assigned_to-does, thrown_away-does}

-- ---- what stays

module _ (s t : State) (q : Quiet s t) where
  pub type-stays : (u : Ty) → IsType s.structs u → IsType t.structs u
  type-stays u h = type-kept s.structs t.structs q.structs u h

  pub expr-stays : (e : to.Expr) (u : Ty) → HasType (context s) e u → HasType (context t) e u
  expr-stays e u h = expr-grown (context s) (context t) (quiet-grows s t q) e u h

  pub place-stays : (p : Place) (u : Ty) → IsPlace (context s) p u → IsPlace (context t) p u
  place-stays p u h = place-grown (context s) (context t) (quiet-grows s t q) p u h

  pub condition-stays : (e : to.Expr) → IsCondition (context s) e → IsCondition (context t) e
  condition-stays e h = condition-grown (context s) (context t) (quiet-grows s t q) e h

  pub form-stays : (f : Form) → IsForm s f → IsForm t f
  form-stays f h = form-grown s t (quiet-grows s t q) f h

  pub typed-stays : (v : to.Expr × Ty) → IsTyped s v → IsTyped t v
  typed-stays v h = (type-stays v.1 h.0, h.1, expr-stays v.0 v.1 h.2)

  pub integer-stays : (v : to.Expr × IntType) → IsInteger s v → IsInteger t v
  integer-stays v h = expr-stays v.0 (integer v.1) h

  pub pointer-stays : (v : to.Expr × Ty) → IsPointer s v → IsPointer t v
  pointer-stays v h = (type-stays (pointer v.1) h.0, expr-stays v.0 (pointer v.1) h.1)

  pub placed-stays : (p : Place × Ty) → IsPlaced s p → IsPlaced t p
  placed-stays p h = (type-stays p.1 h.0, h.1, h.2, place-stays p.0 p.1 h.3)

pub all-get : {A : Type 0} (P : A → Type 0) (xs : List A) (n : ℕ) (x : A) → All P xs → slice_get xs n ≡ Some x → P x
all-get P xs n x h e =
    subst P (get_or_from_slice_get xs n x x e) (h n x (slice_get_within xs n x e))

-- ---- an expression that is used, by its rule

abbrev pub IsTested : State → to.Expr → Type 0
IsTested s e = IsCondition (context s) e

abbrev pub GivesForms : Rule Form → Type 0
GivesForms rule = (s : State) → Good s → Does Quiet rule s IsForm

module _ (rule : Rule Form) (does : GivesForms rule) (s : State) (g : Good s) where
  pub an_operand-by : Does Quiet (an_operand rule) s IsForm
  an_operand-by = quietly s (does s g) (λ f t good r p. operand-does f t good p)

  pub a_value-by : Does Quiet (a_value rule) s IsTyped
  a_value-by = quietly s (does s g) (λ f t good r p. value_of-does f t good p)

  pub an_integer-by : Does Quiet (an_integer rule) s IsInteger
  an_integer-by = quietly s (does s g) (λ f t good r p. integer_of-does f t good p)

  pub a_pointer-by : Does Quiet (a_pointer rule) s IsPointer
  a_pointer-by = quietly s (does s g) (λ f t good r p. pointer_of-does f t good p)

  pub a_place-by : Does Quiet (a_place rule) s IsPlaced
  a_place-by = quietly s (does s g) (λ f t good r p. place_of-does f t good p)

  pub a_condition-by : Does Quiet (a_condition rule) s IsTested
  a_condition-by = quietly s (does s g) (λ f t good r p. condition_of-does f t good p)

  pub as_assigned-by : (u : Ty) → IsType s.structs u → Does Quiet (as_assigned u rule) s (IsAssigned u)
  as_assigned-by u i =
      quietly s (does s g) (λ f t good r p. assigned_to-does u f t good (type-stays s t r u i) p)

  pub performed-by : Does Quiet (performed rule) s IsThrown
  performed-by = quietly s (does s g) (λ f t good r p. thrown_away-does f t good p)
