-- The arguments that are left, when one of them has been read.
use Rattle.std.proofs.Common.{◌≡◌, ◌∙◌, ℕ, zero, suc, ◌+◌, ◌<◌, arith, List, [], ◌∷◌, ◌++◌, length, get_or, drop, Some, None, sym, refl, ap}
use Rattle.std.proofs.Math.Seq.{drop-cons}
use Rattle.c_types.specs.Types.{type_of}
use Rattle.c_types.specs.refinement.Views.{types_in}
use Rattle.c_types.specs.declared.types.CType.{CType}
use Rattle.c_tree.specs.Tree.{Expr}
use Rattle.c_tree.specs.refinement.Views.{exprs_of, exprs_nodes, expr_nodes}
use Rattle.c_typed.specs.Tree as to
use Rattle.c_check_types.specs.State.{State, Rule, followed}
use Rattle.c_check_types.specs.TypeEquality.{tys_of}
use Rattle.c_check_exprs.specs.Expressions.{arguments, as_assigned, factors, multiplying, sole, typing}

-- what goes on behind an argument
abbrev pub going_on : List Expr → List CType → List to.Expr → to.Expr → Rule (List to.Expr)
going_on es ts vs v = arguments (exprs_of es) (tys_of (types_in ts)) (vs ++ v ∷ [])

pub front : (es : List Expr) (ts : List CType) (i : ℕ) (e : Expr) (t : CType) → i < length es → i < length ts → e ≡ get_or es i e → t ≡ get_or ts i t → (vs : List to.Expr) (s : State)
    → arguments (exprs_of (drop i es)) (tys_of (types_in (drop i ts))) vs s
    ≡ followed (as_assigned (type_of t) (typing e) s) (going_on (drop (suc i) es) (drop (suc i) ts) vs)
front es ts i e t l m p q vs s =
    ap (λ (l : List Expr). arguments (exprs_of l) (tys_of (types_in (drop i ts))) vs s) (drop-cons es i e l)
    ∙ ap (λ (l : List CType). arguments (exprs_of (get_or es i e ∷ drop (suc i) es)) (tys_of (types_in l)) vs s) (drop-cons ts i t m)
    ∙ ap (λ (x : Expr). followed (as_assigned (type_of (get_or ts i t)) (typing x) s) (going_on (drop (suc i) es) (drop (suc i) ts) vs)) (sym p)
    ∙ ap (λ (u : CType). followed (as_assigned (type_of u) (typing e) s) (going_on (drop (suc i) es) (drop (suc i) ts) vs)) (sym q)

pub differ : (es : List Expr) (ts : List CType) → (length es ≡ length ts → ⊥) → (vs : List to.Expr) (s : State) → arguments (exprs_of es) (tys_of (types_in ts)) vs s ≡ None
differ [] [] d vs s = absurd (d refl)
differ [] (t ∷ ts) d vs s = refl
differ (e ∷ es) [] d vs s = refl
differ (e ∷ es) (t ∷ ts) d vs s =
    elim (as_assigned (type_of t) (typing e) s) as (λ o. followed o (going_on es ts vs) ≡ None) [ None ↦ refl | Some x ↦ differ es ts (λ p. d (ap suc p)) (vs ++ x.0 ∷ []) x.1 ]

pub sole_is : (es : List Expr) (e : Expr) → length es ≡ 1 → e ≡ get_or es 0 e → (s : State) → sole (exprs_of es) s ≡ typing e s
sole_is [] e l p s = absurd (omega arith)
sole_is (x ∷ []) e l p s = ap (λ (y : Expr). typing y s) (sym p)
sole_is (x ∷ y ∷ es) e l p s = absurd (omega arith)

pub sole_isnt : (es : List Expr) → (length es ≡ 1 → ⊥) → (s : State) → sole (exprs_of es) s ≡ None
sole_isnt [] d s = refl
sole_isnt (x ∷ []) d s = absurd (d refl)
sole_isnt (x ∷ y ∷ es) d s = refl

pub factors_are : (es : List Expr) (a b : Expr) → length es ≡ 2 → a ≡ get_or es 0 a → b ≡ get_or es 1 b → (s : State) → factors (exprs_of es) s ≡ multiplying (typing a) (typing b) s
factors_are [] a b l p q s = absurd (omega arith)
factors_are (x ∷ []) a b l p q s = absurd (omega arith)
factors_are (x ∷ y ∷ []) a b l p q s =
    ap (λ (e : Expr). multiplying (typing e) (typing y) s) (sym p) ∙ ap (λ (e : Expr). multiplying (typing a) (typing e) s) (sym q)
factors_are (x ∷ y ∷ z ∷ es) a b l p q s = absurd (omega arith)

pub factors_arent : (es : List Expr) → (length es ≡ 2 → ⊥) → (s : State) → factors (exprs_of es) s ≡ None
factors_arent [] d s = refl
factors_arent (x ∷ []) d s = refl
factors_arent (x ∷ y ∷ []) d s = absurd (d refl)
factors_arent (x ∷ y ∷ z ∷ es) d s = refl

pub two_fall : (es : List Expr) (a b : Expr) → length es ≡ 2 → a ≡ get_or es 0 a → b ≡ get_or es 1 b → expr_nodes a + expr_nodes b < exprs_nodes (exprs_of es)
two_fall [] a b l p q = absurd (omega arith)
two_fall (x ∷ []) a b l p q = absurd (omega arith)
two_fall (x ∷ y ∷ []) a b l p q =
    let m : expr_nodes a ≡ expr_nodes x = ap (λ e. expr_nodes e) p in
    let n : expr_nodes b ≡ expr_nodes y = ap (λ e. expr_nodes e) q in
    omega (arith, m, n)
two_fall (x ∷ y ∷ z ∷ es) a b l p q = absurd (omega arith)

-- each argument is smaller than all of them
pub one_falls : (es : List Expr) (i : ℕ) (e : Expr) → i < length es → e ≡ get_or es i e → expr_nodes e < exprs_nodes (exprs_of es)
one_falls [] i e lt p = absurd (omega arith)
one_falls (x ∷ es) zero e lt p = let same : expr_nodes e ≡ expr_nodes x = ap (λ y. expr_nodes y) p in omega arith
one_falls (x ∷ es) (suc i) e lt p = let more = one_falls es i e (omega arith) p in omega arith
