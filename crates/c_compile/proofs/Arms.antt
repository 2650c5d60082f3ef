-- Code of a node by its parts is that of the tree: each part is what its box holds.
use Rattle.std.proofs.Common.{◌≡◌, ◌∷◌, ℕ, Bool, true, false, List, Option, subst, sym}
use Rattle.std.specs.Prelude.{Result, OnOk}
use Rattle.ms_module.specs.Building.{State}
use Rattle.ms_emit.specs.Codes.{Code, one, ◌⨾◌}
use Rattle.ms_emit.specs.refinement.Parts.{Adds}
use Rattle.ms_emit.proofs.Adding.{adds_then}
use Rattle.ms_module.specs.declared.instr.Instr.TheVariants.{Drop}
use Rattle.c_types.specs.declared.integers.IntType.{IntType}
use Rattle.c_types.specs.declared.types.Scalar.{Scalar}
use Rattle.c_typed.specs.declared.ops.UnaryOp.{UnaryOp}
use Rattle.c_typed.specs.declared.ops.UnaryOp.TheVariants.{Complement, Negate}
use Rattle.c_typed.specs.declared.tree.Expr.{Expr}
use Rattle.c_typed.specs.declared.tree.Place.{Place}
use Rattle.c_typed.specs.Tree as tree
use Rattle.c_typed.specs.refinement.Views.{expr_of, place_of}
use Rattle.c_place.specs.refinement.Lists.{exprs_in}
use Rattle.c_code.specs.Expressions.{expr, exprs, left}
use Rattle.c_code.specs.Targets.{Target}

abbrev pub Emits : {A E : Type 0} → Result A E → State → State → (tree.Expr → Code) → tree.Expr → Type 0
Emits r s0 s1 f e = OnOk r (Adds s0 s1 (f e))

pub of_two : (P : tree.Expr → Type 0) (f : tree.Expr → tree.Expr → tree.Expr) (e a b a' b' : Expr)
    → expr_of e ≡ f (expr_of a) (expr_of b) → a' ≡ a → b' ≡ b → P (f (expr_of a') (expr_of b')) → P (expr_of e)
of_two P f e a b a' b' is p q h =
    subst P (sym is) (subst (λ (x : Expr). P (f (expr_of a) (expr_of x))) q (subst (λ (x : Expr). P (f (expr_of x) (expr_of b'))) p h))

pub of_three : (P : tree.Expr → Type 0) (f : tree.Expr → tree.Expr → tree.Expr → tree.Expr) (e a b c a' b' c' : Expr)
    → expr_of e ≡ f (expr_of a) (expr_of b) (expr_of c) → a' ≡ a → b' ≡ b → c' ≡ c → P (f (expr_of a') (expr_of b') (expr_of c')) → P (expr_of e)
of_three P f e a b c a' b' c' is p q s h =
    of_two P (λ x y. f x y (expr_of c)) e a b a' b' is p q (subst (λ (x : Expr). P (f (expr_of a') (expr_of b') (expr_of x))) s h)

pub of_place : (P : tree.Expr → Type 0) (f : tree.Place → tree.Expr → tree.Expr) (e : Expr) (p p' : Place) (a a' : Expr)
    → expr_of e ≡ f (place_of p) (expr_of a) → p' ≡ p → a' ≡ a → P (f (place_of p') (expr_of a')) → P (expr_of e)
of_place P f e p p' a a' is q s h =
    subst P (sym is) (subst (λ (x : Expr). P (f (place_of p) (expr_of x))) s (subst (λ (x : Place). P (f (place_of x) (expr_of a'))) q h))

pub of_places : (P : tree.Expr → Type 0) (f : tree.Place → tree.Place → tree.Expr) (e : Expr) (p p' q q' : Place)
    → expr_of e ≡ f (place_of p) (place_of q) → p' ≡ p → q' ≡ q → P (f (place_of p') (place_of q')) → P (expr_of e)
of_places P f e p p' q q' is s t h =
    subst P (sym is) (subst (λ (x : Place). P (f (place_of p) (place_of x))) t (subst (λ (x : Place). P (f (place_of x) (place_of q'))) s h))

pub of_list : (P : tree.Expr → Type 0) (f : tree.Exprs → tree.Expr) (e : Expr) (es es' : List Expr)
    → expr_of e ≡ f (exprs_in es) → es' ≡ es → P (f (exprs_in es')) → P (expr_of e)
of_list P f e es es' is p h = subst P (sym is) (subst (λ (l : List Expr). P (f (exprs_in l))) p h)

pub of_function : (P : tree.Expr → Type 0) (f : tree.Expr → tree.Exprs → tree.Expr) (e a a' : Expr) (es es' : List Expr)
    → expr_of e ≡ f (expr_of a) (exprs_in es) → a' ≡ a → es' ≡ es → P (f (expr_of a') (exprs_in es')) → P (expr_of e)
of_function P f e a a' es es' is p q h =
    of_list P (λ l. f (expr_of a) l) e es es' is q (subst (λ (x : Expr). P (f (expr_of x) (exprs_in es'))) p h)

-- what is thrown, of an expression that is known
pub of_left : (P : Code → Type 0) (t : Target) (d : ℕ) (s : Option Scalar) (e : tree.Expr) (x : tree.Expr)
    → e ≡ x → left false s (expr t true d x) ≡ expr t false d x → P (left false s (expr t true d e)) → P (expr t false d e)
of_left P t d s e x is so h =
    subst (λ (y : tree.Expr). P (expr t false d y)) (sym is) (subst P so (subst (λ (y : tree.Expr). P (left false s (expr t true d y))) is h))

-- and of an operation on one operand
pub of_unary : (P : Code → Type 0) (t : Target) (d : ℕ) (o : UnaryOp) (u : IntType) (a : tree.Expr)
    → P (expr t true d (tree.unary o u a) ⨾ one Drop) → P (expr t false d (tree.unary o u a))
of_unary P t d Negate u a h = h
of_unary P t d Complement u a h = h

-- by a flag
pub by_flag : (P : Bool → Type 0) (b c : Bool) → b ≡ c → P c → P b
by_flag P b c is h = subst P (sym is) h

-- an argument, and those behind it
pub next_argument : (t : Target) (d : ℕ) (s0 s1 s2 : State) (e : Expr) (es all : List Expr)
    → all ≡ e ∷ es → Adds s0 s1 (expr t true d (expr_of e)) → Adds s1 s2 (exprs t d (exprs_in es)) → Adds s0 s2 (exprs t d (exprs_in all))
next_argument t d s0 s1 s2 e es all is h k =
    subst (λ (l : List Expr). Adds s0 s2 (exprs t d (exprs_in l))) (sym is) (adds_then s0 s1 s2 (expr t true d (expr_of e)) (exprs t d (exprs_in es)) h k)
