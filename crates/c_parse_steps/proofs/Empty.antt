-- Lists that are empty.
use Rattle.std.proofs.Common.{◌≡◌, ◌==◌, false, List, [], ◌∷◌, ◌≤◌, length, refl, arith}
use Rattle.std.proofs.lemmas.Bool.Decides.{nat_tests}
use Rattle.c_tree.specs.Tree.{Expr, Initialiser}
use Rattle.c_tree.specs.declared.specifier.SpecifierNode.{SpecifierNode}
use Rattle.c_tree.specs.declared.specifier.SpecifierNode.TheVariants as specifiers
use Rattle.c_tree.specs.Tree.{Declarator, nothing, Parameters, parameter_and}
use Rattle.c_tree.specs.declared.tree.Parameter.{Parameter}
use Rattle.c_tree.specs.refinement.Views.{exprs_of, parameters_of}
use Rattle.c_tree.specs.refinement.InitialiserViews.{initialisers_of}
use Rattle.c_productions.specs.refinement.Table.{are_no_args, are_no_values, are_no, sole_void}

pub no_args : (es : List Expr) → (length es == 0) ≡ are_no_args (exprs_of es)
no_args [] = refl
no_args (e ∷ es) = grind (arith, nat_tests)

pub no_values : (vs : List Initialiser) → (length vs == 0) ≡ are_no_values (initialisers_of vs)
no_values [] = refl
no_values (v ∷ vs) = grind (arith, nat_tests)

pub none : {A : Type 0} → (xs : List A) → (length xs == 0) ≡ are_no xs
none [] = refl
none (x ∷ xs) = grind (arith, nat_tests)

two_not_sole : (a b : SpecifierNode) (d e : Declarator) (ps : Parameters) → sole_void (parameter_and a d (parameter_and b e ps)) ≡ false
two_not_sole specifiers.Void b nothing e ps = refl
two_not_sole specifiers.Void b _ e ps = refl
two_not_sole _ b d e ps = refl

pub many : (ps : List Parameter) → 2 ≤ length ps → sole_void (parameters_of ps) ≡ false
many [] h = absurd (omega arith)
many (p ∷ []) h = absurd (omega arith)
many (p ∷ r ∷ ps) h = two_not_sole p.specifier r.specifier p.declarator r.declarator (parameters_of ps)
