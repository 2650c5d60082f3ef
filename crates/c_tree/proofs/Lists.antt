-- Lists of parts, with one more at the end.
use Rattle.std.proofs.Common.{◌≡◌, ◌==◌, ℕ, max, List, [], ◌∷◌, ◌++◌, length, refl, ap, arith}
use Rattle.std.proofs.lemmas.Bool.Decides.{nat_tests}
use Rattle.c_tree.specs.declared.specifier.SpecifierNode.{SpecifierNode}
use Rattle.c_tree.specs.declared.tree.Parameter.{Parameter}
use Rattle.c_tree.specs.declared.statement.Item.{Item}
use Rattle.c_tree.specs.declared.statement.Item.TheVariants as item
use Rattle.c_tree.specs.Tree.{Expr, Exprs, no_exprs, expr_and, Declarator, Parameters, no_parameters, parameter_and, Initialiser, Initialisers, no_initialisers, initialiser_and}
use Rattle.c_tree.specs.Statements.{Items, no_items, statement_and, declaration_and, case_and, default_and}
use Rattle.c_tree.specs.refinement.Views.{exprs_of, parameters_of, with_parameter, with_expr, are_none}
use Rattle.c_tree.specs.refinement.InitialiserViews.{initialisers_of, with_initialiser}
use Rattle.c_tree.specs.refinement.StatementViews.{item_height, items_of, with_item}
use Rattle.c_tree.specs.Heights.{declarator_height, tallest_parameter, expr_height, tallest, initialiser_height, tallest_initialiser, tallest_of}
use Rattle.c_tree.specs.StatementHeights.{tallest_item}

pub exprs_last : (es : List Expr) (e : Expr) → exprs_of (es ++ e ∷ []) ≡ with_expr (exprs_of es) e
exprs_last [] e = refl
exprs_last (a ∷ es) e = ap (λ xs. expr_and a xs) (exprs_last es e)

pub tallest_last : (es : Exprs) (e : Expr) → tallest (with_expr es e) ≡ max (tallest es) (expr_height e)
tallest_last no_exprs e = omega arith
tallest_last (expr_and a es) e = omega (arith, tallest_last es e)

pub none_if_empty : (ps : List Parameter) → (length ps == 0) ≡ are_none (parameters_of ps)
none_if_empty [] = refl
none_if_empty (p ∷ ps) = grind (arith, nat_tests)

pub parameters_last : (ps : List Parameter) (p : Parameter) → parameters_of (ps ++ p ∷ []) ≡ with_parameter (parameters_of ps) p.specifier p.declarator
parameters_last [] p = refl
parameters_last (a ∷ ps) p = ap (λ xs. parameter_and a.specifier a.declarator xs) (parameters_last ps p)

pub tallest_parameter_last : (ps : Parameters) (s : SpecifierNode) (d : Declarator) → tallest_parameter (with_parameter ps s d) ≡ max (tallest_parameter ps) (declarator_height d)
tallest_parameter_last no_parameters s d = omega arith
tallest_parameter_last (parameter_and a e ps) s d = omega (arith, tallest_parameter_last ps s d)

pub initialisers_last : (vs : List Initialiser) (v : Initialiser) → initialisers_of (vs ++ v ∷ []) ≡ with_initialiser (initialisers_of vs) v
initialisers_last [] v = refl
initialisers_last (a ∷ vs) v = ap (λ xs. initialiser_and a xs) (initialisers_last vs v)

pub tallest_initialiser_last : (vs : Initialisers) (v : Initialiser) → tallest_initialiser (with_initialiser vs v) ≡ max (tallest_initialiser vs) (initialiser_height v)
tallest_initialiser_last no_initialisers v = omega arith
tallest_initialiser_last (initialiser_and a vs) v = omega (arith, tallest_initialiser_last vs v)

pub items_last : (is : List Item) (i : Item) → items_of (is ++ i ∷ []) ≡ with_item (items_of is) i
items_last [] i = refl
items_last (item.Statement s ∷ is) i = ap (λ xs. statement_and s xs) (items_last is i)
items_last (item.Declaration s ds ∷ is) i = ap (λ xs. declaration_and s ds xs) (items_last is i)
items_last (item.Case e ∷ is) i = ap (λ xs. case_and e xs) (items_last is i)
items_last (item.Default ∷ is) i = ap (λ xs. default_and xs) (items_last is i)

pub tallest_item_last : (is : Items) (i : Item) → tallest_item (with_item is i) ≡ max (tallest_item is) (item_height i)
tallest_item_last no_items (item.Statement s) = omega arith
tallest_item_last no_items (item.Declaration s xs) = omega arith
tallest_item_last no_items (item.Case e) = omega arith
tallest_item_last no_items item.Default = omega arith
tallest_item_last (statement_and a is) i = omega (arith, tallest_item_last is i)
tallest_item_last (declaration_and a xs is) i = omega (arith, tallest_item_last is i)
tallest_item_last (case_and e is) i = omega (arith, tallest_item_last is i)
tallest_item_last (default_and is) i = omega (arith, tallest_item_last is i)

pub tallest_of_last : {A : Type 0} (height : A → ℕ) (xs : List A) (x : A) → tallest_of height (xs ++ x ∷ []) ≡ max (tallest_of height xs) (height x)
tallest_of_last height [] x = omega arith
tallest_of_last height (a ∷ xs) x = omega (arith, tallest_of_last height xs x)
