-- Lists of parts with one more at the end.
use Rattle.std.proofs.Common.{◌≡◌, ℕ, ◌≤◌, max, Bool, List, [], ◌∷◌, ◌++◌, refl, ap, arith}
use Rattle.c_token.specs.declared.word.Mark.TheVariants as marks
use Rattle.c_token.specs.declared.word.Keyword.TheVariants as keywords
use Rattle.c_token.specs.declared.word.Word.{Word}
use Rattle.c_tree.specs.declared.specifier.SpecifierNode.{SpecifierNode}
use Rattle.c_tree.specs.Operators.{an_assignment}
use Rattle.c_tree.specs.declared.tree.Core.TheVariants as cores
use Rattle.c_tree.specs.Tree.{Expr, Exprs, no_exprs, expr_and, Declarator, named, nothing, pointer, array, sized, wrapped, function, function_void, Parameters, no_parameters, parameter_and, Initialiser, Initialisers, no_initialisers, initialiser_and}
use Rattle.c_tree.specs.declared.initialiser.Init.{Init}
use Rattle.c_tree.specs.declared.enumerator.Enumerator.{Enumerator}
use Rattle.c_tree.specs.Statements.{Items, no_items, statement_and, declaration_and, case_and, default_and}
use Rattle.c_tree.specs.declared.statement.Item.{Item}
use Rattle.c_tree.specs.Heights.{declarator_height, tallest_of}
use Rattle.c_tree.specs.StatementHeights.{tallest_item}
use Rattle.c_tree.specs.declared.external.Piece.{Piece}
use Rattle.c_tree.specs.refinement.Views.{with_expr, with_parameter}
use Rattle.c_tree.specs.refinement.InitialiserViews.{with_initialiser}
use Rattle.c_tree.specs.refinement.StatementViews.{with_item}
use Rattle.c_tree.specs.Grammar.{mark, behind_commas, each, are_some, spell_specifier, spell, spell_arguments, spell_rest, spell_declarator, spell_parameters, spell_more, spell_initialiser, spell_initialisers, spell_values, spell_init, spell_inits, spell_statement, spell_items, spell_declarators, spell_piece, spell_members, FitsSpecifier, level, FitsExpr, FitArguments, FitsDeclarator, FitParameters, FitsInitialiser, FitInitialisers, FitsInit, FitInits, FitItems, keyword, separated, FitsEnumerator, FitEnumerators}
use Rattle.c_productions.specs.refinement.Meaning.{inits_then, before_commas}

pub append_nil : {A : Type 0} → (xs : List A) → xs ++ [] ≡ xs
append_nil [] = refl
append_nil (x ∷ xs) = ap (λ ys. x ∷ ys) (append_nil xs)

-- ---- arguments

spell_rest_last : (xs : Exprs) (e : Expr) (q : List Word) → spell_rest (with_expr xs e) q ≡ spell_rest xs (mark marks.Comma (spell e q))
spell_rest_last no_exprs e q = refl
spell_rest_last (expr_and a xs) e q = ap (λ r. mark marks.Comma (spell a r)) (spell_rest_last xs e q)

pub arguments_last : (a : Expr) (xs : Exprs) (e : Expr) (q : List Word) → spell_arguments (with_expr (expr_and a xs) e) q ≡ spell_arguments (expr_and a xs) (mark marks.Comma (spell e q))
arguments_last a xs e q = ap (λ r. spell a r) (spell_rest_last xs e q)

pub fit_last : (xs : Exprs) (e : Expr) → FitArguments xs → an_assignment ≤ level e → FitsExpr e → FitArguments (with_expr xs e)
fit_last no_exprs e f l h = (l, h, tt)
fit_last (expr_and a xs) e f l h = (f.0, f.1, fit_last xs e f.2 l h)

-- ---- parameters

spell_more_last : (ps : Parameters) (s : SpecifierNode) (d : Declarator) (q : List Word) → spell_more (with_parameter ps s d) q ≡ spell_more ps (mark marks.Comma (spell_specifier s (spell_declarator d q)))
spell_more_last no_parameters s d q = refl
spell_more_last (parameter_and a e ps) s d q = ap (λ r. mark marks.Comma (spell_specifier a (spell_declarator e r))) (spell_more_last ps s d q)

pub parameters_last : (a : SpecifierNode) (e : Declarator) (ps : Parameters) (s : SpecifierNode) (d : Declarator) (q : List Word) → spell_parameters (with_parameter (parameter_and a e ps) s d) q ≡ spell_parameters (parameter_and a e ps) (mark marks.Comma (spell_specifier s (spell_declarator d q)))
parameters_last a e ps s d q = ap (λ r. spell_specifier a (spell_declarator e r)) (spell_more_last ps s d q)

pub fit_parameters_last : (ps : Parameters) (s : SpecifierNode) (d : Declarator) → FitParameters ps → FitsSpecifier s → FitsDeclarator cores.Either d → FitParameters (with_parameter ps s d)
fit_parameters_last no_parameters s d f g h = (g, h, tt)
fit_parameters_last (parameter_and a e ps) s d f g h = (f.0, f.1, fit_parameters_last ps s d f.2 g h)

-- ---- initializers in braces

spell_values_last : (vs : Initialisers) (v : Initialiser) (q : List Word) → spell_values (with_initialiser vs v) q ≡ spell_values vs (mark marks.Comma (spell_initialiser v q))
spell_values_last no_initialisers v q = refl
spell_values_last (initialiser_and a vs) v q = ap (λ r. mark marks.Comma (spell_initialiser a r)) (spell_values_last vs v q)

pub initialisers_last : (a : Initialiser) (vs : Initialisers) (v : Initialiser) (q : List Word) → spell_initialisers (with_initialiser (initialiser_and a vs) v) q ≡ spell_initialisers (initialiser_and a vs) (mark marks.Comma (spell_initialiser v q))
initialisers_last a vs v q = ap (λ r. spell_initialiser a r) (spell_values_last vs v q)

pub fit_initialisers_last : (vs : Initialisers) (v : Initialiser) → FitInitialisers vs → FitsInitialiser v → FitInitialisers (with_initialiser vs v)
fit_initialisers_last no_initialisers v f h = (h, tt)
fit_initialisers_last (initialiser_and a vs) v f h = (f.0, fit_initialisers_last vs v f.1 h)

-- ---- lists with commas

pub before_commas_last : {A : Type 0} → (s : A → List Word → List Word) (xs : List A) (x : A) (r : List Word) → before_commas s (xs ++ x ∷ []) r ≡ before_commas s xs (s x (mark marks.Comma r))
before_commas_last s [] x r = refl
before_commas_last s (y ∷ xs) x r = ap (λ q. s y (mark marks.Comma q)) (before_commas_last s xs x r)

behind_last : {A : Type 0} → (s : A → List Word → List Word) (xs : List A) (x : A) (r : List Word) → behind_commas s (xs ++ x ∷ []) r ≡ mark marks.Comma (before_commas s xs (s x r))
behind_last s [] x r = refl
behind_last s (y ∷ xs) x r = ap (λ q. mark marks.Comma (s y q)) (behind_last s xs x r)

pub separated_are : {A : Type 0} → (s : A → List Word → List Word) (xs : List A) (x : A) (r : List Word) → separated s (xs ++ x ∷ []) r ≡ before_commas s xs (s x r)
separated_are s [] x r = refl
separated_are s (y ∷ xs) x r = ap (λ q. s y q) (behind_last s xs x r)

behind_moved : {A : Type 0} → (s : A → List Word → List Word) (xs : List A) (r : List Word) → behind_commas s xs (mark marks.Comma r) ≡ mark marks.Comma (before_commas s xs r)
behind_moved s [] r = refl
behind_moved s (y ∷ xs) r = ap (λ q. mark marks.Comma (s y q)) (behind_moved s xs r)

-- with a comma at the end
pub separated_moved : {A : Type 0} → (s : A → List Word → List Word) (x : A) (xs : List A) (r : List Word) → separated s (x ∷ xs) (mark marks.Comma r) ≡ before_commas s (x ∷ xs) r
separated_moved s x xs r = ap (λ q. s x q) (behind_moved s xs r)

-- ---- declarators with initializers

pub inits_then_last : (xs : List Init) (x : Init) (r : List Word) → inits_then (xs ++ x ∷ []) r ≡ inits_then xs (spell_init x (mark marks.Comma r))
inits_then_last xs x r = before_commas_last spell_init xs x r

pub inits_are : (xs : List Init) (x : Init) (r : List Word) → spell_inits (xs ++ x ∷ []) r ≡ inits_then xs (spell_init x r)
inits_are xs x r = separated_are spell_init xs x r

pub each_last : {A : Type 0} → (P : A → Type 0) (xs : List A) (x : A) → each P xs → P x → each P (xs ++ x ∷ [])
each_last P [] x h k = (k, tt)
each_last P (y ∷ xs) x h k = (h.0, each_last P xs x h.1 k)

pub some_last : {A : Type 0} → (xs : List A) (x : A) → are_some (xs ++ x ∷ [])
some_last [] x = tt
some_last (y ∷ xs) x = tt

pub tallest_of_last : {A : Type 0} → (h : A → ℕ) (xs : List A) (x : A) → tallest_of h (xs ++ x ∷ []) ≡ max (tallest_of h xs) (h x)
tallest_of_last h [] x = omega arith
tallest_of_last h (y ∷ xs) x = omega (arith, tallest_of_last h xs x)

pub fit_inits_last : (xs : List Init) (x : Init) → each FitsInit xs → FitsInit x → FitInits (xs ++ x ∷ [])
fit_inits_last xs x h k = (some_last xs x, each_last FitsInit xs x h k)

pub fit_enumerators_last : (xs : List Enumerator) (x : Enumerator) → each FitsEnumerator xs → FitsEnumerator x → FitEnumerators (xs ++ x ∷ [])
fit_enumerators_last xs x h k = (some_last xs x, each_last FitsEnumerator xs x h k)

-- ---- items in braces

pub items_last : (its : Items) (i : Item) (q : List Word) → spell_items (with_item its i) q ≡ spell_items its (spell_items (with_item no_items i) q)
items_last no_items i q = refl
items_last (statement_and s its) i q = ap (λ r. spell_statement s r) (items_last its i q)
items_last (declaration_and s xs its) i q = ap (λ r. spell_specifier s (spell_inits xs (mark marks.Semicolon r))) (items_last its i q)
items_last (case_and e its) i q = ap (λ r. keyword keywords.Case (spell e (mark marks.Colon r))) (items_last its i q)
items_last (default_and its) i q = ap (λ r. keyword keywords.Default (mark marks.Colon r)) (items_last its i q)

pub fit_items_last : (labels : Bool) (its : Items) (i : Item) → FitItems labels its → FitItems labels (with_item no_items i) → FitItems labels (with_item its i)
fit_items_last labels no_items i f h = h
fit_items_last labels (statement_and s its) i f h = (f.0, fit_items_last labels its i f.1 h)
fit_items_last labels (declaration_and s xs its) i f h = (f.0, f.1, fit_items_last labels its i f.2 h)
fit_items_last labels (case_and e its) i f h = (f.0, f.1, f.2, fit_items_last labels its i f.3 h)
fit_items_last labels (default_and its) i f h = (f.0, fit_items_last labels its i f.1 h)

pub tallest_item_last : (its : Items) (i : Item) → tallest_item (with_item its i) ≡ max (tallest_item its) (tallest_item (with_item no_items i))
tallest_item_last no_items i = omega arith
tallest_item_last (statement_and s its) i = omega (arith, tallest_item_last its i)
tallest_item_last (declaration_and s xs its) i = omega (arith, tallest_item_last its i)
tallest_item_last (case_and e its) i = omega (arith, tallest_item_last its i)
tallest_item_last (default_and its) i = omega (arith, tallest_item_last its i)

-- ---- members

pub members_last : (ps : List Piece) (p : Piece) (q : List Word) → spell_members (ps ++ p ∷ []) q ≡ spell_members ps (spell_piece p q)
members_last [] p q = refl
members_last (x ∷ ps) p q = ap (λ r. spell_piece x r) (members_last ps p q)

declarators_behind : (ds : List Declarator) (d : Declarator) (q : List Word) → behind_commas spell_declarator (ds ++ d ∷ []) q ≡ behind_commas spell_declarator ds (mark marks.Comma (spell_declarator d q))
declarators_behind [] d q = refl
declarators_behind (e ∷ ds) d q = ap (λ r. mark marks.Comma (spell_declarator e r)) (declarators_behind ds d q)

pub declarators_last : (e : Declarator) (ds : List Declarator) (d : Declarator) (q : List Word) → spell_declarators ((e ∷ ds) ++ d ∷ []) q ≡ spell_declarators (e ∷ ds) (mark marks.Comma (spell_declarator d q))
declarators_last e ds d q = ap (λ r. spell_declarator e r) (declarators_behind ds d q)

-- what has a name is a node
pub named_high : (d : Declarator) → FitsDeclarator cores.Name d → 1 ≤ declarator_height d
named_high (named n) h = omega arith
named_high nothing h = cc
named_high (pointer d) h = omega arith
named_high (array d) h = omega arith
named_high (sized d e) h = omega arith
named_high (wrapped d) h = omega arith
named_high (function d ps) h = omega arith
named_high (function_void d) h = omega arith
