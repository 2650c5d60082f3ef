-- Heights: declarators, initializers, statements and expressions in one another. Parentheses count as one, nothing in a
-- name's place doesn't, and an initializer that is an expression isn't one more.
use Rattle.std.specs.Prelude.{ℕ, ◌+◌, max, List, [], ◌∷◌, Option, Some, None}
use Rattle.c_tree.specs.Tree.{Expr, name, integer, character, string, paren, index, call, member, after, unary, size_of_type, cast, between, choice, Exprs, no_exprs, expr_and, Declarator, named, nothing, pointer, array, sized, wrapped, function, function_void, Parameters, no_parameters, parameter_and, Initialiser, single, braces, Initialisers, no_initialisers, initialiser_and}
use Rattle.c_tree.specs.declared.initialiser.Init.{Init}

abbrev mutual
  pub expr_height : Expr → ℕ
  expr_height (name n) = 1
  expr_height (integer n t) = 1
  expr_height (character n) = 1
  expr_height (string s) = 1
  expr_height (paren e) = expr_height e + 1
  expr_height (index a i) = max (expr_height a) (expr_height i) + 1
  expr_height (call f xs) = max (expr_height f) (tallest xs) + 1
  expr_height (member op e n) = expr_height e + 1
  expr_height (after op e) = expr_height e + 1
  expr_height (unary op e) = expr_height e + 1
  expr_height (size_of_type s d) = declarator_height d + 1
  expr_height (cast s d e) = max (declarator_height d) (expr_height e) + 1
  expr_height (between op a b) = max (expr_height a) (expr_height b) + 1
  expr_height (choice c a b) = max (max (expr_height c) (expr_height a)) (expr_height b) + 1

  pub tallest : Exprs → ℕ
  tallest no_exprs = 0
  tallest (expr_and e es) = max (expr_height e) (tallest es)

  pub declarator_height : Declarator → ℕ
  declarator_height (named n) = 1
  declarator_height nothing = 0
  declarator_height (pointer d) = declarator_height d + 1
  declarator_height (array d) = declarator_height d + 1
  declarator_height (sized d e) = max (declarator_height d) (expr_height e) + 1
  declarator_height (wrapped d) = declarator_height d + 1
  declarator_height (function d ps) = max (declarator_height d) (tallest_parameter ps) + 1
  declarator_height (function_void d) = declarator_height d + 1

  pub tallest_parameter : Parameters → ℕ
  tallest_parameter no_parameters = 0
  tallest_parameter (parameter_and s d ps) = max (declarator_height d) (tallest_parameter ps)

abbrev mutual
  pub initialiser_height : Initialiser → ℕ
  initialiser_height (single e) = expr_height e
  initialiser_height (braces vs comma) = tallest_initialiser vs + 1

  pub tallest_initialiser : Initialisers → ℕ
  tallest_initialiser no_initialisers = 0
  tallest_initialiser (initialiser_and v vs) = max (initialiser_height v) (tallest_initialiser vs)

-- the height of the tallest in a list
abbrev pub tallest_of : {A : Type 0} → (A → ℕ) → List A → ℕ
tallest_of height [] = 0
tallest_of height (x ∷ xs) = max (height x) (tallest_of height xs)

abbrev pub value_height : Option Initialiser → ℕ
value_height None = 0
value_height (Some v) = initialiser_height v

-- a declarator and its initializer
abbrev pub init_height : Init → ℕ
init_height x = max (declarator_height x.declarator) (value_height x.value)
