-- What the nodes of expressions, declarators and initializers stand for, and how large that is.
use Rattle.std.specs.Prelude.{ℕ, ◌+◌, Bool, true, false, List, [], ◌∷◌}
use Rattle.c_tree.specs.Tree.{Expr, name, integer, character, string, paren, index, call, member, after, unary, size_of_type, cast, between, choice, Exprs, no_exprs, expr_and, Declarator, named, nothing, pointer, array, sized, wrapped, function, function_void, Parameters, no_parameters, parameter_and}
use Rattle.c_tree.specs.declared.specifier.SpecifierNode.{SpecifierNode}
use Rattle.c_tree.specs.declared.tree.ExprNode.{ExprNode}
use Rattle.c_tree.specs.declared.tree.ExprNode.TheVariants as exprs
use Rattle.c_tree.specs.declared.tree.DeclaratorNode.{DeclaratorNode}
use Rattle.c_tree.specs.declared.tree.DeclaratorNode.TheVariants as declarators
use Rattle.c_tree.specs.declared.tree.Parameter.{Parameter}

abbrev pub exprs_of : List Expr → Exprs
exprs_of [] = no_exprs
exprs_of (e ∷ es) = expr_and e (exprs_of es)

-- with one more at the end
abbrev pub with_expr : Exprs → Expr → Exprs
with_expr no_exprs e = expr_and e no_exprs
with_expr (expr_and a xs) e = expr_and a (with_expr xs e)

abbrev pub expr_of : ExprNode → Expr
expr_of (exprs.Name n) = name n
expr_of (exprs.Integer n t) = integer n t
expr_of (exprs.Character n) = character n
expr_of (exprs.String s) = string s
expr_of (exprs.Paren e) = paren e
expr_of (exprs.Index a i) = index a i
expr_of (exprs.Call f xs) = call f xs
expr_of (exprs.Member op e n) = member op e n
expr_of (exprs.After op e) = after op e
expr_of (exprs.Unary op e) = unary op e
expr_of (exprs.SizeOfType s d) = size_of_type s d
expr_of (exprs.Cast s d e) = cast s d e
expr_of (exprs.Between op a b) = between op a b
expr_of (exprs.Choice c a b) = choice c a b

abbrev pub declarator_of : DeclaratorNode → Declarator
declarator_of (declarators.Named n) = named n
declarator_of declarators.Nothing = nothing
declarator_of (declarators.Pointer d) = pointer d
declarator_of (declarators.Array d) = array d
declarator_of (declarators.Sized d e) = sized d e
declarator_of (declarators.Wrapped d) = wrapped d
declarator_of (declarators.Function d ps) = function d ps
declarator_of (declarators.FunctionVoid d) = function_void d

abbrev pub parameters_of : List Parameter → Parameters
parameters_of [] = no_parameters
parameters_of (p ∷ ps) = parameter_and p.specifier p.declarator (parameters_of ps)

abbrev pub with_parameter : Parameters → SpecifierNode → Declarator → Parameters
with_parameter no_parameters s d = parameter_and s d no_parameters
with_parameter (parameter_and a e ps) s d = parameter_and a e (with_parameter ps s d)

abbrev pub are_none : Parameters → Bool
are_none no_parameters = true
are_none (parameter_and s d ps) = false

-- ---- sizes

abbrev mutual
  pub expr_nodes : Expr → ℕ
  expr_nodes (name n) = 1
  expr_nodes (integer n t) = 1
  expr_nodes (character n) = 1
  expr_nodes (string s) = 1
  expr_nodes (paren e) = expr_nodes e + 1
  expr_nodes (index a i) = expr_nodes a + expr_nodes i + 1
  expr_nodes (call f xs) = expr_nodes f + exprs_nodes xs + 1
  expr_nodes (member op e n) = expr_nodes e + 1
  expr_nodes (after op e) = expr_nodes e + 1
  expr_nodes (unary op e) = expr_nodes e + 1
  expr_nodes (size_of_type s d) = declarator_nodes d + 1
  expr_nodes (cast s d e) = declarator_nodes d + expr_nodes e + 1
  expr_nodes (between op a b) = expr_nodes a + expr_nodes b + 1
  expr_nodes (choice c a b) = expr_nodes c + expr_nodes a + expr_nodes b + 1

  pub exprs_nodes : Exprs → ℕ
  exprs_nodes no_exprs = 1
  exprs_nodes (expr_and e es) = expr_nodes e + exprs_nodes es + 1

  pub declarator_nodes : Declarator → ℕ
  declarator_nodes (named n) = 1
  declarator_nodes nothing = 1
  declarator_nodes (pointer d) = declarator_nodes d + 1
  declarator_nodes (array d) = declarator_nodes d + 1
  declarator_nodes (sized d e) = declarator_nodes d + expr_nodes e + 1
  declarator_nodes (wrapped d) = declarator_nodes d + 1
  declarator_nodes (function d ps) = declarator_nodes d + parameters_nodes ps + 1
  declarator_nodes (function_void d) = declarator_nodes d + 1

  pub parameters_nodes : Parameters → ℕ
  parameters_nodes no_parameters = 1
  parameters_nodes (parameter_and s d ps) = declarator_nodes d + parameters_nodes ps + 2
