-- Each part of an expression or a declarator is smaller than the whole.
use Rattle.std.specs.Prelude.{◌+◌, ◌≤◌, max, List, [], ◌∷◌}
use Rattle.std.proofs.Common.{arith}
use Rattle.c_tree.specs.Tree.{Expr}
use denote.Param.Weighed.{most}
use Rattle.c_tree.specs.declared.tree.ExprNode.{ExprNode}
use Rattle.c_tree.specs.declared.tree.ExprNode.TheVariants as exprs
use Rattle.c_tree.specs.declared.tree.Parameter.{Parameter}
use Rattle.c_tree.specs.declared.tree.DeclaratorNode.{DeclaratorNode}
use Rattle.c_tree.specs.declared.tree.DeclaratorNode.TheVariants as declarators
use Rattle.c_tree.specs.refinement.Views.{expr_of, exprs_of, declarator_of, parameters_of, parameters_nodes, expr_nodes, exprs_nodes, declarator_nodes}
use Rattle.c_tree.specs.declared.tree.Args.TheDeep.{deep-ExprNode, deep-DeclaratorNode, deep-Parameter}

pub expr_falls : (n : ExprNode) → max (deep-ExprNode n) 0 ≤ expr_nodes (expr_of n)
expr_falls (exprs.Name n) = omega arith
expr_falls (exprs.Integer n t) = omega arith
expr_falls (exprs.Character n) = omega arith
expr_falls (exprs.String s) = omega arith
expr_falls (exprs.Paren e) = omega arith
expr_falls (exprs.Index a i) = omega arith
expr_falls (exprs.Call f xs) = omega arith
expr_falls (exprs.Member op e n) = omega arith
expr_falls (exprs.After op e) = omega arith
expr_falls (exprs.Unary op e) = omega arith
expr_falls (exprs.SizeOfType s d) = omega arith
expr_falls (exprs.Cast s d e) = omega arith
expr_falls (exprs.Between op a b) = omega arith
expr_falls (exprs.Choice c a b) = omega arith

pub declarator_falls : (n : DeclaratorNode) → max (deep-DeclaratorNode n) 0 ≤ declarator_nodes (declarator_of n)
declarator_falls (declarators.Named n) = omega arith
declarator_falls declarators.Nothing = omega arith
declarator_falls (declarators.Pointer d) = omega arith
declarator_falls (declarators.Array d) = omega arith
declarator_falls (declarators.Sized d e) = omega arith
declarator_falls (declarators.Wrapped d) = omega arith
declarator_falls (declarators.Function d ps) = omega arith
declarator_falls (declarators.FunctionVoid d) = omega arith

pub parameters_fall : (ps : List Parameter) → max (most (λ p. deep-Parameter p) ps) 0 ≤ parameters_nodes (parameters_of ps)
parameters_fall [] = omega arith
parameters_fall (p ∷ ps) = omega (arith, parameters_fall ps)

pub exprs_fall : (es : List Expr) → max (most (λ e. expr_nodes e + 1) es) 0 ≤ exprs_nodes (exprs_of es)
exprs_fall [] = omega arith
exprs_fall (e ∷ es) = omega (arith, exprs_fall es)
