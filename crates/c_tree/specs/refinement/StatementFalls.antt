-- Each part of a statement is smaller than the whole.
use Rattle.std.specs.Prelude.{◌≤◌, max, List, [], ◌∷◌}
use Rattle.std.proofs.Common.{arith}
use denote.Param.Weighed.{most}
use Rattle.c_tree.specs.declared.statement.StatementNode.{StatementNode}
use Rattle.c_tree.specs.declared.statement.StatementNode.TheVariants as statements
use Rattle.c_tree.specs.declared.statement.Item.{Item}
use Rattle.c_tree.specs.declared.statement.Item.TheVariants as items
use Rattle.c_tree.specs.refinement.StatementViews.{statement_of, items_of, statement_nodes, items_nodes}
use Rattle.c_tree.specs.declared.statement.Block.TheDeep.{deep-StatementNode, deep-Item}

pub statement_falls : (n : StatementNode) → max (deep-StatementNode n) 0 ≤ statement_nodes (statement_of n)
statement_falls (statements.Block is) = omega arith
statement_falls (statements.Plain e) = omega arith
statement_falls statements.Empty = omega arith
statement_falls (statements.IfThen c a) = omega arith
statement_falls (statements.IfElse c a b) = omega arith
statement_falls (statements.While c s) = omega arith
statement_falls (statements.DoWhile s c) = omega arith
statement_falls (statements.For a c b s) = omega arith
statement_falls (statements.Switch e is) = omega arith
statement_falls statements.ReturnNone = omega arith
statement_falls (statements.ReturnValue e) = omega arith
statement_falls (statements.Jump j) = omega arith

pub items_fall : (is : List Item) → max (most (λ i. deep-Item i) is) 0 ≤ items_nodes (items_of is)
items_fall [] = omega arith
items_fall (items.Statement s ∷ is) = omega (arith, items_fall is)
items_fall (items.Declaration s xs ∷ is) = omega (arith, items_fall is)
items_fall (items.Case e ∷ is) = omega (arith, items_fall is)
items_fall (items.Default ∷ is) = omega (arith, items_fall is)
