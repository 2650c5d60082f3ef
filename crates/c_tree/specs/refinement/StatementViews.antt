-- What the nodes of statements stand for, and how large that is.
use Rattle.std.specs.Prelude.{ℕ, ◌+◌, List, [], ◌∷◌}
use Rattle.c_tree.specs.Statements.{Statement, block, plain, empty, if_then, if_else, while_loop, do_while, for_loop, switch, return_none, return_value, jump, Items, no_items, statement_and, declaration_and, case_and, default_and}
use Rattle.c_tree.specs.Heights.{expr_height, tallest_of, init_height}
use Rattle.c_tree.specs.StatementHeights.{statement_height}
use Rattle.c_tree.specs.declared.statement.StatementNode.{StatementNode}
use Rattle.c_tree.specs.declared.statement.StatementNode.TheVariants as statements
use Rattle.c_tree.specs.declared.statement.Item.{Item}
use Rattle.c_tree.specs.declared.statement.Item.TheVariants as items

abbrev pub statement_of : StatementNode → Statement
statement_of (statements.Block is) = block is
statement_of (statements.Plain e) = plain e
statement_of statements.Empty = empty
statement_of (statements.IfThen c a) = if_then c a
statement_of (statements.IfElse c a b) = if_else c a b
statement_of (statements.While c s) = while_loop c s
statement_of (statements.DoWhile s c) = do_while s c
statement_of (statements.For a c b s) = for_loop a c b s
statement_of (statements.Switch e is) = switch e is
statement_of statements.ReturnNone = return_none
statement_of (statements.ReturnValue e) = return_value e
statement_of (statements.Jump j) = jump j

abbrev pub item_and : Item → Items → Items
item_and (items.Statement s) is = statement_and s is
item_and (items.Declaration s xs) is = declaration_and s xs is
item_and (items.Case e) is = case_and e is
item_and items.Default is = default_and is

abbrev pub items_of : List Item → Items
items_of [] = no_items
items_of (i ∷ is) = item_and i (items_of is)

-- with one more at the end
abbrev pub with_item : Items → Item → Items
with_item no_items i = item_and i no_items
with_item (statement_and s is) i = statement_and s (with_item is i)
with_item (declaration_and s xs is) i = declaration_and s xs (with_item is i)
with_item (case_and e is) i = case_and e (with_item is i)
with_item (default_and is) i = default_and (with_item is i)

abbrev mutual
  pub statement_nodes : Statement → ℕ
  statement_nodes (block is) = items_nodes is + 1
  statement_nodes (plain e) = 1
  statement_nodes empty = 1
  statement_nodes (if_then c a) = statement_nodes a + 1
  statement_nodes (if_else c a b) = statement_nodes a + statement_nodes b + 1
  statement_nodes (while_loop c s) = statement_nodes s + 1
  statement_nodes (do_while s c) = statement_nodes s + 1
  statement_nodes (for_loop a c b s) = statement_nodes s + 1
  statement_nodes (switch e is) = items_nodes is + 1
  statement_nodes return_none = 1
  statement_nodes (return_value e) = 1
  statement_nodes (jump j) = 1

  pub items_nodes : Items → ℕ
  items_nodes no_items = 1
  items_nodes (statement_and s is) = statement_nodes s + items_nodes is + 2
  items_nodes (declaration_and s xs is) = items_nodes is + 2
  items_nodes (case_and e is) = items_nodes is + 2
  items_nodes (default_and is) = items_nodes is + 2

abbrev pub item_height : Item → ℕ
item_height (items.Statement s) = statement_height s
item_height (items.Declaration s xs) = tallest_of init_height xs
item_height (items.Case e) = expr_height e
item_height items.Default = 0
