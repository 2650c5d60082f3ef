use Rattle.std.proofs.Common.{◌≡◌, ◌<◌, subst, arith}
use Rattle.c_types.specs.Types.{type_of}
use Rattle.c_tree.specs.Statements.{Items, Statement}
use Rattle.c_tree.specs.refinement.StatementViews.{items_nodes, statement_of}
use Rattle.c_tree.specs.declared.statement.StatementNode.{StatementNode}
use Rattle.c_check_types.specs.refinement.Views.{Obeys, state_of}
use Rattle.c_check.specs.Statements as words
use Rattle.c_check.specs.refinement.Views.{boxed_stmt}
use Rattle.c_check.proofs.Items.{item_nodes, one_falls}
use Rattle.c_check.proofs.statement.+statement.Goals as goal

pub items-item-requires : goal.items-item-requires
items-item-requires n c =
    let i = c.i-item.result in
    let falls = one_falls c.items-i-items.result.now c.loop-i.i-index i c.loop-i-test.true c.i-item.is in
    let less = subst (λ (is : Items). item_nodes i < items_nodes is) c.items-i-items.ensures falls in
    let bound = c.decreases in
    (omega (arith, less, bound), tt)

pub statement-returns-in-For : goal.statement-returns-in-For
statement-returns-in-For n c =
    let is = subst (λ (node : StatementNode). statement_of node ≡ c.args.s.now) c.in-For.is c.node.ensures in
    subst (λ (s : Statement). Obeys boxed_stmt (words.statement s (type_of c.args.result_type.now) c.args.j) (state_of c.args.checker.now) (state_of c.for_loop.new.checker) c.for_loop.result) is c.for_loop.ensures
