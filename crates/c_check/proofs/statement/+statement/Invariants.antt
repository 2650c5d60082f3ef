use Rattle.std.proofs.Common.{◌≡◌, ◌+◌, ◌*◌, drop}
use Rattle.c_types.specs.Types.{type_of}
use Rattle.c_tree.specs.refinement.StatementViews.{items_of, items_nodes, statement_nodes}
use Rattle.c_check_types.specs.refinement.Views.{state_of}
use Rattle.c_check.specs.Statements.{items}
use Rattle.c_check.specs.refinement.Views.{declaring_of}
use Rattle.c_check.proofs.Items.{item_nodes}
use Rattle.c_check.proofs.statement.+statement.Given as goal

abbrev pub invariant-items-loop-i : goal.invariant-items-loop-i
invariant-items-loop-i l =
    items (items_of (drop l.i-index l.i-items)) (type_of l.result_type) l.j l.labels (declaring_of l.so_far) (state_of l.checker)
    ≡ items l.fn.is (type_of l.result_type) l.j l.labels (declaring_of l.fn.so_far) (state_of l.fn.checker)

abbrev pub decreases-statement : goal.decreases-statement
decreases-statement l = 8 * statement_nodes l.s.now

abbrev pub decreases-block : goal.decreases-block
decreases-block l = 8 * items_nodes l.is.now + 6

abbrev pub decreases-switch : goal.decreases-switch
decreases-switch l = 8 * items_nodes l.is.now + 6

abbrev pub decreases-for_loop : goal.decreases-for_loop
decreases-for_loop l = 8 * statement_nodes l.body.now + 4

abbrev pub decreases-for_parts : goal.decreases-for_parts
decreases-for_parts l = 8 * statement_nodes l.body.now + 3

abbrev pub decreases-items : goal.decreases-items
decreases-items l = 8 * items_nodes l.is.now + 4

abbrev pub decreases-item : goal.decreases-item
decreases-item l = 8 * item_nodes l.i.now + 2
