use Rattle.std.proofs.Common.{◌≡◌, ◌+◌, ◌*◌, drop}
use Rattle.c_types.specs.Types.{type_of}
use Rattle.c_tree.specs.refinement.InitialiserViews.{initialisers_of, initialiser_nodes, initialisers_nodes}
use Rattle.c_typed.specs.refinement.Views.{list_of, path_place}
use Rattle.c_check_types.specs.refinement.Views.{state_of}
use Rattle.c_check.specs.Initialisers.{elements, members}
use Rattle.c_check.proofs.initialiser.+values.Given as goal

abbrev pub invariant-elements-loop-i : goal.invariant-elements-loop-i
invariant-elements-loop-i l =
    elements (initialisers_of (drop l.i l.items)) l.is_static (path_place l.path) (type_of l.t) l.n l.i (list_of l.done.items) (state_of l.checker)
    ≡ elements l.fn.vs l.is_static (path_place l.path) (type_of l.t) l.n 0 (list_of l.fn.done.items) (state_of l.fn.checker)

abbrev pub invariant-members-loop-i : goal.invariant-members-loop-i
invariant-members-loop-i l =
    members (initialisers_of (drop l.i l.items)) l.is_static (path_place l.path) l.m l.i (list_of l.done.items) (state_of l.checker)
    ≡ members l.fn.vs l.is_static (path_place l.path) l.m 0 (list_of l.fn.done.items) (state_of l.fn.checker)

abbrev pub decreases-inside : goal.decreases-inside
decreases-inside l = 4 * initialiser_nodes l.v.now

abbrev pub decreases-elements : goal.decreases-elements
decreases-elements l = 4 * initialisers_nodes l.vs.now + 2

abbrev pub decreases-element : goal.decreases-element
decreases-element l = 4 * initialiser_nodes l.v.now + 1

abbrev pub decreases-members : goal.decreases-members
decreases-members l = 4 * initialisers_nodes l.vs.now + 2

abbrev pub decreases-member : goal.decreases-member
decreases-member l = 4 * initialiser_nodes l.v.now + 1
