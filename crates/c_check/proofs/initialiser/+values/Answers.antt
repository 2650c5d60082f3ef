use Rattle.std.proofs.Common.{◌<◌, subst, arith}
use Rattle.c_tree.specs.Tree.{Initialisers}
use Rattle.c_tree.specs.refinement.InitialiserViews.{initialiser_nodes, initialisers_nodes}
use Rattle.c_check.proofs.Values.{one_falls}
use Rattle.c_check.proofs.initialiser.+values.Goals as goal

pub elements-element-requires : goal.elements-element-requires
elements-element-requires n c =
    let v = c.index-items-i.result in
    let falls = one_falls c.items-items.result.now c.loop-i.i v c.loop-i-test.true c.index-items-i.is in
    let less = subst (λ (vs : Initialisers). initialiser_nodes v < initialisers_nodes vs) c.items-items.ensures falls in
    let bound = c.decreases in
    (omega (arith, less, bound), tt)

pub members-member-requires : goal.members-member-requires
members-member-requires n c =
    let v = c.index-items-i.result in
    let falls = one_falls c.items-items.result.now c.loop-i.i v c.loop-i-test.true c.index-items-i.is in
    let less = subst (λ (vs : Initialisers). initialiser_nodes v < initialisers_nodes vs) c.items-items.ensures falls in
    let bound = c.decreases in
    (omega (arith, less, bound), tt)
