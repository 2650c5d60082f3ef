use Rattle.std.proofs.Common.{◌≡◌, ◌-◌, true, false, arith}
use Rattle.ms_gap_tree.specs.refinement.Arena.{at}
use Rattle.ms_gap_tree.specs.refinement.Tree.{link_below}
use Rattle.ms_gap_tree.proofs.Exchanged.{does_yield, exchanged_is, left_above, right_above}
use Rattle.ms_gap_tree.proofs.tree.exchange.Goals as goal

pub returns-then-not-is_below : goal.returns-then-not-is_below
returns-then-not-is_below c =
    let e : link_below c.args.new.room (at c.args.nodes.now c.in_ok-root.root.at).left ≡ false = cc in
    left_above c.args.nodes.now c.args.level (c.args.level - 1) c.args.key c.args.new.room c.in_ok-root.root c.args.link (omega arith) c.in_ok-root.was e

pub returns-then-not-is_below-2 : goal.returns-then-not-is_below-2
returns-then-not-is_below-2 c =
    let e : link_below c.args.new.room (at c.args.nodes.now c.in_ok-root.root.at).right ≡ false = cc in
    right_above c.args.nodes.now c.args.level (c.args.level - 1) c.args.key c.args.new.room c.in_ok-root.root c.args.link (omega arith) c.in_ok-root.was e

pub returns : goal.returns
returns c =
    let l : link_below c.args.new.room (at c.args.nodes.now c.in_ok-root.root.at).left ≡ true = cc in
    let r : link_below c.args.new.room (at c.args.nodes.now c.in_ok-root.root.at).right ≡ true = cc in (
      does_yield c.args.nodes.now c.args.level (c.args.level - 1) c.args.key c.args.new.room c.in_ok-root.root c.args.link (omega arith) c.in_ok-root.was (omega arith) l r,
      exchanged_is c.args.nodes.now c.args.level (c.args.level - 1) c.in_ok-root.root c.args.link c.args.new (omega arith) c.in_ok-root.was,
    )
