use Rattle.std.proofs.Common.{◌≡◌, ◌+◌, ℕ, Option, Some, length, arith, sym, ap, ◌∙◌, subst}
use Rattle.ms_live.specs.refinement.Ordered.{has, segments, tree_of, IsApart, IsInOrder, IsWithinArena}
use Rattle.ms_live.specs.declared.branch.Branch.{Branch}
use Rattle.ms_live.proofs.OrderedSlots.{apart_lifted, has_lifted, within_lifted}
use Rattle.ms_live.proofs.Storing.{half_top, segments_lifted, in_order_lifted}
use Rattle.ms_live.proofs.ids.+grow.Goals as goal

pub returns-then-levels-eq-MOST_LEVELS-clause-room : goal.returns-then-levels-eq-MOST_LEVELS-clause-room
returns-then-levels-eq-MOST_LEVELS-clause-room t c = let e = half_top c.args.levels (omega arith) in omega arith

pub grow-requires-in-Some : goal.grow-requires-in-Some
grow-requires-in-Some t c =
    let old = c.args.nodes.now in
    let tree = tree_of old c.args.levels (Some c.in-Some.root) in
    let e = ap (λ (x : Option Branch). tree_of old c.args.levels x) c.in-Some.is in
    let up = c.lift-top.ensures.tree in
    let l : length c.lift-top.new.nodes ≡ length old = omega (arith, c.lift-top.auto.nodes) in
    let w = within_lifted tree (length old) (subst (IsWithinArena (length old)) e c.requires.within) in
    let a = apart_lifted tree (subst IsApart e c.requires.apart) in
    let s = in_order_lifted c.args.levels (c.args.levels + 1) tree (omega arith) (subst (IsInOrder c.args.levels 0) e c.requires.in_order) in
    let now = tree_of c.lift-top.new.nodes (c.args.levels + 1) (Some c.lift-top.result) in
    (omega arith, (omega arith, (subst (λ (n : ℕ). IsWithinArena n now) (sym l) (subst (IsWithinArena (length old)) (sym up) w), (subst IsApart (sym up) a, subst (IsInOrder (c.args.levels + 1) 0) (sym up) s))))

pub returns-in-Some-clause-same : goal.returns-in-Some-clause-same
returns-in-Some-clause-same t c =
    let old = c.args.nodes.now in
    let tree = tree_of old c.args.levels (Some c.in-Some.root) in
    let e = ap (λ (x : Option Branch). tree_of old c.args.levels x) c.in-Some.is in
    c.grow-in-Some.ensures.same ∙ (ap segments c.lift-top.ensures.tree ∙ (segments_lifted tree ∙ sym (ap segments e)))

pub returns-in-Some-clause-slots : goal.returns-in-Some-clause-slots
returns-in-Some-clause-slots t c j h =
    let old = c.args.nodes.now in
    let tree = tree_of old c.args.levels (Some c.in-Some.root) in
    let e = ap (λ (x : Option Branch). tree_of old c.args.levels x) c.in-Some.is in
    c.grow-in-Some.ensures.slots j (ap (has j) c.lift-top.ensures.tree ∙ has_lifted tree j (sym (ap (has j) e) ∙ h))
