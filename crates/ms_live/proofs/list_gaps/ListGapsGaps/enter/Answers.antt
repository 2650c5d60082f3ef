use Rattle.std.proofs.Common.{◌≡◌, ◌∙◌, [], ap, arith, length, sym}
use Rattle.ms_live.specs.refinement.ByAddress.{by_address, placed_with}
use Rattle.ms_live.proofs.ByAddress.{all_in-push, length-by_address}
use Rattle.ms_live.proofs.list_gaps.ListGapsGaps.enter.Goals as goal

pub put_in-requires : goal.put_in-requires
put_in-requires c =
    let self = c.args.self.now in
    let bound = length-by_address self.live.items in
    let same : length self.placed.items ≡ length (by_address self.live.items) = ap length self.in_order in
    omega (arith, bound, same, c.requires.few, self.room)

pub invariant_of-self-clause-in_order : goal.invariant_of-self-clause-in_order
invariant_of-self-clause-in_order c =
    let s = c.args.segment in
    let self = c.args.self.now in
    c.put_in.ensures.items ∙ (ap (placed_with s) self.in_order ∙ (sym (all_in-push self.live.items s []) ∙ ap by_address (sym c.push_reserved.ensures.items)))
