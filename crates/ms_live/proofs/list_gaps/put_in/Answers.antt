use Rattle.std.proofs.Common.{◌∙◌, ◌<◌, ap, arith}
use Rattle.std.specs.List.{insert}
use Rattle.ms_live.specs.refinement.ByAddress.{no_later}
use Rattle.ms_live.proofs.ByAddress.{no_later-bound, placed_there, where_ok}
use Rattle.ms_live.proofs.list_gaps.put_in.Goals as goal

pub insert-requires : goal.insert-requires
insert-requires c =
    let bound = no_later-bound c.args.segment.base c.as_slice.result.now in
    omega (arith, bound, c.no_later-at.ensures, c.as_slice.ensures.len)

pub returns-clause-items : goal.returns-clause-items
returns-clause-items c =
    let s = c.args.segment in
    let placed = c.args.placed.now.items in
    let some : 0 < s.size = omega (arith, c.if-segment-eq0.false) in
    c.insert.ensures.items
    ∙ (where_ok c.insert.result _ _ (c.insert.ensures.succeeds c.requires)
    ∙ (ap (λ at. insert placed at s) (c.no_later-at.ensures ∙ ap (no_later s.base) c.as_slice.ensures.value) ∙ placed_there s placed some))
