use Rattle.std.proofs.Common.{◌<◌, get_or, length, set, ap, ◌∙◌, arith}
use Rattle.std.proofs.lemmas.List.{get_or_default}
use Rattle.std.proofs.lemmas.List.Edits.{map_over_more}
use Rattle.ms_tasks.specs.refinement.Parting.{renumbered}
use Rattle.ms_tasks.proofs.Parting.{mapped_all}
use Rattle.ms_tasks.proofs.parts.renumber.Goals as goal

pub loop-part-preserved : goal.loop-part-preserved
loop-part-preserved c =
    let l = c.loop-part in
    let i = l.part-index in
    let ys = l.parts in
    let within : i < length ys = omega arith in
    let whole : i < length c.args.parts.now = omega arith in
    ap (λ x. set ys i x) c.renumbered.ensures ∙ map_over_more (renumbered c.args.from c.args.to) c.args.parts.now ys i (get_or ys i 0) whole l.invariant (get_or_default ys i 0 (get_or ys i 0) within)

pub returns : goal.returns
returns c = mapped_all (renumbered c.args.from c.args.to) c.args.parts.now c.loop-part.parts c.loop-part.part-index (omega arith) c.loop-part.invariant
