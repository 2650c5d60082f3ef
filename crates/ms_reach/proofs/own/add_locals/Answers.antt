use Rattle.std.proofs.Common.{◌+◌, ◌++◌, Some, drop, refl, sym, ap, ◌∙◌}
use Rattle.ms_task.proofs.FarValues.{get-drop}
use Rattle.ms_reach.proofs.Gathering.{gather_next}
use Rattle.ms_reach.proofs.own.add_locals.Goals as goal

pub loop-i-preserved : goal.loop-i-preserved
loop-i-preserved c =
    let all = c.args.frames.now.0 ++ c.args.frames.now.1 in
    let at = c.args.at in
    let i = c.loop-i.i in
    let is = get-drop at all i (at + i) refl ∙ c.local.ensures ∙ ap Some (sym c.value.ensures) in
    gather_next c.args.live.now (drop at all) i c.value.result c.args.closing.now c.loop-i.closing c.add_value.new.self is c.loop-i.invariant c.in_ok-add_value.ensures
