use Rattle.ms_run.proofs.Dumping.{line_grows}
use Rattle.ms_run.proofs.dump.dump_all.Goals as goal

pub loop-number-preserved : goal.loop-number-preserved
loop-number-preserved g c =
    let l = c.loop-number in
    line_grows l.lines.items _ _ c.args.segments.now l.number c.live_at.result c.live_at.ensures c.in_ok-dump_segment.ensures l.invariant
