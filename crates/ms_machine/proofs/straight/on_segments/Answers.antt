use Rattle.ms_module.specs.declared.instr.Instr.TheVariants as instr
use Rattle.ms_task.specs.refinement.View.{at_next, thread_of}
use Rattle.ms_machine.proofs.StraightLine.{segment_behind, worked_behind}
use Rattle.ms_machine.proofs.straight.on_segments.Goals as goal

pub returns-then-more : goal.returns-then-more
returns-then-more g c =
    let s = c.args.store.now in
    let t = c.args.task.now in
    let s' = c.segment_counted.new.store in
    let u = thread_of s'.funcs c.segment_counted.new.task in
    let done = c.in-Done.ensures in
    let i = instr.Segment c.args.i in
    let behind = segment_behind s s' (at_next s.funcs t c.args.next) u done.0 c.args.i done.1 in
    let step = worked_behind s s' t c.segment_counted.new.task i c.args.next done.0 c.requires.next done.1 behind (c.requires.more c.if-more.true) in
    ((done.0, step.0, done.2), step.1)
