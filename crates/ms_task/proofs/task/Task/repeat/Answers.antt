use Rattle.ms_task.specs.refinement.View.{frame_of}
use Rattle.ms_task.proofs.Branches.{branch_within}
use Rattle.ms_task.proofs.task.Task.repeat.Goals as goal

pub loop_of-requires : goal.loop_of-requires
loop_of-requires c =
    let t = c.args.self.now in
    (branch_within c.args.label (frame_of t) t.operands c.args.funcs.now t.function t.frames.0 t.marks c.requires).1
