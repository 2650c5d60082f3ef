use Rattle.std.proofs.Common.{◌≡◌, ◌∙◌, None, ap}
use Rattle.ms_module.specs.declared.instr.Instr.TheVariants as instr
use Rattle.ms_task.specs.refinement.View.{at_next, thread_of}
use Rattle.ms_machine.specs.Step.{Next, act}
use Rattle.ms_machine.proofs.StraightLine.{global_behind, worked_behind}
use Rattle.ms_machine.proofs.straight.global.Goals as goal

pub returns-then-more : goal.returns-then-more
returns-then-more g c =
    let s = c.args.store.now in
    let t = c.args.task.now in
    let s' = c.global_set.new.store in
    let u = thread_of s'.funcs c.global_set.new.task in
    let done = c.in-Ok.ensures in
    let i = instr.GlobalSet c.args.x in
    let acts : act s i (at_next s.funcs t c.args.next) ≡ Next s' u None = done.does ∙ ap (Next s' u) done.tells in
    let behind = global_behind s s' (at_next s.funcs t c.args.next) u None c.args.x acts in
    let step = worked_behind s s' t c.global_set.new.task i c.args.next None c.requires.next acts behind (c.requires.more c.if-more.true) in
    step
