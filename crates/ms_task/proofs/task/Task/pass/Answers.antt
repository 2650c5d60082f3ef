use Rattle.std.proofs.Common.{◌++◌, ◌∷◌, ap, sym, ◌∙◌}
use Rattle.ms_linear.specs.declared.value.Value.TheVariants.{I32}
use Rattle.ms_task.specs.refinement.View.{frame_of, outer_of, rest_at}
use Rattle.ms_task.proofs.Branches.{br_if_passed}
use Rattle.ms_task.proofs.Repeats.{first_of}
use Rattle.ms_task.proofs.task.Task.pass.Goals as goal

pub returns-clause-on : goal.returns-clause-on
returns-clause-on c passed =
    let t = c.args.self.now in
    let funcs = c.args.funcs.now in
    br_if_passed c.args.label c.in-I32.n (frame_of t) t.operands c.cut.new.self (rest_at funcs t.function t.sequence c.args.next ++ outer_of funcs t) (first_of t.operands (I32 c.in-I32.n) c.in-I32.ensures ∙ ap (λ xs. I32 c.in-I32.n ∷ xs) (sym c.cut.ensures)) c.if-n-ne0.false
