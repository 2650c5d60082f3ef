use Rattle.std.proofs.Common.{◌≡◌, ◌≢◌, ◌++◌, ◌∷◌, ap, drop, subst, sym, ◌∙◌}
use Rattle.ms_linear.specs.declared.value.Value.TheVariants.{I32}
use Rattle.ms_task.specs.Control.{Repeats, Stuck, br_if_on, branch}
use Rattle.ms_task.specs.refinement.View.{at_next, frame_of, outer_of, rest_at, thread_of}
use Rattle.ms_task.proofs.Branches.{br_if_taken, branch_rest, branch_within}
use Rattle.ms_task.proofs.Repeats.{first_of}
use Rattle.ms_task.proofs.task.Task.repeat_if.Goals as goal

pub loop_of-requires : goal.loop_of-requires
loop_of-requires c =
    let t = c.args.self.now in
    let funcs = c.args.funcs.now in
    let vs = drop 1 t.operands in
    let there : branch c.args.label (frame_of t) vs (outer_of funcs t) ≢ Stuck = λ e.
    c.requires (br_if_taken c.args.label c.in-I32.n (frame_of t) t.operands vs (rest_at funcs t.function t.sequence c.args.next ++ outer_of funcs t) (first_of t.operands (I32 c.in-I32.n) c.in-I32.ensures) c.if-n-eq0.false
    ∙ branch_rest c.args.label (frame_of t) vs funcs t.function t.sequence c.args.next t.frames.0 t.marks ∙ e) in
    (branch_within c.args.label (frame_of t) vs funcs t.function t.frames.0 t.marks there).1

pub begin_again-requires-clause-branches : goal.begin_again-requires-clause-branches
begin_again-requires-clause-branches c = λ e.
    let t = c.args.self.now in
    let funcs = c.args.funcs.now in
    let vs = c.cut.new.self in
    c.requires (br_if_taken c.args.label c.in-I32.n (frame_of t) t.operands vs (rest_at funcs t.function t.sequence c.args.next ++ outer_of funcs t) (first_of t.operands (I32 c.in-I32.n) c.in-I32.ensures ∙ ap (λ xs. I32 c.in-I32.n ∷ xs) (sym c.cut.ensures)) c.if-n-eq0.false
    ∙ branch_rest c.args.label (frame_of t) vs funcs t.function t.sequence c.args.next t.frames.0 t.marks ∙ e)

pub returns-clause-repeats : goal.returns-clause-repeats
returns-clause-repeats c =
    let t = c.args.self.now in
    let funcs = c.args.funcs.now in
    let vs = c.cut.new.self in
    let taken : br_if_on c.args.label (at_next funcs t c.args.next) ≡ branch c.args.label (frame_of t) vs (outer_of funcs t) =
    br_if_taken c.args.label c.in-I32.n (frame_of t) t.operands vs (rest_at funcs t.function t.sequence c.args.next ++ outer_of funcs t) (first_of t.operands (I32 c.in-I32.n) c.in-I32.ensures ∙ ap (λ xs. I32 c.in-I32.n ∷ xs) (sym c.cut.ensures)) c.if-n-eq0.false
    ∙ branch_rest c.args.label (frame_of t) vs funcs t.function t.sequence c.args.next t.frames.0 t.marks in
    let again = c.begin_again.ensures in
    (subst (λ m. Repeats funcs m (thread_of funcs c.begin_again.new.self)) (sym taken) again.repeats, again.code, rw again.place c.in_ok-again.ensures.7)
