use Rattle.std.proofs.Common.{List, refl, subst, sym}
use Rattle.std.specs.Prelude.{Err, length}
use Rattle.ms_event.specs.declared.event.Event.{Event}
use Rattle.ms_monitor.specs.refinement.Answers.{JudgesTrace, ReadsTrace}
use Rattle.ms_monitor.specs.Traces.{IsTrace}
use Rattle.ms_monitor.specs.declared.judgement.JudgeFault.{JudgeFault}
use Rattle.ms_monitor.specs.declared.trace.TraceFault.{TraceFault}
use Rattle.ms_run.specs.Answers.{accepted, no_event, rejected}
use Rattle.ms_run.specs.Lines.{accepted_line, rejected_line, trace_line}
use Rattle.ms_run.specs.Reporting.{no_verdict, verdict_put}
use Rattle.ms_run.specs.declared.status.Status.TheVariants.{Done, Refused, Trapped}
use Rattle.ms_run.proofs.judging.judge_text.Goals as goal

pub returns-in-Err-Line : goal.returns-in-Err-Line
returns-in-Err-Line g c =
    let it = c.in-Err-Line in
    let unprinted = subst (λ (e : TraceFault). ReadsTrace c.args.text.now (Err e)) it.field-0-is it.ensures in
    verdict_put Refused (trace_line it.n) (no_event it.n unprinted) (c.answer_line.ensures (trace_line it.n) c.trace_line.ensures)

pub returns-in-Err-Memory : goal.returns-in-Err-Memory
returns-in-Err-Memory g c = no_verdict (refl, refl)

pub returns-in-Ok-judge : goal.returns-in-Ok-judge
returns-in-Ok-judge g c =
    let events = c.as_slice-events.result.now in
    let trace = subst (λ (es : List Event). IsTrace c.args.text.now es) (sym c.as_slice-events.ensures.value) c.in-Ok.ensures in
    verdict_put Done (accepted_line (length events)) (accepted events trace c.in-Ok-judge.ensures) (c.answer_line-in-Ok-judge.ensures (accepted_line (length events)) c.accepted_line.ensures)

pub returns-in-Err-Rejected : goal.returns-in-Err-Rejected
returns-in-Err-Rejected g c =
    let it = c.in-Err-Rejected in
    let events = c.as_slice-events.result.now in
    let trace = subst (λ (es : List Event). IsTrace c.args.text.now es) (sym c.as_slice-events.ensures.value) c.in-Ok.ensures in
    let rejects = subst (λ (e : JudgeFault). JudgesTrace c.args.memory events (Err e)) it.field-0-is it.ensures in
    verdict_put Trapped (rejected_line it.n) (rejected events it.n trace rejects) (c.answer_line-in-Err-Rejected.ensures (rejected_line it.n) (rw it.n-is at c.rejected_line.ensures))

pub returns : goal.returns
returns g c = no_verdict (refl, refl)
