use Rattle.std.proofs.Common.{◌∙◌, ap, refl, subst}
use Rattle.std.specs.Prelude.{Err, Some, map}
use Rattle.ms_machine.proofs.Outsides.{some_input}
use Rattle.ms_command_line.specs.Asked.{IsRequest, IsInRange, view}
use Rattle.ms_command_line.specs.declared.request.Request.{Request}
use Rattle.ms_command_line.specs.declared.request.WordsFault.{WordsFault}
use Rattle.ms_tool.proofs.Complete.{asm_responded, check_responded, compile_responded, dis_responded, exec_responded, judge_responded, nothing_responded, run_responded, stress_responded, usage_responded}
use Rattle.ms_tool.proofs.tool.respond.Goals as goal

pub returns-in-Ok-Exec : goal.returns-in-Ok-Exec
returns-in-Ok-Exec g c =
    let it = c.in-Ok-Exec in
    let words = map (λ w. w.now) c.args.words.now in
    let asked = it.ensures.answers ∙ ap (λ (r : Request). Some (view r)) it.field-0-is in
    let range = subst IsInRange it.field-0-is it.ensures.ranges in
    let e = c.exec.ensures in
    exec_responded words _ _ _ e.did.0 e.did.1 it.file.now it.budget it.memory c.exec.result range.1.1 asked e.did.2 e.did.3 e.safe

pub returns-in-Ok-Run : goal.returns-in-Ok-Run
returns-in-Ok-Run g c =
    let it = c.in-Ok-Run in
    let words = map (λ w. w.now) c.args.words.now in
    let asked = it.ensures.answers ∙ ap (λ (r : Request). Some (view r)) it.field-0-is in
    let e = c.run_job.ensures in
    run_responded words _ _ _ e.did.0 e.did.1 it.job.now c.run_job.result asked e.did.2 e.did.3 e.safe

pub returns-in-Ok-Stress : goal.returns-in-Ok-Stress
returns-in-Ok-Stress g c =
    let it = c.in-Ok-Stress in
    let words = map (λ w. w.now) c.args.words.now in
    let asked = it.ensures.answers ∙ ap (λ (r : Request). Some (view r)) it.field-0-is in
    let e = c.stress.ensures in
    stress_responded words _ _ _ e.did.0 e.did.1 it.seed it.count c.stress.result asked e.did.2 e.did.3 e.safe

pub returns-in-Ok-Check : goal.returns-in-Ok-Check
returns-in-Ok-Check g c =
    let it = c.in-Ok-Check in
    let words = map (λ w. w.now) c.args.words.now in
    let asked = it.ensures.answers ∙ ap (λ (r : Request). Some (view r)) it.field-0-is in
    let input = some_input (g.I.Source.left c.args.input.now) in
    let e = c.check_file.ensures in
    check_responded words _ _ _ input.0 input.1 it.file.now c.check_file.result asked e.printed (e.input.0, e.input.1, e.out.0, e.out.1)

pub returns-in-Ok-Asm : goal.returns-in-Ok-Asm
returns-in-Ok-Asm g c =
    let it = c.in-Ok-Asm in
    let words = map (λ w. w.now) c.args.words.now in
    let asked = it.ensures.answers ∙ ap (λ (r : Request). Some (view r)) it.field-0-is in
    let input = some_input (g.I.Source.left c.args.input.now) in
    let e = c.asm_file.ensures in
    asm_responded words _ _ _ input.0 input.1 it.file.now it.target.now c.asm_file.result asked e.did (e.input.0, e.input.1, e.out.0, e.out.1)

pub returns-in-Ok-Dis : goal.returns-in-Ok-Dis
returns-in-Ok-Dis g c =
    let it = c.in-Ok-Dis in
    let words = map (λ w. w.now) c.args.words.now in
    let asked = it.ensures.answers ∙ ap (λ (r : Request). Some (view r)) it.field-0-is in
    let input = some_input (g.I.Source.left c.args.input.now) in
    let e = c.dis_file.ensures in
    dis_responded words _ _ _ input.0 input.1 it.file.now it.target.now c.dis_file.result asked e.did (e.input.0, e.input.1, e.out.0, e.out.1)

pub returns-in-Ok-Compile : goal.returns-in-Ok-Compile
returns-in-Ok-Compile g c =
    let it = c.in-Ok-Compile in
    let words = map (λ w. w.now) c.args.words.now in
    let asked = it.ensures.answers ∙ ap (λ (r : Request). Some (view r)) it.field-0-is in
    let input = some_input (g.I.Source.left c.args.input.now) in
    let e = c.compile_file.ensures in
    compile_responded words _ _ _ input.0 input.1 it.file.now it.target.now c.compile_file.result asked e.did (e.input.0, e.input.1, e.out.0, e.out.1)

pub returns-in-Ok-Judge : goal.returns-in-Ok-Judge
returns-in-Ok-Judge g c =
    let it = c.in-Ok-Judge in
    let words = map (λ w. w.now) c.args.words.now in
    let asked = it.ensures.answers ∙ ap (λ (r : Request). Some (view r)) it.field-0-is in
    let input = some_input (g.I.Source.left c.args.input.now) in
    let e = c.judge.ensures in
    judge_responded words _ _ _ input.0 input.1 it.file.now it.memory c.judge.result asked e.printed (e.input.0, e.input.1, e.out.0, e.out.1)

pub returns-in-Err-Refused : goal.returns-in-Err-Refused
returns-in-Err-Refused g c =
    let words = map (λ w. w.now) c.args.words.now in
    let refused = subst (λ (e : WordsFault). IsRequest words (Err e)) c.in-Err-Refused.field-0-is c.in-Err-Refused.ensures.answers in
    let input = some_input (g.I.Source.left c.args.input.now) in
    usage_responded words _ _ _ input.0 input.1 c.answer.result refused (λ n. refl) (refl, refl) (rw (c.as_bytes.ensures.value, c.usage.ensures) at c.answer.ensures) (refl, refl, refl, refl)

pub returns-in-Err-Memory : goal.returns-in-Err-Memory
returns-in-Err-Memory g c =
    let input = some_input (g.I.Source.left c.args.input.now) in
    nothing_responded _ _ _ _ input.0 input.1 (λ n. refl) (refl, refl) (refl, refl) (refl, refl, refl, refl)
