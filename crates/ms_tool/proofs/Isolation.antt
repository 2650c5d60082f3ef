-- A task that nothing joins with the others does in the run of a job what it does in that of the job with `only N`.
use Rattle.std.proofs.Common.{◌≡◌, ◌∙◌, ◌<◌, ◌≤◌, ℕ, List, length, refl, sym, ap, subst, arith}
use Rattle.std.specs.Prelude.{Option, Some, None, Result, Ok, take}
use Rattle.ms_apart.proofs.Division.{tasks_alike}
use Rattle.ms_apart.proofs.Tables.{is_linked}
use Rattle.ms_apart.specs.Runs.{IsQuiet, OwnAlike}
use Rattle.ms_command_line.specs.Commands as options
use Rattle.ms_job.specs.declared.job.Job.{Job}
use Rattle.ms_link.proofs.Plain.{linked_fits}
use Rattle.ms_link.proofs.Stores.{linked_typed}
use Rattle.ms_machine.specs.Crews.{Crew, Input, Run, run_of, turns_from}
use Rattle.ms_machine.specs.Store.{Store}
use Rattle.ms_run.proofs.Executed.{crew_length}
use Rattle.ms_run.proofs.Jobs.{same_run}
use Rattle.ms_run.proofs.Safe.{loaded_typed}
use Rattle.ms_run.specs.Answers.{Finds}
use Rattle.ms_run.specs.Executions.{Execution, Ran, execution, if_linked, with_threads}
use Rattle.ms_run.specs.Jobs.{HasEntries, RunOfJob, in_turns, listed}
use Rattle.ms_tasks.proofs.Making.{crew_ready}
use Rattle.ms_tasks.specs.refinement.Ready.{IsReady}
use Rattle.ms_tasks.specs.Alone.{alone, by_only}
use Rattle.ms_tool.specs.Isolation.{IsUndisturbed, RanAlone}

-- the entries of the job in which one task is named alone
named_alone : (Has : Finds) (job : Job) (n : ℕ) (entries : List ℕ) → job.only ≡ None → HasEntries Has job entries → HasEntries Has (record job { only = Some n }) (alone n (length job.tasks) entries)
named_alone Has job n _ all (in_turns e) =
    let count = length job.tasks in
    subst (λ (o : Option ℕ). HasEntries Has (record job { only = Some n }) (alone n count (by_only o count (turns_from job.turns count 0 job.budget)))) (sym all) (in_turns e)
named_alone Has job n _ all (listed name numbers e has) =
    let count = length job.tasks in
    subst (λ (o : Option ℕ). HasEntries Has (record job { only = Some n }) (alone n count (by_only o count (take job.budget numbers)))) (sym all) (listed name numbers e has)

pub ran_alone : (Has : Finds) (given : Input) (job : Job) (n : ℕ) (run : Run) (of_job : RunOfJob Has given job run) → job.memory ≤ options.memory.most → IsUndisturbed Has given job run of_job n → RanAlone Has given job n run
ran_alone Has given job n run of_job small h =
    let count = length job.tasks in
    let ts = h.is_crew.0 in
    let found = h.is_crew.1 in
    let is = h.is_crew.2 in
    let typed = linked_typed of_job.modules job.memory h.store (loaded_typed Has job.modules of_job.modules of_job.loaded) h.linked_is in
    let fits = linked_fits of_job.modules job.memory h.store (omega (arith, small)) h.linked_is in
    let ready : IsReady h.crew = subst IsReady (sym is) (crew_ready h.store job.tasks ts typed.0 fits typed.1 found) in
    let many = crew_length h.store job.tasks h.crew h.is_crew in
    let ran : (entries : List ℕ) → execution of_job.modules job.tasks entries job.memory given ≡ Ran (run_of entries h.crew given) = λ entries.
    ap (if_linked job.tasks entries given) h.linked_is ∙ (ap (with_threads entries h.store given) found ∙ ap (λ (x : Crew). Ran (run_of entries x given)) (sym is)) in
    let same : run_of of_job.entries h.crew given ≡ run = same_run (run_of of_job.entries h.crew given) run (sym (ran of_job.entries) ∙ of_job.ran) in
    let entries = alone n count of_job.entries in
    let there : n < length h.crew.tasks = let t = h.there in omega (arith, t, many) in
    let past : length h.crew.tasks ≤ count = omega (arith, many) in
    let alike = tasks_alike h.store job.tasks h.addresses h.crew n count of_job.entries given (is_linked of_job.modules job.memory h.store h.linked_is) typed.1 h.is_crew h.are_addresses ready h.apart there past (subst (λ (x : Run). IsQuiet n x.deeds) (sym same) h.quiet) h.quiet_alone in
    record {
      other = run_of entries h.crew given;
      of_job = record { modules = of_job.modules; entries = entries; loaded = of_job.loaded; scheduled = named_alone Has job n of_job.entries h.all of_job.scheduled; ran = ran entries };
      alike = subst (λ (x : Run). OwnAlike n x (run_of entries h.crew given)) same alike;
    }
