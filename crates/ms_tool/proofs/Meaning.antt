-- A run of a file of C that has come to an end does what its unit means: it is the run of one module, linked alone, which is compiled.
use Rattle.std.proofs.Common.{◌≡◌, ◌∙◌, ℕ, ◌≤◌, List, [], ◌∷◌, refl, sym, ap, subst}
use Rattle.std.specs.Prelude.{Option, None, Result, Ok, Err, codes, length}
use Rattle.ms_run.specs.Source.{IsModule, IsUnit}
use Rattle.c_check.proofs.WellTyped.{typing_well}
use Rattle.c_code.specs.Limits.{instructions_of, most_instructions}
use Rattle.c_code.specs.Modules.{compiled}
use Rattle.c_runs.proofs.Executing.{executed_behaves}
use Rattle.c_runs.specs.Correct.{MeansRun}
use Rattle.c_typed.specs.Tree.{Typed}
use Rattle.c_typed.specs.Units.{IsWellTyped}
use Rattle.ms_job.specs.declared.job.Job.{Job}
use Rattle.ms_machine.specs.Running.{AreBytes}
use Rattle.ms_machine.specs.Crews.{Input, Run, run_of, turns_from}
use Rattle.ms_machine.specs.Externs.{Fault}
use Rattle.ms_machine.specs.Linked.{linked}
use Rattle.ms_machine.specs.Store.{Store}
use Rattle.ms_module.specs.declared.module.Module.{Module}
use Rattle.ms_outside.specs.Files.{Files}
use Rattle.ms_run.specs.Answers.{Finds, HasModule}
use Rattle.ms_run.specs.Executions.{Ran, execution, if_linked, in_store, with_threads}
use Rattle.ms_run.specs.Jobs.{AllLoaded, HasEntries, RunOfJob, in_turns, listed, no_more, one_more}
use Rattle.ms_run.specs.Loading.{Form, Source, Spells, form_of}
use Rattle.ms_run.specs.Observed.{Flow, Report, Shelved}
use Rattle.ms_run.specs.Reporting.{Holds}
use Rattle.ms_run.specs.SafeRuns.{RanSafely}
use Rattle.ms_run.specs.declared.status.Status.{Status}
use Rattle.ms_task.specs.Thread.{Thread}
use Rattle.ms_tasks.specs.Tasks.{crew_of, threads_from}
use Rattle.ms_tasks.specs.Alone.{by_only}
use Rattle.ms_tool.specs.Meaning.{IsProgram, RanAsMeant}

module _ (u : Typed) (name : List ℕ) (turns budget memory : ℕ) (given : Input) (bytes : AreBytes given)
    (well : IsWellTyped u) (small : instructions_of (compiled u).funcs ≤ most_instructions) where
  abbrev tasks : List (ℕ × List ℕ)
  tasks = (0, codes "main") ∷ []

  abbrev entries : List ℕ
  entries = turns_from turns 1 0 budget

  of_threads : (s : Store) (r : Result (List Thread) ℕ) (run : Run) → linked ((name, compiled u) ∷ []) memory ≡ Ok s → threads_from s tasks 0 ≡ r
      → with_threads entries s given r ≡ Ran run → MeansRun u given budget run
  of_threads s (Err n) run e h k = absurd cc
  of_threads s (Ok threads) run e h k =
      let same : run_of entries (crew_of s threads) given ≡ run = cc in
      subst (λ (x : Run). MeansRun u given budget x) same
      (executed_behaves u name memory turns budget s threads given well small e h bytes)

  of_store : (r : Result Store Fault) (run : Run) → linked ((name, compiled u) ∷ []) memory ≡ r → if_linked tasks entries given r ≡ Ran run → MeansRun u given budget run
  of_store (Err fault) run e k = absurd cc
  of_store (Ok s) run e k = of_threads s (threads_from s tasks 0) run e refl k

  of_execution : (run : Run) → execution ((name, compiled u) ∷ []) tasks entries memory given ≡ Ran run → MeansRun u given budget run
  of_execution run k = of_store (linked ((name, compiled u) ∷ []) memory) run refl k

-- the one module that was loaded
record Loaded (Has : Finds) (name file : List ℕ) (modules : List (List ℕ × Module)) : Type 0 where
  pub m : Module
  pub has : HasModule Has file m
  pub are : modules ≡ (name, m) ∷ []

the_one : (Has : Finds) (name file : List ℕ) (modules : List (List ℕ × Module)) → AllLoaded Has ((name, file) ∷ []) modules → Loaded Has name file modules
the_one Has name file _ (one_more _ _ m has no_more) = record { m = m; has = has; are = refl }

-- the entries of a job by turns
the_entries : (Has : Finds) (job : Job) (entries : List ℕ) → job.schedule ≡ None → job.only ≡ None → HasEntries Has job entries
    → entries ≡ turns_from job.turns (length job.tasks) 0 job.budget
the_entries Has job _ e all (in_turns none) = ap (λ (o : Option ℕ). by_only o (length job.tasks) (turns_from job.turns (length job.tasks) 0 job.budget)) all
the_entries Has job _ e all (listed file numbers some has) = absurd (let q = sym e ∙ some in cc)

module _ (files : Option Files) (s : Shelved) (r : Report) (f : Flow) (job : Job) (name file : List ℕ) (status : Status) (program : IsProgram job name file) (safe : RanSafely files s r f job status) where
  abbrev Has : Finds
  Has = Holds files

  abbrev the_job : RunOfJob Has safe.given job safe.run
  the_job = safe.of_job

  loaded : Loaded Has name file the_job.modules
  loaded = the_one Has name file the_job.modules (subst (λ (fs : List (List ℕ × List ℕ)). AllLoaded Has fs the_job.modules) program.module' the_job.loaded)

  is_module : IsModule loaded.has.bytes loaded.m
  is_module = subst (λ (x : Form). Spells x loaded.has.bytes loaded.m) program.source loaded.has.spelled

  abbrev tasks_are : List (ℕ × List ℕ)
  tasks_are = (0, codes "main") ∷ []

  entries_are : the_job.entries ≡ turns_from job.turns 1 0 job.budget
  entries_are =
      the_entries Has job the_job.entries program.in_turns program.all the_job.scheduled
      ∙ ap (λ (ts : List (ℕ × List ℕ)). turns_from job.turns (length ts) 0 job.budget) program.task

  ran : execution ((name, compiled is_module.unit) ∷ []) tasks_are (turns_from job.turns 1 0 job.budget) job.memory safe.given ≡ Ran safe.run
  ran =
      ap (λ (x : Module). execution ((name, x) ∷ []) tasks_are (turns_from job.turns 1 0 job.budget) job.memory safe.given) (sym is_module.module')
      ∙ ap (λ (ms : List (List ℕ × Module)). execution ms tasks_are (turns_from job.turns 1 0 job.budget) job.memory safe.given) (sym loaded.are)
      ∙ ap (λ (ts : List (ℕ × List ℕ)). execution the_job.modules ts (turns_from job.turns 1 0 job.budget) job.memory safe.given) (sym program.task)
      ∙ ap (λ (es : List ℕ). execution the_job.modules job.tasks es job.memory safe.given) (sym entries_are)
      ∙ the_job.ran

  pub ran_as_meant : RanAsMeant Has file job.budget safe.given safe.run
  ran_as_meant = record {
    bytes = loaded.has.bytes;
    found = loaded.has.found;
    unit = is_module.unit;
    is_unit = is_module.is_unit;
    means = λ bytes.
        of_execution is_module.unit name job.turns job.budget job.memory safe.given bytes (typing_well is_module.is_unit.externals is_module.unit is_module.is_unit.typed)
        (subst (λ (x : Module). instructions_of x.funcs ≤ most_instructions) is_module.module' is_module.small) safe.run ran;
  }
