-- What becomes of well-typed modules and their tasks: they are linked, and the tasks are run; and the answer of it.
use Rattle.std.specs.Prelude.{◌≡◌, ℕ, List, ◌++◌, Option, Some, None, Result, Ok, Err}
use Rattle.ms_module.specs.declared.module.Module.{Module}
use Rattle.ms_task.specs.Thread.{Thread}
use Rattle.ms_machine.specs.Crews.{End, Input, OutOfBudget as BudgetEnd, Results, Run, Stuck, Trap, events_of, run_of}
use Rattle.ms_machine.specs.Externs.{Fault}
use Rattle.ms_machine.specs.Linked.{linked}
use Rattle.ms_machine.specs.Store.{Store}
use Rattle.ms_tasks.specs.States.{state_of}
use Rattle.ms_tasks.specs.Tasks.{AreAddresses, crew_of, threads_from}
use Rattle.ms_run.specs.Answers.{Answer, says}
use Rattle.ms_run.specs.Lines.{budget_line, link_line, result_lines, task_line, trap_line}
use Rattle.ms_run.specs.Reached.{AreReached}
use Rattle.ms_run.specs.Standing.{AreStanding}
use Rattle.ms_run.specs.Telling.{Inquiry, counted, dumped, traced}
use Rattle.ms_run.specs.declared.status.Status.{Status}
use Rattle.ms_run.specs.declared.status.Status.TheVariants.{Done, OutOfBudget, Refused, Trapped}

pub data Execution : Type 0 where
  -- an item of a module is the first that isn't linked
  Unlinked : Fault → Execution
  -- the task of this number is the first that has no function
  NoTask : ℕ → Execution
  -- the start functions and the tasks were run
  Ran : Run → Execution

abbrev pub with_threads : (entries : List ℕ) → Store → (given : Input) → Result (List Thread) ℕ → Execution
with_threads entries s given (Err number) = NoTask number
with_threads entries s given (Ok threads) = Ran (run_of entries (crew_of s threads) given)

-- the tasks of a store: for each the number of its module, and the name of an export
abbrev pub in_store : (tasks : List (ℕ × List ℕ)) → (entries : List ℕ) → Store → (given : Input) → Execution
in_store tasks entries s given = with_threads entries s given (threads_from s tasks 0)

abbrev pub if_linked : (tasks : List (ℕ × List ℕ)) → (entries : List ℕ) → (given : Input) → Result Store Fault → Execution
if_linked tasks entries given (Err fault) = Unlinked fault
if_linked tasks entries given (Ok s) = in_store tasks entries s given

-- the modules, each with its name, with a segment memory of so many bytes, by the entries of a schedule, over what the input
-- gives: a byte or the end for each take
abbrev pub execution : (modules : List (List ℕ × Module)) → (tasks : List (ℕ × List ℕ)) → (entries : List ℕ) → (capacity : ℕ) → (given : Input) → Execution
execution modules tasks entries capacity given = if_linked tasks entries given (linked modules capacity)

-- the status and the report of how a run ended
abbrev pub EndsAs : End → Status → List ℕ → Type 0
EndsAs (Results values) status report = (status ≡ Done) × (report ≡ result_lines values)
EndsAs (Trap whose kind) status report = (status ≡ Trapped) × (report ≡ trap_line kind)
EndsAs BudgetEnd status report = (status ≡ OutOfBudget) × (report ≡ budget_line)
EndsAs Stuck status report = ⊥

-- the lines of what is reached behind a run, and those of how each task stands, where they are asked for
abbrev pub AreLeft : Inquiry → Run → List ℕ → Type 0
AreLeft asked run left =
    (reached : List ℕ) × (standing : List ℕ) × (addresses : List ℕ) × AreReached run.crew 0 asked.telling.reach reached
    × AreAddresses run.crew.store asked.tasks addresses × AreStanding run.crew.store addresses (λ n. state_of n run) asked.telling.each standing
    × (left ≡ reached ++ standing)

-- The answer that tells of a run: the report has the numbers of what it did, the lines of its end, those of the segments that are
-- live after it, of what is reached then, and of its tasks, all but its end where they are asked for; the file, if one is, has its events.
abbrev pub TellsOf : Inquiry → Run → Answer → Type 0
TellsOf asked run a =
    (lines : List ℕ) × (left : List ℕ) × EndsAs run.end a.status lines × AreLeft asked run left
    × (a.report ≡ counted asked.telling run.deeds ++ (lines ++ (dumped asked.telling run.crew.store.segments ++ left)))
    × (a.file ≡ traced asked.telling (events_of run.deeds))

-- The answer to an execution, and the run of which it tells.
abbrev pub AnswersAs : Inquiry → Execution → Option Run → Answer → Type 0
AnswersAs asked (Unlinked fault) ran a = (ran ≡ None) × (a ≡ says Refused (link_line fault))
AnswersAs asked (NoTask number) ran a = (ran ≡ None) × (a ≡ says Refused (task_line number))
AnswersAs asked (Ran run) ran a = (ran ≡ Some run) × TellsOf asked run a
