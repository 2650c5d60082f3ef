-- What `exec` and `run` did to the input and the output of the program that they ran, and what they answered where one of them
-- failed.
use Rattle.std.specs.Prelude.{◌≡◌, ℕ, List, Option, Some, None}
use Rattle.ms_machine.specs.Crews.{Input, Run, bytes_of}
use Rattle.ms_machine.specs.Running.{IsLeft, MayGive, TellsAlike}
use Rattle.ms_outside.specs.Faults.{Rose}
use Rattle.ms_outside.specs.Shelf.{SameCounts}
use Rattle.ms_outside.specs.Sink.{IsFront, Puts}
use Rattle.ms_outside.specs.declared.sink.Put.TheVariants as putting
use Rattle.ms_run.specs.Answers.{Answer, says}
use Rattle.ms_run.specs.Executions.{AnswersAs, Execution, Ran, TellsOf}
use Rattle.ms_run.specs.Lines.{input_fault_line}
use Rattle.ms_run.specs.Observed.{Flow, Report, Shelved}
use Rattle.ms_run.specs.Reporting.{CountsReads, Delivers, IsKept, KeepsFiles, Reports}
use Rattle.ms_run.specs.Telling.{Inquiry}
use Rattle.ms_run.specs.declared.status.Status.{Status}
use Rattle.ms_run.specs.declared.status.Status.TheVariants.{Done, OutOfBudget, OutOfMemory, ReadFault, Refused, TooLong, Trapped, Usage, WriteFault}

-- ---- the input and the output

-- they are as before, and no call of theirs has failed
abbrev pub IsQuiet : Flow → Type 0
IsQuiet f = (f.left_new ≡ f.left_old) × (f.takes_new ≡ f.takes_old) × (f.held_new ≡ f.held_old) × (f.puts_new ≡ f.puts_old)

-- After a whole run over what the input gave: the input has left what the run leaves, and the output has got all its bytes.
pub record RunsWhole (given : Input) (f : Flow) (run : Run) : Type 0 where
  pub takes : f.takes_new ≡ f.takes_old
  pub puts : f.puts_new ≡ f.puts_old
  pub alike : TellsAlike f.left_old f.left_new
  pub may : MayGive f.left_old given
  pub rest : MayGive f.left_new run.input
  pub out : Puts putting.Done (bytes_of run.deeds) f.held_old f.held_new

-- After a part of it: the input has lost only what the run takes, and the output has got a front of the run's bytes.
pub record RunsPart (given : Input) (f : Flow) (run : Run) : Type 0 where
  pub alike : TellsAlike f.left_old f.left_new
  pub may : MayGive f.left_old given
  pub now : Input
  pub rest : MayGive f.left_new now
  pub taken : IsLeft now given
  pub to_take : IsLeft run.input now
  pub front : List ℕ
  pub is_front : IsFront front (bytes_of run.deeds)
  pub out : Puts putting.Done front f.held_old f.held_new

-- no answer of a run that came to an end
abbrev pub IsUnrun : Status → Type 0
IsUnrun Done = ⊥
IsUnrun Trapped = ⊥
IsUnrun OutOfBudget = ⊥
IsUnrun _ = Unit {0}

-- After the end of a run they are so as the whole run leaves them; after a fault, and where memory ran out, as a part does.
abbrev pub Flowed : (given : Input) → Flow → Run → Status → Type 0
Flowed given f run Done = RunsWhole given f run
Flowed given f run Trapped = RunsWhole given f run
Flowed given f run OutOfBudget = RunsWhole given f run
Flowed given f run ReadFault = (f.puts_new ≡ f.puts_old) × RunsPart given f run
Flowed given f run WriteFault = RunsPart given f run
Flowed given f run OutOfMemory = RunsPart given f run
Flowed given f run Usage = ⊥
Flowed given f run Refused = ⊥
Flowed given f run TooLong = ⊥

-- An answer that tells of a run leaves them as the whole run does, and any other one as they were.
abbrev pub FlowsAs : (given : Input) → Flow → Option Run → Type 0
FlowsAs given f None = IsQuiet f
FlowsAs given f (Some run) = RunsWhole given f run

-- Nothing was taken and put, or by one of these runs.
pub data Flows (given : Input) (IsRun : Run → Type 0) (f : Flow) : Status → Type 0 where
  quiet : {result : Status} → IsUnrun result → IsQuiet f → Flows given IsRun f result
  ran : {result : Status} (run : Run) → IsRun run → Flowed given f run result → Flows given IsRun f result

-- ---- the answer

-- A take from the input failed in the run, which was put; or a put to the output failed, and nothing was put to the report.
pub data Cuts (r : Report) (f : Flow) : Status → Type 0 where
  input_failed : {result : Status} → Rose f.takes_old f.takes_new → Reports ReadFault input_fault_line r result → Cuts r f result
  out_failed : Rose f.puts_old f.puts_new → IsKept r → Cuts r f WriteFault

-- What a command did that runs a program: it delivered one of these answers; or the run was cut short; or memory ran out before
-- there was an answer.
pub data DidRun (Gives : Option Run → Answer → Type 0) (given : Input) (s : Shelved) (r : Report) (f : Flow) : Status → Type 0 where
  delivered : {result : Status} (ran : Option Run) (a : Answer)
      → Gives ran a → CountsReads s a.status → FlowsAs given f ran → Delivers a s r result
      → DidRun Gives given s r f result
  cut : {result : Status} → SameCounts s.reads_old s.reads_new → KeepsFiles s → Cuts r f result → DidRun Gives given s r f result
  starved_run : SameCounts s.reads_old s.reads_new → KeepsFiles s → IsKept r → DidRun Gives given s r f OutOfMemory

-- ---- the same in parts

-- What was told of a run over what the input gave, which may be cut short.
pub data TellsEnd (asked : Inquiry) (run_over : Input → Run) (s : Shelved) (r : Report) (f : Flow) : Status → Type 0 where
  end_printed : {result : Status} (given : Input) (a : Answer) → TellsOf asked (run_over given) a → RunsWhole given f (run_over given) → Delivers a s r result → TellsEnd asked run_over s r f result
  end_cut : {result : Status} (given : Input) → RunsPart given f (run_over given) → Flowed given f (run_over given) result → KeepsFiles s → Cuts r f result → TellsEnd asked run_over s r f result
  end_unprinted : (given : Input) → RunsPart given f (run_over given) → KeepsFiles s → IsKept r → TellsEnd asked run_over s r f OutOfMemory

-- What was told of an execution: that nothing was run, whatever the input gives; or of its run.
pub data TellsExecution (asked : Inquiry) (executed : Input → Execution) (s : Shelved) (r : Report) (f : Flow) : Status → Type 0 where
  refused : {result : Status} (e : Execution) (line : List ℕ) → ((given : Input) → executed given ≡ e) → AnswersAs asked e None (says Refused line) → IsQuiet f → KeepsFiles s → Reports Refused line r result → TellsExecution asked executed s r f result
  run_printed : {result : Status} (run_over : Input → Run) → ((given : Input) → executed given ≡ Ran (run_over given)) → TellsEnd asked run_over s r f result → TellsExecution asked executed s r f result
  nothing_printed : IsQuiet f → KeepsFiles s → IsKept r → TellsExecution asked executed s r f OutOfMemory
