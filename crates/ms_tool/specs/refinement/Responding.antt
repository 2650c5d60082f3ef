-- What the program did, in one piece.
use Rattle.std.specs.Prelude.{◌≡◌, ℕ, List, Option, false}
use Rattle.ms_outside.specs.Shelf.{SameCounts}
use Rattle.ms_command_line.specs.Asked.{asked_of, is_taken}
use Rattle.ms_job.specs.declared.job.Job.{Job}
use Rattle.ms_machine.specs.Crews.{Input, Run}
use Rattle.ms_machine.specs.Running.{MayGive}
use Rattle.ms_run.specs.Answers.{Answer}
use Rattle.ms_run.specs.Flows.{Cuts, FlowsAs}
use Rattle.ms_run.specs.Observed.{Flow, Report, Shelved}
use Rattle.ms_run.specs.Reporting.{CountsReads, Delivers, Holds, IsFound, IsKept, KeepsFiles}
use Rattle.ms_run.specs.SafeRuns.{IsEnd, RanSafely}
use Rattle.ms_run.specs.declared.status.Status.{Status}
use Rattle.ms_run.specs.declared.status.Status.TheVariants.{OutOfMemory, Usage}
use Rattle.ms_tool.specs.Top.{AsksJob, AsksRun, FlowsFor, Gives, files_for}

-- An answer of the table was delivered, that of usage exactly for words that are refused; or a run was cut short by a
-- fault of its input or output; or memory ran out before there was an answer.
pub data Responds (words : List (List ℕ)) (given : Input) (s : Shelved) (r : Report) (f : Flow) : Status → Type 0 where
  gave : {result : Status} (ran : Option Run) (a : Answer)
      → Gives words (IsFound s) given ran a → CountsReads s a.status → FlowsAs given f ran → Delivers a s r result
      → (a.status ≡ Usage → is_taken words ≡ false) → (is_taken words ≡ false → a.status ≡ Usage)
      → Responds words given s r f result
  stopped : {result : Status}
      → AsksRun (asked_of words) → SameCounts s.reads_old s.reads_new → KeepsFiles s → Cuts r f result
      → Responds words given s r f result
  nothing : SameCounts s.reads_old s.reads_new → KeepsFiles s → IsKept r → Responds words given s r f OutOfMemory

-- This over some input; what became of the input and the output; and a run that has come to an end was safe.
abbrev pub Responded : List (List ℕ) → Shelved → Report → Flow → Status → Type 0
Responded words s r f status =
    (given : Input) × MayGive f.left_old given × Responds words given s r f status × FlowsFor s.old (asked_of words) given f status
    × (AsksRun (asked_of words) → IsEnd status → (job : Job) × AsksJob (Holds s.old) (asked_of words) job × RanSafely (files_for (asked_of words) s.old) s r f job status)
