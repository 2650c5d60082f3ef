-- What the program answers, and what it does to the objects outside: `Keeps`, at the end, is the whole contract of `tool`. It stands
-- on what the words ask for (`Asked` of `ms_command_line`) and on each command's table of answers (`Answers` and `Jobs` of `ms_run`).
use Rattle.std.specs.Prelude.{◌≡◌, ◌⊎◌, ◌<◌, ℕ, List, Option, Some, None, MatchOption, IsSomeAnd, false}
use Rattle.std.specs.FinMap.{get}
use Rattle.ms_outside.specs.Faults.{Rose}
use Rattle.ms_outside.specs.Files.{Files}
use Rattle.ms_outside.specs.Sink.{IsFront}
use Rattle.ms_command_line.specs.Asked.{Asked, Asm, Check, Compile, Dis, Exec, Judge, Run, Stress, asked_of, is_taken}
use Rattle.ms_command_line.specs.Commands.{usage_lines}
use Rattle.ms_event.specs.Monitor.{Accepts}
use Rattle.ms_job.specs.declared.job.Job.{Job}
use Rattle.ms_run.specs.Answers.{Answer, Assembles, Checks, Disassembles, Finds, Judges, OnFile, says}
use Rattle.ms_machine.specs.Crews.{Input, Run as MachineRun, events_of}
use Rattle.ms_machine.specs.Running.{MayGive}
use Rattle.ms_run.specs.Flows.{Flows, FlowsAs, IsQuiet}
use Rattle.ms_run.specs.Jobs.{HasJob, RunOfFile, RunOfJob, RunsFile, RunsJob, exec_job}
use Rattle.ms_run.specs.Lines.{input_fault_line}
use Rattle.ms_run.specs.Loading.{Source, Text}
use Rattle.ms_run.specs.Observed.{Flow}
use Rattle.ms_run.specs.Reporting.{AreLines, Grows, HasFailed, HasWritten, Holds, IsFound, KeepsFiles}
use Rattle.ms_run.specs.SafeRuns.{IsEnd}
use Rattle.ms_run.specs.Stress.{stress_files, stress_job}
use Rattle.ms_run.specs.declared.gathering.Naming.TheVariants.{Only}
use Rattle.ms_run.specs.declared.status.Status.{Status}
use Rattle.ms_run.specs.declared.status.Status.TheVariants.{OutOfMemory, ReadFault, Usage, WriteFault}
use Rattle.ms_tool.specs.Meaning.{KeepsRun}
use Rattle.ms_tool.specs.Outside.{Outside, flow_of, report_of, shelf_of}

-- ---- the table

-- by what was found of files, and what the input of a program gives: a byte or the end for each take
abbrev pub GivesFor : Finds → (given : Input) → Asked → Option MachineRun → Answer → Type 0
GivesFor Has given (Exec name budget memory) ran answer =
    RunsJob Has Only given (exec_job name budget memory) ran answer
GivesFor Has given (Run name) ran answer = RunsFile Has given name ran answer
GivesFor Has given (Check name) ran answer = (ran ≡ None) × Checks Has name answer
GivesFor Has given (Asm name out) ran answer = (ran ≡ None) × OnFile Has name (Assembles Text out) answer
GivesFor Has given (Dis name out) ran answer = (ran ≡ None) × OnFile Has name (Disassembles out) answer
GivesFor Has given (Compile name out) ran answer = (ran ≡ None) × OnFile Has name (Assembles Source out) answer
GivesFor Has given (Judge name memory) ran answer = (ran ≡ None) × Judges Has name memory answer
GivesFor Has given (Stress seed count) ran answer = RunsJob (Holds (Some (stress_files seed count))) Only given stress_job ran answer

-- The words, what was found of files, and what the input gives, give this answer; and it tells of this run, if they ask
-- for one.
abbrev pub Gives : List (List ℕ) → Finds → (given : Input) → Option MachineRun → Answer → Type 0
Gives words Has given ran answer =
    MatchOption (asked_of words) ((ran ≡ None) × (answer ≡ says Usage usage_lines))
    (λ asked. GivesFor Has given asked ran answer)

-- the words ask for a run
abbrev pub AsksRun : Option Asked → Type 0
AsksRun None = ⊥
AsksRun (Some (Exec name budget memory)) = Unit {0}
AsksRun (Some (Run name)) = Unit {0}
AsksRun (Some (Check name)) = ⊥
AsksRun (Some (Asm name out)) = ⊥
AsksRun (Some (Dis name out)) = ⊥
AsksRun (Some (Compile name out)) = ⊥
AsksRun (Some (Judge name memory)) = ⊥
AsksRun (Some (Stress seed count)) = Unit {0}

-- of this job
abbrev pub AsksJob : Finds → Option Asked → Job → Type 0
AsksJob Has (Some (Exec name budget memory)) job = job ≡ exec_job name budget memory
AsksJob Has (Some (Run name)) job = HasJob Has name job
AsksJob Has (Some (Stress seed count)) job = job ≡ stress_job
AsksJob Has _ job = ⊥

-- and the files from which its modules are read: `stress` has one of its own
abbrev pub files_for : Option Asked → Option Files → Option Files
files_for (Some (Stress seed count)) files = Some (stress_files seed count)
files_for _ files = files

-- A run whose input failed has an answer of its own, only where the count of the input rose.
abbrev pub IsInputFault : List (List ℕ) → (before after : Outside) → Answer → Type 0
IsInputFault words before after answer =
    AsksRun (asked_of words) × (answer ≡ says ReadFault input_fault_line) × Rose before.take_faults after.take_faults

-- The table's answer, the input and the output being as the run leaves them of which it tells, or as before; or that of
-- an input that failed.
abbrev pub GivesOver : List (List ℕ) → (before after : Outside) → (given : Input) → Answer → Type 0
GivesOver words before after given answer =
    ((ran : Option MachineRun) × Gives words (IsFound (shelf_of before after)) given ran answer × FlowsAs given (flow_of before after) ran)
    ⊎ IsInputFault words before after answer

-- ---- the input and the output of a program

-- A run of these files leaves them so, of which each event may come next by the colour monitor; where the words don't ask
-- for one, they are as before.
abbrev pub FlowsFor : Option Files → Option Asked → (given : Input) → Flow → Status → Type 0
FlowsFor files (Some (Exec name budget memory)) given f status =
    Flows given
    (λ run. RunOfJob (Holds files) given (exec_job name budget memory) run × Accepts memory (events_of run.deeds))
    f status
FlowsFor files (Some (Run name)) given f status =
    Flows given
    (λ run. (runs : RunOfFile (Holds files) given name run) × Accepts runs.job.memory (events_of run.deeds))
    f status
FlowsFor files (Some (Stress seed count)) given f status =
    Flows given
    (λ run. RunOfJob (Holds (Some (stress_files seed count))) given stress_job run × Accepts stress_job.memory (events_of run.deeds))
    f status
FlowsFor files _ given f status = IsQuiet f

-- ---- the answer

-- This status is that of the answer: the report has grown by exactly its lines, exactly its file was written, and the
-- input and the output are as it leaves them.
abbrev pub IsAnswer : List (List ℕ) → (before after : Outside) → Status → Type 0
IsAnswer words before after status =
    (given : Input) × (answer : Answer)
    × MayGive before.left given × GivesOver words before after given answer
    × (status ≡ answer.status) × Grows (report_of before after) answer.report × HasWritten (shelf_of before after) answer.file
    × FlowsFor before.files (asked_of words) given (flow_of before after) status

-- The report could not be put: it has grown by a first part of an answer's lines, of which the file was written.
abbrev pub IsCutOff : List (List ℕ) → (before after : Outside) → Type 0
IsCutOff words before after =
    (given : Input) × (answer : Answer) × (front : List ℕ)
    × MayGive before.left given × GivesOver words before after given answer
    × IsFront front answer.report × Grows (report_of before after) front × HasWritten (shelf_of before after) answer.file
    × Rose before.report_faults after.report_faults

-- The file of an answer could not be written, and nothing was put to the report.
abbrev pub IsUnwritten : List (List ℕ) → (before after : Outside) → Type 0
IsUnwritten words before after =
    (given : Input) × (answer : Answer)
    × MayGive before.left given × GivesOver words before after given answer
    × HasFailed (shelf_of before after) answer.file × (after.report ≡ before.report)

-- The output of a run could not be put, and nothing was put to the report.
abbrev pub IsOutFault : List (List ℕ) → (before after : Outside) → Type 0
IsOutFault words before after =
    AsksRun (asked_of words) × Rose before.put_faults after.put_faults
    × (after.report ≡ before.report) × KeepsFiles (shelf_of before after)

-- Memory ran out: nothing was put to the report, and no file was written; or an answer's file was, and of its lines some of the
-- first ones were put, or none.
abbrev pub IsStarved : List (List ℕ) → (before after : Outside) → Type 0
IsStarved words before after =
    ((after.report ≡ before.report) × KeepsFiles (shelf_of before after))
    ⊎ ((given : Input) × (answer : Answer) × (front : List ℕ)
    × MayGive before.left given × GivesOver words before after given answer
    × IsFront front answer.report × AreLines front × Grows (report_of before after) front × HasWritten (shelf_of before after) answer.file)

-- The status is a fault of writing, or want of memory.
abbrev pub IsPutFault : Status → Type 0
IsPutFault status = (status ≡ WriteFault) ⊎ (status ≡ OutOfMemory)

-- or one of reading
abbrev pub IsFaulty : Status → Type 0
IsFaulty status = (status ≡ ReadFault) ⊎ IsPutFault status

-- ---- files that stay

-- the words name this file to be written, or the job that they name does, for its trace
abbrev pub IsTarget : Finds → Option Asked → List ℕ → Type 0
IsTarget Has (Some (Run job)) name = (j : Job) × AsksJob Has (Some (Run job)) j × (j.trace ≡ Some name)
IsTarget Has (Some (Asm file out)) name = name ≡ out
IsTarget Has (Some (Dis file out)) name = name ≡ out
IsTarget Has (Some (Compile file out)) name = name ≡ out
IsTarget Has _ name = ⊥

-- the file of this name is as before, where the shelf tells its files
abbrev pub Stays : (before after : Option Files) → List ℕ → Type 0
Stays before after name =
    MatchOption before (after ≡ None) (λ known. IsSomeAnd after (λ now. get now name ≡ get known name))

-- ---- the contract of `tool`

-- For these words, what was seen of the outside before and after the call, and the status with which it ended.
pub record Keeps (words : List (List ℕ)) (before after : Outside) (status : Status) : Type 0 where
  -- The answer is the one that the table gives for the words, the files and what the input gives, or a fault of writing or want of
  -- memory stands in its place.
  pub answer : IsPutFault status ⊎ IsAnswer words before after status
  -- Usage is told exactly where the definition of the commands refuses the words, unless that can't be put.
  pub usage : status ≡ Usage → is_taken words ≡ false
  pub refused : is_taken words ≡ false → (status ≡ Usage) ⊎ IsPutFault status
  -- A write fault has its cause: the report broke off, or the answer's file, or the output of the run.
  pub write_fault : status ≡ WriteFault
      → IsCutOff words before after ⊎ (IsUnwritten words before after ⊎ IsOutFault words before after)
  -- Where memory ran out the report has grown by some of an answer's first lines, or by none, and no file was written but that of an
  -- answer.
  pub memory : status ≡ OutOfMemory → IsStarved words before after
  -- What the table gives for known files, whatever the input may give, is the answer, unless a fault is met or memory runs out.
  pub complete : (known : Files) (ran : Input → Option MachineRun) (answer : Answer) → before.files ≡ Some known
      → ((given : Input) → MayGive before.left given → Gives words (Holds (Some known)) given (ran given) answer)
      → ((status ≡ answer.status) × Grows (report_of before after) answer.report × HasWritten (shelf_of before after) answer.file)
      ⊎ IsFaulty status
  -- Where the words ask for a run and it has come to an end, it is safe, and that of a program of C does what the program means.
  pub run : AsksRun (asked_of words) → IsEnd status
      → (job : Job) × AsksJob (Holds before.files) (asked_of words) job
      × KeepsRun (files_for (asked_of words) before.files) (shelf_of before after) (report_of before after) (flow_of before after) job status
  -- A fault that was counted is never passed over.
  pub reads : (name : List ℕ) → before.read_faults name < after.read_faults name → IsFaulty status
  pub writes : before.write_faults < after.write_faults → IsPutFault status
  pub puts : before.report_faults < after.report_faults → IsPutFault status
  pub takes : before.take_faults < after.take_faults → IsFaulty status
  pub outs : before.put_faults < after.put_faults → IsPutFault status
  -- All files stay but the one that the words name to be written, or the job for its trace.
  pub files : (name : List ℕ) → ¬ IsTarget (Holds before.files) (asked_of words) name → Stays before.files after.files name
  -- The input and the output are as before, but for a run: after its end the output has grown by exactly its bytes, and the input has
  -- lost exactly those that it takes; after a fault the output has got a front of them, and the input has lost no others.
  pub flows : (given : Input) × MayGive before.left given × FlowsFor before.files (asked_of words) given (flow_of before after) status
