-- What the objects outside have to do with an answer: the file that is read, the file that is written, and the report.
use Rattle.std.specs.Prelude.{◌≡◌, ◌⊎◌, ℕ, List, [], ◌++◌, Option, Some, None, MatchOption}
use Rattle.ms_outside.specs.Faults.{CountsFault, Rose}
use Rattle.ms_outside.specs.Files.{Files}
use Rattle.ms_outside.specs.Shelf.{SameCounts, IfKnown, Writes}
use Rattle.ms_outside.specs.Sink.{IsFront}
use Rattle.ms_outside.specs.declared.sink.Put.TheVariants as puts
use Rattle.ms_run.specs.Answers.{Answer, Command, Contents, Fault, File, Found, Verdict, says}
use Rattle.ms_job.specs.declared.fault.JobFault.{JobFault}
use Rattle.ms_job.specs.declared.fault.JobFault.TheVariants as job_faults
use Rattle.ms_run.specs.Lines.{job_line, line, refused_line}
use Rattle.ms_run.specs.Loading.{load_words}
use Rattle.ms_run.specs.Observed.{Report, Shelved}
use Rattle.ms_run.specs.declared.loading.LoadFault.{LoadFault}
use Rattle.ms_run.specs.declared.loading.LoadFault.TheVariants.{Memory}
use Rattle.ms_run.specs.declared.status.Status.{Status}
use Rattle.ms_run.specs.declared.status.Status.TheVariants.{OutOfMemory, ReadFault, Refused, WriteFault}

-- ---- the report

-- what it holds has grown by this, where it tells it
abbrev pub Grows : Report → List ℕ → Type 0
Grows r piece = MatchOption r.old (r.new ≡ None) (λ held. r.new ≡ Some (held ++ piece))

-- it is as before
abbrev pub IsKept : Report → Type 0
IsKept r = (r.new ≡ r.old) × (r.puts_new ≡ r.puts_old)

-- whole lines, or nothing
abbrev pub AreLines : List ℕ → Type 0
AreLines text = (text ≡ []) ⊎ ((front : List ℕ) × (text ≡ line front))

-- The lines of an answer were put for this status; or a put failed, and a first part of them stands there; or memory ran out, and
-- some of the first ones do, or none.
abbrev pub IsWhole : Status → List ℕ → Report → Status → Type 0
IsWhole status lines r result = (result ≡ status) × Grows r lines × (r.puts_new ≡ r.puts_old)

abbrev pub IsCut : List ℕ → Report → Status → Type 0
IsCut lines r result = (result ≡ WriteFault) × (front : List ℕ) × IsFront front lines × Grows r front × CountsFault r.puts_old r.puts_new

abbrev pub IsStarved : List ℕ → Report → Status → Type 0
IsStarved lines r result = (result ≡ OutOfMemory) × (front : List ℕ) × IsFront front lines × AreLines front × Grows r front × (r.puts_new ≡ r.puts_old)

abbrev pub Reports : Status → List ℕ → Report → Status → Type 0
Reports status lines r result = IsWhole status lines r result ⊎ (IsCut lines r result ⊎ IsStarved lines r result)

-- memory ran out before anything was put
abbrev pub IsSilent : Report → Status → Type 0
IsSilent r result = (result ≡ OutOfMemory) × IsKept r

-- ---- the file that is read

-- what was found is the file's bytes, where the shelf tells them; a fault only where the count of its reads rose
abbrev pub IsFound : Shelved → List ℕ → Found → Type 0
IsFound s name (Contents bytes) = IfKnown s.old name (λ known. bytes ≡ known)
IsFound s name Fault = Rose (s.reads_old name) (s.reads_new name)

-- the same of what the files are known to be
abbrev pub Holds : Option Files → List ℕ → Found → Type 0
Holds files name (Contents bytes) = IfKnown files name (λ known. bytes ≡ known)
Holds files name Fault = ⊥

-- ---- the file that is written

-- no file was written
abbrev pub KeepsFiles : Shelved → Type 0
KeepsFiles s = (s.new ≡ s.old) × (s.writes_new ≡ s.writes_old)

-- this one was, whole, and no other
abbrev pub HasWritten : Shelved → Option File → Type 0
HasWritten s None = KeepsFiles s
HasWritten s (Some file) = Writes file.name file.bytes puts.Done s.old s.new × (s.writes_new ≡ s.writes_old)

-- Writing it failed: it has a first part of its bytes, or is as before.
abbrev pub HasFailed : Shelved → Option File → Type 0
HasFailed s None = ⊥
HasFailed s (Some file) = Writes file.name file.bytes puts.Failed s.old s.new × CountsFault s.writes_old s.writes_new

-- ---- an answer, and what became of it

-- It was written and put whole, or in part; or not written; or memory ran out before that.
pub data Delivers (a : Answer) (s : Shelved) (r : Report) : Status → Type 0 where
  put : {result : Status} → HasWritten s a.file → Reports a.status a.report r result → Delivers a s r result
  failed : HasFailed s a.file → IsKept r → Delivers a s r WriteFault
  starved : KeepsFiles s → IsKept r → Delivers a s r OutOfMemory

-- no read has failed, or the answer is that one did
abbrev pub CountsReads : Shelved → Status → Type 0
CountsReads s status = (status ≡ ReadFault) ⊎ SameCounts s.reads_old s.reads_new

-- What a command did that may write a file: it delivered one of these answers, or memory ran out before there was one.
pub data Did (Gives : Answer → Type 0) (s : Shelved) (r : Report) : Status → Type 0 where
  answered : {result : Status} (a : Answer) → Gives a → CountsReads s a.status → Delivers a s r result → Did Gives s r result
  ran_out : SameCounts s.reads_old s.reads_new → KeepsFiles s → IsKept r → Did Gives s r OutOfMemory

-- What a command did that writes none.
pub data Tells (Gives : Answer → Type 0) (s : Shelved) (r : Report) : Status → Type 0 where
  printed : {result : Status} (status : Status) (line : List ℕ)
      → Gives (says status line) → CountsReads s status → KeepsFiles s → Reports status line r result
      → Tells Gives s r result
  unprinted : SameCounts s.reads_old s.reads_new → KeepsFiles s → IsKept r → Tells Gives s r OutOfMemory

-- ---- the same in parts

-- no read has failed, no file was written, and nothing was put
pub record IsUntouched (s : Shelved) (r : Report) : Type 0 where
  pub counts : SameCounts s.reads_old s.reads_new
  pub files : KeepsFiles s
  pub report : IsKept r

-- what a command made of bytes was delivered, or memory ran out
pub data Makes (Does : Command) (bytes : List ℕ) (s : Shelved) (r : Report) : Status → Type 0 where
  made : {result : Status} (a : Answer) → Does bytes a → Delivers a s r result → Makes Does bytes s r result
  made_none : KeepsFiles s → IsKept r → Makes Does bytes s r OutOfMemory

-- why there is no module was put, `what` being refused; where memory ran out, nothing
abbrev pub ReportsFault : (what : List ℕ) → LoadFault → Report → Status → Type 0
ReportsFault what Memory r result = IsSilent r result
ReportsFault what fault r result = Reports Refused (refused_line what (load_words fault)) r result

-- why a text is no job was put; where memory ran out, nothing
abbrev pub ReportsJobFault : JobFault → Report → Status → Type 0
ReportsJobFault job_faults.Memory r result = IsSilent r result
ReportsJobFault fault r result = Reports Refused (job_line fault) r result

-- the verdict on a trace was put; where memory ran out, nothing
pub data ReportsVerdict (capacity : ℕ) (text : List ℕ) (r : Report) : Status → Type 0 where
  verdict_put : {result : Status} (status : Status) (line : List ℕ) → Verdict capacity text (says status line) → Reports status line r result → ReportsVerdict capacity text r result
  no_verdict : IsKept r → ReportsVerdict capacity text r OutOfMemory
