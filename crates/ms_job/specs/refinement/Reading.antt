-- What readers answer. Where memory runs out nothing is said.
use Rattle.std.specs.Prelude.{◌≡◌, ℕ, ◌+◌, ◌-◌, ◌*◌, ◌^◌, ◌≤◌, ◌⊎◌, true, false, List, Option, Some, None, Result, Ok, Err}
use Rattle.std.specs.Char.{is_ascii_digit}
use Rattle.ms_job.specs.declared.draft.Draft.{Draft}
use Rattle.ms_job.specs.declared.draft.Stop.{Stop}
use Rattle.ms_job.specs.declared.draft.Stop.TheVariants.{Broken, Memory}
use Rattle.ms_job.specs.declared.job.Job.{Job}
use Rattle.ms_job.specs.declared.fault.JobFault.{JobFault}
use Rattle.ms_job.specs.declared.fault.JobFault.TheVariants as job_fault
use Rattle.ms_job.specs.declared.fault.SchedFault.{SchedFault}
use Rattle.ms_job.specs.declared.fault.SchedFault.TheVariants as sched_fault

-- the answer to a text is its job, or its first fault
abbrev pub ReadsJob : Result Job JobFault → Result Job JobFault → Type 0
ReadsJob answer (Ok job) = answer ≡ Ok job
ReadsJob answer (Err job_fault.Memory) = Unit {0}
ReadsJob answer (Err fault) = answer ≡ Err fault

abbrev pub ReadsSchedule : Result (List ℕ) SchedFault → Result (List ℕ) SchedFault → Type 0
ReadsSchedule answer (Ok numbers) = answer ≡ Ok numbers
ReadsSchedule answer (Err sched_fault.Memory) = Unit {0}
ReadsSchedule answer (Err fault) = answer ≡ Err fault

-- a line turned a draft into this one, or breaks a rule
abbrev pub Follows : Option Draft → Draft → Result (Unit {0}) Stop → Type 0
Follows answer new (Ok _) = answer ≡ Some new
Follows answer new (Err Broken) = answer ≡ None
Follows answer new (Err Memory) = Unit {0}

-- what a name or several stand for, or they break a rule
abbrev pub Finds : {A : Type 0} → Option A → Result A Stop → Type 0
Finds answer (Ok x) = answer ≡ Some x
Finds answer (Err Broken) = answer ≡ None
Finds answer (Err Memory) = Unit {0}

-- the lines of a text are these, or the number of the first that breaks a rule
abbrev pub ReadsLines : Result Draft ℕ → Result Draft JobFault → Type 0
ReadsLines answer (Ok d) = answer ≡ Ok d
ReadsLines answer (Err (job_fault.Line n)) = answer ≡ Err n
ReadsLines answer (Err job_fault.Memory) = Unit {0}
ReadsLines answer (Err _) = ⊥

-- a digit was put behind a number, or the byte is none, or the number isn't below 2^64
abbrev pub AddsDigit : ℕ → ℕ → Option ℕ → Type 0
AddsDigit value byte None = (is_ascii_digit byte ≡ false) ⊎ (2 ^ 64 ≤ value * 10 + (byte - 48))
AddsDigit value byte (Some n) = (is_ascii_digit byte ≡ true) × (n ≡ value * 10 + (byte - 48))
