-- Which file an answer of the tables writes: none, or the one that was asked for.
use Rattle.std.proofs.Common.{◌≡◌, ◌∙◌, ℕ, List, [], refl, sym, ap}
use Rattle.std.specs.Prelude.{Option, Some, None}
use Rattle.ms_job.specs.declared.job.Job.{Job}
use Rattle.ms_machine.specs.Crews.{Input, Run, events_of}
use Rattle.ms_run.specs.Answers.{Answer, Assembles, Checks, Command, Disassembles, File, Found, Judges, OnFile, Unfound, Verdict, says}
use Rattle.ms_run.specs.Answers as table
use Rattle.ms_run.specs.Executions.{AnswersAs, Execution, NoTask, Ran, Unlinked, execution}
use Rattle.ms_run.specs.Jobs.{RunsJob}
use Rattle.ms_run.specs.Jobs as jobs
use Rattle.ms_run.specs.Loading.{Form}
use Rattle.ms_run.specs.Telling.{Inquiry, inquiry_of}
use Rattle.ms_run.specs.declared.gathering.Naming.{Naming}
use Rattle.ms_run.specs.declared.status.Status.{Status}
use Rattle.ms_run.proofs.Ending.{same_file, traced_name}
use Rattle.ms_run.proofs.Refusals.{OfRefusals, of_first, of_unfound, of_unloaded, of_unscheduled}

refusals_write_none : OfRefusals (λ (a : Answer). a.file ≡ None)
refusals_write_none = record { read_fault = λ line. refl; too_long = λ line. refl; refused = λ line. refl }

-- an answer that writes no file doesn't write this one
not_both : (a : Answer) (file : File) → a.file ≡ None → a.file ≡ Some file → ⊥
not_both a file none some = let both = sym none ∙ some in cc

pub wrote_none : (a : Answer) (status : Status) (line : List ℕ) (file : File) → a ≡ says status line → a.file ≡ Some file → ⊥
wrote_none a status line file is e = not_both a file (ap (λ (x : Answer). x.file) is) e

pub unfound_target : (Has : List ℕ → Found → Type 0) (name : List ℕ) (file : File) (a : Answer) → Unfound Has name a → a.file ≡ Some file → ⊥
unfound_target Has name file a h e = not_both a file (of_unfound refusals_write_none Has name a h) e

verdict_target : (capacity : ℕ) (bytes : List ℕ) (file : File) (a : Answer) → Verdict capacity bytes a → a.file ≡ Some file → ⊥
verdict_target capacity bytes file a (table.no_event n h) e = cc
verdict_target capacity bytes file a (table.rejected es n h bad) e = cc
verdict_target capacity bytes file a (table.accepted es h good) e = cc

pub assembled_target : (form : Form) (out bytes : List ℕ) (file : File) (a : Answer) → Assembles form out bytes a → a.file ≡ Some file → file.name ≡ out
assembled_target form out bytes file a (table.unread_form h) e = absurd cc
assembled_target form out bytes file a (table.large m h is) e = absurd cc
assembled_target form out bytes file a (table.assembled m h not) e = ap (λ (x : File). x.name) (sym (same_file _ file e))

pub disassembled_target : (out bytes : List ℕ) (file : File) (a : Answer) → Disassembles out bytes a → a.file ≡ Some file → file.name ≡ out
disassembled_target out bytes file a (table.unread_binary h) e = absurd cc
disassembled_target out bytes file a (table.disassembled m h) e = ap (λ (x : File). x.name) (sym (same_file _ file e))

module _ (Has : List ℕ → Found → Type 0) where
  pub file_target : (name out : List ℕ) (Does : Command) (file : File) (a : Answer) → ((bytes : List ℕ) (a : Answer) → Does bytes a → a.file ≡ Some file → file.name ≡ out) → OnFile Has name Does a → a.file ≡ Some file → file.name ≡ out
  file_target name out Does file a targets (table.no_file h) e = absurd (unfound_target Has name file a h e)
  file_target name out Does file a targets (table.on_file bytes h does) e = targets bytes a does e

  pub checks_target : (name : List ℕ) (file : File) (a : Answer) → Checks Has name a → a.file ≡ Some file → ⊥
  checks_target name file a (table.unchecked h) e = not_both a file (of_unloaded refusals_write_none Has [] name a h) e
  checks_target name file a (table.checked m h) e = cc

  pub judges_target : (name : List ℕ) (capacity : ℕ) (file : File) (a : Answer) → Judges Has name capacity a → a.file ≡ Some file → ⊥
  judges_target name capacity file a (table.unjudged h) e = unfound_target Has name file a h e
  judges_target name capacity file a (table.judged bytes h verdict) e = verdict_target capacity bytes file a verdict e

  execution_target : (asked : Inquiry) (x : Execution) (which : Option Run) (file : File) (a : Answer) → AnswersAs asked x which a → a.file ≡ Some file → asked.telling.trace ≡ Some file.name
  execution_target asked (Unlinked fault) which file a h e = absurd (wrote_none a _ _ file h.1 e)
  execution_target asked (NoTask number) which file a h e = absurd (wrote_none a _ _ file h.1 e)
  execution_target asked (Ran run) which file a h e = traced_name asked.telling (events_of run.deeds) file (sym h.1.5 ∙ e)

  pub job_target : (naming : Naming) (given : Input) (job : Job) (which : Option Run) (file : File) (a : Answer) → RunsJob Has naming given job which a → a.file ≡ Some file → job.trace ≡ Some file.name
  job_target naming given job which file a (jobs.unloaded h) e = absurd (not_both a file (of_first refusals_write_none Has naming 0 job.modules a h) e)
  job_target naming given job which file a (jobs.unscheduled ms all h) e = absurd (not_both a file (of_unscheduled refusals_write_none Has job a h) e)
  job_target naming given job which file a (jobs.executed ms entries all h answers) e = execution_target (inquiry_of job) (execution ms job.tasks entries job.memory given) which file a answers e
