-- What a run did whose files stand on a shelf of its own, which never fails and gets none: the shelf of the program stays.
use Rattle.std.proofs.Common.{◌≡◌, ◌∙◌, ℕ, List, inl, inr, ap, refl, sym, subst, arith}
use Rattle.std.proofs.lemmas.List.Elements.{All-nil}
use Rattle.std.specs.Prelude.{Option, Some, None}
use Rattle.ms_machine.specs.Crews.{Input, Run, events_of}
use Rattle.ms_job.specs.refinement.Bounds.{IsBounded}
use Rattle.ms_job.specs.declared.job.Job.{Job}
use Rattle.ms_outside.specs.Faults.{Rose}
use Rattle.ms_outside.specs.Files.{Files}
use Rattle.ms_outside.specs.Shelf.{IfKnown, SameCounts}
use Rattle.ms_run.specs.Answers.{Answer, Contents, Fault, File, Found}
use Rattle.ms_run.specs.Flows.{DidRun, Flows, IsQuiet, cut, delivered, starved_run}
use Rattle.ms_run.specs.Jobs.{RunOfJob, RunsJob}
use Rattle.ms_run.specs.Observed.{Flow, Report, Shelved, shelved}
use Rattle.ms_run.specs.Reporting.{Delivers, HasFailed, HasWritten, Holds, IsFound, IsKept, KeepsFiles, failed, put, starved}
use Rattle.ms_run.specs.SafeRuns.{RanSafely}
use Rattle.ms_run.specs.Stress.{stress_files, stress_job}
use Rattle.ms_run.specs.Telling.{inquiry_of}
use Rattle.ms_run.specs.declared.gathering.Naming.{Naming}
use Rattle.ms_run.specs.declared.gathering.Naming.TheVariants.{Only}
use Rattle.ms_run.specs.declared.status.Status.{Status}
use Rattle.ms_run.specs.declared.status.Status.TheVariants.{OutOfMemory}
use Rattle.ms_run.proofs.Ending.{untraced}
use Rattle.ms_run.proofs.Finding.{runs_job_more}
use Rattle.ms_run.proofs.Jobs.{Answered, starved_answered}
use Rattle.ms_run.proofs.Targets.{job_target}

module _ (files : Files) (own : Shelved) (told : own.old ≡ Some files) (never : (name : List ℕ) → ¬ Rose (own.reads_old name) (own.reads_new name)) where
  found_own : (name : List ℕ) (found : Found) → IsFound own name found → Holds (Some files) name found
  found_own name (Contents bytes) h = subst (λ (o : Option Files). IfKnown o name (λ known. bytes ≡ known)) told h
  found_own name Fault h = absurd (never name h)

  module _ (naming : Naming) (job : Job) (no_trace : job.trace ≡ None) (s : Shelved) (same : SameCounts s.reads_old s.reads_new) (kept : KeepsFiles s) (r : Report) (f : Flow) where
    no_file : (given : Input) (ran : Option Run) (a : Answer) → RunsJob (IsFound own) naming given job ran a → a.file ≡ None
    no_file given ran a gives = by a.file (λ file e. job_target (IsFound own) naming given job ran file a gives e) where
      by : (o : Option File) → ((file : File) → o ≡ Some file → job.trace ≡ Some file.name) → o ≡ None
      by None target = refl
      by (Some file) target = absurd (let both = sym no_trace ∙ target file refl in cc)

    delivers_kept : (result : Status) (a : Answer) → a.file ≡ None → Delivers a own r result → Delivers a s r result
    delivers_kept result a none (put written reports) = put (subst (HasWritten s) (sym none) kept) reports
    delivers_kept result a none (failed part still) = absurd (subst (HasFailed own) none part)
    delivers_kept result a none (starved files still) = starved kept still

    pub did_kept : (given : Input) (result : Status) → DidRun (RunsJob (IsFound own) naming given job) given own r f result → DidRun (RunsJob (Holds (Some files)) naming given job) given s r f result
    did_kept given result (delivered ran a gives counts flows delivers) =
        delivered ran a (runs_job_more (IsFound own) (Holds (Some files)) found_own naming given job ran a gives) (inr same) flows
        (delivers_kept result a (no_file given ran a gives) delivers)
    did_kept given result (cut counts files c) = cut same kept c
    did_kept given result (starved_run counts files still) = starved_run same kept still

    pub safe_kept : (result : Status) → RanSafely own.old own r f job result → RanSafely (Some files) s r f job result
    safe_kept result h = record {
      given = h.given;
      run = h.run;
      may = h.may;
      of_job = subst (λ (o : Option Files). RunOfJob (Holds o) h.given job h.run) told h.of_job;
      answer = h.answer;
      tells = h.tells;
      status_is = h.status_is;
      grown = h.grown;
      written = subst (HasWritten s) (sym (h.tells.5 ∙ untraced (inquiry_of job).telling (events_of h.run.deeds) no_trace)) kept;
      flowed = h.flowed;
      small = h.small;
      accepted = h.accepted;
      counted = h.counted;
    }

    pub answered_kept : (result : Status) → Answered (λ given. RunsJob (IsFound own) naming given job) (λ given. RunOfJob (Holds own.old) given job) own r f result
        → Answered (λ given. RunsJob (Holds (Some files)) naming given job) (λ given. RunOfJob (Holds (Some files)) given job) s r f result
    answered_kept result (given, may, did, flows) =
        (given, may, did_kept given result did, subst (λ (o : Option Files). Flows given (RunOfJob (Holds o) given job) f result) told flows)

-- the shelf of `stress`, and its job
module _ (seed count : ℕ) (job : Job) (files after : Files) (is_job : job ≡ stress_job) (is_files : files ≡ stress_files seed count) (s : Shelved) (same : SameCounts s.reads_old s.reads_new) (kept : KeepsFiles s) (r : Report) (f : Flow) where
  abbrev pub own_shelf : Shelved
  own_shelf = shelved {S = Files} (λ x. Some x) (λ _ _. 0) (λ _. 0) files after

  abbrev untraced_job : job.trace ≡ None
  untraced_job = ap (λ (j : Job). j.trace) is_job

  never_fails : (name : List ℕ) → ¬ Rose 0 0
  never_fails name (inl lt) = omega (arith, lt)
  never_fails name (inr e) = omega (arith, e)

  pub stressed : (result : Status) → Answered (λ given. RunsJob (IsFound own_shelf) Only given job) (λ given. RunOfJob (Holds own_shelf.old) given job) own_shelf r f result
      → Answered (λ given. RunsJob (Holds (Some (stress_files seed count))) Only given stress_job) (λ given. RunOfJob (Holds (Some (stress_files seed count))) given stress_job) s r f result
  stressed result h =
      subst (λ (j : Job). Answered (λ given. RunsJob (Holds (Some (stress_files seed count))) Only given j) (λ given. RunOfJob (Holds (Some (stress_files seed count))) given j) s r f result) is_job
      (subst (λ (fs : Files). Answered (λ given. RunsJob (Holds (Some fs)) Only given job) (λ given. RunOfJob (Holds (Some fs)) given job) s r f result) is_files
      (answered_kept files own_shelf refl never_fails Only job untraced_job s same kept r f result h))

  pub stressed_safely : (result : Status) → RanSafely own_shelf.old own_shelf r f job result → RanSafely (Some (stress_files seed count)) s r f stress_job result
  stressed_safely result h =
      subst (λ (j : Job). RanSafely (Some (stress_files seed count)) s r f j result) is_job
      (subst (λ (fs : Files). RanSafely (Some fs) s r f job result) is_files
      (safe_kept files own_shelf refl never_fails Only job untraced_job s same kept r f result h))

pub stress_bounded : IsBounded stress_job
stress_bounded = record { names = (tt, tt); some = omega arith; few = omega arith; turns = omega arith; budget = omega arith; memory = omega arith; reach = All-nil _; only = tt }

module _ (seed count : ℕ) (s : Shelved) (r : Report) (f : Flow) (same : SameCounts s.reads_old s.reads_new) (kept : KeepsFiles s) where
  -- memory ran out before anything was done
  pub stress_starved : IsKept r → IsQuiet f → Answered (λ given. RunsJob (Holds (Some (stress_files seed count))) Only given stress_job) (λ given. RunOfJob (Holds (Some (stress_files seed count))) given stress_job) s r f OutOfMemory
  stress_starved silent still =
      starved_answered (λ given. RunsJob (Holds (Some (stress_files seed count))) Only given stress_job) (λ given. RunOfJob (Holds (Some (stress_files seed count))) given stress_job) s r f same kept silent still
