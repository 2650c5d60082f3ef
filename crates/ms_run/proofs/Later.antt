-- What was done after something else that left the shelf's files and the report as they were.
use Rattle.std.proofs.Common.{◌≡◌, ◌∙◌, ℕ, inl, inr, List, subst}
use Rattle.std.specs.Prelude.{Option, Some, None}
use Rattle.ms_outside.specs.Faults.{Rose}
use Rattle.ms_outside.specs.Files.{Files}
use Rattle.ms_outside.specs.Shelf.{SameCounts, IfKnown}
use Rattle.ms_run.specs.Answers.{Answer, Command, Contents, Fault, File, Found, says}
use Rattle.ms_machine.specs.Crews.{Input, Run}
use Rattle.ms_run.specs.Executions.{Execution}
use Rattle.ms_run.specs.Flows.{Cuts, DidRun, TellsEnd, TellsExecution, cut, delivered, end_cut, end_printed, end_unprinted, nothing_printed, refused, run_printed, starved_run}
use Rattle.ms_run.specs.Observed.{Flow, Report, Shelved}
use Rattle.ms_run.specs.Reporting.{CountsReads, Delivers, Did, HasFailed, HasWritten, IsFound, IsKept, IsUntouched, KeepsFiles, Makes, Reports, Tells, answered, failed, made, made_none, put, ran_out, starved, printed, unprinted}
use Rattle.ms_run.specs.Telling.{Inquiry}
use Rattle.ms_run.specs.declared.status.Status.{Status}
use Rattle.ms_run.specs.declared.status.Status.TheVariants.{Refused}

-- ---- the report

abbrev pub report_of : (old new : Option (List ℕ)) (puts_old puts_new : ℕ) → Report
report_of old new puts_old puts_new = record { old = old; new = new; puts_old = puts_old; puts_new = puts_new }

pub over_report : (P : Report → Type 0) (old mid new : Option (List ℕ)) (puts_old puts_mid puts_new : ℕ) → IsKept (report_of old mid puts_old puts_mid) → P (report_of mid new puts_mid puts_new) → P (report_of old new puts_old puts_new)
over_report P old mid new puts_old puts_mid puts_new kept h =
    subst (λ (x : Option (List ℕ)). P (report_of x new puts_old puts_new)) kept.0 (subst (λ (n : ℕ). P (report_of mid new n puts_new)) kept.1 h)

-- ---- a table, by another one

module _ (Gives Gives' : Answer → Type 0) (more : (a : Answer) → Gives a → Gives' a) where
  pub tells_more : (s : Shelved) (r : Report) (result : Status) → Tells Gives s r result → Tells Gives' s r result
  tells_more s r result (printed status line gives counts files reports) = printed status line (more (says status line) gives) counts files reports
  tells_more s r result (unprinted counts files kept) = unprinted counts files kept

-- ---- the shelf

abbrev pub shelved_of : (old new : Option Files) (reads_old reads_new : List ℕ → ℕ) (writes_old writes_new : ℕ) → Shelved
shelved_of old new reads_old reads_new writes_old writes_new =
    record { old = old; new = new; reads_old = reads_old; reads_new = reads_new; writes_old = writes_old; writes_new = writes_new }

module _ (old mid new : Option Files) (reads_old reads_mid reads_new : List ℕ → ℕ) (writes_old writes_mid writes_new : ℕ)
    (held held_mid held_new : Option (List ℕ)) (puts puts_mid puts_new : ℕ) where
  abbrev pub first : Shelved
  first = shelved_of old mid reads_old reads_mid writes_old writes_mid

  abbrev pub second : Shelved
  second = shelved_of mid new reads_mid reads_new writes_mid writes_new

  abbrev pub whole : Shelved
  whole = shelved_of old new reads_old reads_new writes_old writes_new

  abbrev pub first_report : Report
  first_report = report_of held held_mid puts puts_mid

  abbrev pub second_report : Report
  second_report = report_of held_mid held_new puts_mid puts_new

  abbrev pub whole_report : Report
  whole_report = report_of held held_new puts puts_new

  abbrev Before : Type 0
  Before = IsUntouched first first_report

  pub found_later : Before → (name : List ℕ) (found : Found) → IsFound second name found → IsFound whole name found
  found_later before name (Contents bytes) h = subst (λ (x : Option Files). IfKnown x name (λ known. bytes ≡ known)) before.files.0 h
  found_later before name Fault h = subst (λ (n : ℕ). Rose n (reads_new name)) (before.counts name) h

  counts_later : Before → (status : Status) → CountsReads second status → CountsReads whole status
  counts_later before status (inl h) = inl h
  counts_later before status (inr same) = inr (λ n. same n ∙ before.counts n)

  files_later : Before → KeepsFiles second → KeepsFiles whole
  files_later before kept = (kept.0 ∙ before.files.0, kept.1 ∙ before.files.1)

  kept_later : Before → IsKept second_report → IsKept whole_report
  kept_later before kept = (kept.0 ∙ before.report.0, kept.1 ∙ before.report.1)

  pub reports_later : Before → (status : Status) (line : List ℕ) (result : Status) → Reports status line second_report result → Reports status line whole_report result
  reports_later before status line result h = over_report (λ (r : Report). Reports status line r result) held held_mid held_new puts puts_mid puts_new before.report h

  pub untouched_later : Before → IsUntouched second second_report → IsUntouched whole whole_report
  untouched_later before after =
      record { counts = λ n. after.counts n ∙ before.counts n; files = files_later before after.files; report = kept_later before after.report }

  pub tells_later : (Gives Gives' : Answer → Type 0) → ((a : Answer) → Gives a → Gives' a) → Before → (result : Status) → Tells Gives second second_report result → Tells Gives' whole whole_report result
  tells_later Gives Gives' more before result (printed status line gives counts files reports) =
      printed status line (more (says status line) gives) (counts_later before status counts) (files_later before files) (reports_later before status line result reports)
  tells_later Gives Gives' more before result (unprinted counts files kept) =
      unprinted (λ n. counts n ∙ before.counts n) (files_later before files) (kept_later before kept)

  pub cuts_later : Before → (f : Flow) (result : Status) → Cuts second_report f result → Cuts whole_report f result
  cuts_later before f result h = over_report (λ (r : Report). Cuts r f result) held held_mid held_new puts puts_mid puts_new before.report h

  -- ---- what was made of bytes, where a file may be written

  -- what is written doesn't speak of reads
  written_later : (file : Option File) → HasWritten second file → HasWritten (shelved_of mid new reads_old reads_new writes_mid writes_new) file
  written_later None h = h
  written_later (Some file) h = h

  failed_later : (file : Option File) → HasFailed second file → HasFailed (shelved_of mid new reads_old reads_new writes_mid writes_new) file
  failed_later None h = h
  failed_later (Some file) h = h

  delivers_later : Before → (a : Answer) (result : Status) → Delivers a second second_report result → Delivers a whole whole_report result
  delivers_later before a result h =
      subst (λ (n : ℕ). Delivers a (shelved_of old new reads_old reads_new n writes_new) whole_report result) before.files.1
      (subst (λ (x : Option Files). Delivers a (shelved_of x new reads_old reads_new writes_mid writes_new) whole_report result) before.files.0
      (of_counts result (over_report (λ (r : Report). Delivers a second r result) held held_mid held_new puts puts_mid puts_new before.report h)))
    where
      of_counts : (result : Status) → Delivers a second whole_report result → Delivers a (shelved_of mid new reads_old reads_new writes_mid writes_new) whole_report result
      of_counts result (put written reports) = put (written_later a.file written) reports
      of_counts result (failed part kept) = failed (failed_later a.file part) kept
      of_counts result (starved files kept) = starved files kept

  pub run_later : (Gives Gives' : Option Run → Answer → Type 0) → ((ran : Option Run) (a : Answer) → Gives ran a → Gives' ran a)
      → Before → (given : Input) (f : Flow) (result : Status) → DidRun Gives given second second_report f result → DidRun Gives' given whole whole_report f result
  run_later Gives Gives' more before given f result (delivered ran a gives counts flows delivers) =
      delivered ran a (more ran a gives) (counts_later before a.status counts) flows (delivers_later before a result delivers)
  run_later Gives Gives' more before given f result (cut counts files h) = cut (λ n. counts n ∙ before.counts n) (files_later before files) (cuts_later before f result h)
  run_later Gives Gives' more before given f result (starved_run counts files kept) = starved_run (λ n. counts n ∙ before.counts n) (files_later before files) (kept_later before kept)

  module _ (asked : Inquiry) (before : Before) (f : Flow) where
    end_later : (run_over : Input → Run) (result : Status) → TellsEnd asked run_over second second_report f result → TellsEnd asked run_over whole whole_report f result
    end_later run_over result (end_printed given a tells done delivers) = end_printed given a tells done (delivers_later before a result delivers)
    end_later run_over result (end_cut given part flowed files cuts) = end_cut given part flowed (files_later before files) (cuts_later before f result cuts)
    end_later run_over result (end_unprinted given part files kept) = end_unprinted given part (files_later before files) (kept_later before kept)

    pub execution_later : (executed : Input → Execution) (result : Status) → TellsExecution asked executed second second_report f result → TellsExecution asked executed whole whole_report f result
    execution_later executed result (refused e line is answers still files reports) = refused e line is answers still (files_later before files) (reports_later before Refused line result reports)
    execution_later executed result (run_printed runs is tell) = run_printed runs is (end_later runs result tell)
    execution_later executed result (nothing_printed still files kept) = nothing_printed still (files_later before files) (kept_later before kept)

  -- the table of what is made is one of answers
  pub makes_later : (Gives : Answer → Type 0) (Does : Command) (bytes : List ℕ) → ((a : Answer) → Does bytes a → Gives a) → Before → SameCounts reads_mid reads_new
      → (result : Status) → Makes Does bytes second second_report result → Did Gives whole whole_report result
  makes_later Gives Does bytes more before same result (made a does delivers) = answered a (more a does) (inr (λ n. same n ∙ before.counts n)) (delivers_later before a result delivers)
  makes_later Gives Does bytes more before same result (made_none files kept) = ran_out (λ n. same n ∙ before.counts n) (files_later before files) (kept_later before kept)

-- ---- an answer without a file

pub did_without : (Gives Gives' : Answer → Type 0) → ((a : Answer) → Gives a → Gives' a) → (s : Shelved) (r : Report) (result : Status) → Tells Gives s r result → Did Gives' s r result
did_without Gives Gives' more s r result (printed status line gives counts files reports) = answered (says status line) (more (says status line) gives) counts (put files reports)
did_without Gives Gives' more s r result (unprinted counts files kept) = ran_out counts files kept
