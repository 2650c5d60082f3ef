-- What the program did in one piece, as its clauses say it.
use Rattle.std.proofs.Common.{◌≡◌, ◌∙◌, ◌<◌, ◌≤◌, ℕ, ◌⊎◌, inl, inr, List, false, refl, sym, ap, subst, arith, cond}
use Rattle.std.specs.Prelude.{MatchOption, Option, Some, None, IsSomeAnd}
use Rattle.std.specs.declared.cmp.Ordering.{Ordering}
use Rattle.std.specs.declared.cmp.Ordering.TheVariants.{Less, Equal, Greater}
use Rattle.std.specs.Cmp.Lexicographic.{nat_list_cmp_total}
use Rattle.std.specs.FinMap.{get, insert, get-insert, nat_cmp-IsAntisymmetric, slice_cmp-IsAntisymmetric}
use Rattle.std.specs.Ordering.{eq_by_cmp, is_eq}
use Rattle.ms_outside.specs.Files.{Files, name_cmp}
use Rattle.ms_outside.specs.Shelf.{SameCounts, Writes}
use Rattle.ms_outside.specs.declared.sink.Put.TheVariants as putting
use Rattle.ms_job.proofs.Bounded.{job_is_bounded}
use Rattle.ms_job.specs.declared.job.Job.{Job}
use Rattle.ms_command_line.specs.Asked.{Asked, Asm, Check, Compile, Dis, Exec, Judge, Run, Stress, asked_of, is_taken}
use Rattle.ms_command_line.specs.Commands as options
use Rattle.ms_command_line.specs.Commands.{usage_lines}
use Rattle.ms_machine.specs.Crews.{Input, Run as MachineRun}
use Rattle.ms_machine.specs.Running.{MayGive}
use Rattle.ms_run.specs.Answers.{Answer, Assembles, Checks, Disassembles, File, Found, Judges, OnFile, Unfound, Unloaded, Verdict, says}
use Rattle.ms_run.specs.Answers as table
use Rattle.ms_run.specs.Flows.{DidRun, Flowed, Flows, FlowsAs, IsQuiet, cut, delivered, input_failed, out_failed, quiet, ran, starved_run}
use Rattle.ms_run.specs.Jobs.{FirstUnloaded, HasJob, RunOfFile, RunOfJob, RunsFile, RunsJob, Unnumbered, Unscheduled, exec_job}
use Rattle.ms_run.specs.Jobs as jobs
use Rattle.ms_run.specs.Lines.{input_fault_line}
use Rattle.ms_run.specs.Loading.{Source, Text, form_of}
use Rattle.ms_run.specs.Observed.{Flow, Report, Shelved}
use Rattle.ms_run.specs.Reporting.{CountsReads, Delivers, Did, Grows, HasFailed, HasWritten, Holds, IsFound, IsKept, KeepsFiles, Reports, Tells, answered, failed, put, ran_out, starved, printed, unprinted}
use Rattle.ms_run.specs.SafeRuns.{IsEnd, RanSafely}
use Rattle.ms_run.specs.Stress.{stress_files, stress_job}
use Rattle.ms_run.specs.declared.gathering.Naming.TheVariants.{Numbered, Only}
use Rattle.ms_run.specs.declared.status.Status.{Status}
use Rattle.ms_run.specs.declared.status.Status.TheVariants as statuses
use Rattle.ms_run.proofs.Jobs.{flows_more}
use Rattle.ms_run.proofs.Safe.{run_is_accepted}
use Rattle.ms_run.proofs.Once.{IsOrdinary, RunsOne, assembles_once, assembles_ordinary, checks_known, checks_once, checks_ordinary, disassembles_once, disassembles_ordinary, file_known, file_once, file_ordinary, found_held, holds_one, judges_known, judges_once, judges_ordinary, runs_file_known, runs_file_once, runs_file_ordinary, runs_job_known, runs_job_once, runs_job_ordinary}
use Rattle.ms_run.proofs.Targets.{assembled_target, checks_target, disassembled_target, file_target, job_target, judges_target, unfound_target, wrote_none}
use Rattle.ms_tool.specs.Meaning.{KeepsRun}
use Rattle.ms_tool.specs.Outside.{Outside, flow_of, report_of, shelf_of}
use Rattle.ms_tool.specs.refinement.Responding.{Responded, Responds, gave, nothing, stopped}
use Rattle.ms_tool.specs.Top.{AsksJob, AsksRun, FlowsFor, Gives, GivesFor, IsAnswer, IsCutOff, IsFaulty, IsOutFault, IsPutFault, IsStarved, IsTarget, IsUnwritten, Keeps, Stays, files_for}
use Rattle.ms_tool.proofs.Isolation.{ran_alone}
use Rattle.ms_tool.proofs.Meaning.{ran_as_meant}

-- ---- the table, by what the words ask for

module _ (Has : List ℕ → Found → Type 0) (given : Input) where
  abbrev GivesTo : Option Asked → Option MachineRun → Answer → Type 0
  GivesTo o which a = MatchOption o ((which ≡ None) × (a ≡ says statuses.Usage usage_lines)) (λ asked. GivesFor Has given asked which a)

  module _ (one_found : (name : List ℕ) (a b : Found) → Has name a → Has name b → a ≡ b) where
    -- it gives one answer at most
    once : (o : Option Asked) → RunsOne (GivesTo o)
    once None p a p' a' h k = (h.0 ∙ sym k.0, h.1 ∙ sym k.1)
    once (Some (Exec name budget memory)) p a p' a' h k = runs_job_once Has one_found Only given (exec_job name budget memory) p a p' a' h k
    once (Some (Run name)) p a p' a' h k = runs_file_once Has one_found given name p a p' a' h k
    once (Some (Check name)) p a p' a' h k = (h.0 ∙ sym k.0, checks_once Has one_found name a a' h.1 k.1)
    once (Some (Asm name out)) p a p' a' h k = (h.0 ∙ sym k.0, file_once Has one_found name (Assembles Text out) (assembles_once Text out) a a' h.1 k.1)
    once (Some (Dis name out)) p a p' a' h k = (h.0 ∙ sym k.0, file_once Has one_found name (Disassembles out) (disassembles_once out) a a' h.1 k.1)
    once (Some (Compile name out)) p a p' a' h k = (h.0 ∙ sym k.0, file_once Has one_found name (Assembles Source out) (assembles_once Source out) a a' h.1 k.1)
    once (Some (Judge name memory)) p a p' a' h k = (h.0 ∙ sym k.0, judges_once Has one_found name memory a a' h.1 k.1)
    once (Some (Stress seed count)) p a p' a' h k =
        runs_job_once (Holds (Some (stress_files seed count))) (holds_one (stress_files seed count)) Only given stress_job p a p' a' h k

  ordinary : (asked : Asked) (which : Option MachineRun) (a : Answer) → GivesFor Has given asked which a → IsOrdinary a.status
  ordinary (Exec name budget memory) which a h = runs_job_ordinary Has Only given (exec_job name budget memory) which a h
  ordinary (Run name) which a h = runs_file_ordinary Has given name which a h
  ordinary (Check name) which a h = checks_ordinary Has name a h.1
  ordinary (Asm name out) which a h = file_ordinary Has name (Assembles Text out) (assembles_ordinary Text out) a h.1
  ordinary (Dis name out) which a h = file_ordinary Has name (Disassembles out) (disassembles_ordinary out) a h.1
  ordinary (Compile name out) which a h = file_ordinary Has name (Assembles Source out) (assembles_ordinary Source out) a h.1
  ordinary (Judge name memory) which a h = judges_ordinary Has name memory a h.1
  ordinary (Stress seed count) which a h = runs_job_ordinary (Holds (Some (stress_files seed count))) Only given stress_job which a h

-- what it gives for what was found it gives for known files, or a read fault
given_known : (Has Has' : List ℕ → Found → Type 0) (given : Input) → ((name bytes : List ℕ) → Has name (table.Contents bytes) → Has' name (table.Contents bytes))
    → (o : Option Asked) (which : Option MachineRun) (a : Answer) → GivesTo Has given o which a → (a.status ≡ statuses.ReadFault) ⊎ GivesTo Has' given o which a
given_known Has Has' given known None which a h = inr h
given_known Has Has' given known (Some (Exec name budget memory)) which a h = runs_job_known Has Has' known Only given (exec_job name budget memory) which a h
given_known Has Has' given known (Some (Run name)) which a h = runs_file_known Has Has' known given name which a h
given_known Has Has' given known (Some (Check name)) which a h =
    elim (checks_known Has Has' known name a h.1) [
      | inl e ↦ inl e
      | inr k ↦ inr (h.0, k)
    ]
given_known Has Has' given known (Some (Asm name out)) which a h =
    elim (file_known Has Has' known name (Assembles Text out) a h.1) [
      | inl e ↦ inl e
      | inr k ↦ inr (h.0, k)
    ]
given_known Has Has' given known (Some (Dis name out)) which a h =
    elim (file_known Has Has' known name (Disassembles out) a h.1) [
      | inl e ↦ inl e
      | inr k ↦ inr (h.0, k)
    ]
given_known Has Has' given known (Some (Compile name out)) which a h =
    elim (file_known Has Has' known name (Assembles Source out) a h.1) [
      | inl e ↦ inl e
      | inr k ↦ inr (h.0, k)
    ]
given_known Has Has' given known (Some (Judge name memory)) which a h =
    elim (judges_known Has Has' known name memory a h.1) [
      | inl e ↦ inl e
      | inr k ↦ inr (h.0, k)
    ]
given_known Has Has' given known (Some (Stress seed count)) which a h = inr h

-- ---- the words

asked_none : (words : List (List ℕ)) → is_taken words ≡ false → asked_of words ≡ None
asked_none words h = rw h refl

module _ (words : List (List ℕ)) (given : Input) (s : Shelved) (r : Report) (f : Flow) where
  usage_gave : (result : Status) → is_taken words ≡ false → SameCounts s.reads_old s.reads_new → KeepsFiles s → Reports statuses.Usage usage_lines r result → IsQuiet f → Responds words given s r f result
  usage_gave result h same kept reports still =
      gave None (says statuses.Usage usage_lines) (rw (asked_none words h) (refl, refl)) (inr same) still (put kept reports) (λ _. h) (λ _. refl)

  module _ (asked : Asked) (e : asked_of words ≡ Some asked) where
    one_gave : (result : Status) (which : Option MachineRun) (a : Answer) → GivesFor (IsFound s) given asked which a → CountsReads s a.status → FlowsAs given f which → Delivers a s r result → Responds words given s r f result
    one_gave result which a gives counts flows delivers =
        gave which a (rw e gives) counts flows delivers
        (λ u. absurd (subst IsOrdinary u (ordinary (IsFound s) given asked which a gives))) (λ h. absurd (let both = sym (asked_none words h) ∙ e in cc))

    did_gave : (Does : Answer → Type 0) → ((a : Answer) → Does a → GivesFor (IsFound s) given asked None a) → IsQuiet f → (result : Status) → Did Does s r result → Responds words given s r f result
    did_gave Does gives still result (answered a does counts delivers) = one_gave result None a (gives a does) counts still delivers
    did_gave Does gives still result (ran_out same files kept) = nothing same files kept

    tells_gave : (Does : Answer → Type 0) → ((a : Answer) → Does a → GivesFor (IsFound s) given asked None a) → IsQuiet f → (result : Status) → Tells Does s r result → Responds words given s r f result
    tells_gave Does gives still result (printed status line does counts files reports) = one_gave result None (says status line) (gives (says status line) does) counts still (put files reports)
    tells_gave Does gives still result (unprinted same files kept) = nothing same files kept

    -- a run, which may be cut short
    run_gave : (Does : Option MachineRun → Answer → Type 0) → ((which : Option MachineRun) (a : Answer) → Does which a → GivesFor (IsFound s) given asked which a)
        → AsksRun (Some asked) → (result : Status) → DidRun Does given s r f result → Responds words given s r f result
    run_gave Does gives asks result (delivered which a does counts flows delivers) = one_gave result which a (gives which a does) counts flows delivers
    run_gave Does gives asks result (cut same files c) = stopped (rw e asks) same files c
    run_gave Does gives asks result (starved_run same files kept) = nothing same files kept

-- ---- what is given

abbrev IsUnfaulty : Status → Type 0
IsUnfaulty statuses.WriteFault = ⊥
IsUnfaulty statuses.OutOfMemory = ⊥
IsUnfaulty _ = Unit {0}

of_ordinary : (s : Status) → IsOrdinary s → IsUnfaulty s
of_ordinary statuses.Done h = tt
of_ordinary statuses.Trapped h = tt
of_ordinary statuses.Usage h = tt
of_ordinary statuses.Refused h = tt
of_ordinary statuses.OutOfBudget h = tt
of_ordinary statuses.ReadFault h = tt
of_ordinary statuses.WriteFault h = absurd h
of_ordinary statuses.OutOfMemory h = absurd h
of_ordinary statuses.TooLong h = tt

unfaulty : (Has : List ℕ → Found → Type 0) (given : Input) (o : Option Asked) (which : Option MachineRun) (a : Answer) → GivesTo Has given o which a → IsUnfaulty a.status
unfaulty Has given None which a h = subst (λ (x : Answer). IsUnfaulty x.status) (sym h.1) tt
unfaulty Has given (Some asked) which a h = of_ordinary a.status (ordinary Has given asked which a h)

module _ (Has Holds_it : List ℕ → Found → Type 0) (known : (name bytes : List ℕ) → Has name (table.Contents bytes) → Holds_it name (table.Contents bytes)) where
  run_target : (given : Input) (name : List ℕ) (which : Option MachineRun) (file : File) (a : Answer) → RunsFile Has given name which a → a.file ≡ Some file → IsTarget Holds_it (Some (Run name)) file.name
  run_target given name which file a (jobs.no_job_file h) e = absurd (unfound_target Has name file a h e)
  run_target given name which file a (jobs.no_job bytes fault h not) e = absurd cc
  run_target given name which file a (jobs.job bytes job h is runs) e = (job, (bytes, (known name bytes h.0, h.1), is), job_target Has Numbered given job which file a runs e)

  target_given : (given : Input) (o : Option Asked) (which : Option MachineRun) (file : File) (a : Answer) → GivesTo Has given o which a → a.file ≡ Some file → IsTarget Holds_it o file.name
  target_given given None which file a h e = absurd (wrote_none a _ _ file h.1 e)
  target_given given (Some (Exec name budget memory)) which file a h e = absurd (let trace = job_target Has Only given (exec_job name budget memory) which file a h e in cc)
  target_given given (Some (Run name)) which file a h e = run_target given name which file a h e
  target_given given (Some (Check name)) which file a h e = absurd (checks_target Has name file a h.1 e)
  target_given given (Some (Asm name out)) which file a h e = file_target Has name out (Assembles Text out) file a (λ b x. assembled_target Text out b file x) h.1 e
  target_given given (Some (Dis name out)) which file a h e = file_target Has name out (Disassembles out) file a (λ b x. disassembled_target out b file x) h.1 e
  target_given given (Some (Compile name out)) which file a h e = file_target Has name out (Assembles Source out) file a (λ b x. assembled_target Source out b file x) h.1 e
  target_given given (Some (Judge name memory)) which file a h e = absurd (judges_target Has name memory file a h.1 e)
  target_given given (Some (Stress seed count)) which file a h e =
      absurd (let trace = job_target (Holds (Some (stress_files seed count))) Only given stress_job which file a h e in cc)

-- ---- names of files

is_equal : (r : Ordering) → (is_eq r ≡ false) ⊎ (r ≡ Equal)
is_equal Less = inl refl
is_equal Equal = inr refl
is_equal Greater = inl refl

other_name : (name target : List ℕ) → ¬ (name ≡ target) → eq_by_cmp name_cmp name target ≡ false
other_name name target not =
    elim (is_equal (name_cmp name target)) [
      | inl h ↦ h
      | inr e ↦ absurd (not (slice_cmp-IsAntisymmetric nat_cmp-IsAntisymmetric name target e))
    ]

-- ---- the clauses

less_than_itself : (a b : ℕ) → b ≡ a → a < b → ⊥
less_than_itself a b e h = omega arith

module _ (words : List (List ℕ)) (given : Input) (before after : Outside) where
  abbrev s : Shelved
  s = shelf_of before after

  abbrev r : Report
  r = report_of before after

  abbrev f : Flow
  f = flow_of before after

  answer_clause : (result : Status) → MayGive f.left_old given → Responds words given s r f result → FlowsFor s.old (asked_of words) given f result → IsPutFault result ⊎ IsAnswer words before after result
  answer_clause result may (gave which a gives counts flow (put written (inl h)) u v) flows =
      inr (given, a, may, inl (which, gives, flow), h.0, h.1, written, flows)
  answer_clause result may (gave which a gives counts flow (put written (inr (inl h))) u v) flows = inl (inl h.0)
  answer_clause result may (gave which a gives counts flow (put written (inr (inr h))) u v) flows = inl (inr h.0)
  answer_clause result may (gave which a gives counts flow (failed part kept) u v) flows = inl (inl refl)
  answer_clause result may (gave which a gives counts flow (starved files kept) u v) flows = inl (inr refl)
  answer_clause result may (stopped asks same files (input_failed rose (inl h))) flows =
      inr (given, says statuses.ReadFault input_fault_line, may, inr (asks, refl, rose), h.0, h.1, files, flows)
  answer_clause result may (stopped asks same files (input_failed rose (inr (inl h)))) flows = inl (inl h.0)
  answer_clause result may (stopped asks same files (input_failed rose (inr (inr h)))) flows = inl (inr h.0)
  answer_clause result may (stopped asks same files (out_failed rose kept)) flows = inl (inl refl)
  answer_clause result may (nothing same files kept) flows = inl (inr refl)

  usage_clause : (result : Status) → Responds words given s r f result → result ≡ statuses.Usage → is_taken words ≡ false
  usage_clause result (gave which a gives counts flow (put written (inl h)) u v) e = u (sym h.0 ∙ e)
  usage_clause result (gave which a gives counts flow (put written (inr (inl h))) u v) e = absurd (let both = sym h.0 ∙ e in cc)
  usage_clause result (gave which a gives counts flow (put written (inr (inr h))) u v) e = absurd (let both = sym h.0 ∙ e in cc)
  usage_clause result (gave which a gives counts flow (failed part kept) u v) e = absurd cc
  usage_clause result (gave which a gives counts flow (starved files kept) u v) e = absurd cc
  usage_clause result (stopped asks same files (input_failed rose (inl h))) e = absurd (let both = sym h.0 ∙ e in cc)
  usage_clause result (stopped asks same files (input_failed rose (inr (inl h)))) e = absurd (let both = sym h.0 ∙ e in cc)
  usage_clause result (stopped asks same files (input_failed rose (inr (inr h)))) e = absurd (let both = sym h.0 ∙ e in cc)
  usage_clause result (stopped asks same files (out_failed rose kept)) e = absurd cc
  usage_clause result (nothing same files kept) e = absurd cc

  refused_clause : (result : Status) → Responds words given s r f result → is_taken words ≡ false → (result ≡ statuses.Usage) ⊎ IsPutFault result
  refused_clause result (gave which a gives counts flow (put written (inl h)) u v) e = inl (h.0 ∙ v e)
  refused_clause result (gave which a gives counts flow (put written (inr (inl h))) u v) e = inr (inl h.0)
  refused_clause result (gave which a gives counts flow (put written (inr (inr h))) u v) e = inr (inr h.0)
  refused_clause result (gave which a gives counts flow (failed part kept) u v) e = inr (inl refl)
  refused_clause result (gave which a gives counts flow (starved files kept) u v) e = inr (inr refl)
  refused_clause result (stopped asks same files c) e = absurd (subst AsksRun (asked_none words e) asks)
  refused_clause result (nothing same files kept) e = inr (inr refl)

  write_fault_clause : (result : Status) → MayGive f.left_old given → Responds words given s r f result → result ≡ statuses.WriteFault → IsCutOff words before after ⊎ (IsUnwritten words before after ⊎ IsOutFault words before after)
  write_fault_clause result may (gave which a gives counts flow (put written (inl h)) u v) e =
      absurd (subst IsUnfaulty (sym h.0 ∙ e) (unfaulty (IsFound s) given (asked_of words) which a gives))
  write_fault_clause result may (gave which a gives counts flow (put written (inr (inl h))) u v) e =
      inl (given, a, h.1, may, inl (which, gives, flow), h.2, h.3, written, h.4.rose)
  write_fault_clause result may (gave which a gives counts flow (put written (inr (inr h))) u v) e = absurd (let both = sym h.0 ∙ e in cc)
  write_fault_clause result may (gave which a gives counts flow (failed part kept) u v) e = inr (inl (given, a, may, inl (which, gives, flow), part, kept.0))
  write_fault_clause result may (gave which a gives counts flow (starved files kept) u v) e = absurd cc
  write_fault_clause result may (stopped asks same files (input_failed rose (inl h))) e = absurd (let both = sym h.0 ∙ e in cc)
  write_fault_clause result may (stopped asks same files (input_failed rose (inr (inl h)))) e =
      inl (given, says statuses.ReadFault input_fault_line, h.1, may, inr (asks, refl, rose), h.2, h.3, files, h.4.rose)
  write_fault_clause result may (stopped asks same files (input_failed rose (inr (inr h)))) e = absurd (let both = sym h.0 ∙ e in cc)
  write_fault_clause result may (stopped asks same files (out_failed rose kept)) e = inr (inr (asks, rose, kept.0, files))
  write_fault_clause result may (nothing same files kept) e = absurd cc

  memory_clause : (result : Status) → MayGive f.left_old given → Responds words given s r f result → result ≡ statuses.OutOfMemory → IsStarved words before after
  memory_clause result may (gave which a gives counts flow (put written (inl h)) u v) e =
      absurd (subst IsUnfaulty (sym h.0 ∙ e) (unfaulty (IsFound s) given (asked_of words) which a gives))
  memory_clause result may (gave which a gives counts flow (put written (inr (inl h))) u v) e = absurd (let both = sym h.0 ∙ e in cc)
  memory_clause result may (gave which a gives counts flow (put written (inr (inr h))) u v) e = inr (given, a, h.1, may, inl (which, gives, flow), h.2, h.3, h.4, written)
  memory_clause result may (gave which a gives counts flow (failed part kept) u v) e = absurd cc
  memory_clause result may (gave which a gives counts flow (starved files kept) u v) e = inl (kept.0, files)
  memory_clause result may (stopped asks same files (input_failed rose (inl h))) e = absurd (let both = sym h.0 ∙ e in cc)
  memory_clause result may (stopped asks same files (input_failed rose (inr (inl h)))) e = absurd (let both = sym h.0 ∙ e in cc)
  memory_clause result may (stopped asks same files (input_failed rose (inr (inr h)))) e =
      inr (given, says statuses.ReadFault input_fault_line, h.1, may, inr (asks, refl, rose), h.2, h.3, h.4, files)
  memory_clause result may (stopped asks same files (out_failed rose kept)) e = absurd cc
  memory_clause result may (nothing same files kept) e = inl (kept.0, files)

  -- ---- an answer that is a read fault

  as_fault : (result : Status) (a : Answer) → a.status ≡ statuses.ReadFault → Delivers a s r result → IsFaulty result
  as_fault result a e (put written (inl h)) = inl (h.0 ∙ e)
  as_fault result a e (put written (inr (inl h))) = inr (inl h.0)
  as_fault result a e (put written (inr (inr h))) = inr (inr h.0)
  as_fault result a e (failed part kept) = inr (inl refl)
  as_fault result a e (starved files kept) = inr (inr refl)

  -- ---- what the table gives for known files

  module _ (known : Files) (ran' : Option MachineRun) (a' : Answer) where
    abbrev Completes : Status → Type 0
    Completes result = ((result ≡ a'.status) × Grows r a'.report × HasWritten s a'.file) ⊎ IsFaulty result

    as_given : (result : Status) → Delivers a' s r result → Completes result
    as_given result (put written (inl h)) = inl (h.0, h.1, written)
    as_given result (put written (inr (inl h))) = inr (inr (inl h.0))
    as_given result (put written (inr (inr h))) = inr (inr (inr h.0))
    as_given result (failed part kept) = inr (inr (inl refl))
    as_given result (starved files kept) = inr (inr (inr refl))

    of_known : (result : Status) (which : Option MachineRun) (a : Answer) → Delivers a s r result → Gives words (Holds (Some known)) given ran' a'
        → (a.status ≡ statuses.ReadFault) ⊎ GivesTo (Holds (Some known)) given (asked_of words) which a → Completes result
    of_known result which a delivers gives' (inl e) = inr (as_fault result a e delivers)
    of_known result which a delivers gives' (inr gives) =
        let same = once (Holds (Some known)) given (holds_one known) (asked_of words) which a ran' a' gives gives' in
        as_given result (subst (λ (x : Answer). Delivers x s r result) same.1 delivers)

    complete_clause : (result : Status) → Responds words given s r f result → s.old ≡ Some known → Gives words (Holds (Some known)) given ran' a' → Completes result
    complete_clause result (gave which a gives counts flow delivers u v) e gives' =
        of_known result which a delivers gives' (given_known (IsFound s) (Holds (Some known)) given (found_held s known e) (asked_of words) which a gives)
    complete_clause result (stopped asks same files (input_failed rose (inl h))) e gives' = inr (inl h.0)
    complete_clause result (stopped asks same files (input_failed rose (inr (inl h)))) e gives' = inr (inr (inl h.0))
    complete_clause result (stopped asks same files (input_failed rose (inr (inr h)))) e gives' = inr (inr (inr h.0))
    complete_clause result (stopped asks same files (out_failed rose kept)) e gives' = inr (inr (inl refl))
    complete_clause result (nothing same files kept) e gives' = inr (inr (inr refl))

  -- ---- counted faults

  reads_clause : (result : Status) → Responds words given s r f result → (name : List ℕ) → s.reads_old name < s.reads_new name → IsFaulty result
  reads_clause result (gave which a gives (inl e) flow delivers u v) name lt = as_fault result a e delivers
  reads_clause result (gave which a gives (inr same) flow delivers u v) name lt = absurd (less_than_itself (s.reads_old name) (s.reads_new name) (same name) lt)
  reads_clause result (stopped asks same files c) name lt = absurd (less_than_itself (s.reads_old name) (s.reads_new name) (same name) lt)
  reads_clause result (nothing same files kept) name lt = inr (inr refl)

  same_writes : (file : Option File) → HasWritten s file → s.writes_new ≡ s.writes_old
  same_writes None h = h.1
  same_writes (Some file) h = h.1

  writes_of : (result : Status) (a : Answer) → Delivers a s r result → s.writes_old < s.writes_new → IsPutFault result
  writes_of result a (put written h) lt = absurd (less_than_itself s.writes_old s.writes_new (same_writes a.file written) lt)
  writes_of result a (failed part kept) lt = inl refl
  writes_of result a (starved files kept) lt = inr refl

  writes_clause : (result : Status) → Responds words given s r f result → s.writes_old < s.writes_new → IsPutFault result
  writes_clause result (gave which a gives counts flow delivers u v) lt = writes_of result a delivers lt
  writes_clause result (stopped asks same files c) lt = absurd (less_than_itself s.writes_old s.writes_new files.1 lt)
  writes_clause result (nothing same files kept) lt = inr refl

  puts_of : (result : Status) (a : Answer) → Delivers a s r result → r.puts_old < r.puts_new → IsPutFault result
  puts_of result a (put written (inl h)) lt = absurd (less_than_itself r.puts_old r.puts_new h.2 lt)
  puts_of result a (put written (inr (inl h))) lt = inl h.0
  puts_of result a (put written (inr (inr h))) lt = inr h.0
  puts_of result a (failed part kept) lt = inl refl
  puts_of result a (starved files kept) lt = inr refl

  puts_clause : (result : Status) → Responds words given s r f result → r.puts_old < r.puts_new → IsPutFault result
  puts_clause result (gave which a gives counts flow delivers u v) lt = puts_of result a delivers lt
  puts_clause result (stopped asks same files (input_failed rose (inl h))) lt = absurd (less_than_itself r.puts_old r.puts_new h.2 lt)
  puts_clause result (stopped asks same files (input_failed rose (inr (inl h)))) lt = inl h.0
  puts_clause result (stopped asks same files (input_failed rose (inr (inr h)))) lt = inr h.0
  puts_clause result (stopped asks same files (out_failed rose kept)) lt = absurd (less_than_itself r.puts_old r.puts_new kept.1 lt)
  puts_clause result (nothing same files kept) lt = inr refl

  -- ---- the files that stay

  kept_stays : (name : List ℕ) (old new : Option Files) → new ≡ old → MatchOption old (new ≡ None) (λ known. IsSomeAnd new (λ after. get after name ≡ get known name))
  kept_stays name None new e = e
  kept_stays name (Some known) new e = subst (λ (x : Option Files). IsSomeAnd x (λ after. get after name ≡ get known name)) (sym e) refl

  inserted_stays : (name target bytes : List ℕ) (known : Files) (new : Option Files) → ¬ (name ≡ target) → new ≡ Some (insert known target bytes) → IsSomeAnd new (λ after. get after name ≡ get known name)
  inserted_stays name target bytes known new not e =
      subst (λ (x : Option Files). IsSomeAnd x (λ after. get after name ≡ get known name)) (sym e)
      (get-insert nat_list_cmp_total known target bytes name ∙ ap (λ b. cond b (Some bytes) (get known name)) (other_name name target not))

  written_stays : (name target bytes : List ℕ) (old new : Option Files) → ¬ (name ≡ target) → Writes target bytes putting.Done old new → MatchOption old (new ≡ None) (λ known. IsSomeAnd new (λ after. get after name ≡ get known name))
  written_stays name target bytes None new not h = h
  written_stays name target bytes (Some known) new not h = inserted_stays name target bytes known new not h

  cut_stays : (name target bytes : List ℕ) (old new : Option Files) → ¬ (name ≡ target) → Writes target bytes putting.Failed old new → MatchOption old (new ≡ None) (λ known. IsSomeAnd new (λ after. get after name ≡ get known name))
  cut_stays name target bytes None new not h = h
  cut_stays name target bytes (Some known) new not (inl h) = kept_stays name (Some known) new h
  cut_stays name target bytes (Some known) new not (inr h) = inserted_stays name target h.0 known new not h.2

  has_written_stays : (name : List ℕ) (file : Option File) → ((f : File) → file ≡ Some f → ¬ (name ≡ f.name)) → HasWritten s file → Stays s.old s.new name
  has_written_stays name None not h = kept_stays name s.old s.new h.0
  has_written_stays name (Some f) not h = written_stays name f.name f.bytes s.old s.new (not f refl) h.0

  has_failed_stays : (name : List ℕ) (file : Option File) → ((f : File) → file ≡ Some f → ¬ (name ≡ f.name)) → HasFailed s file → Stays s.old s.new name
  has_failed_stays name None not h = absurd h
  has_failed_stays name (Some f) not h = cut_stays name f.name f.bytes s.old s.new (not f refl) h.0

  not_target : (o : Option Asked) (name : List ℕ) (f : File) → ¬ IsTarget (Holds s.old) o name → IsTarget (Holds s.old) o f.name → ¬ (name ≡ f.name)
  not_target o name f not is e = not (subst (IsTarget (Holds s.old) o) (sym e) is)

  delivered_stays : (name : List ℕ) (result : Status) (a : Answer) → ((f : File) → a.file ≡ Some f → ¬ (name ≡ f.name)) → Delivers a s r result → Stays s.old s.new name
  delivered_stays name result a not (put written h) = has_written_stays name a.file not written
  delivered_stays name result a not (failed f kept) = has_failed_stays name a.file not f
  delivered_stays name result a not (starved files kept) = kept_stays name s.old s.new files.0

  files_clause : (result : Status) → Responds words given s r f result → (name : List ℕ) → ¬ IsTarget (Holds s.old) (asked_of words) name → Stays s.old s.new name
  files_clause result (gave which a gives counts flow delivers u v) name not =
      delivered_stays name result a (λ f e. not_target (asked_of words) name f not (target_given (IsFound s) (Holds s.old) (λ n b x. x) given (asked_of words) which f a gives e)) delivers
  files_clause result (stopped asks same files c) name not = kept_stays name s.old s.new files.0
  files_clause result (nothing same files kept) name not = kept_stays name s.old s.new files.0

-- ---- the input and the output

module _ (s : Shelved) (given : Input) (f : Flow) where
  -- what is left by what the words ask for
  flows_as : (words : List (List ℕ)) (o : Option Asked) (result : Status) → asked_of words ≡ o → FlowsFor s.old o given f result → FlowsFor s.old (asked_of words) given f result
  flows_as words o result e flows = subst (λ (x : Option Asked). FlowsFor s.old x given f result) (sym e) flows

  quiet_for : (o : Option Asked) → IsQuiet f → FlowsFor s.old o given f statuses.OutOfMemory
  quiet_for None still = still
  quiet_for (Some (Exec file budget memory)) still = quiet tt still
  quiet_for (Some (Run job)) still = quiet tt still
  quiet_for (Some (Check file)) still = still
  quiet_for (Some (Asm file out)) still = still
  quiet_for (Some (Dis file out)) still = still
  quiet_for (Some (Compile file out)) still = still
  quiet_for (Some (Judge file memory)) still = still
  quiet_for (Some (Stress seed count)) still = quiet tt still

  takes_still : (result : Status) → IsQuiet f → f.takes_old < f.takes_new → IsFaulty result
  takes_still result still lt = absurd (less_than_itself f.takes_old f.takes_new still.1 lt)

  takes_run : (IsRun : MachineRun → Type 0) (result : Status) → Flows given IsRun f result → f.takes_old < f.takes_new → IsFaulty result
  takes_run IsRun result (quiet unrun still) lt = takes_still result still lt
  takes_run IsRun result (ran run is flowed) lt = by result flowed where
    by : (x : Status) → Flowed given f run x → IsFaulty x
    by statuses.Done h = absurd (less_than_itself f.takes_old f.takes_new h.takes lt)
    by statuses.Trapped h = absurd (less_than_itself f.takes_old f.takes_new h.takes lt)
    by statuses.OutOfBudget h = absurd (less_than_itself f.takes_old f.takes_new h.takes lt)
    by statuses.ReadFault h = inl refl
    by statuses.WriteFault h = inr (inl refl)
    by statuses.OutOfMemory h = inr (inr refl)
    by statuses.Usage h = absurd h
    by statuses.Refused h = absurd h
    by statuses.TooLong h = absurd h

  takes_clause : (o : Option Asked) (result : Status) → FlowsFor s.old o given f result → f.takes_old < f.takes_new → IsFaulty result
  takes_clause None result still lt = takes_still result still lt
  takes_clause (Some (Exec file budget memory)) result flows lt = takes_run _ result flows lt
  takes_clause (Some (Run job)) result flows lt = takes_run _ result flows lt
  takes_clause (Some (Check file)) result still lt = takes_still result still lt
  takes_clause (Some (Asm file out)) result still lt = takes_still result still lt
  takes_clause (Some (Dis file out)) result still lt = takes_still result still lt
  takes_clause (Some (Compile file out)) result still lt = takes_still result still lt
  takes_clause (Some (Judge file memory)) result still lt = takes_still result still lt
  takes_clause (Some (Stress seed count)) result flows lt = takes_run _ result flows lt

  outs_still : (result : Status) → IsQuiet f → f.puts_old < f.puts_new → IsPutFault result
  outs_still result still lt = absurd (less_than_itself f.puts_old f.puts_new still.3 lt)

  outs_run : (IsRun : MachineRun → Type 0) (result : Status) → Flows given IsRun f result → f.puts_old < f.puts_new → IsPutFault result
  outs_run IsRun result (quiet unrun still) lt = outs_still result still lt
  outs_run IsRun result (ran run is flowed) lt = by result flowed where
    by : (x : Status) → Flowed given f run x → IsPutFault x
    by statuses.Done h = absurd (less_than_itself f.puts_old f.puts_new h.puts lt)
    by statuses.Trapped h = absurd (less_than_itself f.puts_old f.puts_new h.puts lt)
    by statuses.OutOfBudget h = absurd (less_than_itself f.puts_old f.puts_new h.puts lt)
    by statuses.ReadFault h = absurd (less_than_itself f.puts_old f.puts_new h.0 lt)
    by statuses.WriteFault h = inl refl
    by statuses.OutOfMemory h = inr refl
    by statuses.Usage h = absurd h
    by statuses.Refused h = absurd h
    by statuses.TooLong h = absurd h

  outs_clause : (o : Option Asked) (result : Status) → FlowsFor s.old o given f result → f.puts_old < f.puts_new → IsPutFault result
  outs_clause None result still lt = outs_still result still lt
  outs_clause (Some (Exec file budget memory)) result flows lt = outs_run _ result flows lt
  outs_clause (Some (Run job)) result flows lt = outs_run _ result flows lt
  outs_clause (Some (Check file)) result still lt = outs_still result still lt
  outs_clause (Some (Asm file out)) result still lt = outs_still result still lt
  outs_clause (Some (Dis file out)) result still lt = outs_still result still lt
  outs_clause (Some (Compile file out)) result still lt = outs_still result still lt
  outs_clause (Some (Judge file memory)) result still lt = outs_still result still lt
  outs_clause (Some (Stress seed count)) result flows lt = outs_run _ result flows lt

module _ (words : List (List ℕ)) (given : Input) (s : Shelved) (r : Report) (f : Flow) where
  takes_both : (result : Status) → Responds words given s r f result → FlowsFor s.old (asked_of words) given f result → f.takes_old < f.takes_new → IsFaulty result
  takes_both result responds flows lt = takes_clause s given f (asked_of words) result flows lt

  outs_both : (result : Status) → Responds words given s r f result → FlowsFor s.old (asked_of words) given f result → f.puts_old < f.puts_new → IsPutFault result
  outs_both result responds flows lt = outs_clause s given f (asked_of words) result flows lt

-- ---- what was answered, and what became of the input and the output

module _ (words : List (List ℕ)) (s : Shelved) (r : Report) (f : Flow) where
  abbrev Safely : Option Asked → Status → Type 0
  Safely o result = AsksRun o → IsEnd result → (job : Job) × AsksJob (Holds s.old) o job × RanSafely (files_for o s.old) s r f job result

  module _ (given : Input) (may : MayGive f.left_old given) where
    responded_as : (asked : Asked) (result : Status) → asked_of words ≡ Some asked → Responds words given s r f result → FlowsFor s.old (Some asked) given f result → Safely (Some asked) result → Responded words s r f result
    responded_as asked result e responds flows safely =
        (given, may, responds, flows_as s given f words (Some asked) result e flows, subst (λ (o : Option Asked). Safely o result) (sym e) safely)

    pub exec_responded : (file : List ℕ) (budget memory : ℕ) (result : Status) → memory ≤ options.memory.most → asked_of words ≡ Some (Exec file budget memory) → DidRun (RunsJob (IsFound s) Only given (exec_job file budget memory)) given s r f result
        → Flows given (RunOfJob (Holds s.old) given (exec_job file budget memory)) f result → (IsEnd result → RanSafely s.old s r f (exec_job file budget memory) result) → Responded words s r f result
    exec_responded file budget memory result small e done flows safe =
        let asked = Exec file budget memory in
        let job = exec_job file budget memory in
        responded_as asked result e (run_gave words given s r f asked e (RunsJob (IsFound s) Only given job) (λ which a gives. gives) tt result done)
        (flows_more given (RunOfJob (Holds s.old) given job) _ (λ run h. (h, run_is_accepted (Holds s.old) given job run small h)) f result flows)
        (λ asks end. (job, refl, safe end))

    pub run_responded : (name : List ℕ) (result : Status) → asked_of words ≡ Some (Run name) → DidRun (RunsFile (IsFound s) given name) given s r f result → Flows given (RunOfFile (Holds s.old) given name) f result
        → (IsEnd result → (job : Job) × HasJob (Holds s.old) name job × RanSafely s.old s r f job result) → Responded words s r f result
    run_responded name result e done flows safe =
        let asked = Run name in
        responded_as asked result e (run_gave words given s r f asked e (RunsFile (IsFound s) given name) (λ which a gives. gives) tt result done)
        (flows_more given (RunOfFile (Holds s.old) given name) _ (λ run h. (h, run_is_accepted (Holds s.old) given h.job run (job_is_bounded h.bytes h.job h.is_job).memory h.runs)) f result flows)
        (λ asks end. safe end)

    pub stress_responded : (seed count : ℕ) (result : Status) → asked_of words ≡ Some (Stress seed count) → DidRun (RunsJob (Holds (Some (stress_files seed count))) Only given stress_job) given s r f result
        → Flows given (RunOfJob (Holds (Some (stress_files seed count))) given stress_job) f result → (IsEnd result → RanSafely (Some (stress_files seed count)) s r f stress_job result) → Responded words s r f result
    stress_responded seed count result e done flows safe =
        let asked = Stress seed count in
        let Has = Holds (Some (stress_files seed count)) in
        responded_as asked result e (run_gave words given s r f asked e (RunsJob Has Only given stress_job) (λ which a gives. gives) tt result done)
        (flows_more given (RunOfJob Has given stress_job) _ (λ run h. (h, run_is_accepted Has given stress_job run (omega arith) h)) f result flows)
        (λ asks end. (stress_job, refl, safe end))

    pub check_responded : (file : List ℕ) (result : Status) → asked_of words ≡ Some (Check file) → Tells (Checks (IsFound s) file) s r result → IsQuiet f → Responded words s r f result
    check_responded file result e done still =
        let asked = Check file in
        responded_as asked result e (tells_gave words given s r f asked e (Checks (IsFound s) file) (λ a gives. (refl, gives)) still result done) still (λ asks end. absurd asks)

    pub asm_responded : (file out : List ℕ) (result : Status) → asked_of words ≡ Some (Asm file out) → Did (OnFile (IsFound s) file (Assembles Text out)) s r result → IsQuiet f → Responded words s r f result
    asm_responded file out result e did still =
        let asked = Asm file out in
        responded_as asked result e (did_gave words given s r f asked e (OnFile (IsFound s) file (Assembles Text out)) (λ a gives. (refl, gives)) still result did) still (λ asks end. absurd asks)

    pub dis_responded : (file out : List ℕ) (result : Status) → asked_of words ≡ Some (Dis file out) → Did (OnFile (IsFound s) file (Disassembles out)) s r result → IsQuiet f → Responded words s r f result
    dis_responded file out result e did still =
        let asked = Dis file out in
        responded_as asked result e (did_gave words given s r f asked e (OnFile (IsFound s) file (Disassembles out)) (λ a gives. (refl, gives)) still result did) still (λ asks end. absurd asks)

    pub compile_responded : (file out : List ℕ) (result : Status) → asked_of words ≡ Some (Compile file out) → Did (OnFile (IsFound s) file (Assembles Source out)) s r result → IsQuiet f → Responded words s r f result
    compile_responded file out result e did still =
        let asked = Compile file out in
        responded_as asked result e (did_gave words given s r f asked e (OnFile (IsFound s) file (Assembles Source out)) (λ a gives. (refl, gives)) still result did) still (λ asks end. absurd asks)

    pub judge_responded : (file : List ℕ) (memory : ℕ) (result : Status) → asked_of words ≡ Some (Judge file memory) → Tells (Judges (IsFound s) file memory) s r result → IsQuiet f → Responded words s r f result
    judge_responded file memory result e done still =
        let asked = Judge file memory in
        responded_as asked result e (tells_gave words given s r f asked e (Judges (IsFound s) file memory) (λ a gives. (refl, gives)) still result done) still (λ asks end. absurd asks)

    pub usage_responded : (result : Status) → is_taken words ≡ false → SameCounts s.reads_old s.reads_new → KeepsFiles s → Reports statuses.Usage usage_lines r result → IsQuiet f → Responded words s r f result
    usage_responded result refused same kept reports still =
        (given, may, usage_gave words given s r f result refused same kept reports still, flows_as s given f words None result (asked_none words refused) still, λ asks. absurd (subst AsksRun (asked_none words refused) asks))

    pub nothing_responded : SameCounts s.reads_old s.reads_new → KeepsFiles s → IsKept r → IsQuiet f → Responded words s r f statuses.OutOfMemory
    nothing_responded same files kept still = (given, may, nothing same files kept, quiet_for s given f (asked_of words) still, λ asks end. absurd end)

-- ---- a run

run_clause : (words : List (List ℕ)) (s : Shelved) (r : Report) (f : Flow) (status : Status)
    → ((job : Job) × AsksJob (Holds s.old) (asked_of words) job × RanSafely (files_for (asked_of words) s.old) s r f job status)
    → (job : Job) × AsksJob (Holds s.old) (asked_of words) job × KeepsRun (files_for (asked_of words) s.old) s r f job status
run_clause words s r f status h = (
  h.0,
  h.1,
  record {
    safe = h.2;
    means = λ name file program. ran_as_meant (files_for (asked_of words) s.old) s r f h.0 name file status program h.2;
    isolated = λ n undisturbed. ran_alone (Holds (files_for (asked_of words) s.old)) h.2.given h.0 n h.2.run h.2.of_job h.2.small undisturbed;
  },
)

-- ---- the contract

pub keeps : (words : List (List ℕ)) (before after : Outside) (status : Status)
    → Responded words (shelf_of before after) (report_of before after) (flow_of before after) status → Keeps words before after status
keeps words before after status h = let given = h.0 in record {
  answer = answer_clause words given before after status h.1 h.2 h.3;
  usage = usage_clause words given before after status h.2;
  refused = refused_clause words given before after status h.2;
  write_fault = write_fault_clause words given before after status h.1 h.2;
  memory = memory_clause words given before after status h.1 h.2;
  complete = λ known ran answer is gives. complete_clause words given before after known (ran given) answer status h.2 is (gives given h.1);
  run = λ asks end. run_clause words (shelf_of before after) (report_of before after) (flow_of before after) status (h.4 asks end);
  reads = λ name lt. reads_clause words given before after status h.2 name lt;
  writes = λ lt. writes_clause words given before after status h.2 lt;
  puts = λ lt. puts_clause words given before after status h.2 lt;
  takes = λ lt. takes_both words given (shelf_of before after) (report_of before after) (flow_of before after) status h.2 h.3 lt;
  outs = λ lt. outs_both words given (shelf_of before after) (report_of before after) (flow_of before after) status h.2 h.3 lt;
  files = λ name not. files_clause words given before after status h.2 name not;
  flows = (given, h.1, h.3);
}
