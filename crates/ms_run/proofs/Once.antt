-- The tables of answers give one answer at most, and none of usage, of a fault of writing, or of want of memory.
use Rattle.std.proofs.Common.{◌≡◌, ◌∙◌, ◌<◌, ℕ, suc, ◌⊎◌, inl, inr, List, [], ◌∷◌, length, refl, sym, ap, subst, arith}
use Rattle.std.specs.Prelude.{◌++◌, Option, Some, Result, Ok, Err, All, slice_get, take}
use Rattle.std.proofs.lemmas.List.Elements.{All-get_or}
use Rattle.std.proofs.lemmas.Bool.{cases_lt}
use Rattle.std.proofs.lemmas.Option.{slice_get_cases}
use Rattle.ms_bin_grammar.specs.declared.fault.ReadFault.{ReadFault as ReadingFault}
use Rattle.ms_bin_grammar.specs.Bounds.{usual}
use Rattle.ms_bin_grammar.specs.Module.{Stops as BinaryStops, module_format}
use Rattle.ms_bin_grammar.proofs.Spelling.{one_module as one_binary}
use Rattle.ms_bin_write.specs.Written.{IsLarge, written}
use Rattle.ms_text_read.proofs.Texts.{no_reason, reasons_alike}
use Rattle.ms_text_write.specs.Shown.{shown}
use Rattle.ms_job.specs.Jobs.{job_in}
use Rattle.ms_job.specs.Schedules.{schedule_in}
use Rattle.ms_job.specs.declared.fault.JobFault.{JobFault}
use Rattle.ms_job.specs.declared.fault.SchedFault.TheVariants.{At}
use Rattle.ms_job.specs.declared.job.Job.{Job}
use Rattle.ms_event.specs.declared.event.Event.{Event}
use Rattle.ms_event.specs.Monitor.{Accepts}
use Rattle.ms_machine.specs.Crews.{End, Input, OutOfBudget, Results, Run, Stuck, Trap}
use Rattle.ms_module.specs.declared.module.Module.{Module}
use Rattle.ms_monitor.proofs.Judged.{accepted_or_rejected, one_rejected}
use Rattle.ms_monitor.proofs.Unique.{one_trace, one_malformed, trace_or_none}
use Rattle.ms_monitor.specs.Traces.{IsTrace, RejectsAt}
use Rattle.ms_outside.specs.Files.{Files}
use Rattle.ms_outside.specs.Shelf.{IfKnown}
use Rattle.ms_rules.specs.Context.{context_of}
use Rattle.ms_rules.specs.Modules.{FuncTyped, IsFirstUntyped, WellTyped}
use Rattle.ms_valid.specs.Refusals.{IsWrong}
use Rattle.ms_valid.specs.declared.refusal.Part.{Part}
use Rattle.ms_valid.specs.declared.refusal.Part.TheVariants as parts
use Rattle.ms_run.specs.Answers.{Answer, Assembles, Checks, Command, Contents, Disassembles, Fault, File, Found, HasBytes, HasModule, Judges, OnFile, Unfound, Unloaded, Verdict, accepted, assembled, checked, disassembled, invalid, judged, large, no_event, no_file, on_file, overlong, rejected, says, unchecked, unfound, unjudged, unread, unread_binary, unread_form, unreadable, writes}
use Rattle.ms_run.specs.Executions.{AnswersAs, EndsAs, Execution, NoTask, Ran, TellsOf, Unlinked, execution}
use Rattle.ms_run.specs.Jobs.{AllLoaded, FirstUnloaded, HasEntries, HasNumbers, RunsFile, RunsJob, Unnumbered, Unscheduled, executed, here, in_turns, later, listed, no_job, no_job_file, no_more, no_number, one_more, unlisted, unloaded, unscheduled, what_of}
use Rattle.ms_run.specs.Jobs as jobs
use Rattle.ms_run.specs.Lines.{accepted_line, fault_words, job_line, part_words, refused_line, rejected_line, schedule_line, source_fault_words, text_fault_words, trace_line}
use Rattle.ms_run.specs.Loading.{Binary, Form, Source, Spells, Text, Unread, binary, form_of, source, text}
use Rattle.ms_run.specs.Observed.{Shelved}
use Rattle.ms_run.specs.Reporting.{Holds, IsFound}
use Rattle.ms_run.specs.Telling.{Inquiry, inquiry_of, counted, dumped}
use Rattle.ms_run.specs.declared.gathering.Naming.{Naming}
use Rattle.ms_run.specs.declared.gathering.Naming.TheVariants.{Numbered}
use Rattle.ms_run.specs.declared.status.Status.{Status}
use Rattle.ms_run.specs.declared.status.Status.TheVariants as statuses
use Rattle.ms_text_grammar.proofs.Files.{one_module as one_text}
use Rattle.ms_run.proofs.Units as units
use Rattle.ms_run.proofs.Units.{one_reason}
use Rattle.ms_tasks.specs.Alone.{by_only}
use Rattle.ms_run.proofs.Stood.{one_left}
use Rattle.ms_run.proofs.Refusals.{OfRefusals, of_first, of_unfound, of_unloaded, of_unscheduled}

-- ---- bytes that spell no module

one_fault : (bytes : List ℕ) (a b : ReadingFault) → BinaryStops bytes a → BinaryStops bytes b → a ≡ b
one_fault bytes a b h k = let both = sym h ∙ k in cc

one_wording : (bytes : List ℕ) (form : Form) (a b : List ℕ) → Unread bytes form a → Unread bytes form b → a ≡ b
one_wording bytes Binary a b (binary f h) (binary g k) = ap fault_words (one_fault bytes f g h k)
one_wording bytes Text a b (text f h) (text g k) = ap text_fault_words (reasons_alike bytes f g h k)
one_wording bytes Source a b (source f h) (source g k) = ap source_fault_words (one_reason bytes f g h k)

pub never_both : (bytes : List ℕ) (form : Form) (words : List ℕ) (m : Module) → Unread bytes form words → Spells form bytes m → ⊥
never_both bytes Binary words m (binary f h) k = let both = sym ((module_format usual).again (length bytes) bytes m [] k) ∙ h in cc
never_both bytes Text words m (text f h) k = no_reason bytes m f k h
never_both bytes Source words m (source f h) k = units.never_both bytes f m h k

pub one_module : (form : Form) (bytes : List ℕ) (m n : Module) → Spells form bytes m → Spells form bytes n → m ≡ n
one_module Binary bytes m n h k = one_binary usual bytes m n h k
one_module Text bytes m n h k = one_text bytes m n h k
one_module Source bytes m n h k = units.one_module bytes m n h k

-- ---- the wrong part of a module

some_is : {A : Type 0} (x y : A) → ◌≡◌ {A = Option A} (Some x) (Some y) → x ≡ y
some_is x y e = cc

got : {A : Type 0} (P : A → Type 0) (xs : List A) (i : ℕ) (x : A) → slice_get xs i ≡ Some x → All P xs → P x
got P xs i x e all =
    elim (slice_get_cases xs i).1 [
      | inl h ↦ let same : h.0 ≡ x = some_is h.0 x (sym h.2 ∙ e) in subst P (h.3 ∙ same) (All-get_or P xs i h.0 h.1 all)
      | inr h ↦ absurd (let n = h.1 in cc)
    ]

not_less : (m : Module) (a b : ℕ) (x : IsFirstUntyped m a) (y : IsFirstUntyped m b) → x.number < y.number → ⊥
not_less m a b x y lt = x.untyped (y.least x.number x.func lt x.func_is)

one_first : (m : Module) (a b : ℕ) → IsFirstUntyped m a → IsFirstUntyped m b → a ≡ b
one_first m a b x y =
    elim (cases_lt x.number y.number) [
      | inl lt ↦ absurd (not_less m a b x y lt)
      | inr le ↦ elim (cases_lt y.number x.number) [
        | inl lt ↦ absurd (not_less m b a y x lt)
        | inr other ↦ let e = x.index_is in let f = y.index_is in omega arith
      ]
    ]

one_part : (m : Module) (a b : Part) → IsWrong m a → IsWrong m b → a ≡ b
one_part m parts.Head parts.Head h k = refl
one_part m parts.Head (parts.Function n) h k = absurd (h k.0)
one_part m (parts.Function n) parts.Head h k = absurd (k h.0)
one_part m (parts.Function n) (parts.Function o) h k = ap parts.Function (one_first m n o h.1 k.1)

pub never_wrong : (m : Module) (part : Part) → WellTyped m → IsWrong m part → ⊥
never_wrong m parts.Head well wrong = wrong well.head
never_wrong m (parts.Function n) well wrong =
    let first = wrong.1 in
    first.untyped (got (FuncTyped (context_of m)) m.funcs first.number first.func first.func_is well.funcs)

-- ---- one answer

-- a table gives one answer at most
abbrev pub GivesOne : (Answer → Type 0) → Type 0
GivesOne Gives = (a a' : Answer) → Gives a → Gives a' → a ≡ a'

-- and tells of one run at most
abbrev pub RunsOne : (Option Run → Answer → Type 0) → Type 0
RunsOne Gives = (p : Option Run) (a : Answer) (p' : Option Run) (a' : Answer) → Gives p a → Gives p' a' → (p ≡ p') × (a ≡ a')

abbrev answer_of : Status → (report : List ℕ) → Option File → Answer
answer_of status report file = record { status = status; report = report; file = file }

same_answer : (a a' : Answer) → a.status ≡ a'.status → a.report ≡ a'.report → a.file ≡ a'.file → a ≡ a'
same_answer a a' same_status same_report same_file =
    ap (λ (s : Status). answer_of s a.report a.file) same_status
    ∙ (ap (λ (r : List ℕ). answer_of a'.status r a.file) same_report ∙ ap (answer_of a'.status a'.report) same_file)

-- ---- what is made of a module

pub assembles_once : (form : Form) (out bytes : List ℕ) → GivesOne (Assembles form out bytes)
assembles_once form out bytes a a' (unread_form {words = v} h) (unread_form {words = w} k) = ap (λ (x : List ℕ). says statuses.Refused (refused_line [] x)) (one_wording bytes form v w h k)
assembles_once form out bytes a a' (unread_form {words = v} h) (large m k is) = absurd (never_both bytes form v m h k)
assembles_once form out bytes a a' (unread_form {words = v} h) (assembled m k not) = absurd (never_both bytes form v m h k)
assembles_once form out bytes a a' (large m h is) (unread_form {words = w} k) = absurd (never_both bytes form w m k h)
assembles_once form out bytes a a' (large m h is) (large n k is') = refl
assembles_once form out bytes a a' (large m h is) (assembled n k not) = absurd (not (subst IsLarge (one_module form bytes m n h k) is))
assembles_once form out bytes a a' (assembled m h not) (unread_form {words = w} k) = absurd (never_both bytes form w m k h)
assembles_once form out bytes a a' (assembled m h not) (large n k is) = absurd (not (subst IsLarge (one_module form bytes n m k h) is))
assembles_once form out bytes a a' (assembled m h not) (assembled n k not') = ap (λ (x : Module). writes out (written x)) (one_module form bytes m n h k)

pub disassembles_once : (out bytes : List ℕ) → GivesOne (Disassembles out bytes)
disassembles_once out bytes a a' (unread_binary {words = v} h) (unread_binary {words = w} k) = ap (λ (x : List ℕ). says statuses.Refused (refused_line [] x)) (one_wording bytes Binary v w h k)
disassembles_once out bytes a a' (unread_binary {words = v} h) (disassembled m k) = absurd (never_both bytes Binary v m h k)
disassembles_once out bytes a a' (disassembled m h) (unread_binary {words = w} k) = absurd (never_both bytes Binary w m k h)
disassembles_once out bytes a a' (disassembled m h) (disassembled n k) = ap (λ (x : Module). writes out (shown x)) (one_binary usual bytes m n h k)

-- ---- what an execution answers

ends_once : (end : End) (s : Status) (t : List ℕ) (s' : Status) (t' : List ℕ) → EndsAs end s t → EndsAs end s' t' → (s ≡ s') × (t ≡ t')
ends_once (Results values) s t s' t' h k = (h.0 ∙ sym k.0, h.1 ∙ sym k.1)
ends_once (Trap whose trap) s t s' t' h k = (h.0 ∙ sym k.0, h.1 ∙ sym k.1)
ends_once OutOfBudget s t s' t' h k = (h.0 ∙ sym k.0, h.1 ∙ sym k.1)
ends_once Stuck s t s' t' h k = absurd h

tells_once : (asked : Inquiry) (run : Run) → GivesOne (TellsOf asked run)
tells_once asked run a a' h k =
    let telling = asked.telling in
    let same = ends_once run.end a.status h.0 a'.status k.0 h.2 k.2 in
    let left = one_left asked run h.1 k.1 h.3 k.3 in
    let whole : List ℕ → List ℕ → List ℕ = λ x y. counted telling run.deeds ++ (x ++ (dumped telling run.crew.store.segments ++ y)) in
    same_answer a a' same.0 (h.4 ∙ (ap (λ (x : List ℕ). whole x h.1) same.1 ∙ (ap (whole k.0) left ∙ sym k.4))) (h.5 ∙ sym k.5)

pub execution_once : (asked : Inquiry) (e : Execution) → RunsOne (AnswersAs asked e)
execution_once asked (Unlinked fault) p a p' a' h k = (h.0 ∙ sym k.0, h.1 ∙ sym k.1)
execution_once asked (NoTask number) p a p' a' h k = (h.0 ∙ sym k.0, h.1 ∙ sym k.1)
execution_once asked (Ran run) p a p' a' h k = (h.0 ∙ sym k.0, tells_once asked run a a' h.1 k.1)

-- ---- the verdict on a trace

module _ (capacity : ℕ) (bytes : List ℕ) where
  of_trace : (P : List Event → Type 0) (es fs : List Event) → IsTrace bytes es → IsTrace bytes fs → P es → P fs
  of_trace P es fs h k p = subst P (one_trace bytes es fs h k) p

  verdict_once : GivesOne (Verdict capacity bytes)
  verdict_once a a' (no_event m h) (no_event n k) = ap (λ (n : ℕ). says statuses.Refused (trace_line n)) (one_malformed bytes m n h k)
  verdict_once a a' (no_event m h) (rejected es n k bad) = absurd (trace_or_none bytes es m k h)
  verdict_once a a' (no_event m h) (accepted es k good) = absurd (trace_or_none bytes es m k h)
  verdict_once a a' (rejected es n h bad) (no_event m k) = absurd (trace_or_none bytes es m h k)
  verdict_once a a' (rejected es m h bad) (rejected fs n k bad') = ap (λ (n : ℕ). says statuses.Trapped (rejected_line n)) (one_rejected capacity fs m n (of_trace (λ x. RejectsAt capacity x m) es fs h k bad) bad')
  verdict_once a a' (rejected es m h bad) (accepted fs k good) = absurd (accepted_or_rejected capacity fs m good (of_trace (λ x. RejectsAt capacity x m) es fs h k bad))
  verdict_once a a' (accepted es h good) (no_event m k) = absurd (trace_or_none bytes es m h k)
  verdict_once a a' (accepted es h good) (rejected fs n k bad) = absurd (accepted_or_rejected capacity fs n (of_trace (λ x. Accepts capacity x) es fs h k good) bad)
  verdict_once a a' (accepted es h good) (accepted fs k good') = ap (λ (x : List Event). says statuses.Done (accepted_line (length x))) (one_trace bytes es fs h k)

-- ---- numbers, of bytes

same_ok : {A B : Type 0} (a b : A) → ◌≡◌ {A = Result A B} (Ok a) (Ok b) → a ≡ b
same_ok a b e = cc

same_err : {A B : Type 0} (a b : B) → ◌≡◌ {A = Result A B} (Err a) (Err b) → a ≡ b
same_err a b e = cc

never_ok : {A B : Type 0} (a : A) (b : B) → ◌≡◌ {A = Result A B} (Ok a) (Err b) → ⊥
never_ok a b e = cc

same_place : (a b : ℕ) → At a ≡ At b → a ≡ b
same_place a b e = cc

-- ---- files of which one thing is found at most

module _ (Has : List ℕ → Found → Type 0) (one_found : (name : List ℕ) (a b : Found) → Has name a → Has name b → a ≡ b) where
  one_content : (name a b : List ℕ) → Has name (Contents a) → Has name (Contents b) → a ≡ b
  one_content name a b h k = let e = one_found name (Contents a) (Contents b) h k in cc

  never_fault : (name bytes : List ℕ) → Has name Fault → Has name (Contents bytes) → ⊥
  never_fault name bytes h k = let e = one_found name Fault (Contents bytes) h k in cc

  -- what holds of the bytes holds of the same ones
  of_bytes : (P : List ℕ → Type 0) (name a b : List ℕ) → HasBytes Has name a → HasBytes Has name b → P a → P b
  of_bytes P name a b h k p = subst P (one_content name a b h.0 k.0) p

  pub unfound_once : (name : List ℕ) → GivesOne (Unfound Has name)
  unfound_once name a a' (unreadable h) (unreadable k) = refl
  unfound_once name a a' (unreadable h) (overlong bytes k long) = absurd (never_fault name bytes h k)
  unfound_once name a a' (overlong bytes h long) (unreadable k) = absurd (never_fault name bytes k h)
  unfound_once name a a' (overlong bytes h long) (overlong other k long') = refl

  never_unfound : (name bytes : List ℕ) (a : Answer) → HasBytes Has name bytes → Unfound Has name a → ⊥
  never_unfound name bytes a h (unreadable k) = never_fault name bytes k h.0
  never_unfound name bytes a h (overlong b k long) = let within = h.1 in let same = ap length (one_content name bytes b h.0 k) in omega arith

  -- ---- modules

  pub module_once : (name : List ℕ) (m n : Module) → HasModule Has name m → HasModule Has name n → m ≡ n
  module_once name m n h k = one_module (form_of name) k.bytes m n (of_bytes (λ bytes. Spells (form_of name) bytes m) name h.bytes k.bytes h.found k.found h.spelled) k.spelled

  never_loaded : (what name : List ℕ) (m : Module) (a : Answer) → HasModule Has name m → Unloaded Has what name a → ⊥
  never_loaded what name m a h (unfound k) = never_unfound name h.bytes a h.found k
  never_loaded what name m a h (unread {words = words} bytes k not) =
      never_both bytes (form_of name) words m not (of_bytes (λ b. Spells (form_of name) b m) name h.bytes bytes h.found k h.spelled)
  never_loaded what name m a h (invalid bytes n part k spelled wrong) =
      let same = one_module (form_of name) bytes m n (of_bytes (λ b. Spells (form_of name) b m) name h.bytes bytes h.found k h.spelled) spelled in
      never_wrong n part (subst WellTyped same h.typed) wrong

  pub unloaded_once : (what name : List ℕ) → GivesOne (Unloaded Has what name)
  unloaded_once what name a a' (unfound h) (unfound k) = unfound_once name a a' h k
  unloaded_once what name a a' (unfound h) (unread bytes k not) = absurd (never_unfound name bytes a k h)
  unloaded_once what name a a' (unfound h) (invalid bytes m part k spelled wrong) = absurd (never_unfound name bytes a k h)
  unloaded_once what name a a' (unread bytes h not) (unfound k) = absurd (never_unfound name bytes a' h k)
  unloaded_once what name a a' (unread {words = v} bytes h not) (unread {words = w} other k not') =
      ap (λ (x : List ℕ). says statuses.Refused (refused_line what x)) (one_wording other (form_of name) v w (of_bytes (λ x. Unread x (form_of name) v) name bytes other h k not) not')
  unloaded_once what name a a' (unread {words = v} bytes h not) (invalid other m part k spelled wrong) =
      absurd (never_both other (form_of name) v m (of_bytes (λ x. Unread x (form_of name) v) name bytes other h k not) spelled)
  unloaded_once what name a a' (invalid bytes m part h spelled wrong) (unfound k) = absurd (never_unfound name bytes a' h k)
  unloaded_once what name a a' (invalid bytes m part h spelled wrong) (unread {words = w} other k not) =
      absurd (never_both other (form_of name) w m not (of_bytes (λ x. Spells (form_of name) x m) name bytes other h k spelled))
  unloaded_once what name a a' (invalid bytes m p h spelled wrong) (invalid other n q k spelled' wrong') =
      let same = one_module (form_of name) other m n (of_bytes (λ x. Spells (form_of name) x m) name bytes other h k spelled) spelled' in
      ap (λ (part : Part). says statuses.Refused (refused_line what (part_words part))) (one_part n p q (subst (λ (x : Module). IsWrong x p) same wrong) wrong')

  pub checks_once : (name : List ℕ) → GivesOne (Checks Has name)
  checks_once name a a' (unchecked h) (unchecked k) = unloaded_once [] name a a' h k
  checks_once name a a' (unchecked h) (checked m k) = absurd (never_loaded [] name m a k h)
  checks_once name a a' (checked m h) (unchecked k) = absurd (never_loaded [] name m a' h k)
  checks_once name a a' (checked m h) (checked n k) = refl

  pub file_once : (name : List ℕ) (Does : Command) → ((bytes : List ℕ) → GivesOne (Does bytes)) → GivesOne (OnFile Has name Does)
  file_once name Does once a a' (no_file h) (no_file k) = unfound_once name a a' h k
  file_once name Does once a a' (no_file h) (on_file bytes k does) = absurd (never_unfound name bytes a k h)
  file_once name Does once a a' (on_file bytes h does) (no_file k) = absurd (never_unfound name bytes a' h k)
  file_once name Does once a a' (on_file bytes h does) (on_file other k does') =
      once other a a' (of_bytes (λ x. Does x a) name bytes other h k does) does'

  -- ---- the modules of a job

  pub all_once : (files : List (List ℕ × List ℕ)) (ms ns : List (List ℕ × Module)) → AllLoaded Has files ms → AllLoaded Has files ns → ms ≡ ns
  all_once files ms ns no_more no_more = refl
  all_once files ms ns (one_more name file m {files = fs} {modules = more} h all) (one_more name' file' n {modules = more'} k all') =
      let same : m ≡ n = module_once file m n h k in
      ap (λ (x : Module). (name, x) ∷ more) same ∙ ap (λ (xs : List (List ℕ × Module)). (name, n) ∷ xs) (all_once fs more more' all all')

  pub first_once : (naming : Naming) (number : ℕ) (files : List (List ℕ × List ℕ)) → GivesOne (FirstUnloaded Has naming number files)
  first_once naming number files a a' (here n name file fs h) (here n' name' file' fs' k) = unloaded_once (what_of naming n) file a a' h k
  first_once naming number files a a' (here n name file fs h) (later n' name' file' m fs' k first) = absurd (never_loaded (what_of naming n) file m a k h)
  first_once naming number files a a' (later n name file m fs h first) (here n' name' file' fs' k) = absurd (never_loaded (what_of naming n) file m a' h k)
  first_once naming number files a a' (later n name file m fs h first) (later n' name' file' m' fs' k first') = first_once naming (suc n) fs a a' first first'

  never_all : (naming : Naming) (number : ℕ) (files : List (List ℕ × List ℕ)) (ms : List (List ℕ × Module)) (a : Answer) → AllLoaded Has files ms → FirstUnloaded Has naming number files a → ⊥
  never_all naming number files ms a no_more first = elim first [ ]
  never_all naming number files ms a (one_more name file m {files = fs} {modules = more} h all) (here n name' file' fs' k) = never_loaded (what_of naming n) file m a h k
  never_all naming number files ms a (one_more name file m {files = fs} {modules = more} h all) (later n name' file' m' fs' k first) = never_all naming (suc n) fs more a all first

  -- ---- schedules

  pub numbers_once : (name a b : List ℕ) → HasNumbers Has name a → HasNumbers Has name b → a ≡ b
  numbers_once name a b h k = same_ok a b (sym (of_bytes (λ x. schedule_in x ≡ Ok a) name h.bytes k.bytes h.found k.found h.read) ∙ k.read)

  pub unnumbered_once : (name : List ℕ) → GivesOne (Unnumbered Has name)
  unnumbered_once name a a' (jobs.no_file h) (jobs.no_file k) = unfound_once name a a' h k
  unnumbered_once name a a' (jobs.no_file h) (no_number bytes at k not) = absurd (never_unfound name bytes a k h)
  unnumbered_once name a a' (no_number bytes at h not) (jobs.no_file k) = absurd (never_unfound name bytes a' h k)
  unnumbered_once name a a' (no_number bytes i h not) (no_number other j k not') =
      ap (λ (n : ℕ). says statuses.Refused (schedule_line n)) (same_place i j (same_err (At i) (At j) (sym (of_bytes (λ x. schedule_in x ≡ Err (At i)) name bytes other h k not) ∙ not')))

  never_numbered : (name numbers : List ℕ) (a : Answer) → HasNumbers Has name numbers → Unnumbered Has name a → ⊥
  never_numbered name numbers a h (jobs.no_file k) = never_unfound name h.bytes a h.found k
  never_numbered name numbers a h (no_number bytes at k not) =
      never_ok numbers (At at) (sym (of_bytes (λ x. schedule_in x ≡ Ok numbers) name h.bytes bytes h.found k h.read) ∙ not)

  pub entries_once : (job : Job) (a b : List ℕ) → HasEntries Has job a → HasEntries Has job b → a ≡ b
  entries_once job a b (in_turns e) (in_turns f) = refl
  entries_once job a b (in_turns e) (listed name numbers f k) = absurd (let both = sym e ∙ f in cc)
  entries_once job a b (listed name numbers e h) (in_turns f) = absurd (let both = sym e ∙ f in cc)
  entries_once job a b (listed name numbers e h) (listed other numbers' f k) =
      let same : name ≡ other = some_is name other (sym e ∙ f) in
      ap (λ (ks : List ℕ). by_only job.only (length job.tasks) (take job.budget ks)) (numbers_once other numbers numbers' (subst (λ x. HasNumbers Has x numbers) same h) k)

  pub unscheduled_once : (job : Job) → GivesOne (Unscheduled Has job)
  unscheduled_once job a a' (unlisted name e h) (unlisted other f k) =
      let same : name ≡ other = some_is name other (sym e ∙ f) in
      unnumbered_once other a a' (subst (λ x. Unnumbered Has x a) same h) k

  never_scheduled : (job : Job) (entries : List ℕ) (a : Answer) → HasEntries Has job entries → Unscheduled Has job a → ⊥
  never_scheduled job entries a (in_turns e) (unlisted name f k) = let both = sym e ∙ f in cc
  never_scheduled job entries a (listed name numbers e h) (unlisted other f k) =
      let same : name ≡ other = some_is name other (sym e ∙ f) in
      never_numbered other numbers a (subst (λ x. HasNumbers Has x numbers) same h) k

  -- ---- jobs

  pub runs_job_once : (naming : Naming) (given : Input) (job : Job) → RunsOne (RunsJob Has naming given job)
  runs_job_once naming given job p a p' a' (unloaded h) (unloaded k) = (refl, first_once naming 0 job.modules a a' h k)
  runs_job_once naming given job p a p' a' (unloaded h) (unscheduled ms all k) = absurd (never_all naming 0 job.modules ms a all h)
  runs_job_once naming given job p a p' a' (unloaded h) (executed ms entries all k answers) = absurd (never_all naming 0 job.modules ms a all h)
  runs_job_once naming given job p a p' a' (unscheduled ms all h) (unloaded k) = absurd (never_all naming 0 job.modules ms a' all k)
  runs_job_once naming given job p a p' a' (unscheduled ms all h) (unscheduled ns all' k) = (refl, unscheduled_once job a a' h k)
  runs_job_once naming given job p a p' a' (unscheduled ms all h) (executed ns entries all' k answers) = absurd (never_scheduled job entries a k h)
  runs_job_once naming given job p a p' a' (executed ms entries all h answers) (unloaded k) = absurd (never_all naming 0 job.modules ms a' all k)
  runs_job_once naming given job p a p' a' (executed ms entries all h answers) (unscheduled ns all' k) = absurd (never_scheduled job entries a' h k)
  runs_job_once naming given job p a p' a' (executed ms entries all h answers) (executed ns entries' all' k answers') =
      let same_entries = entries_once job entries entries' h k in
      let same_modules = all_once job.modules ms ns all all' in
      execution_once (inquiry_of job) (execution ns job.tasks entries' job.memory given) p a p' a'
      (subst (λ (x : List (List ℕ × Module)). AnswersAs (inquiry_of job) (execution x job.tasks entries' job.memory given) p a) same_modules
      (subst (λ x. AnswersAs (inquiry_of job) (execution ms job.tasks x job.memory given) p a) same_entries answers)) answers'

  pub runs_file_once : (given : Input) (name : List ℕ) → RunsOne (RunsFile Has given name)
  runs_file_once given name p a p' a' (no_job_file h) (no_job_file k) = (refl, unfound_once name a a' h k)
  runs_file_once given name p a p' a' (no_job_file h) (no_job bytes fault k not) = absurd (never_unfound name bytes a k h)
  runs_file_once given name p a p' a' (no_job_file h) (jobs.job bytes j k is runs) = absurd (never_unfound name bytes a k h)
  runs_file_once given name p a p' a' (no_job bytes fault h not) (no_job_file k) = absurd (never_unfound name bytes a' h k)
  runs_file_once given name p a p' a' (no_job bytes fault h not) (no_job other fault' k not') =
      (refl, ap (λ (x : JobFault). says statuses.Refused (job_line x)) (same_err fault fault' (sym (of_bytes (λ x. job_in x ≡ Err fault) name bytes other h k not) ∙ not')))
  runs_file_once given name p a p' a' (no_job bytes fault h not) (jobs.job other j k is runs) =
      absurd (never_ok j fault (sym is ∙ of_bytes (λ x. job_in x ≡ Err fault) name bytes other h k not))
  runs_file_once given name p a p' a' (jobs.job bytes j h is runs) (no_job_file k) = absurd (never_unfound name bytes a' h k)
  runs_file_once given name p a p' a' (jobs.job bytes j h is runs) (no_job other fault k not) =
      absurd (never_ok j fault (sym (of_bytes (λ x. job_in x ≡ Ok j) name bytes other h k is) ∙ not))
  runs_file_once given name p a p' a' (jobs.job bytes j h is runs) (jobs.job other i k is' runs') =
      let same : j ≡ i = same_ok j i (sym (of_bytes (λ x. job_in x ≡ Ok j) name bytes other h k is) ∙ is') in
      runs_job_once Numbered given i p a p' a' (subst (λ (x : Job). RunsJob Has Numbered given x p a) same runs) runs'

  -- ---- traces

  pub judges_once : (name : List ℕ) (capacity : ℕ) → GivesOne (Judges Has name capacity)
  judges_once name capacity a a' (unjudged h) (unjudged k) = unfound_once name a a' h k
  judges_once name capacity a a' (unjudged h) (judged bytes k verdict) = absurd (never_unfound name bytes a k h)
  judges_once name capacity a a' (judged bytes h verdict) (unjudged k) = absurd (never_unfound name bytes a' h k)
  judges_once name capacity a a' (judged bytes h verdict) (judged other k verdict') =
      verdict_once capacity other a a' (of_bytes (λ x. Verdict capacity x a) name bytes other h k verdict) verdict'

-- ---- files that are known

pub holds_one : (known : Files) (name : List ℕ) (a b : Found) → Holds (Some known) name a → Holds (Some known) name b → a ≡ b
holds_one known name (Contents a) (Contents b) h k = ap Contents (h ∙ sym k)
holds_one known name (Contents a) Fault h k = absurd k
holds_one known name Fault b h k = absurd h

-- the bytes that were found are known
pub found_held : (s : Shelved) (known : Files) → s.old ≡ Some known → (name bytes : List ℕ) → IsFound s name (Contents bytes) → Holds (Some known) name (Contents bytes)
found_held s known e name bytes h = subst (λ (x : Option Files). IfKnown x name (λ now. bytes ≡ now)) e h

-- Where the second way to know of files knows the bytes that the first one does, an answer by the first is a read fault, or one by
-- the second.
module _ (Has Has' : List ℕ → Found → Type 0) (known : (name bytes : List ℕ) → Has name (Contents bytes) → Has' name (Contents bytes)) where
  bytes_known : (name bytes : List ℕ) → HasBytes Has name bytes → HasBytes Has' name bytes
  bytes_known name bytes h = (known name bytes h.0, h.1)

  pub unfound_known : (name : List ℕ) (a : Answer) → Unfound Has name a → (a.status ≡ statuses.ReadFault) ⊎ Unfound Has' name a
  unfound_known name a (unreadable h) = inl refl
  unfound_known name a (overlong bytes h long) = inr (overlong bytes (known name bytes h) long)

  module_known : (name : List ℕ) (m : Module) → HasModule Has name m → HasModule Has' name m
  module_known name m h = record { bytes = h.bytes; found = bytes_known name h.bytes h.found; spelled = h.spelled; typed = h.typed }

  pub unloaded_known : (what name : List ℕ) (a : Answer) → Unloaded Has what name a → (a.status ≡ statuses.ReadFault) ⊎ Unloaded Has' what name a
  unloaded_known what name a (unfound h) =
      elim (unfound_known name a h) [
        | inl e ↦ inl e
        | inr k ↦ inr (unfound k)
      ]
  unloaded_known what name a (unread bytes h not) = inr (unread bytes (bytes_known name bytes h) not)
  unloaded_known what name a (invalid bytes m part h spelled wrong) = inr (invalid bytes m part (bytes_known name bytes h) spelled wrong)

  pub checks_known : (name : List ℕ) (a : Answer) → Checks Has name a → (a.status ≡ statuses.ReadFault) ⊎ Checks Has' name a
  checks_known name a (unchecked h) =
      elim (unloaded_known [] name a h) [
        | inl e ↦ inl e
        | inr k ↦ inr (unchecked k)
      ]
  checks_known name a (checked m h) = inr (checked m (module_known name m h))

  pub file_known : (name : List ℕ) (Does : Command) (a : Answer) → OnFile Has name Does a → (a.status ≡ statuses.ReadFault) ⊎ OnFile Has' name Does a
  file_known name Does a (no_file h) =
      elim (unfound_known name a h) [
        | inl e ↦ inl e
        | inr k ↦ inr (no_file k)
      ]
  file_known name Does a (on_file bytes h does) = inr (on_file bytes (bytes_known name bytes h) does)

  pub all_known : (files : List (List ℕ × List ℕ)) (ms : List (List ℕ × Module)) → AllLoaded Has files ms → AllLoaded Has' files ms
  all_known files ms no_more = no_more
  all_known files ms (one_more name file m {files = fs} {modules = more} h all) = one_more name file m (module_known file m h) (all_known fs more all)

  first_known : (naming : Naming) (number : ℕ) (files : List (List ℕ × List ℕ)) (a : Answer) → FirstUnloaded Has naming number files a → (a.status ≡ statuses.ReadFault) ⊎ FirstUnloaded Has' naming number files a
  first_known naming number files a (here n name file fs h) =
      elim (unloaded_known (what_of naming n) file a h) [
        | inl e ↦ inl e
        | inr k ↦ inr (here n name file fs k)
      ]
  first_known naming number files a (later n name file m fs h first) =
      elim (first_known naming (suc n) fs a first) [
        | inl e ↦ inl e
        | inr k ↦ inr (later n name file m fs (module_known file m h) k)
      ]

  numbers_known : (name numbers : List ℕ) → HasNumbers Has name numbers → HasNumbers Has' name numbers
  numbers_known name numbers h = record { bytes = h.bytes; found = bytes_known name h.bytes h.found; read = h.read }

  pub entries_known : (job : Job) (entries : List ℕ) → HasEntries Has job entries → HasEntries Has' job entries
  entries_known job entries (in_turns e) = in_turns e
  entries_known job entries (listed name numbers e h) = listed name numbers e (numbers_known name numbers h)

  unnumbered_known : (name : List ℕ) (a : Answer) → Unnumbered Has name a → (a.status ≡ statuses.ReadFault) ⊎ Unnumbered Has' name a
  unnumbered_known name a (jobs.no_file h) =
      elim (unfound_known name a h) [
        | inl e ↦ inl e
        | inr k ↦ inr (jobs.no_file k)
      ]
  unnumbered_known name a (no_number bytes at h not) = inr (no_number bytes at (bytes_known name bytes h) not)

  unscheduled_known : (job : Job) (a : Answer) → Unscheduled Has job a → (a.status ≡ statuses.ReadFault) ⊎ Unscheduled Has' job a
  unscheduled_known job a (unlisted name e h) =
      elim (unnumbered_known name a h) [
        | inl is ↦ inl is
        | inr k ↦ inr (unlisted name e k)
      ]

  pub runs_job_known : (naming : Naming) (given : Input) (job : Job) (p : Option Run) (a : Answer) → RunsJob Has naming given job p a → (a.status ≡ statuses.ReadFault) ⊎ RunsJob Has' naming given job p a
  runs_job_known naming given job p a (unloaded h) =
      elim (first_known naming 0 job.modules a h) [
        | inl e ↦ inl e
        | inr k ↦ inr (unloaded k)
      ]
  runs_job_known naming given job p a (unscheduled ms all h) =
      elim (unscheduled_known job a h) [
        | inl e ↦ inl e
        | inr k ↦ inr (unscheduled ms (all_known job.modules ms all) k)
      ]
  runs_job_known naming given job p a (executed ms entries all h answers) =
      inr (executed ms entries (all_known job.modules ms all) (entries_known job entries h) answers)

  pub runs_file_known : (given : Input) (name : List ℕ) (p : Option Run) (a : Answer) → RunsFile Has given name p a → (a.status ≡ statuses.ReadFault) ⊎ RunsFile Has' given name p a
  runs_file_known given name p a (no_job_file h) =
      elim (unfound_known name a h) [
        | inl e ↦ inl e
        | inr k ↦ inr (no_job_file k)
      ]
  runs_file_known given name p a (no_job bytes fault h not) = inr (no_job bytes fault (bytes_known name bytes h) not)
  runs_file_known given name p a (jobs.job bytes j h is runs) =
      elim (runs_job_known Numbered given j p a runs) [
        | inl e ↦ inl e
        | inr k ↦ inr (jobs.job bytes j (bytes_known name bytes h) is k)
      ]

  pub judges_known : (name : List ℕ) (capacity : ℕ) (a : Answer) → Judges Has name capacity a → (a.status ≡ statuses.ReadFault) ⊎ Judges Has' name capacity a
  judges_known name capacity a (unjudged h) =
      elim (unfound_known name a h) [
        | inl e ↦ inl e
        | inr k ↦ inr (unjudged k)
      ]
  judges_known name capacity a (judged bytes h verdict) = inr (judged bytes (bytes_known name bytes h) verdict)

-- ---- no command answers by usage, by a fault of writing, or by want of memory

abbrev pub IsOrdinary : Status → Type 0
IsOrdinary statuses.Usage = ⊥
IsOrdinary statuses.WriteFault = ⊥
IsOrdinary statuses.OutOfMemory = ⊥
IsOrdinary _ = Unit {0}

ordinary_as : (s other : Status) → s ≡ other → IsOrdinary other → IsOrdinary s
ordinary_as s other e h = subst IsOrdinary (sym e) h

ends_ordinary : (end : End) (s : Status) (t : List ℕ) → EndsAs end s t → IsOrdinary s
ends_ordinary (Results values) s t h = ordinary_as s statuses.Done h.0 tt
ends_ordinary (Trap whose trap) s t h = ordinary_as s statuses.Trapped h.0 tt
ends_ordinary OutOfBudget s t h = ordinary_as s statuses.OutOfBudget h.0 tt
ends_ordinary Stuck s t h = absurd h

execution_ordinary : (asked : Inquiry) (e : Execution) (p : Option Run) (a : Answer) → AnswersAs asked e p a → IsOrdinary a.status
execution_ordinary asked (Unlinked fault) p a h = subst (λ (x : Answer). IsOrdinary x.status) (sym h.1) tt
execution_ordinary asked (NoTask number) p a h = subst (λ (x : Answer). IsOrdinary x.status) (sym h.1) tt
execution_ordinary asked (Ran run) p a h = ends_ordinary run.end a.status h.1.0 h.1.2

verdict_ordinary : (capacity : ℕ) (bytes : List ℕ) (a : Answer) → Verdict capacity bytes a → IsOrdinary a.status
verdict_ordinary capacity bytes a (no_event n h) = tt
verdict_ordinary capacity bytes a (rejected es n h bad) = tt
verdict_ordinary capacity bytes a (accepted es h good) = tt

pub assembles_ordinary : (form : Form) (out bytes : List ℕ) (a : Answer) → Assembles form out bytes a → IsOrdinary a.status
assembles_ordinary form out bytes a (unread_form h) = tt
assembles_ordinary form out bytes a (large m h is) = tt
assembles_ordinary form out bytes a (assembled m h not) = tt

pub disassembles_ordinary : (out bytes : List ℕ) (a : Answer) → Disassembles out bytes a → IsOrdinary a.status
disassembles_ordinary out bytes a (unread_binary h) = tt
disassembles_ordinary out bytes a (disassembled m h) = tt

refusals_ordinary : OfRefusals (λ (a : Answer). IsOrdinary a.status)
refusals_ordinary = record { read_fault = λ line. tt; too_long = λ line. tt; refused = λ line. tt }

module _ (Has : List ℕ → Found → Type 0) where
  pub checks_ordinary : (name : List ℕ) (a : Answer) → Checks Has name a → IsOrdinary a.status
  checks_ordinary name a (unchecked h) = of_unloaded refusals_ordinary Has [] name a h
  checks_ordinary name a (checked m h) = tt

  pub file_ordinary : (name : List ℕ) (Does : Command) → ((bytes : List ℕ) (a : Answer) → Does bytes a → IsOrdinary a.status)
      → (a : Answer) → OnFile Has name Does a → IsOrdinary a.status
  file_ordinary name Does all a (no_file h) = of_unfound refusals_ordinary Has name a h
  file_ordinary name Does all a (on_file bytes h does) = all bytes a does

  pub judges_ordinary : (name : List ℕ) (capacity : ℕ) (a : Answer) → Judges Has name capacity a → IsOrdinary a.status
  judges_ordinary name capacity a (unjudged h) = of_unfound refusals_ordinary Has name a h
  judges_ordinary name capacity a (judged bytes h verdict) = verdict_ordinary capacity bytes a verdict

  pub runs_job_ordinary : (naming : Naming) (given : Input) (job : Job) (p : Option Run) (a : Answer) → RunsJob Has naming given job p a → IsOrdinary a.status
  runs_job_ordinary naming given job p a (unloaded h) = of_first refusals_ordinary Has naming 0 job.modules a h
  runs_job_ordinary naming given job p a (unscheduled ms all h) = of_unscheduled refusals_ordinary Has job a h
  runs_job_ordinary naming given job p a (executed ms entries all h answers) = execution_ordinary (inquiry_of job) (execution ms job.tasks entries job.memory given) p a answers

  pub runs_file_ordinary : (given : Input) (name : List ℕ) (p : Option Run) (a : Answer) → RunsFile Has given name p a → IsOrdinary a.status
  runs_file_ordinary given name p a (no_job_file h) = of_unfound refusals_ordinary Has name a h
  runs_file_ordinary given name p a (no_job bytes fault h not) = tt
  runs_file_ordinary given name p a (jobs.job bytes j h is runs) = runs_job_ordinary Numbered given j p a runs
