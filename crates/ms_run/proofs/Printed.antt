-- Why a file has no module, and that it was put.
use Rattle.std.proofs.Common.{◌≡◌, ◌≢◌, ℕ, inr, List, refl, sym, subst}
use Rattle.ms_bin_grammar.specs.declared.fault.ReadFault.{ReadFault}
use Rattle.ms_bin_grammar.specs.Module.{Stops as BinaryStops}
use Rattle.ms_text_grammar.specs.declared.fault.TextFault.{TextFault}
use Rattle.ms_text_grammar.specs.TextSpells.{Stops as TextStops, TextStop}
use Rattle.ms_text_read.specs.Answers.{error_of}
use Rattle.ms_module.specs.declared.module.Module.{Module}
use Rattle.ms_outside.specs.Shelf.{SameCounts}
use Rattle.ms_rules.specs.Modules.{WellTyped}
use Rattle.ms_valid.specs.declared.refusal.Refusal.{Refusal}
use Rattle.ms_valid.specs.declared.refusal.Refusal.TheVariants as refusals
use Rattle.ms_run.specs.Answers.{Found, HasBytes, Judges, Unloaded, invalid, judged, says, unread}
use Rattle.ms_run.specs.Lines.{fault_words, refused_line, source_fault_words, text_fault_words}
use Rattle.ms_run.specs.Loading.{Binary, Form, IsInvalid, IsRead, Refuses, Source, Spells, Text, Unread, binary, form_of, load_words, source, text}
use Rattle.ms_run.specs.Observed.{Report, Shelved}
use Rattle.ms_run.specs.Reporting.{KeepsFiles, Reports, ReportsFault, ReportsVerdict, Tells, no_verdict, printed, unprinted, verdict_put}
use Rattle.ms_run.specs.declared.loading.LoadFault.{LoadFault}
use Rattle.ms_run.specs.declared.loading.LoadFault.TheVariants as faults
use Rattle.ms_run.specs.declared.status.Status.{Status}
use Rattle.ms_run.specs.declared.status.Status.TheVariants.{Refused}
use Rattle.ms_valid.specs.Refusals.{DoesRefuse, IsWrong}
use Rattle.ms_valid.specs.declared.refusal.Part.{Part}
use Rattle.ms_run.proofs.Once.{never_both, never_wrong, one_module}

-- ---- a fault

pub unread_binary : (bytes : List ℕ) (fault : ReadFault) → IsRead fault → BinaryStops bytes fault → Unread bytes Binary (fault_words fault)
unread_binary bytes fault is_read stops = binary fault stops

pub unread_text : (bytes : List ℕ) (fault : TextFault) (why : TextStop) → error_of why ≡ fault → TextStops bytes why → Unread bytes Text (text_fault_words fault)
unread_text bytes fault why is stops = subst (λ (f : TextFault). Unread bytes Text (text_fault_words f)) is (text why stops)

module _ (Has : List ℕ → Found → Type 0) (what name bytes : List ℕ) (has : HasBytes Has name bytes) where
  abbrev Unprinted : List ℕ → Type 0
  Unprinted words = Unloaded Has what name (says Refused (refused_line what words))

  of_form : (form : Form) → form_of name ≡ form → (fault : LoadFault) → fault ≢ faults.Memory → Refuses form bytes fault → Unprinted (load_words fault)
  of_form Binary is (faults.Read fault) not h = unread bytes has (subst (λ (f : Form). Unread bytes f (fault_words fault)) (sym is) (unread_binary bytes fault h.0 h.1))
  of_form Text is (faults.Read fault) not h = absurd h
  of_form Binary is (faults.Text fault) not h = absurd h
  of_form Text is (faults.Text fault) not h = unread bytes has (subst (λ (f : Form). Unread bytes f (text_fault_words fault)) (sym is) (unread_text bytes fault h.0 h.1 h.2))
  of_form Source is (faults.Read fault) not h = absurd h
  of_form Source is (faults.Text fault) not h = absurd h
  of_form Binary is (faults.Source fault) not h = absurd h
  of_form Text is (faults.Source fault) not h = absurd h
  of_form Source is (faults.Source fault) not h = unread bytes has (subst (λ (f : Form). Unread bytes f (source_fault_words fault)) (sym is) (source fault h))
  of_form Source is (faults.Invalid (refusals.Invalid part)) not h = invalid bytes h.0 part has (subst (λ (f : Form). Spells f bytes h.0) (sym is) h.1) h.2
  of_form Source is (faults.Invalid refusals.Memory) not h = absurd h
  of_form Source is faults.Memory not h = absurd (not refl)
  of_form Binary is (faults.Invalid (refusals.Invalid part)) not h = invalid bytes h.0 part has (subst (λ (f : Form). Spells f bytes h.0) (sym is) h.1) h.2
  of_form Text is (faults.Invalid (refusals.Invalid part)) not h = invalid bytes h.0 part has (subst (λ (f : Form). Spells f bytes h.0) (sym is) h.1) h.2
  of_form Binary is (faults.Invalid refusals.Memory) not h = absurd h
  of_form Text is (faults.Invalid refusals.Memory) not h = absurd h
  of_form Binary is faults.Memory not h = absurd (not refl)
  of_form Text is faults.Memory not h = absurd (not refl)

  -- it was put, after the file was read
  pub fault_printed : (s : Shelved) (r : Report) (result : Status) → SameCounts s.reads_old s.reads_new → KeepsFiles s → (fault : LoadFault) → Refuses (form_of name) bytes fault → ReportsFault what fault r result → Tells (Unloaded Has what name) s r result
  fault_printed s r result counts files (faults.Read fault) h reports = printed Refused (refused_line what (fault_words fault)) (of_form (form_of name) refl (faults.Read fault) (λ e. let n = e in cc) h) (inr counts) files reports
  fault_printed s r result counts files (faults.Text fault) h reports = printed Refused (refused_line what (text_fault_words fault)) (of_form (form_of name) refl (faults.Text fault) (λ e. let n = e in cc) h) (inr counts) files reports
  fault_printed s r result counts files (faults.Source fault) h reports = printed Refused (refused_line what (source_fault_words fault)) (of_form (form_of name) refl (faults.Source fault) (λ e. let n = e in cc) h) (inr counts) files reports
  fault_printed s r result counts files (faults.Invalid refusal) h reports = printed Refused (refused_line what (load_words (faults.Invalid refusal))) (of_form (form_of name) refl (faults.Invalid refusal) (λ e. let n = e in cc) h) (inr counts) files reports
  fault_printed s r result counts files faults.Memory h reports = subst (λ (x : Status). Tells (Unloaded Has what name) s r x) (sym reports.0) (unprinted counts files reports.1)

-- ---- why there is no module, and that it was put

pub fault_reported : (what : List ℕ) (fault : LoadFault) (r : Report) (result : Status) → fault ≢ faults.Memory → Reports Refused (refused_line what (load_words fault)) r result → ReportsFault what fault r result
fault_reported what (faults.Read fault) r result not h = h
fault_reported what (faults.Text fault) r result not h = h
fault_reported what (faults.Source fault) r result not h = h
fault_reported what (faults.Invalid refusal) r result not h = h
fault_reported what faults.Memory r result not h = absurd (not refl)

-- ---- a module that the bytes spell and that is well typed is refused for want of memory alone

never_invalid : (form : Form) (bytes : List ℕ) (refusal : Refusal) → IsInvalid form bytes refusal → (m : Module) → Spells form bytes m → WellTyped m → ⊥
never_invalid form bytes (refusals.Invalid part) h m spelled well = never_wrong m part well (subst (λ (x : Module). IsWrong x part) (one_module form bytes h.0 m h.1 spelled) h.2)
never_invalid form bytes refusals.Memory h m spelled well = absurd h

pub never_refused : (form : Form) (bytes : List ℕ) (refused m : Module) (refusal : Refusal) (part : Part) → refusal ≡ refusals.Invalid part → DoesRefuse refused refusal → Spells form bytes refused → Spells form bytes m → WellTyped m → ⊥
never_refused form bytes refused m refusal part e wrong spelled spelled' well =
    let is : DoesRefuse refused (refusals.Invalid part) = subst (DoesRefuse refused) e wrong in
    never_wrong m part well (subst (λ (x : Module). IsWrong x part) (one_module form bytes refused m spelled spelled') is)

pub refused_only : (form : Form) (bytes : List ℕ) (fault : LoadFault) → Refuses form bytes fault → (m : Module) → Spells form bytes m → WellTyped m → fault ≡ faults.Memory
refused_only Binary bytes (faults.Read fault) h m spelled well = absurd (never_both bytes Binary (fault_words fault) m (unread_binary bytes fault h.0 h.1) spelled)
refused_only Text bytes (faults.Read fault) h m spelled well = absurd h
refused_only Binary bytes (faults.Text fault) h m spelled well = absurd h
refused_only Text bytes (faults.Text fault) h m spelled well = absurd (never_both bytes Text (text_fault_words fault) m (unread_text bytes fault h.0 h.1 h.2) spelled)
refused_only Source bytes (faults.Read fault) h m spelled well = absurd h
refused_only Source bytes (faults.Text fault) h m spelled well = absurd h
refused_only Binary bytes (faults.Source fault) h m spelled well = absurd h
refused_only Text bytes (faults.Source fault) h m spelled well = absurd h
refused_only Source bytes (faults.Source fault) h m spelled well = absurd (never_both bytes Source (source_fault_words fault) m (source fault h) spelled)
refused_only Source bytes (faults.Invalid refusal) h m spelled well = absurd (never_invalid Source bytes refusal h m spelled well)
refused_only Source bytes faults.Memory h m spelled well = refl
refused_only Binary bytes (faults.Invalid refusal) h m spelled well = absurd (never_invalid Binary bytes refusal h m spelled well)
refused_only Text bytes (faults.Invalid refusal) h m spelled well = absurd (never_invalid Text bytes refusal h m spelled well)
refused_only Binary bytes faults.Memory h m spelled well = refl
refused_only Text bytes faults.Memory h m spelled well = refl

-- ---- the verdict on a trace, and that it was put, after the file was read

pub verdict_printed : (Has : List ℕ → Found → Type 0) (name bytes : List ℕ) → HasBytes Has name bytes → (capacity : ℕ) (s : Shelved) (r : Report) → SameCounts s.reads_old s.reads_new → KeepsFiles s → (result : Status) → ReportsVerdict capacity bytes r result
    → Tells (Judges Has name capacity) s r result
verdict_printed Has name bytes has capacity s r counts files result (verdict_put status line verdict reports) = printed status line (judged bytes has verdict) (inr counts) files reports
verdict_printed Has name bytes has capacity s r counts files result (no_verdict kept) = unprinted counts files kept
