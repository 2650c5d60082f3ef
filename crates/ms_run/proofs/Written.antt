-- What was made of a file's bytes where a module is written in the other form.
use Rattle.std.proofs.Common.{◌≡◌, ℕ, List, [], sym, subst}
use Rattle.ms_bin_grammar.specs.Bounds.{usual}
use Rattle.ms_bin_grammar.specs.Module.{SpellsWithin}
use Rattle.ms_bin_write.specs.Written.{IsLarge, written}
use Rattle.ms_module.specs.declared.module.Module.{Module}
use Rattle.ms_text_write.specs.Shown.{shown}
use Rattle.ms_run.specs.Answers.{Assembles, Command, Disassembles, assembled, disassembled, large, says, unread_binary as not_binary, unread_form, writes}
use Rattle.ms_run.specs.Lines.{fault_words, large_line, refused_line, source_fault_words, text_fault_words}
use Rattle.ms_run.specs.Loading.{Binary, Form, IsOfReading, Refuses, Source, Spells, Text, source}
use Rattle.ms_run.specs.Observed.{Report, Shelved}
use Rattle.ms_run.specs.Reporting.{Delivers, IsSilent, KeepsFiles, Makes, Reports, ReportsFault, made, made_none, put}
use Rattle.ms_run.specs.declared.loading.LoadFault.{LoadFault}
use Rattle.ms_run.specs.declared.loading.LoadFault.TheVariants as faults
use Rattle.ms_run.specs.declared.status.Status.{Status}
use Rattle.ms_run.specs.declared.status.Status.TheVariants.{Refused}
use Rattle.ms_run.proofs.Printed.{unread_binary, unread_text}

starved_makes : (Does : Command) (bytes : List ℕ) (s : Shelved) (r : Report) (result : Status) → KeepsFiles s → IsSilent r result → Makes Does bytes s r result
starved_makes Does bytes s r result kept h = subst (λ (x : Status). Makes Does bytes s r x) (sym h.0) (made_none kept h.1)

module _ (out bytes : List ℕ) (s : Shelved) (r : Report) (result : Status) where
  -- ---- from a text, or from C, to binary

  pub fault_makes : (form : Form) (fault : LoadFault) → Refuses form bytes fault → IsOfReading fault → KeepsFiles s → ReportsFault [] fault r result → Makes (Assembles form out) bytes s r result
  fault_makes Binary (faults.Read fault) h reading kept reports = made (says Refused (refused_line [] (fault_words fault))) (unread_form (unread_binary bytes fault h.0 h.1)) (put kept reports)
  fault_makes Text (faults.Read fault) h reading kept reports = absurd h
  fault_makes Source (faults.Read fault) h reading kept reports = absurd h
  fault_makes Binary (faults.Text fault) h reading kept reports = absurd h
  fault_makes Text (faults.Text fault) h reading kept reports = made (says Refused (refused_line [] (text_fault_words fault))) (unread_form (unread_text bytes fault h.0 h.1 h.2)) (put kept reports)
  fault_makes Source (faults.Text fault) h reading kept reports = absurd h
  fault_makes Binary (faults.Source fault) h reading kept reports = absurd h
  fault_makes Text (faults.Source fault) h reading kept reports = absurd h
  fault_makes Source (faults.Source fault) h reading kept reports = made (says Refused (refused_line [] (source_fault_words fault))) (unread_form (source fault h)) (put kept reports)
  fault_makes form (faults.Invalid refusal) h reading kept reports = absurd reading
  fault_makes form faults.Memory h reading kept reports = starved_makes (Assembles form out) bytes s r result kept reports

  pub large_makes : (form : Form) (m : Module) → Spells form bytes m → IsLarge m → KeepsFiles s → Reports Refused large_line r result → Makes (Assembles form out) bytes s r result
  large_makes form m spelled is kept reports = made (says Refused large_line) (large m spelled is) (put kept reports)

  pub assembled_makes : (form : Form) (m : Module) (held : List ℕ) → held ≡ written m → Spells form bytes m → ¬ IsLarge m
      → Delivers (writes out held) s r result → Makes (Assembles form out) bytes s r result
  assembled_makes form m held e spelled not delivers =
      made (writes out (written m)) (assembled m spelled not) (subst (λ (b : List ℕ). Delivers (writes out b) s r result) e delivers)

  -- ---- from binary to text

  pub binary_fault_makes : (fault : LoadFault) → Refuses Binary bytes fault → IsOfReading fault → KeepsFiles s → ReportsFault [] fault r result → Makes (Disassembles out) bytes s r result
  binary_fault_makes (faults.Read fault) h reading kept reports = made (says Refused (refused_line [] (fault_words fault))) (not_binary (unread_binary bytes fault h.0 h.1)) (put kept reports)
  binary_fault_makes (faults.Text fault) h reading kept reports = absurd h
  binary_fault_makes (faults.Source fault) h reading kept reports = absurd h
  binary_fault_makes (faults.Invalid refusal) h reading kept reports = absurd reading
  binary_fault_makes faults.Memory h reading kept reports = starved_makes (Disassembles out) bytes s r result kept reports

  pub disassembled_makes : (m : Module) (held : List ℕ) → held ≡ shown m → SpellsWithin usual bytes m
      → Delivers (writes out held) s r result → Makes (Disassembles out) bytes s r result
  disassembled_makes m held e spelled delivers =
      made (writes out (shown m)) (disassembled m spelled) (subst (λ (b : List ℕ). Delivers (writes out b) s r result) e delivers)
