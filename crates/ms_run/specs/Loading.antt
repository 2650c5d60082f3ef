-- The forms of a module's file, binary, text and C, and what its bytes spell in each.
use Rattle.std.specs.Prelude.{◌≡◌, ◌==◌, ℕ, List, [], Bool, true, false, Result, Ok, Err, codes}
use Rattle.std.specs.List.{ends_with}
use Rattle.ms_bin_grammar.specs.Bounds.{usual}
use Rattle.ms_bin_grammar.specs.Module.{SpellsWithin, Stops as BinaryStops}
use Rattle.ms_bin_grammar.specs.declared.fault.ReadFault.{ReadFault}
use Rattle.ms_bin_grammar.specs.declared.fault.ReadFault.TheVariants as reading
use Rattle.ms_text_grammar.specs.TextSpells.{Stops as TextStops, TextSpells, TextStop}
use Rattle.ms_text_read.specs.Answers.{error_of}
use Rattle.ms_module.specs.declared.module.Module.{Module}
use Rattle.ms_run.specs.Source as units
use Rattle.ms_run.specs.declared.source.SourceFault.{SourceFault}
use Rattle.ms_valid.specs.declared.refusal.Refusal.{Refusal}
use Rattle.ms_valid.specs.declared.refusal.Refusal.TheVariants as refusals
use Rattle.ms_valid.specs.declared.refusal.Refusal.TheVariants.{Invalid}
use Rattle.ms_valid.specs.Refusals.{IsWrong}
use Rattle.ms_run.specs.declared.loading.LoadFault.{LoadFault}
use Rattle.ms_run.specs.declared.loading.LoadFault.TheVariants as faults
use Rattle.ms_run.specs.Lines.{fault_words, part_words, source_fault_words, text_fault_words}

pub data Form : Type 0 where
  Binary : Form
  Text : Form
  Source : Form

abbrev pub text_ending : List ℕ
text_ending = codes ".wat"

abbrev pub source_ending : List ℕ
source_ending = codes ".c"

abbrev pub form_by : (is_source is_text : Bool) → Form
form_by true is_text = Source
form_by false true = Text
form_by false false = Binary

-- C where the name ends in `.c`, text where it ends in `.wat`, else binary
abbrev pub form_of : List ℕ → Form
form_of name = form_by (ends_with ◌==◌ name source_ending) (ends_with ◌==◌ name text_ending)

-- In this form the bytes spell the module (WebAssembly 1.0, chapters 5 and 6), or are a unit of C whose module it is.
abbrev pub Spells : Form → List ℕ → Module → Type 0
Spells Binary bytes m = SpellsWithin usual bytes m
Spells Text bytes m = TextSpells bytes m
Spells Source bytes m = units.IsModule bytes m

-- They spell none: the words of the first fault, with its place.
pub data Unread (bytes : List ℕ) : Form → List ℕ → Type 0 where
  binary : (fault : ReadFault) → BinaryStops bytes fault → Unread bytes Binary (fault_words fault)
  text : (why : TextStop) → TextStops bytes why → Unread bytes Text (text_fault_words (error_of why))
  source : (fault : SourceFault) → units.Stops bytes fault → Unread bytes Source (source_fault_words fault)

-- ---- what loading a file's module gives

-- memory didn't run out in reading
abbrev pub IsRead : ReadFault → Type 0
IsRead reading.Memory = ⊥
IsRead _ = Unit {0}

-- the part is wrong of the module that the bytes spell
abbrev pub IsInvalid : Form → List ℕ → Refusal → Type 0
IsInvalid form bytes (Invalid part) = (m : Module) × Spells form bytes m × IsWrong m part
IsInvalid form bytes refusals.Memory = ⊥

-- why there is no valid module; want of memory says nothing
abbrev pub Refuses : Form → List ℕ → LoadFault → Type 0
Refuses Binary bytes (faults.Read fault) = IsRead fault × BinaryStops bytes fault
Refuses Text bytes (faults.Read fault) = ⊥
Refuses Source bytes (faults.Read fault) = ⊥
Refuses Binary bytes (faults.Text fault) = ⊥
Refuses Text bytes (faults.Text fault) = (why : TextStop) × (error_of why ≡ fault) × TextStops bytes why
Refuses Source bytes (faults.Text fault) = ⊥
Refuses Binary bytes (faults.Source fault) = ⊥
Refuses Text bytes (faults.Source fault) = ⊥
Refuses Source bytes (faults.Source fault) = units.Stops bytes fault
Refuses form bytes (faults.Invalid refusal) = IsInvalid form bytes refusal
Refuses form bytes faults.Memory = Unit {0}

-- it is no fault of validation
abbrev pub IsOfReading : LoadFault → Type 0
IsOfReading (faults.Invalid refusal) = ⊥
IsOfReading _ = Unit {0}

-- the module that the bytes spell, or why there is none
abbrev pub ReadsForm : Form → List ℕ → Result Module LoadFault → Type 0
ReadsForm form bytes (Ok m) = Spells form bytes m
ReadsForm form bytes (Err fault) = Refuses form bytes fault

abbrev pub refusal_words : Refusal → List ℕ
refusal_words (Invalid part) = part_words part
refusal_words refusals.Memory = []

abbrev pub load_words : LoadFault → List ℕ
load_words (faults.Read fault) = fault_words fault
load_words (faults.Text fault) = text_fault_words fault
load_words (faults.Source fault) = source_fault_words fault
load_words (faults.Invalid refusal) = refusal_words refusal
load_words faults.Memory = []
