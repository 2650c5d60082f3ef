-- What the commands on one file answer: the tables of their answers, each with its cause.
use Rattle.std.specs.Prelude.{◌<◌, ◌≤◌, ℕ, List, [], length, Option, Some, None}
use Rattle.ms_event.specs.declared.event.Event.{Event}
use Rattle.ms_event.specs.Monitor.{Accepts}
use Rattle.ms_module.specs.declared.module.Module.{Module}
use Rattle.ms_monitor.specs.Traces.{IsNoTrace, IsTrace, RejectsAt}
use Rattle.ms_bin_grammar.specs.Bounds.{usual}
use Rattle.ms_bin_grammar.specs.Module.{SpellsWithin}
use Rattle.ms_bin_write.specs.Written.{IsLarge, written}
use Rattle.ms_text_write.specs.Shown.{shown}
use Rattle.ms_rules.specs.Modules.{WellTyped}
use Rattle.ms_valid.specs.declared.refusal.Part.{Part}
use Rattle.ms_valid.specs.Refusals.{IsWrong}
use Rattle.ms_run.specs.Lines.{accepted_line, large_line, part_words, read_fault_line, refused_line, rejected_line, too_long_line, trace_line, valid_line, written_line}
use Rattle.ms_run.specs.Loading.{Binary, Form, Spells, Unread, form_of}
use Rattle.ms_run.specs.declared.status.Status.{Status}
use Rattle.ms_run.specs.declared.status.Status.TheVariants.{Done, ReadFault, Refused, TooLong, Trapped}

-- ---- answers

-- a file that is written, and its bytes
pub record File : Type 0 where
  pub name : List ℕ
  pub bytes : List ℕ

-- what a command answers: a status, the lines of the report, and the file that is written, if one is
pub record Answer : Type 0 where
  pub status : Status
  pub report : List ℕ
  pub file : Option File

-- one without a file
abbrev pub says : Status → (report : List ℕ) → Answer
says status report = record { status = status; report = report; file = None }

-- these bytes are written to a file, and their number is told
abbrev pub writes : (out bytes : List ℕ) → Answer
writes out bytes = record { status = Done; report = written_line (length bytes); file = Some (record { name = out; bytes = bytes }) }

-- ---- files, by what was found of each

-- how many bytes a file may have
abbrev pub most_bytes : ℕ
most_bytes = 4194304

-- what reading a file gave: its bytes, or a fault
pub data Found : Type 0 where
  Contents : List ℕ → Found
  Fault : Found

-- what was found of the file of each name
abbrev pub Finds : Type 1
Finds = (name : List ℕ) → Found → Type 0

-- its bytes, and they aren't too many
abbrev pub HasBytes : Finds → (name bytes : List ℕ) → Type 0
HasBytes Has name bytes = Has name (Contents bytes) × (length bytes ≤ most_bytes)

-- there are none
pub data Unfound (Has : List ℕ → Found → Type 0) (name : List ℕ) : Answer → Type 0 where
  unreadable : Has name Fault → Unfound Has name (says ReadFault (read_fault_line name))
  overlong : (bytes : List ℕ) → Has name (Contents bytes) → most_bytes < length bytes → Unfound Has name (says TooLong (too_long_line name))

-- ---- modules

-- the file has this module, which is well typed
pub record HasModule (Has : List ℕ → Found → Type 0) (name : List ℕ) (m : Module) : Type 0 where
  pub bytes : List ℕ
  pub found : HasBytes Has name bytes
  pub spelled : Spells (form_of name) bytes m
  pub typed : WellTyped m

-- it has none; `what` is refused
pub data Unloaded (Has : List ℕ → Found → Type 0) (what name : List ℕ) : Answer → Type 0 where
  unfound : {a : Answer} → Unfound Has name a → Unloaded Has what name a
  -- the bytes spell no module: the first fault, with its place
  unread : {words : List ℕ} (bytes : List ℕ) → HasBytes Has name bytes → Unread bytes (form_of name) words
      → Unloaded Has what name (says Refused (refused_line what words))
  -- the module isn't well typed: the part
  invalid : (bytes : List ℕ) (m : Module) (part : Part) → HasBytes Has name bytes → Spells (form_of name) bytes m → IsWrong m part
      → Unloaded Has what name (says Refused (refused_line what (part_words part)))

-- `check`
pub data Checks (Has : List ℕ → Found → Type 0) (name : List ℕ) : Answer → Type 0 where
  unchecked : {a : Answer} → Unloaded Has [] name a → Checks Has name a
  checked : (m : Module) → HasModule Has name m → Checks Has name (says Done valid_line)

-- ---- traces

-- the text of a trace, by the colour monitor over so many addresses
pub data Verdict (capacity : ℕ) (text : List ℕ) : Answer → Type 0 where
  -- a line tells no event: the first one
  no_event : (n : ℕ) → IsNoTrace text n → Verdict capacity text (says Refused (trace_line n))
  -- an event may not come next: the first one
  rejected : (events : List Event) (n : ℕ) → IsTrace text events → RejectsAt capacity events n → Verdict capacity text (says Trapped (rejected_line n))
  accepted : (events : List Event) → IsTrace text events → Accepts capacity events → Verdict capacity text (says Done (accepted_line (length events)))

-- `judge`
pub data Judges (Has : List ℕ → Found → Type 0) (name : List ℕ) (capacity : ℕ) : Answer → Type 0 where
  unjudged : {a : Answer} → Unfound Has name a → Judges Has name capacity a
  judged : (bytes : List ℕ) {a : Answer} → HasBytes Has name bytes → Verdict capacity bytes a → Judges Has name capacity a

-- ---- commands that write a module: `asm` a text and `compile` a file of C in binary, `dis` a binary one in text

-- what a command answers to a file's bytes
abbrev pub Command : Type 1
Command = List ℕ → Answer → Type 0

-- from this form to binary
pub data Assembles (form : Form) (out : List ℕ) (bytes : List ℕ) : Answer → Type 0 where
  unread_form : {words : List ℕ} → Unread bytes form words → Assembles form out bytes (says Refused (refused_line [] words))
  large : (m : Module) → Spells form bytes m → IsLarge m → Assembles form out bytes (says Refused large_line)
  assembled : (m : Module) → Spells form bytes m → ¬ IsLarge m → Assembles form out bytes (writes out (written m))

-- `dis`: from binary to text
pub data Disassembles (out : List ℕ) (bytes : List ℕ) : Answer → Type 0 where
  unread_binary : {words : List ℕ} → Unread bytes Binary words → Disassembles out bytes (says Refused (refused_line [] words))
  disassembled : (m : Module) → SpellsWithin usual bytes m → Disassembles out bytes (writes out (shown m))

-- such a command on the file of this name
pub data OnFile (Has : List ℕ → Found → Type 0) (name : List ℕ) (Does : Command) : Answer → Type 0 where
  no_file : {a : Answer} → Unfound Has name a → OnFile Has name Does a
  on_file : (bytes : List ℕ) {a : Answer} → HasBytes Has name bytes → Does bytes a → OnFile Has name Does a
