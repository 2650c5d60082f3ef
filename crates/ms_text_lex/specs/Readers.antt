-- What the readers of the code give, against what reading gives.
use Rattle.std.specs.Prelude.{◌≡◌, ℕ, List, Option, Some, None, Result, Ok, Err}
use Rattle.ms_bytes.specs.Spot.{Spot}
use Rattle.ms_text_lex.specs.declared.fault.LexFault.{LexFault}
use Rattle.ms_text_lex.specs.declared.fault.LexFault.TheVariants.{Char, Memory, Unclosed}
use Rattle.ms_text_lex.specs.Fault.{Fault}
use Rattle.ms_text_lex.specs.Fault as fault
use Rattle.ms_text_lex.specs.Lexing.{LexStops}

-- the fault of the definition, but for want of memory
abbrev pub fault_of : LexFault → Option Fault
fault_of (Char at) = Some (fault.Char at)
fault_of (Unclosed at) = Some (fault.Unclosed at)
fault_of Memory = None

-- the error that the code gives for a fault
abbrev pub error_of : Fault → LexFault
error_of (fault.Char at) = Char at
error_of (fault.Unclosed at) = Unclosed at

abbrev pub FailsBy : {A : Type 0} → Option Fault → Result A Fault → Type 0
FailsBy (Some f) read = read ≡ Err f
FailsBy None read = Unit {0}

-- the answer, and what is left, are what reading gives, unless memory ran out
abbrev pub Reads : {A : Type 0} → Spot → Spot → Result A LexFault → Result (A × List ℕ) Fault → Type 0
Reads old new (Ok x) read = (read ≡ Ok (x, new.left)) × (new.end ≡ old.end)
Reads old new (Err e) read = FailsBy (fault_of e) read

-- the same where the answer is what a state has become
abbrev pub StepsTo : {S : Type 0} → S → Spot → Spot → Result (Unit {0}) LexFault → Result (S × List ℕ) Fault → Type 0
StepsTo after old new (Ok x) read = (read ≡ Ok (after, new.left)) × (new.end ≡ old.end)
StepsTo after old new (Err e) read = FailsBy (fault_of e) read

-- a fault inside of what begins in front of s stands where it begins
abbrev pub inside_of : ℕ → List ℕ → Option Fault → Option Fault
inside_of end s (Some f) = Some (fault.inside end s f)
inside_of end s None = None

-- this is the first fault of the bytes, unless memory ran out
abbrev pub FirstFault : List ℕ → Option Fault → Type 0
FirstFault bytes (Some f) = LexStops bytes f
FirstFault bytes None = Unit {0}
