-- What the readers of the code give, against what reading gives.
use Rattle.std.specs.Prelude.{◌≡◌, ℕ, List, Option, Some, None, Result, Ok, Err}
use denote.Ref.{Bor}
use Rattle.ms_bytes.specs.Spot.{Spot}
use Rattle.c_lex.specs.declared.fault.CLex.{CLex}
use Rattle.c_lex.specs.declared.fault.CLex.TheVariants.{Char, Directive, Memory, TooBig, Unclosed}
use Rattle.c_lex.specs.Fault.{Fault}
use Rattle.c_lex.specs.Fault as fault
use Rattle.c_lex.specs.Lexing.{Stops}

-- the fault of the definition, but for want of memory
abbrev pub fault_of : CLex → Option Fault
fault_of (Char at) = Some (fault.Char at)
fault_of (Unclosed at) = Some (fault.Unclosed at)
fault_of (Directive at) = Some (fault.Directive at)
fault_of (TooBig at) = Some (fault.TooBig at)
fault_of Memory = None

-- the error that the code gives for a fault
abbrev pub error_of : Fault → CLex
error_of (fault.Char at) = Char at
error_of (fault.Unclosed at) = Unclosed at
error_of (fault.Directive at) = Directive at
error_of (fault.TooBig at) = TooBig at

abbrev pub FailsBy : {A : Type 0} → Option Fault → Result A Fault → Type 0
FailsBy (Some f) read = read ≡ Err f
FailsBy None read = Unit {0}

-- the answer, and what is left, are what reading gives, unless memory ran out
abbrev pub Reads : {A : Type 0} → Spot → Spot → Result A CLex → Result (A × List ℕ) Fault → Type 0
Reads old new (Ok x) read = (read ≡ Ok (x, new.left)) × (new.end ≡ old.end)
Reads old new (Err e) read = FailsBy (fault_of e) read

-- the same where the answer is a part of the bytes
abbrev pub ReadsPart : Spot → Spot → Result (Bor (List ℕ)) CLex → Result (List ℕ × List ℕ) Fault → Type 0
ReadsPart old new (Ok x) read = (read ≡ Ok (x.now, new.left)) × (new.end ≡ old.end)
ReadsPart old new (Err e) read = FailsBy (fault_of e) read

-- the same where the answer is what a state has become
abbrev pub StepsTo : {S : Type 0} → S → Spot → Spot → Result (Unit {0}) CLex → Result (S × List ℕ) Fault → Type 0
StepsTo after old new (Ok x) read = (read ≡ Ok (after, new.left)) × (new.end ≡ old.end)
StepsTo after old new (Err e) read = FailsBy (fault_of e) read

-- this is the first fault of the bytes, unless memory ran out
abbrev pub FirstFault : List ℕ → Option Fault → Type 0
FirstFault bytes (Some f) = Stops bytes f
FirstFault bytes None = Unit {0}
