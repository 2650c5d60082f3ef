-- What the readers of the code give, against what reading gives.
use Rattle.std.specs.Prelude.{◌≡◌, ℕ, List, Option, Some, None, Result, Ok, Err}
use Rattle.ms_text_lex.specs.declared.token.Token.{Token}
use Rattle.ms_text_grammar.specs.declared.fault.TextFault.{TextFault}
use Rattle.ms_text_grammar.specs.declared.fault.TextFault.TheVariants.{Float, Lex, Limit, Memory, Name, Range, Syntax}
use Rattle.ms_text_grammar.specs.Tokens.{Spot}

-- the fault, but for want of memory
abbrev pub fault_of : TextFault → Option TextFault
fault_of (Lex f) = Some (Lex f)
fault_of (Syntax at) = Some (Syntax at)
fault_of (Range at) = Some (Range at)
fault_of (Float at) = Some (Float at)
fault_of (Limit which at) = Some (Limit which at)
fault_of (Name at) = Some (Name at)
fault_of Memory = None

abbrev pub FailsBy : {A : Type 0} → Option TextFault → Result A TextFault → Type 0
FailsBy (Some f) read = read ≡ Err f
FailsBy None read = Unit {0}

-- the answer, and what is left, are what reading gives, unless memory ran out
abbrev pub Reads : {A : Type 0} → Spot → Spot → Result A TextFault → Result (A × List Token) TextFault → Type 0
Reads old new (Ok x) read = (read ≡ Ok (x, new.left)) × (new.source ≡ old.source)
Reads old new (Err e) read = FailsBy (fault_of e) read

-- the same where the answer is what a state has become
abbrev pub StepsTo : {S : Type 0} → S → Spot → Spot → Result (Unit {0}) TextFault → Result (S × List Token) TextFault → Type 0
StepsTo after old new (Ok x) read = (read ≡ Ok (after, new.left)) × (new.source ≡ old.source)
StepsTo after old new (Err e) read = FailsBy (fault_of e) read
