-- What the code answers, beside what linking is. Where memory ran out nothing is said.
use Rattle.std.specs.Prelude.{◌≡◌, ℕ, List, Option, Some, None, Result, Ok, Err}
use Rattle.ms_module.specs.declared.module.Module.{Module}
use Rattle.ms_machine.specs.Externs.{Fault}
use Rattle.ms_machine.specs.Linked.{linked}
use Rattle.ms_machine.specs.Store.{Store}
use Rattle.ms_link.specs.declared.fault.LinkFault.{LinkFault}
use Rattle.ms_link.specs.declared.fault.LinkFault.TheVariants.{Refused, Memory}

abbrev pub IsFault : Fault → LinkFault → Type 0
IsFault fault (Refused m item why) = fault ≡ record { «module» = m; item = item; why = why }
IsFault fault Memory = Unit {0}

-- this one, or the fault that refuses it
abbrev pub LinkAnswers : {A : Type 0} → Result A Fault → Result A LinkFault → Type 0
LinkAnswers what (Ok x) = what ≡ Ok x
LinkAnswers what (Err (Refused m item why)) = what ≡ Err (record { «module» = m; item = item; why = why })
LinkAnswers what (Err Memory) = Unit {0}

-- nothing, or the fault that is found
abbrev pub Tests : {A : Type 0} → Option Fault → Result A LinkFault → Type 0
Tests fault (Ok x) = fault ≡ None
Tests fault (Err (Refused m item why)) = fault ≡ Some (record { «module» = m; item = item; why = why })
Tests fault (Err Memory) = Unit {0}

-- the store of the modules, or the first fault
abbrev pub DoesLink : List (List ℕ × Module) → (capacity : ℕ) → Result Store LinkFault → Type 0
DoesLink modules capacity result = LinkAnswers (linked modules capacity) result
