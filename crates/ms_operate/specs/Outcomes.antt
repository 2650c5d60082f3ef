-- What an instruction on operands alone (WebAssembly 1.0, 4.4.1) makes of them, the topmost one first.
use Rattle.std.specs.Prelude.{◌≡◌, List, Result, Ok, Err}
use Rattle.ms_linear.specs.declared.value.Value.{Value}
use Rattle.ms_operate.specs.declared.trap.Trap.{Trap as TrapKind}

pub data Outcome : Type 0 where
  -- these are there afterwards
  Gives : List Value → Outcome
  -- it stops the program
  Trap : TrapKind → Outcome
  -- the operands that it takes aren't there
  Stuck : Outcome

-- The code did what the definition says: the operands are those, or it stopped and they are as before.
abbrev pub Does : Outcome → List Value → List Value → Result (Unit {0}) TrapKind → Type 0
Does outcome old new (Ok x) = outcome ≡ Gives new
Does outcome old new (Err trap) = (outcome ≡ Trap trap) × (new ≡ old)
