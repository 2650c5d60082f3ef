-- What an instruction on the linear memory (WebAssembly 1.0, 4.4.4) makes of the operands, the topmost one first, and of the memory.
use Rattle.std.specs.Prelude.{◌≡◌, List, Result, Ok, Err}
use Rattle.ms_linear.specs.declared.value.Value.{Value}
use Rattle.ms_linear.specs.Memory.{Memory}
use Rattle.ms_operate.specs.declared.trap.Fault.{Fault}
use Rattle.ms_operate.specs.declared.trap.Fault.TheVariants as faults
use Rattle.ms_operate.specs.declared.trap.Trap.{Trap as TrapKind}

pub data Effect : Type 0 where
  -- these operands and this memory are there afterwards
  Gives : List Value → Memory → Effect
  -- it stops the program
  Trap : TrapKind → Effect
  -- the operands that it takes aren't there
  Stuck : Effect

-- The code did what the definition says: the operands and the memory are those, or it stopped and they are as before. Where
-- memory runs out nothing has changed.
abbrev pub DoesInMemory : Effect → List Value → List Value → Memory → Memory → Result (Unit {0}) Fault → Type 0
DoesInMemory effect old new old-memory new-memory (Ok x) = effect ≡ Gives new new-memory
DoesInMemory effect old new old-memory new-memory (Err (faults.Trap trap)) = (effect ≡ Trap trap) × (new ≡ old) × (new-memory ≡ old-memory)
DoesInMemory effect old new old-memory new-memory (Err faults.Memory) = (new ≡ old) × (new-memory ≡ old-memory)
