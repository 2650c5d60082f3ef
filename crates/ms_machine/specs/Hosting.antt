-- What a call of the host makes of the operands (WebAssembly 1.0, 4.4.7.3).
use Rattle.std.specs.Prelude.{ℕ, Bool, true, false, List, ◌∷◌, Option, Some, None}
use Rattle.ms_host.specs.Host.{lowest_byte, number_of}
use Rattle.ms_host.specs.declared.host.Host.{Host}
use Rattle.ms_host.specs.declared.host.Host.TheVariants.{Putchar, Getchar, Abort}
use Rattle.ms_host.specs.declared.trap.TrapKind.{TrapKind}
use Rattle.ms_host.specs.declared.trap.TrapKind.TheVariants as traps
use Rattle.ms_linear.specs.declared.value.Value.{Value}
use Rattle.ms_linear.specs.declared.value.Value.TheVariants.{I32}

pub data Effect : Type 0 where
  -- these operands are there afterwards, and this byte was put
  Gives : List Value → (put : Option ℕ) → Effect
  -- the program is stopped
  Trap : TrapKind → Effect
  -- an operand isn't there
  Stuck : Effect

-- where a take gives this byte, or the end
abbrev pub host_on : Host → (got : Option ℕ) → List Value → Effect
host_on Putchar got (I32 n ∷ vs) = Gives (I32 (lowest_byte n) ∷ vs) (Some (lowest_byte n))
host_on Getchar got vs = Gives (I32 (number_of got) ∷ vs) None
host_on Abort got vs = Trap traps.Abort
host_on _ got vs = Stuck

abbrev pub takes : Host → Bool
takes Getchar = true
takes _ = false
