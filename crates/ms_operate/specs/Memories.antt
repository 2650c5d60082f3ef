-- What instructions on the linear memory make of the operands and of the memory (WebAssembly 1.0, 4.4.4).
use Rattle.std.specs.Prelude.{ℕ, ◌+◌, ◌-◌, ◌^◌, Bool, true, ◌&&◌, List, ◌∷◌, Option, Some, None, if◌then◌else◌, nat_le, length}
use Rattle.ms_linear.specs.declared.value.Value.{Value}
use Rattle.ms_linear.specs.declared.value.Value.TheVariants.{I32}
use Rattle.ms_linear.specs.Memory.{Memory, grown, loaded, most_pages, pages, stored}
use Rattle.ms_module.specs.Accesses.{load_bytes, store_bytes}
use Rattle.ms_module.specs.declared.numeric.Width.TheVariants.{W32}
use Rattle.ms_module.specs.declared.access.Linear.{Linear}
use Rattle.ms_module.specs.declared.access.Linear.TheVariants.{Load, Store, Size, Grow}
use Rattle.ms_module.specs.declared.access.LoadOp.{LoadOp}
use Rattle.ms_module.specs.declared.access.MemArg.{MemArg}
use Rattle.ms_module.specs.declared.access.StoreOp.{StoreOp}
use Rattle.ms_operate.specs.Accesses.{number_of, value_of, width_of}
use Rattle.ms_operate.specs.Effects.{Effect, Gives, Stuck, Trap}
use Rattle.ms_operate.specs.declared.trap.Trap.TheVariants as traps

-- ---- accesses: the address is the operand and the instruction's offset, whose sum does not wrap around

abbrev pub load_at : LoadOp → MemArg → Memory → List Value → Option ℕ → Effect
load_at op arg m rest (Some base) =
    if nat_le (base + arg.offset + load_bytes op) (length m.bytes) then Gives (value_of op (loaded m (base + arg.offset) (load_bytes op)) ∷ rest) m else Trap traps.Linear
load_at op arg m rest None = Stuck

abbrev pub store_at : StoreOp → MemArg → Memory → List Value → Option ℕ → Option ℕ → Effect
store_at op arg m rest (Some base) (Some value) =
    if nat_le (base + arg.offset + store_bytes op) (length m.bytes) then Gives rest (stored m (base + arg.offset) (store_bytes op) value) else Trap traps.Linear
store_at op arg m rest base value = Stuck

-- ---- size, in pages

abbrev pub is_within : ℕ → Option ℕ → Bool
is_within n None = true
is_within n (Some max) = nat_le n max

abbrev pub may_grow : Memory → ℕ → Bool
may_grow m n = nat_le (pages m + n) most_pages && is_within (pages m + n) m.max

-- the size before, or -1 where it may not have so many more
abbrev pub grow_by : Memory → List Value → Option ℕ → Effect
grow_by m rest (Some n) = if may_grow m n then Gives (I32 (pages m) ∷ rest) (grown m n) else Gives (I32 (2 ^ 32 - 1) ∷ rest) m
grow_by m rest None = Stuck

-- ---- instructions. Of a store's operands the value is topmost.

abbrev pub linear_on : Linear → Memory → List Value → Effect
linear_on (Load op arg) m (v ∷ rest) = load_at op arg m rest (number_of W32 v)
linear_on (Store op arg) m (v ∷ u ∷ rest) = store_at op arg m rest (number_of W32 u) (number_of (width_of op) v)
linear_on Size m vs = Gives (I32 (pages m) ∷ vs) m
linear_on Grow m (v ∷ rest) = grow_by m rest (number_of W32 v)
linear_on i m vs = Stuck
