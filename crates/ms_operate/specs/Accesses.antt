-- Numbers as values, and the numbers that loads read and stores write (WebAssembly 1.0, 4.4.4).
use Rattle.std.specs.Prelude.{ℕ, true, Option, Some, None}
use Rattle.ms_num.specs.Integers as int
use Rattle.ms_linear.specs.declared.value.Value.{Value}
use Rattle.ms_linear.specs.declared.value.Value.TheVariants.{I32, I64}
use Rattle.ms_module.specs.declared.access.LoadOp.{LoadOp}
use Rattle.ms_module.specs.declared.access.LoadOp.TheVariants as loads
use Rattle.ms_module.specs.declared.access.StoreOp.{StoreOp}
use Rattle.ms_module.specs.declared.access.StoreOp.TheVariants as stores
use Rattle.ms_module.specs.declared.numeric.Width.{Width}
use Rattle.ms_module.specs.declared.numeric.Width.TheVariants.{W32, W64}

abbrev pub integer : Width → ℕ → Value
integer W32 n = I32 n
integer W64 n = I64 n

-- the number that a value of this width is
abbrev pub number_of : Width → Value → Option ℕ
number_of W32 (I32 n) = Some n
number_of W64 (I64 n) = Some n
number_of w v = None

-- the value of the number that a load has read
abbrev pub value_of : LoadOp → ℕ → Value
value_of loads.I32Load n = I32 n
value_of loads.I64Load n = I64 n
value_of loads.I32Load8S n = I32 (int.extend 8 32 true n)
value_of loads.I32Load8U n = I32 n
value_of loads.I32Load16S n = I32 (int.extend 16 32 true n)
value_of loads.I32Load16U n = I32 n
value_of loads.I64Load8S n = I64 (int.extend 8 64 true n)
value_of loads.I64Load8U n = I64 n
value_of loads.I64Load16S n = I64 (int.extend 16 64 true n)
value_of loads.I64Load16U n = I64 n
value_of loads.I64Load32S n = I64 (int.extend 32 64 true n)
value_of loads.I64Load32U n = I64 n

-- the width of the value that a store takes
abbrev pub width_of : StoreOp → Width
width_of stores.I32Store = W32
width_of stores.I32Store8 = W32
width_of stores.I32Store16 = W32
width_of _ = W64
