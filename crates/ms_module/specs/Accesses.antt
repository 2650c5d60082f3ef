-- How many bits and bytes integers and accesses have (WebAssembly 1.0, 2.3.1 and 2.4.4).
use Rattle.std.specs.Prelude.{ℕ}
use Rattle.ms_module.specs.declared.numeric.Width.{Width}
use Rattle.ms_module.specs.declared.numeric.Width.TheVariants.{W32, W64}
use Rattle.ms_module.specs.declared.access.LoadOp.{LoadOp}
use Rattle.ms_module.specs.declared.access.LoadOp.TheVariants as loads
use Rattle.ms_module.specs.declared.access.StoreOp.{StoreOp}
use Rattle.ms_module.specs.declared.access.StoreOp.TheVariants as stores

abbrev pub bits : Width → ℕ
bits W32 = 32
bits W64 = 64

-- how many bytes of memory a load reads
abbrev pub load_bytes : LoadOp → ℕ
load_bytes loads.I32Load = 4
load_bytes loads.I64Load = 8
load_bytes loads.I32Load8S = 1
load_bytes loads.I32Load8U = 1
load_bytes loads.I32Load16S = 2
load_bytes loads.I32Load16U = 2
load_bytes loads.I64Load8S = 1
load_bytes loads.I64Load8U = 1
load_bytes loads.I64Load16S = 2
load_bytes loads.I64Load16U = 2
load_bytes loads.I64Load32S = 4
load_bytes loads.I64Load32U = 4

-- how many bytes of memory a store writes
abbrev pub store_bytes : StoreOp → ℕ
store_bytes stores.I32Store = 4
store_bytes stores.I64Store = 8
store_bytes stores.I32Store8 = 1
store_bytes stores.I32Store16 = 2
store_bytes stores.I64Store8 = 1
store_bytes stores.I64Store16 = 2
store_bytes stores.I64Store32 = 4
