-- The type of a value, and the value that a local has at first (WebAssembly 1.0, 4.2.1 and 4.4.7).
use Rattle.ms_types.specs.declared.types.ValType.{ValType}
use Rattle.ms_types.specs.declared.types.ValType.TheVariants as types
use Rattle.ms_types.specs.declared.types.GlobalType.{GlobalType}
use Rattle.ms_handle.specs.declared.handle.Handle.TheVariants as handles
use Rattle.ms_linear.specs.declared.global.GlobalInst.{GlobalInst}
use Rattle.ms_linear.specs.declared.value.Value.{Value}
use Rattle.ms_linear.specs.declared.value.Value.TheVariants as values

abbrev pub type_of : Value → ValType
type_of (values.I32 n) = types.I32
type_of (values.I64 n) = types.I64
type_of (values.Handle h) = types.Handle

abbrev pub default_of : ValType → Value
default_of types.I32 = values.I32 0
default_of types.I64 = values.I64 0
default_of types.Handle = values.Handle handles.Null

abbrev pub global_type_of : GlobalInst → GlobalType
global_type_of g = record { ty = type_of g.value; mutable = g.mutable }
