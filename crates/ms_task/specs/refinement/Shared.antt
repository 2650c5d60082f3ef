-- Types of locals that are shared.
use Rattle.std.specs.Prelude.{List, [], Option, Some, None}
use Rattle.ms_types.specs.declared.types.ValType.{ValType}

abbrev pub types_in : Option (List ValType) → List ValType
types_in None = []
types_in (Some types) = types
