-- The value that a cell keeps, and what it keeps of a value.
use Rattle.ms_handle.specs.declared.handle.Handle.TheVariants as handles
use Rattle.ms_linear.specs.declared.operands.Kept.{Kept}
use Rattle.ms_linear.specs.declared.operands.Kept.TheVariants as parts
use Rattle.ms_linear.specs.declared.value.Value.{Value}
use Rattle.ms_linear.specs.declared.value.Value.TheVariants as values

abbrev pub value_of : Kept → Value
value_of (parts.I32 n) = values.I32 n
value_of (parts.I64 n) = values.I64 n
value_of parts.Null = values.Handle handles.Null
value_of parts.Broken = values.Handle handles.Broken
value_of (parts.Good sealed id base length offset) = values.Handle (handles.Good sealed id base length offset)

abbrev pub kept_of : Value → Kept
kept_of (values.I32 n) = parts.I32 n
kept_of (values.I64 n) = parts.I64 n
kept_of (values.Handle handles.Null) = parts.Null
kept_of (values.Handle handles.Broken) = parts.Broken
kept_of (values.Handle (handles.Good sealed id base length offset)) = parts.Good sealed id base length offset
