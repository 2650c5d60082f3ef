-- How types are written (WebAssembly 1.0, 5.3). The codes of value types stand in the table of instructions (`Instructions` of
-- `ms_module`).
use Rattle.std.specs.Prelude.{ℕ, Bool, true, false, List, [], ◌∷◌, ◌++◌, Option, Some, None}
use Rattle.ms_types.specs.declared.types.ValType.{ValType}
use Rattle.ms_types.specs.declared.types.FuncType.{FuncType}
use Rattle.ms_types.specs.declared.types.GlobalType.{GlobalType}
use Rattle.ms_types.specs.declared.types.Limits.{Limits}
use Rattle.ms_module.specs.Instructions.{value_rows}
use Rattle.ms_flat.specs.Keywords.{code_of, value_word}
use Rattle.ms_bin_write.specs.Parts.{number_bytes, vec_bytes}

unfoldable pub value_code : ValType → ℕ
value_code ty = code_of value_rows (value_word ty)

abbrev pub value_bytes : ValType → List ℕ
value_bytes ty = value_code ty ∷ []

-- 40 for no result, or the type of the result
abbrev pub block_type_code : Option ValType → ℕ
block_type_code None = 0x40
block_type_code (Some ty) = value_code ty

-- 60, the parameters and the results
abbrev pub func_type_bytes : FuncType → List ℕ
func_type_bytes ft = 0x60 ∷ (vec_bytes value_bytes ft.params ++ vec_bytes value_bytes ft.results)

-- 00 and the least size, or 01 and the greatest one, too
abbrev pub limits_by : ℕ → Option ℕ → List ℕ
limits_by min None = 0x00 ∷ number_bytes min
limits_by min (Some max) = 0x01 ∷ (number_bytes min ++ number_bytes max)

abbrev pub limits_bytes : Limits → List ℕ
limits_bytes l = limits_by l.min l.max

-- 70 and the limits
abbrev pub table_bytes : Limits → List ℕ
table_bytes l = 0x70 ∷ limits_bytes l

-- 00 for a constant, 01 for a variable
abbrev pub mutability_code : Bool → ℕ
mutability_code false = 0x00
mutability_code true = 0x01

abbrev pub global_type_bytes : GlobalType → List ℕ
global_type_bytes g = value_code g.ty ∷ mutability_code g.mutable ∷ []
