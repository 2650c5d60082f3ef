-- How types are spelled (WebAssembly 1.0, 5.3). Codes of floating-point types are told apart from those of no type.
use Rattle.std.specs.Prelude.{ℕ, Bool, true, false, List, [], ◌∷◌, Option, Some, None}
use Rattle.ms_bytes.specs.Do.{◌>>=◌}
use Rattle.ms_bytes.specs.Parts.{pure}
use Rattle.ms_bytes.specs.Tests.{marks}
use Rattle.ms_bytes.specs.Codes.{Case, Coded, Is}
use Rattle.ms_bytes.specs.Choice.{among, coded, no_other, table}
use Rattle.ms_types.specs.declared.types.ValType.{ValType}
use Rattle.ms_types.specs.declared.types.FuncType.{FuncType}
use Rattle.ms_types.specs.declared.types.GlobalType.{GlobalType}
use Rattle.ms_types.specs.declared.types.Limits.{Limits}
use Rattle.ms_module.specs.Instructions.{by_code, is_float_type, value_rows}
use Rattle.ms_bin_grammar.specs.declared.fault.ReadFault.{ReadFault}
use Rattle.ms_bin_grammar.specs.declared.fault.ReadFault.TheVariants.{Malformed}
use Rattle.ms_bin_grammar.specs.Faults.{Binary, malformed, wrong}
use Rattle.ms_bin_grammar.specs.Numbers.{number, vec}

-- one of these codes, and no other
abbrev pub one_of : {A : Type 0} → List (ℕ × Case ReadFault A) → Binary A
one_of rows = coded malformed (among rows (no_other (λ at code. Malformed at)))

-- ---- value types

-- no type: a fault at the code
abbrev pub no_type : {A : Type 0} → Coded ReadFault A
no_type = no_other (λ at code. wrong (is_float_type code) at)

unfoldable pub val_types : Coded ReadFault ValType
val_types = table (by_code value_rows) (λ t. pure t) no_type

unfoldable pub val_type : Binary ValType
val_type = coded malformed val_types

-- 40 for no result, or the type of the result
unfoldable pub block_types : Coded ReadFault (Option ValType)
block_types = among ((0x40, Is (pure None)) ∷ []) (table (by_code value_rows) (λ t. pure (Some t)) no_type)

unfoldable pub block_type : Binary (Option ValType)
block_type = coded malformed block_types

-- ---- other types

-- 60, the parameters and the results
unfoldable pub func_type : Binary FuncType
func_type = do
  start ← marks malformed (0x60 ∷ [])
  params ← vec val_type
  results ← vec val_type
  pure (record { params = params; results = results })

-- 00 and the least size, or 01 and the greatest one, too
unfoldable pub limits : Binary Limits
limits = one_of ((
  0x00,
  Is (do
    min ← number
    pure (record { min = min; max = None })),
) ∷ (
  0x01,
  Is (do
    min ← number
    max ← number
    pure (record { min = min; max = Some max })),
) ∷ [])

-- 70 and the limits
unfoldable pub table_type : Binary Limits
table_type = do
  start ← marks malformed (0x70 ∷ [])
  limits

-- 00 for a constant, 01 for a variable
unfoldable pub mutability : Binary Bool
mutability = one_of ((0x00, Is (pure false)) ∷ (0x01, Is (pure true)) ∷ [])

unfoldable pub global_type : Binary GlobalType
global_type = do
  ty ← val_type
  mutable ← mutability
  pure (record { ty = ty; mutable = mutable })
