-- Function types as they are written (WebAssembly 1.0, 6.4.3 and 6.6.3), apart from the identifiers of their parameters.
use Rattle.std.specs.Prelude.{◌==◌, ◌&&◌, not, ℕ, suc, Bool, true, false, List, [], ◌∷◌, length, if◌then◌else◌}
use lib.Pointwise.{pointwise}
use Rattle.ms_types.specs.declared.types.ValType.{ValType}
use Rattle.ms_types.specs.declared.types.ValType.TheVariants.{I32, I64, Handle}
use Rattle.ms_types.specs.declared.types.FuncType.{FuncType}
use Rattle.ms_text_grammar.specs.declared.surface.Param.{Param}
use Rattle.ms_text_grammar.specs.declared.surface.TypeField.{TypeField}
use Rattle.ms_text_grammar.specs.declared.surface.TypeUse.{TypeUse}

abbrev pub same_type : ValType → ValType → Bool
same_type I32 I32 = true
same_type I64 I64 = true
same_type Handle Handle = true
same_type _ _ = false

abbrev pub same_shape : FuncType → FuncType → Bool
same_shape a b = pointwise same_type a.params b.params && pointwise same_type a.results b.results

abbrev pub param_types : List Param → List ValType
param_types [] = []
param_types (p ∷ ps) = p.ty ∷ param_types ps

-- the type of a type field, and the one that a type use writes
abbrev pub field_type : TypeField → FuncType
field_type f = record { params = param_types f.params; results = f.results }

abbrev pub use_type : TypeUse → FuncType
use_type u = record { params = param_types u.params; results = u.results }

-- whether a use writes parameters or results
abbrev pub is_written : TypeUse → Bool
is_written u = not ((length u.params == 0) && (length u.results == 0))

-- whether a type is among these
abbrev pub has_type : FuncType → List FuncType → Bool
has_type ty [] = false
has_type ty (other ∷ others) = if same_shape ty other then true else has_type ty others

-- the index of the first equal one, or the number of types where there is none
abbrev pub least_equal : FuncType → List FuncType → ℕ
least_equal ty [] = 0
least_equal ty (other ∷ others) = if same_shape ty other then 0 else suc (least_equal ty others)
