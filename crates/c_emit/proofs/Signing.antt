-- The types of functions of the machine for those of C, and their keys.
use Rattle.std.proofs.Common.{◌≡◌, ◌∙◌, List, [], ◌∷◌, map, false, refl, ap}
use mathlib.Core.Former.{Count}
use Rattle.ms_types.specs.declared.types.FuncType.{FuncType}
use Rattle.ms_types.specs.declared.types.ValType.{ValType}
use Rattle.c_types.specs.declared.types.CType.{CType, Row_of-CType, end_of-CType, more_of-CType, items-the_row-CType, items_hidden-the_row-CType-0}
use Rattle.c_types.specs.declared.types.CType.TheVariants as c_types
use Rattle.c_types.specs.Types.{Ty, type_of, types_of}
use Rattle.c_typed.specs.Units.{list_of}
use Rattle.c_code.specs.Functions.{held_as, listed, signature}
use Rattle.c_code.specs.Operations.{val_of}

-- ---- what parameters are held in

row_is : (n : _) (row : Row_of-CType n) → list_of (types_of row) ≡ map type_of (items-the_row-CType n row)
row_is n end_of-CType = refl
row_is n (more_of-CType t ts) = ap (λ us. type_of t ∷ us) (row_is _ ts)

abbrev row_of : CType → (n : Count) × Row_of-CType n
row_of (c_types.Function' p r shape row) = (_, row)
row_of _ = (_, end_of-CType)

abbrev of_parts : List Ty → Ty → FuncType
of_parts ts r = record { params = map (held_as false) ts; results = listed (val_of r) }

one_by_one : (ts : List CType) → map (held_as false) (map type_of ts) ≡ map (λ t. held_as false (type_of t)) ts
one_by_one [] = refl
one_by_one (t ∷ ts) = ap (λ us. held_as false (type_of t) ∷ us) (one_by_one ts)

pub signature_is : (f : _) → signature (type_of (c_types.Function f)) ≡ record { params = map (λ t. held_as false (type_of t)) f.value.params.items; results = listed (val_of (type_of f.value.result)) }
signature_is f =
    let row = row_of (c_types.Function f) in
    ap (λ ts. of_parts ts (type_of f.value.result)) (row_is row.0 row.1 ∙ ap (λ xs. map type_of xs) (items_hidden-the_row-CType-0 f.value.params))
    ∙ ap (λ (vs : List ValType). record { params = vs; results = listed (val_of (type_of f.value.result)) }) (one_by_one f.value.params.items)
