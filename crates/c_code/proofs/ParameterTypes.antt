-- The types of a function's parameters, as a list.
use Rattle.std.proofs.Common.{◌≡◌, ◌∙◌, List, ◌∷◌, map, refl, ap}
use mathlib.Core.Former.{Count}
use Rattle.c_types.specs.declared.types.CType.{CType, Row_of-CType, end_of-CType, more_of-CType, items-the_row-CType, items_hidden-the_row-CType-0}
use Rattle.c_types.specs.declared.types.CType.TheVariants as code
use Rattle.c_types.specs.Types.{Ty, type_of, types_of}
use Rattle.c_typed.specs.Units.{list_of}
use Rattle.c_code.specs.Functions.{params_in}

row_is : (n : _) (row : Row_of-CType n) → list_of (types_of row) ≡ map type_of (items-the_row-CType n row)
row_is n end_of-CType = refl
row_is n (more_of-CType t ts) = ap (λ (us : List Ty). type_of t ∷ us) (row_is _ ts)

abbrev row_of : CType → (n : Count) × Row_of-CType n
row_of (code.Function' p r shape row) = (_, row)
row_of _ = (_, end_of-CType)

pub params_are : (f : _) → params_in (type_of (code.Function f)) ≡ map type_of f.value.params.items
params_are f =
    let row = row_of (code.Function f) in
    row_is row.0 row.1 ∙ ap (λ (ts : List CType). map type_of ts) (items_hidden-the_row-CType-0 f.value.params)
