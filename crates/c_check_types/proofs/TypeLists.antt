-- The types of a function's parameters, as a list.
use Rattle.std.proofs.Common.{◌≡◌, ◌∙◌, ◌&&◌, Bool, true, false, suc, length, List, [], ◌∷◌, refl, ap}
use mathlib.Core.Former.{Count}
use Rattle.c_types.specs.declared.types.CType.{CType, Row_of-CType, end_of-CType, more_of-CType, items-the_row-CType, items_hidden-the_row-CType-0}
use Rattle.c_types.specs.declared.types.CType.TheVariants as code
use Rattle.c_types.specs.Types.{types, function, type_of, types_of}
use Rattle.c_types.specs.refinement.Views.{types_in}
use Rattle.c_check_types.specs.TypeEquality.{tys_of, same_type, same_types}

pub row_is : (n : _) (row : Row_of-CType n) → types_of row ≡ tys_of (types_in (items-the_row-CType n row))
row_is n end_of-CType = refl
row_is n (more_of-CType t ts) = ap (λ us. types (type_of t) us) (row_is _ ts)

-- the parameters of a function's type
abbrev row_of : CType → (n : Count) × Row_of-CType n
row_of (code.Function' p r shape row) = (_, row)
row_of _ = (_, end_of-CType)

pub function_is : (f : _) → type_of (code.Function f) ≡ function (type_of f.value.result) (tys_of (types_in f.value.params.items))
function_is f =
    let row = row_of (code.Function f) in
    ap (λ ts. function (type_of f.value.result) ts)
    (row_is row.0 row.1 ∙ ap (λ xs. tys_of (types_in xs)) (items_hidden-the_row-CType-0 f.value.params))

-- functions are the same where their results and their parameters are
pub same_functions : (f g : _) → same_type (type_of (code.Function f)) (type_of (code.Function g)) ≡ same_type (type_of f.value.result) (type_of g.value.result) && same_types (tys_of (types_in f.value.params.items)) (tys_of (types_in g.value.params.items))
same_functions f g = ap (λ t. same_type t (type_of (code.Function g))) (function_is f) ∙ ap (λ u. same_type (function (type_of f.value.result) (tys_of (types_in f.value.params.items))) u) (function_is g)

pub lengths_differ : (ts us : List CType) → (length ts ≡ length us → ⊥) → false ≡ same_types (tys_of (types_in ts)) (tys_of (types_in us))
lengths_differ [] [] differ = absurd (differ refl)
lengths_differ [] (u ∷ us) differ = refl
lengths_differ (t ∷ ts) [] differ = refl
lengths_differ (t ∷ ts) (u ∷ us) differ = further (same_type (type_of t) (type_of u)) (lengths_differ ts us (λ e. differ (ap suc e))) where
  further : (b : Bool) → {c : Bool} → false ≡ c → false ≡ b && c
  further true e = e
  further false e = refl
