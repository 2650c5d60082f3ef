-- Function types by keys: types are the same where their keys are.
use Rattle.std.specs.Prelude.{ℕ, suc, List, [], ◌∷◌, ◌++◌, Option, Some, None, Vec, nat_eq, if◌then◌else◌}
use Rattle.std.specs.BTreeMap.{BTreeMap, get}
use Rattle.std.specs.Cmp.Lexicographic.{slice_cmp}
use Rattle.std.specs.Ordering.{nat_cmp}
use lib.Pointwise.{pointwise}
use Rattle.ms_types.specs.declared.types.ValType.{ValType}
use Rattle.ms_types.specs.declared.types.ValType.TheVariants.{I32, I64, Handle}
use Rattle.ms_types.specs.declared.types.FuncType.{FuncType}

abbrev pub code_of : ValType → ℕ
code_of I32 = 1
code_of I64 = 2
code_of Handle = 3

abbrev pub codes_of : List ValType → List ℕ
codes_of [] = []
codes_of (ty ∷ tys) = code_of ty ∷ codes_of tys

-- the codes of the parameters, 0, and those of the results
abbrev pub key_of : FuncType → List ℕ
key_of ty = codes_of ty.params ++ 0 ∷ codes_of ty.results

-- the first type of a key
abbrev pub first_of : List FuncType → List ℕ → ℕ → Option ℕ
first_of [] key n = None
first_of (ty ∷ tys) key n = if pointwise nat_eq (key_of ty) key then Some n else first_of tys key (suc n)

-- ---- the numbers of keys, as they are kept

abbrev pub at_key : {Z : Type 0} → BTreeMap (Vec ℕ Z) ℕ → Vec ℕ Z → Option ℕ
at_key numbers key = get (λ x y. slice_cmp nat_cmp x.items y.items) numbers key
