-- Types as plain values (C11, 6.2.5). The code's types hold the same behind shared pointers and in vectors.
use Rattle.std.specs.Prelude.{ℕ, Bool, true, false, Option, Some, None, if◌then◌else◌}
use Rattle.c_types.specs.declared.integers.IntType.{IntType}
use Rattle.c_types.specs.declared.types.Scalar.{Scalar}
use Rattle.c_types.specs.declared.types.Scalar.TheVariants as scalars
use Rattle.c_types.specs.declared.types.CType.{CType, Row_of-CType, end_of-CType, more_of-CType}
use Rattle.c_types.specs.declared.types.CType.TheVariants as code

mutual
  pub data Ty : Type 0 where
    void : Ty
    integer : IntType → Ty
    struct : (number : ℕ) → Ty
    pointer : Ty → Ty
    array : Ty → (count : ℕ) → Ty
    function : (result : Ty) → (params : Tys) → Ty

  pub data Tys : Type 0 where
    no_types : Tys
    types : Ty → Tys → Tys

abbrev pub is_function : Ty → Bool
is_function (function r ps) = true
is_function _ = false

-- what an object of the type holds, where it holds one value (6.2.5, paragraph 21)
abbrev pub scalar_of : Ty → Option Scalar
scalar_of void = None
scalar_of (integer t) = Some (scalars.Int t)
scalar_of (struct n) = None
scalar_of (pointer t) = Some (if is_function t then scalars.Function else scalars.Pointer)
scalar_of (array t n) = None
scalar_of (function r ps) = None

-- ---- what the code's types are

abbrev mutual
  pub type_of : CType → Ty
  type_of code.Void = void
  type_of (code.Int t) = integer t
  type_of (code.Struct n) = struct n
  type_of (code.Pointer' p t) = pointer (type_of t)
  type_of (code.Array' p t n) = array (type_of t) n
  type_of (code.Function' p r shape ps) = function (type_of r) (types_of ps)

  pub types_of : {m : _} → Row_of-CType m → Tys
  types_of end_of-CType = no_types
  types_of (more_of-CType t ts) = types (type_of t) (types_of ts)
