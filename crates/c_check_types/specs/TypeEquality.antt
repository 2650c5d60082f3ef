-- When types are the same (C11, 6.2.7): structs by their tags, arrays with their lengths, functions with their parameters.
use Rattle.std.specs.Prelude.{◌&&◌, ◌==◌, Bool, true, false, List, [], ◌∷◌}
pub use Rattle.c_types.specs.Integers.{index_of, same_integer}
use Rattle.c_types.specs.Types.{Ty, void, integer, struct, pointer, array, function, Tys, no_types, types}

abbrev mutual
  pub same_type : Ty → Ty → Bool
  same_type void void = true
  same_type (integer t) (integer u) = same_integer t u
  same_type (struct m) (struct n) = m == n
  same_type (pointer t) (pointer u) = same_type t u
  same_type (array t m) (array u n) = (m == n) && same_type t u
  same_type (function r ps) (function s qs) = same_type r s && same_types ps qs
  same_type _ _ = false

  pub same_types : Tys → Tys → Bool
  same_types no_types no_types = true
  same_types (types t ts) (types u us) = same_type t u && same_types ts us
  same_types _ _ = false

-- ---- lists of types

abbrev pub tys_of : List Ty → Tys
tys_of [] = no_types
tys_of (t ∷ ts) = types t (tys_of ts)
