-- The leaves of a struct, in rising order, by which it is copied (C11, 6.5.16.1).
use Rattle.std.specs.Prelude.{ℕ, zero, suc, ◌+◌, ◌*◌, List, [], ◌∷◌, ◌++◌, Option, Some, None}
use Rattle.c_types.specs.declared.types.Scalar.{Scalar}
use Rattle.c_types.specs.Types.{Ty, struct, scalar_of}
use Rattle.c_types.specs.Layout.{Table}
use Rattle.c_meaning.specs.Shapes.{Shape, scalar, elements, record', Members, no_members, member, shape, size}

-- a leaf as an element of its array, of which a member that is no array counts as one: where the array begins in the struct, its
-- length in bytes, the index, and the type
pub record Leaf : Type 0 where
  pub from : ℕ
  pub length : ℕ
  pub index : ℕ
  pub ty : Ty

-- so many times, from an index on
abbrev pub each_from : (n i : ℕ) → (ℕ → List Leaf) → List Leaf
each_from zero i f = []
each_from (suc n) i f = f i ++ each_from n (suc i) f

-- of the element of this index, which begins at `place`, of such an array
abbrev mutual
  pub leaves_at : Shape → (from length index place : ℕ) → List Leaf
  leaves_at (scalar t) from n i place = record { from = from; length = n; index = i; ty = t } ∷ []
  leaves_at (elements s k) from n i place = each_from k 0 (λ j. leaves_at s place (k * size s) j (place + j * size s))
  leaves_at (record' k ms) from n i place = leaves_of ms place

  pub leaves_of : Members → (place : ℕ) → List Leaf
  leaves_of no_members place = []
  leaves_of (member o s ms) place = leaves_at s (place + o) (size s) 0 (place + o) ++ leaves_of ms place

-- of the struct of this number
abbrev pub leaves : Table → ℕ → List Leaf
leaves structs n = let s = shape structs (struct n) in leaves_at s 0 (size s) 0 0
