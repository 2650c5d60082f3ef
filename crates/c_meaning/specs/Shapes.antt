-- Types of objects with their structs written out, as they lie in memory (C11, 6.2.5, 6.2.8 and 6.7.2.1): sizes and offsets stand
-- in them, so that below a shape no table is looked at.
use Rattle.std.specs.Prelude.{ℕ, zero, suc, ◌*◌, ◌/◌, List, ◌∷◌, Option, Some, None}
use Rattle.c_types.specs.Integers.{bits}
use Rattle.c_types.specs.Layout.{Layout, Table, depth, layout_at, pointer_size}
use Rattle.c_types.specs.Types.{Ty, integer, struct, pointer, array}

mutual
  pub data Shape : Type 0 where
    -- of an integer type, or of a pointer type: it holds one value
    scalar : Ty → Shape
    elements : Shape → (count : ℕ) → Shape
    record' : (size : ℕ) → Members → Shape

  pub data Members : Type 0 where
    no_members : Members
    member : (offset : ℕ) → Shape → Members → Members

-- ---- sizes, in bytes

abbrev pub width : Ty → ℕ
width (integer t) = bits t / 8
width (pointer t) = pointer_size t
width _ = 0

abbrev pub size : Shape → ℕ
size (scalar t) = width t
size (elements s n) = n * size s
size (record' n ms) = n

-- ---- the shape of a type

-- by the shapes of the structs in it
abbrev pub shape_with : (ℕ → Shape) → Ty → Shape
shape_with of (struct n) = of n
shape_with of (array t n) = elements (shape_with of t) n
shape_with of t = scalar t

abbrev pub members_with : (ℕ → Shape) → List Ty → List ℕ → Members
members_with of (t ∷ ts) (o ∷ os) = member o (shape_with of t) (members_with of ts os)
members_with of _ _ = no_members

abbrev pub shape_in : (ℕ → Shape) → Option Layout → Shape
shape_in of None = record' 0 no_members
shape_in of (Some l) = record' l.size (members_with of l.members l.offsets)

-- of a struct of a number, by how deep structs lie in it
abbrev pub struct_shape : Table → (deep : ℕ) → ℕ → Shape
struct_shape table zero n = record' 0 no_members
struct_shape table (suc d) n = shape_in (struct_shape table d) (layout_at table n)

abbrev pub shape : Table → Ty → Shape
shape table t = shape_with (struct_shape table (depth table t)) t

-- ---- members

pub record Part : Type 0 where
  pub offset : ℕ
  pub shape : Shape

abbrev pub nth_member : Members → ℕ → Option Part
nth_member no_members m = None
nth_member (member o s ms) zero = Some (record { offset = o; shape = s })
nth_member (member o s ms) (suc m) = nth_member ms m

abbrev pub part_of : Shape → ℕ → Option Part
part_of (record' n ms) m = nth_member ms m
part_of _ m = None
