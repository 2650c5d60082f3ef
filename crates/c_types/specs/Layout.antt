-- Sizes, alignments and offsets (C11, 6.2.8, 6.5.3.4 and 6.7.2.1).
use Rattle.std.specs.Prelude.{◌≡◌, ℕ, ◌+◌, ◌-◌, ◌*◌, ◌/◌, ◌^◌, ◌<◌, ◌≤◌, max, List, [], ◌∷◌, slice_get, slice_index, Option, Some, None, IsSome, if◌then◌else◌}
use Rattle.std.specs.List.{All}
use Rattle.c_types.specs.Integers.{bits}
use Rattle.c_types.specs.Types.{Ty, void, integer, struct, pointer, array, function, is_function}

-- a struct that is defined: the types of its members, where each begins, the size and the alignment
pub record Layout : Type 0 where
  pub members : List Ty
  pub offsets : List ℕ
  pub size : ℕ
  pub align : ℕ
  -- how deep structs lie in it, itself counted: it is above each struct that is in it
  pub depth : ℕ

-- the structs, by the numbers of their tags; None: not defined so far
abbrev pub Table : Type 0
Table = List (Option Layout)

abbrev pub layout_in : Option (Option Layout) → Option Layout
layout_in None = None
layout_in (Some l) = l

abbrev pub layout_at : Table → ℕ → Option Layout
layout_at table n = layout_in (slice_get table n)

abbrev pub IsDefined : Table → ℕ → Type 0
IsDefined table n = IsSome (layout_at table n)

-- ---- of a type

-- neither void, nor functions, nor structs that aren't defined have a size
abbrev pub HasSize : Table → Ty → Type 0
HasSize table void = ⊥
HasSize table (integer t) = Unit {0}
HasSize table (struct n) = IsDefined table n
HasSize table (pointer t) = Unit {0}
HasSize table (array t n) = (0 < n) × HasSize table t
HasSize table (function r ps) = ⊥

abbrev pub pointer_size : Ty → ℕ
pointer_size t = if is_function t then 4 else 16

abbrev pub size_in : Option Layout → ℕ
size_in None = 0
size_in (Some l) = l.size

abbrev pub align_in : Option Layout → ℕ
align_in None = 1
align_in (Some l) = l.align

abbrev pub size : Table → Ty → ℕ
size table void = 0
size table (integer t) = bits t / 8
size table (struct n) = size_in (layout_at table n)
size table (pointer t) = pointer_size t
size table (array t n) = n * size table t
size table (function r ps) = 0

abbrev pub align : Table → Ty → ℕ
align table void = 1
align table (integer t) = bits t / 8
align table (struct n) = align_in (layout_at table n)
align table (pointer t) = pointer_size t
align table (array t n) = align table t
align table (function r ps) = 1

-- how deep structs lie in a type: a struct that is defined is deeper than all in it
abbrev pub depth_in : Option Layout → ℕ
depth_in None = 0
depth_in (Some l) = l.depth

abbrev pub depth : Table → Ty → ℕ
depth table (struct n) = depth_in (layout_at table n)
depth table (array t n) = depth table t
depth table _ = 0

-- ---- of members, each at the next place of its alignment

abbrev pub round_up : (align n : ℕ) → ℕ
round_up align n = (n + align - 1) / align * align

abbrev pub offsets_from : Table → (end : ℕ) → List Ty → List ℕ
offsets_from table end [] = []
offsets_from table end (t ∷ ts) =
    let here = round_up (align table t) end in here ∷ offsets_from table (here + size table t) ts

-- where the last member ends
abbrev pub end_from : Table → (end : ℕ) → List Ty → ℕ
end_from table end [] = end
end_from table end (t ∷ ts) = end_from table (round_up (align table t) end + size table t) ts

-- the greatest alignment, and at least that which is given
abbrev pub greatest_from : Table → ℕ → List Ty → ℕ
greatest_from table least [] = least
greatest_from table least (t ∷ ts) = greatest_from table (max least (align table t)) ts

abbrev pub greatest : Table → List Ty → ℕ
greatest table ts = greatest_from table 1 ts

-- the greatest depth, and at least that which is given
abbrev pub deepest_from : Table → ℕ → List Ty → ℕ
deepest_from table least [] = least
deepest_from table least (t ∷ ts) = deepest_from table (max least (depth table t)) ts

abbrev pub laid_out : Table → List Ty → Layout
laid_out table ts =
    record { members = ts; offsets = offsets_from table 0 ts; size = round_up (greatest table ts) (end_from table 0 ts); align = greatest table ts; depth = deepest_from table 0 ts + 1 }

-- each struct that is defined has members that have a size, and is laid out as they say
pub record IsLaidOut (table : Table) : Type 0 where
  pub sized : (n : ℕ) (l : Layout) → layout_at table n ≡ Some l → All (HasSize table) l.members
  pub is : (n : ℕ) (l : Layout) → layout_at table n ≡ Some l → l ≡ laid_out table l.members

-- ---- of a member

abbrev pub members_in : Option Layout → List Ty
members_in None = []
members_in (Some l) = l.members

abbrev pub offsets_in : Option Layout → List ℕ
offsets_in None = []
offsets_in (Some l) = l.offsets

-- the types of a type's members
abbrev pub members_of : Table → Ty → List Ty
members_of table (struct n) = members_in (layout_at table n)
members_of table _ = []

abbrev pub offset : Table → Ty → (member : ℕ) → ℕ
offset table (struct n) m = slice_index (offsets_in (layout_at table n)) m
offset table _ m = 0

-- ---- the greatest sizes

-- the most bytes of a type, and the most elements of an array: 2^30
abbrev pub most_bytes : ℕ
most_bytes = 1073741824

-- a part of an object has at most so many bytes
abbrev pub IsSmall : Table → Ty → Type 0
IsSmall table t = HasSize table t × (size table t ≤ most_bytes)

-- an array has at most so many elements of at most so many bytes each
abbrev pub HasSmallParts : Table → Ty → Type 0
HasSmallParts table (array t n) = (n ≤ most_bytes) × (size table t ≤ most_bytes)
HasSmallParts table _ = Unit {0}

-- the bytes of an array are counted by a number of 64 bits
abbrev pub IsCounted : Table → Ty → Type 0
IsCounted table (array t n) = n * size table t < 2 ^ 64
IsCounted table _ = Unit {0}
