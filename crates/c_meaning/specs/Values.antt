-- Values (C11, 6.2.5), and the trees of values that objects are. An object has no address: a pointer names the object, the way to
-- an array in it, and an index.
use Rattle.std.specs.Prelude.{ℕ, zero, suc, ℤ, pos, Bool, List, [], ◌∷◌, Option, Some, None, if◌then◌else◌}
use Rattle.c_types.specs.Types.{Ty, integer, pointer, is_function}
use Rattle.c_meaning.specs.Shapes.{Shape, scalar, elements, record', Members, no_members, member}

-- from an element of an array to the array that a member of it is, of one element, or to the array that it is itself
pub data Step : Type 0 where
  to_member : (index member : ℕ) → Step
  inside : (index : ℕ) → Step

pub record Pointer : Type 0 where
  pub object : ℕ
  pub path : List Step
  -- which need not be one of the array's
  pub index : ℤ
  -- nothing is written through it: it leads to a string literal (6.4.5, paragraph 7)
  pub sealed : Bool

pub data Value : Type 0 where
  -- of an integer type, in its range
  number : ℤ → Value
  -- of pointers to objects
  null : Value
  -- a pointer that went too far, or was formed from one that leads to no element
  invalid : Value
  points : Pointer → Value
  -- of pointers to functions: a function by its number, and null
  function_at : ℕ → Value
  no_function : Value

-- what begins as zero (6.7.9, paragraph 10)
abbrev pub zero_value : Ty → Value
zero_value (integer t) = number (pos 0)
zero_value (pointer t) = if is_function t then no_function else null
zero_value _ = null

-- ---- trees

mutual
  pub data Tree : Type 0 where
    leaf : Value → Tree
    -- the members of a struct, or the elements of an array
    group : Trees → Tree

  pub data Trees : Type 0 where
    none : Trees
    more : Tree → Trees → Trees

abbrev pub count : Trees → ℕ
count none = 0
count (more t ts) = suc (count ts)

abbrev pub nth : Trees → ℕ → Option Tree
nth none i = None
nth (more t ts) zero = Some t
nth (more t ts) (suc i) = nth ts i

abbrev pub put : ℕ → Tree → Trees → Trees
put i u none = none
put zero u (more t ts) = more u ts
put (suc i) u (more t ts) = more t (put i u ts)

abbrev pub so_many : ℕ → Tree → Trees
so_many zero t = none
so_many (suc n) t = more t (so_many n t)

-- ---- zeros

abbrev mutual
  pub zeros : Shape → Tree
  zeros (scalar t) = leaf (zero_value t)
  zeros (elements s n) = group (so_many n (zeros s))
  zeros (record' n ms) = group (member_zeros ms)

  pub member_zeros : Members → Trees
  member_zeros no_members = none
  member_zeros (member o s ms) = more (zeros s) (member_zeros ms)

-- ---- the array that a path leads to

abbrev pub under : Option Tree → Trees
under (Some (group ts)) = ts
under _ = none

abbrev pub alone : Option Tree → Trees
alone (Some t) = more t none
alone None = none

abbrev pub first : Trees → Tree
first none = leaf null
first (more t ts) = t

abbrev pub array_by : Step → Trees → Trees
array_by (to_member i m) ts = alone (nth (under (nth ts i)) m)
array_by (inside i) ts = under (nth ts i)

abbrev pub array_at : List Step → Trees → Trees
array_at [] ts = ts
array_at (s ∷ path) ts = array_at path (array_by s ts)

-- the trees with another array there
abbrev pub with_array_by : Step → Trees → Trees → Trees
with_array_by (to_member i m) us ts = put i (group (put m (first us) (under (nth ts i)))) ts
with_array_by (inside i) us ts = put i (group us) ts

abbrev pub with_array : List Step → Trees → Trees → Trees
with_array [] us ts = us
with_array (s ∷ path) us ts = with_array_by s (with_array path us (array_by s ts)) ts

-- the trees with another element of the array
abbrev pub with_element : List Step → ℕ → Tree → Trees → Trees
with_element path k u ts = with_array path (put k u (array_at path ts)) ts
