-- How all leaves of a struct are found, part by part.
use Rattle.std.specs.Prelude.{◌≡◌, ◌+◌, ◌-◌, ◌*◌, ◌<◌, ◌≤◌, ℕ, List, [], ◌∷◌, ◌++◌, drop, length}
use Rattle.c_types.specs.Types.{Ty, struct, type_of}
use Rattle.c_types.specs.Layout.{Table, layout_at, members_in, offsets_in, size}
use Rattle.c_meaning.specs.Shapes.{Shape, members_with, shape}
use Rattle.c_code.specs.Leaves as words
use Rattle.c_code.specs.Leaves.{each_from, leaves_at, leaves_of}
use Rattle.c_emit.specs.declared.leaves.Leaf.{Leaf}
use Rattle.c_emit.specs.declared.leaves.Part.{Part}
use Rattle.c_emit.specs.declared.leaves.Parts.{Parts}
use Rattle.c_emit.specs.declared.leaves.Parts.TheVariants.{Members, Elements}
use Rattle.c_emit.specs.declared.leaves.Way.{Way}
use Rattle.c_emit.specs.declared.leaves.Way.TheVariants.{On, Done, TooMany}
use Rattle.c_emit.specs.refinement.Leaves.{AreLeaves, IsLeaf}

-- ---- of parts that are still to come

-- the shape of a struct
abbrev pub own : Table → ℕ → Shape
own structs n = shape structs (struct n)

-- of a struct that begins at `place`, from its m-th member on
abbrev pub members_left : Table → (number place m : ℕ) → List words.Leaf
members_left structs n place m =
    leaves_of (members_with (own structs) (drop m (members_in (layout_at structs n))) (drop m (offsets_in (layout_at structs n)))) place

-- of so many elements of an array that begins at `place`, from the i-th on
abbrev pub elements_left : Table → Ty → (count place i : ℕ) → List words.Leaf
elements_left structs t k place i =
    each_from (k - i) i (λ j. leaves_at (shape structs t) place (k * size structs t) j (place + j * size structs t))

abbrev pub parts_left : Table → Parts → List words.Leaf
parts_left structs (Members n place m) = members_left structs n place m
parts_left structs (Elements t k place i) = elements_left structs (type_of t.now) k place i

abbrev pub part_left : Table → Part → List words.Leaf
part_left structs p = leaves_at (shape structs (type_of p.ty.now)) p.from p.length p.index p.at

-- of a part that holds one value
abbrev pub leaf_in : Part → words.Leaf
leaf_in p = record { from = p.from; length = p.length; index = p.index; ty = type_of p.ty.now }

-- the last ones come first
abbrev pub stack_left : Table → List Parts → List words.Leaf
stack_left structs [] = []
stack_left structs (p ∷ ps) = stack_left structs ps ++ parts_left structs p

-- ---- the walk

-- the first of all leaves are found, and these are left
abbrev pub IsFound : Table → List Leaf → (left all : List words.Leaf) → Type 0
IsFound structs [] left all = left ≡ all
IsFound structs (k ∷ ks) left [] = ⊥
IsFound structs (k ∷ ks) left (l ∷ all) = IsLeaf structs l k × IsFound structs ks left all

-- at most so many are found
pub record Walks (structs : Table) (most : ℕ) (ks : List Leaf) (left all : List words.Leaf) : Type 0 where
  pub found : IsFound structs ks left all
  pub few : length ks ≤ most

-- how it goes on
abbrev pub Goes : Table → (most : ℕ) → List Leaf → (left all : List words.Leaf) → Way → Type 0
Goes structs most ks left all On = Walks structs most ks left all
Goes structs most ks left all Done = AreLeaves structs all ks × (length all ≤ most)
Goes structs most ks left all TooMany = most < length all
