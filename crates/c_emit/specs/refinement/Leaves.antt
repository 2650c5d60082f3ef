-- What the code has of a leaf, and the code that copies it.
use Rattle.std.specs.Prelude.{◌≡◌, ⊤, ℕ, List, [], ◌∷◌, Some}
use Rattle.ms_emit.specs.Codes.{Code, no_code, one, plain, ◌⨾◌}
use Rattle.ms_module.specs.declared.access.Segment.TheVariants as segment
use Rattle.ms_module.specs.declared.instr.Instr.TheVariants.{LocalGet, Segment}
use Rattle.c_types.specs.Types.{scalar_of}
use Rattle.c_types.specs.Layout.{Table, size}
use Rattle.c_code.specs.Leaves as words
use Rattle.c_code.specs.Operations.{i64, load, slice, store}
use Rattle.c_emit.specs.declared.leaves.Leaf.{Leaf}

pub record IsLeaf (structs : Table) (l : words.Leaf) (k : Leaf) : Type 0 where
  pub from : k.from ≡ l.from
  pub length : k.length ≡ l.length
  pub index : k.index ≡ l.index
  pub scalar : scalar_of l.ty ≡ Some k.scalar
  pub size : k.size ≡ size structs l.ty

abbrev pub AreLeaves : Table → List words.Leaf → List Leaf → Type 0
AreLeaves structs [] [] = ⊤
AreLeaves structs (l ∷ ls) (k ∷ ks) = IsLeaf structs l k × AreLeaves structs ls ks
AreLeaves structs [] (k ∷ ks) = ⊥
AreLeaves structs (l ∷ ls) [] = ⊥

-- ---- the code of a leaf

-- from the handle of the struct to its own
abbrev pub narrowed : Leaf → Code
narrowed k = slice k.from k.length ⨾ plain (i64 k.index ∷ Segment (segment.Add k.size) ∷ [])

-- its handle, from that of the struct in a local
abbrev pub handle_of : Leaf → (handle : ℕ) → Code
handle_of k h = one (LocalGet h) ⨾ narrowed k

-- it is read, and written to the handle on the stack
abbrev pub moved : Leaf → (from : ℕ) → Code
moved k from = handle_of k from ⨾ plain (load k.scalar ∷ store k.scalar ∷ [])

abbrev pub copies_of : List Leaf → (from to : ℕ) → Code
copies_of [] from to = no_code
copies_of (k ∷ ks) from to = (handle_of k to ⨾ moved k from) ⨾ copies_of ks from to
