-- The code of leaves, by what the code has of them.
use Rattle.std.proofs.Common.{◌≡◌, ◌∙◌, ◌+◌, ◌<◌, ◌≤◌, ℕ, List, [], ◌∷◌, length, drop, get_or, add-one, Option, Some, Vec, Global, refl, sym, ap, subst}
use Rattle.std.specs.Prelude.{Result, MatchOption, OnOk}
use Rattle.std.proofs.Math.Seq.{drop-cons}
use Rattle.std.proofs.lemmas.List.{drop_all}
use Rattle.c_types.specs.Layout.{Table, size}
use Rattle.c_types.specs.Types.{scalar_of}
use Rattle.c_code.specs.Expressions.{leaf_copied, leaf_handle, leaves_copied}
use Rattle.c_code.specs.Leaves as words
use Rattle.c_code.specs.Leaves.{leaves}
use Rattle.c_code.specs.Operations.{load, store}
use Rattle.c_code.specs.Targets.{Target, scratch_handle, scratch_place}
use Rattle.ms_emit.specs.Codes.{Code, plain, ◌⨾◌}
use Rattle.ms_emit.specs.refinement.Parts.{Adds}
use Rattle.ms_module.specs.Building.{State}
use Rattle.c_emit.specs.declared.leaves.Leaf.{Leaf}
use Rattle.c_emit.specs.refinement.Leaves.{AreLeaves, IsLeaf, copies_of, handle_of, moved}
use Rattle.c_emit.proofs.Items.{IsLeft, none_is_left}

-- those that are left, from a place on
pub copies_at : (s0 s1 : State) (ks : List Leaf) (i : ℕ) (d : Leaf) (whole : Code) (from to : ℕ) → i < length ks
    → IsLeft s0 s1 (copies_of (drop i ks) from to) whole
    → IsLeft s0 s1 ((handle_of (get_or ks i d) to ⨾ moved (get_or ks i d) from) ⨾ copies_of (drop (i + 1) ks) from to) whole
copies_at s0 s1 ks i d whole from to within left =
    let is : drop i ks ≡ get_or ks i d ∷ drop (i + 1) ks = drop-cons ks i d within ∙ rw add-one refl in
    subst (λ l. IsLeft s0 s1 (copies_of l from to) whole) is left

pub none_copied : (s0 s1 : State) (ks : List Leaf) (i : ℕ) (whole : Code) (from to : ℕ) → length ks ≤ i → IsLeft s0 s1 (copies_of (drop i ks) from to) whole → Adds s0 s1 whole
none_copied s0 s1 ks i whole from to past left =
    none_is_left s0 s1 whole (subst (λ l. IsLeft s0 s1 (copies_of l from to) whole) (drop_all i ks past) left)

-- ---- by the leaves of the definition

module _ (t : Target) where
  handle_is : (l : words.Leaf) (k : Leaf) (h : ℕ) → IsLeaf t.structs l k → handle_of k h ≡ leaf_handle t h l (size t.structs l.ty)
  handle_is l k h is =
      ap (λ i. leaf_handle t h (record { from = i; length = k.length; index = k.index; ty = l.ty }) k.size) is.from
      ∙ ap (λ i. leaf_handle t h (record { from = l.from; length = i; index = k.index; ty = l.ty }) k.size) is.length
      ∙ ap (λ i. leaf_handle t h (record { from = l.from; length = l.length; index = i; ty = l.ty }) k.size) is.index
      ∙ ap (λ i. leaf_handle t h l i) is.size

  copy_is : (l : words.Leaf) (k : Leaf) → IsLeaf t.structs l k
      → (handle_of k (scratch_place t) ⨾ moved k (scratch_handle t)) ≡ leaf_copied t l (scalar_of l.ty)
  copy_is l k is =
      let here = scratch_place t in
      let there = scratch_handle t in
      let last = plain (load k.scalar ∷ store k.scalar ∷ []) in
      ap (λ c. c ⨾ (handle_of k there ⨾ last)) (handle_is l k here is)
      ∙ ap (λ c. leaf_handle t here l (size t.structs l.ty) ⨾ (c ⨾ last)) (handle_is l k there is)
      ∙ sym (ap (leaf_copied t l) is.scalar)

  copies_are : (ls : List words.Leaf) (ks : List Leaf) → AreLeaves t.structs ls ks → copies_of ks (scratch_handle t) (scratch_place t) ≡ leaves_copied t ls
  copies_are [] [] all = refl
  copies_are [] (k ∷ ks) all = absurd all
  copies_are (l ∷ ls) [] all = absurd all
  copies_are (l ∷ ls) (k ∷ ks) all =
      ap (λ c. c ⨾ copies_of ks (scratch_handle t) (scratch_place t)) (copy_is l k all.0)
      ∙ ap (λ c. leaf_copied t l (scalar_of l.ty) ⨾ c) (copies_are ls ks all.1)

  pub all_copied : (A E : Type 0) (r : Result A E) (structs : Table) (n most : ℕ) (o : Option (Vec Leaf Global)) (v : Vec Leaf Global) (ks : List Leaf)
      (from to : ℕ) (s0 s1 : State) → structs ≡ t.structs → from ≡ scratch_handle t → to ≡ scratch_place t
      → MatchOption o (most < length (leaves structs n)) (λ (x : Vec Leaf Global). AreLeaves structs (leaves structs n) x.items) → o ≡ Some v → ks ≡ v.items
      → OnOk r (Adds s0 s1 (copies_of ks from to)) → OnOk r (Adds s0 s1 (leaves_copied t (leaves t.structs n)))
  all_copied A E r structs n most o v ks from to s0 s1 es ef et are is ek h =
      let found : AreLeaves structs (leaves structs n) v.items =
      subst (λ p. MatchOption p (most < length (leaves structs n)) (λ (x : Vec Leaf Global). AreLeaves structs (leaves structs n) x.items)) is are in
      let here : AreLeaves t.structs (leaves t.structs n) v.items = subst (λ table. AreLeaves table (leaves table n) v.items) es found in
      let same : copies_of ks from to ≡ leaves_copied t (leaves t.structs n) =
      ap (λ l. copies_of l from to) ek ∙ ap (λ i. copies_of v.items i to) ef ∙ ap (λ i. copies_of v.items (scratch_handle t) i) et
      ∙ copies_are (leaves t.structs n) v.items here in
      subst (λ c. OnOk r (Adds s0 s1 c)) same h
