-- The shape of a struct is made of the shapes of its members, and has the struct's size.
use Rattle.std.proofs.Common.{◌≡◌, ◌∙◌, ◌+◌, ◌*◌, ◌<◌, ◌≤◌, ℕ, zero, suc, max, List, [], ◌∷◌, Option, Some, None, refl, sym, ap, arith}
use Rattle.c_types.specs.Layout.{IsLaidOut, Layout, Table, deepest_from, depth, depth_in, layout_at, size, size_in}
use Rattle.c_types.specs.Types.{Ty, void, integer, struct, pointer, array, function}
use Rattle.c_meaning.specs.Shapes as shapes
use Rattle.c_meaning.specs.Shapes.{Shape, elements, record', member, members_with, shape, shape_in, shape_with, struct_shape}
use Rattle.c_emit.specs.refinement.LeafWalk.{own}

-- ---- a struct in a struct is less deep

deepest_least : (table : Table) (least : ℕ) (ts : List Ty) → least ≤ deepest_from table least ts
deepest_least table least [] = omega arith
deepest_least table least (t ∷ ts) = let h = deepest_least table (max least (depth table t)) ts in omega (arith, h)

layout_deep : (table : Table) → IsLaidOut table → (n : ℕ) (l : Layout) → layout_at table n ≡ Some l → depth table (struct n) ≡ suc (deepest_from table 0 l.members)
layout_deep table laid n l is =
    let own : l.depth ≡ deepest_from table 0 l.members + 1 = ap (λ (x : Layout). x.depth) (laid.is n l is) in
    let at : depth_in (layout_at table n) ≡ l.depth = ap depth_in is in omega (arith, own, at)

-- members have the same shapes where the types that are no deeper do
members_same : (table : Table) (of of' : ℕ → Shape) (b : ℕ) → ((t : Ty) → depth table t ≤ b → shape_with of t ≡ shape_with of' t)
    → (least : ℕ) (ts : List Ty) (os : List ℕ) → deepest_from table least ts ≤ b → members_with of ts os ≡ members_with of' ts os
members_same table of of' b same least [] os deep = refl
members_same table of of' b same least (t ∷ ts) [] deep = refl
members_same table of of' b same least (t ∷ ts) (o ∷ os) deep =
    let h = deepest_least table (max least (depth table t)) ts in
    ap (λ s. member o s (members_with of ts os)) (same t (omega (arith, h, deep)))
    ∙ ap (λ ms. member o (shape_with of' t) ms) (members_same table of of' b same (max least (depth table t)) ts os deep)

-- ---- how deep is enough

type_same : (table : Table) (d e : ℕ) → ((n : ℕ) → depth table (struct n) ≤ d → depth table (struct n) ≤ e → struct_shape table d n ≡ struct_shape table e n)
    → (t : Ty) → depth table t ≤ d → depth table t ≤ e → shape_with (struct_shape table d) t ≡ shape_with (struct_shape table e) t
type_same table d e same void p q = refl
type_same table d e same (integer t) p q = refl
type_same table d e same (struct n) p q = same n p q
type_same table d e same (pointer t) p q = refl
type_same table d e same (array t n) p q = ap (λ s. elements s n) (type_same table d e same t p q)
type_same table d e same (function r ps) p q = refl

undefined : (table : Table) → IsLaidOut table → (n : ℕ) → depth table (struct n) ≤ 0 → layout_at table n ≡ None
undefined table laid n flat = by (layout_at table n) refl where
  by : (o : Option Layout) → layout_at table n ≡ o → layout_at table n ≡ None
  by None is = is
  by (Some l) is = let deep = layout_deep table laid n l is in absurd (omega (arith, flat, deep))

struct_same : (table : Table) → IsLaidOut table → (d e n : ℕ) → depth table (struct n) ≤ d → depth table (struct n) ≤ e → struct_shape table d n ≡ struct_shape table e n
struct_same table laid zero zero n p q = refl
struct_same table laid zero (suc e) n p q = sym (ap (shape_in (struct_shape table e)) (undefined table laid n p))
struct_same table laid (suc d) zero n p q = ap (shape_in (struct_shape table d)) (undefined table laid n q)
struct_same table laid (suc d) (suc e) n p q = by (struct_same table laid d e) (layout_at table n) refl where
  by : ((k : ℕ) → depth table (struct k) ≤ d → depth table (struct k) ≤ e → struct_shape table d k ≡ struct_shape table e k)
      → (o : Option Layout) → layout_at table n ≡ o → shape_in (struct_shape table d) (layout_at table n) ≡ shape_in (struct_shape table e) (layout_at table n)
  by same None is = ap (shape_in (struct_shape table d)) is ∙ sym (ap (shape_in (struct_shape table e)) is)
  by same (Some l) is =
      let deep = layout_deep table laid n l is in
      let inner : deepest_from table 0 l.members ≤ d = omega (arith, p, deep) in
      let inner' : deepest_from table 0 l.members ≤ e = omega (arith, q, deep) in
      ap (shape_in (struct_shape table d)) is
      ∙ ap (λ ms. record' l.size ms)
      (members_same table (struct_shape table d) (struct_shape table e) (deepest_from table 0 l.members)
      (λ t h. type_same table d e same t (omega (arith, h, inner)) (omega (arith, h, inner'))) 0 l.members l.offsets (omega arith))
      ∙ sym (ap (shape_in (struct_shape table e)) is)

-- ---- the shape of a type is made of those of the structs

pub own_same : (table : Table) (t : Ty) → shape_with (own table) t ≡ shape table t
own_same table void = refl
own_same table (integer t) = refl
own_same table (struct n) = refl
own_same table (pointer t) = refl
own_same table (array t n) = ap (λ s. elements s n) (own_same table t)
own_same table (function r ps) = refl

pub struct_is : (table : Table) → IsLaidOut table → (n : ℕ) → shape table (struct n) ≡ shape_in (own table) (layout_at table n)
struct_is table laid n = by (layout_at table n) refl where
  by : (o : Option Layout) → layout_at table n ≡ o → shape table (struct n) ≡ shape_in (own table) (layout_at table n)
  by None is = ap (λ o. struct_shape table (depth_in o) n) is ∙ sym (ap (shape_in (own table)) is)
  by (Some l) is =
      let d = deepest_from table 0 l.members in
      ap (λ k. struct_shape table k n) (layout_deep table laid n l is)
      ∙ ap (shape_in (struct_shape table d)) is
      ∙ ap (λ ms. record' l.size ms)
      (members_same table (struct_shape table d) (own table) d
      (λ t h. type_same table d (depth table t) (struct_same table laid d (depth table t)) t h (omega arith) ∙ sym (own_same table t)) 0 l.members l.offsets (omega arith))
      ∙ sym (ap (shape_in (own table)) is)

size_in_is : (table : Table) (o : Option Layout) → shapes.size (shape_in (own table) o) ≡ size_in o
size_in_is table None = refl
size_in_is table (Some l) = refl

pub size_is : (table : Table) → IsLaidOut table → (t : Ty) → shapes.size (shape table t) ≡ size table t
size_is table laid void = refl
size_is table laid (integer t) = refl
size_is table laid (struct n) = ap shapes.size (struct_is table laid n) ∙ size_in_is table (layout_at table n)
size_is table laid (pointer t) = refl
size_is table laid (array t n) = ap (λ k. n * k) (size_is table laid t)
size_is table laid (function r ps) = refl
