-- Reading through a pointer.
use Rattle.std.proofs.Common.{◌≡◌, ℕ, suc, zero, ◌+◌, ◌*◌, ◌%◌, ◌<◌, Bool, true, false, pos, ◌*ℤ◌, List, [], ◌∷◌, Option, Some, None, length, refl, sym, ap, ◌∙◌, subst, arith}
use Rattle.std.specs.Prelude.{slice_get}
use Rattle.std.proofs.lemmas.Bool.{eq-eqb}
use Rattle.std.proofs.lemmas.Option.{slice_get_within}
use Rattle.c_types.specs.Layout.{Table}
use Rattle.c_types.specs.Types.{Ty, void, integer, struct, pointer, array, function, is_function}
use Rattle.c_meaning.specs.Shapes.{Shape, scalar, shape, size, width}
use Rattle.c_meaning.specs.Values.{Pointer, Step, Value, Tree, leaf, group, Trees, count, nth, array_at}
use Rattle.c_meaning.specs.Objects.{Object, Span, length_of, whole_of, after, if_alive, if_within, element_at, value_in, index_in, read}
use Rattle.ms_relate.specs.refinement.Laid.{Laid, AreLaid, is_handle}
use Rattle.ms_relate.proofs.Laid.{handle_width, laid_at, laid_nth}
use Rattle.ms_handle.specs.declared.handle.Handle.TheVariants as handles
use Rattle.ms_live.specs.declared.gaps.Live.{Live}
use Rattle.ms_tagged.specs.Bytes.{Byte, number_at, range}
use Rattle.ms_segment.specs.Memory.{Memory, access, aligned, handle_access, live_of, loaded, loaded_at}
use Rattle.ms_segment.specs.Calls.{handle_at, handle_loaded_at, load_handle}
use Rattle.ms_relate.specs.refinement.Homes.{Home, handle, IsOf, IsScalar, is_null, is_invalid, is_pointer, is_named, is_no_function, span_of, word}
use Rattle.ms_relate.specs.refinement.Relation.{IsAt, IsThere, Related, StandsAt, gone, lives}
use Rattle.ms_relate.specs.refinement.Operations.{Reads, reads, stopped, ReadsPointer, reads_pointer, pointer_stopped, null_ends, invalid_ends, freed_ends, bounds_ends}
use Rattle.ms_relate.proofs.Accesses.{access_is, index_in-within, located, located_in}
use Rattle.ms_relate.proofs.Leaves.{number_read, handle_read, width_positive}

-- ---- types of one value

pub scalar_shape : (table : Table) (t : Ty) → IsScalar t → shape table t ≡ scalar t
scalar_shape table (integer t) is = refl
scalar_shape table (pointer t) is = refl
scalar_shape table void is = absurd is
scalar_shape table (struct n) is = absurd is
scalar_shape table (array t n) is = absurd is
scalar_shape table (function r ps) is = absurd is

pub no_function_scalar : (t : Ty) → IsScalar t → is_function t ≡ true → ⊥
no_function_scalar (integer t) is f = cc
no_function_scalar (pointer t) is f = cc
no_function_scalar void is f = cc
no_function_scalar (struct n) is f = cc
no_function_scalar (array t n) is f = cc
no_function_scalar (function r ps) is f = is

pub scalar_width : (t : Ty) → IsScalar t → 0 < width t
scalar_width (integer t) is = Rattle.ms_relate.proofs.Leaves.integer_width t
scalar_width (pointer t) is = Rattle.ms_relate.proofs.Leaves.pointer_width (is_function t)
scalar_width void is = absurd is
scalar_width (struct n) is = absurd is
scalar_width (array t n) is = absurd is
scalar_width (function r ps) is = absurd is

-- ---- the leaf that an element is

leaf_of : (P : ℕ → Ty → Value → Type 0) (t : Tree) (u : Ty) (a : ℕ) → Laid P t (scalar u) a → (v : Value) × (t ≡ leaf v) × P a u v
leaf_of P (leaf v) u a laid = (v, refl, laid)
leaf_of P (group ts) u a laid = absurd laid

pub element_leaf : (P : ℕ → Ty → Value → Type 0) (ts : Trees) (s : Shape) (u : Ty) (a k : ℕ) → s ≡ scalar u → k < count ts → AreLaid P ts s a → (v : Value) × (nth ts k ≡ Some (leaf v)) × P (a + k * width u) u v
element_leaf P ts s u a k is within laid =
    let t = laid_nth P ts (scalar u) a k within (subst (λ (x : Shape). AreLaid P ts x a) is laid) in
    let v = leaf_of P t.0 u (a + k * width u) t.2 in
    (v.0, t.1 ∙ ap Some v.1, v.2)

none_within : {X : Type 0} (xs : List X) (n : ℕ) → n < length xs → slice_get xs n ≡ None → ⊥
none_within [] n within e = omega (arith, within)
none_within (x ∷ xs) zero within e = cc
none_within (x ∷ xs) (suc n) within e = none_within xs n (omega (arith, within)) e

module _ (table : Table) (places : Ty → ℕ → ℕ) (homes : List Home) where
  -- the array that a path leads to in an object that is alive
  pub array_stands : (bytes : List Byte) (o : Object) (h : Home) (g : Live) (path : List Step) (s : Span) → span_of h path ≡ Some s → count o.trees ≡ h.count → AreLaid (λ place. StandsAt table places homes bytes (g.base + place)) o.trees h.shape 0 → (count (array_at path o.trees) ≡ s.count) × AreLaid (λ place. StandsAt table places homes bytes (g.base + place)) (array_at path o.trees) s.shape s.place
  array_stands bytes o h g path s is many laid =
      laid_at (λ place. StandsAt table places homes bytes (g.base + place)) path (whole_of h.shape h.count) s o.trees is (many, laid)

  number_within : (z : Bool) (m : Memory) (g : Live) (ts : Trees) (s : Span) (t : Ty) (x : Option ℕ) → ((k : ℕ) → x ≡ Some k → k < s.count) → s.shape ≡ scalar t → is_handle t ≡ false → count ts ≡ s.count → AreLaid (λ place. StandsAt table places homes m.bytes (g.base + place)) ts s.shape s.place → Reads table places homes t (after (if_within x) (λ k. value_in (nth ts k))) (loaded_at m (width t) (located_in z g s.place s.count (width t) x))
  number_within z m g ts s t None within is plain many laid = stopped bounds_ends
  number_within z m g ts s t (Some k) within is plain many laid =
      let v = element_leaf (λ place. StandsAt table places homes m.bytes (g.base + place)) ts s.shape t s.place k is (omega (arith, many, within k refl)) laid in
      let address : g.base + (s.place + k * width t) ≡ g.base + s.place + k * width t = omega arith in
      let found : number_at (range (g.base + s.place + k * width t) (width t) m.bytes) ≡ Some (word places t v.0) = rw address at (number_read table places homes t v.0 m.bytes (g.base + (s.place + k * width t)) plain v.2) in
      rw (v.1, found) (reads v.2.is_of)

  number_there : (m : Memory) (o : Object) (h : Home) (p : Pointer) (s : Span) (t : Ty) (l : Option Live) → IsThere table places homes m.bytes o h l → span_of h p.path ≡ Some s → s.shape ≡ scalar t → is_handle t ≡ false → Reads table places homes t (after (if_alive (Some o)) (λ u. after (element_at u p) (λ k. value_in (nth (array_at p.path u.trees) k)))) (loaded_at m (width t) (located p.sealed l s.place s.count (width t) (index_in s.count p.index)))
  number_there m o h p s t None (gone dead) at is plain = rw dead (stopped freed_ends)
  number_there m o h p s t (Some g) (lives alive kind size many laid) at is plain =
      let there = array_stands m.bytes o h g p.path s at many laid in
      rw (alive, there.0) (number_within p.sealed m g (array_at p.path o.trees) s t (index_in s.count p.index) (λ k e. index_in-within s.count p.index k e) is plain there.0 there.1)

  -- the object of a home
  pub object_there : (objects : List Object) (n : ℕ) (h : Home) → length homes ≡ length objects → slice_get homes n ≡ Some h → (o : Object) × (slice_get objects n ≡ Some o)
  object_there objects n h long at = found (slice_get objects n) refl where
    found : (x : Option Object) → slice_get objects n ≡ x → (o : Object) × (slice_get objects n ≡ Some o)
    found None e = absurd (let w : n < length objects = omega (arith, long, slice_get_within homes n h at) in none_within objects n w e)
    found (Some o) e = (o, e)

  -- a number or a function
  pub read_number : (objects : List Object) (m : Memory) (t : Ty) (v : Value) → Related table places homes objects m → IsScalar t → is_handle t ≡ false → IsOf table places homes (pointer t) v → Reads table places homes t (read objects v) (loaded m (handle homes v) (width t))
  read_number objects m t v related is plain (is_null f) = stopped null_ends
  read_number objects m t v related is plain (is_invalid f) = stopped invalid_ends
  read_number objects m t v related is plain (is_pointer {p} h s f at span same near) =
      let o = object_there objects p.object h related.long at in
      let shape' : s.shape ≡ scalar t = same ∙ scalar_shape table t is in
      let there = related.each p.object o.0 h o.1 at in
      rw (o.1, at, span, shape', access_is m p.sealed h.id s.place s.count (width t) p.index (scalar_width t is)) (number_there m o.0 h p s t (live_of m h.id) there.state span shape' plain)
  read_number objects m t v related is plain (is_named f small) = absurd (no_function_scalar t is f)
  read_number objects m t v related is plain (is_no_function f) = absurd (no_function_scalar t is f)

  -- ---- a pointer

  -- the handle of an element that holds a pointer lies at a multiple of 16
  pointer_aligned : (m : Memory) (o : Object) (h : Home) (p : Pointer) (s : Span) (t : Ty) (l : Option Live) → IsThere table places homes m.bytes o h l → span_of h p.path ≡ Some s → s.shape ≡ scalar t → is_handle t ≡ true → aligned (located p.sealed l s.place s.count (width t) (index_in s.count p.index)) ≡ located p.sealed l s.place s.count (width t) (index_in s.count p.index)
  pointer_aligned m o h p s t None (gone dead) at is has = refl
  pointer_aligned m o h p s t (Some g) (lives alive kind size many laid) at is has =
      let there = array_stands m.bytes o h g p.path s at many laid in
      test (index_in s.count p.index) (λ k e. index_in-within s.count p.index k e) there where
        test : (x : Option ℕ) → ((k : ℕ) → x ≡ Some k → k < s.count) → (count (array_at p.path o.trees) ≡ s.count) × AreLaid (λ place. StandsAt table places homes m.bytes (g.base + place)) (array_at p.path o.trees) s.shape s.place → aligned (located_in p.sealed g s.place s.count (width t) x) ≡ located_in p.sealed g s.place s.count (width t) x
        test None within there = refl
        test (Some k) within there =
            let v = element_leaf (λ place. StandsAt table places homes m.bytes (g.base + place)) (array_at p.path o.trees) s.shape t s.place k is (omega (arith, there.0, within k refl)) there.1 in
            let address : g.base + (s.place + k * width t) ≡ g.base + s.place + k * width t = omega arith in
            let multiple : (g.base + s.place + k * width t) % 16 ≡ 0 = rw address at (v.2.aligned has) in
            rw (eq-eqb ((g.base + s.place + k * width t) % 16) 0 multiple) refl

  pointer_within : (z : Bool) (m : Memory) (g : Live) (ts : Trees) (s : Span) (t : Ty) (x : Option ℕ) → ((k : ℕ) → x ≡ Some k → k < s.count) → s.shape ≡ scalar t → is_handle t ≡ true → count ts ≡ s.count → AreLaid (λ place. StandsAt table places homes m.bytes (g.base + place)) ts s.shape s.place → ReadsPointer table places homes t (after (if_within x) (λ k. value_in (nth ts k))) (handle_loaded_at m (located_in z g s.place s.count (width t) x))
  pointer_within z m g ts s t None within is has many laid = pointer_stopped bounds_ends
  pointer_within z m g ts s t (Some k) within is has many laid =
      let v = element_leaf (λ place. StandsAt table places homes m.bytes (g.base + place)) ts s.shape t s.place k is (omega (arith, many, within k refl)) laid in
      let address : g.base + (s.place + k * width t) ≡ g.base + s.place + k * width t = omega arith in
      let found : handle_at (range (g.base + s.place + k * width t) (width t) m.bytes) ≡ handle homes v.0 = rw address at (handle_read table places homes t v.0 m.bytes (g.base + (s.place + k * width t)) has v.2) in
      let here : handle_at (range (g.base + s.place + k * width t) 16 m.bytes) ≡ handle homes v.0 = subst (λ w. handle_at (range (g.base + s.place + k * width t) w m.bytes) ≡ handle homes v.0) (handle_width t has) found in
      rw (v.1, here) (reads_pointer v.2.is_of)

  pointer_there : (m : Memory) (o : Object) (h : Home) (p : Pointer) (s : Span) (t : Ty) (l : Option Live) → IsThere table places homes m.bytes o h l → span_of h p.path ≡ Some s → s.shape ≡ scalar t → is_handle t ≡ true → ReadsPointer table places homes t (after (if_alive (Some o)) (λ u. after (element_at u p) (λ k. value_in (nth (array_at p.path u.trees) k)))) (handle_loaded_at m (located p.sealed l s.place s.count (width t) (index_in s.count p.index)))
  pointer_there m o h p s t None (gone dead) at is has = rw dead (pointer_stopped freed_ends)
  pointer_there m o h p s t (Some g) (lives alive kind size many laid) at is has =
      let there = array_stands m.bytes o h g p.path s at many laid in
      rw (alive, there.0) (pointer_within p.sealed m g (array_at p.path o.trees) s t (index_in s.count p.index) (λ k e. index_in-within s.count p.index k e) is has there.0 there.1)

  -- the access of sixteen bytes through the handle of a pointer to a pointer
  pub pointer_access : (m : Memory) (o : Object) (h : Home) (p : Pointer) (s : Span) (t : Ty) → IsAt table places homes m o h → span_of h p.path ≡ Some s → s.shape ≡ scalar t → is_handle t ≡ true → handle_access m (handles.Good p.sealed h.id s.place (length_of s) (p.index *ℤ pos (size s.shape))) ≡ located p.sealed (live_of m h.id) s.place s.count (width t) (index_in s.count p.index)
  pointer_access m o h p s t there at is has =
      let wide : width t ≡ 16 = handle_width t has in
      let at16 : aligned (access m (handles.Good p.sealed h.id s.place (s.count * width t) (p.index *ℤ pos (width t))) (width t)) ≡ located p.sealed (live_of m h.id) s.place s.count (width t) (index_in s.count p.index) = rw (access_is m p.sealed h.id s.place s.count (width t) p.index (omega (arith, wide))) (pointer_aligned m o h p s t (live_of m h.id) there.state at is has) in
      rw is (ap (λ w. aligned (access m (handles.Good p.sealed h.id s.place (s.count * width t) (p.index *ℤ pos (width t))) w)) (sym wide) ∙ at16)

  pub read_pointer : (objects : List Object) (m : Memory) (t : Ty) (v : Value) → Related table places homes objects m → IsScalar t → is_handle t ≡ true → IsOf table places homes (pointer t) v → ReadsPointer table places homes t (read objects v) (load_handle m (handle homes v))
  read_pointer objects m t v related is has (is_null f) = pointer_stopped null_ends
  read_pointer objects m t v related is has (is_invalid f) = pointer_stopped invalid_ends
  read_pointer objects m t v related is has (is_pointer {p} h s f at span same near) =
      let o = object_there objects p.object h related.long at in
      let shape' : s.shape ≡ scalar t = same ∙ scalar_shape table t is in
      let there = related.each p.object o.0 h o.1 at in
      rw (o.1, at, span, pointer_access m o.0 h p s t there span shape' has) (pointer_there m o.0 h p s t (live_of m h.id) there.state span shape' has)
  read_pointer objects m t v related is has (is_named f small) = absurd (no_function_scalar t is f)
  read_pointer objects m t v related is has (is_no_function f) = absurd (no_function_scalar t is f)
