-- Writing through a pointer: the leaf that it leads to, and nothing else.
use Rattle.std.proofs.Common.{Ok, Err, ◌≡◌, ℕ, suc, zero, ◌+◌, ◌*◌, ◌<◌, ◌≤◌, inl, inr, ⊎_elim, Bool, true, false, cond, List, [], ◌∷◌, Option, Some, None, length, set, refl, sym, ap, ◌∙◌, subst, arith}
use Rattle.std.specs.Prelude.{slice_get}
use Rattle.std.proofs.lemmas.Bool.{cases_eq, cases_order}
use Rattle.std.proofs.lemmas.List.{length-set}
use Rattle.std.proofs.lemmas.Option.{slice_get_within}
use Rattle.c_types.specs.Layout.{Table}
use Rattle.c_types.specs.Types.{Ty, pointer}
use Rattle.c_meaning.specs.Shapes.{Shape, scalar, size, width}
use Rattle.c_meaning.specs.Values.{Pointer, Step, Value, leaf, array_at, with_element}
use Rattle.c_meaning.specs.Objects.{Object, stops, readonly, Span, length_of, whole_of, after, gives, if_alive, if_within, element_at, index_in, with_trees, write}
use Rattle.ms_relate.specs.refinement.Laid.{Fits, Laid, is_handle}
use Rattle.ms_relate.proofs.Laid.{are_weaker, handle_width, laid_write, path_within, index_within}
use Rattle.ms_live.specs.declared.gaps.Live.{Live}
use Rattle.ms_tagged.specs.Bytes.{Byte, data_of, overwritten, pieces, range}
use Rattle.ms_tagged.proofs.Numbers.{length-data_of}
use Rattle.ms_tagged.proofs.Ranges.{range-overwritten_apart, range-overwritten_same}
use Rattle.ms_segment.specs.Memory.{Access, access, handle_access, Memory, Placed, live_of, with_bytes, writable}
use Rattle.ms_segment.specs.Calls.{stored_at}
use Rattle.ms_relate.specs.refinement.Homes.{Home, handle, IsOf, IsScalar, is_null, is_invalid, is_pointer, is_named, is_no_function, span_of, word}
use Rattle.ms_relate.specs.refinement.Relation.{whole, IsAt, IsThere, Related, Spell, StandsAt, gone, lives}
use Rattle.ms_relate.specs.refinement.Operations.{Changes, changes, change_stopped, null_ends, invalid_ends, freed_ends, bounds_ends, readonly_ends}
use Rattle.ms_relate.proofs.Accesses.{access_is, index_in-within, located, located_in}
use Rattle.ms_relate.proofs.Leaves.{stands_still, width_positive}
use Rattle.ms_relate.proofs.Reading.{array_stands, element_leaf, no_function_scalar, object_there, pointer_access, scalar_shape, scalar_width}
use Rattle.ms_segment.proofs.Placing.{Placed-written}
use Rattle.ms_segment.proofs.Standing.{live_inside, segments_apart}

-- ---- elements by their numbers

pub slice_get-set_same : {X : Type 0} (xs : List X) (n : ℕ) (x : X) → n < length xs → slice_get (set xs n x) n ≡ Some x
slice_get-set_same [] n x within = absurd (omega arith)
slice_get-set_same (y ∷ ys) zero x within = refl
slice_get-set_same (y ∷ ys) (suc n) x within = slice_get-set_same ys n x (omega arith)

pub slice_get-set_other : {X : Type 0} (xs : List X) (n i : ℕ) (x : X) → (i ≡ n → ⊥) → slice_get (set xs n x) i ≡ slice_get xs i
slice_get-set_other [] n i x other = refl
slice_get-set_other (y ∷ ys) zero zero x other = absurd (other refl)
slice_get-set_other (y ∷ ys) zero (suc i) x other = refl
slice_get-set_other (y ∷ ys) (suc n) zero x other = refl
slice_get-set_other (y ∷ ys) (suc n) (suc i) x other = slice_get-set_other ys n i x (λ e. other (ap suc e))

pub same_Some : {X : Type 0} (o : Option X) (x y : X) → o ≡ Some x → o ≡ Some y → x ≡ y
same_Some o x y e f = cc

module _ (table : Table) (places : Ty → ℕ → ℕ) (homes : List Home) where
  -- two objects have two identities
  pub other_identity : (objects : List Object) (m : Memory) (i j : ℕ) (g h : Home) → Related table places homes objects m → slice_get homes i ≡ Some g → slice_get homes j ≡ Some h → (i ≡ j → ⊥) → g.id ≡ h.id → ⊥
  other_identity objects m i j g h related at at' other same =
      elim (cases_order i j) [
        | inl is ↦ other is
        | inr apart ↦ elim apart [
          | inl less ↦ omega (arith, same, related.rising i j g h less at at')
          | inr more ↦ omega (arith, same, related.rising j i h g more at' at)
        ]
      ]

  -- an object in another segment than that in which bytes are written
  other_there : (m : Memory) (o : Object) (h : Home) (i a : ℕ) (g : Live) (new : List Byte) (l : Option Live) → Placed m → Fits h.shape → live_of m i ≡ Some g → live_of m h.id ≡ l → (h.id ≡ i → ⊥) → g.base ≤ a → a + length new ≤ g.base + g.size → 0 < length new → IsThere table places homes m.bytes o h l → IsThere table places homes (overwritten a new m.bytes) o h l
  other_there m o h i a g new None sound fits live found other low high some (gone dead) = gone dead
  other_there m o h i a g new (Some s) sound fits live found other low high some (lives alive kind long many laid) =
      let apart = segments_apart m h.id i s g sound found live other in
      let inside = live_inside m i g sound live in
      lives alive kind long many (are_weaker (λ place. StandsAt table places homes m.bytes (s.base + place)) (λ place. StandsAt table places homes (overwritten a new m.bytes) (s.base + place)) 0 (h.count * size h.shape)
      (λ b t v low' high' stands. stands_still table places homes t v m.bytes (overwritten a new m.bytes) (s.base + b) (range-overwritten_apart (s.base + b) (width t) a new m.bytes (apart.ranges (s.base + b) (width t) a (length new) (omega arith) (omega (arith, long, high')) low high (width_positive table places homes t v stands.is_of) some) (omega (arith, inside, low, high))) stands)
      o.trees h.shape 0 fits (omega arith) (rw many (omega arith)) laid)

  -- the object itself
  own_there : (m : Memory) (o : Object) (h : Home) (g : Live) (path : List Step) (s : Span) (t : Ty) (k : ℕ) (v : Value) (new : List Byte) → Placed m → Fits h.shape → live_of m h.id ≡ Some g → span_of h path ≡ Some s → s.shape ≡ scalar t → k < s.count → IsOf table places homes t v → Spell table places homes t v new → length new ≡ width t → IsThere table places homes m.bytes o h (Some g) → IsThere table places homes (overwritten (g.base + s.place + k * width t) new m.bytes) (with_trees o (with_element path k (leaf v) o.trees)) h (Some g)
  own_there m o h g path s t k v new sound fits live at is within of spells wide (lives alive kind long many laid) =
      let old : ℕ → Ty → Value → Type 0 = λ place. StandsAt table places homes m.bytes (g.base + place) in
      let a : ℕ = g.base + s.place + k * width t in
      let bytes : List Byte = overwritten a new m.bytes in
      let now : ℕ → Ty → Value → Type 0 = λ place. StandsAt table places homes bytes (g.base + place) in
      let c : ℕ = s.place + k * size s.shape in
      let sized : size s.shape ≡ width t = ap (λ (x : Shape). size x) is in
      let here : g.base + c ≡ a = rw sized (omega arith) in
      let there = array_stands table places homes m.bytes o h g path s at many laid in
      let leaf' = element_leaf old (array_at path o.trees) s.shape t s.place k is (omega (arith, within, there.0)) there.1 in
      let assoc : g.base + (s.place + k * width t) ≡ a = omega arith in
      let inside = live_inside m h.id g sound live in
      let bound = path_within path (whole_of h.shape h.count) s fits at in
      let room = index_within k s.count (size s.shape) within in
      let ends : a + length new ≤ length m.bytes = omega (arith, here, wide, sized, room, bound.1, long, inside) in
      let same : range (g.base + c) (width t) bytes ≡ new = rw here (range-overwritten_same a (width t) new m.bytes (sym wide) (omega (arith, ends, wide))) in
      let stands : now c t v = record { is_of = of; aligned = λ has. rw here (rw assoc at (leaf'.2.aligned has)); spelled = rw same spells } in
      let result = laid_write old now c (size s.shape) (λ b u x apart h. stands_still table places homes u x m.bytes bytes (g.base + b) (range-overwritten_apart (g.base + b) (width u) a new m.bytes (⊎_elim (λ below. inl (omega (arith, below, here))) (λ above. inr (omega (arith, above, here, wide, sized))) apart) (omega (arith, ends))) h) path (whole_of h.shape h.count) s o.trees k (leaf v) at fits within refl refl (many, laid) (subst (λ (x : Shape). Laid now (leaf v) x c) (sym is) stands) in
      lives alive kind long result.0 result.1

  -- a leaf lies within the bytes
  write_inside : (m : Memory) (o : Object) (h : Home) (g : Live) (path : List Step) (s : Span) (t : Ty) (k : ℕ) → IsAt table places homes m o h → Placed m → live_of m h.id ≡ Some g → span_of h path ≡ Some s → s.shape ≡ scalar t → k < s.count → g.base + s.place + k * width t + width t ≤ length m.bytes
  write_inside m o h g path s t k here placed live span is within =
      let bound = path_within path (whole_of h.shape h.count) s here.fits span in
      let sized : size s.shape ≡ width t = ap (λ (x : Shape). size x) is in
      let room : k * width t + width t ≤ s.count * size s.shape = rw sized (rw sized at (index_within k s.count (size s.shape) within)) in
      let ends = live_inside m h.id g placed live in
      omega (arith, bound.1, room, ends, size_of (rw live at here.state)) where
        size_of : IsThere table places homes m.bytes o h (Some g) → g.size ≡ h.count * size h.shape
        size_of (lives alive kind long many laid) = long

  -- what becomes of all objects where the leaf of one is written
  written_each : (objects : List Object) (m : Memory) (n : ℕ) (o : Object) (h : Home) (g : Live) (path : List Step) (s : Span) (t : Ty) (k : ℕ) (v : Value) (new : List Byte) → Related table places homes objects m → IsScalar t → slice_get objects n ≡ Some o → slice_get homes n ≡ Some h → live_of m h.id ≡ Some g → span_of h path ≡ Some s → s.shape ≡ scalar t → k < s.count → IsOf table places homes t v → Spell table places homes t v new → length new ≡ width t → (i : ℕ) (u : Object) (j : Home) → slice_get (set objects n (with_trees o (with_element path k (leaf v) o.trees))) i ≡ Some u → slice_get homes i ≡ Some j → IsAt table places homes (with_bytes m (g.base + s.place + k * width t) new) u j
  written_each objects m n o h g path s t k v new related scalar' at at' live span is within of spells wide i u j there there' =
      let here = related.each n o h at at' in
      elim (cases_eq i n) [
        | inl same ↦
            let now : Object = with_trees o (with_element path k (leaf v) o.trees) in
            let u_is : now ≡ u = same_Some (slice_get (set objects n now) n) now u (slice_get-set_same objects n now (slice_get_within objects n o at)) (subst (λ x. slice_get (set objects n now) x ≡ Some u) same there) in
            let j_is : h ≡ j = same_Some (slice_get homes n) h j at' (subst (λ x. slice_get homes x ≡ Some j) same there') in
            let state : IsThere table places homes (overwritten (g.base + s.place + k * width t) new m.bytes) now h (live_of m h.id) = rw live (own_there m o h g path s t k v new related.placed here.fits live span is within of spells wide (rw live at here.state)) in
            let now_is : IsAt table places homes (with_bytes m (g.base + s.place + k * width t) new) now h = record { shape = here.shape; count = here.count; fits = here.fits; state = state } in
            subst (λ (x : Object). IsAt table places homes (with_bytes m (g.base + s.place + k * width t) new) x j) u_is (subst (λ (x : Home). IsAt table places homes (with_bytes m (g.base + s.place + k * width t) new) now x) j_is now_is)
        | inr other ↦
            let old : slice_get objects i ≡ Some u = sym (slice_get-set_other objects n i _ other) ∙ there in
            let far = related.each i u j old there' in
            let bound = path_within path (whole_of h.shape h.count) s here.fits span in
            let room = index_within k s.count (size s.shape) within in
            let sized : size s.shape ≡ width t = ap (λ (x : Shape). size x) is in
            let long : g.size ≡ h.count * size h.shape = size_of (rw live at here.state) in
            let fits_in : k * width t + width t ≤ s.count * size s.shape = rw sized (rw sized at room) in
            let state : IsThere table places homes (overwritten (g.base + s.place + k * width t) new m.bytes) u j (live_of m j.id) = other_there m u j h.id (g.base + s.place + k * width t) g new (live_of m j.id) related.placed far.fits live refl (other_identity objects m i n j h related there' at' other) (omega arith) (omega (arith, wide, bound.1, fits_in, long)) (omega (arith, wide, scalar_width t scalar')) far.state in
            record { shape = far.shape; count = far.count; fits = far.fits; state = state }
      ] where
        size_of : IsThere table places homes m.bytes o h (Some g) → g.size ≡ h.count * size h.shape
        size_of (lives alive kind long many laid) = long

  pub related_written : (objects : List Object) (m : Memory) (n : ℕ) (o : Object) (h : Home) (g : Live) (path : List Step) (s : Span) (t : Ty) (k : ℕ) (v : Value) (new : List Byte) → Related table places homes objects m → IsScalar t → slice_get objects n ≡ Some o → slice_get homes n ≡ Some h → live_of m h.id ≡ Some g → span_of h path ≡ Some s → s.shape ≡ scalar t → k < s.count → IsOf table places homes t v → Spell table places homes t v new → length new ≡ width t → Related table places homes (set objects n (with_trees o (with_element path k (leaf v) o.trees))) (with_bytes m (g.base + s.place + k * width t) new)
  related_written objects m n o h g path s t k v new related scalar' at at' live span is within of spells wide =
      record {
        long = related.long ∙ sym (length-set objects n _);
        each = written_each objects m n o h g path s t k v new related scalar' at at' live span is within of spells wide;
        rising = related.rising;
        made = related.made;
        placed = Placed-written m (g.base + s.place + k * width t) new related.placed (rw wide (write_inside m o h g path s t k (related.each n o h at at') related.placed live span is within));
      }

  -- ---- through a pointer

  write_within : (objects : List Object) (m : Memory) (o : Object) (h : Home) (g : Live) (p : Pointer) (s : Span) (t : Ty) (v : Value) (new : List Byte) (x : Option ℕ) → Related table places homes objects m → IsScalar t → slice_get objects p.object ≡ Some o → slice_get homes p.object ≡ Some h → live_of m h.id ≡ Some g → span_of h p.path ≡ Some s → s.shape ≡ scalar t → ((k : ℕ) → x ≡ Some k → k < s.count) → IsOf table places homes t v → Spell table places homes t v new → length new ≡ width t → Changes table places homes (after (if_within x) (λ k. cond p.sealed (stops readonly) (gives (set objects p.object (with_trees o (with_element p.path k (leaf v) o.trees)))))) (stored_at m new (width t) (writable (located_in p.sealed g s.place s.count (width t) x)))
  write_within objects m o h g p s t v new None related scalar' at at' live span is within of spells wide = change_stopped bounds_ends
  write_within objects m o h g p s t v new (Some k) related scalar' at at' live span is within of spells wide =
      sealed_or p.sealed _ (record { address = g.base + s.place + k * width t; id = g.id; lo = s.place; hi = s.place + s.count * width t; sealed = p.sealed }) (related_written objects m p.object o h g p.path s t k v new related scalar' at at' live span is (within k refl) of spells wide) where
        sealed_or : (b : Bool) (objects' : List Object) (a : Access) → Related table places homes objects' (with_bytes m a.address new) → Changes table places homes (cond b (stops readonly) (gives objects')) (stored_at m new (width t) (cond b (Err Rattle.ms_segment.specs.declared.trap.SegTrap.TheVariants.Readonly) (Ok a)))
        sealed_or true objects' a related' = change_stopped readonly_ends
        sealed_or false objects' a related' = changes related'

  write_there : (objects : List Object) (m : Memory) (o : Object) (h : Home) (p : Pointer) (s : Span) (t : Ty) (v : Value) (new : List Byte) (l : Option Live) → Related table places homes objects m → IsScalar t → slice_get objects p.object ≡ Some o → slice_get homes p.object ≡ Some h → live_of m h.id ≡ l → span_of h p.path ≡ Some s → s.shape ≡ scalar t → IsThere table places homes m.bytes o h l → IsOf table places homes t v → Spell table places homes t v new → length new ≡ width t → Changes table places homes (after (if_alive (Some o)) (λ u. after (element_at u p) (λ k. cond p.sealed (stops readonly) (gives (set objects p.object (with_trees u (with_element p.path k (leaf v) u.trees))))))) (stored_at m new (width t) (writable (located p.sealed l s.place s.count (width t) (index_in s.count p.index))))
  write_there objects m o h p s t v new None related scalar' at at' live span is (gone dead) of spells wide = rw dead (change_stopped freed_ends)
  write_there objects m o h p s t v new (Some g) related scalar' at at' live span is (lives alive kind long many laid) of spells wide =
      let there = array_stands table places homes m.bytes o h g p.path s span many laid in
      let all : Changes table places homes (after (if_within (index_in s.count p.index)) (λ k. cond p.sealed (stops readonly) (gives (set objects p.object (with_trees o (with_element p.path k (leaf v) o.trees)))))) (stored_at m new (width t) (writable (located_in p.sealed g s.place s.count (width t) (index_in s.count p.index)))) = write_within objects m o h g p s t v new (index_in s.count p.index) related scalar' at at' live span is (λ k e. index_in-within s.count p.index k e) of spells wide in
      subst (λ (b : Bool). Changes table places homes (after (cond b (gives o) (Rattle.c_meaning.specs.Objects.stops Rattle.c_meaning.specs.Objects.freed)) (λ u. after (element_at u p) (λ k. cond p.sealed (stops readonly) (gives (set objects p.object (with_trees u (with_element p.path k (leaf v) u.trees))))))) (stored_at m new (width t) (writable (located_in p.sealed g s.place s.count (width t) (index_in s.count p.index))))) (sym alive) (rw there.0 all)

  -- a number or a function
  pub write_number : (objects : List Object) (m : Memory) (t : Ty) (p v : Value) → Related table places homes objects m → IsScalar t → is_handle t ≡ false → IsOf table places homes (pointer t) p → IsOf table places homes t v → Changes table places homes (write objects p v) (stored_at m (data_of (width t) (word places t v)) (width t) (writable (access m (handle homes p) (width t))))
  write_number objects m t p v related is plain (is_null f) of = change_stopped null_ends
  write_number objects m t p v related is plain (is_invalid f) of = change_stopped invalid_ends
  write_number objects m t p v related is plain (is_pointer {p = q} h s f at span same near) of =
      let o = object_there table places homes objects q.object h related.long at in
      let shape' : s.shape ≡ scalar t = same ∙ scalar_shape table t is in
      let there = related.each q.object o.0 h o.1 at in
      let spells : Spell table places homes t v (data_of (width t) (word places t v)) = record { data' = λ e. refl; pieces' = λ e. absurd (let x : true ≡ false = sym e ∙ plain in cc) } in
      rw (o.1, at, span, shape', access_is m q.sealed h.id s.place s.count (width t) q.index (scalar_width t is)) (write_there objects m o.0 h q s t v (data_of (width t) (word places t v)) (live_of m h.id) related is o.1 at refl span shape' there.state of spells (length-data_of (width t) (word places t v)))
  write_number objects m t p v related is plain (is_named f small) of = absurd (no_function_scalar t is f)
  write_number objects m t p v related is plain (is_no_function f) of = absurd (no_function_scalar t is f)

  -- a pointer
  pub write_pointer : (objects : List Object) (m : Memory) (t : Ty) (p v : Value) → Related table places homes objects m → IsScalar t → is_handle t ≡ true → IsOf table places homes (pointer t) p → IsOf table places homes t v → Changes table places homes (write objects p v) (stored_at m (pieces (handle homes v)) 16 (writable (handle_access m (handle homes p))))
  write_pointer objects m t p v related is has (is_null f) of = change_stopped null_ends
  write_pointer objects m t p v related is has (is_invalid f) of = change_stopped invalid_ends
  write_pointer objects m t p v related is has (is_pointer {p = q} h s f at span same near) of =
      let o = object_there table places homes objects q.object h related.long at in
      let shape' : s.shape ≡ scalar t = same ∙ scalar_shape table t is in
      let there = related.each q.object o.0 h o.1 at in
      let spells : Spell table places homes t v (pieces (handle homes v)) = record { data' = λ e. absurd (let x : true ≡ false = sym has ∙ e in cc); pieces' = λ e. whole refl } in
      let all = write_there objects m o.0 h q s t v (pieces (handle homes v)) (live_of m h.id) related is o.1 at refl span shape' there.state of spells (sym (handle_width t has)) in
      let all' = subst (λ w. Changes table places homes (after (if_alive (Some o.0)) (λ u. after (element_at u q) (λ k. cond q.sealed (stops readonly) (gives (set objects q.object (with_trees u (with_element q.path k (leaf v) u.trees))))))) (stored_at m (pieces (handle homes v)) w (writable (located q.sealed (live_of m h.id) s.place s.count (width t) (index_in s.count q.index))))) (handle_width t has) all in
      rw (o.1, at, span, pointer_access table places homes m o.0 h q s t there span shape' has) all'
  write_pointer objects m t p v related is has (is_named f small) of = absurd (no_function_scalar t is f)
  write_pointer objects m t p v related is has (is_no_function f) of = absurd (no_function_scalar t is f)
