-- An object ends, and all others are as before.
use Rattle.std.proofs.Common.{◌≡◌, ◌==◌, ℕ, suc, zero, ◌*◌, ◌<◌, ◌≤◌, inl, inr, Bool, true, false, not, ◌&&◌, cond, ℤ, pos, negsuc, ◌*ℤ◌, List, [], Option, Some, None, Ok, Err, length, set, refl, sym, ap, ◌∙◌, subst, arith}
use Rattle.std.specs.Prelude.{slice_get}
use Rattle.std.specs.Ordering.{int_eq}
use Rattle.std.proofs.lemmas.Bool.{cases_eq, eq-eqb, eqb-true, ne_eqb}
use Rattle.std.proofs.lemmas.Bool.Decides.{Decides-int_eq}
use Rattle.std.proofs.lemmas.List.{length-set}
use Rattle.std.proofs.lemmas.List.Elements.{All-filter}
use Rattle.std.proofs.lemmas.List.Kept.{AllPairs-filter}
use Rattle.std.proofs.lemmas.Option.{slice_get_within}
use Rattle.c_types.specs.Layout.{Table}
use Rattle.c_types.specs.Types.{Ty, pointer, is_function}
use Rattle.c_meaning.specs.Shapes.{size}
use Rattle.c_meaning.specs.Values.{Pointer, Value, null, points}
use Rattle.c_meaning.specs.Objects.{Kind, heap, frame, Object, Span, ended, free, free_kind, if_alive, after, stops, whole, is_whole, length_of, span_in, whole_of}
use Rattle.ms_relate.proofs.Laid.{size-positive, path_within}
use Rattle.ms_handle.specs.declared.handle.Handle.TheVariants as handles
use Rattle.ms_handle.specs.declared.handle.Kind.TheVariants as kinds
use Rattle.ms_live.specs.declared.gaps.Live.{Live}
use Rattle.ms_segment.specs.declared.trap.SegTrap.TheVariants as traps
use Rattle.ms_segment.specs.Memory.{freed, AreApart, IsWithin, Memory, Placed, ends_if, is_whole as is_whole_handle, live_of, same_kind}
use Rattle.ms_segment.specs.Parts.{with_ended}
use Rattle.ms_segment.specs.Calls.{ended_at}
use Rattle.ms_segment.specs.Calls as call
use Rattle.ms_segment.proofs.Finds.{find-filter_gone, find-filter_kept}
use Rattle.ms_relate.specs.refinement.Homes.{Home, handle, IsOf, is_null, is_invalid, is_pointer, is_named, is_no_function, span_of}
use Rattle.ms_relate.specs.refinement.Relation.{IsAt, IsThere, Related, gone, kind_of, lives}
use Rattle.ms_relate.specs.refinement.Operations.{Changes, changes, change_stopped, invalid_ends, freed_ends, whole_ends, kind_ends, readonly_ends}
use Rattle.ms_relate.proofs.Accesses.{negsuc-times}
use Rattle.ms_relate.proofs.Reading.{object_there}
use Rattle.ms_segment.proofs.Standing.{live_is}
use Rattle.ms_relate.proofs.Writing.{other_identity, same_Some, slice_get-set_other, slice_get-set_same}

-- ---- tests

pub same_test : (a b : Bool) → (a ≡ true → b ≡ true) → (b ≡ true → a ≡ true) → a ≡ b
same_test true b to from = sym (to refl)
same_test false true to from = from refl
same_test false false to from = refl

times_zero : (i : ℤ) (w : ℕ) → 0 < w → i *ℤ pos w ≡ pos 0 → i ≡ pos 0
times_zero (pos zero) w some e = refl
times_zero (pos (suc k)) w some e = absurd (let h : suc k * w ≡ 0 = pos_same e in let g : 1 * w ≤ suc k * w = Rattle.std.proofs.Math.Nat.mul-le-mul_right w (let x : 1 ≤ suc k = omega arith in x) in omega (arith, h, g, some)) where
  pos_same : {a b : ℕ} → pos a ≡ pos b → a ≡ b
  pos_same e = cc
times_zero (negsuc k) w some e = absurd (let j = negsuc-times k w some in let h : negsuc j.0 ≡ pos 0 = sym j.1 ∙ e in cc)

-- whether the index is 0
pub zero_index : (i : ℤ) (w : ℕ) → 0 < w → int_eq (i *ℤ pos w) (pos 0) ≡ int_eq i (pos 0)
zero_index i w some =
    same_test (int_eq (i *ℤ pos w) (pos 0)) (int_eq i (pos 0))
    (λ e. (Decides-int_eq i (pos 0)).1 (times_zero i w some ((Decides-int_eq (i *ℤ pos w) (pos 0)).0 e)))
    (λ e. (Decides-int_eq (i *ℤ pos w) (pos 0)).1 (let is : i ≡ pos 0 = (Decides-int_eq i (pos 0)).0 e in ap (λ (x : ℤ). x *ℤ pos w) is ∙ ap (λ (x : ℕ). pos x) (omega arith)))

in_order : (a b c : Bool) → (a && b && c) ≡ (b && (a && c))
in_order true true c = refl
in_order true false c = refl
in_order false true c = refl
in_order false false c = refl

placed_ended : (m : Memory) (id : ℕ) → Placed m → Placed (with_ended m id)
placed_ended m id placed =
    record {
      within = All-filter (λ (t : Live). not (t.id == id)) (IsWithin (length m.bytes)) m.live placed.within;
      apart = AllPairs-filter AreApart (λ (t : Live). not (t.id == id)) m.live placed.apart;
      ids = All-filter (λ (t : Live). not (t.id == id)) (λ (t : Live). (1 ≤ t.id) × (t.id ≤ m.made)) m.live placed.ids;
    }

module _ (table : Table) (places : Ty → ℕ → ℕ) (homes : List Home) where
  -- the object n ends
  ended_each : (objects : List Object) (m : Memory) (n : ℕ) (o : Object) (h : Home) → Related table places homes objects m → slice_get objects n ≡ Some o → slice_get homes n ≡ Some h → (i : ℕ) (u : Object) (j : Home) → slice_get (set objects n (ended o)) i ≡ Some u → slice_get homes i ≡ Some j → IsAt table places homes (with_ended m h.id) u j
  ended_each objects m n o h related at at' i u j there there' =
      let here = related.each n o h at at' in
      elim (cases_eq i n) [
        | inl same ↦
            let u_is : ended o ≡ u = same_Some (slice_get (set objects n (ended o)) n) (ended o) u (slice_get-set_same objects n (ended o) (slice_get_within objects n o at)) (subst (λ x. slice_get (set objects n (ended o)) x ≡ Some u) same there) in
            let j_is : h ≡ j = same_Some (slice_get homes n) h j at' (subst (λ x. slice_get homes x ≡ Some j) same there') in
            let none : live_of (with_ended m h.id) h.id ≡ None = find-filter_gone (λ (t : Live). t.id == h.id) (λ (t : Live). not (t.id == h.id)) m.live (λ t is. ap not is) in
            let state : IsThere table places homes m.bytes (ended o) h (live_of (with_ended m h.id) h.id) = rw none (gone refl) in
            let now : IsAt table places homes (with_ended m h.id) (ended o) h = record { shape = here.shape; count = here.count; fits = here.fits; state = state } in
            subst (λ (x : Object). IsAt table places homes (with_ended m h.id) x j) u_is (subst (λ (x : Home). IsAt table places homes (with_ended m h.id) (ended o) x) j_is now)
        | inr other ↦
            let old : slice_get objects i ≡ Some u = sym (slice_get-set_other objects n i _ other) ∙ there in
            let far = related.each i u j old there' in
            let ids = other_identity table places homes objects m i n j h related there' at' other in
            let kept : live_of (with_ended m h.id) j.id ≡ live_of m j.id = find-filter_kept (λ (t : Live). t.id == j.id) (λ (t : Live). not (t.id == h.id)) m.live (λ t is. ap not (ne_eqb t.id h.id (λ e. ids (sym (eqb-true t.id j.id is) ∙ e)))) in
            record { shape = far.shape; count = far.count; fits = far.fits; state = rw kept far.state }
      ]

  pub related_ended : (objects : List Object) (m : Memory) (n : ℕ) (o : Object) (h : Home) → Related table places homes objects m → slice_get objects n ≡ Some o → slice_get homes n ≡ Some h → Related table places homes (set objects n (ended o)) (with_ended m h.id)
  related_ended objects m n o h related at at' =
      record { long = related.long ∙ sym (length-set objects n (ended o)); each = ended_each objects m n o h related at at'; rising = related.rising; made = related.made; placed = placed_ended m h.id related.placed }

  -- ---- free

  free_of_kind : (objects : List Object) (m : Memory) (n : ℕ) (o : Object) (h : Home) (g : Live) (k : Kind) (b : Bool) → Related table places homes objects m → slice_get objects n ≡ Some o → slice_get homes n ≡ Some h → g.kind ≡ kind_of k → g.id ≡ h.id → Changes table places homes (free_kind k b (set objects n (ended o))) (ended_at m (cond (same_kind g.kind kinds.Heap) (cond b (Err traps.Readonly) (Ok g.id)) (Err traps.Kind)))
  free_of_kind objects m n o h g heap true related at at' is same = rw is (change_stopped readonly_ends)
  free_of_kind objects m n o h g heap false related at at' is same = rw (is, same) (changes (related_ended objects m n o h related at at'))
  free_of_kind objects m n o h g frame b related at at' is same = rw is (change_stopped kind_ends)

  free_if_whole : (objects : List Object) (m : Memory) (n : ℕ) (o : Object) (h : Home) (g : Live) (z b : Bool) → Related table places homes objects m → slice_get objects n ≡ Some o → slice_get homes n ≡ Some h → g.kind ≡ kind_of o.kind → g.id ≡ h.id → Changes table places homes (cond b (free_kind o.kind z (set objects n (ended o))) (stops whole)) (ended_at m (cond b (cond (same_kind g.kind kinds.Heap) (cond z (Err traps.Readonly) (Ok g.id)) (Err traps.Kind)) (Err traps.Whole)))
  free_if_whole objects m n o h g z true related at at' is same = free_of_kind objects m n o h g o.kind z related at at' is same
  free_if_whole objects m n o h g z false related at at' is same = change_stopped whole_ends

  free_there : (objects : List Object) (m : Memory) (o : Object) (h : Home) (p : Pointer) (s : Span) (l : Option Live) → Related table places homes objects m → slice_get objects p.object ≡ Some o → slice_get homes p.object ≡ Some h → span_of h p.path ≡ Some s → 0 < size s.shape → o.shape ≡ h.shape → o.count ≡ h.count → live_of m h.id ≡ l → IsThere table places homes m.bytes o h l → Changes table places homes (after (if_alive (Some o)) (λ u. cond (is_whole u p) (free_kind u.kind p.sealed (set objects p.object (ended u))) (stops whole))) (ended_at m (ends_if l p.sealed s.place (length_of s) (p.index *ℤ pos (size s.shape)) kinds.Heap))
  free_there objects m o h p s None related at at' span some shape' count' live (gone dead) = rw dead (change_stopped freed_ends)
  free_there objects m o h p s (Some g) related at at' span some shape' count' live (lives alive kind long many laid) =
      let span' : span_in o p.path ≡ Some s = rw (shape', count') span in
      let sized : o.count * size o.shape ≡ g.size = rw (shape', count') (sym long) in
      let test : is_whole o p ≡ is_whole_handle s.place (length_of s) (p.index *ℤ pos (size s.shape)) g = rw (span', sized, zero_index p.index (size s.shape) some) (sym (in_order (s.place == 0) (int_eq p.index (pos 0)) (length_of s == g.size))) in
      rw (alive, test) (free_if_whole objects m p.object o h g p.sealed (is_whole_handle s.place (length_of s) (p.index *ℤ pos (size s.shape)) g) related at at' kind (live_is m h.id g live).1)

  -- a free of what isn't null
  pub free_object : (objects : List Object) (m : Memory) (t : Ty) (v : Value) → Related table places homes objects m → (v ≡ null → ⊥) → IsOf table places homes (pointer t) v → is_function t ≡ false → Changes table places homes (free objects v) (ended_at m (freed m (handle homes v) kinds.Heap))
  free_object objects m t v related some (is_null f) plain = absurd (some refl)
  free_object objects m t v related some (is_invalid f) plain = change_stopped invalid_ends
  free_object objects m t v related some (is_pointer {p} h s f at span same near) plain =
      let o = object_there table places homes objects p.object h related.long at in
      let there = related.each p.object o.0 h o.1 at in
      let fit = path_within p.path (whole_of h.shape h.count) s there.fits span in
      rw (o.1, at, span) (free_there objects m o.0 h p s (live_of m h.id) related o.1 at span (size-positive s.shape fit.2) there.shape there.count refl there.state)
  free_object objects m t v related some (is_named f small) plain = absurd (let x : true ≡ false = sym f ∙ plain in cc)
  free_object objects m t v related some (is_no_function f) plain = absurd (let x : true ≡ false = sym f ∙ plain in cc)

  -- ---- the objects of a block that is left

  -- the handle that a variable's name holds
  pub name_handle : (n : ℕ) (h : Home) → slice_get homes n ≡ Some h → handle homes (points (record { object = n; path = []; index = pos 0; sealed = false })) ≡ handles.Good false h.id 0 (h.count * size h.shape) (pos 0)
  name_handle n h at = rw at (ap (λ (x : ℕ). handles.Good false h.id 0 (h.count * size h.shape) (pos x)) (omega arith))

  frame_there : (objects : List Object) (m : Memory) (n : ℕ) (o : Object) (h : Home) (l : Option Live) → Related table places homes objects m → slice_get objects n ≡ Some o → slice_get homes n ≡ Some h → o.alive ≡ true → o.kind ≡ frame → live_of m h.id ≡ l → IsThere table places homes m.bytes o h l → (c : call.Change) × (ended_at m (ends_if l false 0 (h.count * size h.shape) (pos 0) kinds.Frame) ≡ Ok c) × Related table places homes (set objects n (ended o)) c.memory
  frame_there objects m n o h None related at at' alive kind live (gone dead) = absurd (let x : true ≡ false = sym alive ∙ dead in cc)
  frame_there objects m n o h (Some g) related at at' alive kind live (lives alive' kind' long many laid) =
      let whole' : (h.count * size h.shape == g.size) ≡ true = eq-eqb (h.count * size h.shape) g.size (sym long) in
      let is_frame : g.kind ≡ kinds.Frame = kind' ∙ ap (λ k. kind_of k) kind in
      let same : g.id ≡ h.id = (live_is m h.id g live).1 in
      (record { event = Rattle.ms_event.specs.declared.event.Event.TheVariants.Free g.id; memory = with_ended m g.id }, rw (whole', is_frame) refl, rw same (related_ended objects m n o h related at at'))

  -- it ends, without a trap
  pub frame_ends : (objects : List Object) (m : Memory) (n : ℕ) (o : Object) (h : Home) → Related table places homes objects m → slice_get objects n ≡ Some o → slice_get homes n ≡ Some h → o.alive ≡ true → o.kind ≡ frame → (c : call.Change) × (call.free m (handles.Good false h.id 0 (h.count * size h.shape) (pos 0)) kinds.Frame ≡ Ok c) × Related table places homes (set objects n (ended o)) c.memory
  frame_ends objects m n o h related at at' alive kind =
      frame_there objects m n o h (live_of m h.id) related at at' alive kind refl (related.each n o h at at').state
