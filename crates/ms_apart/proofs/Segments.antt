-- Instructions on segments, on two memories that are alike.
use Rattle.std.proofs.Common.{◌≡◌, ◌==◌, ℕ, suc, zero, ◌+◌, ◌-◌, ◌%◌, ◌/◌, ◌≤◌, ◌&&◌, Bool, true, false, cond, not, nat_le, ℤ, pos, negsuc, ◌+ℤ◌, ◌-ℤ◌, ◌*ℤ◌, List, [], ◌∷◌, Option, Some, None, Result, Ok, Err, length, map, inl, inr, refl, sym, ap, ◌∙◌, subst, arith}
use Rattle.std.specs.Ordering.{int_eq}
use Rattle.std.proofs.lemmas.Bool.{cases_eq, eq-eqb, eqb-true, leb-true, ne_eqb}
use Rattle.std.proofs.lemmas.List.{length-map}
use Rattle.ms_event.specs.declared.event.Event.{Event}
use Rattle.ms_event.specs.declared.event.Event.TheVariants as events
use Rattle.ms_handle.specs.Handle.{add, difference, eq, is_near, moved, part, slice, seal}
use Rattle.ms_handle.specs.declared.handle.Apart.{Apart}
use Rattle.ms_handle.specs.declared.handle.Handle.{Handle}
use Rattle.ms_handle.specs.declared.handle.Handle.TheVariants.{Null, Broken, Good}
use Rattle.ms_handle.specs.declared.handle.Kind.{Kind}
use Rattle.ms_live.specs.declared.gaps.Live.{Live}
use Rattle.ms_num.specs.Integers.{signed, truth}
use Rattle.ms_linear.specs.declared.value.Value.{Value}
use Rattle.ms_linear.specs.declared.value.Value.TheVariants as values
use Rattle.ms_machine.specs.refinement.Holding.{Each, Fits}
use Rattle.ms_machine.specs.Segments.{Effect, Gives, Stuck, Trap, changed, handle_read, is_null, measured, number_read, number_stored, segment_on, slice_event, sliced, seal_event}
use Rattle.ms_module.specs.Accesses.{load_bytes, store_bytes}
use Rattle.ms_module.specs.declared.access.LoadOp.{LoadOp}
use Rattle.ms_module.specs.declared.access.Segment.{Segment}
use Rattle.ms_module.specs.declared.access.Segment.TheVariants as instrs
use Rattle.ms_operate.specs.Accesses.{number_of, width_of}
use Rattle.ms_segment.specs.Calls as call
use Rattle.ms_segment.specs.Calls.{Change, are_pieces, are_zeros, handle_at, same_handle, stored_at, same_sort}
use Rattle.ms_segment.specs.Memory.{Access, IsFit, IsSound, Memory, access, accessed, accessed_if, aligned, as_number, ends_if, freed, handle_access, is_whole, live_of, loaded_at, once_more, read_event, same_kind, with_bytes, write_event, writable}
use Rattle.ms_segment.specs.Parts.{with_ended}
use Rattle.ms_segment.specs.declared.trap.SegTrap.{SegTrap}
use Rattle.ms_segment.specs.declared.trap.SegTrap.TheVariants as traps
use Rattle.ms_segment.proofs.Finds.{find-filter_gone, find-filter_kept}
use Rattle.ms_tagged.specs.Bytes.{Byte, Data, Piece, data_of, number_at, number_with, overwritten, pieces, range}
use Rattle.ms_tagged.proofs.Numbers.{length-data_of}
use Rattle.ms_apart.specs.refinement.Renaming.{Renaming, rename, rename_all, rename_byte, rename_handle}
use Rattle.ms_apart.specs.refinement.Apart.{EachByte, EventAlike, HandleOn, IsOld, MemoryAlike, Owned, SegmentAlike, SegmentOn, ValueOn, base_in, contents}
use Rattle.ms_apart.proofs.Bytes.{bytes_range, contents_other, contents_written, overwritten_mapped, range_mapped}
use Rattle.ms_segment.proofs.Standing.{live_aligned, live_inside, live_is}
use Rattle.ms_tagged.proofs.Within.{range-within}
use Rattle.ms_apart.proofs.Plain.{number_renamed, value_renamed}

abbrev pub IsNew : Segment → Type 0
IsNew (instrs.New kind) = Unit {0}
IsNew _ = ⊥

-- ---- handles alone

module _ (r : Renaming) where
  moved_renamed : (h : Handle) (d : ℤ) → moved (rename_handle r h) d ≡ rename_handle r (moved h d)
  moved_renamed Null d = refl
  moved_renamed Broken d = refl
  moved_renamed (Good sealed id base size offset) d = by (is_near (offset +ℤ d)) where
    by : (b : Bool) → cond b (Good sealed (r id) base size (offset +ℤ d)) Broken ≡ rename_handle r (cond b (Good sealed id base size (offset +ℤ d)) Broken)
    by true = refl
    by false = refl

  add_renamed : (h : Handle) (d : ℤ) (k : ℕ) → add (rename_handle r h) d k ≡ rename_handle r (add h d k)
  add_renamed h d k = by (int_eq (d *ℤ pos k) (pos 0)) where
    by : (b : Bool) → cond b (rename_handle r h) (moved (rename_handle r h) (d *ℤ pos k)) ≡ rename_handle r (cond b h (moved h (d *ℤ pos k)))
    by true = refl
    by false = moved_renamed h (d *ℤ pos k)

  part_renamed : (sealed : Bool) (id base size : ℕ) (z : ℤ) (len : ℕ) → part sealed (r id) base size z len ≡ rename_handle r (part sealed id base size z len)
  part_renamed sealed id base size (pos start) len = by (nat_le (start + len) size) where
    by : (b : Bool) → cond b (Good sealed (r id) (base + start) len (pos 0)) Broken ≡ rename_handle r (cond b (Good sealed id (base + start) len (pos 0)) Broken)
    by true = refl
    by false = refl
  part_renamed sealed id base size (negsuc n) len = refl

  slice_renamed : (h : Handle) (from len : ℕ) → slice (rename_handle r h) from len ≡ rename_handle r (slice h from len)
  slice_renamed Null from len = refl
  slice_renamed Broken from len = refl
  slice_renamed (Good sealed id base size offset) from len = part_renamed sealed id base size (offset +ℤ pos from) len

  seal_renamed : (h : Handle) → seal (rename_handle r h) ≡ rename_handle r (seal h)
  seal_renamed Null = refl
  seal_renamed Broken = refl
  seal_renamed (Good sealed id base size offset) = refl

  null_renamed : (h : Handle) → is_null (rename_handle r h) ≡ is_null h
  null_renamed Null = refl
  null_renamed Broken = refl
  null_renamed (Good sealed id base size offset) = refl

  slice_told : (own : Owned) (m m' : Memory) (h g : Handle) → HandleOn own true h → EventAlike own r m m' (slice_event h g) (slice_event (rename_handle r h) (rename_handle r g))
  slice_told own m m' (Good sealed id base size offset) (Good sealed' id' base' size' offset') on = (refl, on)
  slice_told own m m' h g on = (refl, tt)

  pub slice_old : (h g : Handle) → IsOld (slice_event h g)
  slice_old (Good sealed id base size offset) (Good sealed' id' base' size' offset') = tt
  slice_old h g = tt

  seal_told : (own : Owned) (m m' : Memory) (h : Handle) → HandleOn own true h → EventAlike own r m m' (seal_event h) (seal_event (rename_handle r h))
  seal_told own m m' Null on = (refl, tt)
  seal_told own m m' Broken on = (refl, tt)
  seal_told own m m' (Good true id base size offset) on = (refl, tt)
  seal_told own m m' (Good false id base size offset) on = (refl, on)

  pub seal_old : (h : Handle) → IsOld (seal_event h)
  seal_old Null = tt
  seal_old Broken = tt
  seal_old (Good true id base size offset) = tt
  seal_old (Good false id base size offset) = tt

  number_told : (xs : List Byte) → number_at (map (rename_byte r) xs) ≡ number_at xs
  number_told [] = refl
  number_told (Data n ∷ xs) = ap (number_with n) (number_told xs)
  number_told (Piece h i ∷ xs) = refl

  zeros_told : (xs : List Byte) → are_zeros (map (rename_byte r) xs) ≡ are_zeros xs
  zeros_told [] = refl
  zeros_told (Data n ∷ xs) = ap (λ b. (n == 0) && b) (zeros_told xs)
  zeros_told (Piece h i ∷ xs) = refl

  pub data_renamed : (width value : ℕ) → data_of width value ≡ map (rename_byte r) (data_of width value)
  data_renamed zero value = refl
  data_renamed (suc width) value = ap (λ xs. Data (value % 256) ∷ xs) (data_renamed width (value / 256))

-- ---- two memories

module _ (own : Owned) (r : Renaming) (m m' : Memory) (alike : MemoryAlike own r m m') where
  abbrev On : Handle → Type 0
  On = HandleOn own true

  same_identity : (i j : ℕ) → own i ≡ true → own j ≡ true → (r i == r j) ≡ (i == j)
  same_identity i j a b =
      elim (cases_eq i j) [
        | inl e ↦ eq-eqb (r i) (r j) (ap r e) ∙ sym (eq-eqb i j e)
        | inr other ↦ ne_eqb (r i) (r j) (λ e. other (alike.different i j a b e)) ∙ sym (ne_eqb i j other)
      ]

  eq_renamed : (a b : Handle) → On a → On b → eq (rename_handle r a) (rename_handle r b) ≡ eq a b
  eq_renamed (Good sealed id base size offset) (Good sealed' id' base' size' offset') x y = ap (λ c. c && int_eq (pos base +ℤ offset) (pos base' +ℤ offset')) (same_identity id id' x y)
  eq_renamed Null b x y = by b where
    by : (b : Handle) → eq Null (rename_handle r b) ≡ eq Null b
    by Null = refl
    by Broken = refl
    by (Good sealed id base size offset) = refl
  eq_renamed a b x y = refl

  same_renamed : (a b : Handle) → On a → On b → same_handle (rename_handle r a) (rename_handle r b) ≡ same_handle a b
  same_renamed (Good sealed id base size offset) (Good sealed' id' base' size' offset') x y = ap (λ c. same_sort sealed sealed' && (c && ((base == base') && ((size == size') && int_eq offset offset')))) (same_identity id id' x y)
  same_renamed Null b x y = by b where
    by : (b : Handle) → same_handle Null (rename_handle r b) ≡ same_handle Null b
    by Null = refl
    by Broken = refl
    by (Good sealed id base size offset) = refl
  same_renamed Broken b x y = by b where
    by : (b : Handle) → same_handle Broken (rename_handle r b) ≡ same_handle Broken b
    by Null = refl
    by Broken = refl
    by (Good sealed id base size offset) = refl
  same_renamed a b x y = refl

  difference_renamed : (a b : Handle) → On a → On b → difference (rename_handle r a) (rename_handle r b) ≡ difference a b
  difference_renamed (Good sealed id base size offset) (Good sealed' id' base' size' offset') x y =
      ap (λ c. cond c (Ok ((pos base +ℤ offset) -ℤ (pos base' +ℤ offset'))) (Err (record {}))) (same_identity id id' x y)
  difference_renamed a b x y = refl

  pieces_told : (h : Handle) (i : ℕ) (xs : List Byte) → On h → EachByte On xs → are_pieces (rename_handle r h) i (map (rename_byte r) xs) ≡ are_pieces h i xs
  pieces_told h i [] x y = refl
  pieces_told h i (Data n ∷ xs) x y = refl
  pieces_told h i (Piece g j ∷ xs) x y =
      ap (λ c. c && ((j == i) && are_pieces (rename_handle r h) (suc i) (map (rename_byte r) xs))) (same_renamed g h y.0 x)
      ∙ ap (λ c. same_handle g h && ((j == i) && c)) (pieces_told h (suc i) xs x y.1)

  handle_told : (xs : List Byte) → EachByte On xs → handle_at (map (rename_byte r) xs) ≡ rename_handle r (handle_at xs)
  handle_told [] x = refl
  handle_told (Data n ∷ xs) x = ap (λ b. cond b Null Broken) (zeros_told r (Data n ∷ xs)) ∙ by (are_zeros (Data n ∷ xs)) where
    by : (b : Bool) → cond b Null Broken ≡ rename_handle r (cond b Null Broken)
    by true = refl
    by false = refl
  handle_told (Piece h i ∷ xs) x = ap (λ b. cond b (rename_handle r h) Broken) (pieces_told h 0 (Piece h i ∷ xs) x.0 x) ∙ by (are_pieces h 0 (Piece h i ∷ xs)) where
    by : (b : Bool) → cond b (rename_handle r h) Broken ≡ rename_handle r (cond b h Broken)
    by true = refl
    by false = refl

  -- ---- accesses

  pub record ReachAlike (width : ℕ) (a a' : Access) : Type 0 where
    pub id : ℕ
    pub segment : Live
    pub segment' : Live
    pub place : ℕ
    pub mine : own id ≡ true
    pub live : live_of m id ≡ Some segment
    pub live' : live_of m' (r id) ≡ Some segment'
    pub is : a.id ≡ id
    pub is' : a'.id ≡ r id
    pub lo : a'.lo ≡ a.lo
    pub hi : a'.hi ≡ a.hi
    pub sort : a'.sealed ≡ a.sealed
    pub at : a.address ≡ segment.base + place
    pub at' : a'.address ≡ segment'.base + place
    pub within : place + width ≤ segment.size

  abbrev AccessAlike : ℕ → Result Access SegTrap → Result Access SegTrap → Type 0
  AccessAlike width (Ok a) x = (a' : Access) × (x ≡ Ok a') × ReachAlike width a a'
  AccessAlike width (Err e) x = x ≡ Err e

  access_alike : (h : Handle) (width : ℕ) → On h → IsFit m h → AccessAlike width (access m h width) (access m' (rename_handle r h) width)
  access_alike Null width on fit = refl
  access_alike Broken width on fit = refl
  access_alike (Good sealed id base size offset) width on fit = by (live_of m id) (live_of m' (r id)) refl refl (alike.segments id on) where
    reach : (s s' : Live) (k : ℕ) → live_of m id ≡ Some s → live_of m' (r id) ≡ Some s' → (b : Bool) → nat_le (k + width) size ≡ b
        → AccessAlike width (cond b (Ok (record { address = s.base + base + k; id = s.id; lo = base; hi = base + size; sealed = sealed })) (Err traps.Bounds)) (cond b (Ok (record { address = s'.base + base + k; id = s'.id; lo = base; hi = base + size; sealed = sealed })) (Err traps.Bounds))
    reach s s' k live live' true e =
        let inside : base + size ≤ s.size = fit.3 s live in
        let room : k + width ≤ size = leb-true (k + width) size e in (
          record { address = s'.base + base + k; id = s'.id; lo = base; hi = base + size; sealed = sealed },
          refl,
          record {
            id = id;
            segment = s;
            segment' = s';
            place = base + k;
            mine = on;
            live = live;
            live' = live';
            is = (live_is m id s live).1;
            is' = (live_is m' (r id) s' live').1;
            lo = refl;
            hi = refl;
            sort = refl;
            at = omega arith;
            at' = omega arith;
            within = omega (arith, inside, room);
          },
        )
    reach s s' k live live' false e = refl

    inside : (s s' : Live) → live_of m id ≡ Some s → live_of m' (r id) ≡ Some s' → (z : ℤ) → AccessAlike width (accessed s sealed base size z width) (accessed s' sealed base size z width)
    inside s s' live live' (pos k) = reach s s' k live live' (nat_le (k + width) size) refl
    inside s s' live live' (negsuc n) = refl

    by : (o o' : Option Live) → live_of m id ≡ o → live_of m' (r id) ≡ o' → SegmentAlike r m m' o o' → AccessAlike width (accessed_if o sealed base size offset width) (accessed_if o' sealed base size offset width)
    by None None live live' x = refl
    by (Some s) (Some s') live live' x = inside s s' live live' offset
    by None (Some s') live live' x = absurd x
    by (Some s) None live live' x = absurd x

  writable_alike : (width : ℕ) (x x' : Result Access SegTrap) → AccessAlike width x x' → AccessAlike width (writable x) (writable x')
  writable_alike width (Err e) x' y = ap writable y
  writable_alike width (Ok a) x' y = subst (λ x. AccessAlike width (writable (Ok a)) (writable x)) (sym y.1) (by a.sealed y.0.sealed y.2.sort) where
    by : (b b' : Bool) → b' ≡ b → AccessAlike width (cond b (Err traps.Readonly) (Ok a)) (cond b' (Err traps.Readonly) (Ok y.0))
    by true b' e = ap (λ c. cond c (Err traps.Readonly) (Ok y.0)) e
    by false b' e = (y.0, ap (λ c. cond c (Err traps.Readonly) (Ok y.0)) e, y.2)

  -- an event of an access, by its place
  place_told : (width : ℕ) (a a' : Access) → ReachAlike width a a' → (a.address - base_in (live_of m a.id) ≡ a'.address - base_in (live_of m' a'.id)) × (a'.id ≡ r a.id)
  place_told width a a' x =
      let e : live_of m a.id ≡ Some x.segment = ap (live_of m) x.is ∙ x.live in
      let e' : live_of m' a'.id ≡ Some x.segment' = ap (live_of m') x.is' ∙ x.live' in
      (rw (e, e') (let at = x.at in let at' = x.at' in omega (arith, at, at')), x.is' ∙ ap r (sym x.is))

  read_told : (width : ℕ) (a a' : Access) → ReachAlike width a a' → EventAlike own r m m' (Some (read_event a width)) (Some (read_event a' width))
  read_told width a a' x =
      let t = place_told width a a' x in
      let p : ℕ = a.address - base_in (live_of m a.id) in
      (ap (λ n. Some (events.Read a'.sealed a'.id a'.lo a'.hi n width)) (sym t.0) ∙ (ap (λ n. Some (events.Read a'.sealed n a'.lo a'.hi p width)) t.1 ∙ (ap (λ n. Some (events.Read a'.sealed (r a.id) n a'.hi p width)) x.lo ∙ (ap (λ n. Some (events.Read a'.sealed (r a.id) a.lo n p width)) x.hi ∙ ap (λ c. Some (events.Read c (r a.id) a.lo a.hi p width)) x.sort))), (ap own x.is ∙ x.mine, (x.segment, ap (live_of m) x.is ∙ x.live)))

  write_told : (width : ℕ) (a a' : Access) → ReachAlike width a a' → EventAlike own r m m' (Some (write_event a width)) (Some (write_event a' width))
  write_told width a a' x =
      let t = place_told width a a' x in
      let p : ℕ = a.address - base_in (live_of m a.id) in
      (ap (λ n. Some (events.Write a'.id a'.lo a'.hi n width)) (sym t.0) ∙ (ap (λ n. Some (events.Write n a'.lo a'.hi p width)) t.1 ∙ (ap (λ n. Some (events.Write (r a.id) n a'.hi p width)) x.lo ∙ ap (λ n. Some (events.Write (r a.id) a.lo n p width)) x.hi)), (ap own x.is ∙ x.mine, (x.segment, ap (live_of m) x.is ∙ x.live)))

  module _ (sound : IsSound m) (sound' : IsSound m') where
    aligned_alike : (x x' : Result Access SegTrap) → AccessAlike 16 x x' → AccessAlike 16 (aligned x) (aligned x')
    aligned_alike (Err e) x' y = ap aligned y
    aligned_alike (Ok a) x' y =
        let z = y.2 in
        let low = live_aligned m z.id z.segment sound.placed z.live in
        let low' = live_aligned m' (r z.id) z.segment' sound'.placed z.live' in
        let at = z.at in
        let at' = z.at' in
        let same : y.0.address % 16 ≡ a.address % 16 = omega (arith, low, low', at, at') in
        subst (λ x. AccessAlike 16 (aligned (Ok a)) (aligned x)) (sym y.1) (by (a.address % 16 == 0) (y.0.address % 16 == 0) (ap (λ n. n == 0) same))
      where
        by : (b b' : Bool) → b' ≡ b → AccessAlike 16 (cond b (Ok a) (Err traps.Misaligned)) (cond b' (Ok y.0) (Err traps.Misaligned))
        by true b' e = (y.0, ap (λ c. cond c (Ok y.0) (Err traps.Misaligned)) e, y.2)
        by false b' e = ap (λ c. cond c (Ok y.0) (Err traps.Misaligned)) e

    handle_access_alike : (h : Handle) → On h → IsFit m h → AccessAlike 16 (handle_access m h) (handle_access m' (rename_handle r h))
    handle_access_alike h on fit = aligned_alike (access m h 16) (access m' (rename_handle r h) 16) (access_alike h 16 on fit)

    -- ---- what an access reads

    stand : (id : ℕ) (s s' : Live) → own id ≡ true → live_of m id ≡ Some s → live_of m' (r id) ≡ Some s' → SegmentAlike r m m' (Some s) (Some s')
    stand id s s' mine live live' = subst (λ o. SegmentAlike r m m' (Some s) o) live' (subst (λ o. SegmentAlike r m m' o (live_of m' (r id))) live (alike.segments id mine))

    bytes_alike : (width : ℕ) (a a' : Access) → ReachAlike width a a' → range a'.address width m'.bytes ≡ map (rename_byte r) (range a.address width m.bytes)
    bytes_alike width a a' x =
        let same = stand x.id x.segment x.segment' x.mine x.live x.live' in
        let room' : x.place + width ≤ x.segment'.size = let within = x.within in let sized = same.0 in omega (arith, within, sized) in
        ap (λ n. range n width m'.bytes) x.at' ∙ (range-within x.segment'.base x.place width x.segment'.size m'.bytes room' (live_inside m' (r x.id) x.segment' sound'.placed x.live')
        ∙ (ap (range x.place width) same.2 ∙ (range_mapped (rename_byte r) x.place width (contents m x.segment)
        ∙ ap (map (rename_byte r)) (sym (range-within x.segment.base x.place width x.segment.size m.bytes x.within (live_inside m x.id x.segment sound.placed x.live)) ∙ ap (λ n. range n width m.bytes) (sym x.at)))))

    -- ---- writes

    module _ (new : List Byte) (a a' : Access) (x : ReachAlike (length new) a a') where
      abbrev new' : List Byte
      new' = map (rename_byte r) new

      abbrev now : Memory
      now = with_bytes m (x.segment.base + x.place) new

      abbrev now' : Memory
      now' = with_bytes m' (x.segment'.base + x.place) new'

      long' : length new' ≡ length new
      long' = length-map new (rename_byte r)

      room' : x.place + length new' ≤ x.segment'.size
      room' = let same = stand x.id x.segment x.segment' x.mine x.live x.live' in let within = x.within in let sized = same.0 in let l = long' in omega (arith, within, sized, l)

      here : SegmentAlike r now now' (Some x.segment) (Some x.segment')
      here =
          let same = stand x.id x.segment x.segment' x.mine x.live x.live' in
          (same.0, same.1, contents_written m' (r x.id) x.segment' x.place new' sound' x.live' room' ∙ (ap (overwritten x.place new') same.2 ∙ (overwritten_mapped (rename_byte r) x.place new (contents m x.segment) ∙ ap (map (rename_byte r)) (sym (contents_written m x.id x.segment x.place new sound x.live x.within)))))

      there : (j : ℕ) → own j ≡ true → (j ≡ x.id → ⊥) → (o o' : Option Live) → live_of m j ≡ o → live_of m' (r j) ≡ o' → SegmentAlike r m m' o o' → SegmentAlike r now now' o o'
      there j mine other None None e e' y = tt
      there j mine other (Some s) (Some s') e e' y = (
        y.0,
        y.1,
        contents_other m' (r j) (r x.id) s' x.segment' x.place new' sound' e' x.live' (λ same. other (alike.different j x.id mine x.mine same)) room'
            ∙ (y.2 ∙ ap (map (rename_byte r)) (sym (contents_other m j x.id s x.segment x.place new sound e x.live other x.within))),
      )
      there j mine other None (Some s') e e' y = absurd y
      there j mine other (Some s) None e e' y = absurd y

      writes : MemoryAlike own r now now'
      writes =
          record {
            made = alike.made;
            different = alike.different;
            segments = λ j mine. elim (cases_eq j x.id) [
              | inl same ↦ subst (λ i. SegmentAlike r now now' (live_of m i) (live_of m' (r i))) (sym same) (subst (λ o. SegmentAlike r now now' o (live_of m' (r x.id))) (sym x.live) (subst (λ o. SegmentAlike r now now' (Some x.segment) o) (sym x.live') here))
              | inr other ↦ there j mine other (live_of m j) (live_of m' (r j)) refl refl (alike.segments j mine)
            ];
          }

      written_alike : MemoryAlike own r (with_bytes m a.address new) (with_bytes m' a'.address (map (rename_byte r) new))
      written_alike =
          subst (λ n. MemoryAlike own r (with_bytes m n new) (with_bytes m' a'.address (map (rename_byte r) new))) (sym x.at)
          (subst (λ n. MemoryAlike own r (with_bytes m (x.segment.base + x.place) new) (with_bytes m' n (map (rename_byte r) new))) (sym x.at') writes)

    -- ---- ends

    ended_alike : (id : ℕ) → own id ≡ true → MemoryAlike own r (with_ended m id) (with_ended m' (r id))
    ended_alike id mine =
        record {
          made = alike.made;
          different = alike.different;
          segments = λ j mine'. elim (cases_eq j id) [
            | inl same ↦ subst (λ i. SegmentAlike r (with_ended m id) (with_ended m' (r id)) (live_of (with_ended m id) i) (live_of (with_ended m' (r id)) (r i))) (sym same)
                (subst (λ o. SegmentAlike r (with_ended m id) (with_ended m' (r id)) o (live_of (with_ended m' (r id)) (r id))) (sym (gone m id)) (subst (λ o. SegmentAlike r (with_ended m id) (with_ended m' (r id)) None o) (sym (gone m' (r id))) tt))
            | inr other ↦ subst (λ o. SegmentAlike r m m' o (live_of (with_ended m' (r id)) (r j))) (sym (stays m id j other))
                (subst (λ o. SegmentAlike r m m' (live_of m j) o) (sym (stays m' (r id) (r j) (λ e. other (alike.different j id mine' mine e)))) (alike.segments j mine'))
          ];
        }
      where
        gone : (n : Memory) (i : ℕ) → live_of (with_ended n i) i ≡ None
        gone n i = find-filter_gone (λ (t : Live). t.id == i) (λ (t : Live). not (t.id == i)) n.live (λ t is. ap not is)

        stays : (n : Memory) (i j : ℕ) → (j ≡ i → ⊥) → live_of (with_ended n i) j ≡ live_of n j
        stays n i j other = find-filter_kept (λ (t : Live). t.id == j) (λ (t : Live). not (t.id == i)) n.live (λ t is. ap not (ne_eqb t.id i (λ e. other (sym (eqb-true t.id j is) ∙ e))))

    abbrev FreedAlike : Result ℕ SegTrap → Result ℕ SegTrap → Type 0
    FreedAlike (Ok id) x = (own id ≡ true) × (x ≡ Ok (r id))
    FreedAlike (Err e) x = x ≡ Err e

    freed_alike : (h : Handle) (kind : Kind) → On h → FreedAlike (freed m h kind) (freed m' (rename_handle r h) kind)
    freed_alike Null kind on = refl
    freed_alike Broken kind on = refl
    freed_alike (Good sealed id base size offset) kind on = by (live_of m id) (live_of m' (r id)) refl refl (alike.segments id on) where
      writes : (s s' : Live) → live_of m id ≡ Some s → live_of m' (r id) ≡ Some s' → (c : Bool) → FreedAlike (cond c (Err traps.Readonly) (Ok s.id)) (cond c (Err traps.Readonly) (Ok s'.id))
      writes s s' live live' true = refl
      writes s s' live live' false = let is = (live_is m id s live).1 in (ap own is ∙ on, ap Ok ((live_is m' (r id) s' live').1 ∙ ap r (sym is)))

      kinds : (s s' : Live) → live_of m id ≡ Some s → live_of m' (r id) ≡ Some s' → (b b' : Bool) → b' ≡ b → FreedAlike (cond b (cond sealed (Err traps.Readonly) (Ok s.id)) (Err traps.Kind)) (cond b' (cond sealed (Err traps.Readonly) (Ok s'.id)) (Err traps.Kind))
      kinds s s' live live' true b' e = subst (λ c. FreedAlike (cond sealed (Err traps.Readonly) (Ok s.id)) (cond c (cond sealed (Err traps.Readonly) (Ok s'.id)) (Err traps.Kind))) (sym e) (writes s s' live live' sealed)
      kinds s s' live live' false b' e = ap (λ c. cond c (cond sealed (Err traps.Readonly) (Ok s'.id)) (Err traps.Kind)) e

      wholes : (s s' : Live) → live_of m id ≡ Some s → live_of m' (r id) ≡ Some s' → s'.kind ≡ s.kind → (b b' : Bool) → b' ≡ b
          → FreedAlike (cond b (cond (same_kind s.kind kind) (cond sealed (Err traps.Readonly) (Ok s.id)) (Err traps.Kind)) (Err traps.Whole)) (cond b' (cond (same_kind s'.kind kind) (cond sealed (Err traps.Readonly) (Ok s'.id)) (Err traps.Kind)) (Err traps.Whole))
      wholes s s' live live' same true b' e =
          subst (λ c. FreedAlike (cond (same_kind s.kind kind) (cond sealed (Err traps.Readonly) (Ok s.id)) (Err traps.Kind)) (cond c (cond (same_kind s'.kind kind) (cond sealed (Err traps.Readonly) (Ok s'.id)) (Err traps.Kind)) (Err traps.Whole))) (sym e) (kinds s s' live live' (same_kind s.kind kind) (same_kind s'.kind kind) (ap (λ k. same_kind k kind) same))
      wholes s s' live live' same false b' e = ap (λ c. cond c (cond (same_kind s'.kind kind) (cond sealed (Err traps.Readonly) (Ok s'.id)) (Err traps.Kind)) (Err traps.Whole)) e

      by : (o o' : Option Live) → live_of m id ≡ o → live_of m' (r id) ≡ o' → SegmentAlike r m m' o o' → FreedAlike (ends_if o sealed base size offset kind) (ends_if o' sealed base size offset kind)
      by None None live live' x = refl
      by (Some s) (Some s') live live' x = wholes s s' live live' x.1 (is_whole base size offset s) (is_whole base size offset s') (ap (λ n. (base == 0) && int_eq offset (pos 0) && (size == n)) x.0)
      by None (Some s') live live' x = absurd x
      by (Some s) None live live' x = absurd x

    -- ---- effects

    abbrev pub EffectAlike : Effect → Effect → Type 0
    EffectAlike (Gives vs n event) x = (n' : Memory) × (event' : Option Event) × (x ≡ Gives (rename_all r vs) n' event') × MemoryAlike own r n n' × EventAlike own r m m' event event' × IsOld event
    EffectAlike (Trap kind) x = x ≡ Trap kind
    EffectAlike Stuck x = x ≡ Stuck

    more : MemoryAlike own r (once_more m) (once_more m')
    more = record { made = alike.made; different = alike.different; segments = alike.segments }

    abbrev ChangeAlike : Result Change SegTrap → Result Change SegTrap → Type 0
    ChangeAlike (Ok c) x = (c' : Change) × (x ≡ Ok c') × MemoryAlike own r c.memory c'.memory × EventAlike own r m m' (Some c.event) (Some c'.event) × IsOld (Some c.event)
    ChangeAlike (Err e) x = x ≡ Err e

    changed_alike : (rest : List Value) (c c' : Result Change SegTrap) → ChangeAlike c c' → EffectAlike (changed rest c) (changed (rename_all r rest) c')
    changed_alike rest (Ok c) c' x = (x.0.memory, Some x.0.event, ap (changed (rename_all r rest)) x.1, x.2, x.3, x.4)
    changed_alike rest (Err e) c' x = ap (changed (rename_all r rest)) x

    stored_alike : (new : List Byte) (width : ℕ) (x x' : Result Access SegTrap) → length new ≡ width → AccessAlike width x x' → ChangeAlike (stored_at m new width x) (stored_at m' (map (rename_byte r) new) width x')
    stored_alike new width (Ok a) x' is y =
        let reach : ReachAlike (length new) a y.0 = subst (λ n. ReachAlike n a y.0) (sym is) y.2 in
        (_, ap (stored_at m' (map (rename_byte r) new) width) y.1, written_alike new a y.0 reach, write_told width a y.0 y.2, tt)
    stored_alike new width (Err e) x' is y = ap (stored_at m' (map (rename_byte r) new) width) y

    store_alike : (h : Handle) (width value : ℕ) → On h → IsFit m h → ChangeAlike (call.store m h width value) (call.store m' (rename_handle r h) width value)
    store_alike h width value on fit =
        subst (λ new. ChangeAlike (call.store m h width value) (stored_at m' new width (writable (access m' (rename_handle r h) width)))) (sym (data_renamed r width value)) (stored_alike (data_of width value) width (writable (access m h width)) (writable (access m' (rename_handle r h) width)) (length-data_of width value) (writable_alike width (access m h width) (access m' (rename_handle r h) width) (access_alike h width on fit)))

    store_handle_alike : (h v : Handle) → On h → IsFit m h → ChangeAlike (call.store_handle m h v) (call.store_handle m' (rename_handle r h) (rename_handle r v))
    store_handle_alike h v on fit = stored_alike (pieces v) 16 (writable (handle_access m h)) (writable (handle_access m' (rename_handle r h))) refl (writable_alike 16 (handle_access m h) (handle_access m' (rename_handle r h)) (handle_access_alike h on fit))

    number_stored_alike : (rest : List Value) (h : Handle) (width : ℕ) (o o' : Option ℕ) → o' ≡ o → On h → IsFit m h → EffectAlike (number_stored m rest h width o) (number_stored m' (rename_all r rest) (rename_handle r h) width o')
    number_stored_alike rest h width (Some n) o' e on fit =
        subst (λ p. EffectAlike (number_stored m rest h width (Some n)) (number_stored m' (rename_all r rest) (rename_handle r h) width p)) (sym e) (changed_alike rest (call.store m h width n) (call.store m' (rename_handle r h) width n) (store_alike h width n on fit))
    number_stored_alike rest h width None o' e on fit = ap (number_stored m' (rename_all r rest) (rename_handle r h) width) e

    free_alike : (rest : List Value) (h : Handle) (kind : Kind) → On h → EffectAlike (changed rest (call.free m h kind)) (changed (rename_all r rest) (call.free m' (rename_handle r h) kind))
    free_alike rest h kind on = changed_alike rest (call.free m h kind) (call.free m' (rename_handle r h) kind) (by (freed m h kind) (freed m' (rename_handle r h) kind) (freed_alike h kind on)) where
      by : (x x' : Result ℕ SegTrap) → FreedAlike x x' → ChangeAlike (call.ended_at m x) (call.ended_at m' x')
      by (Ok id) x' y = (_, ap (call.ended_at m') y.1, ended_alike id y.0, (refl, y.0), tt)
      by (Err e) x' y = ap (call.ended_at m') y

    -- ---- loads

    number_read_alike : (op : LoadOp) (rest : List Value) (width : ℕ) (x x' : Result Access SegTrap) → AccessAlike width x x' → EffectAlike (number_read op m rest (loaded_at m width x)) (number_read op m' (rename_all r rest) (loaded_at m' width x'))
    number_read_alike op rest width (Err e) x' y = ap (λ z. number_read op m' (rename_all r rest) (loaded_at m' width z)) y
    number_read_alike op rest width (Ok a) x' y = by (number_at (range a.address width m.bytes)) (number_at (range y.0.address width m'.bytes)) (ap number_at (bytes_alike width a y.0 y.2) ∙ number_told r (range a.address width m.bytes)) where
      loads : (o' : Option ℕ) → number_at (range y.0.address width m'.bytes) ≡ o' → number_read op m' (rename_all r rest) (loaded_at m' width x') ≡ number_read op m' (rename_all r rest) (as_number o' (read_event y.0 width))
      loads o' e = ap (λ z. number_read op m' (rename_all r rest) (loaded_at m' width z)) y.1 ∙ ap (λ z. number_read op m' (rename_all r rest) (as_number z (read_event y.0 width))) e

      by : (o o' : Option ℕ) → number_at (range y.0.address width m'.bytes) ≡ o → EffectAlike (number_read op m rest (as_number o (read_event a width))) (number_read op m' (rename_all r rest) (loaded_at m' width x'))
      by (Some n) o' e = (once_more m', Some (read_event y.0 width), loads (Some n) e ∙ ap (λ v. Gives (v ∷ rename_all r rest) (once_more m') (Some (read_event y.0 width))) (value_renamed r op n), more, read_told width a y.0 y.2, tt)
      by None o' e = loads None e

    module _ (kept : (id : ℕ) → SegmentOn own m (own id) (live_of m id)) where
      -- the bytes that are read hold handles of the side alone
      bytes_on : (width : ℕ) (a a' : Access) → ReachAlike width a a' → EachByte On (range a.address width m.bytes)
      bytes_on width a a' x =
          let all : EachByte (HandleOn own (own x.id)) (contents m x.segment) = subst (SegmentOn own m (own x.id)) x.live (kept x.id) in
          let mine : EachByte On (contents m x.segment) = subst (λ b. EachByte (HandleOn own b) (contents m x.segment)) x.mine all in
          subst (EachByte On) (sym (range-within x.segment.base x.place width x.segment.size m.bytes x.within (live_inside m x.id x.segment sound.placed x.live)) ∙ ap (λ n. range n width m.bytes) (sym x.at)) (bytes_range On x.place width (contents m x.segment) mine)

      handle_read_alike : (rest : List Value) (x x' : Result Access SegTrap) → AccessAlike 16 x x' → EffectAlike (handle_read m rest (call.handle_loaded_at m x)) (handle_read m' (rename_all r rest) (call.handle_loaded_at m' x'))
      handle_read_alike rest (Err e) x' y = ap (λ z. handle_read m' (rename_all r rest) (call.handle_loaded_at m' z)) y
      handle_read_alike rest (Ok a) x' y = (
        once_more m',
        Some (read_event y.0 16),
        ap (λ z. handle_read m' (rename_all r rest) (call.handle_loaded_at m' z)) y.1
            ∙ ap (λ h. Gives (values.Handle h ∷ rename_all r rest) (once_more m') (Some (read_event y.0 16))) (ap handle_at (bytes_alike 16 a y.0 y.2) ∙ handle_told (range a.address 16 m.bytes) (bytes_on 16 a y.0 y.2)),
        more,
        read_told 16 a y.0 y.2,
        tt,
      )

      -- ---- all but a new segment

      pub segment_alike : (i : Segment) (vs : List Value) → (IsNew i → ⊥) → Each (ValueOn own true) vs → Each (Fits m) vs → EffectAlike (segment_on i m vs) (segment_on i m' (rename_all r vs))
      segment_alike instrs.Null vs old on fit = (m', None, refl, alike, (refl, tt), tt)
      segment_alike (instrs.New kind) vs old on fit = absurd (old tt)
      segment_alike (instrs.Free kind) (values.Handle h ∷ rest) old on fit = free_alike rest h kind on.0
      segment_alike (instrs.Add scale) (values.I64 delta ∷ values.Handle h ∷ rest) old on fit = (m', None, ap (λ g. Gives (values.Handle g ∷ rename_all r rest) m' None) (add_renamed r h (signed 64 delta) scale), alike, (refl, tt), tt)
      segment_alike instrs.Slice (values.I32 len ∷ values.I32 from ∷ values.Handle h ∷ rest) old on fit =
          let e = slice_renamed r h from len in
          (m', _, ap (sliced m' (rename_all r rest) (rename_handle r h)) e, alike, slice_told r own m m' h (slice h from len) on.1.1.0, slice_old r h (slice h from len))
      segment_alike instrs.Eq (values.Handle b ∷ values.Handle a ∷ rest) old on fit = (m', None, ap (λ c. Gives (values.I32 (truth c) ∷ rename_all r rest) m' None) (eq_renamed a b on.1.0 on.0), alike, (refl, tt), tt)
      segment_alike instrs.IsNull (values.Handle h ∷ rest) old on fit = (m', None, ap (λ c. Gives (values.I32 (truth c) ∷ rename_all r rest) m' None) (null_renamed r h), alike, (refl, tt), tt)
      segment_alike instrs.Diff (values.Handle b ∷ values.Handle a ∷ rest) old on fit = by (difference a b) (difference (rename_handle r a) (rename_handle r b)) (difference_renamed a b on.1.0 on.0) where
        by : (x x' : Result ℤ Apart) → x' ≡ x → EffectAlike (measured m rest x) (measured m' (rename_all r rest) x')
        by (Ok n) x' e = (m', None, ap (measured m' (rename_all r rest)) e, alike, (refl, tt), tt)
        by (Err a) x' e = ap (measured m' (rename_all r rest)) e
      segment_alike instrs.LoadHandle (values.Handle h ∷ rest) old on fit = handle_read_alike rest (handle_access m h) (handle_access m' (rename_handle r h)) (handle_access_alike h on.0 fit.0)
      segment_alike instrs.StoreHandle (values.Handle v ∷ values.Handle h ∷ rest) old on fit = changed_alike rest (call.store_handle m h v) (call.store_handle m' (rename_handle r h) (rename_handle r v)) (store_handle_alike h v on.1.0 fit.1.0)
      segment_alike (instrs.Load op) (values.Handle h ∷ rest) old on fit = number_read_alike op rest (load_bytes op) (access m h (load_bytes op)) (access m' (rename_handle r h) (load_bytes op)) (access_alike h (load_bytes op) on.0 fit.0)
      segment_alike (instrs.Store op) (v ∷ values.Handle h ∷ rest) old on fit = number_stored_alike rest h (store_bytes op) (number_of (width_of op) v) (number_of (width_of op) (rename r v)) (number_renamed r (width_of op) v) on.1.0 fit.1.0
      segment_alike instrs.Seal (values.Handle h ∷ rest) old on fit = (m', _, ap (λ g. Gives (values.Handle g ∷ rename_all r rest) m' (seal_event (rename_handle r h))) (seal_renamed r h), alike, seal_told r own m m' h on.0, seal_old r h)
      segment_alike i vs old on fit = refl
