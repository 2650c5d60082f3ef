-- An instruction on handles and segments, on two segment memories that agree on a set of bytes which handles don't lead out of.
use Rattle.std.proofs.Common.{◌≡◌, ◌==◌, ℕ, ℤ, pos, ◌+◌, ◌<◌, ◌≤◌, ◌⊎◌, inl, inr, Bool, true, false, cond, List, [], ◌∷◌, ◌++◌, length, take, drop, replicate, slice_get, Option, Some, None, Result, Ok, Err, refl, sym, ap, subst, ◌∙◌, arith}
use Rattle.std.specs.Prelude.{nat_lt}
use Rattle.std.proofs.lemmas.Bool.{eqb-true, ne_eqb}
use Rattle.std.proofs.lemmas.List.{length-replicate}
use Rattle.std.proofs.lemmas.List.Elements.{All-contains, Contains-push_cases}
use Rattle.ms_num.specs.Integers.{signed}
use Rattle.ms_event.specs.declared.event.Event.{Event}
use Rattle.ms_event.specs.declared.event.Event.TheVariants as events
use Rattle.ms_event.specs.Monitor.{most_live}
use Rattle.ms_handle.specs.Handle.{difference, slice}
use Rattle.ms_handle.specs.declared.handle.Apart.{Apart}
use Rattle.ms_handle.specs.declared.handle.Handle.{Handle as H}
use Rattle.ms_handle.specs.declared.handle.Handle.TheVariants as handles
use Rattle.ms_handle.specs.declared.handle.Kind.{Kind}
use Rattle.ms_linear.specs.declared.value.Value.{Value}
use Rattle.ms_linear.specs.declared.value.Value.TheVariants.{I32, I64, Handle}
use Rattle.ms_live.specs.declared.gaps.Live.{Live}
use Rattle.ms_live.specs.Place.{IsPlace}
use Rattle.ms_live.proofs.Found.{find-Some}
use Rattle.ms_module.specs.Accesses.{load_bytes, store_bytes}
use Rattle.ms_module.specs.declared.access.LoadOp.{LoadOp}
use Rattle.ms_module.specs.declared.access.Segment.{Segment}
use Rattle.ms_module.specs.declared.access.Segment.TheVariants.{Null, New, Free, Add, Slice, Eq, IsNull, Diff, LoadHandle, StoreHandle, Load, Store, Seal}
use Rattle.ms_operate.specs.Accesses.{number_of, width_of}
use Rattle.ms_segment.specs.Calls as call
use Rattle.ms_segment.specs.Calls.{Change, are_pieces, are_zeros, ended_at, handle_at, handle_loaded_at, made_at, place_of, stored_at}
use Rattle.ms_segment.specs.Memory.{Access, IsFit, IsSound, Memory, access, as_number, freed, handle_access, live_of, loaded_at, once_more, read_event, with_bytes, writable, write_event}
use Rattle.ms_segment.specs.Parts.{entered, with_ended}
use Rattle.ms_segment.specs.declared.trap.SegTrap.{SegTrap}
use Rattle.ms_segment.proofs.Finds.{find-push_other}
use Rattle.ms_segment.proofs.Fits.{find-without}
use Rattle.ms_segment.proofs.Places.{IsPlace-place_of}
use Rattle.ms_segment.proofs.Reach.{access-within, handle_access-within, writable-Ok}
use Rattle.ms_segment.proofs.Sound.{IsData, All-data_of, piece_of}
use Rattle.ms_segment.proofs.Placing.{place-within}
use Rattle.ms_tagged.specs.Bytes.{Byte, Data, Piece, data_of, number_at, overwritten, pieces, range}
use Rattle.ms_tagged.proofs.Numbers.{length-data_of}
use Rattle.ms_tagged.proofs.Ranges.{length-overwritten}
use Rattle.ms_machine.specs.refinement.Holding.{Each, Fits}
use Rattle.ms_machine.specs.Segments as segments
use Rattle.ms_machine.specs.Segments.{Effect, changed, handle_read, is_null, made, measured, number_read, number_stored, segment_on, slice_event, sliced}
use Rattle.ms_machine.proofs.HeldPlain.{value_holds}
use Rattle.ms_reach.specs.Confined.{DifferAsBefore, grown, with_content}
use Rattle.ms_reach.proofs.Inside.{Above, above_grows}
use Rattle.ms_reach.proofs.Lists.{agree_range, differ_overwritten, differ_same, from_overwritten, get_drop, get_replicate, same_inside, slice_get_contains, still_agree}
use Rattle.ms_reach.proofs.Spots.{HandleIn, ValueIn, access_in, add_in, handle_access_in, slice_in}

-- what an instruction takes of the operands and looks at
module _ (P : Value → Type 0) where
  abbrev pub Looks : Segment → List Value → Type 0
  Looks LoadHandle (Handle h ∷ rest) = P (Handle h)
  Looks StoreHandle (Handle v ∷ Handle h ∷ rest) = P (Handle v) × P (Handle h)
  Looks (Load op) (Handle h ∷ rest) = P (Handle h)
  Looks (Store op) (v ∷ Handle h ∷ rest) = P (Handle h)
  Looks i vs = Unit {0}

first_taken : (xs : List Byte) → slice_get (take 16 xs) 0 ≡ slice_get xs 0
first_taken [] = refl
first_taken (x ∷ xs) = refl

module _ (R : ℕ → Type 0) (n : ℕ) (m : Memory) (bytes : List Byte) (accesses : ℕ) where
  -- what becomes of the memory, and of the one with other bytes
  pub record MemoryStep (m1 m2 : Memory) (event : Option Event) : Type 0 where
    pub is : m2 ≡ with_content m1 m2.bytes m2.accesses
    pub capacity : length m2.bytes ≡ length m1.bytes
    pub differ : DifferAsBefore (grown R event) m.bytes bytes m1.bytes m2.bytes
    pub agree : (k : ℕ) → grown R event k → slice_get m2.bytes k ≡ slice_get m1.bytes k
    pub pieces : (k : ℕ) (h : H) (i : ℕ) → grown R event k → slice_get m1.bytes k ≡ Some (Piece h i) → HandleIn (grown R event) m1 h
    pub grows : (h : H) → IsFit m h → HandleIn R m h → HandleIn (grown R event) m1 h

  abbrev pub EffectsAgree : Effect → Effect → Type 0
  EffectsAgree (segments.Gives us m1 event) (segments.Gives us' m2 event') = (us' ≡ us) × (event' ≡ event) × MemoryStep m1 m2 event × Above (ValueIn (grown R event) m1) n us
  EffectsAgree (segments.Trap kind) (segments.Trap kind') = kind' ≡ kind
  EffectsAgree segments.Stuck segments.Stuck = Unit {0}
  EffectsAgree _ _ = ⊥

  module _ (sound : IsSound m) (same : length bytes ≡ length m.bytes) (agree : (k : ℕ) → R k → slice_get bytes k ≡ slice_get m.bytes k) (pieces_in : (k : ℕ) (h : H) (i : ℕ) → R k → slice_get m.bytes k ≡ Some (Piece h i) → HandleIn R m h) where
    other : Memory
    other = with_content m bytes accesses

    -- ---- the memory as it is, and with one more access

    same_step : MemoryStep m (with_content m bytes accesses) None
    same_step = record { is = refl; capacity = same; differ = differ_same R m.bytes bytes; agree = agree; pieces = pieces_in; grows = λ h fit known. known }

    sliced_step : (event : Option Event) (z : Bool) (id lo hi lo2 hi2 : ℕ) → MemoryStep m (with_content m bytes accesses) (Some (events.Slice z id lo hi lo2 hi2))
    sliced_step event z id lo hi lo2 hi2 = record { is = refl; capacity = same; differ = differ_same R m.bytes bytes; agree = agree; pieces = pieces_in; grows = λ h fit known. known }

    read_step : (a : Access) (width : ℕ) → MemoryStep (once_more m) (once_more (with_content m bytes accesses)) (Some (read_event a width))
    read_step a width = record { is = refl; capacity = same; differ = differ_same R m.bytes bytes; agree = agree; pieces = pieces_in; grows = λ h fit known. known }

    -- ---- reads

    number_read_agree : (op : LoadOp) (rest : List Value) (h : H) (width : ℕ) (r : Result Access SegTrap) → access m h width ≡ r → HandleIn R m h → Above (ValueIn R m) n rest → EffectsAgree (number_read op m rest (loaded_at m width r)) (number_read op (with_content m bytes accesses) rest (loaded_at (with_content m bytes accesses) width r))
    number_read_agree op rest h width (Err e) is known above = refl
    number_read_agree op rest h width (Ok a) is known above =
        let e : range a.address width bytes ≡ range a.address width m.bytes = agree_range a.address width m.bytes bytes (λ k from to. agree k (access_in R m h width a known is k from to)) in
        subst (λ x. EffectsAgree (number_read op m rest (as_number (number_at (range a.address width m.bytes)) (read_event a width))) (number_read op (with_content m bytes accesses) rest (as_number (number_at x) (read_event a width)))) (sym e) (by (number_at (range a.address width m.bytes)))
      where
        by : (o : Option ℕ) → EffectsAgree (number_read op m rest (as_number o (read_event a width))) (number_read op (with_content m bytes accesses) rest (as_number o (read_event a width)))
        by None = refl
        by (Some x) = (refl, refl, read_step a width, (λ room. value_holds (ValueIn R (once_more m)) (λ y address leads. absurd leads) (λ y address leads. absurd leads) op x, above))

    cond_in : (b : Bool) (h g : H) → HandleIn R m h → HandleIn R m g → HandleIn R m (cond b h g)
    cond_in true h g x y = x
    cond_in false h g x y = y

    handle_in : (address : ℕ) (bs : List Byte) → range address 16 m.bytes ≡ bs → R address → HandleIn R m (handle_at bs)
    handle_in address [] is known = λ k leads. absurd leads
    handle_in address (Data byte ∷ bs) is known = cond_in (are_zeros (Data byte ∷ bs)) handles.Null handles.Broken (λ k leads. absurd leads) (λ k leads. absurd leads)
    handle_in address (Piece h i ∷ bs) is known =
        let e : address + 0 ≡ address = omega arith in
        let first : slice_get m.bytes address ≡ Some (Piece h i) = ap (slice_get m.bytes) (sym e) ∙ (sym (get_drop address 0 m.bytes) ∙ (sym (first_taken (drop address m.bytes)) ∙ ap (λ (xs : List Byte). slice_get xs 0) is)) in
        cond_in (are_pieces h 0 (Piece h i ∷ bs)) h handles.Broken (pieces_in address h i known first) (λ k leads. absurd leads)

    handle_read_agree : (rest : List Value) (h : H) (r : Result Access SegTrap) → handle_access m h ≡ r → HandleIn R m h → Above (ValueIn R m) n rest → EffectsAgree (handle_read m rest (handle_loaded_at m r)) (handle_read (with_content m bytes accesses) rest (handle_loaded_at (with_content m bytes accesses) r))
    handle_read_agree rest h (Err e) is known above = refl
    handle_read_agree rest h (Ok a) is known above =
        let e : range a.address 16 bytes ≡ range a.address 16 m.bytes = agree_range a.address 16 m.bytes bytes (λ k from to. agree k (handle_access_in R m h a known is k from to)) in
        (ap (λ x. Handle (handle_at x) ∷ rest) e, refl, read_step a 16, (λ room. handle_in a.address (range a.address 16 m.bytes) refl (handle_access_in R m h a known is a.address (omega arith) (omega arith)), above))

    -- ---- writes

    written_step : (a : Access) (new : List Byte) (width : ℕ) → a.address + length new ≤ length m.bytes → ((k : ℕ) → a.address ≤ k → k < a.address + length new → R k) → ((j : ℕ) (h : H) (i : ℕ) → slice_get new j ≡ Some (Piece h i) → HandleIn R m h) → MemoryStep (with_bytes m a.address new) (with_bytes (with_content m bytes accesses) a.address new) (Some (write_event a width))
    written_step a new width within known news =
        let differ : DifferAsBefore R m.bytes bytes (overwritten a.address new m.bytes) (overwritten a.address new bytes) = differ_overwritten R a.address new m.bytes bytes (omega arith) same known in
        record {
          is = refl;
          capacity = length-overwritten a.address new bytes (omega (arith, same)) ∙ (same ∙ sym (length-overwritten a.address new m.bytes within));
          differ = differ;
          agree = λ k inside. still_agree R m.bytes bytes (overwritten a.address new m.bytes) (overwritten a.address new bytes) k differ (agree k inside);
          pieces = λ k h i inside is.
              elim (from_overwritten a.address new m.bytes k (Piece h i) (omega arith) is) [ inl old ↦ pieces_in k h i inside old.0 | inr fresh ↦ news fresh.0 h i fresh.1 ];
          grows = λ h fit known. known;
        }

    stored_agree : (rest : List Value) (new : List Byte) (width : ℕ) (r : Result Access SegTrap) → ((a : Access) → r ≡ Ok a → (a.address + length new ≤ length m.bytes) × ((k : ℕ) → a.address ≤ k → k < a.address + length new → R k)) → ((j : ℕ) (h : H) (i : ℕ) → slice_get new j ≡ Some (Piece h i) → HandleIn R m h) → Above (ValueIn R m) n rest → EffectsAgree (changed rest (stored_at m new width r)) (changed rest (stored_at (with_content m bytes accesses) new width r))
    stored_agree rest new width (Err e) goes news above = refl
    stored_agree rest new width (Ok a) goes news above = (refl, refl, written_step a new width (goes a refl).0 (goes a refl).1 news, above)

    number_stored_agree : (rest : List Value) (h : H) (width : ℕ) (o : Option ℕ) → IsFit m h → HandleIn R m h → Above (ValueIn R m) n rest → EffectsAgree (number_stored m rest h width o) (number_stored (with_content m bytes accesses) rest h width o)
    number_stored_agree rest h width None fit known above = tt
    number_stored_agree rest h width (Some x) fit known above =
        stored_agree rest (data_of width x) width (writable (access m h width)) (λ a is. (omega (arith, length-data_of width x, access-within m h width a sound fit (writable-Ok (access m h width) a is).0), λ k from to. access_in R m h width a known (writable-Ok (access m h width) a is).0 k from (omega (arith, length-data_of width x)))) (λ j g i is. absurd (All-contains IsData (data_of width x) (Piece g i) (All-data_of width x) (slice_get_contains (data_of width x) j (Piece g i) is))) above

    handle_stored_agree : (rest : List Value) (h v : H) → IsFit m h → HandleIn R m h → HandleIn R m v → Above (ValueIn R m) n rest → EffectsAgree (changed rest (call.store_handle m h v)) (changed rest (call.store_handle (with_content m bytes accesses) h v))
    handle_stored_agree rest h v fit known value above =
        stored_agree rest (pieces v) 16 (writable (handle_access m h)) (λ a is. ((handle_access-within m h a sound fit (writable-Ok (handle_access m h) a is).0).0, λ k from to. handle_access_in R m h a known (writable-Ok (handle_access m h) a is).0 k from to)) (λ j g i is. subst (HandleIn R m) (sym (piece_of v g i (slice_get_contains (pieces v) j (Piece g i) is))) value) above

    -- ---- the end of a segment

    ended_in : (id : ℕ) (h : H) → HandleIn R m h → HandleIn R (with_ended m id) h
    ended_in id handles.Null known = known
    ended_in id handles.Broken known = known
    ended_in id (handles.Good z named base size offset) known = λ address leads. known address (leads.0, find-without id named m.live leads.0 leads.1, leads.2, leads.3)

    ended_value : (id : ℕ) (v : Value) → Fits m v → ValueIn R m v → ValueIn R (with_ended m id) v
    ended_value id (I32 x) fit known = known
    ended_value id (I64 x) fit known = known
    ended_value id (Handle h) fit known = ended_in id h known

    ended_agree : (rest : List Value) (r : Result ℕ SegTrap) → Each (Fits m) rest → Above (ValueIn R m) n rest → EffectsAgree (changed rest (ended_at m r)) (changed rest (ended_at (with_content m bytes accesses) r))
    ended_agree rest (Err e) fits above = refl
    ended_agree rest (Ok id) fits above = (
      refl,
      refl,
      record { is = refl; capacity = same; differ = differ_same R m.bytes bytes; agree = agree; pieces = λ k h i inside is. ended_in id h (pieces_in k h i inside is); grows = λ h fit known. ended_in id h known },
      above_grows (Fits m) (ValueIn R m) (ValueIn R (with_ended m id)) (ended_value id) n rest fits above,
    )

    -- ---- a new segment

    module _ (base size : ℕ) (kind : Kind) (room : base + size ≤ length m.bytes) where
      Grown : ℕ → Type 0
      Grown k = R k ⊎ ((base ≤ k) × (k < base + size))

      entered_in : (h : H) → IsFit m h → HandleIn R m h → HandleIn (grown R (Some (events.Alloc (m.made + 1) base size))) (entered m base size kind) h
      entered_in handles.Null fit known = λ address leads. absurd leads
      entered_in handles.Broken fit known = λ address leads. absurd leads
      entered_in (handles.Good z id at len offset) fit known = λ address leads.
          let most : id ≤ m.made = fit.1 in
          let other-id : ((m.made + 1) == id) ≡ false = ne_eqb (m.made + 1) id (λ e. omega arith) in
          let as_before : live_of (entered m base size kind) id ≡ live_of m id = find-push_other (λ (s : Live). s.id == id) m.live _ other-id in
          inl (known address (leads.0, sym as_before ∙ leads.1, leads.2, leads.3))

      entered_value : (v : Value) → Fits m v → ValueIn R m v → ValueIn (grown R (Some (events.Alloc (m.made + 1) base size))) (entered m base size kind) v
      entered_value (I32 x) fit known = λ address leads. absurd leads
      entered_value (I64 x) fit known = λ address leads. absurd leads
      entered_value (Handle h) fit known = entered_in h fit known

      -- its own handle
      fresh_in : HandleIn (grown R (Some (events.Alloc (m.made + 1) base size))) (entered m base size kind) (handles.Good false (m.made + 1) 0 size (pos 0))
      fresh_in = λ address leads.
          let new : Live = record { id = m.made + 1; base = base; size = size; kind = kind } in
          let s : Live = leads.0 in
          let is = find-Some (λ (t : Live). t.id == m.made + 1) (m.live ++ new ∷ []) s leads.1 in
          let from : s.base + 0 ≤ address = leads.2 in
          let to : address < s.base + 0 + size = leads.3 in
          elim (Contains-push_cases m.live new s is.0) [
            | inl old ↦ let id = All-contains (λ (t : Live). (1 ≤ t.id) × (t.id ≤ m.made)) m.live s sound.placed.ids old in let named : s.id ≡ m.made + 1 = eqb-true s.id (m.made + 1) is.1 in let most : s.id ≤ m.made = id.1 in absurd (omega arith)
            | inr itself ↦ let at : base ≡ s.base = ap (λ (t : Live). t.base) itself in inr (omega arith, omega arith)
          ]

      entered_step : MemoryStep (entered m base size kind) (entered (with_content m bytes accesses) base size kind) (Some (events.Alloc (m.made + 1) base size))
      entered_step =
          let new : List Byte = replicate size (Data 0) in
          let count : length new ≡ size = length-replicate size (Data 0) in
          let In : ℕ → Type 0 = grown R (Some (events.Alloc (m.made + 1) base size)) in
          let differ : DifferAsBefore (grown R (Some (events.Alloc (m.made + 1) base size))) m.bytes bytes (overwritten base new m.bytes) (overwritten base new bytes) =
          differ_overwritten (grown R (Some (events.Alloc (m.made + 1) base size))) base new m.bytes bytes (omega arith) same (λ k from to. inr (from, omega arith)) in
          record {
            is = refl;
            capacity = length-overwritten base new bytes (omega (arith, same)) ∙ (same ∙ sym (length-overwritten base new m.bytes (omega arith)));
            differ = differ;
            agree = λ k inside.
                elim (differ k) [
                  | inl as_before ↦ elim inside [ inl known ↦ as_before.1 ∙ (agree k known ∙ sym as_before.0) | inr within ↦ fresh_agree k within.0 within.1 ]
                  | inr equal ↦ equal.1
                ];
            pieces = λ k h i inside is.
                elim (from_overwritten base new m.bytes k (Piece h i) (omega arith) is) [
                  | inl old ↦ elim inside [
                    | inl known ↦ entered_in h (sound.kept h i (slice_get_contains m.bytes k (Piece h i) old.0)) (pieces_in k h i known old.0)
                    | inr within ↦ elim old.1 [ inl lower ↦ (let from = within.0 in absurd (omega arith)) | inr upper ↦ (let to = within.1 in absurd (omega arith)) ]
                  ]
                  | inr fresh ↦ let zero-byte : Data 0 ≡ Piece h i = get_replicate size fresh.0 (Data 0) (Piece h i) fresh.1 in absurd (cc)
                ];
            grows = entered_in;
          }
        where
          fresh_agree : (k : ℕ) → base ≤ k → k < base + size → slice_get (overwritten base (replicate size (Data 0)) bytes) k ≡ slice_get (overwritten base (replicate size (Data 0)) m.bytes) k
          fresh_agree k from to = same_inside base (replicate size (Data 0)) m.bytes bytes k (omega arith) same from (omega (arith, length-replicate size (Data 0)))

    made_agree : (rest : List Value) (size : ℕ) (kind : Kind) (o : Option ℕ) → ((base : ℕ) → o ≡ Some base → base + size ≤ length m.bytes) → Each (Fits m) rest → Above (ValueIn R m) n rest → EffectsAgree (made rest (made_at m size kind o)) (made rest (made_at (with_content m bytes accesses) size kind o))
    made_agree rest size kind None room fits above = (refl, refl, record { is = refl; capacity = same; differ = differ_same R m.bytes bytes; agree = agree; pieces = pieces_in; grows = λ h fit known. known }, (λ high address leads. absurd leads, above))
    made_agree rest size kind (Some base) room fits above = (
      refl,
      refl,
      entered_step base size kind (room base refl),
      (λ high. fresh_in base size kind (room base refl), above_grows (Fits m) (ValueIn R m) (ValueIn (grown R (Some (events.Alloc (m.made + 1) base size))) (entered m base size kind)) (entered_value base size kind (room base refl)) n rest fits above),
    )

    room_at : (size : ℕ) (b : Bool) (base : ℕ) → cond b (place_of m.live (length m.bytes) size) None ≡ Some base → base + size ≤ length m.bytes
    room_at size true base is = place-within m.live (length m.bytes) size base (subst (IsPlace m.live (length m.bytes) size) is (IsPlace-place_of m.live (length m.bytes) size))
    room_at size false base is = absurd (cc)

    make_agree : (rest : List Value) (size : ℕ) (kind : Kind) → Each (Fits m) rest → Above (ValueIn R m) n rest → EffectsAgree (made rest (call.make m size kind)) (made rest (call.make (with_content m bytes accesses) size kind))
    make_agree rest size kind fits above =
        let few : Bool = nat_lt (length m.live) most_live in
        subst (λ capacity. EffectsAgree (made rest (call.make m size kind)) (made rest (made_at (with_content m bytes accesses) size kind (cond few (place_of m.live capacity size) None)))) (sym same)
        (made_agree rest size kind (cond few (place_of m.live (length m.bytes) size) None) (room_at size few) fits above)

    -- ---- each instruction

    sliced_agree : (rest : List Value) (h g : H) → (Above (ValueIn R m) n (Handle g ∷ rest)) → EffectsAgree (sliced m rest h g) (sliced (with_content m bytes accesses) rest h g)
    sliced_agree rest (handles.Good z id base size offset) (handles.Good z' id' base' size' offset') above = (refl, refl, sliced_step None z id base (base + size) base' (base' + size'), above)
    sliced_agree rest handles.Null g above = (refl, refl, same_step, above)
    sliced_agree rest handles.Broken g above = (refl, refl, same_step, above)
    sliced_agree rest (handles.Good z id base size offset) handles.Null above = (refl, refl, same_step, above)
    sliced_agree rest (handles.Good z id base size offset) handles.Broken above = (refl, refl, same_step, above)

    sealed_step : (id lo hi : ℕ) → MemoryStep m (with_content m bytes accesses) (Some (events.Seal id lo hi))
    sealed_step id lo hi = record { is = refl; capacity = same; differ = differ_same R m.bytes bytes; agree = agree; pieces = pieces_in; grows = λ h fit known. known }

    sealed_agree : (rest : List Value) (h : H) → Above (ValueIn R m) n (Handle h ∷ rest) → EffectsAgree (segment_on Seal m (Handle h ∷ rest)) (segment_on Seal (with_content m bytes accesses) (Handle h ∷ rest))
    sealed_agree rest (handles.Good true id base size offset) above = (refl, refl, same_step, above)
    sealed_agree rest (handles.Good false id base size offset) above = (refl, refl, sealed_step id base (base + size), above)
    sealed_agree rest handles.Null above = (refl, refl, same_step, above)
    sealed_agree rest handles.Broken above = (refl, refl, same_step, above)

    measured_agree : (rest : List Value) (r : Result ℤ Apart) → Above (ValueIn R m) n rest → EffectsAgree (measured m rest r) (measured (with_content m bytes accesses) rest r)
    measured_agree rest (Ok x) above = (refl, refl, same_step, (λ room address leads. absurd leads, above))
    measured_agree rest (Err e) above = refl

    pub segment_agree : (i : Segment) (vs : List Value) → Each (Fits m) vs → Above (ValueIn R m) n vs → Looks (ValueIn R m) i vs → EffectsAgree (segment_on i m vs) (segment_on i (with_content m bytes accesses) vs)
    segment_agree Null vs f a t = (refl, refl, same_step, (λ room address leads. absurd leads, a))
    segment_agree (New kind) (I32 x ∷ rest) f a t = make_agree rest x kind f.1 a.1
    segment_agree (Free kind) (Handle h ∷ rest) f a t = ended_agree rest (freed m h kind) f.1 a.1
    segment_agree (Add scale) (I64 delta ∷ Handle h ∷ rest) f a t = (refl, refl, same_step, (λ room. add_in R m h (signed 64 delta) scale (a.1.0 room), a.1.1))
    segment_agree Slice (I32 len ∷ I32 from ∷ Handle h ∷ rest) f a t = sliced_agree rest h (slice h from len) (λ room. slice_in R m h from len (a.1.1.0 room), a.1.1.1)
    segment_agree Eq (Handle y ∷ Handle x ∷ rest) f a t = (refl, refl, same_step, (λ room address leads. absurd leads, a.1.1))
    segment_agree IsNull (Handle h ∷ rest) f a t = (refl, refl, same_step, (λ room address leads. absurd leads, a.1))
    segment_agree Diff (Handle y ∷ Handle x ∷ rest) f a t = measured_agree rest (difference x y) a.1.1
    segment_agree LoadHandle (Handle h ∷ rest) f a t = handle_read_agree rest h (handle_access m h) refl t a.1
    segment_agree StoreHandle (Handle v ∷ Handle h ∷ rest) f a t = handle_stored_agree rest h v f.1.0 t.1 t.0 a.1.1
    segment_agree (Load op) (Handle h ∷ rest) f a t = number_read_agree op rest h (load_bytes op) (access m h (load_bytes op)) refl t a.1
    segment_agree (Store op) (v ∷ Handle h ∷ rest) f a t = number_stored_agree rest h (store_bytes op) (number_of (width_of op) v) f.1.0 t a.1.1
    segment_agree Seal (Handle h ∷ rest) f a t = sealed_agree rest h a
    segment_agree i vs f a t = tt
