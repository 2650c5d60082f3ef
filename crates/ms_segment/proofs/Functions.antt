-- What the functions of `Calls.antt` give when a segment is made or a handle loaded, the relations of `Memory.antt` hold of, and of nothing else. Of freeing and
-- storing that computes.
use Rattle.std.proofs.Common.{◌≡◌, ◌==◌, ℕ, zero, suc, ◌+◌, ◌≤◌, ◌&&◌, Bool, true, false, cond, inl, inr, List, [], ◌∷◌, Option, Some, None, Result, Ok, length, replicate, refl, sym, ap, ◌∙◌, arith}
use Rattle.std.specs.Prelude.{nat_lt}
use Rattle.std.specs.Ordering.{int_eq}
use Rattle.std.proofs.lemmas.Bool.{and_from, and_parts, both_ways, cond-false, cond-true, cond_both, eq-eqb, eqb-true, le-ltb, lt-ltb}
use Rattle.std.proofs.lemmas.Bool.Decides.{Decides-int_eq}
use Rattle.ms_event.specs.declared.event.Event.{Event}
use Rattle.ms_handle.specs.declared.handle.Handle.{Handle}
use Rattle.ms_handle.specs.declared.handle.Handle.TheVariants as handles
use Rattle.ms_handle.specs.declared.handle.Kind.{Kind}
use Rattle.ms_tagged.specs.Bytes.{Byte, Data, IsHandleAt, Piece, cleared, pieces, range, torn, whole}
use Rattle.ms_tagged.specs.refinement.Tags.{pieces_from}
use Rattle.ms_tagged.proofs.Handles.{IsHandleAt-unique}
use Rattle.ms_tagged.proofs.Ranges.{length-range}
use Rattle.ms_segment.specs.declared.trap.SegTrap.{SegTrap}
use Rattle.ms_event.specs.Monitor.{most_live}
use Rattle.ms_segment.specs.Memory.{Access, IsFit, IsSound, LoadsHandle, Makes, Memory, full, handle_access, made, no_room, read, read_event, stopped}
use Rattle.ms_segment.specs.Parts.{IsPlaceIn}
use Rattle.ms_segment.specs.Calls.{are_pieces, are_zeros, handle_at, handle_loaded_at, load_handle, make, made_at, place_of, same_handle, same_sort}
use Rattle.ms_segment.proofs.Places.{place_of_is}
use Rattle.ms_segment.proofs.Reach.{handle_access-within}

-- ---- the handle that sixteen bytes are

sort_from_test : (a b : Bool) → same_sort a b ≡ true → a ≡ b
sort_from_test true true e = refl
sort_from_test true false e = absurd (cc)
sort_from_test false true e = absurd (cc)
sort_from_test false false e = refl

same_sort-refl : (a : Bool) → same_sort a a ≡ true
same_sort-refl true = refl
same_sort-refl false = refl

same_from_test : (g h : Handle) → same_handle g h ≡ true → g ≡ h
same_from_test handles.Null handles.Null e = refl
same_from_test handles.Null handles.Broken e = absurd (cc)
same_from_test handles.Null (handles.Good sealed id base size offset) e = absurd (cc)
same_from_test handles.Broken handles.Null e = absurd (cc)
same_from_test handles.Broken handles.Broken e = refl
same_from_test handles.Broken (handles.Good sealed id base size offset) e = absurd (cc)
same_from_test (handles.Good sealed id base size offset) handles.Null e = absurd (cc)
same_from_test (handles.Good sealed id base size offset) handles.Broken e = absurd (cc)
same_from_test (handles.Good sealed id base size offset) (handles.Good sealed' id' base' size' offset') e =
    let sort = and_parts (same_sort sealed sealed') ((id == id') && ((base == base') && ((size == size') && int_eq offset offset'))) e in
    let first = and_parts (id == id') ((base == base') && ((size == size') && int_eq offset offset')) sort.1 in
    let second = and_parts (base == base') ((size == size') && int_eq offset offset') first.1 in
    let third = and_parts (size == size') (int_eq offset offset') second.1 in
    let is_sort : sealed ≡ sealed' = sort_from_test sealed sealed' sort.0 in
    let is_id : id ≡ id' = eqb-true id id' first.0 in
    let is_base : base ≡ base' = eqb-true base base' second.0 in
    let is_size : size ≡ size' = eqb-true size size' third.0 in
    let is_offset : offset ≡ offset' = (Decides-int_eq offset offset').0 third.1 in
    cc

same_handle-refl : (h : Handle) → same_handle h h ≡ true
same_handle-refl handles.Null = refl
same_handle-refl handles.Broken = refl
same_handle-refl (handles.Good sealed id base size offset) =
    and_from (same_sort sealed sealed) _ (same_sort-refl sealed) (and_from (id == id) _ (eq-eqb id id refl) (and_from (base == base) _ (eq-eqb base base refl) (and_from (size == size) _ (eq-eqb size size refl) ((Decides-int_eq offset offset).1 refl))))

zeros_from_test : (bytes : List Byte) → are_zeros bytes ≡ true → bytes ≡ replicate (length bytes) (Data 0)
zeros_from_test [] e = refl
zeros_from_test (Data byte ∷ bytes) e =
    let parts = and_parts (byte == 0) (are_zeros bytes) e in
    let first : byte ≡ 0 = eqb-true byte 0 parts.0 in
    let rest : bytes ≡ replicate (length bytes) (Data 0) = zeros_from_test bytes parts.1 in
    cc
zeros_from_test (Piece h i ∷ bytes) e = absurd (cc)

pieces_from_test : (h : Handle) (i : ℕ) (bytes : List Byte) → are_pieces h i bytes ≡ true → bytes ≡ pieces_from h i (length bytes)
pieces_from_test h i [] e = refl
pieces_from_test h i (Data byte ∷ bytes) e = absurd (cc)
pieces_from_test h i (Piece g j ∷ bytes) e =
    let first = and_parts (same_handle g h) ((j == i) && are_pieces h (suc i) bytes) e in
    let second = and_parts (j == i) (are_pieces h (suc i) bytes) first.1 in
    let is_handle : g ≡ h = same_from_test g h first.0 in
    let is_number : j ≡ i = eqb-true j i second.0 in
    let next : suc i ≡ i + 1 = omega arith in
    let rest : bytes ≡ pieces_from h (suc i) (length bytes) = pieces_from_test h (suc i) bytes second.1 in
    cc

are_pieces-pieces_from : (h : Handle) (i n : ℕ) → are_pieces h i (pieces_from h i n) ≡ true
are_pieces-pieces_from h i zero = refl
are_pieces-pieces_from h i (suc n) =
    let next : i + 1 ≡ suc i = omega arith in
    and_from (same_handle h h) _ (same_handle-refl h) (and_from (i == i) _ (eq-eqb i i refl) (rw next (are_pieces-pieces_from h (suc i) n)))

data_at : (byte : ℕ) (bytes : List Byte) → length (Data byte ∷ bytes) ≡ 16 → (b : Bool) → are_zeros (Data byte ∷ bytes) ≡ b → IsHandleAt (Data byte ∷ bytes) (cond b handles.Null handles.Broken)
data_at byte bytes long true e = cleared (zeros_from_test (Data byte ∷ bytes) e ∙ ap (λ (n : ℕ). replicate n (Data 0)) long)
data_at byte bytes long false e =
    torn
    (λ other is. absurd (cc))
    (λ is. both_ways (are_zeros (Data byte ∷ bytes)) e (ap are_zeros is))

piece_at : (h : Handle) (i : ℕ) (bytes : List Byte) → length (Piece h i ∷ bytes) ≡ 16 → (b : Bool) → are_pieces h 0 (Piece h i ∷ bytes) ≡ b → IsHandleAt (Piece h i ∷ bytes) (cond b h handles.Broken)
piece_at h i bytes long true e = whole (pieces_from_test h 0 (Piece h i ∷ bytes) e ∙ ap (pieces_from h 0) long)
piece_at h i bytes long false e =
    torn
    (λ other is.
    let same : other ≡ h = cc in
    both_ways (are_pieces h 0 (Piece h i ∷ bytes)) e (ap (are_pieces h 0) (is ∙ ap pieces same) ∙ are_pieces-pieces_from h 0 16))
    (λ is. absurd (cc))

pub IsHandleAt-handle_at : (bytes : List Byte) → length bytes ≡ 16 → IsHandleAt bytes (handle_at bytes)
IsHandleAt-handle_at [] long = absurd (omega arith)
IsHandleAt-handle_at (Data byte ∷ bytes) long = data_at byte bytes long (are_zeros (Data byte ∷ bytes)) refl
IsHandleAt-handle_at (Piece h i ∷ bytes) long = piece_at h i bytes long (are_pieces h 0 (Piece h i ∷ bytes)) refl

pub handle_at_is : (bytes : List Byte) (h : Handle) → length bytes ≡ 16 → IsHandleAt bytes h → h ≡ handle_at bytes
handle_at_is bytes h long at = IsHandleAt-unique bytes h (handle_at bytes) at (IsHandleAt-handle_at bytes long)

-- ---- making

-- a place in the memory is the one that the function looks for
place_in_is : (m : Memory) (size : ℕ) (o : Option ℕ) → IsPlaceIn m size o → o ≡ cond (nat_lt (length m.live) most_live) (place_of m.live (length m.bytes) size) None
place_in_is m size (Some base) placed =
    place_of_is m.live (length m.bytes) size (Some base) placed.1 ∙ sym (cond-true (nat_lt (length m.live) most_live) (place_of m.live (length m.bytes) size) None (lt-ltb (length m.live) most_live placed.0))
place_in_is m size None placed =
    elim placed [
      | inl all ↦ sym (cond-false (nat_lt (length m.live) most_live) (place_of m.live (length m.bytes) size) None (le-ltb (length m.live) most_live (omega arith)))
      | inr none ↦ cond_both (nat_lt (length m.live) most_live) (place_of m.live (length m.bytes) size) None (λ (o : Option ℕ). None ≡ o) (λ few. place_of_is m.live (length m.bytes) size None none) (λ all. refl)
    ]

-- what is made at a place in the memory is what the function makes
pub make_is : (m : Memory) (size : ℕ) (kind : Kind) (o : Option ℕ) → IsPlaceIn m size o → made_at m size kind o ≡ make m size kind
make_is m size kind o placed = ap (made_at m size kind) (place_in_is m size o placed)

-- the relation holds of the function's answer alone
pub makes_alone : (m after : Memory) (size : ℕ) (kind : Kind) (h : Handle) (e : Event) → Makes m size kind h e after → record { handle = h; event = e; memory = after } ≡ make m size kind
makes_alone m after size kind h e (made {base} few placed) = make_is m size kind (Some base) (few, placed)
makes_alone m after size kind h e (full all) = make_is m size kind None (inl all)
makes_alone m after size kind h e (no_room none) = make_is m size kind None (inr none)

-- ---- loading a handle

loaded_at_is : (m : Memory) (r : Result Access SegTrap) (result : Result (Handle × Event) SegTrap) → ((a : Access) → r ≡ Ok a → a.address + 16 ≤ length m.bytes) → LoadsHandle m r result → result ≡ handle_loaded_at m r
loaded_at_is m r result within (read {a} {h} at) =
    ap (λ (x : Handle). Ok (x, read_event a 16)) (handle_at_is (range a.address 16 m.bytes) h (length-range a.address 16 m.bytes (within a refl)) at)
loaded_at_is m r result within stopped = refl

pub loads_alone : (m : Memory) (h : Handle) (result : Result (Handle × Event) SegTrap) → IsSound m → IsFit m h → LoadsHandle m (handle_access m h) result → result ≡ load_handle m h
loads_alone m h result sound fit loads =
    loaded_at_is m (handle_access m h) result (λ a is. (handle_access-within m h a sound fit is).0) loads
