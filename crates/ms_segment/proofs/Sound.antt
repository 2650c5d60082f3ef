-- The memory stays sound, whatever is done to it.
use Rattle.std.proofs.Common.{◌≡◌, ◌==◌, ℕ, ◌+◌, ◌<◌, ◌≤◌, not, zero, suc, inl, inr, List, [], ◌∷◌, Some, length, replicate, sym, refl, subst, arith}
use Rattle.std.specs.List.{All, Contains}
use Rattle.std.proofs.Common.{length-append}
use Rattle.std.proofs.lemmas.List.Elements.{All-cons, All-contains, All-map, All-nil, All-replicate}
use Rattle.std.proofs.lemmas.List.Kept.{AllPairs-filter}
use Rattle.std.proofs.lemmas.List.Quantifiers.{all_pairs_push}
use Rattle.std.proofs.lemmas.List.{length-replicate}
use Rattle.ms_handle.specs.declared.handle.Handle.{Handle}
use Rattle.ms_handle.specs.declared.handle.Kind.{Kind}
use Rattle.ms_live.specs.declared.gaps.Live.{Live}
use Rattle.ms_live.specs.Place.{IsPlace, without}
use Rattle.ms_tagged.specs.Bytes.{Byte, Data, Piece, data_of, overwritten, pieces}
use Rattle.ms_tagged.proofs.Ranges.{length-overwritten}
use Rattle.ms_event.specs.Monitor.{most_live}
use Rattle.ms_segment.specs.Memory.{IsFit, IsSound, Memory, once_more, with_bytes}
use Rattle.ms_segment.specs.Parts.{entered}
use Rattle.ms_segment.proofs.Finds.{Contains-overwritten, length-filter_le}
use Rattle.ms_segment.proofs.Placing.{Placed-ended, Placed-entered, Placed-new, Placed-once_more, Placed-written, place-within}
use Rattle.ms_segment.proofs.Fits.{IsFit-ended, IsFit-entered, IsFit-once_more, IsFit-written}

-- ---- pieces among bytes

-- a data byte
abbrev pub IsData : Byte → Type 0
IsData (Data n) = Unit {0}
IsData (Piece h i) = ⊥

no_piece : (new : List Byte) → All IsData new → (h : Handle) (i : ℕ) → Contains new (Piece h i) → ⊥
no_piece new data' h i has = All-contains IsData new (Piece h i) data' has

pub All-data_of : (width value : ℕ) → All IsData (data_of width value)
All-data_of zero value = All-nil IsData
All-data_of (suc width) value = All-cons IsData _ _ tt (All-data_of width _)

-- a piece of this handle
abbrev IsOf : Handle → Byte → Type 0
IsOf v (Data n) = Unit {0}
IsOf v (Piece h i) = h ≡ v

-- the pieces of a handle are its own
pub piece_of : (v h : Handle) (i : ℕ) → Contains (pieces v) (Piece h i) → h ≡ v
piece_of v h i has = All-contains (IsOf v) (pieces v) (Piece h i) (All-map (IsOf v) (Piece v) (0 ∷ 1 ∷ 2 ∷ 3 ∷ 4 ∷ 5 ∷ 6 ∷ 7 ∷ 8 ∷ 9 ∷ 10 ∷ 11 ∷ 12 ∷ 13 ∷ 14 ∷ 15 ∷ []) (λ k d below. refl)) has

-- ---- after a write

sound_write : (m : Memory) (address : ℕ) (new : List Byte) → IsSound m → address + length new ≤ length m.bytes → ((h : Handle) (i : ℕ) → Contains new (Piece h i) → IsFit m h) → IsSound (with_bytes m address new)
sound_write m address new s within fits =
    let same : length (overwritten address new m.bytes) ≡ length m.bytes = length-overwritten address new m.bytes within in
    record {
      capacity = omega arith;
      few = s.few;
      placed = Placed-written m address new s.placed within;
      rising = s.rising;
      kept = λ h i has.
          IsFit-written m address new h (elim (Contains-overwritten address new m.bytes (Piece h i) has) [ inl here ↦ fits h i here | inr old ↦ s.kept h i old ]);
    }

-- after bytes of data
pub IsSound-data : (m : Memory) (address width value : ℕ) → IsSound m → address + length (data_of width value) ≤ length m.bytes → IsSound (with_bytes m address (data_of width value))
IsSound-data m address width value s within =
    sound_write m address (data_of width value) s within (λ h i has. absurd (no_piece (data_of width value) (All-data_of width value) h i has))

-- after the pieces of a handle that fits
pub IsSound-pieces : (m : Memory) (address : ℕ) (v : Handle) → IsSound m → IsFit m v → address + 16 ≤ length m.bytes → IsSound (with_bytes m address (pieces v))
IsSound-pieces m address v s fit within =
    sound_write m address (pieces v) s within (λ h i has. subst (IsFit m) (sym (piece_of v h i has)) fit)

-- ---- after an access

pub IsSound-once_more : (m : Memory) → IsSound m → IsSound (once_more m)
IsSound-once_more m s = record {
  capacity = s.capacity;
  few = s.few;
  placed = Placed-once_more m s.placed;
  rising = s.rising;
  kept = λ h i has. IsFit-once_more m h (s.kept h i has);
}

-- ---- after the end of a segment

pub IsSound-ended : (m : Memory) (id : ℕ) → IsSound m → IsSound (record { bytes = m.bytes; live = without id m.live; made = m.made; accesses = m.accesses })
IsSound-ended m id s = record {
  capacity = s.capacity;
  few = omega (arith, s.few, length-filter_le (λ (t : Live). not (t.id == id)) m.live);
  placed = Placed-ended m id s.placed;
  rising = AllPairs-filter (λ (t u : Live). t.id < u.id) _ m.live s.rising;
  kept = λ h i has. IsFit-ended m id h (s.kept h i has);
}

-- ---- after one more segment

pub IsSound-entered : (m : Memory) (base size : ℕ) (kind : Kind) → IsSound m → length m.live < most_live → IsPlace m.live (length m.bytes) size (Some base) → IsSound (entered m base size kind)
IsSound-entered m base size kind s few placed =
    let new : Live = record { id = m.made + 1; base = base; size = size; kind = kind } in
    let within : base + size ≤ length m.bytes = place-within m.live (length m.bytes) size base placed in
    let count : length (replicate size (Data 0)) ≡ size = length-replicate size (Data 0) in
    let same : length (overwritten base (replicate size (Data 0)) m.bytes) ≡ length m.bytes = length-overwritten base (replicate size (Data 0)) m.bytes (omega arith) in
    record {
      capacity = omega arith;
      few = omega (arith, length-append m.live (new ∷ []));
      placed = Placed-entered m base size kind s.placed placed;
      rising = all_pairs_push (λ (t u : Live). t.id < u.id) m.live new s.rising (λ k d below. let id = s.placed.ids k d below in omega arith);
      kept = λ h i has.
          IsFit-entered m base size kind h (elim (Contains-overwritten base (replicate size (Data 0)) m.bytes (Piece h i) has) [ inl here ↦ absurd (no_piece (replicate size (Data 0)) (All-replicate IsData size (Data 0) tt) h i here) | inr old ↦ s.kept h i old ]);
    }

-- new memory
pub IsSound-new : (capacity : ℕ) → capacity < 4294967296 → IsSound (record { bytes = replicate capacity (Data 0); live = []; made = 0; accesses = 0 })
IsSound-new capacity below =
    let count : length (replicate capacity (Data 0)) ≡ capacity = length-replicate capacity (Data 0) in
    record {
      capacity = omega arith;
      few = omega arith;
      placed = Placed-new capacity;
      rising = λ i j d first below. absurd (omega arith);
      kept = λ h i has. absurd (no_piece (replicate capacity (Data 0)) (All-replicate IsData capacity (Data 0) tt) h i has);
    }
