-- Live segments stay placed, whatever is done to the memory.
use Rattle.std.proofs.Common.{◌≡◌, ℕ, ◌+◌, ◌-◌, ◌<◌, ◌≤◌, zero, suc, List, [], ◌∷◌, ◌++◌, Some, get_or, length, replicate, sym, refl, subst, arith}
use Rattle.std.specs.List.{All}
use Rattle.std.proofs.lemmas.List.Elements.{All-filter, All-nil, All-push, All-weaker}
use Rattle.std.proofs.lemmas.List.Kept.{AllPairs-filter}
use Rattle.std.proofs.lemmas.List.Quantifiers.{all_pairs_push}
use Rattle.std.proofs.lemmas.List.{length-replicate}
use Rattle.ms_handle.specs.declared.handle.Kind.{Kind}
use Rattle.ms_live.specs.declared.gaps.Live.{Live}
use Rattle.ms_live.specs.Place.{IsOutside, IsPlace, without}
use Rattle.ms_tagged.specs.Bytes.{Byte, Data, overwritten}
use Rattle.ms_tagged.proofs.Ranges.{length-overwritten}
use Rattle.ms_segment.specs.Memory.{AreApart, IsWithin, Memory, Placed, once_more, with_bytes}
use Rattle.ms_segment.specs.Parts.{entered}

-- ---- a place

-- a segment at its place lies within the capacity, also one of no bytes, which lies at 0
pub place-within : (live : List Live) (capacity size base : ℕ) → IsPlace live capacity size (Some base) → base + size ≤ capacity
place-within live capacity zero zero placed = omega arith
place-within live capacity zero (suc base) placed = absurd (placed.2 0 (omega arith) refl (λ k below. absurd (omega arith)))
place-within live capacity (suc size) base placed = let last = (placed.1 size (omega arith)).0 in omega arith

-- ---- after a write, after an access, and after the end of a segment

pub Placed-written : (m : Memory) (address : ℕ) (new : List Byte) → Placed m → address + length new ≤ length m.bytes → Placed (with_bytes m address new)
Placed-written m address new p within = record {
  within = subst (λ n. All (IsWithin n) m.live) (sym (length-overwritten address new m.bytes within)) p.within;
  apart = p.apart;
  ids = p.ids;
}

pub Placed-once_more : (m : Memory) → Placed m → Placed (once_more m)
Placed-once_more m p = record { within = p.within; apart = p.apart; ids = p.ids }

pub Placed-ended : (m : Memory) (id : ℕ) → Placed m → Placed (record { bytes = m.bytes; live = without id m.live; made = m.made; accesses = m.accesses })
Placed-ended m id p = record {
  within = All-filter _ (IsWithin (length m.bytes)) m.live p.within;
  apart = AllPairs-filter AreApart _ m.live p.apart;
  ids = All-filter _ (λ (t : Live). (1 ≤ t.id) × (t.id ≤ m.made)) m.live p.ids;
}

-- ---- after one more segment

apart_new : (live : List Live) (capacity size base id : ℕ) (kind : Kind) (t : Live) → ((k : ℕ) → k < size → IsOutside (base + k) t) → AreApart t (record { id = id; base = base; size = size; kind = kind })
apart_new live capacity size base id kind t out address from to from' to' =
    let k : ℕ = address - base in
    let at : base + k ≡ address = omega arith in
    let beyond : t.base + t.size ≤ base + k = out k (omega arith) (omega arith) in
    omega arith

pub Placed-entered : (m : Memory) (base size : ℕ) (kind : Kind) → Placed m → IsPlace m.live (length m.bytes) size (Some base) → Placed (entered m base size kind)
Placed-entered m base size kind p placed =
    let new : Live = record { id = m.made + 1; base = base; size = size; kind = kind } in
    let within : base + size ≤ length m.bytes = place-within m.live (length m.bytes) size base placed in
    let count : length (replicate size (Data 0)) ≡ size = length-replicate size (Data 0) in
    let same : length (overwritten base (replicate size (Data 0)) m.bytes) ≡ length m.bytes = length-overwritten base (replicate size (Data 0)) m.bytes (omega arith) in
    record {
      within = subst (λ n. All (IsWithin n) (m.live ++ new ∷ [])) (sym same) (All-push (IsWithin (length m.bytes)) m.live new p.within (within, placed.0));
      apart = all_pairs_push AreApart m.live new p.apart (λ k d below. apart_new m.live (length m.bytes) size base (m.made + 1) kind (get_or m.live k d) (λ j under. (placed.1 j under).1 k d below));
      ids = All-push (λ (t : Live). (1 ≤ t.id) × (t.id ≤ m.made + 1)) m.live new (All-weaker (λ (t : Live). (1 ≤ t.id) × (t.id ≤ m.made)) (λ (t : Live). (1 ≤ t.id) × (t.id ≤ m.made + 1)) (λ t id. (id.0, omega arith)) m.live p.ids) (omega arith, omega arith);
    }

-- new memory
pub Placed-new : (capacity : ℕ) → Placed (record { bytes = replicate capacity (Data 0); live = []; made = 0; accesses = 0 })
Placed-new capacity = record {
  within = All-nil (IsWithin (length (replicate capacity (Data 0))));
  apart = λ i j d first below. absurd (omega arith);
  ids = All-nil (λ (t : Live). (1 ≤ t.id) × (t.id ≤ 0));
}
