-- Counting several events.
use Rattle.std.proofs.Common.{◌≡◌, ◌≤◌, ◌+◌, ℕ, List, [], ◌∷◌, ◌++◌, refl, arith}
use Rattle.ms_event.specs.declared.event.Event.{Event}
use Rattle.ms_event.specs.declared.event.Event.TheVariants.{Alloc, Free, Read, Refused, Seal, Slice, Write}
use Rattle.ms_event.specs.declared.tally.Tally.{Tally}
use Rattle.ms_event.specs.refinement.Tally.{LeavesRoom, all_tallied, tallied}

pub tallied_both : (es fs : List Event) (t : Tally) → all_tallied (es ++ fs) t ≡ all_tallied fs (all_tallied es t)
tallied_both [] fs t = refl
tallied_both (e ∷ es) fs t = tallied_both es fs (tallied e t)

-- ---- the room that is left

pub room_less : (n m : ℕ) (t : Tally) → m ≤ n → LeavesRoom n t → LeavesRoom m t
room_less n m t less h =
    let a = h.allocs in let b = h.refused in let c = h.seals in let d = h.slices in let e = h.reads in let f = h.writes in let g = h.frees in
    record { allocs = omega (arith, a, less); refused = omega (arith, b, less); seals = omega (arith, c, less); slices = omega (arith, d, less); reads = omega (arith, e, less); writes = omega (arith, f, less); frees = omega (arith, g, less) }

module _ (n m : ℕ) (t : Tally) (less : m + 1 ≤ n) (h : LeavesRoom n t) where
  room_by : (u : Tally) → u.allocs ≤ t.allocs + 1 → u.refused ≤ t.refused + 1 → u.seals ≤ t.seals + 1 → u.slices ≤ t.slices + 1 → u.reads ≤ t.reads + 1 → u.writes ≤ t.writes + 1 → u.frees ≤ t.frees + 1 → LeavesRoom m u
  room_by u a' b' c' d' e' f' g' =
      let a = h.allocs in let b = h.refused in let c = h.seals in let d = h.slices in let e = h.reads in let f = h.writes in let g = h.frees in
      record { allocs = omega (arith, a, a', less); refused = omega (arith, b, b', less); seals = omega (arith, c, c', less); slices = omega (arith, d, d', less); reads = omega (arith, e, e', less); writes = omega (arith, f, f', less); frees = omega (arith, g, g', less) }

  -- an event takes one
  pub room_after : (e : Event) → LeavesRoom m (tallied e t)
  room_after (Alloc id addr size) = room_by (tallied (Alloc id addr size) t) (omega arith) (omega arith) (omega arith) (omega arith) (omega arith) (omega arith) (omega arith)
  room_after (Refused size) = room_by (tallied (Refused size) t) (omega arith) (omega arith) (omega arith) (omega arith) (omega arith) (omega arith) (omega arith)
  room_after (Seal id lo hi) = room_by (tallied (Seal id lo hi) t) (omega arith) (omega arith) (omega arith) (omega arith) (omega arith) (omega arith) (omega arith)
  room_after (Slice sealed id lo hi lo2 hi2) = room_by (tallied (Slice sealed id lo hi lo2 hi2) t) (omega arith) (omega arith) (omega arith) (omega arith) (omega arith) (omega arith) (omega arith)
  room_after (Read sealed id lo hi addr width) = room_by (tallied (Read sealed id lo hi addr width) t) (omega arith) (omega arith) (omega arith) (omega arith) (omega arith) (omega arith) (omega arith)
  room_after (Write id lo hi addr width) = room_by (tallied (Write id lo hi addr width) t) (omega arith) (omega arith) (omega arith) (omega arith) (omega arith) (omega arith) (omega arith)
  room_after (Free id) = room_by (tallied (Free id) t) (omega arith) (omega arith) (omega arith) (omega arith) (omega arith) (omega arith) (omega arith)
