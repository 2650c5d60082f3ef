-- When a refusal may come: where a gap has room, there is a run, and else there is none.
use Rattle.std.proofs.Common.{ℕ, ◌+◌, ◌*◌, ◌<◌, ◌≤◌, arith, inl, inr}
use Rattle.std.proofs.lemmas.Bool.{cases_lt}
use Rattle.ms_event.specs.Monitor.{May, State, most_live}
use Rattle.ms_event.specs.declared.event.Event.TheVariants.{Refused}
use Rattle.ms_gap_tree.specs.refinement.Rooms.{HasRoom, room_at}
use Rattle.ms_monitor.specs.refinement.Colours.{live_in}
use Rattle.ms_monitor.specs.refinement.Kept.{IsKept, IsLive, Kept}
use Rattle.ms_monitor.specs.refinement.Showing.{Shows}
use Rattle.ms_monitor.proofs.Seen.{gap_from_run, run_from_gap}
use Rattle.ms_monitor.proofs.Splitting.{gap_has_run}

pub not_refused : (k : Kept) (s : State) (size : ℕ) → Shows k s → IsKept k → live_in k.colours < most_live → (key : ℕ) × HasRoom (room_at k.rooms) size key → ¬ (May k.capacity s (Refused size))
not_refused k s size shows kept few room m =
    let h = room.1 in
    let fits : size ≤ h.0 = h.2 in
    elim m [
      | inl full ↦ let c = shows.count in omega arith
      | inr none ↦
          none (16 * room.0) (omega arith)
          (gap_from_run k s shows (16 * room.0) size (gap_has_run (IsLive k.colours) k.capacity (room_at k.rooms) kept.layout (16 * room.0) size room.0 h.0 h.1 (omega arith) (omega arith)))
    ]

pub full_refuses : (k : Kept) (s : State) (size : ℕ) → Shows k s → IsKept k → most_live ≤ live_in k.colours → May k.capacity s (Refused size)
full_refuses k s size shows kept full = let few = kept.few in let c = shows.count in inl (omega arith)

pub no_room_refuses : (k : Kept) (s : State) (size : ℕ) → Shows k s → IsKept k → ¬ ((key : ℕ) × HasRoom (room_at k.rooms) size key) → May k.capacity s (Refused size)
no_room_refuses k s size shows kept none =
    inr (λ address even gap.
    elim (cases_lt 0 size) [
      | inl some ↦
          let w = kept.layout.whole address (address + size) (omega arith) even (run_from_gap k s shows address size gap) in
          let w3 = w.3 in
          let w4 = w.4 in
          none (w.0, (w.1, w.2, omega arith))
      | inr empty ↦ let f = kept.layout.first in none (0, (f.0, f.1, omega arith))
    ])
