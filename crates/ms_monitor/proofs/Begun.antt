-- What is kept before any event.
use Rattle.std.proofs.Common.{◌≡◌, ℕ, List, ◌+◌, ◌<◌, cond, nat_eq, [], Some, None, arith, ap, sym, ◌∙◌}
use Rattle.ms_event.specs.Monitor.{Shade, most_live}
use Rattle.ms_gap_tree.specs.refinement.Rooms.{Arena, room_at, size_of}
use Rattle.ms_live.proofs.Layouts.{layout_new}
use Rattle.ms_monitor.specs.refinement.Colours.{colour_of, filled_in, live_in}
use Rattle.ms_monitor.specs.refinement.Kept.{IsKept, IsLive}
use Rattle.ms_monitor.specs.declared.colours.Colour.{Colour}
use Rattle.ms_live.specs.refinement.Kept.{AreEnough}
use Rattle.ms_live.proofs.Keeping.{at_other}

pub begun_kept : (capacity : ℕ) (colours : List (ℕ × Colour)) (shades : List Shade) (rooms : Arena) → colours ≡ [] → capacity < 4294967296 → ((key : ℕ) → room_at rooms key ≡ cond (nat_eq key 0) (Some capacity) None) → size_of rooms ≡ 1 → AreEnough rooms.levels capacity → rooms.most ≡ most_live + 1
    → IsKept (record { capacity = capacity; colours = colours; shades = shades; rooms = rooms })
begun_kept capacity colours shades rooms none below at size levels most =
    let l = ap live_in none in
    let f = ap filled_in none in
    record {
      layout = layout_new (IsLive colours) capacity (room_at rooms) (λ s live. let l = sym (ap (λ (es : List (ℕ × Colour)). colour_of es s.id) none) ∙ live.0 in cc) (at 0) (λ k n. at k ∙ at_other capacity k n);
      addresses = below;
      few = omega arith;
      size = size ∙ omega arith;
      levels = levels;
      most = most;
    }
