-- What is told of reach: how much sets of modules reach with a task at the end of a run, a line each.
use Rattle.std.specs.Prelude.{◌≡◌, ℕ, suc, List, [], ◌∷◌, ◌++◌, slice_get, Some}
use Rattle.ms_machine.specs.Crews.{Crew}
use Rattle.ms_reach.specs.Count.{HasByte, IsCount, is_among, lent}
use Rattle.ms_reach.specs.Reach.{IsReached}
use Rattle.ms_task.specs.Thread.{Thread}
use Rattle.ms_run.specs.Lines.{reach_line}

-- The line of this number: how many live segments have a byte that the instances of these numbers, which are those of the modules,
-- reach with the task, and how many bytes they reach.
pub record TellsReach (c : Crew) (number task : ℕ) (set line : List ℕ) : Type 0 where
  pub thread : Thread
  pub segments : ℕ
  pub bytes : ℕ
  pub is_task : slice_get c.tasks task ≡ Some thread
  pub count_segments : IsCount (HasByte (IsReached (is_among set) c.store (lent thread)) c.store.segments) segments
  pub count_bytes : IsCount (IsReached (is_among set) c.store (lent thread)) bytes
  pub is_line : line ≡ reach_line number segments bytes

-- the lines of these sets, each behind the number of its task; they are numbered from this one on
pub data AreReached (c : Crew) : (number : ℕ) → (asked : List (ℕ × List ℕ)) → (lines : List ℕ) → Type 0 where
  none_asked : {number : ℕ} → AreReached c number [] []
  one_asked : {number task : ℕ} {set line : List ℕ} {asked : List (ℕ × List ℕ)} {lines : List ℕ} → TellsReach c number task set line → AreReached c (suc number) asked lines → AreReached c number ((task, set) ∷ asked) (line ++ lines)
