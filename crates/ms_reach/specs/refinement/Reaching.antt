-- Before and after all that is reached was marked.
use Rattle.std.specs.Prelude.{◌≡◌, ◌≤◌, ℕ, Bool, false, List, [], length, replicate}
use Rattle.ms_segment.specs.Memory.{Memory}
use Rattle.ms_task.specs.Thread.{Thread}
use Rattle.ms_machine.specs.Store.{Store}
use Rattle.ms_reach.specs.Reach.{IsReached}
use Rattle.ms_reach.specs.refinement.Closing.{State}
use Rattle.ms_reach.specs.refinement.Leading.{EndBelow}
use Rattle.ms_reach.specs.refinement.Marking.{IsMarked}

-- nothing is known of so many addresses
abbrev pub nothing : ℕ → State
nothing n = record { marks = replicate n false; todo = [] }

-- nothing is known of as many as the live segments need
abbrev pub IsNew : Memory → State → Type 0
IsNew m c = (n : ℕ) × (c ≡ nothing n) × EndBelow m.live n × (n ≤ length m.bytes)

-- there is a mark for each byte of each live segment, and exactly those of reached bytes are set
pub record MarksReached (inside : ℕ → Bool) (s : Store) (t : Thread) (marks : List Bool) : Type 0 where
  pub covers : EndBelow s.segments.live (length marks)
  pub marked : (k : ℕ) → IsMarked marks k → IsReached inside s t k
  pub reached : (k : ℕ) → IsReached inside s t k → IsMarked marks k
