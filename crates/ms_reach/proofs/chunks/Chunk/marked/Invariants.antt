use Rattle.std.proofs.Common.{◌≡◌, ◌<◌, ◌≤◌, ℕ, false}
use Rattle.ms_reach.specs.refinement.Chunks.{is_set}
use Rattle.ms_reach.proofs.chunks.Chunk.marked.Given as goal

abbrev pub invariant-loop-i : goal.invariant-loop-i
invariant-loop-i l = (i : ℕ) → l.from ≤ i → i < l.i → is_set l.self.flags i ≡ false
