use Rattle.std.proofs.Common.{◌≡◌, List, ℕ, ◌++◌, length}
use Rattle.std.specs.Io.KnownBytes.{Appends}
use Rattle.ms_outside.proofs.std_sink.write_and_flush.Given as goal

-- a front of the piece was written, and the rest is left
abbrev pub invariant-loop-rest : goal.invariant-loop-rest
invariant-loop-rest g l =
    record {
      written : (front : List ℕ) × (l.fn.piece ≡ front ++ l.rest) × Appends (g.D.WriteDevice.held l.fn.device) (g.D.WriteDevice.held l.device) front;
      faults : g.D.WriteDevice.faults l.device ≡ g.D.WriteDevice.faults l.fn.device;
    }

abbrev pub decreases-loop-rest : goal.decreases-loop-rest
decreases-loop-rest g l = length l.rest
