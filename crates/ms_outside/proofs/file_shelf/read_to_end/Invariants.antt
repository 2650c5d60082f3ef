use Rattle.std.proofs.Common.{◌≡◌, ◌+◌, ◌-◌, ◌≤◌, vec_len}
use Rattle.std.specs.Io.KnownBytes.{Consumes}
use Rattle.ms_outside.proofs.file_shelf.read_to_end.Given as goal

abbrev pub invariant-loop-chunk : goal.invariant-loop-chunk
invariant-loop-chunk g l =
    record {
      most : l.most ≡ l.limit + 1;
      within : vec_len l.bytes ≤ l.most;
      reads : Consumes (g.F.ReadDevice.left l.fn.file) (g.F.ReadDevice.left l.file) l.bytes.items;
      faults : g.F.ReadDevice.faults l.file ≡ g.F.ReadDevice.faults l.fn.file;
    }

abbrev pub decreases-loop-chunk : goal.decreases-loop-chunk
decreases-loop-chunk g l = l.most - vec_len l.bytes
