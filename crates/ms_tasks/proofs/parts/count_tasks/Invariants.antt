use Rattle.std.proofs.Common.{◌≡◌, length, map}
use Rattle.ms_tasks.specs.refinement.Parting.{part_at}
use Rattle.ms_tasks.proofs.AloneTasks.{Counting}
use Rattle.ms_tasks.proofs.parts.count_tasks.Given as goal

abbrev pub invariant-loop-i : goal.invariant-loop-i
invariant-loop-i g l = record {
  each : length l.counts ≡ length l.parts;
  counting : Counting (map (part_at l.store l.parts) l.addresses) l.i l.counts;
}
