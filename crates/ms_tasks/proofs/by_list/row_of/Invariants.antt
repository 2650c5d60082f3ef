use Rattle.std.proofs.Common.{◌≡◌, ◌≤◌, ◌++◌, ◌-◌, drop, length, replicate}
use Rattle.ms_tasks.proofs.by_list.row_of.Given as goal

abbrev pub invariant-loop-row : goal.invariant-loop-row
invariant-loop-row l = record {
  within : l.row ≤ length l.entries;
  row : l.entries ≡ replicate l.row l.k ++ drop l.row l.entries;
}

abbrev pub decreases-loop-row : goal.decreases-loop-row
decreases-loop-row l = length l.entries - l.row
