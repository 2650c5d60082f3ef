-- What the words so far gave, and what is left.
use Rattle.std.proofs.Common.{◌≡◌, ◌-◌, ◌≤◌, false, length, drop}
use Rattle.ms_job.specs.Schedules.{numbers_behind, placed_words, schedule_in}
use Rattle.ms_job.proofs.entries.schedule.Given as goal

-- the numbers so far, and those of the words that are left, are all
abbrev pub invariant-loop-at : goal.invariant-loop-at
invariant-loop-at l = record {
  inside : l.at ≤ length l.text;
  read : numbers_behind l.numbers (placed_words false l.at (drop l.at l.text)) ≡ schedule_in l.fn.text;
}

abbrev pub decreases-loop-at : goal.decreases-loop-at
decreases-loop-at l = length l.text - l.at
