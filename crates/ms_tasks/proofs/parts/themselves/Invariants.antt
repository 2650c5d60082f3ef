use Rattle.std.proofs.Common.{◌≡◌, ℕ, Some, length, slice_get}
use Rattle.ms_tasks.proofs.parts.themselves.Given as goal

abbrev pub invariant-loop-i : goal.invariant-loop-i
invariant-loop-i l = record {
  len : length l.numbers.items ≡ l.i;
  each : (k p : ℕ) → slice_get l.numbers.items k ≡ Some p → p ≡ k;
}
