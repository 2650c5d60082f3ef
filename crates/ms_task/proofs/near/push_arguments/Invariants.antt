use Rattle.std.proofs.Common.{◌≡◌, ◌+◌, ◌-◌, ◌++◌, reverse, take, drop, vec_len, vec_capacity}
use Rattle.ms_task.proofs.near.push_arguments.Given as goal

abbrev pub invariant-loop-i : goal.invariant-loop-i
invariant-loop-i l = record {
  added : l.items.items ≡ l.fn.items.items ++ reverse (drop (l.n - l.i) (take l.n l.operands));
  more : vec_len l.items ≡ vec_len l.fn.items + l.i;
  capacity : vec_capacity l.items ≡ vec_capacity l.fn.items;
}
