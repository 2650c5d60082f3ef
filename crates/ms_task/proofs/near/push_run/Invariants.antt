use Rattle.std.proofs.Common.{◌≡◌, ◌+◌, ◌++◌, replicate, vec_len, vec_capacity}
use Rattle.ms_task.proofs.near.push_run.Given as goal

abbrev pub invariant-loop : goal.invariant-loop
invariant-loop l = record {
  added : l.items.items ≡ l.fn.items.items ++ replicate l.counter l.v;
  more : vec_len l.items ≡ vec_len l.fn.items + l.counter;
  capacity : vec_capacity l.items ≡ vec_capacity l.fn.items;
}
