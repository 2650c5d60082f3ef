use Rattle.std.proofs.Common.{◌≡◌, ◌-◌, ◌++◌, drop, map, take, vec_capacity}
use Rattle.ms_linear.specs.Values.{default_of}
use Rattle.ms_module.specs.refinement.Locals.{Rise, types_of}
use Rattle.ms_task.specs.refinement.Far.{near}
use Rattle.ms_task.proofs.near.push_declared.Given as goal

-- what was added, and what is left, are all of them
abbrev pub invariant-loop-run : goal.invariant-loop-run
invariant-loop-run l = record {
  added : l.items.items ++ map default_of (take (near - l.from) (types_of l.from (drop l.run-index l.run-items))) ≡ l.fn.items.items ++ map default_of (take near l.types);
  rise : Rise l.from (drop l.run-index l.run-items);
  capacity : vec_capacity l.items ≡ vec_capacity l.fn.items;
}
