use Rattle.std.proofs.Common.{}
use Rattle.c_types.specs.Layout.{IsLaidOut}
use Rattle.c_code.specs.Leaves.{leaves}
use Rattle.c_emit.specs.refinement.LeafWalk.{Walks, stack_left}
use Rattle.c_emit.proofs.leaves.leaves.Given as goal

abbrev pub invariant-loop : goal.invariant-loop
invariant-loop l = IsLaidOut l.structs × Walks l.structs l.most l.leaves.items (stack_left l.structs l.waiting.items) (leaves l.structs l.number)
