use Rattle.std.proofs.Common.{arith}
use Rattle.ms_task.proofs.Counted.{labels_and_floor}
use Rattle.ms_task.proofs.marks.Marks.labels.Goals as goal

pub overflow_sub-result : goal.overflow_sub-result
overflow_sub-result c = omega (arith, labels_and_floor c.self.inside.items c.self.inside.floor c.self.invariant.floors)

pub returns : goal.returns
returns c = rw (← c.self.view_is) (omega (arith, labels_and_floor c.self.inside.items c.self.inside.floor c.self.invariant.floors))
