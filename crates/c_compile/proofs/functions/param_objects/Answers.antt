use Rattle.std.proofs.Common.{◌-◌, reverse, arith}
use Rattle.c_typed.specs.Units.{numbers}
use Rattle.c_code.specs.Statements.{objects_in}
use Rattle.c_compile.proofs.Bodies.{objects_step}
use Rattle.c_compile.proofs.functions.param_objects.Goals as goal

pub loop-left-preserved : goal.loop-left-preserved
loop-left-preserved c =
    let t = c.args.t.now in
    objects_step t.target t.slots (c.loop-left.left - 1) c.loop-left.left (reverse c.loop-left.objects.items) (reverse c.add_object.new.objects.items)
    (objects_in t.target t.slots (numbers c.args.count)) (omega arith) c.in_ok-add_object.ensures c.loop-left.invariant
