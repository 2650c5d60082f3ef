use Rattle.std.proofs.Common.{◌≡◌, ◌++◌, reverse}
use Rattle.c_typed.specs.Units.{numbers}
use Rattle.c_code.specs.Statements.{objects_in}
use Rattle.c_compile.proofs.functions.param_objects.Given as goal

abbrev pub decreases-loop-left : goal.decreases-loop-left
decreases-loop-left l = l.left

abbrev pub invariant-loop-left : goal.invariant-loop-left
invariant-loop-left l =
    objects_in l.t.target l.t.slots (numbers l.left) ++ reverse l.objects.items ≡ objects_in l.t.target l.t.slots (numbers l.count)
