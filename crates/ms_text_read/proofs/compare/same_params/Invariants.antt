use Rattle.std.proofs.Common.{◌≡◌, length}
use lib.Pointwise.{pointwise}
use Rattle.ms_text_grammar.specs.Shapes.{param_types, same_type}
use Rattle.ms_text_read.proofs.compare.same_params.Given as goal

abbrev pub invariant-loop-a : goal.invariant-loop-a
invariant-loop-a l = pointwise same_type (param_types l.a) (param_types l.b) ≡ pointwise same_type (param_types l.fn.first) (param_types l.fn.second)

abbrev pub decreases-loop-a : goal.decreases-loop-a
decreases-loop-a l = length l.a
