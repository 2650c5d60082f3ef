use Rattle.std.proofs.Common.{◌≡◌, length}
use lib.Pointwise.{pointwise}
use Rattle.ms_text_grammar.specs.Shapes.{same_type}
use Rattle.ms_text_read.proofs.compare.same_types.Given as goal

abbrev pub invariant-loop-a : goal.invariant-loop-a
invariant-loop-a l = pointwise same_type l.a l.b ≡ pointwise same_type l.fn.first l.fn.second

abbrev pub decreases-loop-a : goal.decreases-loop-a
decreases-loop-a l = length l.a
