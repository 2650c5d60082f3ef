use Rattle.ms_valid.specs.refinement.Untyped.{AreTypedBelow}
use Rattle.ms_valid.proofs.valid.first_untyped_by.Given as goal

abbrev pub invariant-loop-number : goal.invariant-loop-number
invariant-loop-number l = AreTypedBelow l.context l.funcs l.number
