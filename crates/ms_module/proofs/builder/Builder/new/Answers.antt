use Rattle.ms_module.specs.Building.{begins}
use Rattle.ms_module.proofs.builder.Builder.new.Goals as goal

pub invariant_of-result : goal.invariant_of-result
invariant_of-result c = rw (c.new-2.ensures.items, c.in_ok-push.ensures.items, c.new-sequences.ensures.items, c.new.ensures) begins
