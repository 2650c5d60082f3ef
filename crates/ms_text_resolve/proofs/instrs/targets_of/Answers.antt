use Rattle.std.proofs.Common.{refl}
use Rattle.ms_text_resolve.proofs.Targets.{targets_last}
use Rattle.ms_text_resolve.proofs.instrs.targets_of.Goals as goal

pub returns-in-Some : goal.returns-in-Some
returns-in-Some c = rw (c.in-Some.ensures.items, targets_last c.pop.new.self.items c.in-Some.default, c.from_vec.ensures) refl
