use Rattle.std.proofs.Common.{arith}
use Rattle.std.proofs.lemmas.Grind.{common_steps}
use Rattle.ms_link.proofs.Standing.{numbers-more}
use Rattle.ms_link.proofs.making.push_numbers.Goals as goal

pub loop-n-preserved : goal.loop-n-preserved
loop-n-preserved c = let e = numbers-more c.loop-n.n c.in-Some.end c.loop-n-test.true in grind (arith, common_steps)
