use Rattle.std.proofs.Common.{arith}
use Rattle.std.proofs.lemmas.Grind.{common_steps}
use Rattle.ms_bin_write.proofs.Groups.{locals_bytes-is}
use Rattle.ms_bin_write.proofs.funcs.write_locals.Goals as goal

pub returns-clause-written : goal.returns-clause-written
returns-clause-written c =
    rw (locals_bytes-is c.runs-runs.result.now c.args.locals.now c.runs-runs.ensures.types c.runs-runs.ensures.rise c.runs-runs.ensures.differ) (grind (arith, common_steps))
