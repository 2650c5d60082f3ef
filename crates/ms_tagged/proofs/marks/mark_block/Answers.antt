use Rattle.std.proofs.Common.{refl}
use Rattle.ms_tagged.proofs.Wiping.{marked-block, marked-others}
use Rattle.ms_tagged.proofs.marks.mark_block.Goals as goal

pub returns-clause-marked : goal.returns-clause-marked
returns-clause-marked c = marked-block c.args.written.now c.args.at _ c.requires

pub returns-clause-others : goal.returns-clause-others
returns-clause-others c = marked-others c.args.written.now c.args.at _ refl c.requires
