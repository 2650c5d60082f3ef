use Rattle.std.proofs.Common.{refl}
use Rattle.ms_tagged.proofs.Wiping.{unmarked-block, unmarked-others}
use Rattle.ms_tagged.proofs.marks.unmark_block.Goals as goal

pub returns-clause-unmarked : goal.returns-clause-unmarked
returns-clause-unmarked c = unmarked-block c.args.written.now c.args.at _ c.requires

pub returns-clause-others : goal.returns-clause-others
returns-clause-others c = unmarked-others c.args.written.now c.args.at _ refl c.requires
