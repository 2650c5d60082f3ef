use Rattle.ms_text_resolve.proofs.Blocks.{all_closed}
use Rattle.ms_text_resolve.proofs.body.built.Goals as goal

pub returns-clause-closed : goal.returns-clause-closed
returns-clause-closed c = let l = c.loop-step in all_closed l.making.st.blocks c.args.ops.now l.step-index c.loop-step-test.false l.invariant.whole
