use Rattle.ms_tagged.proofs.Wiping.{both-kept, both-marked}
use Rattle.ms_tagged.proofs.marks.mark.Goals as goal

pub returns-clause-marked : goal.returns-clause-marked
returns-clause-marked c =
    both-marked c.args.written.now c.mark_block.new.written c.mark_block-2.new.written c.args.from c.args.to c.requires.some c.requires.few
    c.mark_block.ensures.marked c.mark_block.ensures.others c.mark_block-2.ensures.marked c.mark_block-2.ensures.others

pub returns-clause-kept : goal.returns-clause-kept
returns-clause-kept c =
    both-kept c.args.written.now c.mark_block.new.written c.mark_block-2.new.written c.args.from c.args.to c.requires.some c.requires.few
    c.mark_block.ensures.marked c.mark_block.ensures.others c.mark_block-2.ensures.marked c.mark_block-2.ensures.others
