use Rattle.ms_tagged.proofs.Wiping.{wipes-filled}
use Rattle.ms_tagged.proofs.marks.zero.Goals as goal

pub returns : goal.returns
returns c = wipes-filled c.args.plain.now c.args.masks.now c.forget.new.masks c.fill.new.self c.args.from c.args.to c.requires.order c.requires.within c.forget.ensures (c.fill.ensures.after (λ y e. e))
