use Rattle.std.proofs.Common.{◌∙◌, sym}
use Rattle.ms_bin_write.proofs.Counts.{none_few}
use Rattle.ms_bin_write.proofs.items.write_part.Goals as goal

pub returns-then-is_empty-clause-small : goal.returns-then-is_empty-clause-small
returns-then-is_empty-clause-small g c = none_few g.T.Item.bytes c.args.items.now (sym c.is_empty.ensures ∙ c.if-is_empty.true)
