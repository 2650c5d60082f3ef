use Rattle.std.proofs.Common.{◌∙◌, sym}
use Rattle.ms_bin_write.specs.Types.{table_bytes}
use Rattle.ms_bin_write.proofs.Counts.{none_few}
use Rattle.ms_bin_write.proofs.funcs.write_table_section.Goals as goal

pub returns-then-is_empty-clause-small : goal.returns-then-is_empty-clause-small
returns-then-is_empty-clause-small c = none_few table_bytes c.args.tables.now (sym c.is_empty.ensures ∙ c.if-is_empty.true)
