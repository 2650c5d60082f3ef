use Rattle.std.proofs.Common.{◌∙◌, sym}
use Rattle.ms_bin_write.specs.Written.{func_bytes}
use Rattle.ms_bin_write.proofs.Counts.{none_few}
use Rattle.ms_bin_write.proofs.funcs.write_code_section.Goals as goal

pub returns-then-is_empty-clause-small : goal.returns-then-is_empty-clause-small
returns-then-is_empty-clause-small c = none_few func_bytes c.args.funcs.now (sym c.is_empty.ensures ∙ c.if-is_empty.true)
