use Rattle.std.proofs.Common.{◌-◌, sym, arith}
use Rattle.ms_module.proofs.Building.{second-is}
use Rattle.ms_module.proofs.builder.enter_second.Goals as goal

pub returns-clause-blocks : goal.returns-clause-blocks
returns-clause-blocks c = second-is c.args.blocks.now.items (c.len-last.result - 1) c.args.number c.index.result.now (omega arith) (sym c.index.ensures)
