use Rattle.std.proofs.Common.{arith, length}
use Rattle.ms_valid.proofs.Parts.{calls_by_table, calls_by_table_nothing}
use Rattle.ms_valid.proofs.calls.call_indirect.Goals as goal

pub returns-then-not-take : goal.returns-then-not-take
returns-then-not-take c = calls_by_table_nothing (length c.args.scope.now.context.tables) _ c.in-Some.func.now (omega arith) c.in-Some.ensures c.if-not-take.ensures

pub returns : goal.returns
returns c = calls_by_table c.invoke.new.operands c.in_ok-invoke.field-0 (length c.args.scope.now.context.tables) _ c.in-Some.func.now (omega arith) c.in-Some.ensures c.if-not-take.ensures c.in_ok-invoke.ensures
