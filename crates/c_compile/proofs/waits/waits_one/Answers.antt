use Rattle.c_compile.proofs.Waiting.{global_waits}
use Rattle.c_compile.proofs.waits.waits_one.Goals as goal

pub returns-in-Global : goal.returns-in-Global
returns-in-Global c = λ u ms. global_waits u ms c.args.m.now c.in-Global.field-0 c.in-Global.ss c.deref.result.now c.in-Global.is c.deref.ensures.value c.waits_stmts.result c.waits_stmts.ensures
