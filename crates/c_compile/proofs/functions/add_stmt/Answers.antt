use Rattle.std.proofs.Common.{OnOk, reverse, subst}
use Rattle.ms_emit.specs.refinement.Parts.{Adds}
use Rattle.c_typed.specs.refinement.Views.{stmt_of}
use Rattle.c_code.specs.Statements.{Exits, stmt}
use Rattle.c_compile.proofs.functions.add_stmt.Goals as goal

pub returns-clause-code : goal.returns-clause-code
returns-clause-code c =
    let t = c.args.t.now in
    subst (λ (x : Exits). OnOk c.stmt.result (Adds c.args.body.now c.stmt.new.body (stmt t.target t.slots 0 x (stmt_of c.args.s.now)))) (c.at_body.ensures (reverse c.args.objects.now.items))
    c.stmt.ensures.code
