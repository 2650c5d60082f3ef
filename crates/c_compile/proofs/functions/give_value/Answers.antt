use Rattle.std.proofs.Common.{List, [], OnOk, reverse, subst}
use Rattle.ms_emit.specs.refinement.Parts.{Adds}
use Rattle.c_types.specs.Types.{Ty}
use Rattle.c_typed.specs.refinement.Views.{stmt_of}
use Rattle.c_typed.specs.declared.ops.Variable.{Variable}
use Rattle.c_code.specs.Functions.{values}
use Rattle.c_code.specs.Statements.{at_body, stmt}
use Rattle.c_compile.proofs.Bodies.{onward}
use Rattle.c_compile.proofs.functions.give_value.Goals as goal

pub returns : goal.returns
returns c = λ rest final.
    let t = c.args.t.now in
    let s = stmt_of c.args.s.now in
    let r = c.add_stmt.result in
    let s0 = c.args.body.now in
    let s1 = c.add_stmt.new.body in
    onward r s0 s1 final (stmt t.target [] 0 (at_body []) s) (values t.target rest)
    (subst (λ (us : List Ty). OnOk r (Adds s0 s1 (stmt t.target us 0 (at_body []) s))) c.requires
    (subst (λ (vs : List Variable). OnOk r (Adds s0 s1 (stmt t.target t.slots 0 (at_body (reverse vs)) s))) c.new-objects.ensures.items c.add_stmt.ensures.code))
