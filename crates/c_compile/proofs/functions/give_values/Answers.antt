use Rattle.std.proofs.Common.{List, ap, drop}
use Rattle.std.proofs.lemmas.List.{drop_all}
use Rattle.c_typed.specs.refinement.Views.{list_of}
use Rattle.c_typed.specs.declared.tree.Stmt.{Stmt}
use Rattle.c_code.specs.Functions.{values}
use Rattle.c_compile.proofs.Bodies.{behind_all}
use Rattle.c_compile.proofs.functions.give_values.Goals as goal

pub returns : goal.returns
returns c =
    let t = c.args.t.now in
    let ss = c.args.ss.now in
    let i = c.loop-s.s-index in
    behind_all c.args.body.now c.loop-s.body (values t.target (list_of (drop i ss))) (values t.target (list_of ss))
    (ap (λ (l : List Stmt). values t.target (list_of l)) (drop_all i ss c.loop-s-test.false)) c.loop-s.invariant
