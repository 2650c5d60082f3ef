use Rattle.std.proofs.Common.{List, ap, drop, map}
use Rattle.std.proofs.lemmas.List.{drop_all}
use Rattle.c_typed.specs.refinement.Views.{made_of}
use Rattle.c_typed.specs.declared.unit.Made.{Made}
use Rattle.c_code.specs.Functions.{gives}
use Rattle.c_compile.proofs.Bodies.{behind_all}
use Rattle.c_compile.proofs.functions.give_all.Goals as goal

pub returns : goal.returns
returns c =
    let t = c.args.t.now in
    let ms = c.args.made.now in
    let i = c.loop-m.m-index in
    let k = c.loop-m.literals in
    behind_all c.args.body.now c.loop-m.body (gives t.target k (map made_of (drop i ms))) (gives t.target 0 (map made_of ms))
    (ap (λ (l : List Made). gives t.target k (map made_of l)) (drop_all i ms c.loop-m-test.false)) c.loop-m.invariant
