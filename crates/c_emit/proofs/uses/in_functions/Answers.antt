use Rattle.std.proofs.Common.{◌∙◌, ◌+◌, ap, drop, map}
use Rattle.std.proofs.lemmas.List.{drop_all}
use Rattle.c_typed.specs.refinement.Views.{body_of, function_of}
use Rattle.c_code.specs.Uses.{in_body, in_functions}
use Rattle.c_place.proofs.Marking.{ahead}
use Rattle.c_emit.specs.refinement.Found.{found, with_uses}
use Rattle.c_emit.proofs.Using.{found_end, found_step}
use Rattle.c_emit.proofs.uses.in_functions.Goals as goal

pub loop-f-preserved : goal.loop-f-preserved
loop-f-preserved c =
    let fs = c.args.fs.now in
    let i = c.loop-f.f-index in
    let f = c.f-item.result in
    found_step c.args.structs.now (in_body (body_of f.body)) (in_functions (map function_of (drop (i + 1) fs))) (in_functions (map function_of (drop i fs)))
    (found c.loop-f.uses) (found c.in_body.new.uses) (with_uses c.args.structs.now (in_functions (map function_of fs)) (found c.args.uses.now))
    (ap (λ l. in_functions (map function_of l)) (ahead fs i f c.loop-f-test.true c.f-item.is))
    c.in_ok-in_body.ensures c.loop-f.invariant

pub returns : goal.returns
returns c =
    let fs = c.args.fs.now in
    let i = c.loop-f.f-index in
    found_end c.args.structs.now (in_functions (map function_of (drop i fs))) (in_functions (map function_of fs)) (found c.args.uses.now) (found c.loop-f.uses)
    (ap (λ l. in_functions (map function_of l)) (drop_all i fs c.loop-f-test.false)) c.loop-f.invariant
