use Rattle.std.proofs.Common.{◌∙◌, ◌+◌, ap, drop, map}
use Rattle.std.proofs.lemmas.List.{drop_all}
use Rattle.c_typed.specs.refinement.Views.{made_of}
use Rattle.c_code.specs.Uses.{in_made}
use Rattle.c_place.proofs.Marking.{ahead}
use Rattle.c_emit.specs.refinement.Found.{found, in_one, with_uses}
use Rattle.c_emit.proofs.Using.{found_end, found_step, made_is}
use Rattle.c_emit.proofs.uses.in_made.Goals as goal

pub loop-m-preserved : goal.loop-m-preserved
loop-m-preserved c =
    let ms = c.args.made.now in
    let i = c.loop-m.m-index in
    let m = c.m-item.result in
    found_step c.args.structs.now (in_one (made_of m)) (in_made (map made_of (drop (i + 1) ms))) (in_made (map made_of (drop i ms)))
    (found c.loop-m.uses) (found c.in_one.new.uses) (with_uses c.args.structs.now (in_made (map made_of ms)) (found c.args.uses.now))
    (ap (λ l. in_made (map made_of l)) (ahead ms i m c.loop-m-test.true c.m-item.is) ∙ made_is (made_of m) (map made_of (drop (i + 1) ms)))
    c.in_ok-in_one.ensures c.loop-m.invariant

pub returns : goal.returns
returns c =
    let ms = c.args.made.now in
    let i = c.loop-m.m-index in
    found_end c.args.structs.now (in_made (map made_of (drop i ms))) (in_made (map made_of ms)) (found c.args.uses.now) (found c.loop-m.uses)
    (ap (λ l. in_made (map made_of l)) (drop_all i ms c.loop-m-test.false)) c.loop-m.invariant
