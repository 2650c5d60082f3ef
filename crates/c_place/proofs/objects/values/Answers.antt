use Rattle.std.proofs.Common.{◌+◌, drop}
use Rattle.std.proofs.lemmas.List.{drop_all}
use Rattle.c_meaning.specs.Units.{in_values}
use Rattle.c_typed.specs.refinement.Views.{list_of}
use Rattle.c_place.specs.refinement.Marks.{marked_from}
use Rattle.c_place.proofs.Marking.{ahead, values_end, values_step}
use Rattle.c_place.proofs.objects.values.Goals as goal

pub loop-s-preserved : goal.loop-s-preserved
loop-s-preserved c =
    let ss = c.args.ss.now in
    let i = c.loop-s.s-index in
    let s = c.s-item.result in
    let all = marked_from 0 (λ n. in_values n (list_of ss)) c.args.marks.now.globals in
    values_step c.loop-s.marks c.stmt.new.marks all s (drop (i + 1) ss) (drop i ss) (ahead ss i s c.loop-s-test.true c.s-item.is) c.stmt.ensures
    c.loop-s.invariant.0 c.loop-s.invariant.1

pub returns-clause-globals : goal.returns-clause-globals
returns-clause-globals c =
    let ss = c.args.ss.now in
    let i = c.loop-s.s-index in
    let all = marked_from 0 (λ n. in_values n (list_of ss)) c.args.marks.now.globals in
    values_end c.loop-s.marks.globals all (drop i ss) (drop_all i ss c.loop-s-test.false) c.loop-s.invariant.1
