use Rattle.std.proofs.Common.{◌+◌, drop, map}
use Rattle.std.proofs.lemmas.List.{drop_all}
use Rattle.c_meaning.specs.Units.{in_made}
use Rattle.c_typed.specs.refinement.Views.{made_of}
use Rattle.c_place.specs.refinement.Marks.{marked_from}
use Rattle.c_place.proofs.Marking.{ahead, made_end, made_step}
use Rattle.c_place.proofs.objects.made.Goals as goal

pub loop-m-preserved : goal.loop-m-preserved
loop-m-preserved c =
    let ms = c.args.made.now in
    let i = c.loop-m.m-index in
    let m = c.m-item.result in
    let all = marked_from 0 (λ n. in_made n (map made_of ms)) c.args.marks.now.globals in (
      c.one.ensures.locals,
      made_step c.loop-m.marks.globals c.one.new.marks.globals all m (drop (i + 1) ms) (drop i ms) (ahead ms i m c.loop-m-test.true c.m-item.is)
          c.one.ensures.globals c.loop-m.invariant.1,
    )

pub returns-clause-globals : goal.returns-clause-globals
returns-clause-globals c =
    let ms = c.args.made.now in
    let i = c.loop-m.m-index in
    let all = marked_from 0 (λ n. in_made n (map made_of ms)) c.args.marks.now.globals in
    made_end c.loop-m.marks.globals all (drop i ms) (drop_all i ms c.loop-m-test.false) c.loop-m.invariant.1
