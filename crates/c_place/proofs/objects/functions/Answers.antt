use Rattle.std.proofs.Common.{◌+◌, drop, map}
use Rattle.std.proofs.lemmas.List.{drop_all}
use Rattle.c_meaning.specs.Units.{in_functions}
use Rattle.c_typed.specs.refinement.Views.{function_of}
use Rattle.c_place.specs.refinement.Flags.{of_function}
use Rattle.c_place.specs.refinement.Marks.{marked_from}
use Rattle.c_place.proofs.Marking.{ahead, flags_step, functions_end, functions_step}
use Rattle.c_place.proofs.objects.functions.Goals as goal

pub loop-f-preserved : goal.loop-f-preserved
loop-f-preserved c =
    let fs = c.args.fs.now in
    let i = c.loop-f.f-index in
    let f = c.f-item.result in
    let all = marked_from 0 (λ n. in_functions n (map function_of fs)) c.args.marks.now.globals in (
      flags_step c.loop-f.all.items c.push.new.self.items (map of_function (map function_of fs)) c.in_ok-function.field-0 f (drop (i + 1) fs) (drop i fs)
          (ahead fs i f c.loop-f-test.true c.f-item.is) c.in_ok-push.ensures.items c.in_ok-function.ensures.locals c.loop-f.invariant.0,
      functions_step c.loop-f.marks.globals c.function.new.marks.globals all f (drop (i + 1) fs) (drop i fs) (ahead fs i f c.loop-f-test.true c.f-item.is)
          c.in_ok-function.ensures.globals c.loop-f.invariant.1,
    )

pub returns-clause-globals : goal.returns-clause-globals
returns-clause-globals c =
    let fs = c.args.fs.now in
    let i = c.loop-f.f-index in
    let all = marked_from 0 (λ n. in_functions n (map function_of fs)) c.args.marks.now.globals in
    functions_end c.loop-f.marks.globals all (drop i fs) (drop_all i fs c.loop-f-test.false) c.loop-f.invariant.1
