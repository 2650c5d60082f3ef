use Rattle.std.proofs.Common.{◌≡◌, ◌+◌, ◌++◌, ◌∷◌, [], ◌∙◌, drop, get_or, arith}
use Rattle.std.proofs.Math.ListN.{drop_of_length-le}
use Rattle.std.proofs.lemmas.List.{drop_more}
use Rattle.std.proofs.lemmas.Result.{err_from_is_err_and}
use Rattle.ms_bin_grammar.specs.Bounds.{usual}
use Rattle.ms_bin_grammar.specs.Module.{func}
use Rattle.ms_bin_grammar.specs.Sizes.{sized}
use Rattle.ms_bin_read.proofs.Loops.{each_done, each_fails, each_goes}
use Rattle.ms_bin_read.proofs.funcs.each_func.Goals as goal

pub returns-in_err-sized_func_of : goal.returns-in_err-sized_func_of
returns-in_err-sized_func_of c =
    let p = err_from_is_err_and c.from_residual.result c.from_residual.ensures.1 in
    let l = c.loop-sig in
    let indices = c.args.sigs.now in
    let next = drop_more indices l.sig-index 0 c.loop-sig-test.true in
    rw (p.1, p.2) (each_fails (λ sig. sized (func usual sig)) l.funcs (get_or indices l.sig-index 0) (drop (l.sig-index + 1) indices) (drop l.sig-index indices) l.c.end l.c.left _ l.invariant.so_far c.in_err-sized_func_of.field-0.0 next c.in_err-sized_func_of.ensures)

pub loop-sig-preserved : goal.loop-sig-preserved
loop-sig-preserved c =
    let l = c.loop-sig in
    let indices = c.args.sigs.now in
    let next = drop_more indices l.sig-index 0 c.loop-sig-test.true in
    let r = c.in_ok-sized_func_of.ensures in
    let e : c.push.new.self ≡ l.funcs ++ c.in_ok-sized_func_of.field-0 ∷ [] = grind arith in
    record {
      so_far = rw (e, r.1) (each_goes (λ sig. sized (func usual sig)) l.funcs (get_or indices l.sig-index 0) (drop (l.sig-index + 1) indices) (drop l.sig-index indices) l.c.end l.c.left _ l.invariant.so_far c.in_ok-sized_func_of.field-0 c.sized_func_of.new.c.left next r.0);
      same_end = r.1 ∙ l.invariant.same_end;
    }

pub returns : goal.returns
returns c =
    let l = c.loop-sig in
    let indices = c.args.sigs.now in
    (each_done (λ sig. sized (func usual sig)) l.funcs (drop l.sig-index indices) l.c.end l.c.left _ l.invariant.so_far (drop_of_length-le indices c.loop-sig-test.false), l.invariant.same_end)
