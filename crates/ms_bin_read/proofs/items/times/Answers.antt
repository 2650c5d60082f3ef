use Rattle.std.proofs.Common.{◌≡◌, ◌++◌, ◌∷◌, [], ◌∙◌, arith}
use Rattle.std.proofs.lemmas.Result.{err_from_is_err_and}
use Rattle.ms_bin_read.proofs.Loops.{times_fails, times_goes, times_done}
use Rattle.ms_bin_read.proofs.items.times.Goals as goal

pub returns-in_err-read : goal.returns-in_err-read
returns-in_err-read g c =
    let p = err_from_is_err_and c.from_residual.result c.from_residual.ensures.1 in
    let l = c.loop in
    rw (p.1, p.2) (times_fails g.T.Item.format l.items c.args.count l.counter l.c.end l.c.left _ l.invariant.so_far c.in_err-read.field-0.0 c.loop-test.true c.in_err-read.ensures)

pub loop-preserved : goal.loop-preserved
loop-preserved g c =
    let l = c.loop in
    let e : c.push.new.self ≡ l.items ++ c.in_ok-read.field-0 ∷ [] = grind arith in
    record {
      so_far = rw (e, c.in_ok-read.ensures.1) (times_goes g.T.Item.format l.items c.args.count l.counter l.c.end l.c.left _ l.invariant.so_far c.in_ok-read.field-0 c.read.new.c.left c.loop-test.true c.in_ok-read.ensures.0);
      same_end = c.in_ok-read.ensures.1 ∙ l.invariant.same_end;
    }

pub returns : goal.returns
returns g c =
    let l = c.loop in
    (times_done g.T.Item.format l.items c.args.count l.counter l.c.end l.c.left _ l.invariant.so_far c.loop-test.false, l.invariant.same_end)
