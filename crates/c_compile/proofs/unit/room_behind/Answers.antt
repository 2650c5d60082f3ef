use Rattle.std.proofs.Common.{◌≡◌, length, ap, arith}
use Rattle.ms_module.specs.Numbered.{sequence_at}
use Rattle.c_compile.proofs.Modules.{instructions-from}
use Rattle.c_compile.proofs.unit.room_behind.Goals as goal

pub loop-n-preserved : goal.loop-n-preserved
loop-n-preserved c =
    let code = c.args.code.now in
    let n = c.loop-n.n in
    let here : length c.sequence.result.now ≡ length (sequence_at code n) = ap (λ is. length is) c.sequence.ensures.instrs in
    let from = instructions-from code n (omega (arith, c.loop-n-test.true, c.loop-n.auto.n-end, c.len-n-end.ensures.len)) in omega (arith, c.in_ok-left.ensures, here, from, c.loop-n.invariant)
