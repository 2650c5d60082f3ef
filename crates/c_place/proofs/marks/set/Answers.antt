use Rattle.std.proofs.Common.{arith}
use Rattle.c_place.proofs.Marking.{before, set_is}
use Rattle.c_place.proofs.marks.set.Goals as goal

pub returns-then-place-len : goal.returns-then-place-len
returns-then-place-len c = set_is c.args.n c.args.flags.now.items

pub returns-else-place-len : goal.returns-else-place-len
returns-else-place-len c =
    let past = c.if-place-len.false in
    let len = c.len.ensures in before c.args.n 0 c.args.flags.now.items (omega (arith, past, len))
