use Rattle.c_emit.proofs.Using.{flag_set, no_flag}
use Rattle.std.proofs.Common.{arith}
use Rattle.c_emit.proofs.uses.set.Goals as goal

pub returns-then-place-len : goal.returns-then-place-len
returns-then-place-len c = flag_set c.args.number c.args.flags.now.items

pub returns-else-place-len : goal.returns-else-place-len
returns-else-place-len c =
    let past = c.if-place-len.false in
    let len = c.len.ensures in no_flag c.args.number c.args.flags.now.items (omega (arith, past, len))
