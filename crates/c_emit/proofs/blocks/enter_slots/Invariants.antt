use Rattle.std.proofs.Common.{drop}
use Rattle.c_code.specs.Statements as words
use Rattle.c_emit.proofs.Items.{IsLeft}
use Rattle.c_emit.proofs.blocks.enter_slots.Given as goal

abbrev pub invariant-loop-slot : goal.invariant-loop-slot
invariant-loop-slot l =
    let s = l.t in
    IsLeft l.fn.body l.body (words.enters s.target s.slots (drop l.slot-index l.slots)) (words.enters s.target s.slots l.slots)
