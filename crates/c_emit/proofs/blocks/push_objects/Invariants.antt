use Rattle.std.proofs.Common.{◌≡◌, ◌++◌, drop, length, reverse}
use Rattle.c_code.specs.Statements as words
use Rattle.c_emit.proofs.blocks.push_objects.Given as goal

abbrev pub invariant-loop-slot : goal.invariant-loop-slot
invariant-loop-slot l =
    let s = l.t in
    l.objects.items ++ words.objects_in s.target s.slots (drop (length l.yielded) (reverse l.slots))
    ≡ l.fn.objects.items ++ words.objects_in s.target s.slots (reverse l.slots)
