use Rattle.std.proofs.Common.{drop, length, reverse, take}
use Rattle.c_code.specs.Statements as words
use Rattle.c_emit.proofs.Items.{IsLeft}
use Rattle.c_emit.proofs.exits.free_last.Given as goal

abbrev pub invariant-loop-v : goal.invariant-loop-v
invariant-loop-v l =
    let s = l.t in
    let all = take l.count (reverse l.objects) in
    IsLeft l.fn.body l.body (words.freed s.target (drop (length l.yielded) all)) (words.freed s.target all)
