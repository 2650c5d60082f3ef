use Rattle.std.proofs.Common.{◌≡◌, drop}
use Rattle.c_code.specs.Statements as words
use Rattle.c_code.specs.Targets.{Target, scratch_handle}
use Rattle.c_emit.proofs.Items.{IsLeft}
use Rattle.c_emit.proofs.blocks.put_each.Given as goal

abbrev pub invariant-loop-byte : goal.invariant-loop-byte
invariant-loop-byte l =
    (l.i ≡ l.byte-index) × ((site : Target) → l.handle ≡ scratch_handle site → IsLeft l.fn.body l.body (words.bytes_put site l.i (drop l.i l.bytes)) (words.bytes_put site 0 l.bytes))
