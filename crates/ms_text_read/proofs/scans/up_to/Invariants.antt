use Rattle.std.proofs.Common.{◌≡◌, ◌++◌, take, drop}
use Rattle.ms_text_grammar.specs.Scans.{up_to}
use Rattle.ms_text_read.proofs.scans.up_to.Given as goal

abbrev pub invariant-loop-i : goal.invariant-loop-i
invariant-loop-i l = take l.i l.tokens ++ up_to l.at (drop l.i l.tokens) ≡ up_to l.at l.tokens
