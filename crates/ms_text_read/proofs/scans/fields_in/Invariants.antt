use Rattle.std.proofs.Common.{◌≡◌, ◌++◌, length}
use Rattle.ms_text_grammar.specs.Scans.{fields_in}
use Rattle.ms_text_read.proofs.scans.fields_in.Given as goal

abbrev pub invariant-loop-left : goal.invariant-loop-left
invariant-loop-left l = l.fields ++ fields_in l.source l.left ≡ fields_in l.fn.source l.fn.tokens

abbrev pub decreases-loop-left : goal.decreases-loop-left
decreases-loop-left l = length l.left
