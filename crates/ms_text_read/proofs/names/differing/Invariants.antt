use Rattle.std.proofs.Common.{◌≡◌, drop}
use Rattle.ms_text_grammar.specs.Scans.{differing}
use Rattle.ms_text_read.proofs.names.differing.Given as goal

abbrev pub invariant-loop-placed : goal.invariant-loop-placed
invariant-loop-placed l = differing l.source l.fields (drop l.placed-index l.uses) ≡ differing l.source l.fields l.uses
