use Rattle.std.proofs.Common.{◌≡◌, drop}
use Rattle.ms_text_grammar.specs.Identifiers.{found}
use Rattle.ms_text_names.proofs.labels.found.Given as goal

abbrev pub invariant-loop-depth : goal.invariant-loop-depth
invariant-loop-depth l = found l.source (drop l.depth l.labels) l.id l.depth ≡ found l.source l.labels l.id 0
