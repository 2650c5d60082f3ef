use Rattle.std.proofs.Common.{◌≡◌, ◌++◌, drop}
use Rattle.ms_text_grammar.specs.ResolvedParts.{text_values}
use Rattle.ms_text_resolve.proofs.texts.text_values.Given as goal

abbrev pub invariant-loop-string : goal.invariant-loop-string
invariant-loop-string l = l.bytes.items ++ text_values l.source (drop l.string-index l.strings) ≡ text_values l.source l.strings
