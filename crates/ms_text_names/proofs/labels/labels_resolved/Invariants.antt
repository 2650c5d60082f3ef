use Rattle.std.proofs.Common.{◌≡◌, ◌++◌, drop}
use Rattle.ms_text_grammar.specs.Identifiers.{each, resolved}
use Rattle.ms_text_names.proofs.labels.labels_resolved.Given as goal

abbrev pub invariant-loop-index : goal.invariant-loop-index
invariant-loop-index l = record {
  values : l.numbers.items ++ (each (resolved l.source l.labels) (drop l.index-index l.indices)).value ≡ (each (resolved l.source l.labels) l.indices).value;
  wrongs : l.wrong.items ++ (each (resolved l.source l.labels) (drop l.index-index l.indices)).wrong ≡ l.initial.wrong.items ++ (each (resolved l.source l.labels) l.indices).wrong;
}
