use Rattle.std.proofs.Common.{◌≡◌, ◌++◌, drop}
use Rattle.ms_text_grammar.specs.Identifiers.{each, resolved}
use Rattle.ms_text_names.proofs.names.all_resolved.Given as goal

abbrev pub invariant-loop-index : goal.invariant-loop-index
invariant-loop-index l = record {
  values : l.numbers ++ (each (resolved l.space.source l.space.ids) (drop l.index-index l.indices)).value ≡ (each (resolved l.space.source l.space.ids) l.indices).value;
  wrongs : l.wrong.items ++ (each (resolved l.space.source l.space.ids) (drop l.index-index l.indices)).wrong ≡ l.initial.wrong.items ++ (each (resolved l.space.source l.space.ids) l.indices).wrong;
}
