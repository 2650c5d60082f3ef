use Rattle.std.proofs.Common.{◌≡◌, ◌++◌, drop}
use Rattle.ms_text_grammar.specs.Identifiers.{param_ids, repeats}
use Rattle.ms_text_names.proofs.names.enter_all.Given as goal

abbrev pub invariant-loop-param : goal.invariant-loop-param
invariant-loop-param l = record {
  ids : l.space.ids ++ param_ids (drop l.param-index l.params) ≡ l.initial.space.ids ++ param_ids l.params;
  wrongs : l.wrong.items ++ repeats l.initial.space.source l.space.ids (param_ids (drop l.param-index l.params)) ≡ l.initial.wrong.items ++ repeats l.initial.space.source l.initial.space.ids (param_ids l.params);
  source : l.space.source ≡ l.initial.space.source;
}
