use Rattle.std.proofs.Common.{◌≡◌, ◌++◌, drop}
use Rattle.ms_text_grammar.specs.Identifiers.{repeats}
use Rattle.ms_text_names.proofs.gather.fill.Given as goal

abbrev pub invariant-loop-field : goal.invariant-loop-field
invariant-loop-field g l =
    let left = g.S.IndexSpace.ids l.entries (drop l.field-index l.fields) in
    let all = g.S.IndexSpace.ids l.entries l.fields in
    record {
      ids : l.space.ids ++ left ≡ l.initial.space.ids ++ all;
      wrongs : l.wrong.items ++ repeats l.initial.space.source l.space.ids left ≡ l.initial.wrong.items ++ repeats l.initial.space.source l.initial.space.ids all;
      source : l.space.source ≡ l.initial.space.source;
    }
