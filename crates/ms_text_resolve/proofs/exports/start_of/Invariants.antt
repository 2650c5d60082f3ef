use Rattle.std.proofs.Common.{◌≡◌, ◌++◌, drop}
use Rattle.ms_text_grammar.specs.ResolvedParts.{starts_in}
use Rattle.ms_text_resolve.proofs.exports.start_of.Given as goal

abbrev pub invariant-loop-field : goal.invariant-loop-field
invariant-loop-field l =
    let left = starts_in l.context.source l.context.scope (drop l.field-index l.fields) in
    let all = starts_in l.context.source l.context.scope l.fields in
    record {
      values : left.value ≡ all.value;
      wrongs : l.wrong.items ++ left.wrong ≡ l.initial.wrong.items ++ all.wrong;
    }
