use Rattle.std.proofs.Common.{◌≡◌, ◌++◌, drop}
use Rattle.ms_text_grammar.specs.Identifiers.{each}
use Rattle.ms_text_grammar.specs.TypeUses.{use_index}
use Rattle.ms_text_resolve.proofs.body.use_indices.Given as goal

abbrev pub invariant-loop-sig : goal.invariant-loop-sig
invariant-loop-sig l =
    let left = each (use_index l.context.source l.context.scope) (drop l.sig-index l.uses) in
    let all = each (use_index l.context.source l.context.scope) l.uses in
    record {
      values : l.indices.items ++ left.value ≡ all.value;
      wrongs : l.wrong.items ++ left.wrong ≡ l.initial.wrong.items ++ all.wrong;
    }
