use Rattle.std.proofs.Common.{◌≡◌, ◌++◌, drop}
use Rattle.ms_text_grammar.specs.ResolvedParts.{inline_exports}
use Rattle.ms_text_resolve.proofs.exports.add_inline.Given as goal

abbrev pub invariant-loop-name : goal.invariant-loop-name
invariant-loop-name l = l.exports ++ inline_exports l.source (drop l.name-index l.names) l.desc ≡ l.initial.exports ++ inline_exports l.source l.names l.desc
