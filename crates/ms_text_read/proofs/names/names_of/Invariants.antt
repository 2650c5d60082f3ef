use Rattle.std.proofs.Common.{◌≡◌, drop}
use Rattle.ms_text_lex.specs.declared.token.Token.{Token}
use Rattle.ms_text_lex.specs.Tokens.{text_of}
use Rattle.ms_text_grammar.specs.Identifiers.{found}
use Rattle.ms_text_grammar.specs.FieldKinds.{type_ids}
use Rattle.ms_text_read.specs.refinement.Names.{look, or_else}
use Rattle.ms_text_read.proofs.names.names_of.Given as goal

abbrev pub invariant-loop-i : goal.invariant-loop-i
invariant-loop-i l = (name : Token) → or_else (look l.names (text_of l.source name)) (found l.source (type_ids (drop l.i l.fields)) name l.i) ≡ found l.source (type_ids l.fields) name 0
