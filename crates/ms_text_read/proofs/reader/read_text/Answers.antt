use Rattle.std.proofs.Common.{◌≡◌, List, [], sym, subst}
use Rattle.ms_text_lex.specs.declared.token.Token.{Token}
use Rattle.ms_text_lex.specs.Lexing.{Lexes}
use Rattle.ms_text_grammar.specs.declared.fault.TextFault.{TextFault}
use Rattle.ms_text_grammar.specs.declared.surface.Field.{Field}
use Rattle.ms_text_grammar.specs.TextSpells.{FieldsSpelled}
use Rattle.ms_text_grammar.proofs.Wholes.{file_is_whole}
use Rattle.ms_text_read.specs.Answers.{Tells}
use Rattle.ms_text_read.proofs.Texts.{lex_tells, name_tells, syntax_tells}
use Rattle.ms_text_read.proofs.reader.read_text.Goals as goal

pub returns-in-Err : goal.returns-in-Err
returns-in-Err c =
    let source = c.args.source.now in
    subst (λ (e : TextFault). Tells source e) (sym c.lexing_fault.ensures) (lex_tells source c.in-Err.fault c.in-Err.ensures.fault)

pub returns-in-Err-fields : goal.returns-in-Err-fields
returns-in-Err-fields c =
    let source = c.args.source.now in
    let tokens = c.as_slice.result.now in
    let lexed : Lexes source tokens = subst (λ (ts : List Token). Lexes source ts) (sym c.as_slice.ensures) c.in-Ok.ensures.found in
    syntax_tells source tokens c.in-Err-fields.fault lexed c.in-Err-fields.ensures.fault

pub resolve-requires : goal.resolve-requires
resolve-requires c =
    let source = c.args.source.now in
    let tokens = c.as_slice.result.now in
    let spelled : FieldsSpelled source tokens c.as_slice-2.result.now = subst (λ (fs : List Field). FieldsSpelled source tokens fs) (sym c.as_slice-2.ensures) c.in-Ok-fields.ensures.found in
    file_is_whole source tokens c.as_slice-2.result.now [] spelled.grammar

pub returns : goal.returns
returns c =
    let source = c.args.source.now in
    let tokens = c.as_slice.result.now in
    let lexed : Lexes source tokens = subst (λ (ts : List Token). Lexes source ts) (sym c.as_slice.ensures) c.in-Ok.ensures.found in
    let spelled = subst (λ (fs : List Field). FieldsSpelled source tokens fs) (sym c.as_slice-2.ensures) c.in-Ok-fields.ensures.found in
    name_tells source tokens c.as_slice-2.result.now c.in-Err-resolve.fault lexed spelled c.in-Err-resolve.ensures
