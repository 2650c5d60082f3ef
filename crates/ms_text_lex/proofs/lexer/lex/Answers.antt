use Rattle.ms_text_lex.proofs.Spans.{is_found, one, rise}
use Rattle.ms_text_lex.proofs.StringValues.{have_values}
use Rattle.ms_text_lex.proofs.lexer.lex.Goals as goal

pub returns-in-Ok-clause-found : goal.returns-in-Ok-clause-found
returns-in-Ok-clause-found c =
    let e = rw c.new-c.ensures at c.in-Ok.ensures.0 in
    is_found c.args.source.now c.in-Ok.tokens c.lexemes.new.c.left e

pub returns-in-Ok-clause-rises : goal.returns-in-Ok-clause-rises
returns-in-Ok-clause-rises c = rise c.args.source.now

pub returns-in-Err-clause-rises : goal.returns-in-Err-clause-rises
returns-in-Err-clause-rises c = rise c.args.source.now

pub returns-in-Ok-clause-one : goal.returns-in-Ok-clause-one
returns-in-Ok-clause-one c = one c.args.source.now

pub returns-in-Err-clause-one : goal.returns-in-Err-clause-one
returns-in-Err-clause-one c = one c.args.source.now

pub returns-in-Ok-clause-strings : goal.returns-in-Ok-clause-strings
returns-in-Ok-clause-strings c = have_values c.args.source.now

pub returns-in-Err-clause-strings : goal.returns-in-Err-clause-strings
returns-in-Err-clause-strings c = have_values c.args.source.now
