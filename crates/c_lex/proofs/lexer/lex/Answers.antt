use Rattle.c_lex.proofs.Ends.{is_found}
use Rattle.c_lex.proofs.Rising.{rise}
use Rattle.c_lex.proofs.lexer.lex.Goals as goal

pub returns-in-Ok-clause-found : goal.returns-in-Ok-clause-found
returns-in-Ok-clause-found c =
    let e = rw c.new-c.ensures at c.in-Ok.ensures.read in
    is_found c.args.bytes.now c.in-Ok.tokens.items c.token_list.new.c.left e

pub returns-in-Ok-clause-rises : goal.returns-in-Ok-clause-rises
returns-in-Ok-clause-rises c = rise c.args.bytes.now

pub returns-in-Err-clause-rises : goal.returns-in-Err-clause-rises
returns-in-Err-clause-rises c = rise c.args.bytes.now
