use Rattle.c_parse.proofs.Parsing.{begun_reads}
use Rattle.c_parse.proofs.parser.Parser.read.Goals as goal

pub returns-in_ok-done-in-Whole : goal.returns-in_ok-done-in-Whole
returns-in_ok-done-in-Whole c =
    let e = rw c.in-Whole.is at c.in_ok-goal.ensures in
    begun_reads c.args.self c.args.token.now c.in-Whole.specifier c.in-Whole.form c.in_ok-done-in-Whole.done c.begin.result e c.in_ok-done-in-Whole.ensures c.begin.ensures
