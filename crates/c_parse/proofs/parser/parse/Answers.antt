use Rattle.c_parse.proofs.Stopping.{only_one, stop_given}
use Rattle.c_parse.proofs.parser.parse.Goals as goal

pub returns-clause-only : goal.returns-clause-only
returns-clause-only c = λ u p. only_one c.args.tokens.now c.args.end c.unit_of.result u c.unit_of.ensures p

pub returns-clause-stops : goal.returns-clause-stops
returns-clause-stops c = λ e s. stop_given c.args.tokens.now c.args.end c.unit_of.result e c.unit_of.ensures s
