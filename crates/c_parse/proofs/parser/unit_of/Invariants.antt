use Rattle.c_parse.proofs.Parsing.{StandsAt}
use Rattle.c_parse.proofs.parser.unit_of.Given as goal

abbrev pub invariant-loop-token : goal.invariant-loop-token
invariant-loop-token l = StandsAt l.tokens l.token-index l.parser
