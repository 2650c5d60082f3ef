use Rattle.c_types.proofs.Alignment.{round_up_least, round_up_most, round_up_whole}
use Rattle.c_types.proofs.laws.rounds_up.Goals as goal

pub returns-clause-whole : goal.returns-clause-whole
returns-clause-whole c = round_up_whole

pub returns-clause-reached : goal.returns-clause-reached
returns-clause-reached c = round_up_least

pub returns-clause-least : goal.returns-clause-least
returns-clause-least c = round_up_most
