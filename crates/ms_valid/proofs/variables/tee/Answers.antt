use Rattle.ms_valid.proofs.Parts.{tees, tees_nothing}
use Rattle.ms_valid.proofs.variables.tee.Goals as goal

pub returns-then-not-take : goal.returns-then-not-take
returns-then-not-take c = tees_nothing c.args.local c.in-Some.ty c.in-Some.is c.if-not-take.ensures

pub returns-in_ok-give-in-Some : goal.returns-in_ok-give-in-Some
returns-in_ok-give-in-Some c = tees c.args.local c.in-Some.ty c.in-Some.is c.if-not-take.ensures c.in_ok-give-in-Some.ensures
