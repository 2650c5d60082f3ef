use Rattle.std.proofs.Common.{length, subst}
use Rattle.c_parse.specs.Units as parsing
use Rattle.c_parse.specs.declared.fault.CParse.TheVariants as faults
use Rattle.ms_run.specs.Source.{no_unit}
use Rattle.ms_run.proofs.source.of_parsing.Goals as goal

pub returns-in-Syntax : goal.returns-in-Syntax
returns-in-Syntax c = λ bytes tokens lexes h. no_unit tokens (faults.Syntax c.in-Syntax.at) lexes (subst (parsing.Tells tokens (length bytes)) c.in-Syntax.is h)

pub returns-in-TooDeep : goal.returns-in-TooDeep
returns-in-TooDeep c = λ bytes tokens lexes h. no_unit tokens (faults.TooDeep c.in-TooDeep.at) lexes (subst (parsing.Tells tokens (length bytes)) c.in-TooDeep.is h)
