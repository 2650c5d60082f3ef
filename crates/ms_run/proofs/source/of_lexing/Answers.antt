use Rattle.std.proofs.Common.{subst}
use Rattle.c_lex.specs.Fault as faults
use Rattle.c_lex.specs.Readers.{FirstFault, fault_of}
use Rattle.ms_run.specs.Source.{no_tokens}
use Rattle.ms_run.proofs.source.of_lexing.Goals as goal

pub returns-in-Char : goal.returns-in-Char
returns-in-Char c = λ bytes h. no_tokens (faults.Char c.in-Char.at) (subst (λ e. FirstFault bytes (fault_of e)) c.in-Char.is h)

pub returns-in-Unclosed : goal.returns-in-Unclosed
returns-in-Unclosed c = λ bytes h. no_tokens (faults.Unclosed c.in-Unclosed.at) (subst (λ e. FirstFault bytes (fault_of e)) c.in-Unclosed.is h)

pub returns-in-Directive : goal.returns-in-Directive
returns-in-Directive c = λ bytes h. no_tokens (faults.Directive c.in-Directive.at) (subst (λ e. FirstFault bytes (fault_of e)) c.in-Directive.is h)

pub returns-in-TooBig : goal.returns-in-TooBig
returns-in-TooBig c = λ bytes h. no_tokens (faults.TooBig c.in-TooBig.at) (subst (λ e. FirstFault bytes (fault_of e)) c.in-TooBig.is h)
