use Rattle.std.proofs.Common.{ap, inl, inr, Ok, Err, Result}
use Rattle.ms_module.specs.declared.module.Module.{Module}
use Rattle.ms_text_grammar.specs.declared.fault.TextFault.{TextFault}
use Rattle.ms_text_read.proofs.Texts.{no_reason, tells_only, tells_stops}
use Rattle.ms_text_read.proofs.reader.read.Goals as goal
use Rattle.ms_text_grammar.proofs.Files.{one_module}

abbrev answered : TextFault → Result Module TextFault
answered e = Err e

abbrev given : Module → Result Module TextFault
given m = Ok m

pub returns-in-Ok-clause-only : goal.returns-in-Ok-clause-only
returns-in-Ok-clause-only c = λ m h. inl (ap given (one_module c.args.source.now c.in-Ok.module m c.in-Ok.ensures h))

pub returns-in-Ok-clause-stops : goal.returns-in-Ok-clause-stops
returns-in-Ok-clause-stops c = λ why h. absurd (no_reason c.args.source.now c.in-Ok.module why c.in-Ok.ensures h)

pub returns-in-Err-clause-only : goal.returns-in-Err-clause-only
returns-in-Err-clause-only c = λ m h. inr (ap answered (tells_only c.args.source.now c.in-Err.fault c.in-Err.ensures m h))

pub returns-in-Err-clause-stops : goal.returns-in-Err-clause-stops
returns-in-Err-clause-stops c = λ why h.
    elim (tells_stops c.args.source.now c.in-Err.fault c.in-Err.ensures why h) [
      | inl e ↦ inl (ap answered e)
      | inr e ↦ inr (ap answered e)
    ]
