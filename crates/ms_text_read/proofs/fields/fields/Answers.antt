use Rattle.std.proofs.Common.{◌≡◌, List, ap, inl, inr, Ok, Err, Result}
use Rattle.ms_text_grammar.specs.declared.fault.TextFault.{TextFault}
use Rattle.ms_text_grammar.specs.declared.surface.Field.{Field}
use Rattle.ms_text_read.proofs.Stops.{is_first, no_answer, one_answer, stops_none}
use Rattle.ms_text_read.proofs.fields.fields.Goals as goal

abbrev answered : TextFault → Result (List Field) TextFault
answered e = Err e

abbrev given : List Field → Result (List Field) TextFault
given f = Ok f

pub returns-in-Ok-clause-only : goal.returns-in-Ok-clause-only
returns-in-Ok-clause-only c = λ f h. inl (ap given (one_answer c.args.source.now c.args.tokens.now c.in-Ok.fields f c.in-Ok.ensures h))

pub returns-in-Ok-clause-stops : goal.returns-in-Ok-clause-stops
returns-in-Ok-clause-stops c = λ f h. absurd (stops_none c.args.source.now c.args.tokens.now c.in-Ok.fields f c.in-Ok.ensures h)

pub returns-in-Err-clause-only : goal.returns-in-Err-clause-only
returns-in-Err-clause-only c = λ f h. inr (ap answered (no_answer c.args.source.now c.args.tokens.now c.in-Err.fault f c.in-Err.ensures h))

pub returns-in-Err-clause-stops : goal.returns-in-Err-clause-stops
returns-in-Err-clause-stops c = λ f h.
    elim (is_first c.args.source.now c.args.tokens.now c.in-Err.fault f c.in-Err.ensures h) [
      | inl e ↦ inl (ap answered e)
      | inr e ↦ inr (ap answered e)
    ]
