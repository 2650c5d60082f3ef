use Rattle.ms_leb.specs.Leb128.{signed_at}
use Rattle.ms_leb.proofs.Reading.{is_short, short_signed, signed_found, signed_only, signed_short, was_short}
use Rattle.ms_leb.proofs.read.read_s.Goals as goal

pub returns-clause-found : goal.returns-clause-found
returns-clause-found c = signed_found c.args.bits c.args.c.now c.signed_of.new.c c.signed_of.result c.signed_of.ensures.value

pub returns-clause-only : goal.returns-clause-only
returns-clause-only c = signed_only c.args.bits c.args.c.now c.signed_of.new.c c.signed_of.result c.signed_of.ensures.value

pub returns-clause-short : goal.returns-clause-short
returns-clause-short c =
    let old = c.args.c.now in
    let new = c.signed_of.new.c in
    let read = signed_at c.args.bits old.left in (
      (λ e. signed_short c.args.bits old.left c.requires.some (is_short old new c.signed_of.result read c.signed_of.ensures.value e)),
      (λ h. was_short old new c.signed_of.result read c.signed_of.ensures.value (short_signed c.args.bits old.left h)),
    )
