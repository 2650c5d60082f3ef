use Rattle.ms_leb.specs.Leb128.{unsigned_at}
use Rattle.ms_leb.proofs.Reading.{is_short, short_unsigned, unsigned_found, unsigned_only, unsigned_short, was_short}
use Rattle.ms_leb.proofs.read.read_u.Goals as goal

pub returns-clause-found : goal.returns-clause-found
returns-clause-found c = unsigned_found c.args.bits c.args.c.now c.unsigned_of.new.c c.unsigned_of.result c.unsigned_of.ensures.value

pub returns-clause-only : goal.returns-clause-only
returns-clause-only c = unsigned_only c.args.bits c.args.c.now c.unsigned_of.new.c c.unsigned_of.result c.unsigned_of.ensures.value

pub returns-clause-short : goal.returns-clause-short
returns-clause-short c =
    let old = c.args.c.now in
    let new = c.unsigned_of.new.c in
    let read = unsigned_at c.args.bits old.left in (
      (λ e. unsigned_short c.args.bits old.left c.requires.some (is_short old new c.unsigned_of.result read c.unsigned_of.ensures.value e)),
      (λ h. was_short old new c.unsigned_of.result read c.unsigned_of.ensures.value (short_unsigned c.args.bits old.left h)),
    )
