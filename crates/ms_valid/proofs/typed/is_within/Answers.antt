use Rattle.std.proofs.Common.{rules}
use Rattle.ms_valid.proofs.Parts.{too_great}
use Rattle.ms_valid.proofs.typed.is_within.Goals as goal

pub returns-else-align-lt32 : goal.returns-else-align-lt32
returns-else-align-lt32 c =
    (search rules, (λ m. absurd (too_great c.args.align c.args.bytes c.if-align-lt32.false c.ranges.bytes.fits m)))
