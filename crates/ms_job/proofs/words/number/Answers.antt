-- A byte that is no digit, or a number that grew too large, leaves no number in the range.
use Rattle.std.proofs.Common.{◌∙◌, sym}
use Rattle.ms_job.proofs.NumberLaws.{number_within-stops}
use Rattle.ms_job.proofs.words.number.Goals as goal

pub returns-in_err-value-clause-value : goal.returns-in_err-value-clause-value
returns-in_err-value-clause-value c =
    let stops = number_within-stops c.args.low c.args.high c.loop-byte.value c.loop-byte.byte-index c.args.word.now c.loop-byte.invariant in
    c.from_residual.ensures ∙ sym (stops c.loop-byte-test.true c.in_err-value.ensures c.ranges.high.fits)
