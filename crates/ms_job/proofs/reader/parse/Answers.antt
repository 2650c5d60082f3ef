-- The job is that of the text, and so within the bounds.
use Rattle.std.proofs.Common.{◌∙◌, ap, sym}
use Rattle.ms_job.specs.Jobs.{checked}
use Rattle.ms_job.proofs.Bounded.{answer_is_bounded}
use Rattle.ms_job.proofs.reader.parse.Goals as goal

pub returns-clause-bounds : goal.returns-clause-bounds
returns-clause-bounds c = answer_is_bounded c.args.text.now c.finish.result (ap checked c.in_ok-draft.ensures ∙ sym c.finish.ensures)
