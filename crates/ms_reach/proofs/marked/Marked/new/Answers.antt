use Rattle.std.proofs.Common.{sym, ap, ◌∙◌}
use Rattle.ms_reach.specs.refinement.Chunks.{flags_of}
use Rattle.ms_reach.specs.refinement.Marking.{trues}
use Rattle.ms_reach.proofs.Chunking.{flags_none, passes_none}
use Rattle.ms_reach.proofs.Marks.{trues_none}
use Rattle.ms_reach.proofs.marked.Marked.new.Goals as goal

pub invariant_of-result : goal.invariant_of-result
invariant_of-result c = (
  passes_none c.new.result (flags_of c.new.result c.args.n) c.new.ensures,
  sym (ap trues (flags_none c.new.result c.args.n c.new.ensures) ∙ trues_none c.args.n),
  c.ranges.n.fits,
)

pub returns : goal.returns
returns c = flags_none c.new.result c.args.n c.new.ensures
