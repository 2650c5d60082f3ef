use Rattle.std.proofs.Common.{false}
use Rattle.ms_reach.proofs.Chunking.{run_flags}
use Rattle.ms_reach.proofs.marked.Marked.past_unmarked.Goals as goal

pub returns-clause-unmarked : goal.returns-clause-unmarked
returns-clause-unmarked c = run_flags false c.args.self.now c.args.at c.marked.result c.chunk-chunk.result c.chunk-chunk.ensures.chunk c.marked.ensures.to c.marked.ensures.unmarked
