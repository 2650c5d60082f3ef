use Rattle.std.proofs.Common.{true}
use Rattle.ms_reach.proofs.Chunking.{run_flags}
use Rattle.ms_reach.proofs.marked.Marked.past_marked.Goals as goal

pub returns-clause-marked : goal.returns-clause-marked
returns-clause-marked c = run_flags true c.args.self.now c.args.at c.unmarked.result c.chunk-chunk.result c.chunk-chunk.ensures.chunk c.unmarked.ensures.to c.unmarked.ensures.marked
