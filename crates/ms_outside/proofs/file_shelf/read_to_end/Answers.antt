use Rattle.std.proofs.Common.{◌++◌, take, arith}
use Rattle.std.proofs.lemmas.Grind.{common_steps}
use Rattle.ms_outside.proofs.Adapters.{Consumes-then}
use Rattle.ms_outside.proofs.file_shelf.read_to_end.Goals as goal

pub returns-then-is_err-clause-reads : goal.returns-then-is_err-clause-reads
returns-then-is_err-clause-reads g c = (
  c.loop-chunk.bytes.items ++ take c.in-Ok.n c.read.new.buf,
  grind (arith, common_steps, c.loop-chunk.bytes.ok.0),
  Consumes-then _ _ _ _ _ c.loop-chunk.invariant.reads c.in-Ok.ensures.bytes.0,
)
