use Rattle.std.proofs.Common.{◌+◌, inl, inr, refl}
use Rattle.ms_reach.proofs.Chunking.{marks_one}
use Rattle.ms_reach.proofs.chunks.Chunk.with.Goals as goal

pub returns-then-flags : goal.returns-then-flags
returns-then-flags c = marks_one c.args.n c.args.self c.args.i (c.args.n + 1) c.requires.place (inr (refl, c.if-flags.true))

pub returns : goal.returns
returns c = marks_one c.args.n c.args.self c.args.i c.args.self.next c.requires.place (inl refl)
