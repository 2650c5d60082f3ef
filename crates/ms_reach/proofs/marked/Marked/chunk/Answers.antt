use Rattle.std.proofs.Common.{Bool, List, length, sym, ap, subst, arith}
use Rattle.ms_reach.specs.declared.chunks.Chunk.{Chunk}
use Rattle.ms_reach.specs.refinement.Chunks.{IsChunk, flags_of}
use Rattle.ms_reach.proofs.Chunking.{chunk_is, flags_length}
use Rattle.ms_reach.proofs.marked.Marked.chunk.Goals as goal

pub overflow_cast-n : goal.overflow_cast-n
overflow_cast-n c = omega (arith, c.requires, ap (λ (bs : List Bool). length bs) c.self.view_is, flags_length c.self.inside.chunks c.self.inside.len, c.self.invariant.2)

pub returns-clause-few : goal.returns-clause-few
returns-clause-few c = omega (arith, c.requires, ap (λ (bs : List Bool). length bs) c.self.view_is, flags_length c.self.inside.chunks c.self.inside.len, c.self.invariant.2)

pub returns-clause-chunk : goal.returns-clause-chunk
returns-clause-chunk c =
    let flags = flags_of c.self.inside.chunks c.self.inside.len in
    let is = chunk_is c.self.inside.chunks c.self.inside.len c.args.n c.self.invariant.0 in
    subst (λ (bs : List Bool). IsChunk bs c.args.n c.get.result) c.self.view_is (subst (λ (h : Chunk). IsChunk flags c.args.n h) (sym c.get.ensures) is)
