use Rattle.std.proofs.Common.{◌≡◌, ◌/◌, ◌%◌, Some, Bool, List, true, false, slice_get, slice_set, sym, ap, subst, arith}
use Rattle.ms_reach.specs.declared.chunks.Chunk.{Chunk}
use Rattle.ms_reach.specs.refinement.Chunks.{MarksOne, flags_of}
use Rattle.ms_reach.specs.refinement.Marking.{trues}
use Rattle.ms_reach.proofs.Chunking.{at_few, flags_length, flags_more, passes_more}
use Rattle.ms_reach.proofs.Marks.{trues_less, trues_more}
use Rattle.ms_reach.proofs.marked.Marked.mark.Goals as goal

pub overflow_add-count : goal.overflow_add-count
overflow_add-count c =
    let flags = flags_of c.self.inside.chunks c.self.inside.len in
    let here = subst (λ (bs : List Bool). slice_get bs c.args.at ≡ Some false) (sym c.self.view_is) c.requires in
    omega (arith, trues_less flags c.args.at here, flags_length c.self.inside.chunks c.self.inside.len, c.self.invariant.1, c.self.invariant.2)

pub overflow_cast-n : goal.overflow_cast-n
overflow_cast-n c = omega (arith, at_few c.self.inside.chunks c.self.inside.len c.args.at false c.args.self.now c.self.view_is c.self.invariant.2 c.requires)

pub with-chunk-requires-clause-number : goal.with-chunk-requires-clause-number
with-chunk-requires-clause-number c = omega (arith, at_few c.self.inside.chunks c.self.inside.len c.args.at false c.args.self.now c.self.view_is c.self.invariant.2 c.requires)

pub invariant_of-self-2 : goal.invariant_of-self-2
invariant_of-self-2 c =
    let old = c.self.inside.chunks in
    let len = c.self.inside.len in
    let here = subst (λ (bs : List Bool). slice_get bs c.args.at ≡ Some false) (sym c.self.view_is) c.requires in
    let one = subst (λ (h : Chunk). MarksOne (c.args.at / 64) h (c.args.at % 64) c.with-chunk.result) c.get.ensures c.with-chunk.ensures in
    let more = flags_more old c.set.new.self len c.args.at c.with-chunk.result one c.in_ok-set.ensures.ok in (
      passes_more old c.set.new.self len c.args.at c.with-chunk.result one c.in_ok-set.ensures.ok c.self.invariant.0,
      omega (arith, trues_more (flags_of old len) c.args.at here, ap trues more, c.self.invariant.1),
      c.self.invariant.2,
    )

pub returns-clause-ok : goal.returns-clause-ok
returns-clause-ok c =
    let old = c.self.inside.chunks in
    let len = c.self.inside.len in
    let one = subst (λ (h : Chunk). MarksOne (c.args.at / 64) h (c.args.at % 64) c.with-chunk.result) c.get.ensures c.with-chunk.ensures in
    subst (λ (bs : List Bool). flags_of c.set.new.self len ≡ slice_set bs c.args.at true) c.self.view_is (flags_more old c.set.new.self len c.args.at c.with-chunk.result one c.in_ok-set.ensures.ok)
