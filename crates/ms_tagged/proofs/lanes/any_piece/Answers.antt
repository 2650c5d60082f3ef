use Rattle.std.proofs.Common.{◌||◌, ◌-◌, take, drop, ap, sym, ◌∙◌}
use Rattle.ms_tagged.specs.refinement.Lanes.{has_piece}
use Rattle.ms_tagged.proofs.Blocks.{has_piece-blocks}
use Rattle.ms_tagged.proofs.lanes.any_piece.Goals as goal

pub returns-then-any_block_set : goal.returns-then-any_block_set
returns-then-any_block_set c =
    let is = has_piece-blocks (take (c.args.to - c.args.from) (drop c.args.from c.args.masks.now)) c.as_chunks.result.1.now c.as_chunks.result.0.now c.any_block_set.result c.as_chunks.ensures.front c.as_chunks.ensures.back c.any_block_set.ensures in
    c.if-any_block_set.true ∙ (ap (λ b. b || has_piece c.as_chunks.result.1.now) (sym c.if-any_block_set.true) ∙ is)

pub returns-else-any_block_set : goal.returns-else-any_block_set
returns-else-any_block_set c =
    let is = has_piece-blocks (take (c.args.to - c.args.from) (drop c.args.from c.args.masks.now)) c.as_chunks.result.1.now c.as_chunks.result.0.now c.any_block_set.result c.as_chunks.ensures.front c.as_chunks.ensures.back c.any_block_set.ensures in
    c.any_set.ensures ∙ (ap (λ b. b || has_piece c.as_chunks.result.1.now) (sym c.if-any_block_set.false) ∙ is)
