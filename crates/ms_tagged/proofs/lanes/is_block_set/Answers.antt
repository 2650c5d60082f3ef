use Rattle.std.proofs.Common.{not, eqb, ap, ◌∙◌, w16, arith}
use Rattle.std.proofs.lemmas.Simd.{bitmask_splat}
use Rattle.ms_tagged.proofs.Blocks.{mask_l-any}
use Rattle.ms_tagged.proofs.lanes.is_block_set.Goals as goal

pub returns : goal.returns
returns c = ap (λ n. not (eqb n 0)) (bitmask_splat w16 (λ a b. not (eqb a b)) c.args.block.now 8 0 (omega arith) (omega arith)) ∙ mask_l-any (λ mask. not (eqb mask 0)) c.args.block.now
