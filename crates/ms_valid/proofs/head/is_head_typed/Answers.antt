use Rattle.ms_valid.proofs.Heads.{ends, head_is}
use Rattle.ms_valid.proofs.head.is_head_typed.Goals as goal

pub returns-then-not-are_parts_typed : goal.returns-then-not-are_parts_typed
returns-then-not-are_parts_typed c = ((λ h. absurd cc), (λ h. let t = c.are_parts_typed.ensures.1 ((head_is c.args.module.now c.args.context.now c.requires).1 h).0 in absurd cc))

pub returns : goal.returns
returns c = ends c.are_names_distinct.result c.args.module.now c.args.context.now c.as_slice.result.now c.requires c.as_slice.ensures (c.are_parts_typed.ensures.0 c.if-not-are_parts_typed.false) c.are_names_distinct.ensures
