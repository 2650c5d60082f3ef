use Rattle.c_types.proofs.Growth.{kept_tag}
use Rattle.c_types.proofs.structs.Structs.add_tag.Goals as goal

pub invariant_of-self-2 : goal.invariant_of-self-2
invariant_of-self-2 c = kept_tag _ _ c.in_ok-push.ensures.items c.self.invariant
