use Rattle.c_types.proofs.Growth.{kept, kept_is}
use Rattle.c_types.proofs.structs.Structs.define.Goals as goal

pub invariant_of-self : goal.invariant_of-self
invariant_of-self c =
    kept _ _ _ _ _ _ c.deref.ensures.value c.self.view_is c.in_ok-definition.ensures c.requires.tag c.requires.parts c.self.invariant

pub returns : goal.returns
returns c =
    kept_is _ _ _ _ _ _ c.deref.ensures.value c.self.view_is c.in_ok-definition.ensures
