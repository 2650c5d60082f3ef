use Rattle.std.proofs.Common.{◌∙◌}
use Rattle.ms_tagged.proofs.Wiping.{blank-lent, wiped-bytes}
use Rattle.ms_tagged.proofs.granules.GranulesTagged.clear.Goals as goal

pub wipe-requires-clause-blank : goal.wipe-requires-clause-blank
wipe-requires-clause-blank c = rw (c.deref_mut.ensures.value, c.deref_mut-2.ensures.value, c.deref_mut-3.ensures.value) c.self.invariant

pub invariant_of-self : goal.invariant_of-self
invariant_of-self c =
    blank-lent c.self.inside.plain c.self.inside.masks c.self.inside.written c.wipe.new.plain c.wipe.new.masks c.wipe.new.written
    (c.wipe.auto.plain ∙ c.deref_mut.ensures.len) (c.wipe.auto.masks ∙ c.deref_mut-2.ensures.len) (c.wipe.auto.written ∙ c.deref_mut-3.ensures.len) c.wipe.ensures.blank

pub returns : goal.returns
returns c =
    wiped-bytes c.self.inside.plain c.self.inside.masks c.self.inside.handles.items c.deref_mut.result.now c.deref_mut-2.result.now c.wipe.new.plain c.wipe.new.masks c.args.self.now c.self.inside.capacity c.args.address c.args.size
    c.deref_mut.ensures.value c.deref_mut.ensures.len c.deref_mut-2.ensures.value c.deref_mut-2.ensures.len c.wipe.auto.plain c.wipe.auto.masks c.wipe.ensures.wipes c.self.view_is c.requires
