use Rattle.std.proofs.Common.{◌≡◌, ◌+◌, ◌-◌, ◌∙◌, ap, replicate, arith}
use Rattle.std.proofs.lemmas.List.{length-replicate}
use Rattle.ms_tagged.specs.Bytes.{Data}
use Rattle.ms_tagged.proofs.Filled.{held-part, written-filled}
use Rattle.ms_tagged.proofs.byte_tags.ByteTagsTagged.clear.Goals as goal

pub returns : goal.returns
returns c =
    let k : c.args.address + c.args.size - c.args.address ≡ c.args.size = omega arith in
    let held = held-part c.deref_mut.result.now c.reach.new.tags.items c.self.inside.tags.items c.args.address c.args.size c.deref_mut.ensures.value c.reach.ensures.items in
    written-filled c.reach.new.tags c.deref_mut.result.now c.write_zeros.new.tags c.self.inside.tags.items (replicate c.args.size (Data 0)) c.args.self.now c.self.inside.capacity c.args.address c.args.size _ c.deref_mut.ensures.value c.deref_mut.ensures.len c.reach.ensures.items (omega arith) c.self.view_is c.requires k c.write_zeros.auto.tags (c.write_zeros.ensures ∙ ap (λ n. replicate n (Data 0)) held) (length-replicate c.args.size (Data 0))
