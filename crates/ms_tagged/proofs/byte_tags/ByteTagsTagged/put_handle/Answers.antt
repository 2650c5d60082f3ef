use Rattle.std.proofs.Common.{◌≡◌, ◌+◌, ◌-◌, ◌∙◌, ap, refl, arith}
use Rattle.ms_tagged.specs.Bytes.{pieces}
use Rattle.ms_tagged.specs.refinement.Tags.{pieces_from}
use Rattle.ms_tagged.proofs.Filled.{held-part, written-filled}
use Rattle.ms_tagged.proofs.byte_tags.ByteTagsTagged.put_handle.Goals as goal

pub returns : goal.returns
returns c =
    let k : c.args.address + 16 - c.args.address ≡ 16 = omega arith in
    let held = held-part c.deref_mut.result.now c.reach.new.tags.items c.self.inside.tags.items c.args.address 16 c.deref_mut.ensures.value c.reach.ensures.items in
    written-filled c.reach.new.tags c.deref_mut.result.now c.write_pieces.new.tags c.self.inside.tags.items (pieces c.args.handle) c.args.self.now c.self.inside.capacity c.args.address 16 _ c.deref_mut.ensures.value c.deref_mut.ensures.len c.reach.ensures.items (omega arith) c.self.view_is c.requires.within k c.write_pieces.auto.tags (c.write_pieces.ensures ∙ ap (pieces_from c.args.handle 0) held) refl
