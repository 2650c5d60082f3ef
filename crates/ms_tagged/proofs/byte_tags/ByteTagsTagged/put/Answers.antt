use Rattle.std.proofs.Common.{◌≡◌, ◌+◌, ◌-◌, ◌∙◌, ap, arith}
use Rattle.ms_tagged.specs.Bytes.{data_of}
use Rattle.ms_tagged.proofs.Numbers.{length-data_of}
use Rattle.ms_tagged.proofs.Filled.{held-part, written-filled}
use Rattle.ms_tagged.proofs.byte_tags.ByteTagsTagged.put.Goals as goal

pub returns : goal.returns
returns c =
    let k : c.args.address + c.args.width - c.args.address ≡ c.args.width = omega arith in
    let held = held-part c.deref_mut.result.now c.reach.new.tags.items c.self.inside.tags.items c.args.address c.args.width c.deref_mut.ensures.value c.reach.ensures.items in
    written-filled c.reach.new.tags c.deref_mut.result.now c.write_number.new.tags c.self.inside.tags.items (data_of c.args.width c.args.value) c.args.self.now c.self.inside.capacity c.args.address c.args.width _ c.deref_mut.ensures.value c.deref_mut.ensures.len c.reach.ensures.items (omega arith) c.self.view_is c.requires.within k c.write_number.auto.tags (c.write_number.ensures ∙ ap (λ n. data_of n c.args.value) held) (length-data_of c.args.width c.args.value)
