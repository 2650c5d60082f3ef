use Rattle.std.proofs.Common.{sym, ap, ◌∙◌, arith}
use Rattle.ms_tagged.specs.Bytes.{held_at}
use Rattle.ms_tagged.proofs.Filled.{range-part}
use Rattle.ms_tagged.proofs.byte_tags.ByteTagsTagged.held.Goals as goal

pub returns : goal.returns
returns c =
    let is = range-part c.as_slice.result.now c.part.result.now c.self.inside.tags.items c.args.self.now c.self.inside.capacity c.args.address 1 c.part.ensures c.as_slice.ensures.value (omega arith) c.self.view_is (omega arith) in
    c.first_held.ensures ∙ sym (ap held_at is)
