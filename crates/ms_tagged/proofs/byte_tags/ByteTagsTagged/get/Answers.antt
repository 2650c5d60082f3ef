use Rattle.std.proofs.Common.{sym, ap, ◌∙◌, arith}
use Rattle.ms_tagged.specs.Bytes.{number_at}
use Rattle.ms_tagged.specs.refinement.Tags.{bytes_of}
use Rattle.ms_tagged.proofs.Filled.{number_at-filled, range-part}
use Rattle.ms_tagged.proofs.byte_tags.ByteTagsTagged.get.Goals as goal

pub returns-clause-number : goal.returns-clause-number
returns-clause-number c =
    let is = range-part c.as_slice.result.now c.part.result.now c.self.inside.tags.items c.args.self.now c.self.inside.capacity c.args.address c.args.width c.part.ensures c.as_slice.ensures.value (omega arith) c.self.view_is c.requires.within in
    c.number.ensures.number ∙ sym (ap number_at is ∙ number_at-filled c.args.width (bytes_of c.part.result.now))
