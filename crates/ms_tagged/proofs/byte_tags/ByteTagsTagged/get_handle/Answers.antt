use Rattle.std.proofs.Common.{List, sym, subst, arith}
use Rattle.ms_tagged.specs.Bytes.{Byte, IsHandleAt}
use Rattle.ms_tagged.proofs.Filled.{range-part}
use Rattle.ms_tagged.proofs.byte_tags.ByteTagsTagged.get_handle.Goals as goal

pub returns : goal.returns
returns c =
    let is = range-part c.as_slice.result.now c.part.result.now c.self.inside.tags.items c.args.self.now c.self.inside.capacity c.args.address 16 c.part.ensures c.as_slice.ensures.value (omega arith) c.self.view_is c.requires.within in
    let P : List Byte → Type 0 = λ bytes. IsHandleAt bytes c.handle_in_front.result in
    subst P (sym is) c.handle_in_front.ensures
