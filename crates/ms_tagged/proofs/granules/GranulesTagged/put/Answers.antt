use Rattle.std.proofs.Common.{◌≡◌, ◌+◌, ◌-◌, ◌∙◌, ap, length, arith}
use Rattle.ms_tagged.specs.Bytes.{data_of}
use Rattle.ms_tagged.proofs.Numbers.{length-data_of}
use Rattle.ms_tagged.specs.refinement.Granules.{byte_at}
use Rattle.ms_tagged.proofs.BytesFrom.{length-bytes_from}
use Rattle.ms_tagged.proofs.GranuleBytes.{width-few}
use Rattle.ms_tagged.proofs.GranuleWrites.{length-held, data-written}
use Rattle.ms_tagged.proofs.Wiping.{blank-data}
use Rattle.ms_tagged.proofs.granules.GranulesTagged.put.Goals as goal

pub reach-requires-clause-room : goal.reach-requires-clause-room
reach-requires-clause-room c =
    let long = length-bytes_from (byte_at c.self.inside.plain.items c.self.inside.masks.items c.self.inside.handles.items) 0 c.self.inside.capacity in
    (omega (arith, long, ap length c.self.view_is), omega (arith, long, ap length c.self.view_is))

pub mark-requires-clause-some : goal.mark-requires-clause-some
mark-requires-clause-some c = let few = width-few c.args.width c.requires.width in omega arith

pub mark-requires-clause-few : goal.mark-requires-clause-few
mark-requires-clause-few c = let few = width-few c.args.width c.requires.width in omega arith

pub mark-requires-clause-there : goal.mark-requires-clause-there
mark-requires-clause-there c =
    let long = length-bytes_from (byte_at c.self.inside.plain.items c.self.inside.masks.items c.self.inside.handles.items) 0 c.self.inside.capacity in
    omega (arith, long, ap length c.self.view_is)

pub invariant_of-self-inside : goal.invariant_of-self-inside
invariant_of-self-inside c =
    let long = length-bytes_from (byte_at c.self.inside.plain.items c.self.inside.masks.items c.self.inside.handles.items) 0 c.self.inside.capacity in
    (c.reach.ensures.plain_for_each, (omega arith, (omega (arith, long, ap length c.self.view_is), (omega arith, (omega arith, (omega arith, omega arith))))))

pub invariant_of-self : goal.invariant_of-self
invariant_of-self c =
    let k : c.args.address + c.args.width - c.args.address ≡ c.args.width = omega arith in
    blank-data c.reach.new.plain c.reach.new.masks c.self.inside.written c.self.inside.plain.items c.self.inside.masks.items c.deref_mut-2.result.now c.deref_mut.result.now c.deref_mut-3.result.now c.forget_few.new.masks c.write_word.new.bytes c.mark.new.written c.args.address c.args.width _
    c.self.invariant c.reach.ensures.bytes c.deref_mut-2.ensures.value c.deref_mut-2.ensures.len c.deref_mut.ensures.value c.forget_few.auto.masks c.deref_mut.ensures.len c.deref_mut-3.ensures.value c.mark.auto.written c.deref_mut-3.ensures.len
    c.forget_few.ensures c.reach.ensures.there k c.write_word.auto.bytes c.mark.ensures.marked c.mark.ensures.kept

pub returns : goal.returns
returns c =
    let k : c.args.address + c.args.width - c.args.address ≡ c.args.width = omega arith in
    let held = length-held c.deref_mut-2.result.now c.args.address c.args.width (omega arith) in
    data-written c.reach.new.plain c.reach.new.masks c.self.inside.handles.items (byte_at c.self.inside.plain.items c.self.inside.masks.items c.self.inside.handles.items) c.deref_mut-2.result.now c.deref_mut.result.now c.forget_few.new.masks c.write_word.new.bytes (data_of c.args.width c.args.value) c.args.self.now c.self.inside.capacity c.args.address c.args.width _
    (c.reach.ensures.bytes c.self.inside.handles.items) c.deref_mut-2.ensures.value c.deref_mut-2.ensures.len c.deref_mut.ensures.value c.forget_few.auto.masks c.deref_mut.ensures.len c.forget_few.ensures c.reach.ensures.there c.self.view_is c.requires.within k c.write_word.auto.bytes (c.write_word.ensures ∙ ap (λ n. data_of n c.args.value) held) (length-data_of c.args.width c.args.value)
