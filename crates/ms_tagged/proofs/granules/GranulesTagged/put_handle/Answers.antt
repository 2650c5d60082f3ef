use Rattle.std.proofs.Common.{◌≡◌, ◌*◌, ◌/◌, ◌∙◌, ap, length, arith}
use Rattle.ms_tagged.specs.Bytes.{overwritten, pieces}
use Rattle.ms_tagged.specs.refinement.Granules.{byte_at, bytes_from}
use Rattle.ms_tagged.proofs.BytesFrom.{length-bytes_from}
use Rattle.ms_tagged.proofs.GranuleWrites.{byte_at-filled, handle-overwritten}
use Rattle.ms_tagged.proofs.Wiping.{blank-handle}
use Rattle.ms_tagged.proofs.granules.GranulesTagged.put_handle.Goals as goal

pub reach-requires-clause-room : goal.reach-requires-clause-room
reach-requires-clause-room c =
    let long = length-bytes_from (byte_at c.self.inside.plain.items c.self.inside.masks.items c.self.inside.handles.items) 0 c.self.inside.capacity in
    (omega (arith, long, ap length c.self.view_is), omega (arith, long, ap length c.self.view_is))

pub fill_up-requires : goal.fill_up-requires
fill_up-requires c =
    let long = length-bytes_from (byte_at c.self.inside.plain.items c.self.inside.masks.items c.self.inside.handles.items) 0 c.self.inside.capacity in
    omega (arith, long, ap length c.self.view_is)

pub mark-requires-clause-there : goal.mark-requires-clause-there
mark-requires-clause-there c =
    let long = length-bytes_from (byte_at c.self.inside.plain.items c.self.inside.masks.items c.self.inside.handles.items) 0 c.self.inside.capacity in
    omega (arith, long, ap length c.self.view_is)

pub invariant_of-self-inside : goal.invariant_of-self-inside
invariant_of-self-inside c =
    let long = length-bytes_from (byte_at c.self.inside.plain.items c.self.inside.masks.items c.self.inside.handles.items) 0 c.self.inside.capacity in
    (c.reach.ensures.plain_for_each, (omega arith, (omega (arith, long, ap length c.self.view_is), (omega arith, (omega arith, (omega arith, omega arith))))))

pub invariant_of-self : goal.invariant_of-self
invariant_of-self c =
    let place : 16 * (c.args.address / 16) ≡ c.args.address = omega arith in
    blank-handle c.self.inside.written c.self.inside.plain.items c.self.inside.masks.items c.reach.new.plain.items c.reach.new.masks.items c.deref_mut.result.now c.mark.new.written (c.args.address / 16) c.args.address
    c.self.invariant c.reach.ensures.bytes c.deref_mut.ensures.value c.mark.auto.written c.deref_mut.ensures.len place c.mark.ensures.marked c.mark.ensures.kept

pub returns : goal.returns
returns c =
    let before = byte_at c.self.inside.plain.items c.self.inside.masks.items c.self.inside.handles.items in
    let long = length-bytes_from before 0 c.self.inside.capacity in
    let place : 16 * (c.args.address / 16) ≡ c.args.address = omega arith in
    handle-overwritten c.reach.new.plain.items c.reach.new.masks.items c.fill_up.new.items.items before c.self.inside.capacity (c.args.address / 16) c.args.handle
    (λ i. byte_at-filled c.reach.new.plain.items c.reach.new.masks.items c.self.inside.handles.items c.fill_up.new.items.items _ i c.fill_up.ensures.items ∙ c.reach.ensures.bytes c.self.inside.handles.items i)
    (omega arith) (omega arith) (omega (arith, long, ap length c.self.view_is))
    ∙ (ap (λ at. overwritten at (pieces c.args.handle) (bytes_from before 0 c.self.inside.capacity)) place ∙ ap (overwritten c.args.address (pieces c.args.handle)) c.self.view_is)
