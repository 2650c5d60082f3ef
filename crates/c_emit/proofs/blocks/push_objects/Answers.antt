use Rattle.std.proofs.Common.{length, reverse, arith}
use Rattle.std.proofs.lemmas.Iterator.Adapters.{YieldsList-from_rev_slice}
use Rattle.std.proofs.lemmas.Iterator.Consumers.{YieldsList-end, YieldsList-turn}
use Rattle.std.proofs.lemmas.List.{length_push}
use Rattle.c_emit.proofs.BlockObjects.{all_pushed, object_pushed}
use Rattle.c_emit.proofs.blocks.push_objects.Goals as goal

pub loop-slot-preserved : goal.loop-slot-preserved
loop-slot-preserved c =
    let s = c.args.t.now in
    let t = YieldsList-turn (YieldsList-from_rev_slice c.args.slots.now (cc)) c.loop-slot.yielded _ c.loop-slot.yielded_by _ _ c.in-Some.slot c.in-Some.is c.next.ensures.steps in
    object_pushed s.target s.slots c.loop-slot.objects.items c.push_object.new.objects.items _ (reverse c.args.slots.now) (length c.loop-slot.yielded) _ c.in-Some.slot.now
    t.0 t.1 (length_push c.loop-slot.yielded c.in-Some.slot) c.loop-slot.invariant c.in_ok-push_object.ensures

pub returns : goal.returns
returns c =
    let s = c.args.t.now in
    let t = YieldsList-end (YieldsList-from_rev_slice c.args.slots.now (cc)) c.loop-slot.yielded _ c.loop-slot.yielded_by _ _ c.in-None.is c.next.ensures.steps in
    all_pushed s.target s.slots c.args.objects.now.items c.loop-slot.objects.items c.args.slots.now (length c.loop-slot.yielded) (omega (arith, t.1)) c.loop-slot.invariant
