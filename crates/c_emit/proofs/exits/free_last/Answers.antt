use Rattle.std.proofs.Common.{◌∷◌, [], length, refl, reverse, take, arith}
use Rattle.std.proofs.lemmas.Iterator.{YieldsList-from_take}
use Rattle.std.proofs.lemmas.Iterator.Adapters.{YieldsList-from_rev_slice}
use Rattle.std.proofs.lemmas.Iterator.Consumers.{YieldsList-end, YieldsList-turn}
use Rattle.std.proofs.lemmas.List.{length_push}
use Rattle.ms_handle.specs.declared.handle.Kind.TheVariants.{Frame}
use Rattle.ms_module.specs.declared.access.Segment.TheVariants.{Free}
use Rattle.ms_module.specs.declared.instr.Instr.TheVariants.{Segment}
use Rattle.ms_emit.specs.Codes.{plain}
use Rattle.c_code.specs.Statements.{freed}
use Rattle.c_code.specs.Targets.{get}
use Rattle.c_emit.proofs.Items.{item_is_added, items_are_added}
use Rattle.c_emit.proofs.exits.free_last.Goals as goal

pub loop-v-preserved : goal.loop-v-preserved
loop-v-preserved c =
    let s = c.args.t.now in
    let t = YieldsList-turn (YieldsList-from_take c.args.count (YieldsList-from_rev_slice c.args.objects.now (cc)) (cc)) c.loop-v.yielded _ c.loop-v.yielded_by _ _ c.in-Some.v c.in-Some.is c.next.ensures.steps in
    item_is_added (freed s.target) (λ v. plain (get s.target v ∷ Segment (Free Frame) ∷ [])) (λ v vs. refl)
    _ _ _ (take c.args.count (reverse c.args.objects.now)) (length c.loop-v.yielded) _ c.in-Some.v.now _ t.0 t.1 (length_push c.loop-v.yielded c.in-Some.v)
    c.loop-v.invariant c.in_ok-free.ensures

pub returns : goal.returns
returns c =
    let s = c.args.t.now in
    let t = YieldsList-end (YieldsList-from_take c.args.count (YieldsList-from_rev_slice c.args.objects.now (cc)) (cc)) c.loop-v.yielded _ c.loop-v.yielded_by _ _ c.in-None.is c.next.ensures.steps in
    items_are_added (freed s.target) refl _ _ (take c.args.count (reverse c.args.objects.now)) (length c.loop-v.yielded) _ (omega (arith, t.1)) c.loop-v.invariant
