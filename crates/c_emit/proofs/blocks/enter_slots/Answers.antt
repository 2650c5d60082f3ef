use Rattle.std.proofs.Common.{get_or, refl}
use Rattle.std.proofs.lemmas.List.{get_or_default}
use Rattle.c_types.specs.Types.{void}
use Rattle.c_typed.specs.declared.ops.Variable.TheVariants.{Local}
use Rattle.c_code.specs.Statements.{entered, enters}
use Rattle.c_emit.proofs.Items.{item_is_added, items_are_added}
use Rattle.c_emit.proofs.blocks.enter_slots.Goals as goal

pub loop-slot-preserved : goal.loop-slot-preserved
loop-slot-preserved c =
    let s = c.args.t.now in
    let i = c.loop-slot.slot-index in
    item_is_added (enters s.target s.slots) (λ n. entered s.target (s.target.is_object (Local n)) (Local n) (get_or s.slots n void)) (λ n ns. refl)
    _ _ _ c.args.slots.now i _ (get_or c.args.slots.now i 0) _ c.loop-slot-test.true (get_or_default c.args.slots.now i 0 _ c.loop-slot-test.true) refl
    c.loop-slot.invariant c.in_ok-enter_slot.ensures

pub returns : goal.returns
returns c =
    let s = c.args.t.now in
    items_are_added (enters s.target s.slots) refl _ _ c.args.slots.now c.loop-slot.slot-index _ c.loop-slot-test.false c.loop-slot.invariant
