use Rattle.std.proofs.Common.{◌≤◌, length, ap, arith}
use Rattle.c_types.proofs.Placing.{begun, part_at, counted, placed}
use Rattle.c_types.specs.Layout.{size, most_bytes}
use Rattle.c_types.specs.Types.{type_of}
use Rattle.c_types.specs.refinement.Views.{table_of}
use Rattle.c_types.proofs.layout.lay_out.Goals as goal

pub loop-member-init : goal.loop-member-init
loop-member-init c = begun _ _ _ c.new-offsets.ensures.items

pub align_in-needed-requires : goal.align_in-needed-requires
align_in-needed-requires c =
    (part_at _ _ _ _ _ c.requires.parts c.deref-member-items.ensures.value c.loop-member-test.true c.member-item.is).0

pub size_in-requires-clause-sized : goal.size_in-requires-clause-sized
size_in-requires-clause-sized c =
    (part_at _ _ _ _ _ c.requires.parts c.deref-member-items.ensures.value c.loop-member-test.true c.member-item.is).0

pub size_in-requires-clause-counted : goal.size_in-requires-clause-counted
size_in-requires-clause-counted c =
    counted _ _ (part_at _ _ _ _ _ c.requires.parts c.deref-member-items.ensures.value c.loop-member-test.true c.member-item.is).1

pub overflow_add-end : goal.overflow_add-end
overflow_add-end c =
    let p = part_at _ _ _ _ _ c.requires.parts c.deref-member-items.ensures.value c.loop-member-test.true c.member-item.is in
    let small : size (table_of c.args.definitions.now) (type_of c.member-item.result) ≤ most_bytes = p.1 in
    let few = ap (λ x. length x) c.deref-member-items.ensures.value in
    omega (arith, small, few)

pub loop-member-preserved : goal.loop-member-preserved
loop-member-preserved c =
    rw c.larger-align.ensures (placed _ _ _ _ _ _ _ _ _ _ _ c.loop-member-test.true c.member-item.is (part_at _ _ _ _ _ c.requires.parts c.deref-member-items.ensures.value c.loop-member-test.true c.member-item.is) c.align_in-needed.ensures.is c.align_in-needed.ensures.positive c.align_in-needed.ensures.most c.round_up-here.ensures.is c.round_up-here.ensures.near c.size_in.ensures c.in_ok-push.ensures.items c.loop-member.invariant)
