use Rattle.std.proofs.Common.{◌≡◌, All, map, get_or, sym, subst, arith}
use Rattle.ms_machine.specs.declared.store.Instance.{Instance}
use Rattle.ms_machine.specs.Linked.{values_at}
use Rattle.ms_link.proofs.Puts.{fills_more, zip_length, zip_read}
use Rattle.ms_link.specs.refinement.Fitting.{FillFits, FillsThere, byte_count}
use Rattle.ms_link.proofs.putting.put_all_fills.Goals as goal

pub bounds-fills-k : goal.bounds-fills-k
bounds-fills-k c =
    let n = zip_length (FillsThere (map byte_count c.args.memories.now) c.args.globals.now) c.args.instances.now c.args.fills.now c.requires in
    let lt = c.loop-k-test.true in
    omega arith

pub put_fills-requires : goal.put_fills-requires
put_fills-requires c =
    let R = FillsThere (map byte_count c.args.memories.now) c.args.globals.now in
    let there = zip_read R c.args.instances.now c.args.fills.now c.loop-k.k c.index-instances-k.result c.index-fills-k.result c.requires c.loop-k-test.true c.index-instances-k.is c.index-fills-k.is in
    subst (λ (i : Instance). All (FillFits (map byte_count c.loop-k.memories) (values_at c.args.globals.now i.globals) i) c.as_slice.result.now) (sym c.instance.ensures)
    (subst (All (FillFits (map byte_count c.loop-k.memories) (values_at c.args.globals.now c.index-instances-k.result.globals) c.index-instances-k.result)) (sym c.as_slice.ensures)
    (subst (λ ss. All (FillFits ss (values_at c.args.globals.now c.index-instances-k.result.globals) c.index-instances-k.result) c.index-fills-k.result) (sym c.loop-k.invariant.1) there))

pub loop-k-preserved : goal.loop-k-preserved
loop-k-preserved c =
    fills_more c.args.globals.now c.args.instances.now c.args.fills.now c.loop-k.k c.instance.result.now c.as_slice.result.now c.loop-k.memories c.put_fills.new.memories _ (map byte_count c.args.memories.now)
    c.loop-k-test.true
    (subst (λ (x : Instance). x ≡ get_or c.args.instances.now c.loop-k.k x) (sym c.instance.ensures) c.index-instances-k.is)
    (subst (λ x. x ≡ get_or c.args.fills.now c.loop-k.k x) (sym c.as_slice.ensures) c.index-fills-k.is)
    c.requires c.loop-k.invariant.1 c.put_fills.ensures c.loop-k.invariant.0
