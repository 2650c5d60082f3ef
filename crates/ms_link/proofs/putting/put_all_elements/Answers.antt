use Rattle.std.proofs.Common.{◌≡◌, ◌<◌, All, length, map, get_or, sym, subst, arith}
use Rattle.ms_machine.specs.declared.store.Instance.{Instance}
use Rattle.ms_machine.specs.Linked.{values_at}
use Rattle.ms_link.proofs.Puts.{elements_more, zip_length, zip_read}
use Rattle.ms_link.specs.refinement.Fitting.{ElementFits, ElementsThere, entry_count}
use Rattle.ms_link.proofs.putting.put_all_elements.Goals as goal

pub bounds-elements-k : goal.bounds-elements-k
bounds-elements-k c =
    let n = zip_length (ElementsThere (map entry_count c.args.tables.now) (length c.args.funcs.now) c.args.globals.now) c.args.instances.now c.args.elements.now c.requires in
    let lt = c.loop-k-test.true in
    omega arith

pub put_elements-requires-clause-fit : goal.put_elements-requires-clause-fit
put_elements-requires-clause-fit c =
    let R = ElementsThere (map entry_count c.args.tables.now) (length c.args.funcs.now) c.args.globals.now in
    let there = zip_read R c.args.instances.now c.args.elements.now c.loop-k.k c.index-instances-k.result c.index-elements-k.result c.requires c.loop-k-test.true c.index-instances-k.is c.index-elements-k.is in
    subst (λ (i : Instance). All (ElementFits (map entry_count c.loop-k.tables) (values_at c.args.globals.now i.globals) i) c.as_slice.result.now) (sym c.instance.ensures)
    (subst (All (ElementFits (map entry_count c.loop-k.tables) (values_at c.args.globals.now c.index-instances-k.result.globals) c.index-instances-k.result)) (sym c.as_slice.ensures)
    (subst (λ ss. All (ElementFits ss (values_at c.args.globals.now c.index-instances-k.result.globals) c.index-instances-k.result) c.index-elements-k.result) (sym c.loop-k.invariant.1) there.fit))

pub put_elements-requires-clause-funcs : goal.put_elements-requires-clause-funcs
put_elements-requires-clause-funcs c =
    let R = ElementsThere (map entry_count c.args.tables.now) (length c.args.funcs.now) c.args.globals.now in
    let there = zip_read R c.args.instances.now c.args.elements.now c.loop-k.k c.index-instances-k.result c.index-elements-k.result c.requires c.loop-k-test.true c.index-instances-k.is c.index-elements-k.is in
    subst (λ (i : Instance). All (λ a. a < length c.args.funcs.now) i.funcs) (sym c.instance.ensures) there.funcs

pub loop-k-preserved : goal.loop-k-preserved
loop-k-preserved c =
    let i = c.index-instances-k.result in
    let es = c.index-elements-k.result in
    elements_more c.args.funcs.now c.args.globals.now c.args.instances.now c.args.elements.now c.loop-k.k c.instance.result.now c.as_slice.result.now c.loop-k.tables c.put_elements.new.tables _ (map entry_count c.args.tables.now)
    c.loop-k-test.true
    (subst (λ (x : Instance). x ≡ get_or c.args.instances.now c.loop-k.k x) (sym c.instance.ensures) c.index-instances-k.is)
    (subst (λ x. x ≡ get_or c.args.elements.now c.loop-k.k x) (sym c.as_slice.ensures) c.index-elements-k.is)
    c.requires c.loop-k.invariant.1 c.in_ok-put_elements.ensures c.loop-k.invariant.0
