use Rattle.std.proofs.Common.{List, ◌≡◌, length, refl, sym, ap, ◌∙◌, [], slice_get, Some, None}
use Rattle.std.specs.List.{flat_map}
use Rattle.std.proofs.lemmas.Option.{slice_get_past, slice_get_read}
use Rattle.std.proofs.lemmas.Result.{on_ok_weaker}
use Rattle.ms_linear.specs.declared.global.GlobalInst.{GlobalInst}
use Rattle.ms_machine.specs.declared.store.Instance.{Instance}
use Rattle.ms_reach.specs.refinement.OwnValues.{value_at, values_if, values_of}
use Rattle.ms_reach.proofs.Gathering.{gather_is, gather_none}
use Rattle.ms_reach.proofs.own.add_instance.Goals as goal

pub returns-in-Some : goal.returns-in-Some
returns-in-Some g c =
    let s = c.args.store.now in
    let n = c.args.number in
    let instances = c.instances.result.now in
    let it = c.in-Some.instance.now in
    let h = c.in-Some.ensures.lookup in
    let is : slice_get s.instances n ≡ Some it = ap (λ (xs : List Instance). slice_get xs n) (sym c.instances.ensures) ∙ slice_get_read instances (length instances) n it refl h.3.0 h.1 in
    let are = ap (λ (gs : List GlobalInst). flat_map (value_at gs) c.as_slice.result.now) c.globals.ensures ∙ (ap (flat_map (value_at s.globals)) c.as_slice.ensures ∙ sym (ap (values_if s.globals) is)) in
    on_ok_weaker c.add_globals.result
    (gather_is c.args.live.now (flat_map (value_at c.globals.result.now) c.as_slice.result.now) (values_of s n) c.args.closing.now c.add_globals.new.closing are)
    c.add_globals.ensures

pub returns-in-None : goal.returns-in-None
returns-in-None g c =
    let s = c.args.store.now in
    let n = c.args.number in
    let is : slice_get s.instances n ≡ None = ap (λ (xs : List Instance). slice_get xs n) (sym c.instances.ensures) ∙ slice_get_past c.instances.result.now n c.in-None.ensures.lookup.3 in
    gather_is c.args.live.now [] (values_of s n) c.args.closing.now c.args.closing.now (sym (ap (values_if s.globals) is)) (gather_none c.args.live.now c.args.closing.now)
