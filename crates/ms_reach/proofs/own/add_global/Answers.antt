use Rattle.std.proofs.Common.{length, refl, sym, ap, subst, ◌∙◌, [], ◌∷◌}
use Rattle.std.proofs.lemmas.Option.{slice_get_past, slice_get_read}
use Rattle.std.proofs.lemmas.Result.{on_ok_weaker}
use Rattle.ms_reach.specs.refinement.Leading.{IsValueInside}
use Rattle.ms_reach.specs.refinement.OwnValues.{value_at, value_if}
use Rattle.ms_reach.proofs.Gathering.{gather_is, gather_none}
use Rattle.ms_reach.proofs.Leads.{global_get}
use Rattle.ms_reach.proofs.own.add_global.Goals as goal

pub add_value-requires-clause-inside : goal.add_value-requires-clause-inside
add_value-requires-clause-inside c =
    let globals = c.args.globals.now in
    let global = c.in-Some.global.now in
    let h = c.in-Some.ensures.lookup in
    subst (IsValueInside c.args.live.now) (sym c.value.ensures) (global_get (IsValueInside c.args.live.now) globals c.args.address global c.requires.inside (slice_get_read globals (length globals) c.args.address global refl h.3.0 h.1))

pub returns-in-Some : goal.returns-in-Some
returns-in-Some c =
    let globals = c.args.globals.now in
    let global = c.in-Some.global.now in
    let h = c.in-Some.ensures.lookup in
    let is = slice_get_read globals (length globals) c.args.address global refl h.3.0 h.1 in
    on_ok_weaker c.add_value.result (gather_is c.args.live.now (c.value.result ∷ []) (value_at globals c.args.address) c.args.closing.now c.add_value.new.self (ap (λ v. v ∷ []) c.value.ensures ∙ sym (ap value_if is))) c.add_value.ensures

pub returns-in-None : goal.returns-in-None
returns-in-None c =
    let globals = c.args.globals.now in
    let is = slice_get_past globals c.args.address c.in-None.ensures.lookup.3 in
    gather_is c.args.live.now [] (value_at globals c.args.address) c.args.closing.now c.args.closing.now (sym (ap value_if is)) (gather_none c.args.live.now c.args.closing.now)
