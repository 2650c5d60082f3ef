use Rattle.std.proofs.Common.{◌≡◌, length, refl, sym, ap, ◌∙◌, arith}
use Rattle.ms_valid.proofs.Verdicts.{blamed, first_within, index_is, none_found}
use Rattle.ms_valid.proofs.valid.judge_in.Goals as goal

pub returns-in-None : goal.returns-in-None
returns-in-None c = none_found c.args.module.now c.args.context.now c.as_slice.result.now c.in_ok-first_untyped.field-0 c.requires c.as_slice.ensures (c.in_ok-is_head_typed.ensures.0 c.if-not-branch.false) c.in_ok-first_untyped.ensures c.in-None.is

pub overflow_add-funcs_len : goal.overflow_add-funcs_len
overflow_add-funcs_len c =
    let within = first_within c.args.context.now c.as_slice.result.now c.in_ok-first_untyped.field-0 c.in-Some.number c.in-Some.is c.in_ok-first_untyped.ensures in
    let own : length c.as_slice.result.now ≡ c.len.result = ap length c.as_slice.ensures ∙ sym c.len.ensures in
    omega arith

pub returns-in-Some : goal.returns-in-Some
returns-in-Some c =
    let is = index_is c.args.module.now c.args.context.now c.funcs_len.result c.len.result _ c.in-Some.number c.requires c.funcs_len.ensures c.len.ensures refl in
    blamed c.args.module.now c.args.context.now c.as_slice.result.now c.in_ok-first_untyped.field-0 c.in-Some.number _ c.at_function.result c.requires c.as_slice.ensures (c.in_ok-is_head_typed.ensures.0 c.if-not-branch.false) c.in_ok-first_untyped.ensures c.in-Some.is is c.at_function.ensures.fits c.at_function.ensures.past
