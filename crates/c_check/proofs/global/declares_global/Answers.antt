use Rattle.c_types.specs.Types.{type_of}
use Rattle.c_check_types.specs.refinement.Views.{derived_of, state_of}
use Rattle.c_check.specs.Declarations.{declares_global, global_value}
use Rattle.c_check.proofs.Globals.{answered_from, value_left}
use Rattle.c_check.proofs.global.declares_global.Goals as goal

pub returns : goal.returns
returns c =
    let name = c.args.name.now in
    let d = derived_of c.args.d in
    let v = c.args.v.now in
    let t = type_of c.in_ok-t.t in
    let u = type_of c.in_ok-share.field-0 in
    let n = c.in_ok-n.n in
    let m = c.in_ok-m.m in
    let old = state_of c.args.checker.now in
    let from = state_of c.made_there.new.checker in
    let left = value_left name d v t u n m old (state_of c.variable_type.new.checker) (state_of c.enters_global.new.checker) from c.in_ok-t.ensures c.in_ok-share.ensures c.in_ok-n.ensures c.in_ok-m.ensures in
    answered_from (λ (x : Unit {0}). tt {0}) (declares_global name d v) (global_value m n t v) old from (state_of c.global_value.new.checker) c.global_value.result left c.global_value.ensures
