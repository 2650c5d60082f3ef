use Rattle.std.proofs.Common.{◌∙◌, ◌<◌, ◌+◌, ◌++◌, ◌∷◌, [], suc, Vec, Global, drop, subst, sym, arith}
use Rattle.c_tree.specs.Tree.{Parameters}
use Rattle.c_tree.specs.refinement.Views.{declarator_nodes, parameters_nodes, parameters_of}
use Rattle.c_check_types.specs.Types.{whole, a_parameter, declared, parameters}
use Rattle.c_check_types.specs.refinement.Views.{parameter_of, parameters_in, state_of}
use Rattle.c_check_types.specs.declared.declared.Parameter.{Parameter as Code}
use Rattle.c_check_types.proofs.Rules.{stopped}
use Rattle.c_check_types.proofs.Parameters.{front, going_on, one_falls}
use Rattle.c_check_types.proofs.checker.Checker.+types.Goals as goal

pub parameters-parameter-requires : goal.parameters-parameter-requires
parameters-parameter-requires n c =
    let falls = one_falls c.items-p-items.result.now c.loop-p.p-index c.p-item.result c.loop-p-test.true c.p-item.is in
    let less = subst (λ (ps : Parameters). declarator_nodes c.p-item.result.declarator + 1 < parameters_nodes ps) c.items-p-items.ensures falls in
    let bound = c.decreases in
    (omega (arith, less, bound), tt)

pub parameters-returns-in-Err : goal.parameters-returns-in-Err
parameters-returns-in-Err n c =
    let items = c.items-p-items.result.now in
    let p = c.p-item.result in
    let s = state_of c.loop-p.self in
    let old = state_of c.args.self.now in
    let new = state_of c.parameter.new.self in
    let rest = parameters_of (drop (suc c.loop-p.p-index) items) in
    let qs = parameters_in c.loop-p.params.items in
    let e = front items c.loop-p.p-index p c.loop-p-test.true c.p-item.is c.loop-p.names qs s in
    stopped {D = Vec Code Global} (λ q. (parameter_of q, c.parameter.new.names)) (λ v. parameters_in v.items) (a_parameter p.specifier (λ b. declared p.declarator (whole b) []) c.loop-p.names) (parameters c.args.ps.now [] []) s new old new
    (going_on rest qs) c.in-Err.e (sym e ∙ c.loop-p.invariant) c.in-Err.ensures

pub parameter-declared-requires : goal.parameter-declared-requires
parameter-declared-requires n c = let bound = c.decreases in (omega (arith, bound), tt)
