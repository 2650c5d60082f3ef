use Rattle.std.proofs.Common.{◌∙◌, List, map, reverse, subst}
use Rattle.ms_emit.specs.Codes.{◌⨾◌}
use Rattle.ms_emit.specs.refinement.Parts.{Adds}
use Rattle.c_types.specs.Types.{scalar_of, type_of}
use Rattle.c_typed.specs.refinement.Views.{stmt_of}
use Rattle.c_typed.specs.declared.ops.Variable.{Variable}
use Rattle.c_code.specs.Functions.{params, result}
use Rattle.c_code.specs.Statements.{at_body, freed, stmt}
use Rattle.c_emit.proofs.Steps.{then}
use Rattle.c_compile.proofs.functions.add_body.Goals as goal

pub returns : goal.returns
returns c =
    let t = c.args.t.now in
    let vs = c.args.objects.now.items in
    let r = c.add_result.result in
    let s0 = c.args.body.now in
    let s1 = c.add_params.new.body in
    let s2 = c.add_stmt.new.body in
    let s3 = c.free_all.new.body in
    let s4 = c.add_result.new.body in
    let ps = params t.target (map type_of c.args.params.now) in
    let ss = stmt t.target t.slots 0 (at_body (reverse vs)) (stmt_of c.args.s.now) in
    let fs = freed t.target (reverse vs) in
    let rs = result t.target (scalar_of (type_of c.args.result_type.now)) in
    then _ _ r s0 s1 s4 ps (ss ⨾ fs ⨾ rs) c.in_ok-add_params.ensures
    (then _ _ r s1 s2 s4 ss (fs ⨾ rs) c.in_ok-add_stmt.ensures.code
    (then _ _ r s2 s3 s4 fs rs
    (subst (λ (l : List Variable). Adds s2 s3 (freed t.target (reverse l))) (c.deref.ensures.value ∙ c.in_ok-add_stmt.ensures.objects) c.in_ok-free_all.ensures) c.add_result.ensures))
