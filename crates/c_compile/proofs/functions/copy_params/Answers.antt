use Rattle.std.proofs.Common.{List, ap, drop, map}
use Rattle.std.proofs.lemmas.List.{drop_all}
use Rattle.c_types.specs.Types.{type_of}
use Rattle.c_types.specs.declared.types.CType.{CType}
use Rattle.c_code.specs.Functions.{params_from}
use Rattle.c_compile.proofs.Bodies.{behind_all}
use Rattle.c_compile.proofs.functions.copy_params.Goals as goal

pub returns : goal.returns
returns c =
    let t = c.args.t.now in
    let ts = c.args.params.now in
    let i = c.loop-ty.ty-index in
    let n = c.loop-ty.number in
    behind_all c.args.body.now c.loop-ty.body (params_from t.target n (map type_of (drop i ts))) (params_from t.target 0 (map type_of ts))
    (ap (λ (l : List CType). params_from t.target n (map type_of l)) (drop_all i ts c.loop-ty-test.false)) c.loop-ty.invariant
