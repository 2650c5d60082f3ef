use Rattle.c_types.specs.Types.{type_of}
use Rattle.c_typed.specs.declared.ops.Variable.TheVariants.{Local}
use Rattle.c_code.specs.Functions.{param, params_from}
use Rattle.c_compile.proofs.Bodies.{onward_next}
use Rattle.c_compile.proofs.functions.copy_param.Goals as goal

pub returns : goal.returns
returns c = λ rest final.
    let t = c.args.t.now.target in
    let n = c.args.n in
    onward_next c.sum.result n c.args.body.now c.add_param.new.body final (param t (t.is_object (Local n)) n (type_of c.args.ty.now)) (λ k. params_from t k rest)
    c.sum.ensures c.in_ok-add_param.ensures
