use Rattle.std.proofs.Common.{◌≡◌, ◌∙◌, List, Some, ap, subst, arith}
use Rattle.ms_module.specs.declared.module.Func.{Func}
use Rattle.c_typed.specs.refinement.Views.{body_of, function_of, stmt_of, typed_of}
use Rattle.c_typed.specs.declared.unit.TypedUnit.{TypedUnit}
use Rattle.c_code.specs.Limits.{instructions_of}
use Rattle.c_code.specs.Modules.{function_at}
use Rattle.c_compile.proofs.Modules.{func_added, instructions-push}
use Rattle.c_compile.proofs.unit.add_func.Goals as goal

pub returns-clause-funcs : goal.returns-clause-funcs
returns-clause-funcs c = λ f e.
    let u = typed_of c.args.typed.now in
    let n = c.args.number in
    let g = function_of c.in_ok-f.f.now in
    func_added u n f g (stmt_of c.in-Some.body) c.in_ok-func.func c.args.funcs.now c.push.new.self e
    (subst (λ (x : TypedUnit). function_at (typed_of x) n ≡ Some g) c.unit.ensures.same c.in_ok-f.ensures)
    (ap body_of c.in-Some.is) c.in_ok-func.ensures c.in_ok-push.ensures.items

pub returns-clause-room : goal.returns-clause-room
returns-clause-room c =
    let more = ap (λ (fs : List Func). instructions_of fs) c.in_ok-push.ensures.items ∙ instructions-push c.args.funcs.now c.in_ok-func.func in omega (arith, more, c.in_ok-room.ensures)
