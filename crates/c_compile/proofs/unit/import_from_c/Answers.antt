use Rattle.std.proofs.Common.{◌≡◌, IfOk, subst}
use Rattle.ms_module.specs.declared.module.Import.{Import}
use Rattle.c_typed.specs.refinement.Views.{function_of, typed_of}
use Rattle.c_compile.proofs.Modules.{import_is}
use Rattle.c_compile.proofs.unit.import_from_c.Goals as goal

pub returns : goal.returns
returns c =
    let f = function_of c.in_ok-function_at.field-0.now in
    subst (λ (i : Import). IfOk c.import.result (λ x. x ≡ i))
    (import_is (typed_of c.args.unit.now) c.args.number f c.in_ok-name.name.now c.in_ok-sum.field-0 c.in_ok-function_at.ensures c.in_ok-name.ensures c.in_ok-sum.ensures)
    c.import.ensures
