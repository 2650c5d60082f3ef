use Rattle.std.proofs.lemmas.Result.{err_from_is_err_and}
use Rattle.c_check_types.specs.refinement.Views.{state_of}
use Rattle.c_check.proofs.Faults.{told}
use Rattle.c_check.proofs.unit.typed_unit.Goals as goal

pub returns-in_err-externals : goal.returns-in_err-externals
returns-in_err-externals c =
    let p = err_from_is_err_and c.from_residual-in_err-externals.result c.from_residual-in_err-externals.ensures.1 in
    rw (p.1, p.2) (told c.args.xs.now (state_of c.in_ok-checker.checker) (state_of c.externals.new.checker) c.in_err-externals.field-0.0 c.in_ok-checker.ensures c.in_err-externals.ensures)
