use Rattle.std.proofs.Common.{arith}
use Rattle.std.proofs.lemmas.Result.{err_from_is_err_and}
use Rattle.ms_bin_write.specs.declared.fault.BinFault.TheVariants.{Large}
use Rattle.ms_bin_write.specs.Written.{func_bytes}
use Rattle.ms_bin_write.proofs.Counts.{among_len, same_err}
use Rattle.ms_bin_write.proofs.funcs.write_funcs.Goals as goal

pub returns-in_err-write_func-clause-large : goal.returns-in_err-write_func-clause-large
returns-in_err-write_func-clause-large c = λ e.
    let result = c.from_residual-in_err-write_func.result in
    let fault = c.in_err-write_func.field-0.0 in
    let p = err_from_is_err_and result c.from_residual-in_err-write_func.ensures.1 in
    let large = c.in_err-write_func.ensures.large (same_err result p.0 fault Large p.1 p.2 e) in
    let len = among_len func_bytes c.args.funcs.now c.loop-func.func-index c.func-item.result c.loop-func-test.true c.func-item.is in
    omega arith
