use Rattle.std.proofs.Common.{sym, subst}
use Rattle.ms_num.specs.Integers.{IsWidth}
use Rattle.c_types.specs.declared.integers.IntType.{IntType}
use Rattle.c_types.specs.Integers.{bits}
use Rattle.c_check_types.proofs.Wide.{common_wide}
use Rattle.c_check_types.proofs.constants.common.Goals as goal

pub returns-clause-wide : goal.returns-clause-wide
returns-clause-wide c =
    let P : IntType → Type 0 = λ t. IsWidth (bits t) in
    subst P (sym c.common.ensures) (common_wide c.args.t c.args.u)
