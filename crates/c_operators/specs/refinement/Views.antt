-- What two operands beside each other are.
use Rattle.c_types.specs.Types.{type_of}
use Rattle.c_typed.specs.refinement.Views.{expr_of}
use Rattle.c_operators.specs.declared.beside.Both.{Both as BothCode}
use Rattle.c_operators.specs.declared.beside.Both.TheVariants as boths
use Rattle.c_operators.specs.Operations as operations
use Rattle.c_operators.specs.Operations.{Both}

abbrev pub both_of : BothCode → Both
both_of (boths.Integers a t b u) = operations.integers (expr_of a.value) t (expr_of b.value) u
both_of (boths.Pointers t a b) = operations.pointers (type_of t.value) (expr_of a.value) (expr_of b.value)
both_of (boths.Voids a b) = operations.voids (expr_of a.value) (expr_of b.value)
