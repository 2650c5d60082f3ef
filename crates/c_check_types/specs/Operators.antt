-- Operators as typing sees them (C11, 6.5.3.3, 6.5.5 to 6.5.14, 6.5.16).
use Rattle.c_tree.specs.declared.operators.BinaryOp.{BinaryOp}
use Rattle.c_tree.specs.declared.operators.BinaryOp.TheVariants as written
use Rattle.c_typed.specs.declared.ops.BinaryOp.TheVariants as ops
use Rattle.c_typed.specs.declared.ops.RelOp.TheVariants as relations
use Rattle.c_check_types.specs.declared.operators.Operator.{Operator}
use Rattle.c_check_types.specs.declared.operators.Operator.TheVariants.{And, Or, Equality, Order, Arithmetic, Shift, Plus, Minus}

abbrev pub operator_of : BinaryOp → Operator
operator_of written.Or = Or
operator_of written.And = And
operator_of written.BitOr = Arithmetic ops.Or
operator_of written.BitXor = Arithmetic ops.Xor
operator_of written.BitAnd = Arithmetic ops.And
operator_of written.Equal = Equality relations.Equal
operator_of written.NotEqual = Equality relations.NotEqual
operator_of written.Less = Order relations.Less
operator_of written.Greater = Order relations.Greater
operator_of written.AtMost = Order relations.LessEqual
operator_of written.AtLeast = Order relations.GreaterEqual
operator_of written.ShiftLeft = Shift ops.ShiftLeft
operator_of written.ShiftRight = Shift ops.ShiftRight
operator_of written.Add = Plus
operator_of written.Sub = Minus
operator_of written.Mul = Arithmetic ops.Mul
operator_of written.Div = Arithmetic ops.Div
operator_of written.Rem = Arithmetic ops.Rem
