-- What the code's forms are.
use Rattle.std.specs.Prelude.{Box}
use Rattle.std.specs.declared.alloc.Global.{Global}
use Rattle.c_types.specs.declared.integers.IntType.{IntType}
use Rattle.c_types.specs.declared.types.CType.{CType}
use Rattle.c_types.specs.Types.{Ty, type_of}
use Rattle.c_typed.specs.Tree as to
use Rattle.c_typed.specs.refinement.Views.{expr_of, place_of}
use Rattle.c_typed.specs.declared.tree.Expr.{Expr}
use Rattle.c_typed.specs.declared.tree.Place.{Place}
use Rattle.c_typed.specs.declared.form.Amount.{Amount as AmountCode}
use Rattle.c_typed.specs.declared.form.Amount.TheVariants as amounts
use Rattle.c_typed.specs.declared.form.Form.{Form as Code}
use Rattle.c_typed.specs.declared.form.Form.TheVariants as code
use Rattle.c_typed.specs.Forms as words
use Rattle.c_typed.specs.Forms.{Amount, Form}

abbrev pub amount_of : AmountCode → Amount
amount_of (amounts.Bytes e) = words.bytes (expr_of e.value)
amount_of (amounts.Product n e) = words.product (expr_of n.value) (expr_of e.value)

abbrev pub form_of : Code → Form
form_of (code.Place p t) = words.place (place_of p.value) (type_of t)
form_of (code.Value e t) = words.value (expr_of e.value) (type_of t)
form_of (code.Designator e t) = words.designator (expr_of e.value) (type_of t)
form_of (code.Text bytes) = words.text bytes.now
form_of (code.Zero t) = words.zero t
form_of code.Null = words.null
form_of (code.Allocation a) = words.allocation (amount_of a)

abbrev pub boxed_expr : Box Expr Global → to.Expr
boxed_expr e = expr_of e.value

abbrev pub value_pair : Box Expr Global × CType → to.Expr × Ty
value_pair v = (expr_of v.0.value, type_of v.1)

abbrev pub integer_pair : Box Expr Global × IntType → to.Expr × IntType
integer_pair v = (expr_of v.0.value, v.1)

abbrev pub place_pair : Box Place Global × CType → to.Place × Ty
place_pair v = (place_of v.0.value, type_of v.1)
