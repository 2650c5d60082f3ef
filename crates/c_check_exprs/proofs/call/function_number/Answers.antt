use Rattle.std.proofs.Common.{◌≡◌, ℕ, None, refl}
use Rattle.c_typed.specs.declared.tree.Expr.{Expr}
use Rattle.c_typed.specs.declared.tree.Expr.TheVariants as code
use Rattle.c_typed.specs.declared.tree.Sized.TheVariants as sizes
use Rattle.c_typed.specs.refinement.Views.{expr_of}
use Rattle.c_check_exprs.specs.Expressions.{function_number}
use Rattle.c_check_exprs.proofs.call.function_number.Goals as goal

another : (e : Expr) → ((n : ℕ) → e ≡ code.Function n → ⊥) → None ≡ function_number (expr_of e)
another (code.Function n) differs = absurd (differs n refl)
another (code.SizeOf n (sizes.Place' p b)) differs = refl
another (code.SizeOf n (sizes.Value' p e)) differs = refl
another (code.SizeOf n sizes.Nothing) differs = refl
another e differs = refl

pub returns-in_default : goal.returns-in_default
returns-in_default c = another c.args.e.now c.in_default.not-Function
