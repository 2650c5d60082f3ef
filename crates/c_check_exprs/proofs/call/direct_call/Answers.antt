use Rattle.std.proofs.Common.{◌∙◌, ap}
use Rattle.c_typed.specs.refinement.Views.{expr_of}
use Rattle.c_typed.specs.declared.tree.Expr.{Expr}
use Rattle.c_check_exprs.proofs.Lists.{call_is}
use Rattle.c_check_exprs.proofs.call.direct_call.Goals as goal

pub returns : goal.returns
returns c = ap (λ (x : Expr). expr_of x) c.in_ok-e.ensures ∙ call_is c.args.n c.args.scalar c.args.es
