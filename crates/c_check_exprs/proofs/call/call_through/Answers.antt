use Rattle.std.proofs.Common.{◌∙◌, ap}
use Rattle.c_types.specs.Types.{Ty}
use Rattle.c_types.specs.declared.types.CType.TheVariants as types
use Rattle.c_typed.specs.Tree as to
use Rattle.c_typed.specs.refinement.Views.{expr_of}
use Rattle.c_typed.specs.declared.tree.Expr.{Expr}
use Rattle.c_check_types.proofs.TypeLists.{function_is}
use Rattle.c_check_exprs.specs.Expressions.{exprs_of}
use Rattle.c_check_exprs.specs.refinement.Views.{exprs_in}
use Rattle.c_check_exprs.proofs.Lists.{call_through_is}
use Rattle.c_check_exprs.proofs.call.call_through.Goals as goal

pub returns : goal.returns
returns c =
    ap (λ (x : Expr). expr_of x) c.in_ok-e.ensures ∙ call_through_is (types.Function c.args.s) c.args.scalar c.args.callee c.args.es
    ∙ ap (λ (t : Ty). to.call_through t c.args.scalar (expr_of c.args.callee.value) (exprs_of (exprs_in c.args.es.items))) (function_is c.args.s)
