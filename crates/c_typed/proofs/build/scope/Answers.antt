use Rattle.std.proofs.Common.{◌∙◌, ap}
use Rattle.c_typed.specs.refinement.Views.{stmt_of}
use Rattle.c_typed.specs.declared.tree.Stmt.{Stmt}
use Rattle.c_typed.proofs.Sequences.{scope_is}
use Rattle.c_typed.proofs.build.scope.Goals as goal

pub returns : goal.returns
returns c = ap (λ (x : Stmt). stmt_of x) c.in_ok-s.ensures ∙ scope_is c.args.slots c.args.done
