use Rattle.std.proofs.Common.{◌∙◌, ap}
use Rattle.c_typed.specs.refinement.Views.{stmt_of}
use Rattle.c_typed.specs.declared.tree.Stmt.{Stmt}
use Rattle.c_typed.proofs.Sequences.{switch_is}
use Rattle.c_typed.proofs.build.switch_on.Goals as goal

pub returns : goal.returns
returns c = ap (λ (x : Stmt). stmt_of x) c.in_ok-s.ensures ∙ switch_is c.args.t c.args.e c.args.slots c.args.cases c.args.groups
