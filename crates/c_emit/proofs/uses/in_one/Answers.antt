use Rattle.std.proofs.Common.{ap}
use Rattle.c_typed.specs.refinement.Views.{made_of}
use Rattle.c_emit.specs.refinement.Found.{in_one}
use Rattle.c_emit.proofs.Using.{found_as, global_uses, nothing_found}
use Rattle.c_emit.proofs.uses.in_one.Goals as goal

pub returns-in-Global : goal.returns-in-Global
returns-in-Global c =
    found_as _ _ c.in_stmts.result _ _ _ _ _ (global_uses c.args.m.now _ _ _ c.in-Global.is c.deref.ensures.value) c.in_stmts.ensures

pub returns-in-Literal : goal.returns-in-Literal
returns-in-Literal c = nothing_found _ _ _ (ap (λ m. in_one (made_of m)) c.in-Literal.is)
