use Rattle.c_emit.proofs.Steps.{then}
use Rattle.c_compile.proofs.statements.select_into.Goals as goal

pub returns : goal.returns
returns c =
    then _ _ _ _ _ _ _ _ c.in_ok-value.ensures
    (then _ _ _ _ _ _ _ _ c.in_ok-choose_default.ensures (then _ _ _ _ _ _ _ _ (c.in_ok-choose.ensures c.args.t.now.target) c.add.ensures))
