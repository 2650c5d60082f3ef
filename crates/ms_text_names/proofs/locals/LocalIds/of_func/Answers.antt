use Rattle.std.proofs.Common.{arith}
use Rattle.std.proofs.lemmas.Grind.{common_steps}
use Rattle.ms_text_names.proofs.Repeats.{repeats_named, repeats_unnamed}
use Rattle.ms_text_names.proofs.locals.LocalIds.of_func.Goals as goal

pub returns-then-is_empty-clause-wrong : goal.returns-then-is_empty-clause-wrong
returns-then-is_empty-clause-wrong c =
    let r = repeats_unnamed c.args.context.now.source c.args.context.now.scope c.args.index c.args.sig.now c.args.locals.now (search arith) in
    rw r (grind (arith, common_steps))

pub returns-clause-wrong : goal.returns-clause-wrong
returns-clause-wrong c =
    let r = repeats_named c.args.context.now.source c.args.context.now.scope c.args.index c.args.sig.now c.args.locals.now (search arith) in
    rw r (grind (arith, common_steps))
