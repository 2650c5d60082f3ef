use Rattle.std.proofs.Common.{◌≡◌, drop, length}
use Rattle.ms_text_grammar.specs.refinement.Balance.{Balanced}
use Rattle.ms_text_grammar.specs.ResolvedBodies.{built, nothing_built}
use Rattle.ms_text_resolve.specs.refinement.Steps.{elses_of}
use Rattle.ms_text_resolve.proofs.body.built.Given as goal

abbrev pub invariant-loop-step : goal.invariant-loop-step
invariant-loop-step l =
    let c = l.around.context.now in
    let ids = l.around.locals.now.ids in
    let uses = l.around.uses.now in
    record {
      same : built c.source c.scope ids uses (drop l.step-index l.ops) l.making ≡ built c.source c.scope ids uses l.ops nothing_built;
      whole : Balanced (elses_of l.making.st.blocks) (drop l.step-index l.ops);
      labels : length l.making.labels ≡ length (elses_of l.making.st.blocks);
    }
