use Rattle.std.proofs.Common.{◌++◌, take, arith, ◌∙◌}
use Rattle.std.proofs.lemmas.Grind.{common_steps}
use Rattle.ms_outside.proofs.Adapters.{Appends-then}
use Rattle.ms_outside.proofs.std_sink.write_and_flush.Goals as goal

pub loop-rest-preserved : goal.loop-rest-preserved
loop-rest-preserved g c =
    record {
      written = (
        c.loop-rest.invariant.written.0 ++ take c.in-Ok.n c.loop-rest.rest.now,
        grind (arith, common_steps, c.loop-rest.invariant.written.1),
        Appends-then _ _ _ _ _ c.loop-rest.invariant.written.2 c.in-Ok.ensures.bytes,
      );
      faults = c.in-Ok.ensures.faults ∙ c.loop-rest.invariant.faults;
    }
