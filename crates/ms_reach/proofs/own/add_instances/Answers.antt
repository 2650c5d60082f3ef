use Rattle.std.proofs.lemmas.Option.{slice_get-get_or}
use Rattle.std.proofs.Math.ListN.{get_or}
use Rattle.ms_reach.specs.refinement.OwnValues.{values_of}
use Rattle.ms_reach.proofs.Gathering.{gather_flat}
use Rattle.ms_reach.proofs.own.add_instances.Goals as goal

pub loop-i-preserved : goal.loop-i-preserved
loop-i-preserved g c =
    let xs = c.args.set.now in
    let i = c.loop-i.i in
    gather_flat c.args.live.now (values_of c.args.store.now) xs i (get_or xs i 0) c.args.closing.now c.loop-i.closing c.add_instance.new.closing (slice_get-get_or xs i 0 c.loop-i-test.true) c.loop-i.invariant c.in_ok-add_instance.ensures
