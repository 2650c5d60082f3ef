use Rattle.std.proofs.Common.{map}
use Rattle.ms_link.proofs.Puts.{fill_more}
use Rattle.ms_link.specs.refinement.Fitting.{byte_count}
use Rattle.ms_link.proofs.putting.put_fills.Goals as goal

pub loop-f-preserved : goal.loop-f-preserved
loop-f-preserved c =
    fill_more c.args.globals.now c.args.instance.now c.args.fills.now c.loop-f.f-index c.f-item.result c.loop-f.memories c.put_fill.new.memories _ (map byte_count c.args.memories.now)
    c.loop-f-test.true c.f-item.is c.requires c.loop-f.invariant.1 c.put_fill.ensures c.loop-f.invariant.0
