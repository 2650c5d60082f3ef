use Rattle.std.proofs.Common.{map}
use Rattle.ms_link.proofs.Puts.{element_more}
use Rattle.ms_link.specs.refinement.Fitting.{entry_count}
use Rattle.ms_link.proofs.putting.put_elements.Goals as goal

pub loop-e-preserved : goal.loop-e-preserved
loop-e-preserved c =
    element_more c.args.funcs.now c.args.globals.now c.args.instance.now c.args.elements.now c.loop-e.e-index c.e-item.result c.loop-e.tables c.put_element.new.tables _ (map entry_count c.args.tables.now)
    c.loop-e-test.true c.e-item.is c.requires.fit c.loop-e.invariant.1 c.in_ok-put_element.ensures c.loop-e.invariant.0
