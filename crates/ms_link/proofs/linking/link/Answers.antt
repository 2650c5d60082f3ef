use Rattle.std.proofs.Common.{arith}
use Rattle.ms_link.proofs.Plain.{does_link_fits, does_link_sound}
use Rattle.ms_link.proofs.linking.link.Goals as goal

pub returns-clause-fits : goal.returns-clause-fits
returns-clause-fits g c = does_link_fits c.args.modules.items c.args.capacity c.store_or_fault.result c.store_or_fault.ensures.link (omega arith)

pub returns-clause-sound : goal.returns-clause-sound
returns-clause-sound g c = does_link_sound c.args.modules.items c.args.capacity c.store_or_fault.result c.store_or_fault.ensures.link
