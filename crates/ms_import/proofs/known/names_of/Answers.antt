use Rattle.ms_import.proofs.Exports.{name_new}
use Rattle.ms_import.proofs.known.names_of.Goals as goal

pub put_new-requires : goal.put_new-requires
put_new-requires c =
    name_new c.loop-export.names c.args.exports.now c.loop-export.export-index c.export-item.result c.as_str.result.now c.loop-export.invariant c.requires c.loop-export-test.true c.export-item.is c.as_str.ensures
