use Rattle.std.proofs.Common.{length}
use Rattle.ms_bin_grammar.specs.Bounds.{usual}
use Rattle.ms_bin_read.proofs.OpenBlocks.{none_open}
use Rattle.ms_bin_read.proofs.body.body_of.Goals as goal

pub finish-requires : goal.finish-requires
finish-requires c =
    let old = c.args.c.now in
    none_open usual.blocks (length old.left) c.in_ok-first.first c.in_ok-built.built old.end old.left c.run.new.c.left c.in_ok-built.ensures.0
