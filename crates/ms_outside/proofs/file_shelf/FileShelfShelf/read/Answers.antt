use Rattle.ms_outside.proofs.file_shelf.FileShelfShelf.read.Goals as goal

pub returns-clause-faults : goal.returns-clause-faults
returns-clause-faults g c =
    rw (c.close_reader.ensures.reads, ← c.in-Ok.ensures.counts) (c.read_to_end-fetched.ensures.faults c.args.name.now)
