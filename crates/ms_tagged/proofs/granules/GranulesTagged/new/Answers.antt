use Rattle.ms_tagged.proofs.GranuleBytes.{bytes_from-none}
use Rattle.ms_tagged.proofs.granules.GranulesTagged.new.Goals as goal

pub returns : goal.returns
returns c = rw (c.in_ok-with_capacity.ensures.items, c.in_ok-with_capacity-2.ensures.items, c.in_ok-with_capacity-3.ensures.items) (bytes_from-none 0 c.args.capacity)
