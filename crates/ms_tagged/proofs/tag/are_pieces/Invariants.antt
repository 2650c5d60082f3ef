use Rattle.std.proofs.Common.{◌≡◌, take}
use Rattle.ms_tagged.specs.refinement.Tags.{bytes_of, pieces_from}
use Rattle.ms_tagged.proofs.tag.are_pieces.Given as goal

abbrev pub invariant-loop-number : goal.invariant-loop-number
invariant-loop-number l = take l.number (bytes_of l.tags) ≡ pieces_from l.handle 0 l.number
