use Rattle.std.proofs.Common.{◌≡◌, take, replicate}
use Rattle.ms_tagged.specs.Bytes.{Data}
use Rattle.ms_tagged.specs.refinement.Tags.{bytes_of}
use Rattle.ms_tagged.proofs.tag.write_zeros.Given as goal

abbrev pub invariant-loop-tag : goal.invariant-loop-tag
invariant-loop-tag l = take l.tag-index (bytes_of l.tags) ≡ replicate l.tag-index (Data 0)
