use Rattle.std.proofs.Common.{◌≡◌, ◌++◌, ◌-◌, take}
use Rattle.ms_tagged.specs.Bytes.{data_of}
use Rattle.ms_tagged.specs.refinement.Tags.{bytes_of}
use Rattle.ms_tagged.proofs.tag.write_number.Given as goal

abbrev pub invariant-loop-tag : goal.invariant-loop-tag
invariant-loop-tag l =
    take l.tag-index (bytes_of l.tags) ++ data_of (l.tag-index-end - l.tag-index) l.rest ≡ data_of l.tag-index-end l.number
