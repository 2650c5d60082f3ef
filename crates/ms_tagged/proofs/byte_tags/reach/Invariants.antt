use Rattle.std.proofs.Common.{◌≡◌, ◌+◌, ◌++◌, replicate, vec_len, vec_capacity}
use Rattle.ms_tagged.specs.declared.tag.Tag.TheVariants as tag
use Rattle.ms_tagged.proofs.byte_tags.reach.Given as goal

abbrev pub invariant-loop : goal.invariant-loop
invariant-loop l = record {
  items : l.tags.items ≡ l.fn.tags.items ++ replicate l.counter (tag.Data 0);
  len : vec_len l.tags ≡ vec_len l.fn.tags + l.counter;
  capacity : vec_capacity l.tags ≡ vec_capacity l.fn.tags;
}
