use Rattle.std.proofs.Common.{◌≡◌, ◌≤◌, ◌-◌, ◌++◌, drop, length}
use Rattle.ms_flat.specs.Keywords.{value_word}
use Rattle.ms_text_write.specs.Parts.{spaced}
use Rattle.ms_text_write.proofs.funcs.write_types.Given as goal

-- what is written and what is left are all of it
abbrev pub invariant-loop-ty : goal.invariant-loop-ty
invariant-loop-ty l = record {
  written : l.out.items ++ spaced value_word (drop l.index l.locals) ≡ l.initial.out.items ++ spaced value_word l.locals;
  within : l.index ≤ length l.locals;
}

abbrev pub decreases-loop-ty : goal.decreases-loop-ty
decreases-loop-ty l = length l.locals - l.index
