use Rattle.std.proofs.Common.{◌≡◌, length}
use Rattle.ms_module.specs.Instructions.{has_inside}
use Rattle.ms_text_parts.proofs.words.has_inside.Given as goal

abbrev pub invariant-loop-left : goal.invariant-loop-left
invariant-loop-left l = has_inside l.part l.left ≡ has_inside l.part l.text

abbrev pub decreases-loop-left : goal.decreases-loop-left
decreases-loop-left l = length l.left
