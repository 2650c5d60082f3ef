use Rattle.std.proofs.Common.{◌≡◌, ◌∷◌, ◌++◌, ◌+◌, ◌<◌, length}
use Rattle.std.specs.Fmt.{decimal}
use Rattle.ms_event.specs.Text.{IsId}
use Rattle.ms_event.proofs.number.more_digits.Given as goal

abbrev pub invariant-loop-next : goal.invariant-loop-next
invariant-loop-next l = record {
  positive : 0 < l.value;
  fits : IsId l.value;
  so_far : (48 + l.fn.first) ∷ l.fn.left.left ≡ decimal l.value ++ l.left.left;
}

abbrev pub decreases-loop-next : goal.decreases-loop-next
decreases-loop-next l = length l.left.left
