use Rattle.std.proofs.Common.{◌≡◌, false, get_or}
use Rattle.std.specs.Prelude.{filter}
use Rattle.c_typed.specs.Units.{numbers}
use Rattle.c_emit.proofs.tables.numbers_of.Given as goal

abbrev pub invariant-loop-i : goal.invariant-loop-i
invariant-loop-i l = l.all.items ≡ filter (λ n. get_or l.flags n false) (numbers l.i)
