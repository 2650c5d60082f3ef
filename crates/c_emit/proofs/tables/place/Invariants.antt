use Rattle.std.proofs.Common.{◌≡◌, ◌+◌, drop}
use Rattle.c_emit.specs.refinement.Placed.{placed}
use Rattle.c_emit.proofs.tables.place.Given as goal

abbrev pub invariant-loop-i : goal.invariant-loop-i
invariant-loop-i l = placed l.index.items (drop l.i l.numbers) (l.first + l.i) ≡ placed l.initial.index.items l.numbers l.first
