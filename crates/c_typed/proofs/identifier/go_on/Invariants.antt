use Rattle.std.proofs.Common.{◌≡◌, drop}
use Rattle.c_typed.specs.Identifiers.{go_on}
use Rattle.c_typed.proofs.identifier.go_on.Given as goal

abbrev pub invariant-loop-b : goal.invariant-loop-b
invariant-loop-b l = go_on (drop l.b-index l.bytes) ≡ go_on l.bytes
