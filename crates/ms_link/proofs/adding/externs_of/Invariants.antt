use Rattle.std.proofs.Common.{◌≡◌, drop}
use Rattle.ms_machine.specs.Externs.{externs}
use Rattle.ms_link.proofs.Resolving.{with_front}
use Rattle.ms_link.proofs.adding.externs_of.Given as goal

abbrev pub invariant-loop-item : goal.invariant-loop-item
invariant-loop-item l = with_front l.given.items (externs l.made l.sigs l.item (drop l.item l.imports)) ≡ externs l.made l.sigs 0 l.imports
