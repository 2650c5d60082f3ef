use Rattle.std.proofs.Common.{◌≡◌, drop}
use Rattle.ms_machine.specs.Externs.{latest_func, or_this}
use Rattle.ms_import.proofs.looking.latest_func.Given as goal

abbrev pub invariant-loop-instance : goal.invariant-loop-instance
invariant-loop-instance l = or_this (latest_func l.name (drop l.instance-index l.instances)) l.latest ≡ latest_func l.name l.instances
