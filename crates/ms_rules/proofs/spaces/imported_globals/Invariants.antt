use Rattle.std.proofs.Common.{◌≡◌, ◌++◌, drop}
use Rattle.ms_rules.specs.Context.{imported_globals}
use Rattle.ms_rules.proofs.spaces.imported_globals.Given as goal

abbrev pub invariant-loop-import : goal.invariant-loop-import
invariant-loop-import l = l.globals.items ++ imported_globals (drop l.import-index l.imports) ≡ imported_globals l.imports
