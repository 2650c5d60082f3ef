use Rattle.std.proofs.Common.{◌≡◌, ◌++◌, drop}
use Rattle.ms_rules.specs.Context.{imported_tables}
use Rattle.ms_rules.proofs.spaces.imported_tables.Given as goal

abbrev pub invariant-loop-import : goal.invariant-loop-import
invariant-loop-import l = l.tables.items ++ imported_tables (drop l.import-index l.imports) ≡ imported_tables l.imports
