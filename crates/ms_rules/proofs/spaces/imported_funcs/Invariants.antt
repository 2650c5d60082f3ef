use Rattle.std.proofs.Common.{◌≡◌, ◌++◌, drop}
use Rattle.ms_rules.specs.Context.{imported_funcs}
use Rattle.ms_rules.proofs.spaces.imported_funcs.Given as goal

abbrev pub invariant-loop-import : goal.invariant-loop-import
invariant-loop-import l = l.funcs.items ++ imported_funcs (drop l.import-index l.imports) ≡ imported_funcs l.imports
