use Rattle.std.proofs.Common.{◌≡◌, ◌++◌, drop}
use Rattle.ms_rules.specs.Context.{imported_memories}
use Rattle.ms_rules.proofs.spaces.imported_memories.Given as goal

abbrev pub invariant-loop-import : goal.invariant-loop-import
invariant-loop-import l = l.memories.items ++ imported_memories (drop l.import-index l.imports) ≡ imported_memories l.imports
