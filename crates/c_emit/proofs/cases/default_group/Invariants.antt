use Rattle.std.proofs.Common.{◌≡◌, None, drop}
use Rattle.c_meaning.specs.Statements.{group_at, or_else}
use Rattle.c_emit.proofs.cases.default_group.Given as goal

abbrev pub invariant-loop-case : goal.invariant-loop-case
invariant-loop-case l = or_else (group_at None (drop l.case-index l.cases)) l.groups ≡ or_else (group_at None l.cases) l.groups
