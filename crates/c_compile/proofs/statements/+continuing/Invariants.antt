use Rattle.std.proofs.Common.{◌≡◌, drop}
use Rattle.c_typed.specs.Parts.{sequence}
use Rattle.c_typed.specs.refinement.Views.{list_of}
use Rattle.c_code.specs.Statements.{any_continues}
use Rattle.c_compile.proofs.statements.+continuing.Given as goal

abbrev pub invariant-any_continues-loop-s : goal.invariant-any_continues-loop-s
invariant-any_continues-loop-s l = any_continues (sequence (list_of (drop l.s-index l.ss))) ≡ any_continues (sequence (list_of l.ss))
