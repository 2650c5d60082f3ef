use Rattle.std.proofs.Common.{◌≡◌, drop, max}
use Rattle.c_typed.specs.Parts.{sequence}
use Rattle.c_typed.specs.refinement.Views.{list_of}
use Rattle.c_code.specs.Uses.{waits_stmts}
use Rattle.c_compile.proofs.waits.+waiting_statements.Given as goal

abbrev pub invariant-waits_stmts-loop-s : goal.invariant-waits_stmts-loop-s
invariant-waits_stmts-loop-s l = max l.most (waits_stmts (sequence (list_of (drop l.s-index l.ss)))) ≡ waits_stmts (sequence (list_of l.ss))
