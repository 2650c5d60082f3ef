use Rattle.std.proofs.Common.{◌≡◌, drop}
use Rattle.c_typed.specs.Parts.{sequence}
use Rattle.c_typed.specs.refinement.Views.{list_of}
use Rattle.c_code.specs.Uses.{in_stmts}
use Rattle.c_emit.specs.refinement.Found.{found, with_uses}
use Rattle.c_emit.proofs.uses.+using_statements.Given as goal

abbrev pub invariant-in_stmts-loop-s : goal.invariant-in_stmts-loop-s
invariant-in_stmts-loop-s l =
    with_uses l.structs (in_stmts (sequence (list_of (drop l.s-index l.ss)))) (found l.uses)
    ≡ with_uses l.structs (in_stmts (sequence (list_of l.ss))) (found l.fn.uses)
