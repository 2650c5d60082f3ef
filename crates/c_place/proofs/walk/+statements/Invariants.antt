use Rattle.std.proofs.Common.{◌≡◌, drop}
use Rattle.c_typed.specs.Objects.{in_stmts}
use Rattle.c_typed.specs.Parts.{sequence}
use Rattle.c_typed.specs.refinement.Views.{list_of}
use Rattle.c_place.specs.refinement.Marks.{marked}
use Rattle.c_place.proofs.walk.+statements.Given as goal

abbrev pub invariant-stmts-loop-s : goal.invariant-stmts-loop-s
invariant-stmts-loop-s l = marked (λ v. in_stmts v (sequence (list_of (drop l.s-index l.ss)))) l.marks ≡ marked (λ v. in_stmts v (sequence (list_of l.ss))) l.fn.marks
