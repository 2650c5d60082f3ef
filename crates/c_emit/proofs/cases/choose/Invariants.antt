use Rattle.std.proofs.Common.{drop}
use Rattle.c_code.specs.Statements as words
use Rattle.c_code.specs.Targets.{Target}
use Rattle.c_emit.proofs.Items.{IsLeft}
use Rattle.c_emit.proofs.cases.choose.Given as goal

abbrev pub invariant-loop-case : goal.invariant-loop-case
invariant-loop-case l =
    (site : Target) → IsLeft l.fn.body l.body (words.chosen site l.u l.operand (drop l.case-index l.cases)) (words.chosen site l.u l.operand l.cases)
