use Rattle.std.proofs.Common.{[], subst}
use Rattle.c_productions.specs.refinement.Meaning.{Reaches, here}
use Rattle.c_parse.specs.declared.steps.Goal.{Goal}
use Rattle.c_parse.specs.declared.steps.Goal.TheVariants as goals
use Rattle.c_parse.specs.refinement.Calls.{state}
use Rattle.c_productions.specs.refinement.Table.{rests}
use Rattle.c_parse.proofs.Ways.{ended}
use Rattle.c_parse.proofs.Falls.{resumes_less}
use Rattle.c_parse.proofs.runs.finish.Goals as goal

pub coming-init : goal.coming-init
coming-init c = here (state c.args.goal c.args.waiting.now) []

pub coming-preserved : goal.coming-preserved
coming-preserved c =
    let e = rw c.in-Goes.is at c.in_ok-next.ensures in
    let s = state c.args.goal c.args.waiting.now in
    let P : Goal → Type 0 = λ g. Reaches s [] (state g c.coming.waiting) [] in
    ended s (state (goals.Made c.in-Made.kind c.in-Made.value) c.coming.waiting) (state c.in-Goes.next c.resume.new.waiting) (subst P c.in-Made.is c.coming.invariant) e

pub coming-smaller : goal.coming-smaller
coming-smaller c =
    let e = rw c.in-Goes.is at c.in_ok-next.ensures in
    resumes_less (rests c.in-Made.kind c.in-Made.value) c.coming.waiting (state c.in-Goes.next c.resume.new.waiting) e
