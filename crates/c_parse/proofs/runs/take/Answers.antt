use Rattle.std.proofs.Common.{◌∷◌}
use Rattle.c_productions.specs.refinement.Meaning.{here}
use Rattle.c_parse.specs.refinement.Calls.{goal_of, state}
use Rattle.c_parse.proofs.Falls.{goes_less}
use Rattle.c_parse.proofs.Ways.{taken, gone}
use Rattle.c_parse.proofs.runs.take.Goals as goal

pub coming-init : goal.coming-init
coming-init c = λ q. here (state c.args.goal c.args.waiting.now) (c.args.word.now ∷ q)

pub returns-in-Taken : goal.returns-in-Taken
returns-in-Taken c =
    let e = rw c.in-Taken.is at c.in_ok-next.ensures in
    taken (state c.args.goal c.args.waiting.now) (state c.coming.goal c.coming.waiting) (state c.in-Taken.next c.advance.new.waiting) c.args.word.now c.coming.invariant e

pub returns-in-Stops : goal.returns-in-Stops
returns-in-Stops c =
    let e = rw c.in-Stops.is at c.in_ok-next.ensures in
    record { last = state c.coming.goal c.coming.waiting; comes = c.coming.invariant; stop = e.0; not_whole = e.1 }

pub coming-preserved : goal.coming-preserved
coming-preserved c =
    let e = rw c.in-Goes.is at c.in_ok-next.ensures in
    gone (state c.args.goal c.args.waiting.now) (state c.coming.goal c.coming.waiting) (state c.in-Goes.next c.advance.new.waiting) c.args.word.now c.coming.invariant e

pub coming-smaller : goal.coming-smaller
coming-smaller c =
    let e = rw c.in-Goes.is at c.in_ok-next.ensures in
    goes_less (goal_of c.coming.goal) c.coming.waiting c.args.word.now (state c.in-Goes.next c.advance.new.waiting) e
