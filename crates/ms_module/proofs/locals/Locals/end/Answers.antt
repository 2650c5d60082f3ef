use Rattle.std.proofs.Common.{sym}
use Rattle.ms_module.proofs.Runs.{length-at_last}
use Rattle.ms_module.proofs.locals.Locals.end.Goals as goal

pub returns-in-Some : goal.returns-in-Some
returns-in-Some c =
    let last = rw c.deref.ensures.value at c.in-Some.ensures.value in
    rw (← c.self.view_is) (length-at_last c.self.inside.runs.items c.in-Some.run'.now c.self.invariant.0 (sym last))
