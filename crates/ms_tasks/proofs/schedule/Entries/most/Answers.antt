use Rattle.std.proofs.Common.{◌≡◌, length, sym, subst}
use Rattle.ms_tasks.specs.refinement.Schedules.{first_of}
use Rattle.ms_tasks.specs.declared.schedule.Entries.{Entries}
use Rattle.ms_tasks.proofs.Outs.{length_turns}
use Rattle.ms_tasks.proofs.schedule.Entries.most.Goals as goal

pub returns-in-Turns-clause-entries : goal.returns-in-Turns-clause-entries
returns-in-Turns-clause-entries c = λ tasks.
    subst (λ (x : Entries). length (first_of x tasks c.args.budget) ≡ c.args.budget) (sym c.in-Turns.is) (length_turns c.in-Turns.field-0 tasks 0 c.args.budget)
