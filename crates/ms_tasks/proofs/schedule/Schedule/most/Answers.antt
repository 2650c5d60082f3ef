use Rattle.std.proofs.Common.{◌∙◌}
use Rattle.ms_tasks.specs.refinement.Schedules.{first_of}
use Rattle.ms_tasks.proofs.Only.{length_by_only}
use Rattle.ms_tasks.proofs.schedule.Schedule.most.Goals as goal

pub returns-clause-entries : goal.returns-clause-entries
returns-clause-entries c = λ tasks.
    length_by_only c.args.self.now.only tasks (first_of c.args.self.now.entries tasks c.args.budget) ∙ c.most.ensures.entries tasks
