-- What holds of each job that a text says.
use Rattle.std.specs.Prelude.{◌<◌, ◌≤◌, ℕ, List, IfSome, length, map}
use Rattle.std.specs.List.{All}
use Rattle.ms_rules.specs.Modules.{AreDistinct}
use Rattle.ms_command_line.specs.Commands as options
use Rattle.ms_job.specs.Jobs.{most_lines}
use Rattle.ms_job.specs.declared.job.Job.{Job}

-- the numbers of a task and of modules, where there are so many of each
abbrev pub AreThere : (tasks modules : ℕ) → ℕ × List ℕ → Type 0
AreThere tasks modules asked = (asked.0 < tasks) × All (λ number. number < modules) asked.1

-- names, tasks and numbers are within what its lines may say
pub record IsBounded (j : Job) : Type 0 where
  -- no two modules have one name
  pub names : AreDistinct (map (λ m. m.0) j.modules)
  -- there is a task, and there are at most as many as lines may name
  pub some : 0 < length j.tasks
  pub few : length j.tasks ≤ most_lines
  -- how many entries in a row name one task
  pub turns : 0 < j.turns
  -- how many entries are used at most
  pub budget : j.budget ≤ options.budget.most
  -- how many bytes the segment memory has
  pub memory : j.memory ≤ options.memory.most
  -- what is asked of reach names what there is
  pub reach : All (AreThere (length j.tasks) (length j.modules)) j.reach
  -- the task whose entries alone name one is there
  pub only : IfSome j.only (λ task. task < length j.tasks)
