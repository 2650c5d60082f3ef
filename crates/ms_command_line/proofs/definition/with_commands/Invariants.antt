use Rattle.std.proofs.Common.{◌≡◌, map, drop}
use Rattle.std.specs.Prelude.{fold}
use Rattle.clap.specs.Words.{App}
use Rattle.ms_command_line.specs.Commands.{Is, with_command}
use Rattle.ms_command_line.specs.refinement.Rows.{command_said}
use Rattle.ms_command_line.proofs.definition.with_commands.Given as goal

-- the command line with the commands so far, and what those that are left make of it
abbrev pub invariant-loop-row : goal.invariant-loop-row
invariant-loop-row l = (start : App) → Is start l.fn.program
    → (app : App) × Is app l.program × (fold with_command app (map command_said (drop l.row-index l.rows)) ≡ fold with_command start (map command_said l.rows))
