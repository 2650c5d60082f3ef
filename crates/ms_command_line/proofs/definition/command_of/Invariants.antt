use Rattle.std.proofs.Common.{◌≡◌, map, drop}
use Rattle.std.specs.Prelude.{fold}
use Rattle.clap.specs.Words.{App, new_app, with_rule}
use Rattle.ms_command_line.specs.Commands.{Is, app_of_command, number_rule, option_rule, place_rule}
use Rattle.ms_command_line.specs.refinement.Rows.{command_said, number_said, option_said}
use Rattle.ms_command_line.proofs.definition.command_of.Given as goal

-- the command with the words so far, and what those that are left make of it
abbrev pub invariant-loop-place : goal.invariant-loop-place
invariant-loop-place l = (app : App) × Is app l.command
    × (fold with_rule app (map (λ place. place_rule place.now) (drop l.place-index l.row.places.now)) ≡ fold with_rule (new_app l.row.name.now) (map place_rule (map (λ place. place.now) l.row.places.now)))

-- the same of the numbers
abbrev pub invariant-loop-number : goal.invariant-loop-number
invariant-loop-number l = (app : App) × Is app l.command
    × (fold with_rule app (map (λ p. number_rule (number_said p)) (drop l.number-index l.row.numbers.now))
    ≡ fold with_rule (fold with_rule (new_app l.row.name.now) (map place_rule (map (λ place. place.now) l.row.places.now))) (map number_rule (map number_said l.row.numbers.now)))

-- and of the options
abbrev pub invariant-loop-option : goal.invariant-loop-option
invariant-loop-option l = (app : App) × Is app l.command
    × (fold with_rule app (map (λ o. option_rule (option_said o)) (drop l.option-index l.row.options.now)) ≡ app_of_command (command_said l.row))
