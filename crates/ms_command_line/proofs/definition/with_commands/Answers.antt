use Rattle.std.proofs.Common.{◌∙◌, [], refl}
use Rattle.std.specs.Prelude.{slice_index_or}
use Rattle.ms_command_line.specs.Commands.{app_of_command, with_command}
use Rattle.ms_command_line.specs.Commands as said
use Rattle.ms_command_line.specs.declared.definition.CommandRow.{CommandRow}
use Rattle.ms_command_line.specs.refinement.Rows.{command_said}
use Rattle.ms_command_line.proofs.Building.{adds_subcommand, fold_done, fold_step}
use Rattle.ms_command_line.proofs.definition.with_commands.Goals as goal

pub loop-row-init : goal.loop-row-init
loop-row-init c = λ start is. (start, is, refl)

pub loop-row-preserved : goal.loop-row-preserved
loop-row-preserved c = λ start is.
    let so_far = c.loop-row.invariant start is in
    let none : CommandRow = record { name = record { ref_ptr = (0, 0); now = [] }; places = record { ref_ptr = (0, 0); now = [] }; numbers = record { ref_ptr = (0, 0); now = [] }; options = record { ref_ptr = (0, 0); now = [] } } in
    let row : said.CommandRow = command_said (slice_index_or c.args.rows.now c.loop-row.row-index none) in (
      with_command so_far.0 row,
      adds_subcommand so_far.0 (app_of_command row) c.loop-row.program c.in_ok-command_of.field-0 c.in_ok-program.program so_far.1 c.in_ok-command_of.ensures c.in_ok-program.ensures,
      fold_step with_command command_said c.args.rows.now c.loop-row.row-index none so_far.0 _ c.loop-row-test.true so_far.2,
    )

pub returns : goal.returns
returns c = λ start is.
    let so_far = c.loop-row.invariant start is in
    let whole = fold_done with_command command_said c.args.rows.now c.loop-row.row-index so_far.0 _ c.loop-row-test.false so_far.2 in
    record { shape = so_far.1.shape ∙ whole; local = so_far.1.local }
