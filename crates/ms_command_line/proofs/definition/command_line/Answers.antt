use Rattle.std.proofs.Common.{◌∙◌, ap, true}
use Rattle.std.proofs.lemmas.Result.{IfOk-weaker}
use Rattle.clap.specs.declared.builder.command.Command.{Command}
use Rattle.clap.specs.declared.builder.command.Command.TheOpen.{Command-F}
use Rattle.ms_command_line.specs.Commands.{bare, program}
use Rattle.ms_command_line.proofs.Building.{set_settings}
use Rattle.ms_command_line.proofs.definition.command_line.Goals as goal

pub returns : goal.returns
returns c =
    let start = set_settings c.new.result c.disable_help_subcommand-program.result _ c.new.ensures.app c.new.ensures.local
    (c.disable_help_subcommand-program.ensures ∙ ap (λ (f : Command-F Command). record f { disable_help_subcommand = true }) c.subcommand_required.ensures) in
    IfOk-weaker c.with_commands.result _ _ (λ r h. h (bare program) start) c.with_commands.ensures
