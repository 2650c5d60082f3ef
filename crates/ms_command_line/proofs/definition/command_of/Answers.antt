use Rattle.std.proofs.Common.{◌∙◌, Bor, List, map, ap, sym}
use Rattle.std.specs.Prelude.{fold}
use Rattle.std.proofs.lemmas.Simd.{map-map}
use Rattle.clap.specs.Words.{App, Rule, Text, new_app, with_rule}
use Rattle.ms_command_line.specs.Commands.{number_rule, option_rule, place_rule}
use Rattle.ms_command_line.specs.refinement.Rows.{number_said, option_said}
use Rattle.ms_command_line.specs.declared.definition.NumberOption.{NumberOption}
use Rattle.ms_command_line.specs.declared.definition.NumberPlace.{NumberPlace}
use Rattle.ms_command_line.proofs.Building.{adds_arg, fold_done, fold_step}
use Rattle.ms_command_line.proofs.definition.command_of.Goals as goal

pub loop-place-init : goal.loop-place-init
loop-place-init c = (
  new_app c.args.row.name.now,
  record { shape = c.new-command.ensures.app; local = c.new-command.ensures.local },
  ap (λ (rules : List Rule). fold with_rule (new_app c.args.row.name.now) rules) (sym (map-map place_rule (λ (place : Bor Text). place.now) c.args.row.places.now)),
)

pub loop-place-preserved : goal.loop-place-preserved
loop-place-preserved c =
    let so_far = c.loop-place.invariant in (
      with_rule so_far.0 _,
      adds_arg so_far.0 _ c.loop-place.command c.place_arg.result c.in_ok-command.command so_far.1 c.place_arg.ensures.rule c.place_arg.ensures.local c.in_ok-command.ensures,
      fold_step with_rule (λ (place : Bor Text). place_rule place.now) c.args.row.places.now c.loop-place.place-index _ so_far.0 _ c.loop-place-test.true so_far.2,
    )

pub loop-number-init : goal.loop-number-init
loop-number-init c =
    let so_far = c.loop-place.invariant in
    let whole = fold_done with_rule (λ (place : Bor Text). place_rule place.now) c.args.row.places.now c.loop-place.place-index so_far.0 _ c.loop-place-test.false so_far.2 in (
      so_far.0,
      so_far.1,
      ap (λ (rules : List Rule). fold with_rule so_far.0 rules) (sym (map-map number_rule number_said c.args.row.numbers.now))
          ∙ ap (λ (app : App). fold with_rule app (map number_rule (map number_said c.args.row.numbers.now))) whole,
    )

pub loop-number-preserved : goal.loop-number-preserved
loop-number-preserved c =
    let so_far = c.loop-number.invariant in (
      with_rule so_far.0 _,
      adds_arg so_far.0 _ c.loop-number.command c.number_arg.result c.in_ok-command-2.command so_far.1 c.number_arg.ensures.rule c.number_arg.ensures.local c.in_ok-command-2.ensures,
      fold_step with_rule (λ (p : NumberPlace). number_rule (number_said p)) c.args.row.numbers.now c.loop-number.number-index _ so_far.0 _ c.loop-number-test.true so_far.2,
    )

pub loop-option-init : goal.loop-option-init
loop-option-init c =
    let so_far = c.loop-number.invariant in
    let whole = fold_done with_rule (λ (p : NumberPlace). number_rule (number_said p)) c.args.row.numbers.now c.loop-number.number-index so_far.0 _ c.loop-number-test.false so_far.2 in (
      so_far.0,
      so_far.1,
      ap (λ (rules : List Rule). fold with_rule so_far.0 rules) (sym (map-map option_rule option_said c.args.row.options.now))
          ∙ ap (λ (app : App). fold with_rule app (map option_rule (map option_said c.args.row.options.now))) whole,
    )

pub loop-option-preserved : goal.loop-option-preserved
loop-option-preserved c =
    let so_far = c.loop-option.invariant in (
      with_rule so_far.0 _,
      adds_arg so_far.0 _ c.loop-option.command c.option_arg.result c.in_ok-command-3.command so_far.1 c.option_arg.ensures.rule c.option_arg.ensures.local c.in_ok-command-3.ensures,
      fold_step with_rule (λ (o : NumberOption). option_rule (option_said o)) c.args.row.options.now c.loop-option.option-index _ so_far.0 _ c.loop-option-test.true so_far.2,
    )

pub returns : goal.returns
returns c =
    let so_far = c.loop-option.invariant in
    let whole = fold_done with_rule (λ (o : NumberOption). option_rule (option_said o)) c.args.row.options.now c.loop-option.option-index so_far.0 _ c.loop-option-test.false so_far.2 in
    record { shape = so_far.1.shape ∙ whole; local = so_far.1.local }
