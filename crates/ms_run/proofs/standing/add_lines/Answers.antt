use Rattle.std.proofs.Common.{◌∙◌, false}
use Rattle.std.proofs.lemmas.Option.{slice_get-get_or}
use Rattle.ms_run.specs.refinement.Told.{state_in}
use Rattle.ms_run.proofs.Stood.{no_more_standing, standing_grows}
use Rattle.ms_run.proofs.standing.add_lines.Goals as goal

pub loop-number-preserved : goal.loop-number-preserved
loop-number-preserved g c =
    let l = c.loop-number in
    let flags = c.args.flags.now in
    let found = slice_get-get_or flags l.number false c.loop-number-test.true in
    standing_grows (state_in c.args.crew.now) l.lines.items _ c.as_bytes.result.now _ flags l.number _ _ found c.state-state.ensures (c.as_bytes.ensures.value ∙ c.in_ok-line.ensures) c.in_ok-extend_from_slice.ensures.items l.invariant

pub returns : goal.returns
returns g c =
    let l = c.loop-number in
    no_more_standing (state_in c.args.crew.now) l.lines.items _ c.args.flags.now l.number c.loop-number-test.false l.invariant
