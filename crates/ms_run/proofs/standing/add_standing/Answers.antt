use Rattle.std.proofs.Common.{◌∙◌, sym, subst}
use Rattle.ms_tasks.specs.Joined.{AreApart}
use Rattle.ms_run.specs.refinement.Told.{state_in}
use Rattle.ms_run.proofs.Stood.{all_standing, none_standing, on_ok}
use Rattle.ms_run.proofs.standing.add_standing.Goals as goal

pub returns-then-not-asked : goal.returns-then-not-asked
returns-then-not-asked g c =
    let now = c.args.crew.now in
    none_standing now.store now.addresses (state_in now) c.args.asked c.args.lines.now.items c.if-not-asked.true

pub returns : goal.returns
returns g c =
    let now = c.args.crew.now in
    let flags = c.as_slice.result.now in
    let apart = subst (AreApart now.store now.addresses) (sym c.as_slice.ensures.value) c.in_ok-flags.ensures in
    on_ok c.add_lines.result (λ lines. all_standing now.store now.addresses (state_in now) c.args.asked flags c.args.lines.now.items _ c.if-not-asked.false apart lines) c.add_lines.ensures

pub add_lines-requires-clause-each : goal.add_lines-requires-clause-each
add_lines-requires-clause-each g c =
    let now = c.args.crew.now in
    let apart = subst (AreApart now.store now.addresses) (sym c.as_slice.ensures.value) c.in_ok-flags.ensures in
    apart.each ∙ c.requires.addresses
