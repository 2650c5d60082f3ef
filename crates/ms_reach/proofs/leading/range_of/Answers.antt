use Rattle.std.proofs.Common.{◌≡◌, Some, sym, subst, ◌∙◌}
use Rattle.ms_reach.specs.refinement.Leading.{IsInside, found_in}
use Rattle.ms_reach.proofs.Leads.{part_fits}
use Rattle.ms_reach.proofs.leading.range_of.Goals as goal

pub range_in-requires : goal.range_in-requires
range_in-requires c =
    let there : found_in c.args.live.now c.in-Good.id ≡ Some c.in-Some.segment = sym c.found.ensures ∙ c.in-Some.is in
    part_fits c.args.live.now c.in-Good.id c.in-Good.base c.in-Good.length c.in-Some.segment c.requires.end there (subst (IsInside c.args.live.now) c.in-Good.is c.requires.inside c.in-Some.segment there)
