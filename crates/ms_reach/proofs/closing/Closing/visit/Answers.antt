use Rattle.std.proofs.Common.{List, sym, subst}
use Rattle.ms_live.specs.declared.gaps.Live.{Live}
use Rattle.ms_reach.specs.refinement.Leading.{IsInside}
use Rattle.ms_reach.proofs.Leads.{held_inside}
use Rattle.ms_reach.proofs.closing.Closing.visit.Goals as goal

pub add-requires-clause-inside : goal.add-requires-clause-inside
add-requires-clause-inside g c =
    subst (λ (live : List Live). IsInside live c.in-Some.handle) (sym c.requires.live) (held_inside c.args.segments.now c.args.at c.in-Some.handle c.requires.over.sound (sym c.in-Some.ensures))
