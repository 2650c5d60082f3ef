use Rattle.std.proofs.Common.{sym, ◌∙◌, arith}
use Rattle.ms_segment.proofs.Reach.{live-within}
use Rattle.ms_segment.proofs.segments.Segments.found.Goals as goal

pub returns-clause-within : goal.returns-clause-within
returns-clause-within g c = λ s is.
    let within = live-within _ c.args.id s c.self.invariant.1 (sym c.find.ensures ∙ is) in
    omega (arith, c.self.invariant.1.capacity, within)
