use Rattle.std.proofs.Common.{◌==◌, find, sym, ap, ◌∙◌}
use Rattle.ms_live.specs.declared.gaps.Live.{Live}
use Rattle.ms_live.proofs.Hinting.{hinted_find}
use Rattle.ms_live.proofs.hinted.HintedIds.find.Goals as goal

pub returns-in-Some : goal.returns-in-Some
returns-in-Some c =
    let h = c.self.inside in
    sym (ap (find (λ (t : Live). t.id == c.args.id)) (sym c.self.view_is) ∙ hinted_find h.ids h.hints.items c.args.id c.in-Some.segment c.self.invariant.0 (sym c.hint.ensures ∙ c.in-Some.is))
