use Rattle.std.proofs.Common.{◌<◌, List, arith, sym, subst}
use Rattle.std.specs.List.{All}
use Rattle.ms_live.specs.refinement.Hints.{IsHinted}
use Rattle.ms_live.specs.declared.gaps.Live.{Live}
use Rattle.ms_live.proofs.Hinting.{hinted_push}
use Rattle.ms_live.proofs.hinted.HintedIds.push.Goals as goal

pub invariant_of-self : goal.invariant_of-self
invariant_of-self c =
    let h = c.self.inside in
    let x = c.args.segment in
    let newest = subst (λ (live : List Live). All (λ (t : Live). t.id < x.id) live) (sym c.self.view_is) c.requires.newest in
    let room = c.self.invariant.1 in (
      subst (λ (live : List Live). IsHinted live c.write.new.hints.items) (sym c.push.ensures)
          (subst (IsHinted _) (sym c.write.ensures.hints) (hinted_push h.ids h.hints.items x c.self.invariant.0 newest)),
      omega (arith, c.write.ensures.room),
    )
