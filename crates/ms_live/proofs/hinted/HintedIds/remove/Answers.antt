use Rattle.std.proofs.Common.{List, arith, sym, subst}
use Rattle.ms_live.specs.refinement.Hints.{IsHinted}
use Rattle.ms_live.specs.declared.gaps.Live.{Live}
use Rattle.ms_live.proofs.Hinting.{hinted_remove}
use Rattle.ms_live.proofs.hinted.HintedIds.remove.Goals as goal

pub invariant_of-self : goal.invariant_of-self
invariant_of-self c =
    let h = c.self.inside in
    let room = c.self.invariant.1 in (
      subst (λ (live : List Live). IsHinted live c.forget.new.hints.items) (sym c.remove.ensures)
          (subst (IsHinted _) (sym c.forget.ensures.hints) (hinted_remove h.ids h.hints.items c.args.id c.self.invariant.0)),
      omega (arith, c.forget.ensures.room),
    )
