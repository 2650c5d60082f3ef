use Rattle.std.proofs.Common.{◌++◌, ◌∷◌, [], List, ap, sym, ◌∙◌}
use Rattle.ms_live.specs.declared.gaps.Live.{Live}
use Rattle.ms_reach.proofs.Marks.{take_more}
use Rattle.ms_reach.proofs.leading.live_segments.Goals as goal

pub loop-i-preserved : goal.loop-i-preserved
loop-i-preserved g c =
    c.in_ok-push.ensures.items ∙ (ap (λ (xs : List Live). xs ++ c.live_at.result ∷ []) c.loop-i.invariant ∙ sym (take_more c.args.segments.now.live c.loop-i.i c.live_at.result c.live_at.ensures))
