use Rattle.std.proofs.Common.{refl}
use Rattle.ms_outside.proofs.Kept.{by_name-updated}
use Rattle.ms_outside.proofs.fault_counts.FaultCounts.begin.Goals as goal

pub returns-clause-ok : goal.returns-clause-ok
returns-clause-ok c =
    rw (by_name-updated (λ n. n) c.self.inside.counts c.insert.new.self _ 1 c.in_ok-insert.ensures.updates, c.in_ok-key.ensures.ok, ← c.self.view_is) refl
