use Rattle.std.proofs.Common.{◌==◌, ◌≤◌, not}
use Rattle.std.proofs.lemmas.List.Elements.{All-filter, All-same}
use Rattle.ms_live.proofs.Found.{is_some-find}
use Rattle.ms_tests.proofs.tests.live.Memory.leave.Goals as goal

pub leave-requires : goal.leave-requires
leave-requires g c =
    let same = is_some-find (λ segment. segment.id == c.args.id) (g.G.Gaps.live c.args.self.now.gaps) in
    cc

pub invariant_of-self : goal.invariant_of-self
invariant_of-self g c = record {
  oldest_first = All-same (λ segment. segment.id ≤ c.args.self.now.newest) _ _ c.leave.ensures.live (All-filter (λ segment. not (segment.id == c.args.id)) (λ segment. segment.id ≤ c.args.self.now.newest) (g.G.Gaps.live c.args.self.now.gaps) c.args.self.now.oldest_first);
}
