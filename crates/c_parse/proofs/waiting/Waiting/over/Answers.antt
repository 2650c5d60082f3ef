use Rattle.std.proofs.Common.{reverse}
use Rattle.c_parse.proofs.Sums.{over_all}
use Rattle.c_parse.proofs.waiting.Waiting.over.Goals as goal

pub returns : goal.returns
returns c =
    let e = over_all (reverse c.self.inside.entries.items) c.self.inside.floor c.self.inside.rising c.args.inside c.self.invariant in
    cc (e, c.in_ok-sum.ensures, c.higher.ensures, c.self.view_is)
