use Rattle.std.proofs.Common.{◌≡◌, ◌+◌, max, reverse}
use Rattle.c_productions.specs.refinement.Table.{rise}
use Rattle.c_productions.specs.refinement.Meaning.{leasts, overs}
use Rattle.c_parse.specs.refinement.Waiting.{frames_of}
use Rattle.c_parse.proofs.Sums.{one_pushed}
use Rattle.c_parse.proofs.waiting.Waiting.push.Goals as goal

pub invariant_of-self-2 : goal.invariant_of-self-2
invariant_of-self-2 c =
    let old = c.self.inside.entries.items in
    let f : c.in_ok-floor.floor ≡ overs (frames_of (reverse old)) (max c.args.frame.base (leasts c.args.frame.rest + rise c.args.frame.production)) = cc (c.in_ok-floor.ensures, c.higher.ensures, c.in_ok-least.ensures, c.least.ensures, c.rise.ensures, c.self.view_is) in
    let r : c.in_ok-rising.rising ≡ rise c.args.frame.production + c.self.inside.rising = cc (c.in_ok-rising.ensures, c.rise-2.ensures) in
    one_pushed old c.push.new.self.items (record { frame = c.args.frame; floor = c.self.inside.floor; rising = c.self.inside.rising }) c.in_ok-floor.floor c.in_ok-rising.rising c.in_ok-push.ensures.items c.self.invariant f r
