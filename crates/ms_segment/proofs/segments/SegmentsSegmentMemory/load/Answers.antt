use Rattle.std.proofs.Common.{length, arith, ap, sym, subst}
use Rattle.ms_segment.specs.Memory.{IsFit, IsSound, Memory}
use Rattle.ms_segment.specs.Parts.{access_of}
use Rattle.ms_segment.proofs.Calls.{after-read}
use Rattle.ms_segment.proofs.Fits.{IsFit-once_more}
use Rattle.ms_segment.proofs.Reach.{access-within}
use Rattle.ms_segment.proofs.Sound.{IsSound-once_more}
use Rattle.ms_segment.proofs.segments.SegmentsSegmentMemory.load.Goals as goal

pub get-requires-clause-within : goal.get-requires-clause-within
get-requires-clause-within g c =
    let sound : IsSound c.args.self.now = subst IsSound c.self.view_is c.self.invariant.1 in
    omega (arith, ap (λ (m : Memory). length m.bytes) c.self.view_is, access-within c.args.self.now c.args.h c.args.width (access_of c.in_ok-access.access) sound c.requires.fits c.in_ok-access.ensures)

pub invariant_of-self : goal.invariant_of-self
invariant_of-self g c =
    let after = after-read (g.T.Tagged.bytes c.self.inside.tagged) (g.G.Gaps.live c.self.inside.gaps) c.self.inside.made c.self.inside.accesses c.one_more-self-inside.result c.args.self.now c.self.view_is c.one_more-self-inside.ensures in
    let sound : IsSound c.args.self.now = subst IsSound c.self.view_is c.self.invariant.1 in
    (c.self.invariant.0, subst IsSound (sym after) (IsSound-once_more c.args.self.now sound))

pub returns-in-Some-clause-counted : goal.returns-in-Some-clause-counted
returns-in-Some-clause-counted g c =
    after-read (g.T.Tagged.bytes c.self.inside.tagged) (g.G.Gaps.live c.self.inside.gaps) c.self.inside.made c.self.inside.accesses c.one_more-self-inside.result c.args.self.now c.self.view_is c.one_more-self-inside.ensures

pub returns-in-Some-clause-sound : goal.returns-in-Some-clause-sound
returns-in-Some-clause-sound g c =
    let after = after-read (g.T.Tagged.bytes c.self.inside.tagged) (g.G.Gaps.live c.self.inside.gaps) c.self.inside.made c.self.inside.accesses c.one_more-self-inside.result c.args.self.now c.self.view_is c.one_more-self-inside.ensures in
    let sound : IsSound c.args.self.now = subst IsSound c.self.view_is c.self.invariant.1 in
    subst IsSound (sym after) (IsSound-once_more c.args.self.now sound)

pub returns-in-Some-clause-others : goal.returns-in-Some-clause-others
returns-in-Some-clause-others g c =
    let after = after-read (g.T.Tagged.bytes c.self.inside.tagged) (g.G.Gaps.live c.self.inside.gaps) c.self.inside.made c.self.inside.accesses c.one_more-self-inside.result c.args.self.now c.self.view_is c.one_more-self-inside.ensures in
    λ h fit. subst (λ (m : Memory). IsFit m h) (sym after) (IsFit-once_more c.args.self.now h fit)
