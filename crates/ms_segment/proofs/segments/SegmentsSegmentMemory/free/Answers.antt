use Rattle.std.proofs.Common.{sym, ◌∙◌, ap, subst}
use Rattle.std.proofs.lemmas.Result.{err_from_is_err_and}
use Rattle.ms_live.specs.Place.{contains_id}
use Rattle.ms_segment.specs.Memory.{IsFit, IsSound, Memory, freed}
use Rattle.ms_segment.proofs.Calls.{Frees-ended, Frees-stopped, after-ended}
use Rattle.ms_segment.proofs.Fits.{IsFit-ended}
use Rattle.ms_segment.proofs.Reach.{freed-live}
use Rattle.ms_segment.proofs.Sound.{IsSound-ended}
use Rattle.ms_segment.proofs.segments.SegmentsSegmentMemory.free.Goals as goal

pub returns-in_err-id-clause-freed : goal.returns-in_err-id-clause-freed
returns-in_err-id-clause-freed g c =
    let p = err_from_is_err_and c.from_residual.result c.from_residual.ensures.1 in
    Frees-stopped c.args.self.now (freed c.args.self.now c.args.h c.args.kind) c.from_residual.result c.in_err-id.field-0.0 (sym c.in_err-id.ensures) (cc)

pub leave-requires : goal.leave-requires
leave-requires g c =
    ap (λ (m : Memory). contains_id c.in_ok-id.id m.live) c.self.view_is ∙ freed-live c.args.self.now c.args.h c.args.kind c.in_ok-id.id (sym c.in_ok-id.ensures)

pub invariant_of-self : goal.invariant_of-self
invariant_of-self g c =
    let after = after-ended (g.T.Tagged.bytes c.self.inside.tagged) (g.G.Gaps.live c.self.inside.gaps) (g.G.Gaps.live c.leave.new.self) c.self.inside.made c.self.inside.accesses c.in_ok-id.id c.args.self.now c.self.view_is c.leave.ensures.live in
    let sound : IsSound c.args.self.now = subst IsSound c.self.view_is c.self.invariant.1 in
    (c.leave.ensures.addresses ∙ c.self.invariant.0, subst IsSound (sym after) (IsSound-ended c.args.self.now c.in_ok-id.id sound))

pub returns-clause-freed : goal.returns-clause-freed
returns-clause-freed g c =
    let after = after-ended (g.T.Tagged.bytes c.self.inside.tagged) (g.G.Gaps.live c.self.inside.gaps) (g.G.Gaps.live c.leave.new.self) c.self.inside.made c.self.inside.accesses c.in_ok-id.id c.args.self.now c.self.view_is c.leave.ensures.live in
    Frees-ended c.args.self.now _ (freed c.args.self.now c.args.h c.args.kind) c.in_ok-id.id (sym c.in_ok-id.ensures) after

pub returns-clause-sound : goal.returns-clause-sound
returns-clause-sound g c =
    let after = after-ended (g.T.Tagged.bytes c.self.inside.tagged) (g.G.Gaps.live c.self.inside.gaps) (g.G.Gaps.live c.leave.new.self) c.self.inside.made c.self.inside.accesses c.in_ok-id.id c.args.self.now c.self.view_is c.leave.ensures.live in
    let sound : IsSound c.args.self.now = subst IsSound c.self.view_is c.self.invariant.1 in
    subst IsSound (sym after) (IsSound-ended c.args.self.now c.in_ok-id.id sound)

pub returns-clause-others : goal.returns-clause-others
returns-clause-others g c =
    let after = after-ended (g.T.Tagged.bytes c.self.inside.tagged) (g.G.Gaps.live c.self.inside.gaps) (g.G.Gaps.live c.leave.new.self) c.self.inside.made c.self.inside.accesses c.in_ok-id.id c.args.self.now c.self.view_is c.leave.ensures.live in
    λ h fit. subst (λ (m : Memory). IsFit m h) (sym after) (IsFit-ended c.args.self.now c.in_ok-id.id h fit)
