use Rattle.std.proofs.Common.{Ok, length, arith, ap, sym, subst}
use Rattle.std.proofs.lemmas.Result.{err_from_is_err_and}
use Rattle.ms_tagged.specs.Bytes.{IsHandleAt, range}
use Rattle.ms_segment.specs.Memory.{IsFit, IsSound, Memory, handle_access}
use Rattle.ms_segment.specs.Parts.{access_of}
use Rattle.ms_segment.proofs.Calls.{IsFit-read, LoadsHandle-read, LoadsHandle-stopped, after-read}
use Rattle.ms_segment.proofs.Fits.{IsFit-once_more}
use Rattle.ms_segment.proofs.Sound.{IsSound-once_more}
use Rattle.ms_segment.proofs.Functions.{loads_alone}
use Rattle.ms_segment.proofs.Reach.{handle_access-within}
use Rattle.ms_segment.proofs.segments.SegmentsSegmentMemory.load_handle.Goals as goal

pub returns-in_err-access-clause-loaded : goal.returns-in_err-access-clause-loaded
returns-in_err-access-clause-loaded g c =
    let p = err_from_is_err_and c.from_residual.result c.from_residual.ensures.1 in
    LoadsHandle-stopped c.args.self.now (handle_access c.args.self.now c.args.h) c.from_residual.result c.in_err-access.field-0.0 c.in_err-access.ensures (cc)

pub get_handle-requires-clause-within : goal.get_handle-requires-clause-within
get_handle-requires-clause-within g c =
    let sound : IsSound c.args.self.now = subst IsSound c.self.view_is c.self.invariant.1 in
    omega (arith, ap (λ (m : Memory). length m.bytes) c.self.view_is, (handle_access-within c.args.self.now c.args.h (access_of c.in_ok-access.access) sound c.requires c.in_ok-access.ensures).0)

pub returns-clause-loaded : goal.returns-clause-loaded
returns-clause-loaded g c =
    let at : IsHandleAt (range c.in_ok-access.access.address 16 c.args.self.now.bytes) c.get_handle.result = subst (λ (m : Memory). IsHandleAt (range c.in_ok-access.access.address 16 m.bytes) c.get_handle.result) c.self.view_is c.get_handle.ensures in
    LoadsHandle-read c.args.self.now (handle_access c.args.self.now c.args.h) (access_of c.in_ok-access.access) c.get_handle.result c.read.result c.in_ok-access.ensures at c.read.ensures

pub returns-clause-fits : goal.returns-clause-fits
returns-clause-fits g c =
    let sound : IsSound c.args.self.now = subst IsSound c.self.view_is c.self.invariant.1 in
    let at : IsHandleAt (range c.in_ok-access.access.address 16 c.args.self.now.bytes) c.get_handle.result = subst (λ (m : Memory). IsHandleAt (range c.in_ok-access.access.address 16 m.bytes) c.get_handle.result) c.self.view_is c.get_handle.ensures in
    IsFit-read c.args.self.now c.in_ok-access.access.address c.get_handle.result sound at

pub returns-clause-call : goal.returns-clause-call
returns-clause-call g c =
    let sound : IsSound c.args.self.now = subst IsSound c.self.view_is c.self.invariant.1 in
    let at : IsHandleAt (range c.in_ok-access.access.address 16 c.args.self.now.bytes) c.get_handle.result = subst (λ (m : Memory). IsHandleAt (range c.in_ok-access.access.address 16 m.bytes) c.get_handle.result) c.self.view_is c.get_handle.ensures in
    loads_alone c.args.self.now c.args.h (Ok (c.get_handle.result, c.read.result)) sound c.requires (LoadsHandle-read c.args.self.now (handle_access c.args.self.now c.args.h) (access_of c.in_ok-access.access) c.get_handle.result c.read.result c.in_ok-access.ensures at c.read.ensures)

pub invariant_of-self : goal.invariant_of-self
invariant_of-self g c =
    let after = after-read (g.T.Tagged.bytes c.self.inside.tagged) (g.G.Gaps.live c.self.inside.gaps) c.self.inside.made c.self.inside.accesses c.one_more-self-inside.result c.args.self.now c.self.view_is c.one_more-self-inside.ensures in
    let sound : IsSound c.args.self.now = subst IsSound c.self.view_is c.self.invariant.1 in
    (c.self.invariant.0, subst IsSound (sym after) (IsSound-once_more c.args.self.now sound))

pub returns-clause-counted : goal.returns-clause-counted
returns-clause-counted g c =
    after-read (g.T.Tagged.bytes c.self.inside.tagged) (g.G.Gaps.live c.self.inside.gaps) c.self.inside.made c.self.inside.accesses c.one_more-self-inside.result c.args.self.now c.self.view_is c.one_more-self-inside.ensures

pub returns-clause-sound : goal.returns-clause-sound
returns-clause-sound g c =
    let after = after-read (g.T.Tagged.bytes c.self.inside.tagged) (g.G.Gaps.live c.self.inside.gaps) c.self.inside.made c.self.inside.accesses c.one_more-self-inside.result c.args.self.now c.self.view_is c.one_more-self-inside.ensures in
    let sound : IsSound c.args.self.now = subst IsSound c.self.view_is c.self.invariant.1 in
    subst IsSound (sym after) (IsSound-once_more c.args.self.now sound)

pub returns-clause-others : goal.returns-clause-others
returns-clause-others g c =
    let after = after-read (g.T.Tagged.bytes c.self.inside.tagged) (g.G.Gaps.live c.self.inside.gaps) c.self.inside.made c.self.inside.accesses c.one_more-self-inside.result c.args.self.now c.self.view_is c.one_more-self-inside.ensures in
    λ h fit. subst (λ (m : Memory). IsFit m h) (sym after) (IsFit-once_more c.args.self.now h fit)
