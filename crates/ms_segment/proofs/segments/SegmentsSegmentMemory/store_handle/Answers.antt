use Rattle.std.proofs.Common.{◌+◌, ◌≤◌, length, sym, ◌∙◌, arith, ap, subst}
use Rattle.std.proofs.lemmas.Result.{err_from_is_err_and}
use Rattle.ms_tagged.specs.Bytes.{pieces}
use Rattle.ms_segment.specs.Memory.{handle_access, writable}
use Rattle.ms_segment.proofs.Reach.{handle_write-within}
use Rattle.ms_segment.proofs.Sound.{IsSound-pieces}
use Rattle.ms_tagged.proofs.Ranges.{length-written}
use Rattle.ms_segment.specs.Memory.{IsFit, IsSound, Memory}
use Rattle.ms_segment.specs.Parts.{access_of}
use Rattle.ms_segment.proofs.Calls.{Stores-stopped, Stores-stored, after-written}
use Rattle.ms_segment.proofs.Fits.{IsFit-written}
use Rattle.ms_segment.proofs.segments.SegmentsSegmentMemory.store_handle.Goals as goal

pub put_handle-requires-clause-within : goal.put_handle-requires-clause-within
put_handle-requires-clause-within g c =
    let sound : IsSound c.args.self.now = subst IsSound c.self.view_is c.self.invariant.1 in
    omega (arith, ap (λ (m : Memory). length m.bytes) c.self.view_is, (handle_write-within c.args.self.now c.args.h (access_of c.in_ok-access.access) sound c.requires.place c.in_ok-access.ensures).0)

pub returns-in_err-access-clause-stored : goal.returns-in_err-access-clause-stored
returns-in_err-access-clause-stored g c =
    let p = err_from_is_err_and c.from_residual.result c.from_residual.ensures.1 in
    Stores-stopped c.args.self.now (pieces c.args.v) 16 (writable (handle_access c.args.self.now c.args.h)) c.from_residual.result c.in_err-access.field-0.0 c.in_err-access.ensures (cc)

pub invariant_of-self : goal.invariant_of-self
invariant_of-self g c =
    let bytes = g.T.Tagged.bytes c.self.inside.tagged in
    let after = after-written (g.T.Tagged.bytes c.self.inside.tagged) (g.T.Tagged.bytes c.put_handle.new.self) (g.G.Gaps.live c.self.inside.gaps) c.self.inside.made c.self.inside.accesses c.one_more-self-inside.result c.in_ok-access.access.address (pieces c.args.v) c.args.self.now c.self.view_is c.put_handle.ensures c.one_more-self-inside.ensures in
    let sound : IsSound c.args.self.now = subst IsSound c.self.view_is c.self.invariant.1 in
    let within : c.in_ok-access.access.address + length (pieces c.args.v) ≤ length c.args.self.now.bytes = omega (arith, (handle_write-within c.args.self.now c.args.h (access_of c.in_ok-access.access) sound c.requires.place c.in_ok-access.ensures).0) in
    let within_parts : c.in_ok-access.access.address + length (pieces c.args.v) ≤ length bytes = omega (arith, within, ap (λ (m : Memory). length m.bytes) c.self.view_is) in
    let as_long = length-written c.in_ok-access.access.address (pieces c.args.v) bytes (g.T.Tagged.bytes c.put_handle.new.self) c.put_handle.ensures within_parts in
    (c.self.invariant.0 ∙ sym as_long, subst IsSound (sym after) (IsSound-pieces c.args.self.now c.in_ok-access.access.address c.args.v sound c.requires.value within))

pub returns-clause-stored : goal.returns-clause-stored
returns-clause-stored g c =
    let after = after-written (g.T.Tagged.bytes c.self.inside.tagged) (g.T.Tagged.bytes c.put_handle.new.self) (g.G.Gaps.live c.self.inside.gaps) c.self.inside.made c.self.inside.accesses c.one_more-self-inside.result c.in_ok-access.access.address (pieces c.args.v) c.args.self.now c.self.view_is c.put_handle.ensures c.one_more-self-inside.ensures in
    Stores-stored c.args.self.now _ (pieces c.args.v) 16 (writable (handle_access c.args.self.now c.args.h)) (access_of c.in_ok-access.access) c.write.result c.in_ok-access.ensures c.write.ensures after

pub returns-clause-sound : goal.returns-clause-sound
returns-clause-sound g c =
    let after = after-written (g.T.Tagged.bytes c.self.inside.tagged) (g.T.Tagged.bytes c.put_handle.new.self) (g.G.Gaps.live c.self.inside.gaps) c.self.inside.made c.self.inside.accesses c.one_more-self-inside.result c.in_ok-access.access.address (pieces c.args.v) c.args.self.now c.self.view_is c.put_handle.ensures c.one_more-self-inside.ensures in
    let sound : IsSound c.args.self.now = subst IsSound c.self.view_is c.self.invariant.1 in
    let within : c.in_ok-access.access.address + length (pieces c.args.v) ≤ length c.args.self.now.bytes = omega (arith, (handle_write-within c.args.self.now c.args.h (access_of c.in_ok-access.access) sound c.requires.place c.in_ok-access.ensures).0) in
    subst IsSound (sym after) (IsSound-pieces c.args.self.now c.in_ok-access.access.address c.args.v sound c.requires.value within)

pub returns-clause-others : goal.returns-clause-others
returns-clause-others g c =
    let after = after-written (g.T.Tagged.bytes c.self.inside.tagged) (g.T.Tagged.bytes c.put_handle.new.self) (g.G.Gaps.live c.self.inside.gaps) c.self.inside.made c.self.inside.accesses c.one_more-self-inside.result c.in_ok-access.access.address (pieces c.args.v) c.args.self.now c.self.view_is c.put_handle.ensures c.one_more-self-inside.ensures in
    λ h fit. subst (λ (m : Memory). IsFit m h) (sym after) (IsFit-written c.args.self.now c.in_ok-access.access.address (pieces c.args.v) h fit)
