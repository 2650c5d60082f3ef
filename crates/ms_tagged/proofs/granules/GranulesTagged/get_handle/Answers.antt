use Rattle.std.proofs.Common.{◌≡◌, ◌+◌, ◌*◌, ◌/◌, List, ap, get_or, sym, subst, ◌∙◌, arith}
use Rattle.ms_handle.specs.declared.handle.Handle.{Handle}
use Rattle.std.proofs.lemmas.Bool.{false≢true}
use Rattle.std.proofs.lemmas.List.{get_or_past, get_or_read}
use Rattle.ms_tagged.specs.Bytes.{IsHandleAt, cleared}
use Rattle.ms_tagged.specs.refinement.Granules.{byte_at, bytes_from, handle_in}
use Rattle.ms_tagged.specs.declared.granules.StoredHandle.{StoredHandle}
use Rattle.ms_tagged.proofs.GranuleBytes.{cleared-read, data-read, handle-read, mixed-read, whole-read, zeros-held}
use Rattle.ms_tagged.proofs.granules.GranulesTagged.get_handle.Goals as goal

pub returns-then-granule-len : goal.returns-then-granule-len
returns-then-granule-len c =
    let plain = c.self.inside.plain.items in
    let masks = c.self.inside.masks.items in
    let handles = c.self.inside.handles.items in
    let are = cleared-read plain masks handles (c.args.address / 16) (get_or_past masks (c.args.address / 16) 0 (omega arith)) (λ k small. get_or_past plain (16 * (c.args.address / 16) + k) 0 (omega arith)) in
    handle-read plain masks handles c.args.self.now c.self.inside.capacity c.args.address _ c.self.view_is c.requires.aligned c.requires.within (cleared are)

pub returns-then-mask : goal.returns-then-mask
returns-then-mask c =
    let plain = c.self.inside.plain.items in
    let masks = c.self.inside.masks.items in
    let handles = c.self.inside.handles.items in
    let g = c.args.address / 16 in
    let mask : get_or masks g 0 ≡ c.index-mask.result.now = sym (get_or_read masks g c.index-mask.result.now (omega arith) c.index-mask.ensures 0) in
    let P : Handle → Type 0 = λ h. IsHandleAt (bytes_from (byte_at plain masks handles) (16 * g) 16) h in
    let kept : c.stored.result ≡ handle_in handles g = c.stored.ensures ∙ ap (λ (hs : List StoredHandle). handle_in hs g) c.deref.ensures.value in
    handle-read plain masks handles c.args.self.now c.self.inside.capacity c.args.address _ c.self.view_is c.requires.aligned c.requires.within
    (subst P (sym kept) (whole-read plain masks handles g (mask ∙ c.if-mask.true)))

pub returns-then-mask-ne0 : goal.returns-then-mask-ne0
returns-then-mask-ne0 c =
    let plain = c.self.inside.plain.items in
    let masks = c.self.inside.masks.items in
    let handles = c.self.inside.handles.items in
    let g = c.args.address / 16 in
    let mask : get_or masks g 0 ≡ c.index-mask.result.now = sym (get_or_read masks g c.index-mask.result.now (omega arith) c.index-mask.ensures 0) in
    handle-read plain masks handles c.args.self.now c.self.inside.capacity c.args.address _ c.self.view_is c.requires.aligned c.requires.within
    (mixed-read plain masks handles g (omega arith) (λ e. c.if-mask-ne0.true (sym mask ∙ e)) (λ e. c.if-mask.false (sym mask ∙ e)))

pub returns-then-are_zeros : goal.returns-then-are_zeros
returns-then-are_zeros c =
    let plain = c.self.inside.plain.items in
    let masks = c.self.inside.masks.items in
    let handles = c.self.inside.handles.items in
    let g = c.args.address / 16 in
    let mask : get_or masks g 0 ≡ c.index-mask.result.now = sym (get_or_read masks g c.index-mask.result.now (omega arith) c.index-mask.ensures 0) in
    let are = zeros-held plain c.deref-2.result.now c.args.address (16 * g) c.deref-2.ensures.value (omega arith) in
    handle-read plain masks handles c.args.self.now c.self.inside.capacity c.args.address _ c.self.view_is c.requires.aligned c.requires.within
    (cleared (cleared-read plain masks handles g (mask ∙ c.if-mask-ne0.false) (are.0 (c.are_zeros.ensures.0 c.if-are_zeros.true))))

pub returns-else-are_zeros : goal.returns-else-are_zeros
returns-else-are_zeros c =
    let plain = c.self.inside.plain.items in
    let masks = c.self.inside.masks.items in
    let handles = c.self.inside.handles.items in
    let g = c.args.address / 16 in
    let mask : get_or masks g 0 ≡ c.index-mask.result.now = sym (get_or_read masks g c.index-mask.result.now (omega arith) c.index-mask.ensures 0) in
    let are = zeros-held plain c.deref-2.result.now c.args.address (16 * g) c.deref-2.ensures.value (omega arith) in
    handle-read plain masks handles c.args.self.now c.self.inside.capacity c.args.address _ c.self.view_is c.requires.aligned c.requires.within
    (data-read plain masks handles g (mask ∙ c.if-mask-ne0.false) (omega arith) (λ e. false≢true (sym c.if-are_zeros.false ∙ c.are_zeros.ensures.1 (are.1 e))))
