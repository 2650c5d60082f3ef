use Rattle.std.proofs.Common.{◌≡◌, ◌+◌, ◌<◌, List, length, reverse, drop, take, slice_set, sym, subst, arith}
use Rattle.ms_linear.specs.declared.value.Value.{Value}
use Rattle.ms_task.specs.refinement.Far.{all_of}
use Rattle.ms_task.specs.refinement.Frames.{split}
use Rattle.ms_task.proofs.Laid.{near_set}
use Rattle.ms_task.proofs.frames.Frames.set_near.Goals as goal

pub returns-then-at-len-clause-near : goal.returns-then-at-len-clause-near
returns-then-at-len-clause-near c passed =
    let l = c.self.inside in
    let fs = reverse l.far.items in
    let i = c.args.i in
    let at = c.in-Some.at in
    let is : l.start + i ≡ at = omega (arith, c.in-Some.ensures) in
    let lt : l.start + i < length l.items.items = omega (arith, is, c.if-at-len.true) in
    let here : i < length (drop l.base (take l.len (all_of fs l.items.items l.directory.items l.written.items))) = subst (λ (v : List Value × List Value). i < length v.1) (sym c.self.view_is) c.requires in
    subst (λ p. split l.base (take l.len (all_of fs (slice_set l.items.items p c.args.v) l.directory.items l.written.items)) ≡ (c.args.self.now.0, slice_set c.args.self.now.1 i c.args.v)) is
    (subst (λ (v : List Value × List Value). split l.base (take l.len (all_of fs (slice_set l.items.items (l.start + i) c.args.v) l.directory.items l.written.items)) ≡ (v.0, slice_set v.1 i c.args.v)) c.self.view_is
    (near_set fs l.items.items l.directory.items l.written.items l.start l.base l.len c.self.invariant i here c.args.v lt))
