use Rattle.std.proofs.Common.{◌≡◌, ◌+◌, ◌<◌, List, length, reverse, drop, take, slice_get, Some, refl, sym, ap, subst, ◌∙◌, arith}
use Rattle.ms_linear.specs.declared.value.Value.{Value}
use Rattle.std.proofs.lemmas.Option.{slice_get_read}
use Rattle.ms_task.specs.refinement.Far.{all_of}
use Rattle.ms_task.proofs.Laid.{near_get}
use Rattle.ms_task.proofs.frames.Frames.get_near.Goals as goal

pub returns-then-at-len : goal.returns-then-at-len
returns-then-at-len c =
    let l = c.self.inside in
    let fs = reverse l.far.items in
    let i = c.args.i in
    let at = c.in_ok-at.at in
    let is : l.start + i ≡ at = omega (arith, c.in_ok-at.ensures) in
    let within : at < length l.items.items = omega (arith, c.if-at-len.true) in
    let lt : l.start + i < length l.items.items = omega (arith, is, within) in
    let here : i < length (drop l.base (take l.len (all_of fs l.items.items l.directory.items l.written.items))) = subst (λ (v : List Value × List Value). i < length v.1) (sym c.self.view_is) c.requires in
    subst (λ (v : List Value × List Value). slice_get v.1 i ≡ Some c.index.result.now) c.self.view_is
    (near_get fs l.items.items l.directory.items l.written.items l.start l.base l.len c.self.invariant i here lt ∙ ap (slice_get l.items.items) is ∙ slice_get_read l.items.items (length l.items.items) at c.index.result.now refl within c.index.ensures)
