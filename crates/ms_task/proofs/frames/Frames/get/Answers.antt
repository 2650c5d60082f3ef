use Rattle.std.proofs.Common.{◌≡◌, ℕ, ◌+◌, ◌-◌, ◌<◌, List, length, reverse, drop, take, slice_get, Some, sym, ap, subst, ◌∙◌, arith}
use Rattle.ms_linear.specs.declared.value.Value.{Value}
use Rattle.ms_task.specs.declared.far.Far.{Far}
use Rattle.ms_task.specs.declared.far.Written.{Written}
use Rattle.ms_task.specs.refinement.Far.{all_of}
use Rattle.ms_task.proofs.Laid.{below_len, far_get}
use Rattle.ms_task.proofs.frames.Frames.get.Goals as goal

pub returns : goal.returns
returns c =
    let l = c.self.inside in
    let fs = reverse l.far.items in
    let items = l.items.items in
    let ds = l.directory.items in
    let ws = l.written.items in
    let i = c.args.i in
    let p = l.len - (l.len - l.base - i) in
    let here : i < length (drop l.base (take l.len (all_of fs items ds ws))) = subst (λ (v : List Value × List Value). i < length v.1) (sym c.self.view_is) c.requires in
    let at : l.base + i ≡ p = omega (arith, below_len fs l.items.items l.directory.items l.written.items l.start l.base l.len c.self.invariant i here) in
    let found : slice_get (all_of fs items ds ws) (l.base + i) ≡ Some c.read.result =
    ap (slice_get (all_of fs items ds ws)) at
    ∙ ap (λ (x : List Value). slice_get (all_of fs x ds ws) p) (sym c.deref.ensures.value)
    ∙ ap (λ (x : List Far). slice_get (all_of (reverse x) c.deref.result.now ds ws) p) (sym c.deref-2.ensures.value)
    ∙ ap (λ (x : List ℕ). slice_get (all_of (reverse c.deref-2.result.now) c.deref.result.now x ws) p) (sym c.deref-3.ensures.value)
    ∙ ap (λ (x : List Written). slice_get (all_of (reverse c.deref-2.result.now) c.deref.result.now c.deref-3.result.now x) p) (sym c.deref-4.ensures.value)
    ∙ c.read.ensures in
    subst (λ (v : List Value × List Value). slice_get v.1 i ≡ Some c.read.result) c.self.view_is
    (far_get fs l.items.items l.directory.items l.written.items l.start l.base l.len c.self.invariant i here c.read.result found)
