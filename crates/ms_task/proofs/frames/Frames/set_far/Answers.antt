use Rattle.std.proofs.Common.{◌≡◌, ◌+◌, ◌-◌, ◌<◌, List, ◌∷◌, length, reverse, drop, take, slice_set, sym, ap, subst, ◌∙◌, arith}
use Rattle.std.proofs.lemmas.Result.{on_ok_weaker}
use Rattle.ms_linear.specs.declared.value.Value.{Value}
use Rattle.ms_task.specs.declared.far.Far.{Far}
use Rattle.ms_task.specs.refinement.Far.{all_of}
use Rattle.ms_task.specs.refinement.Frames.{AreLaid, split}
use Rattle.ms_task.proofs.Laid.{far_set}
use Rattle.ms_task.proofs.frames.Frames.set_far.Goals as goal

pub returns-clause-ok : goal.returns-clause-ok
returns-clause-ok c =
    let l = c.self.inside in
    let items = l.items.items in
    let ds = l.directory.items in
    let ws = l.written.items in
    let f = c.in-Some.f.now in
    let fs = reverse c.in-Some.field-0-1.now in
    let i = c.args.i in
    let j = l.base + i - f.first in
    let parts : reverse l.far.items ≡ f ∷ fs = sym (ap reverse c.deref.ensures.value) ∙ c.in-Some.ensures in
    let laid = subst (λ (gs : List Far). AreLaid gs (length items) (length ds) (length ws) l.start l.base l.len) parts c.self.invariant in
    let now : i < length (drop l.base (take l.len (all_of (reverse l.far.items) items ds ws))) = subst (λ (v : List Value × List Value). i < length v.1) (sym c.self.view_is) c.requires in
    let here = subst (λ (gs : List Far). i < length (drop l.base (take l.len (all_of gs items ds ws)))) parts now in
    on_ok_weaker c.put.result
    (λ puts.
    subst (λ (v : List Value × List Value). split l.base (take l.len (all_of (reverse l.far.items) items c.put.new.directory.items c.put.new.written.items)) ≡ (v.0, slice_set v.1 i c.args.v)) c.self.view_is
    (subst (λ (gs : List Far). split l.base (take l.len (all_of gs items c.put.new.directory.items c.put.new.written.items)) ≡ (take l.base (take l.len (all_of gs items ds ws)), slice_set (drop l.base (take l.len (all_of gs items ds ws))) i c.args.v)) (sym parts)
    (far_set f fs items ds ws l.start l.base l.len laid c.put.new.directory.items c.put.new.written.items i j c.args.v (omega (arith, c.if-p-f.false)) puts here (omega (arith, c.if-p-f.false, c.if-f-p.false)))))
    c.put.ensures.ok
