use Rattle.std.proofs.Common.{◌≡◌, ◌-◌, List, ◌∷◌, length, reverse, take, refl, sym, ap, subst, ◌∙◌}
use Rattle.ms_linear.specs.declared.value.Value.{Value}
use Rattle.ms_task.specs.declared.far.Far.{Far}
use Rattle.ms_task.specs.refinement.Far.{IsStacked, all_of}
use Rattle.ms_task.proofs.Stacked.{dropped_near}
use Rattle.ms_task.proofs.far.drop_near.Goals as goal

pub returns-clause-same : goal.returns-clause-same
returns-clause-same c =
    let ds = c.args.directory.now in
    let ws = c.args.written.now in
    let items = c.args.items.now.items in
    let f = c.in-Some.f.now in
    let fs = reverse c.in-Some.field-0-1.now in
    let len = c.args.len in
    let parts = c.in-Some.ensures in
    let lies = subst (λ (gs : List Far). IsStacked gs (length items) (length ds) (length ws)) parts c.requires.stacked in
    subst (λ (gs : List Far). take len (all_of gs c.truncate-2.new.self.items ds ws) ≡ take len (all_of gs items ds ws)) (sym parts)
    (ap (λ (l : List Value). take len (all_of (f ∷ fs) l ds ws)) c.truncate-2.ensures.items ∙ dropped_near f fs items ds ws (length ds) (length ws) len (len - (f.end - f.at)) lies.0 c.if-len-f.false refl)
