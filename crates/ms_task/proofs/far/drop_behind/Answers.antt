use Rattle.std.proofs.Common.{◌≡◌, ◌≤◌, List, ◌∷◌, length, reverse, take, sym, ap, subst, ◌∙◌, arith, length-take}
use Rattle.ms_linear.specs.declared.value.Value.{Value}
use Rattle.ms_task.specs.declared.far.Far.{Far}
use Rattle.ms_task.specs.declared.far.Written.{Written}
use Rattle.ms_task.specs.refinement.Far.{IsStacked, all_of}
use Rattle.ms_task.proofs.Stacked.{dropped_behind, stacked_in_more}
use Rattle.ms_task.proofs.Writing.{reverse_rest}
use Rattle.ms_task.proofs.far.drop_behind.Goals as goal

pub returns-clause-stacked : goal.returns-clause-stacked
returns-clause-stacked c =
    let ds = c.args.directory.now in
    let ws = c.args.written.now.items in
    let items = c.args.items.now.items in
    let far = c.args.far.now.items in
    let f = c.in-Some.f.now in
    let fs = reverse c.in-Some.field-0-1.now in
    let parts : reverse far ≡ f ∷ fs = sym (ap reverse c.deref.ensures.value) ∙ c.in-Some.ensures in
    let lies = subst (λ (gs : List Far). IsStacked gs (length items) (length ds) (length ws)) parts c.requires.stacked in
    let rest : reverse c.pop.new.self.items ≡ fs = ap reverse (c.pop.ensures.rest ∙ reverse_rest far c.in-Some.field-0-1.now f _ parts (omega arith)) in
    let n : f.at ≤ length c.truncate.new.self.items = omega (arith, ap length c.truncate.ensures.items, length-take f.at items, lies.0.at) in
    let w : f.written ≤ length c.truncate-2.new.self.items = omega (arith, ap length c.truncate-2.ensures.items, length-take f.written ws, lies.0.written) in
    subst (λ (gs : List Far). IsStacked gs (length c.truncate.new.self.items) (length ds) (length c.truncate-2.new.self.items)) (sym rest)
    (stacked_in_more fs f.at f.directory f.written (length c.truncate.new.self.items) (length ds) (length c.truncate-2.new.self.items) n (omega (arith, lies.0.directory)) w lies.1)

pub returns-clause-same : goal.returns-clause-same
returns-clause-same c =
    let ds = c.args.directory.now in
    let ws = c.args.written.now.items in
    let items = c.args.items.now.items in
    let far = c.args.far.now.items in
    let f = c.in-Some.f.now in
    let fs = reverse c.in-Some.field-0-1.now in
    let len = c.args.len in
    let parts : reverse far ≡ f ∷ fs = sym (ap reverse c.deref.ensures.value) ∙ c.in-Some.ensures in
    let lies = subst (λ (gs : List Far). IsStacked gs (length items) (length ds) (length ws)) parts c.requires.stacked in
    let rest : reverse c.pop.new.self.items ≡ fs = ap reverse (c.pop.ensures.rest ∙ reverse_rest far c.in-Some.field-0-1.now f _ parts (omega arith)) in
    ap (λ (gs : List Far). take len (all_of gs c.truncate.new.self.items ds c.truncate-2.new.self.items)) rest
    ∙ ap (λ (l : List Value). take len (all_of fs l ds c.truncate-2.new.self.items)) c.truncate.ensures.items
    ∙ ap (λ (l : List Written). take len (all_of fs (take f.at items) ds l)) c.truncate-2.ensures.items
    ∙ dropped_behind f fs items ds ws (length ws) len lies.0 lies.1 c.if-f-len.false
    ∙ ap (λ (gs : List Far). take len (all_of gs items ds ws)) (sym parts)
