use Rattle.std.proofs.Common.{◌≡◌, ◌-◌, ◌<◌, ◌≤◌, List, ◌∷◌, length, reverse, slice_get, refl, ap, subst, ◌∙◌, arith}
use Rattle.std.proofs.lemmas.Option.{slice_get_read}
use Rattle.ms_task.specs.declared.far.Far.{Far}
use Rattle.ms_task.specs.refinement.Far.{HaveBegun, IsStacked, Lies, all_of, total}
use Rattle.ms_task.proofs.Stacked.{get_above, get_among}
use Rattle.ms_task.proofs.far.read_last.Goals as goal

pub returns-then-f-p : goal.returns-then-f-p
returns-then-f-p c =
    let items = c.args.items.now in
    let ds = c.args.directory.now in
    let ws = c.args.written.now in
    let f = c.in-Some.f.now in
    let fs = reverse c.in-Some.field-0-1.now in
    let p = c.args.p in
    let parts : reverse c.args.far.now ≡ f ∷ fs = c.in-Some.ensures in
    let lies : Lies f fs (length items) (length ds) (length ws) = (subst (λ (gs : List Far). IsStacked gs (length items) (length ds) (length ws)) parts c.requires.stacked).0 in
    let within : p - (f.end - f.at) < length items = omega (arith, lies.first, lies.end, c.if-f-p.true, c.requires.within, ap total parts) in
    ap (λ (gs : List Far). slice_get (all_of gs items ds ws) p) parts
    ∙ get_above f fs items ds ws (length ds) (length ws) p lies c.if-f-p.true
    ∙ slice_get_read items (length items) (p - (f.end - f.at)) c.index-items-p-then-f-p.result refl within c.index-items-p-then-f-p.is

pub returns : goal.returns
returns c =
    let items = c.args.items.now in
    let ds = c.args.directory.now in
    let ws = c.args.written.now in
    let f = c.in-Some.f.now in
    let fs = reverse c.in-Some.field-0-1.now in
    let p = c.args.p in
    let parts : reverse c.args.far.now ≡ f ∷ fs = c.in-Some.ensures in
    let lies : Lies f fs (length items) (length ds) (length ws) = (subst (λ (gs : List Far). IsStacked gs (length items) (length ds) (length ws)) parts c.requires.stacked).0 in
    let begun : f.first ≤ p = subst (λ (gs : List Far). HaveBegun gs p) parts c.requires.begun in
    ap (λ (gs : List Far). slice_get (all_of gs items ds ws) p) parts
    ∙ get_among f fs items ds ws (length ds) (length ws) p lies begun c.if-f-p.false
    ∙ c.get.ensures
