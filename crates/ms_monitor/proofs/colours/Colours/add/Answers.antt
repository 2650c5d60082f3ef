use Rattle.std.proofs.Common.{◌∙◌, List, ℕ, arith, true, ap, subst}
use Rattle.ms_monitor.specs.refinement.Colours.{Adds, colour_of}
use Rattle.ms_monitor.specs.declared.colours.Colour.{Colour}
use Rattle.ms_monitor.proofs.Colouring.{added}
use Rattle.ms_monitor.proofs.colours.Colours.add.Goals as goal

pub invariant_of-self-2 : goal.invariant_of-self-2
invariant_of-self-2 c =
    let u = c.in_ok-insert.ensures in
    let absent = ap (λ (es : List (ℕ × Colour)). colour_of es c.args.id) c.self.view_is ∙ c.requires.absent in
    let a = added c.self.inside.by_id c.insert.new.self c.args.id (record { base = c.args.base; size = c.args.size; is_live = true }) u.was_ordered u.entries u.updates absent in
    let l = a.live in
    let i = c.self.invariant in
    omega arith

pub returns-clause-ok : goal.returns-clause-ok
returns-clause-ok c =
    let u = c.in_ok-insert.ensures in
    let absent = ap (λ (es : List (ℕ × Colour)). colour_of es c.args.id) c.self.view_is ∙ c.requires.absent in
    subst (λ (es : List (ℕ × Colour)). Adds es c.insert.new.self.entries c.args.id (record { base = c.args.base; size = c.args.size; is_live = true })) c.self.view_is (added c.self.inside.by_id c.insert.new.self c.args.id (record { base = c.args.base; size = c.args.size; is_live = true }) u.was_ordered u.entries u.updates absent)
