use Rattle.std.proofs.Common.{◌∙◌, List, ℕ, arith, ap, subst}
use Rattle.ms_monitor.specs.refinement.Colours.{Ends, colour_of}
use Rattle.ms_monitor.specs.declared.colours.Colour.{Colour}
use Rattle.ms_monitor.proofs.Colouring.{live_one, put_out_ends}
use Rattle.ms_monitor.proofs.colours.Colours.end.Goals as goal

pub overflow_sub-self : goal.overflow_sub-self
overflow_sub-self c =
    let found = ap (λ (es : List (ℕ × Colour)). colour_of es c.args.id) c.self.view_is ∙ c.requires.found in
    let l = (put_out_ends c.self.inside.by_id c.put_out.new.by_id c.args.id c.args.colour found c.put_out.ensures).live in
    let o = live_one c.args.colour c.requires.live in
    let i = c.self.invariant in
    omega arith

pub invariant_of-self : goal.invariant_of-self
invariant_of-self c =
    let found = ap (λ (es : List (ℕ × Colour)). colour_of es c.args.id) c.self.view_is ∙ c.requires.found in
    let l = (put_out_ends c.self.inside.by_id c.put_out.new.by_id c.args.id c.args.colour found c.put_out.ensures).live in
    let o = live_one c.args.colour c.requires.live in
    let i = c.self.invariant in
    omega arith

pub returns : goal.returns
returns c =
    let found = ap (λ (es : List (ℕ × Colour)). colour_of es c.args.id) c.self.view_is ∙ c.requires.found in
    subst (λ (es : List (ℕ × Colour)). Ends es c.put_out.new.by_id.entries c.args.id c.args.colour) c.self.view_is (put_out_ends c.self.inside.by_id c.put_out.new.by_id c.args.id c.args.colour found c.put_out.ensures)
