use Rattle.std.proofs.Common.{◌≡◌, ◌+◌, ◌∙◌, ℕ, Some, None, sym, ap, arith}
use Rattle.ms_text_grammar.specs.Identifiers.{found}
use Rattle.ms_text_names.proofs.Repeats.{found_behind, shifted}
use Rattle.ms_text_names.proofs.locals.LocalIds.find.Goals as goal

pub returns-in_default : goal.returns-in_default
returns-in_default c =
    let behind = c.self.inside.behind in
    let first : found behind.source behind.ids c.args.id 0 ≡ None = grind arith in
    rw (← c.self.view_is) (sym (found_behind behind.source c.self.inside.unnamed behind.ids c.args.id ∙ ap (shifted c.self.inside.unnamed) first))

pub returns : goal.returns
returns c =
    let behind = c.self.inside.behind in
    let first : found behind.source behind.ids c.args.id 0 ≡ Some c.in-Some.n = grind arith in
    let sum : c.in_ok-number.field-0 ≡ c.self.inside.unnamed + c.in-Some.n = grind arith in
    rw (← c.self.view_is) (ap (λ (n : ℕ). Some n) sum ∙ sym (found_behind behind.source c.self.inside.unnamed behind.ids c.args.id ∙ ap (shifted c.self.inside.unnamed) first))
