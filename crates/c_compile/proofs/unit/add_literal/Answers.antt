use Rattle.std.proofs.Common.{◌≡◌, ◌++◌, ◌∷◌, subst, sym}
use Rattle.c_typed.specs.refinement.Views.{made_of}
use Rattle.c_typed.specs.declared.unit.Made.{Made}
use Rattle.c_typed.specs.Units.{literals_in}
use Rattle.c_code.specs.Modules.{literal_globals}
use Rattle.c_compile.proofs.Modules.{literals_step}
use Rattle.c_compile.proofs.unit.add_literal.Goals as goal

pub returns-in_ok-push-in-Literal : goal.returns-in_ok-push-in-Literal
returns-in_ok-push-in-Literal c = λ u rest.
    let old = c.args.all.now in
    let new = c.push.new.self in
    subst (λ (m : Made). new ++ literal_globals u (literals_in rest) ≡ old ++ literal_globals u (literals_in (made_of m ∷ rest))) (sym c.in-Literal.is)
    (literals_step u old new c.in_ok-global-in-Literal.field-0 c.in-Literal.field-0.items rest c.in_ok-push-in-Literal.ensures.items (c.in_ok-global-in-Literal.ensures u))
