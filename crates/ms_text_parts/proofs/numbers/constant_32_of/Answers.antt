use Rattle.std.proofs.Common.{◌≡◌, ℤ, List, ℕ, Option, Some, sym, subst, ◌∙◌, arith}
use Rattle.std.specs.Prelude.{IfSome}
use Rattle.std.proofs.lemmas.Int.{to_z-of_z}
use mir.Val.{SFits}
use mir.Syntax.{w32, w64}
use Rattle.ms_text_lex.specs.Numbers.{constant_of}
use Rattle.ms_text_parts.proofs.Constants.{fits}
use Rattle.ms_text_parts.proofs.numbers.constant_32_of.Goals as goal

narrow : (text : List ℕ) (v : ℤ) → constant_of 32 text ≡ Some v → SFits w32 v
narrow text v e = subst (λ (o : Option ℤ). IfSome o (λ x. SFits w32 x)) e (fits text)

wide : (v : ℤ) → SFits w32 v → SFits w64 v
wide v f = omega (arith, f)

pub overflow_cast-result : goal.overflow_cast-result
overflow_cast-result c =
    let v = c.in-Some.value in
    let f = narrow c.args.text.now v (sym c.constant.ensures ∙ c.in-Some.is) in
    rw (to_z-of_z w64 v (wide v f)) f

pub returns-in-Some : goal.returns-in-Some
returns-in-Some c =
    let v = c.in-Some.value in
    let e = sym c.constant.ensures ∙ c.in-Some.is in
    let f = narrow c.args.text.now v e in
    rw (to_z-of_z w64 v (wide v f), to_z-of_z w32 v f) (sym e)
