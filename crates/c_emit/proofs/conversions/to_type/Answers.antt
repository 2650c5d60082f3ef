use Rattle.std.proofs.Common.{◌≡◌, ◌≤◌, ◌<◌, Bool, true, false, nat_lt, if◌then◌else◌, arith, rules, tests, subst, sym, ap, ◌∙◌, refl}
use Rattle.c_types.specs.Integers.{bits, is_signed}
use Rattle.ms_emit.specs.Codes.{Code, no_code}
use Rattle.ms_emit.specs.refinement.Parts.{Adds}
use Rattle.c_code.specs.Operations.{narrow, to_type}
use Rattle.c_emit.proofs.Steps.{nothing_added}
use Rattle.c_emit.proofs.conversions.to_type.Goals as goal

chosen : (b : Bool) (x y : Code) → b ≡ false → (if b then x else y) ≡ y
chosen true x y e = absurd cc
chosen false x y e = refl

pub returns-else-bits-lt32 : goal.returns-else-bits-lt32
returns-else-bits-lt32 c =
    let s = c.args.body.now in
    let t = c.args.t in
    let wide : nat_lt (bits t) 32 ≡ false = search (tests, rules) in
    subst (λ (x : Code). Adds s s x) (sym (chosen (nat_lt (bits t) 32) (narrow (bits t) (is_signed t)) no_code wide)) (nothing_added s)
