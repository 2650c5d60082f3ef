use Rattle.std.proofs.Common.{◌≡◌, ◌++◌, ◌<◌, ◌∙◌, length, sym, subst, arith, List, ℕ}
use Rattle.std.proofs.lemmas.Bool.{ltb-true}
use Rattle.std.proofs.lemmas.Grind.{common_steps}
use Rattle.ms_bin_write.specs.Instrs.{body_bytes}
use Rattle.ms_bin_write.specs.Written.{locals_bytes}
use Rattle.ms_bin_write.proofs.Counts.{sized_len}
use Rattle.ms_bin_write.proofs.funcs.write_func.Goals as goal

pub returns-then-is_large-clause-large : goal.returns-then-is_large-clause-large
returns-then-is_large-clause-large c = λ e.
    let func = c.args.func.now in
    let entry : c.as_slice.result.now ≡ locals_bytes func.locals ++ body_bytes func.body = grind (arith, common_steps) in
    let many = ltb-true 0xFFFF_FFFF (length c.as_slice.result.now) (sym c.is_large.ensures ∙ c.if-is_large.true) in
    let more = subst (λ (bs : List ℕ). 0xFFFF_FFFF < length bs) entry many in
    omega (arith, sized_len (locals_bytes func.locals ++ body_bytes func.body))
