use Rattle.std.proofs.Common.{◌≡◌, ◌++◌, ◌+◌, ◌<◌, length, drop, slice_get, List, ◌∷◌, Some, None, sym, subst, ◌∙◌, arith}
use Rattle.std.proofs.lemmas.Grind.{common_steps}
use Rattle.ms_types.specs.declared.types.ValType.{ValType}
use Rattle.ms_flat.specs.Keywords.{value_word}
use Rattle.ms_text_write.specs.Parts.{spaced}
use Rattle.ms_text_write.proofs.Rows.{among, next_at, past}
use Rattle.ms_text_write.proofs.funcs.write_types.Goals as goal

pub loop-ty-preserved : goal.loop-ty-preserved
loop-ty-preserved c =
    let tys = c.args.locals.now in
    let here : slice_get tys c.loop-ty.index ≡ Some c.in-Some.ty = cc in
    let rest : drop c.loop-ty.index tys ≡ c.in-Some.ty ∷ drop (c.loop-ty.index + 1) tys = next_at tys c.loop-ty.index c.in-Some.ty here in
    let few : c.loop-ty.index < length tys = among tys c.loop-ty.index c.in-Some.ty here in
    let all = subst (λ (l : List ValType). c.loop-ty.out.items ++ spaced value_word l ≡ c.args.out.now.items ++ spaced value_word tys) rest c.loop-ty.invariant.written in
    record { written = grind (arith, common_steps, all); within = omega (arith, few) }

pub returns : goal.returns
returns c =
    let tys = c.args.locals.now in
    let here : slice_get tys c.loop-ty.index ≡ None = sym c.get.ensures ∙ c.in_default.is in
    let all = subst (λ (l : List ValType). c.loop-ty.out.items ++ spaced value_word l ≡ c.args.out.now.items ++ spaced value_word tys) (past tys c.loop-ty.index here) c.loop-ty.invariant.written in
    grind (arith, common_steps, all)
