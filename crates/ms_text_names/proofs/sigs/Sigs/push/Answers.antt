use Rattle.std.proofs.Common.{◌≡◌, ◌+◌, ◌++◌, ◌∷◌, [], ℕ, List, Option, length, sym, ap, ◌∙◌, arith}
use Rattle.ms_types.specs.declared.types.FuncType.{FuncType}
use Rattle.ms_text_names.specs.refinement.Keys.{first_of}
use Rattle.ms_text_names.specs.refinement.Spaces.{first_or, numbered}
use Rattle.ms_text_names.proofs.Types.{first_added}
use Rattle.ms_text_names.proofs.sigs.Sigs.push.Goals as goal

pub invariant_of-self-2 : goal.invariant_of-self-2
invariant_of-self-2 c = λ q.
    let types = c.self.inside.types.items in
    let items : c.push_reserved.new.self.items ≡ types ++ c.args.ty ∷ [] = c.push_reserved.ensures.items ∙ ap (λ (xs : List FuncType). xs ++ c.args.ty ∷ []) c.in_ok-reserve.ensures.items in
    let number : c.in_ok-number.number ≡ 0 + length types = grind arith in
    c.in_ok-keep.ensures.ok q ∙ ap (λ (r : Option ℕ). first_or r (numbered c.args.key.items q.items c.in_ok-number.number)) (c.self.invariant q)
    ∙ ap (λ (key : List ℕ). first_or (first_of types q.items 0) (numbered key q.items c.in_ok-number.number)) c.requires
    ∙ sym (first_added types c.args.ty q.items 0 c.in_ok-number.number number) ∙ ap (λ (tys : List FuncType). first_of tys q.items 0) (sym items)
