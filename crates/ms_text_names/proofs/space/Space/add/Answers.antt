use Rattle.std.proofs.Common.{◌∙◌, sym, ap, ◌≡◌, ◌+◌, ◌++◌, ◌∷◌, [], ℕ, List, Option, Some, None, length, is_some, arith}
use Rattle.ms_text_lex.specs.declared.token.Token.{Token}
use Rattle.ms_text_names.specs.refinement.Spaces.{Entries, first_of, first_or, numbered, stands_before}
use Rattle.ms_text_names.proofs.Firsts.{first_none, first_some, known_first}
use Rattle.ms_text_names.proofs.space.Space.add.Goals as goal

pub invariant_of-self-in-None : goal.invariant_of-self-in-None
invariant_of-self-in-None c = λ q.
    let source = c.self.inside.source.now in
    let ids = c.self.inside.ids.items in
    let items : c.push_reserved.new.self.items ≡ ids ++ None ∷ [] = c.push_reserved.ensures.items ∙ ap (λ (xs : List (Option Token)). xs ++ None ∷ []) c.in_ok-reserve.ensures.items in
    c.self.invariant q ∙ sym (first_none source ids q.now 0) ∙ ap (λ (xs : List (Option Token)). first_of source xs q.now 0) (sym items)

pub invariant_of-self-in-Some : goal.invariant_of-self-in-Some
invariant_of-self-in-Some c = λ q.
    let source = c.self.inside.source.now in
    let ids = c.self.inside.ids.items in
    let id = c.in-Some.id in
    let items : c.push_reserved-in-Some.new.self.items ≡ ids ++ Some id ∷ [] = c.push_reserved-in-Some.ensures.items ∙ ap (λ (xs : List (Option Token)). xs ++ Some id ∷ []) c.in_ok-reserve.ensures.items in
    let number : c.in-Ok.number ≡ 0 + length ids = grind arith in
    c.in_ok-repeated-in-Some.ensures.ok q ∙ ap (λ (r : Option ℕ). first_or r (numbered c.text_of.result.now q.now c.in-Ok.number)) (c.self.invariant q)
    ∙ ap (λ (text : List ℕ). first_or (first_of source ids q.now 0) (numbered text q.now c.in-Ok.number)) c.text_of.ensures
    ∙ sym (first_some source ids id q.now 0 c.in-Ok.number number) ∙ ap (λ (xs : List (Option Token)). first_of source xs q.now 0) (sym items)

pub returns-in_ok-repeated-in-Some-clause-repeated : goal.returns-in_ok-repeated-in-Some-clause-repeated
returns-in_ok-repeated-in-Some-clause-repeated c =
    let source = c.self.inside.source.now in
    let ids = c.self.inside.ids.items in
    let id = c.in-Some.id in
    c.in_ok-repeated-in-Some.ensures.known ∙ ap is_some (c.self.invariant c.text_of.result ∙ ap (λ (text : List ℕ). first_of source ids text 0) c.text_of.ensures)
    ∙ sym (known_first source ids id 0) ∙ ap (λ (s : Entries). stands_before s.source s.ids (Some id)) c.self.view_is ∙ ap (λ (o : Option Token). stands_before c.args.self.now.source c.args.self.now.ids o) (sym c.in-Some.is)
