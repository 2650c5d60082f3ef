use Rattle.std.proofs.Common.{◌∙◌, sym, ℕ, List, Option, Bor}
use Rattle.std.specs.BTreeMap.{get_by}
use Rattle.std.specs.Cmp.Lexicographic.{slice_cmp}
use Rattle.std.specs.Ordering.{nat_cmp}
use Rattle.ms_text_names.proofs.Kept.{is_none, kept, put}
use Rattle.ms_text_names.proofs.space.name.Goals as goal

pub returns-then-contains_key-clause-ok : goal.returns-then-contains_key-clause-ok
returns-then-contains_key-clause-ok c = λ q.
    let find : List ℕ → Option ℕ = λ text. get_by (λ (k : Bor (List ℕ)). slice_cmp nat_cmp text k.now) c.args.first.now in
    kept find c.args.text.now q.now c.args.number (sym c.contains_key.ensures ∙ c.if-contains_key.true)

pub returns-clause-ok : goal.returns-clause-ok
returns-clause-ok c = λ q.
    let find : List ℕ → Option ℕ = λ text. get_by (λ (k : Bor (List ℕ)). slice_cmp nat_cmp text k.now) c.args.first.now in
    c.in_ok-insert.ensures.updates.0 q ∙ put find c.args.text.now q.now c.args.number (is_none _ (sym c.contains_key.ensures ∙ c.if-contains_key.false))
