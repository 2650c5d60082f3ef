-- What a branch keeps.
use Rattle.std.proofs.Common.{◌≡◌, ◌≢◌, ℕ, suc, ◌+◌, ◌-◌, ◌<◌, ◌≤◌, List, [], ◌∷◌, length, drop, slice_get, Some, None, refl, sym, ap, ◌∙◌, arith, ⊎_elim}
use Rattle.std.proofs.lemmas.Bool.{le-leb, cases_lt, lt-leb}
use Rattle.std.proofs.lemmas.Grind.{common_steps}
use Rattle.ms_linear.specs.declared.value.Value.{Value}
use Rattle.ms_types.specs.declared.types.ValType.{ValType}
use Rattle.ms_task.specs.Control.{keep, lowest, over}

pub lowest_within : (h : ℕ) (vs : List Value) → h ≤ length vs → lowest h vs ≡ Some (drop (length vs - h) vs)
lowest_within h vs le = rw (le-leb h (length vs) le) refl

pub lowest_past : (h : ℕ) (vs : List Value) → length vs < h → lowest h vs ≡ None
lowest_past h vs lt = rw (lt-leb h (length vs) lt) refl

drop_more : (a b : ℕ) (vs : List Value) → drop a (drop b vs) ≡ drop (b + a) vs
drop_more a b vs = grind (arith, common_steps)

pub keep_one : (t : ValType) (h : ℕ) (vs rest new : List Value) (v : Value) → slice_get vs 0 ≡ Some v → rest ≡ drop (length vs - 1 - h) vs → new ≡ v ∷ drop 1 rest → keep (Some t) h vs ≢ None → Some new ≡ keep (Some t) h vs
keep_one t h [] rest new v e r n kept = absurd (kept refl)
keep_one t h (x ∷ xs) rest new v e r n kept =
    ⊎_elim
    (λ lt. absurd (kept (ap (over x) (lowest_past h xs lt))))
    (λ le.
    let long : length (x ∷ xs) - 1 - h + 1 ≡ suc (length xs - h) = omega (arith, le) in
    let same : x ≡ v = cc in
    ap Some (n ∙ ap (λ l. v ∷ drop 1 l) r ∙ ap (λ l. v ∷ l) (drop_more 1 (length (x ∷ xs) - 1 - h) (x ∷ xs) ∙ ap (λ k. drop k (x ∷ xs)) long) ∙ ap (λ y. y ∷ drop (length xs - h) xs) (sym same))
    ∙ sym (ap (over x) (lowest_within h xs le)))
    (cases_lt (length xs) h)
