-- The numbers of modules, name by name.
use Rattle.std.proofs.Common.{◌≡◌, ◌∙◌, ◌<◌, ◌+◌, ℕ, suc, List, [], ◌∷◌, ◌++◌, Bor, Option, Some, length, get_or, drop, map, sym, ap, drop-cons, arith}
use Rattle.std.specs.Option.{option_and_then}
use Rattle.ms_job.specs.Jobs.{new_in, set_of}
use Rattle.ms_job.specs.declared.draft.Draft.{Draft}

abbrev texts : List (Bor (List ℕ)) → List (List ℕ)
texts names = map (λ name. name.now) names

pub set_grows : (d : Draft) (set : List ℕ) (names : List (Bor (List ℕ))) (i number : ℕ) (e : Bor (List ℕ)) (all : Option (List ℕ)) (seen : List ℕ) → i < length names
    → seen ≡ set → new_in d seen (get_or names i e).now ≡ Some number → set_of d set (texts (drop i names)) ≡ all
    → set_of d (set ++ number ∷ []) (texts (drop (i + 1) names)) ≡ all
set_grows d set names i number e all seen at same is so_far =
    let rest = texts (drop (suc i) names) in
    let split : set_of d set (texts (drop i names)) ≡ set_of d set ((get_or names i e).now ∷ rest) = ap (λ (xs : List (Bor (List ℕ))). set_of d set (texts xs)) (drop-cons names i e at) in
    let first : set_of d set ((get_or names i e).now ∷ rest) ≡ set_of d (set ++ number ∷ []) rest = ap (option_and_then (λ n. set_of d (set ++ n ∷ []) rest)) (ap (λ (ns : List ℕ). new_in d ns (get_or names i e).now) (sym same) ∙ is) in
    let next : i + 1 ≡ suc i = omega arith in
    ap (λ (j : ℕ). set_of d (set ++ number ∷ []) (texts (drop j names))) next ∙ (sym first ∙ (sym split ∙ so_far))
