-- Lists without what a test refuses.
use Rattle.std.proofs.Common.{◌≡◌, ◌≢◌, ◌==◌, ℕ, zero, suc, ◌+◌, Bool, true, false, not, cond, List, [], ◌∷◌, length, refl, arith, ap, sym, ◌∙◌, subst}
use Rattle.std.specs.List.{AllPairs, Contains, filter}
use Rattle.std.proofs.lemmas.Bool.Decides.{nat_tests}
use Rattle.std.proofs.lemmas.List.Elements.{All-contains, All-contains_itself, All-filter, Contains-append_right, filter_passes}
use Rattle.ms_live.proofs.Found.{other_id, same_id}

-- what is left was there and passes
pub is_left : {X : Type 0} → (p : X → Bool) (xs : List X) (x : X) → Contains (filter p xs) x → Contains xs x × (p x ≡ true)
is_left p xs x c = (All-contains (Contains xs) (filter p xs) x (All-filter p (Contains xs) xs (All-contains_itself xs)) c, All-contains (λ y. p y ≡ true) (filter p xs) x (filter_passes p xs) c)

-- what was there and passes is left
pub stays : {X : Type 0} → (p : X → Bool) (xs : List X) (x : X) → Contains xs x → p x ≡ true → Contains (filter p xs) x
stays p [] x c h = let l = c.1 in absurd (omega arith)
stays {X} p (y ∷ ys) x (zero, l, e) h =
    let q : p y ≡ true = ap p e ∙ h in
    subst (λ (b : Bool). Contains (cond b (y ∷ filter p ys) (filter p ys)) x) (sym q) (0, omega arith, e)
stays {X} p (y ∷ ys) x (suc k, l, e) h =
    let rest = stays p ys x (k, omega arith, e) h in
    elim (p y) as (λ b. Contains (cond b (y ∷ filter p ys) (filter p ys)) x) [ true ↦ Contains-append_right (y ∷ []) (filter p ys) x rest | false ↦ rest ]

abbrev pub without : ℕ → List ℕ → List ℕ
without id xs = filter (λ x. not (x == id)) xs

-- none goes where it isn't there
none_goes : (id : ℕ) (xs : List ℕ) → ¬ (Contains xs id) → length (without id xs) ≡ length xs
none_goes id [] h = refl
none_goes id (x ∷ xs) h =
    let rest = none_goes id xs (λ c. h (Contains-append_right (x ∷ []) xs id c)) in
    let e = other_id x id (λ q. h (0, omega arith, q)) in
    ap (λ (b : Bool). length (cond (not b) (x ∷ without id xs) (without id xs))) e ∙ ap suc rest

one_goes_from : (id x : ℕ) (xs : List ℕ) (b : Bool) → (x == id) ≡ b → AllPairs (λ (i j : ℕ). i ≢ j) (x ∷ xs) → Contains (x ∷ xs) id → (Contains xs id → length (without id xs) + 1 ≡ length xs)
    → length (cond (not b) (x ∷ without id xs) (without id xs)) + 1 ≡ length (x ∷ xs)
one_goes_from id x xs true q once c rest =
    let e = none_goes id xs (λ d. let l = d.1 in once 0 (suc d.0) id (omega arith) (omega arith) (same_id x id q ∙ sym d.2)) in
    omega arith
one_goes_from id x xs false q once (zero, l, e) rest = let t : (x == id) ≡ true = grind (arith, nat_tests) in absurd (cc)
one_goes_from id x xs false q once (suc k, l, e) rest = let r = rest (k, omega arith, e) in omega arith

-- where all differ, one goes
pub one_goes : (id : ℕ) (xs : List ℕ) → AllPairs (λ (i j : ℕ). i ≢ j) xs → Contains xs id → length (without id xs) + 1 ≡ length xs
one_goes id [] once c = let l = c.1 in absurd (omega arith)
one_goes id (x ∷ xs) once c = one_goes_from id x xs (x == id) refl once c (λ d. one_goes id xs (λ i j y l h. once (suc i) (suc j) y (omega arith) (omega arith)) d)
