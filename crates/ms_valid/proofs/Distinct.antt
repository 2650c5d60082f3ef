-- Names that are put into a set one after the other.
use Rattle.std.proofs.Common.{◌≡◌, ◌≢◌, ℕ, ◌+◌, ◌<◌, Bool, true, false, cond, ◌⊎◌, inl, inr, List, [], ◌∷◌, ◌++◌, length, take, drop, get_or, refl, sym, ap, ◌∙◌}
use Rattle.std.specs.Prelude.{map, ◌||◌}
use Rattle.std.proofs.lemmas.Bool.{eq-eqb}
use Rattle.std.specs.List.{list_any}
use Rattle.std.specs.Str.{bytes_eq}
use Rattle.std.specs.Cmp.Lexicographic.{same_text}
use Rattle.std.proofs.lemmas.List.{drop_more, take-append-drop, take_more}
use Rattle.std.proofs.lemmas.List.Folds.{list_any-append}
use Rattle.std.specs.Cmp.Lexicographic.{slice_cmp}
use Rattle.std.specs.Ordering.{is_eq, nat_cmp}
use Rattle.std.proofs.lemmas.Map.Text.{is_eq-slice_cmp}
use Rattle.ms_module.specs.declared.module.Export.{Export}
use Rattle.ms_rules.specs.Modules.{AreDistinct, IsNotAmong}

self_same : (xs : List ℕ) → bytes_eq xs xs ≡ true
self_same [] = refl
self_same (x ∷ xs) = rw (eq-eqb x x refl) (self_same xs)

-- the names of exports
abbrev pub names : List Export → List (List ℕ)
names exports = map (λ (e : Export). e.name) exports

names-append : (xs ys : List Export) → names (xs ++ ys) ≡ names xs ++ names ys
names-append [] ys = refl
names-append (x ∷ xs) ys = ap (λ (l : List (List ℕ)). x.name ∷ l) (names-append xs ys)

either : (a b : Bool) → (a || b) ≡ true → (a ≡ true) ⊎ (b ≡ true)
either true b e = inl refl
either false b e = inr e

neither : (a b : Bool) → (a || b) ≡ false → (a ≡ false) × (b ≡ false)
neither true b e = absurd cc
neither false b e = (refl, e)

not_later : (x y : List ℕ) (xs ys : List (List ℕ)) → IsNotAmong x (xs ++ y ∷ ys) → x ≢ y
not_later x y [] ys h = h.0
not_later x y (z ∷ xs) ys h = not_later x y xs ys h.1

repeats : (xs : List (List ℕ)) (y : List ℕ) (ys : List (List ℕ)) → list_any (bytes_eq y) xs ≡ true → AreDistinct (xs ++ y ∷ ys) → ⊥
repeats [] y ys e h = absurd cc
repeats (x ∷ xs) y ys e h =
    elim (either (bytes_eq y x) (list_any (bytes_eq y) xs) e) [
      | inl same ↦ not_later x y xs ys h.0 (sym (same_text y x (sym same)))
      | inr later ↦ repeats xs y ys later h.1
    ]

not_among_more : (x y : List ℕ) (xs : List (List ℕ)) → IsNotAmong x xs → x ≢ y → IsNotAmong x (xs ++ y ∷ [])
not_among_more x y [] h ne = (ne, tt)
not_among_more x y (z ∷ xs) h ne = (h.0, not_among_more x y xs h.1 ne)

differs : (x y : List ℕ) → bytes_eq y x ≡ false → x ≢ y
differs x y e same = let f : bytes_eq y y ≡ false = rw same at e in let t : bytes_eq y y ≡ true = self_same y in cc

more : (xs : List (List ℕ)) (y : List ℕ) → list_any (bytes_eq y) xs ≡ false → AreDistinct xs → AreDistinct (xs ++ y ∷ [])
more [] y e h = (tt, tt)
more (x ∷ xs) y e h =
    let n = neither (bytes_eq y x) (list_any (bytes_eq y) xs) e in
    (not_among_more x y xs h.0 (differs x y n.0), more xs y n.1 h.1)

-- equality of names, the other way round
eq_sym : (a b : List ℕ) → bytes_eq a b ≡ bytes_eq b a
eq_sym a b = by_cases (bytes_eq a b) (bytes_eq b a) (λ e. rw (same_text a b (sym e)) (self_same b)) (λ e. rw (same_text b a (sym e)) (self_same a)) where
  by_cases : (x y : Bool) → (x ≡ true → y ≡ true) → (y ≡ true → x ≡ true) → x ≡ y
  by_cases true y f g = sym (f refl)
  by_cases false true f g = g refl
  by_cases false false f g = refl

-- a set of names after an insert, against the list of those put in
pub inserted : (k q y : List ℕ) (xs : List (List ℕ)) (old new : Bool) → k ≡ y → new ≡ cond (is_eq (slice_cmp nat_cmp k q)) true old → old ≡ list_any (bytes_eq q) xs → new ≡ (list_any (bytes_eq q) xs || bytes_eq q y)
inserted k q y xs old new is step before =
    let test : is_eq (slice_cmp nat_cmp k q) ≡ bytes_eq q y = is_eq-slice_cmp k q ∙ (ap (λ (z : List ℕ). bytes_eq z q) is ∙ eq_sym y q) in
    step ∙ (ap (λ (b : Bool). cond b true old) test ∙ (ap (λ (b : Bool). cond (bytes_eq q y) true b) before ∙ either_way (bytes_eq q y) (list_any (bytes_eq q) xs))) where
      either_way : (a b : Bool) → cond a true b ≡ (b || a)
      either_way true true = refl
      either_way true false = refl
      either_way false true = refl
      either_way false false = refl

module _ (exports : List Export) (i : ℕ) (d : Export) (lt : i < length exports) where
  next_names : names (take (i + 1) exports) ≡ names (take i exports) ++ (get_or exports i d).name ∷ []
  next_names = ap names (take_more exports i d lt) ∙ names-append (take i exports) (get_or exports i d ∷ [])

  pub still_distinct : list_any (bytes_eq (get_or exports i d).name) (names (take i exports)) ≡ false → AreDistinct (names (take i exports)) → AreDistinct (names (take (i + 1) exports))
  still_distinct e h = rw next_names (more (names (take i exports)) (get_or exports i d).name e h)

  pub seen_more : (q : List ℕ) → list_any (bytes_eq q) (names (take (i + 1) exports)) ≡ (list_any (bytes_eq q) (names (take i exports)) || bytes_eq q (get_or exports i d).name)
  seen_more q =
      ap (list_any (bytes_eq q)) next_names ∙ (list_any-append (bytes_eq q) (names (take i exports)) ((get_or exports i d).name ∷ [])
      ∙ ap (λ (b : Bool). list_any (bytes_eq q) (names (take i exports)) || b) (or_false (bytes_eq q (get_or exports i d).name))) where
        or_false : (b : Bool) → (b || false) ≡ b
        or_false true = refl
        or_false false = refl

  pub name_repeats : list_any (bytes_eq (get_or exports i d).name) (names (take i exports)) ≡ true → AreDistinct (names exports) → ⊥
  name_repeats e h =
      let split : names exports ≡ names (take i exports) ++ (get_or exports i d).name ∷ names (drop (i + 1) exports) =
      ap names (sym (take-append-drop i exports)) ∙ (ap (λ (l : List Export). names (take i exports ++ l)) (drop_more exports i d lt) ∙ names-append (take i exports) (get_or exports i d ∷ drop (i + 1) exports)) in
      repeats (names (take i exports)) (get_or exports i d).name (names (drop (i + 1) exports)) e (rw split at h)
