-- Laws of formats with tests.
use Rattle.std.specs.Prelude.{◌≡◌, ◌≤◌, ◌+◌, ℕ, suc, Bool, true, false, ◌&&◌, List, [], ◌∷◌, ◌++◌, length, take, drop, nat_eq, Ok, Err, refl}
use Rattle.std.specs.List.{starts_with}
use Rattle.std.specs.Cmp.Lexicographic.{same_text}
use lib.Pointwise.{pointwise}
use Rattle.std.proofs.Common.{cond, eqb, ltb, inl, inr, sym, ap, subst, ◌∙◌, arith}
use Rattle.std.proofs.lemmas.Bool.{eq-eqb, ltb-false, le-ltb}
use Rattle.std.proofs.lemmas.List.{take_at, drop_at, take-append-drop, length-append, length-take}
use Rattle.ms_bytes.specs.Reading.{okay}
use Rattle.ms_bytes.specs.ResultLaws.{bind_ok, chosen, not_refused, ok_is}
use Rattle.ms_bytes.specs.Format.{Format}
use Rattle.ms_bytes.specs.Texts.{IsRun, all_pass, check_at, front_at, marks_at, next_passes, only_at, run_len, text_before, from_text_at}

pub append_fits : {E : Type 0} (s x t : List E) → s ≡ x ++ t → length t + 0 ≤ length s
append_fits s x t e = rw e (omega (arith, length-append x t))

-- ---- a test of a value and of its item's text

module _ {E F A : Type 0} (test : A → List E → Bool) (fault : ℕ → List E → F) (f : Format E F A) where
  pub only_takes : (end : ℕ) (s : List E) (x : A) (t : List E) → only_at test fault f.read end s ≡ Ok (x, t) → f.spelled s x t × (test x (text_before s t) ≡ true)
  only_takes end s x t e =
      let y = bind_ok (f.read end s) (λ y. cond (test y.0 (text_before s y.1)) (Ok y) (Err (fault end s))) (x, t) e in
      elim (chosen (test y.0.0 (text_before s y.0.1)) _ _ _ y.2) [
        | inl h ↦ subst (λ (q : A × List E). f.spelled s q.0 q.1 × (test q.0 (text_before s q.1) ≡ true)) (ok_is {F = F} y.0 (x, t) h.1) (f.takes end s y.0.0 y.0.1 y.1, h.0)
        | inr h ↦ absurd (not_refused {A = A × List E} (fault end s) (x, t) h.1)
      ]

  pub only_again : (end : ℕ) (s : List E) (x : A) (t : List E) → f.spelled s x t × (test x (text_before s t) ≡ true) → only_at test fault f.read end s ≡ Ok (x, t)
  only_again end s x t h = rw (f.again end s x t h.0, h.1) refl

-- ---- an item's text

module _ {E F A B : Type 0} (g : List E → B) (f : Format E F A) where
  pub from_text_takes : (end : ℕ) (s : List E) (y : B) (t : List E) → from_text_at g f.read end s ≡ Ok (y, t) → (x : A) × f.spelled s x t × (y ≡ g (text_before s t))
  from_text_takes end s y t e =
      let x = bind_ok (f.read end s) (λ x. Ok (g (text_before s x.1), x.1)) (y, t) e in
      let p = ok_is {F = F} (g (text_before s x.0.1), x.0.1) (y, t) x.2 in
      subst (λ (q : B × List E). (x : A) × f.spelled s x q.1 × (q.0 ≡ g (text_before s q.1))) p (x.0.0, f.takes end s x.0.0 x.0.1 x.1, refl)

  pub from_text_again : (end : ℕ) (s : List E) (y : B) (t : List E) → (x : A) × f.spelled s x t × (y ≡ g (text_before s t)) → from_text_at g f.read end s ≡ Ok (y, t)
  from_text_again end s y t h = rw (f.again end s h.0 t h.1, h.2) refl

-- ---- a test of nothing

module _ {E F : Type 0} (fault : ℕ → List E → F) (b : Bool) where
  pub check_takes : (end : ℕ) (s : List E) (x : Unit {0}) (t : List E) → check_at fault b end s ≡ Ok (x, t) → (b ≡ true) × (s ≡ t)
  check_takes end s x t e =
      elim (chosen b _ _ _ e) [
        | inl h ↦ (h.0, ap (λ (q : Unit {0} × List E). q.1) (ok_is {F = F} (tt, s) (x, t) h.1))
        | inr h ↦ absurd (not_refused {A = Unit {0} × List E} (fault end s) (x, t) h.1)
      ]

  pub check_again : (end : ℕ) (s : List E) (x : Unit {0}) (t : List E) → (b ≡ true) × (s ≡ t) → check_at fault b end s ≡ Ok (x, t)
  check_again end s x t h = rw (h.0, h.1) refl

pub check_fits : {E : Type 0} (b : Bool) (s : List E) (x : Unit {0}) (t : List E) → (b ≡ true) × (s ≡ t) → length t + 0 ≤ length s
check_fits b s x t h = rw h.1 (omega arith)

-- ---- these bytes

self_same : (xs : List ℕ) → pointwise eqb xs xs ≡ true
self_same [] = refl
self_same (x ∷ xs) = rw (eq-eqb x x refl) (self_same xs)

module _ {F : Type 0} (fault : ℕ → List ℕ → F) (marks : List ℕ) where
  pub marks_takes : (end : ℕ) (s : List ℕ) (x : Unit {0}) (t : List ℕ) → marks_at fault marks end s ≡ Ok (x, t) → s ≡ marks ++ t
  marks_takes end s x t e =
      elim (chosen (starts_with nat_eq s marks) _ _ _ e) [
        | inl h ↦
            let front : marks ≡ take (length marks) s = same_text marks (take (length marks) s) (sym h.0) in
            let t-is : drop (length marks) s ≡ t = ap (λ (q : Unit {0} × List ℕ). q.1) (ok_is {F = F} (tt, drop (length marks) s) (x, t) h.1) in
            sym (take-append-drop (length marks) s) ∙ (ap (λ (y : List ℕ). y ++ drop (length marks) s) (sym front) ∙ ap (λ (y : List ℕ). marks ++ y) t-is)
        | inr h ↦ absurd (not_refused {A = Unit {0} × List ℕ} (fault end s) (x, t) h.1)
      ]

  pub marks_again : (end : ℕ) (s : List ℕ) (x : Unit {0}) (t : List ℕ) → s ≡ marks ++ t → marks_at fault marks end s ≡ Ok (x, t)
  marks_again end s x t h = rw (h, take_at marks t (length marks) refl, self_same marks, drop_at marks t (length marks) refl) refl

-- ---- so many items

module _ {E F : Type 0} (fault : ℕ → List E → F) (n : ℕ) where
  pub front_takes : (end : ℕ) (s x t : List E) → front_at fault n end s ≡ Ok (x, t) → (length x ≡ n) × (s ≡ x ++ t)
  front_takes end s x t e =
      elim (chosen (ltb (length s) n) _ _ _ e) [
        | inl h ↦ absurd (not_refused {A = List E × List E} (fault end []) (x, t) h.1)
        | inr h ↦
            let room : n ≤ length s = ltb-false _ _ h.0 in
            let len : length (take n s) ≡ n = omega (arith, length-take n s) in
            subst (λ (q : List E × List E). (length q.0 ≡ n) × (s ≡ q.0 ++ q.1)) (ok_is {F = F} (take n s, drop n s) (x, t) h.1) (len, sym (take-append-drop n s))
      ]

  pub front_again : (end : ℕ) (s x t : List E) → (length x ≡ n) × (s ≡ x ++ t) → front_at fault n end s ≡ Ok (x, t)
  front_again end s x t h =
      let room : ltb (length (x ++ t)) n ≡ false = le-ltb _ _ (omega (arith, length-append x t, h.0)) in
      rw (h.1, room, take_at x t n h.0, drop_at x t n h.0) refl

-- ---- the longest run of items

pub run_stops : {E : Type 0} (test : E → Bool) (s : List E) → IsRun test s (take (run_len test s) s) (drop (run_len test s) s)
run_stops test [] = (refl, refl, refl)
run_stops {E} test (x ∷ xs) =
    let r = run_stops test xs in
    elim (test x) as (λ b. test x ≡ b → IsRun test (x ∷ xs) (take (cond b (suc (run_len test xs)) 0) (x ∷ xs)) (drop (cond b (suc (run_len test xs)) 0) (x ∷ xs))) [
      | true ↦ λ h. (ap (λ (l : List E). x ∷ l) r.0, rw h r.1, r.2)
      | false ↦ λ h. (refl, refl, h)
    ] refl

run_is : {E : Type 0} (test : E → Bool) (x t : List E) → all_pass test x ≡ true → next_passes test t ≡ false → (take (run_len test (x ++ t)) (x ++ t) ≡ x) × (drop (run_len test (x ++ t)) (x ++ t) ≡ t)
run_is test [] [] a n = (refl, refl)
run_is test [] (y ∷ t) a n = (rw n refl, rw n refl)
run_is {E} test (y ∷ x) t a n =
    elim (test y) as (λ b. test y ≡ b → b && all_pass test x ≡ true → (take (cond b (suc (run_len test (x ++ t))) 0) (y ∷ (x ++ t)) ≡ y ∷ x) × (drop (cond b (suc (run_len test (x ++ t))) 0) (y ∷ (x ++ t)) ≡ t)) [
      | true ↦ λ h a. let r = run_is test x t a n in (ap (λ (l : List E). y ∷ l) r.0, r.1)
      | false ↦ λ h a. absurd cc
    ] refl a

pub longest_takes : {E F : Type 0} (test : E → Bool) (s x t : List E) → okay {F = F} {A = List E × List E} (take (run_len test s) s, drop (run_len test s) s) ≡ okay {F = F} (x, t) → IsRun test s x t
longest_takes {E} {F} test s x t e = subst (λ (q : List E × List E). IsRun test s q.0 q.1) (ok_is {F = F} (take (run_len test s) s, drop (run_len test s) s) (x, t) e) (run_stops test s)

pub longest_again : {E F : Type 0} (test : E → Bool) (s x t : List E) → IsRun test s x t → okay {F = F} {A = List E × List E} (take (run_len test s) s, drop (run_len test s) s) ≡ okay {F = F} (x, t)
longest_again {E} {F} test s x t h =
    let r = run_is test x t h.1 h.2 in
    let e : okay {F = F} {A = List E × List E} (take (run_len test (x ++ t)) (x ++ t), drop (run_len test (x ++ t)) (x ++ t)) ≡ okay {F = F} (x, t) = rw (r.0, r.1) refl in
    subst (λ (l : List E). okay {F = F} {A = List E × List E} (take (run_len test l) l, drop (run_len test l) l) ≡ okay {F = F} (x, t)) (sym h.0) e

-- ---- what is left, of which nothing is taken

pub left_takes : {E F A : Type 0} (f : List E → A) (s : List E) (x : A) (t : List E) → okay {F = F} {A = A × List E} (f s, s) ≡ okay {F = F} (x, t) → (x ≡ f s) × (s ≡ t)
left_takes {E} {F} {A} f s x t e =
    let p = ok_is {F = F} (f s, s) (x, t) e in
    (sym (ap (λ (q : A × List E). q.0) p), ap (λ (q : A × List E). q.1) p)

pub left_again : {E F A : Type 0} (f : List E → A) (s : List E) (x : A) (t : List E) → (x ≡ f s) × (s ≡ t) → okay {F = F} {A = A × List E} (f s, s) ≡ okay {F = F} (x, t)
left_again f s x t h = rw (h.0, h.1) refl

pub left_fits : {E A : Type 0} (f : List E → A) (s : List E) (x : A) (t : List E) → (x ≡ f s) × (s ≡ t) → length t + 0 ≤ length s
left_fits f s x t h = rw h.1 (omega arith)

-- ---- all that is left

pub rest_takes : {E F : Type 0} (s x t : List E) → okay {F = F} {A = List E × List E} (s, []) ≡ okay {F = F} (x, t) → (x ≡ s) × (t ≡ [])
rest_takes {E} {F} s x t e =
    let p = ok_is {F = F} (s, []) (x, t) e in
    (sym (ap (λ (q : List E × List E). q.0) p), sym (ap (λ (q : List E × List E). q.1) p))

pub rest_again : {E F : Type 0} (s x t : List E) → (x ≡ s) × (t ≡ []) → okay {F = F} {A = List E × List E} (s, []) ≡ okay {F = F} (x, t)
rest_again s x t h = rw (h.0, h.1) refl

pub rest_fits : {E : Type 0} (s t : List E) → t ≡ [] → length t + 0 ≤ length s
rest_fits s t h = rw h (omega arith)
