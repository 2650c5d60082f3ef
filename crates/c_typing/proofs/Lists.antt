-- Lists of numbers, and what stands where in a list.
use Rattle.std.proofs.Common.{◌≡◌, ℕ, zero, suc, ◌+◌, ◌<◌, List, [], ◌∷◌, ◌++◌, length, Bool, true, false, Some, None, refl, sym, ap, ◌∙◌, arith, subst, ◌⊎◌, inl, inr}
use Rattle.std.specs.Prelude.{slice_get, cond, filter, position, nat_lt, not, ◌||◌, ◌==◌}
use Rattle.std.specs.List.{list_any, position_or_len}
use Rattle.std.proofs.lemmas.Option.{slice_get_within}
use Rattle.c_typed.specs.Units.{numbers}
use Rattle.c_typing.proofs.Names.{Each, or_left, or_right}

pub equal_is : (m n : ℕ) → m == n ≡ true → m ≡ n
equal_is m n e = grind (arith, e)

pub equal_itself : (n : ℕ) → n == n ≡ true
equal_itself n = grind arith

pub either : (a b : Bool) → a || b ≡ true → (a ≡ true) ⊎ (b ≡ true)
either true b e = inl refl
either false b e = inr e

is_below : (m n : ℕ) → m < n → nat_lt m n ≡ true
is_below m n lt = grind (arith, lt)

module _ {A : Type 0} where
  nth_left : (xs ys : List A) (k : ℕ) → k < length xs → slice_get (xs ++ ys) k ≡ slice_get xs k
  nth_left [] ys k l = absurd (omega arith)
  nth_left (x ∷ xs) ys zero l = refl
  nth_left (x ∷ xs) ys (suc k) l = nth_left xs ys k (omega arith)

  nth_right : (xs ys : List A) (k : ℕ) → slice_get (xs ++ ys) (length xs + k) ≡ slice_get ys k
  nth_right [] ys k = let e : 0 + k ≡ k = omega arith in ap (slice_get ys) e
  nth_right (x ∷ xs) ys k = let e : suc (length xs) + k ≡ suc (length xs + k) = omega arith in
      ap (slice_get (x ∷ xs ++ ys)) e ∙ nth_right xs ys k

  pub slice_left : (xs ys : List A) (n : ℕ) (x : A) → slice_get xs n ≡ Some x → slice_get (xs ++ ys) n ≡ Some x
  slice_left xs ys n x e = nth_left xs ys n (slice_get_within xs n x e) ∙ e

  pub slice_right : (xs ys : List A) (k n : ℕ) → k ≡ length xs + n → slice_get (xs ++ ys) k ≡ slice_get ys n
  slice_right xs ys k n e = ap (slice_get (xs ++ ys)) e ∙ nth_right xs ys n

  pub any_left : (p : A → Bool) (xs ys : List A) → list_any p xs ≡ true → list_any p (xs ++ ys) ≡ true
  any_left p [] ys e = absurd cc
  any_left p (x ∷ xs) ys e = elim (either (p x) (list_any p xs) e)
      [ inl h ↦ or_left (p x) (list_any p (xs ++ ys)) h | inr h ↦ or_right (p x) (list_any p (xs ++ ys)) (any_left p xs ys h) ]

  pub any_right : (p : A → Bool) (xs ys : List A) → list_any p ys ≡ true → list_any p (xs ++ ys) ≡ true
  any_right p [] ys e = e
  any_right p (x ∷ xs) ys e = or_right (p x) (list_any p (xs ++ ys)) (any_right p xs ys e)

  -- where a test passes first
  first_finds : (p : A → Bool) (xs : List A) → list_any p xs ≡ true
      → (x : A) × (slice_get xs (position_or_len p xs) ≡ Some x) × (p x ≡ true)
  first_finds p [] e = absurd cc
  first_finds p (x ∷ xs) e = by (λ h. first_finds p xs h) (p x) refl where
    by : (list_any p xs ≡ true → (y : A) × (slice_get xs (position_or_len p xs) ≡ Some y) × (p y ≡ true)) → (b : Bool) → p x ≡ b
        → (y : A) × (slice_get (x ∷ xs) (cond (not (p x)) (1 + position_or_len p xs) 0) ≡ Some y) × (p y ≡ true)
    by rest true q = (x, ap (λ (b : Bool). slice_get (x ∷ xs) (cond (not b) (1 + position_or_len p xs) 0)) q, q)
    by rest false q =
        let r = rest (ap (λ (b : Bool). b || list_any p xs) (sym q) ∙ e) in
        let z : 1 + position_or_len p xs ≡ suc (position_or_len p xs) = omega arith in (
          r.0,
          ap (λ (b : Bool). slice_get (x ∷ xs) (cond (not b) (1 + position_or_len p xs) 0)) q ∙ ap (slice_get (x ∷ xs)) z
              ∙ r.1,
          r.2,
        )

  pub position_finds : (p : A → Bool) (xs : List A) → list_any p xs ≡ true
      → (i : ℕ) × (x : A) × (position p xs ≡ Some i) × (slice_get xs i ≡ Some x) × (p x ≡ true)
  position_finds p xs e =
      let f = first_finds p xs e in
      let i = position_or_len p xs in
      (i, f.0, ap (λ (b : Bool). cond b (Some i) None) (is_below i (length xs) (slice_get_within xs i f.0 f.1)), f.1, f.2)

-- ---- numbers

abbrev pub upto : (from count : ℕ) → List ℕ
upto k zero = []
upto k (suc n) = k ∷ upto (suc k) n

upto_more : (k n : ℕ) → upto k (suc n) ≡ upto k n ++ (k + n) ∷ []
upto_more k zero = ap (λ (m : ℕ). m ∷ []) (let z : k ≡ k + 0 = omega arith in z)
upto_more k (suc n) = ap (λ (l : List ℕ). k ∷ l) (upto_more (suc k) n) ∙ ap (λ (m : ℕ). k ∷ (upto (suc k) n ++ m ∷ []))
    (let z : suc k + n ≡ k + suc n = omega arith in z)

pub numbers_is : (n : ℕ) → numbers n ≡ upto 0 n
numbers_is zero = refl
numbers_is (suc n) = ap (λ (l : List ℕ). l ++ n ∷ []) (numbers_is n) ∙ ap (λ (m : ℕ). upto 0 n ++ m ∷ [])
    (let z : n ≡ 0 + n = omega arith in z) ∙ sym (upto_more 0 n)

differ : (m n : ℕ) → n < suc m → m == n ≡ false → n < m
differ m n lt e = grind (arith, lt, e)

pub has_number : (m n : ℕ) → n < m → list_any (λ x. x == n) (numbers m) ≡ true
has_number zero n lt = absurd (omega (arith, lt))
has_number (suc m) n lt = by (λ q. has_number m n q) (m == n) refl where
  by : (n < m → list_any (λ x. x == n) (numbers m) ≡ true) → (b : Bool) → m == n ≡ b
      → list_any (λ x. x == n) (numbers m ++ m ∷ []) ≡ true
  by rest true e = any_right (λ x. x == n) (numbers m) (m ∷ []) (or_left (m == n) false e)
  by rest false e = any_left (λ x. x == n) (numbers m) (m ∷ []) (rest (differ m n lt e))

pub filter_has : (p : ℕ → Bool) (n : ℕ) (xs : List ℕ) → list_any (λ x. x == n) xs ≡ true → p n ≡ true
    → list_any (λ x. x == n) (filter p xs) ≡ true
filter_has p n [] e h = e
filter_has p n (x ∷ xs) e h = by (λ q. filter_has p n xs q h) (p x) refl (x == n) refl where
  by : (list_any (λ y. y == n) xs ≡ true → list_any (λ y. y == n) (filter p xs) ≡ true) → (b : Bool) → p x ≡ b → (d : Bool)
      → x == n ≡ d → list_any (λ y. y == n) (cond (p x) (x ∷ filter p xs) (filter p xs)) ≡ true
  by tail true q true w = ap (λ (b : Bool). list_any (λ y. y == n) (cond b (x ∷ filter p xs) (filter p xs))) q ∙ or_left (x == n)
      (list_any (λ y. y == n) (filter p xs)) w
  by tail true q false w = ap (λ (b : Bool). list_any (λ y. y == n) (cond b (x ∷ filter p xs) (filter p xs))) q ∙ or_right
      (x == n) (list_any (λ y. y == n) (filter p xs)) (tail (ap (λ (b : Bool). b || list_any (λ y. y == n) xs) (sym w) ∙ e))
  by tail false q true w = absurd (let g : p n ≡ false = ap p (sym (equal_is x n w)) ∙ q in cc)
  by tail false q false w = ap (λ (b : Bool). list_any (λ y. y == n) (cond b (x ∷ filter p xs) (filter p xs))) q ∙ tail
      (ap (λ (b : Bool). b || list_any (λ y. y == n) xs) (sym w) ∙ e)

-- what a filtered list of numbers has is a number that passes
pub filter_all : (p : ℕ → Bool) (P : ℕ → Type 0) (xs : List ℕ) → Each P xs → Each (λ n. P n × (p n ≡ true)) (filter p xs)
filter_all p P [] h = tt
filter_all p P (x ∷ xs) h = by (p x) refl (filter_all p P xs h.1) where
  by : (b : Bool) → p x ≡ b → Each (λ n. P n × (p n ≡ true)) (filter p xs)
      → Each (λ n. P n × (p n ≡ true)) (cond (p x) (x ∷ filter p xs) (filter p xs))
  by true e r = subst (λ (b : Bool). Each (λ n. P n × (p n ≡ true)) (cond b (x ∷ filter p xs) (filter p xs))) (sym e)
      ((h.0, e), r)
  by false e r = subst (λ (b : Bool). Each (λ n. P n × (p n ≡ true)) (cond b (x ∷ filter p xs) (filter p xs))) (sym e) r
