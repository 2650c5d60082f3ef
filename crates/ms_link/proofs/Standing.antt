-- What stands in a list from a place on, and lists that go on.
use Rattle.std.proofs.Common.{◌≡◌, ℕ, zero, suc, ◌+◌, ◌-◌, ◌<◌, ◌⊎◌, inl, inr, List, [], ◌∷◌, ◌++◌, All, length, map, slice_get, Option, Some, refl, sym, ap, ◌∙◌, append_assoc, arith}
use Rattle.std.proofs.lemmas.List.{length-append, map-append}
use Rattle.std.proofs.lemmas.List.Elements.{All-cons, All-head, All-nil, All-tail}
use Rattle.std.proofs.lemmas.Option.{slice_get-map, slice_get_within}
use Rattle.std.specs.Option.{option_map}
use Rattle.std.specs.List.{AllZip}
use Rattle.ms_machine.specs.Linked.{numbers}

-- ---- these stand from a place on

abbrev pub StandsFrom : {A : Type 0} → List A → ℕ → List A → Type 0
StandsFrom all n [] = Unit {0}
StandsFrom all n (x ∷ xs) = (slice_get all n ≡ Some x) × StandsFrom all (suc n) xs

deeper : {A : Type 0} (y : A) (all : List A) (n : ℕ) (xs : List A) → StandsFrom all n xs → StandsFrom (y ∷ all) (suc n) xs
deeper y all n [] h = tt
deeper y all n (x ∷ xs) h = (h.0, deeper y all (suc n) xs h.1)

stands_first : {A : Type 0} (xs rest : List A) → StandsFrom (xs ++ rest) 0 xs
stands_first [] rest = tt
stands_first (x ∷ xs) rest = (refl, deeper x (xs ++ rest) 0 xs (stands_first xs rest))

pub stands_middle : {A : Type 0} (front xs rest : List A) → StandsFrom (front ++ xs ++ rest) (length front) xs
stands_middle [] xs rest = stands_first xs rest
stands_middle (y ∷ front) xs rest = deeper y (front ++ xs ++ rest) (length front) xs (stands_middle front xs rest)

stands_alone : {A : Type 0} (xs : List A) → StandsFrom xs 0 xs
stands_alone [] = tt
stands_alone (x ∷ xs) = (refl, deeper x xs 0 xs (stands_alone xs))

pub stands_last : {A : Type 0} (front xs : List A) → StandsFrom (front ++ xs) (length front) xs
stands_last [] xs = stands_alone xs
stands_last (y ∷ front) xs = deeper y (front ++ xs) (length front) xs (stands_last front xs)

pub stands_map : {A B : Type 0} (f : A → B) (all : List A) (n : ℕ) (xs : List A) → StandsFrom all n xs → StandsFrom (map f all) n (map f xs)
stands_map f all n [] h = tt
stands_map f all n (x ∷ xs) h = (slice_get-map f all n ∙ ap (option_map f) h.0, stands_map f all (suc n) xs h.1)

pub get_standing : {A : Type 0} (all : List A) (n : ℕ) (xs : List A) (j : ℕ) (a : A) → StandsFrom all n xs → slice_get xs j ≡ Some a → slice_get all (n + j) ≡ Some a
get_standing all n [] j a h e = cc
get_standing all n (x ∷ xs) zero a h e = let same : n + 0 ≡ n = omega arith in ap (slice_get all) same ∙ h.0 ∙ e
get_standing all n (x ∷ xs) (suc j) a h e = let same : n + suc j ≡ suc n + j = omega arith in ap (slice_get all) same ∙ get_standing all (suc n) xs j a h.1 e

-- what the numbers of their places name
pub map_numbers : {A B : Type 0} (h : Option A → B) (all : List A) (n : ℕ) (xs : List A) → StandsFrom all n xs → map (λ a. h (slice_get all a)) (numbers n (length xs)) ≡ map (λ x. h (Some x)) xs
map_numbers h all n [] s = refl
map_numbers h all n (x ∷ xs) s =
    ap (λ o. h o ∷ map (λ a. h (slice_get all a)) (numbers (suc n) (length xs))) s.0 ∙ ap (λ l. h (Some x) ∷ l) (map_numbers h all (suc n) xs s.1)

pub numbers_standing : {A : Type 0} (all : List A) (n : ℕ) (xs : List A) → StandsFrom all n xs → All (λ a. a < length all) (numbers n (length xs))
numbers_standing all n [] s = All-nil (λ a. a < length all)
numbers_standing all n (x ∷ xs) s =
    All-cons (λ a. a < length all) n (numbers (suc n) (length xs)) (slice_get_within all n x s.0) (numbers_standing all (suc n) xs s.1)

-- ---- a list that goes on

abbrev pub GoesOn : {A : Type 0} → List A → List A → Type 0
GoesOn old new = (k : ℕ) → k < length old → slice_get new k ≡ slice_get old k

pub appended : {A : Type 0} (xs ys : List A) → GoesOn xs (xs ++ ys)
appended [] ys k lt = absurd (omega (arith, lt))
appended (x ∷ xs) ys zero lt = refl
appended (x ∷ xs) ys (suc k) lt = appended xs ys k (omega (arith, lt))

pub appended_twice : {A : Type 0} (xs ys zs : List A) → GoesOn xs (xs ++ ys ++ zs)
appended_twice xs ys zs k lt = appended (xs ++ ys) zs k (omega (arith, lt, length-append xs ys)) ∙ appended xs ys k lt

pub appended_map : {A B : Type 0} (f : A → B) (xs ys : List A) → GoesOn (map f xs) (map f (xs ++ ys))
appended_map f xs ys k lt = ap (λ l. slice_get l k) (map-append f xs ys) ∙ appended (map f xs) (map f ys) k lt

pub get_on : {A : Type 0} (old new : List A) (k : ℕ) (a : A) → GoesOn old new → slice_get old k ≡ Some a → slice_get new k ≡ Some a
get_on old new k a on e = on k (slice_get_within old k a e) ∙ e

pub map_on : {A B : Type 0} (h : Option A → B) (old new : List A) → GoesOn old new → (ns : List ℕ) → All (λ a. a < length old) ns → map (λ a. h (slice_get new a)) ns ≡ map (λ a. h (slice_get old a)) ns
map_on h old new on [] below = refl
map_on h old new on (n ∷ ns) below =
    ap (λ o. h o ∷ map (λ a. h (slice_get new a)) ns) (on n (All-head (λ a. a < length old) n ns below))
    ∙ ap (λ l. h (slice_get old n) ∷ l) (map_on h old new on ns (All-tail (λ a. a < length old) n ns below))

-- an element of both is one of the first or of the second
pub get_parts : {A : Type 0} (xs ys : List A) (k : ℕ) (a : A) → slice_get (xs ++ ys) k ≡ Some a → (slice_get xs k ≡ Some a) ⊎ ((j : ℕ) × (k ≡ length xs + j) × (slice_get ys j ≡ Some a))
get_parts [] ys k a e = inr (k, omega arith, e)
get_parts (x ∷ xs) ys zero a e = inl e
get_parts (x ∷ xs) ys (suc k) a e = later (get_parts xs ys k a e) where
  later : (slice_get xs k ≡ Some a) ⊎ ((j : ℕ) × (k ≡ length xs + j) × (slice_get ys j ≡ Some a)) → (slice_get xs k ≡ Some a) ⊎ ((j : ℕ) × (suc k ≡ suc (length xs) + j) × (slice_get ys j ≡ Some a))
  later (inl e) = inl e
  later (inr (j, is, e)) = inr (j, omega (arith, is), e)

-- the only one
pub get_only : {A : Type 0} (x : A) (j : ℕ) (a : A) → slice_get (x ∷ []) j ≡ Some a → (j ≡ 0) × (x ≡ a)
get_only x zero a e = (refl, cc)
get_only x (suc j) a e = cc

pub mapped_at : {A B : Type 0} (h : A → B) (xs : List A) (x : ℕ) (a : A) → slice_get xs x ≡ Some a → slice_get (map h xs) x ≡ Some (h a)
mapped_at h xs x a e = slice_get-map h xs x ∙ ap (option_map h) e

-- ---- two lists, item by item

pub zip_push : {A B : Type 0} (R : A → B → Type 0) (xs : List A) (ys : List B) (x : A) (y : B) → AllZip R xs ys → R x y → AllZip R (xs ++ x ∷ []) (ys ++ y ∷ [])
zip_push R [] [] x y all r = (r, tt)
zip_push R [] (b ∷ ys) x y all r = absurd all
zip_push R (a ∷ xs) [] x y all r = absurd all
zip_push R (a ∷ xs) (b ∷ ys) x y all r = (all.0, zip_push R xs ys x y all.1 r)

pub zip_weaker : {A B : Type 0} (P Q : A → B → Type 0) (xs : List A) (ys : List B) → ((a : A) (b : B) (k : ℕ) → slice_get xs k ≡ Some a → P a b → Q a b) → AllZip P xs ys → AllZip Q xs ys
zip_weaker P Q [] [] weaker all = tt
zip_weaker P Q [] (b ∷ ys) weaker all = absurd all
zip_weaker P Q (a ∷ xs) [] weaker all = absurd all
zip_weaker P Q (a ∷ xs) (b ∷ ys) weaker all = (weaker a b 0 refl all.0, zip_weaker P Q xs ys (λ c d k e p. weaker c d (suc k) e p) all.1)

-- ---- lists that are made item by item

pub made-more : {A B : Type 0} (f : A → B) (made made' all : List B) (rest rest' : List A) (x : A) (y : B) → rest ≡ x ∷ rest' → y ≡ f x → made' ≡ made ++ y ∷ [] → made ++ map f rest ≡ all → made' ++ map f rest' ≡ all
made-more f made made' all rest rest' x y left is pushed so =
    ap (λ ys. ys ++ map f rest') pushed
    ∙ append_assoc made (y ∷ []) (map f rest')
    ∙ ap (λ z. made ++ z ∷ map f rest') is
    ∙ ap (λ xs. made ++ map f xs) (sym left)
    ∙ so

pub numbers-more : (n count : ℕ) → n < count → numbers n (count - n) ≡ n ∷ numbers (n + 1) (count - (n + 1))
numbers-more n count l = let e : count - n ≡ suc (count - (n + 1)) = omega arith in let f : suc n ≡ n + 1 = omega arith in ap (numbers n) e ∙ ap (λ k. n ∷ numbers k (count - (n + 1))) f
