-- Painted addresses: those of an allocation, and those that are left after a free.
use Rattle.std.proofs.Common.{◌≡◌, ℕ, zero, suc, ◌+◌, ◌<◌, ◌≤◌, ◌⊎◌, inl, inr, Bool, true, false, cond, List, [], ◌∷◌, map, refl, sym, ap, subst, ◌∙◌, arith}
use Rattle.std.specs.List.{All, Contains, filter}
use Rattle.std.proofs.lemmas.Bool.{cases_eq}
use Rattle.std.proofs.lemmas.List.Elements.{All-cons, All-contains, All-contains_itself, All-filter, All-nil, Contains-append_right, filter_passes}
use Rattle.ms_event.specs.Monitor.{Paint, coat, coat_from}

-- ---- what a list contains

pub Contains-none : {X : Type 0} (x : X) → Contains [] x → ⊥
Contains-none x has = let lt = has.1 in omega arith

pub Contains-first : {X : Type 0} (x : X) (xs : List X) → Contains (x ∷ xs) x
Contains-first x xs = (0, omega arith, refl)

pub Contains-later : {X : Type 0} (y : X) (xs : List X) (x : X) → Contains xs x → Contains (y ∷ xs) x
Contains-later y xs x has = Contains-append_right (y ∷ []) xs x has

-- an element is the first one, or a later one
pub Contains-cases : {X : Type 0} (y : X) (xs : List X) (x : X) → Contains (y ∷ xs) x → (y ≡ x) ⊎ Contains xs x
Contains-cases y xs x (zero, lt, is) = inl is
Contains-cases y xs x (suc k, lt, is) = inr (k, omega arith, is)

pub Contains-map : {X Y : Type 0} (f : X → Y) (xs : List X) (x : X) → Contains xs x → Contains (map f xs) (f x)
Contains-map f [] x has = absurd (Contains-none x has)
Contains-map f (y ∷ xs) x has =
    elim (Contains-cases y xs x has) [
      | inl same ↦ subst (λ z. Contains (f y ∷ map f xs) z) (ap f same) (Contains-first (f y) (map f xs))
      | inr later ↦ Contains-later (f y) (map f xs) (f x) (Contains-map f xs x later)
    ]

-- ---- what a filter keeps

first_kept : {X : Type 0} (b : Bool) (x : X) (xs : List X) → b ≡ true → Contains (cond b (x ∷ xs) xs) x
first_kept true x xs passes = Contains-first x xs
first_kept false x xs passes = cc

later_kept : {X : Type 0} (b : Bool) (y : X) (xs : List X) (x : X) → Contains xs x → Contains (cond b (y ∷ xs) xs) x
later_kept true y xs x has = Contains-later y xs x has
later_kept false y xs x has = has

pub Contains-filter : {X : Type 0} (p : X → Bool) (xs : List X) (x : X) → Contains xs x → p x ≡ true → Contains (filter p xs) x
Contains-filter p [] x has passes = absurd (Contains-none x has)
Contains-filter p (y ∷ xs) x has passes =
    elim (Contains-cases y xs x has) [
      | inl same ↦ subst (λ z. Contains (cond (p y) (y ∷ filter p xs) (filter p xs)) z) same (first_kept (p y) y (filter p xs) (ap p same ∙ passes))
      | inr later ↦ later_kept (p y) y (filter p xs) x (Contains-filter p xs x later passes)
    ]

-- what is kept was there, and passes
pub Contains-filtered : {X : Type 0} (p : X → Bool) (xs : List X) (x : X) → Contains (filter p xs) x → Contains xs x × (p x ≡ true)
Contains-filtered p xs x has =
    (All-contains (Contains xs) (filter p xs) x (All-filter p (Contains xs) xs (All-contains_itself xs)) has, All-contains (λ y. p y ≡ true) (filter p xs) x (filter_passes p xs) has)

kept-map : {X Y : Type 0} (f : X → Y) (b : Bool) (x : X) (xs : List X) → map f (cond b (x ∷ xs) xs) ≡ cond b (f x ∷ map f xs) (map f xs)
kept-map f true x xs = refl
kept-map f false x xs = refl

pub filter-map : {X Y : Type 0} (f : X → Y) (p : Y → Bool) (xs : List X) → filter p (map f xs) ≡ map f (filter (λ x. p (f x)) xs)
filter-map f p [] = refl
filter-map f p (x ∷ xs) =
    ap (λ ys. cond (p (f x)) (f x ∷ ys) ys) (filter-map f p xs) ∙ sym (kept-map f (p (f x)) x (filter (λ y. p (f y)) xs))

-- ---- the paint of an allocation

abbrev pub paint : ℕ → ℕ → ℕ → Paint
paint address colour place = record { address = address; colour = colour; place = place }

pub paint_is : (p : Paint) (address colour place : ℕ) → p.address ≡ address → p.colour ≡ colour → p.place ≡ place → paint address colour place ≡ p
paint_is p address colour place is_address is_colour is_place =
    ap (λ a. paint a colour place) (sym is_address) ∙ (ap (λ c. paint p.address c place) (sym is_colour) ∙ ap (λ k. paint p.address p.colour k) (sym is_place))

-- a paint of it is at its place from the address on
abbrev IsCoat : ℕ → ℕ → ℕ → ℕ → Paint → Type 0
IsCoat colour address place size p = (p.colour ≡ colour) × (place ≤ p.place) × (p.place < place + size) × (p.address ≡ address + p.place)

coats : (colour address place size : ℕ) → All (IsCoat colour address place size) (coat_from colour address place size)
coats colour address place zero = All-nil (IsCoat colour address place zero)
coats colour address place (suc size) =
    All-cons (IsCoat colour address place (suc size)) (paint (address + place) colour place) (coat_from colour address (suc place) size) (refl, omega arith, omega arith, refl) (λ k d below. let rest = coats colour address (suc place) size k d below in (rest.0, omega (arith, rest.1), omega (arith, rest.2), rest.3))

pub coat_is : (colour address size : ℕ) (p : Paint) → Contains (coat colour address size) p → (p.colour ≡ colour) × (p.place < size) × (p.address ≡ address + p.place)
coat_is colour address size p has =
    let is = All-contains (IsCoat colour address 0 size) (coat colour address size) p (coats colour address 0 size) has in
    (is.0, omega (arith, is.2), is.3)

coat_from_has : (colour address place size k : ℕ) → place ≤ k → k < place + size → Contains (coat_from colour address place size) (paint (address + k) colour k)
coat_from_has colour address place zero k from below = absurd (omega arith)
coat_from_has colour address place (suc size) k from below =
    elim (cases_eq place k) [
      | inl same ↦ subst (λ n. Contains (coat_from colour address place (suc size)) (paint (address + n) colour n)) same (Contains-first (paint (address + place) colour place) (coat_from colour address (suc place) size))
      | inr other ↦ Contains-later (paint (address + place) colour place) (coat_from colour address (suc place) size) (paint (address + k) colour k) (coat_from_has colour address (suc place) size k (omega arith) (omega arith))
    ]

pub coat_has : (colour address size k : ℕ) → k < size → Contains (coat colour address size) (paint (address + k) colour k)
coat_has colour address size k below = coat_from_has colour address 0 size k (omega arith) (omega arith)
