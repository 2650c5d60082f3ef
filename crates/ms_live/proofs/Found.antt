-- What `find` answers, and tests of identities.
use Rattle.std.proofs.Common.{◌≡◌, ◌≢◌, ◌==◌, ℕ, Bool, true, false, not, cond, ◌||◌, List, [], ◌∷◌, Some, None, is_some, refl, arith}
use Rattle.std.proofs.lemmas.Bool.Decides.{nat_tests}
use Rattle.std.specs.List.{All, Contains, find, list_any}
use Rattle.std.proofs.lemmas.List.Elements.{All-nil, All-cons, Contains-append_right}

pub same_id : (a b : ℕ) → (a == b) ≡ true → a ≡ b
same_id a b h = grind (arith, nat_tests)

pub other_id : (a b : ℕ) → a ≢ b → (a == b) ≡ false
other_id a b h = grind (arith, nat_tests)

pub not_false : (b : Bool) → not b ≡ true → b ≡ false
not_false true h = absurd (cc)
not_false false h = refl

none-head : {X : Type 0} (p : X → Bool) (x : X) (xs : List X) (b : Bool) → p x ≡ b → (find p xs ≡ None → All (λ y. p y ≡ false) xs) → cond b (Some x) (find p xs) ≡ None → All (λ y. p y ≡ false) (x ∷ xs)
none-head p x xs true q rest e = absurd (cc)
none-head p x xs false q rest e = All-cons (λ y. p y ≡ false) x xs q (rest e)

-- where it finds nothing, each element fails the test
pub find-None : {X : Type 0} (p : X → Bool) (xs : List X) → find p xs ≡ None → All (λ x. p x ≡ false) xs
find-None p [] e = All-nil (λ x. p x ≡ false)
find-None p (x ∷ xs) e = none-head p x xs (p x) refl (find-None p xs) e

some-head : {X : Type 0} (p : X → Bool) (x : X) (xs : List X) (s : X) (b : Bool) → p x ≡ b → (find p xs ≡ Some s → Contains xs s × (p s ≡ true)) → cond b (Some x) (find p xs) ≡ Some s → Contains (x ∷ xs) s × (p s ≡ true)
some-head p x xs s true q rest e = let same : x ≡ s = cc in ((0, omega arith, same), cc)
some-head p x xs s false q rest e = (Contains-append_right (x ∷ []) xs s (rest e).0, (rest e).1)

-- what it finds is an element that passes
pub find-Some : {X : Type 0} (p : X → Bool) (xs : List X) (s : X) → find p xs ≡ Some s → Contains xs s × (p s ≡ true)
find-Some p [] s e = absurd (cc)
find-Some p (x ∷ xs) s e = some-head p x xs s (p x) refl (find-Some p xs s) e

any-head : {X : Type 0} (p : X → Bool) (x : X) (xs : List X) (b : Bool) → is_some (find p xs) ≡ list_any p xs → is_some (cond b (Some x) (find p xs)) ≡ (b || list_any p xs)
any-head p x xs true rest = refl
any-head p x xs false rest = rest

-- it finds one where an element passes, and nowhere else
pub is_some-find : {X : Type 0} (p : X → Bool) (xs : List X) → is_some (find p xs) ≡ list_any p xs
is_some-find p [] = refl
is_some-find p (x ∷ xs) = any-head p x xs (p x) (is_some-find p xs)
