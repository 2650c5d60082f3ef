-- Which slots are visible, in lists put together.
use Rattle.std.proofs.Common.{◌≡◌, ◌∙◌, sym, ap, refl, ℕ, ◌<◌, ◌≤◌, ◌==◌, ◌||◌, Bool, true, false, List, [], ◌∷◌, ◌++◌, length, arith}
use Rattle.std.proofs.lemmas.Bool.Decides.{nat_tests}
use Rattle.std.proofs.lemmas.List.Elements.{All-head, All-tail}
use Rattle.std.specs.List.{All}
use Rattle.c_types.specs.Types.{Ty}
use Rattle.c_typed.specs.refinement.Expressions.{is_visible}

or-more : (a b c : Bool) → (a || (b || c)) ≡ ((a || b) || c)
or-more true b c = refl
or-more false b c = refl

pub visible-append : (xs ys : List ℕ) (n : ℕ) → is_visible (xs ++ ys) n ≡ (is_visible xs n || is_visible ys n)
visible-append [] ys n = refl
visible-append (x ∷ xs) ys n =
    ap (λ b. x == n || b) (visible-append xs ys n) ∙ or-more (x == n) (is_visible xs n) (is_visible ys n)

or-left : (a b : Bool) → a ≡ true → (a || b) ≡ true
or-left true b e = refl
or-left false b e = let q : false ≡ true = e in absurd (cc)

or-right : (a b : Bool) → b ≡ true → (a || b) ≡ true
or-right true b e = refl
or-right false b e = e

or-on : (a b c : Bool) → (a ≡ true → c ≡ true) → (a || b) ≡ true → (c || b) ≡ true
or-on true b c f e = or-left c b (f refl)
or-on false b c f e = or-right c b e

or-off : (a b c : Bool) → (a ≡ false → c ≡ false) → (a || b) ≡ false → (c || b) ≡ false
or-off true b c f e = let q : true ≡ false = e in absurd (cc)
or-off false b true f e = let q : true ≡ false = f refl in absurd (cc)
or-off false b false f e = e

none-of : (a b : Bool) → a ≡ false → b ≡ false → (a || b) ≡ false
none-of true b e f = let q : true ≡ false = e in absurd (cc)
none-of false b e f = f

pub in-left : (xs ys : List ℕ) (n : ℕ) → is_visible xs n ≡ true → is_visible (xs ++ ys) n ≡ true
in-left xs ys n e = visible-append xs ys n ∙ or-left (is_visible xs n) (is_visible ys n) e

pub in-right : (xs ys : List ℕ) (n : ℕ) → is_visible ys n ≡ true → is_visible (xs ++ ys) n ≡ true
in-right xs ys n e = visible-append xs ys n ∙ or-right (is_visible xs n) (is_visible ys n) e

pub in-neither : (xs ys : List ℕ) (n : ℕ) → is_visible xs n ≡ false → is_visible ys n ≡ false → is_visible (xs ++ ys) n ≡ false
in-neither xs ys n e f = visible-append xs ys n ∙ none-of (is_visible xs n) (is_visible ys n) e f

-- where more is visible, more is with others behind
pub still-on : (xs ys zs : List ℕ) (n : ℕ) → (is_visible xs n ≡ true → is_visible ys n ≡ true) → is_visible (xs ++ zs) n ≡ true → is_visible (ys ++ zs) n ≡ true
still-on xs ys zs n f e =
    visible-append ys zs n ∙ or-on (is_visible xs n) (is_visible zs n) (is_visible ys n) f (sym (visible-append xs zs n) ∙ e)

pub still-off : (xs ys zs : List ℕ) (n : ℕ) → (is_visible xs n ≡ false → is_visible ys n ≡ false) → is_visible (xs ++ zs) n ≡ false → is_visible (ys ++ zs) n ≡ false
still-off xs ys zs n f e =
    visible-append ys zs n ∙ or-off (is_visible xs n) (is_visible zs n) (is_visible ys n) f (sym (visible-append xs zs n) ∙ e)

-- a slot that stands below all of a list isn't in it, nor is one above all
pub below-all : (slots : List Ty) (ns : List ℕ) (n : ℕ) → n < length slots → All (λ m. length slots ≤ m) ns → is_visible ns n ≡ false
below-all slots [] n l h = refl
below-all slots (m ∷ ns) n l h =
    let k : length slots ≤ m = All-head (λ m. length slots ≤ m) m ns h in
    none-of (m == n) (is_visible ns n) (grind (arith, nat_tests, k, l)) (below-all slots ns n l (All-tail (λ m. length slots ≤ m) m ns h))

pub above-all : (slots : List Ty) (ns : List ℕ) (n : ℕ) → length slots ≤ n → All (λ m. m < length slots) ns → is_visible ns n ≡ false
above-all slots [] n l h = refl
above-all slots (m ∷ ns) n l h =
    let k : m < length slots = All-head (λ m. m < length slots) m ns h in
    none-of (m == n) (is_visible ns n) (grind (arith, nat_tests, k, l)) (above-all slots ns n l (All-tail (λ m. m < length slots) m ns h))

pub visible-last : (xs : List ℕ) (n : ℕ) → is_visible (xs ++ n ∷ []) n ≡ true
visible-last [] n = or-left (n == n) false (grind (arith, nat_tests))
visible-last (x ∷ xs) n = or-right (x == n) (is_visible (xs ++ n ∷ []) n) (visible-last xs n)
