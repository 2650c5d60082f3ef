-- The words behind references.
use Rattle.std.proofs.Common.{◌≡◌, ◌<◌, ◌≤◌, ℕ, List, [], ◌∷◌, Bor, length, drop, get_or, map, refl, arith}

abbrev Text : Type 0
Text = Bor (List ℕ)

-- those behind two, and behind three
pub two_texts : (xs : List Text) (d e : Text) → 2 ≤ length xs → length xs < 3
    → map (λ x. x.now) xs ≡ (get_or xs 0 d).now ∷ (get_or xs 1 e).now ∷ []
two_texts [] d e h k = absurd (omega arith)
two_texts (a ∷ []) d e h k = absurd (omega arith)
two_texts (a ∷ b ∷ []) d e h k = refl
two_texts (a ∷ b ∷ c ∷ more) d e h k = absurd (omega arith)

pub three_texts : (xs : List Text) (d e f : Text) → 3 ≤ length xs → length xs < 4
    → map (λ x. x.now) xs ≡ (get_or xs 0 d).now ∷ (get_or xs 1 e).now ∷ (get_or xs 2 f).now ∷ []
three_texts [] d e f h k = absurd (omega arith)
three_texts (a ∷ []) d e f h k = absurd (omega arith)
three_texts (a ∷ b ∷ []) d e f h k = absurd (omega arith)
three_texts (a ∷ b ∷ c ∷ []) d e f h k = refl
three_texts (a ∷ b ∷ c ∷ g ∷ more) d e f h k = absurd (omega arith)

-- those behind two and more
pub more_texts : (xs : List Text) (d e : Text) → 2 ≤ length xs → map (λ x. x.now) xs ≡ (get_or xs 0 d).now ∷ (get_or xs 1 e).now ∷ map (λ x. x.now) (drop 2 xs)
more_texts [] d e h = absurd (omega arith)
more_texts (a ∷ []) d e h = absurd (omega arith)
more_texts (a ∷ b ∷ more) d e h = refl
