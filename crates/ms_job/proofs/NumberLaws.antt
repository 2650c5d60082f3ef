-- Digits behind a number that is too large make no number in a range.
use Rattle.std.proofs.Common.{◌≡◌, ◌∙◌, ℕ, suc, ◌+◌, ◌-◌, ◌*◌, ◌<◌, ◌^◌, inl, inr, Bool, true, false, List, [], ◌∷◌, Option, None, length, get_or, drop, refl, ap, sym, drop-cons, arith, tests, rules}
use Rattle.std.specs.Char.{is_ascii_digit}
use Rattle.std.specs.Option.{option_and_then}
use Rattle.ms_job.specs.refinement.Reading.{AddsDigit}
use Rattle.ms_job.specs.Words.{number_behind, number_within, within}

abbrev kept : ℕ → ℕ → ℕ → List ℕ → Option ℕ
kept low high n bs = option_and_then (within low high) (number_behind n bs)

above : (low high n : ℕ) → high < n → within low high n ≡ None
above low high n h = grind (arith, tests)

-- behind one byte more
digit : (low high n b : ℕ) (bs : List ℕ) (d : Bool) → is_ascii_digit b ≡ d → kept low high (n * 10 + (b - 48)) bs ≡ None
    → kept low high n (b ∷ bs) ≡ None
digit low high n b bs true e h = rw e h
digit low high n b bs false e h = rw e refl

too_large : (low high n : ℕ) (bs : List ℕ) → high < n → kept low high n bs ≡ None
too_large low high n [] h = above low high n h
too_large low high n (b ∷ bs) h =
    digit low high n b bs (is_ascii_digit b) refl (too_large low high (n * 10 + (b - 48)) bs (omega arith))

stops : (low high n b : ℕ) (bs : List ℕ) → AddsDigit n b None → high < 2 ^ 64 → kept low high n (b ∷ bs) ≡ None
stops low high n b bs (inl e) h = rw e refl
stops low high n b bs (inr past) h =
    digit low high n b bs (is_ascii_digit b) refl (too_large low high (n * 10 + (b - 48)) bs (omega arith))

-- a byte of a word that stops its number
pub number_within-stops : (low high n i : ℕ) (word : List ℕ) → number_behind n (drop i word) ≡ number_behind 0 word → i < length word
    → AddsDigit n (get_or word i 0) None → high < 2 ^ 64 → number_within low high word ≡ None
number_within-stops low high n i [] e at past h = refl
number_within-stops low high n i (b ∷ bs) e at past h =
    let word = b ∷ bs in
    let split : drop i word ≡ get_or word i 0 ∷ drop (suc i) word = drop-cons word i 0 at in
    let same = sym e ∙ ap (number_behind n) split in
    let none : kept low high 0 word ≡ None =
    ap (option_and_then (within low high)) same ∙ stops low high n (get_or word i 0) (drop (suc i) word) past h in
    search (rules, tests, none)
