-- Whether the word of a sealed handle ends a line is told by the line, since no letter stands in a list of numbers.
use Rattle.std.proofs.Common.{◌≡◌, ℕ, ◌<◌, List, [], ◌∷◌, ◌++◌, Bool, true, false, Some, None, refl, sym, ap, ◌∙◌, arith}
use Rattle.std.specs.Fmt.{decimal}
use Rattle.std.specs.List.{AllByRecursion}
use Rattle.std.specs.Str.Parse.{AllDigits}
use Rattle.std.proofs.lemmas.Fmt.{decimal_is_IsNumeral}
use Rattle.std.proofs.lemmas.List.{append-nil, append_cancel_right}
use Rattle.std.proofs.lemmas.Str.Parse.{digit_from_value}
use Rattle.ms_event.specs.Text.{IsId, IsWord, ending, numbers}
use Rattle.ms_event.specs.refinement.Reading.{ReadsEnded, ReadsFive}

-- digits and spaces alone
abbrev HasNoLetter : List ℕ → Type 0
HasNoLetter [] = Unit {0}
HasNoLetter (c ∷ cs) = (c < 58) × HasNoLetter cs

digits_have_none : (ds rest : List ℕ) → AllDigits 10 ds → HasNoLetter rest → HasNoLetter (ds ++ rest)
digits_have_none [] rest digits none = none
digits_have_none (d ∷ ds) rest digits none =
    let range = digit_from_value d digits.0 in
    (omega (arith, range), digits_have_none ds rest digits.1 none)

numbers_have_none : (ns : List ℕ) → AllByRecursion IsId ns → HasNoLetter (numbers ns)
numbers_have_none [] small = tt
numbers_have_none (n ∷ ns) small = (omega arith, digits_have_none (decimal n) (numbers ns) (decimal_is_IsNumeral n small.0).0.1 (numbers_have_none ns small.1))

-- the word's second letter is one
no_word : (front : List ℕ) → HasNoLetter (front ++ ending true) → ⊥
no_word [] none = omega (arith, none.1.0)
no_word (c ∷ front) none = no_word front none.1

-- a list of numbers has no such end
pub no_end : (ns front : List ℕ) → AllByRecursion IsId ns → numbers ns ≡ front ++ ending true → ⊥
no_end ns front small e = no_word front (rw e at (numbers_have_none ns small))

pub ended_so : (ms ns : List ℕ) (b c : Bool) → AllByRecursion IsId ms → AllByRecursion IsId ns → numbers ms ++ ending b ≡ numbers ns ++ ending c → (numbers ms ≡ numbers ns) × (b ≡ c)
ended_so ms ns false false small fits e = (sym (append-nil (numbers ms)) ∙ e ∙ append-nil (numbers ns), refl)
ended_so ms ns false true small fits e = absurd (no_end ms (numbers ns) small (sym (append-nil (numbers ms)) ∙ e))
ended_so ms ns true false small fits e = absurd (no_end ns (numbers ms) fits (sym (append-nil (numbers ns)) ∙ sym e))
ended_so ms ns true true small fits e = (append_cancel_right (numbers ms) (numbers ns) (ending true) e, refl)

-- ---- reading

-- the word stands at the end
pub ends_marked : (ns front : List ℕ) (sealed : Bool) → AllByRecursion IsId ns → numbers ns ++ ending sealed ≡ front ++ ending true → (front ≡ numbers ns) × (true ≡ sealed)
ends_marked ns front false small e = absurd (no_end ns front small (sym (append-nil (numbers ns)) ∙ e))
ends_marked ns front true small e = (sym (append_cancel_right (numbers ns) front (ending true) e), refl)

wider : {n : ℕ} → IsWord n → IsId n
wider {n} small = omega arith

-- these are the line without the word, and whether the word stands there
abbrev pub IsEnded : List ℕ → List ℕ → Bool → Type 0
IsEnded line inner sealed = (ns : List ℕ) (b : Bool) → AllByRecursion IsId ns → line ≡ numbers ns ++ ending b → (inner ≡ numbers ns) × (sealed ≡ b)

pub ended_fails : (line inner : List ℕ) (sealed : Bool) → IsEnded line inner sealed → ReadsFive inner None → ReadsEnded line None
ended_fails line inner sealed alone read = record {
  found = tt;
  only = λ id a b c d mark id_fits a_fits b_fits c_fits d_fits e.
      let parts = alone (id ∷ a ∷ b ∷ c ∷ d ∷ []) mark (id_fits, (wider a_fits, (wider b_fits, (wider c_fits, (wider d_fits, tt))))) e in
      let none : None ≡ Some (id, (a, b), (c, d)) = read.only id a b c d id_fits a_fits b_fits c_fits d_fits parts.0 in
      absurd cc;
}

all_five : (x y : ℕ × (ℕ × ℕ) × (ℕ × ℕ)) → Some x ≡ Some y → x ≡ y
all_five x y e = cc

pub ended_reads : (line inner : List ℕ) (sealed : Bool) (id : ℕ) (p q : ℕ × ℕ) → line ≡ inner ++ ending sealed → IsEnded line inner sealed → ReadsFive inner (Some (id, p, q)) → ReadsEnded line (Some (id, p, q, sealed))
ended_reads line inner sealed id p q is alone read = record {
  found = is ∙ ap (λ front. front ++ ending sealed) read.found;
  only = λ i a b c d mark id_fits a_fits b_fits c_fits d_fits e.
      let parts = alone (i ∷ a ∷ b ∷ c ∷ d ∷ []) mark (id_fits, (wider a_fits, (wider b_fits, (wider c_fits, (wider d_fits, tt))))) e in
      let same = all_five (id, p, q) (i, (a, b), (c, d)) (read.only i a b c d id_fits a_fits b_fits c_fits d_fits parts.0) in
      ap (λ (r : ℕ × (ℕ × ℕ) × (ℕ × ℕ)). Some (r.0, r.1, r.2, sealed)) same ∙ ap (λ (m : Bool). Some (i, (a, b), (c, d), m)) parts.1;
}
