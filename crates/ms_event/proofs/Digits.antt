-- A number is read from its digits in one way.
use Rattle.std.proofs.Common.{◌≡◌, ℕ, ◌+◌, ◌-◌, ◌*◌, ◌^◌, ◌/◌, ◌%◌, ◌<◌, ◌≤◌, List, [], ◌∷◌, ◌++◌, Some, None, length, get_or, take, refl, sym, ap, ◌∙◌, inl, inr, arith, append_assoc}
use Rattle.std.specs.Fmt.{decimal}
use Rattle.std.specs.Str.Parse.{AllDigits, digits_value}
use Rattle.std.proofs.lemmas.Bool.{cases_lt}
use Rattle.std.proofs.lemmas.Fmt.{decimal_digit, decimal_injective, decimal_is_IsNumeral, decimal_is_IsNumeral_wide, decimal_nonempty, decimal_step_wide, first_decimal}
use Rattle.std.proofs.lemmas.Str.Parse.{digit_from_value, digits_value-take-le}
use Rattle.std.proofs.lemmas.List.{append-nil, take_at}
use Rattle.ms_event.specs.Text.{IsId}
use Rattle.ms_event.specs.refinement.Reading.{IsStop, ReadsDigits}

-- one more digit at the end of a number
pub decimal_push : (v d : ℕ) → 0 < v → d < 10 → v < 2 ^ 64 → decimal (v * 10 + d) ≡ decimal v ++ ((48 + d) ∷ [])
decimal_push v d positive digit fits =
    let quotient : (v * 10 + d) / 10 ≡ v = omega arith in
    let rest : (v * 10 + d) % 10 ≡ d = omega arith in
    let step : decimal (v * 10 + d) ≡ decimal ((v * 10 + d) / 10) ++ ((48 + (v * 10 + d) % 10) ∷ []) = decimal_step_wide (v * 10 + d) (omega arith) (omega arith) in
    rw (quotient, rest) at step

-- a number so far takes one more digit
pub one_more : (v d : ℕ) (s left new : List ℕ) → 0 < v → d < 10 → v < 2 ^ 64 → s ≡ decimal v ++ left → left ≡ (48 + d) ∷ new → s ≡ decimal (v * 10 + d) ++ new
one_more v d s left new positive digit fits so_far next = rw (decimal_push v d positive digit fits, append_assoc) (so_far ∙ ap (λ rest. decimal v ++ rest) next)

-- a digit does not stop a number
no_stop : (c : ℕ) (cs ds : List ℕ) → AllDigits 10 (c ∷ ds) → IsStop (c ∷ cs) → ⊥
no_stop c cs ds digits stop =
    let range = digit_from_value c digits.0 in
    stop (c - 48) (omega (arith, range)) (omega (arith, range))

-- digits before a stop go on at least as far as digits in front of the same bytes
pub record GoesOn (ds es rest more : List ℕ) : Type 0 where
  pub tail : List ℕ
  pub digits : AllDigits 10 tail
  pub whole : ds ≡ es ++ tail
  pub behind : more ≡ tail ++ rest

cong_cons : (d c : ℕ) (ds es : List ℕ) → d ≡ c → ds ≡ es → d ∷ ds ≡ c ∷ es
cong_cons d c ds es heads tails = cc

goes_on : (ds es rest more : List ℕ) → AllDigits 10 ds → AllDigits 10 es → IsStop rest → ds ++ rest ≡ es ++ more → GoesOn ds es rest more
goes_on ds [] rest more all some stop e = record { tail = ds; digits = all; whole = refl; behind = sym e }
goes_on [] (c ∷ es) [] more all some stop e = absurd cc
goes_on [] (c ∷ es) (r ∷ rest) more all some stop e =
    let same : r ≡ c = cc in
    absurd (no_stop c rest es some (rw same at stop))
goes_on (d ∷ ds) (c ∷ es) rest more all some stop e =
    let tails : ds ++ rest ≡ es ++ more = cc in
    let further = goes_on ds es rest more all.1 some.1 stop tails in
    let heads : d ≡ c = cc in
    let whole : d ∷ ds ≡ c ∷ (es ++ further.tail) = cong_cons d c ds (es ++ further.tail) heads further.whole in
    record { tail = further.tail; digits = further.digits; whole = whole; behind = further.behind }

digits_of_decimal : (n : ℕ) → n < 2 ^ 64 → AllDigits 10 (decimal n)
digits_of_decimal n fits = (decimal_is_IsNumeral n fits).0.1

-- digits that stop nothing, before a stop
no_tail : (tail rest : List ℕ) → AllDigits 10 tail → IsStop (tail ++ rest) → tail ≡ []
no_tail [] rest digits stop = refl
no_tail (c ∷ tail) rest digits stop = absurd (no_stop c (tail ++ rest) tail digits stop)

pub reads_whole : (v : ℕ) (s left : List ℕ) → IsId v → s ≡ decimal v ++ left → IsStop left → ReadsDigits IsId s left (Some v)
reads_whole v s left fits front stop = record {
  found = (fits, front);
  only = λ n rest small ends e.
      let on = goes_on (decimal n) (decimal v) rest left (digits_of_decimal n small) (digits_of_decimal v fits) ends (sym e ∙ front) in
      let none : on.tail ≡ [] = no_tail on.tail rest on.digits (rw on.behind at stop) in
      let same : decimal n ≡ decimal v = on.whole ∙ rw none (append-nil (decimal v)) in
      let number : n ≡ v = decimal_injective n v small fits same in
      let behind : left ≡ rest = on.behind ∙ rw none refl in
      (ap Some (sym number), behind);
}

-- digits of too large a number are in front of no number of the kind
too_large : (longer : ℕ) (n : ℕ) (rest left : List ℕ) → 2 ^ 64 ≤ longer → longer < 10 ^ 64 → IsId n → IsStop rest → decimal longer ++ left ≡ decimal n ++ rest → ⊥
too_large longer n rest left large wide small ends e =
    let numeral = decimal_is_IsNumeral_wide longer wide in
    let on = goes_on (decimal n) (decimal longer) rest left (digits_of_decimal n small) numeral.0.1 ends (sym e) in
    let part : take (length (decimal longer)) (decimal n) ≡ decimal longer = rw on.whole (take_at (decimal longer) on.tail (length (decimal longer)) refl) in
    let below = digits_value-take-le 10 (decimal n) (length (decimal longer)) (omega arith) in
    let bound : digits_value 10 (decimal longer) ≤ digits_value 10 (decimal n) = rw part at below in
    omega (arith, bound, numeral.1, (decimal_is_IsNumeral n small).1)

pub reads_too_large : (v d : ℕ) (s left new : List ℕ) → 0 < v → d < 10 → v < 2 ^ 64 → 2 ^ 64 ≤ v * 10 + d → s ≡ decimal v ++ ((48 + d) ∷ left) → ReadsDigits IsId s new None
reads_too_large v d s left new positive digit fits large front =
    let longer : decimal (v * 10 + d) ++ left ≡ s = rw (decimal_push v d positive digit fits, append_assoc) (sym front) in
    record {
      found = tt;
      only = λ n rest small ends e. absurd (too_large (v * 10 + d) n rest left large (omega arith) small ends (longer ∙ e));
    }

-- the first digit of a number
starts_with : (n c : ℕ) (rest left : List ℕ) → n < 2 ^ 64 → decimal n ++ rest ≡ c ∷ left → get_or (decimal n) 0 0 ≡ c
starts_with n c rest left small e = first (decimal n) (decimal_nonempty n small) e where
  first : (ds : List ℕ) → 0 < length ds → ds ++ rest ≡ c ∷ left → get_or ds 0 0 ≡ c
  first [] some e = absurd (omega (arith, some))
  first (d ∷ ds) some e = let same : d ≡ c = cc in same

pub reads_zero : (s left : List ℕ) → s ≡ 48 ∷ left → ReadsDigits IsId s left (Some 0)
reads_zero s left front = record {
  found = (omega arith, rw decimal_zero front);
  only = λ n rest small ends e. elim (cases_lt 0 n) [
    | inl positive ↦ absurd (omega (arith, first_decimal n positive small, starts_with n 48 rest left small (sym e ∙ front)))
    | inr zero ↦
        let none : n ≡ 0 = omega arith in
        let same : 48 ∷ left ≡ 48 ∷ rest = sym front ∙ e ∙ rw (none, decimal_zero) refl in
        let behind : left ≡ rest = cc in
        (ap Some (sym none), behind)
  ];
} where
  decimal_zero : decimal 0 ≡ 48 ∷ []
  decimal_zero = decimal_digit 0 (omega arith)

pub reads_no_digit : (s new : List ℕ) → IsStop s → ReadsDigits IsId s new None
reads_no_digit s new stop = record {
  found = tt;
  only = λ n rest small ends e. absurd (none (decimal n) rest (decimal_nonempty n small) (digits_of_decimal n small) (rw e at stop));
} where
  none : (ds rest : List ℕ) → 0 < length ds → AllDigits 10 ds → IsStop (ds ++ rest) → ⊥
  none [] rest some digits stop = omega (arith, some)
  none (c ∷ ds) rest some digits stop = no_stop c (ds ++ rest) ds digits stop
