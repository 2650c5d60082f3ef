-- What the search for a place rests on: which places a live segment takes.
use Rattle.std.proofs.Common.{◌≡◌, ℕ, ◌+◌, ◌-◌, ◌<◌, ◌≤◌, ◌⊎◌, true, false, List, inl, inr, arith}
use Rattle.std.specs.List.{All, Contains}
use Rattle.std.proofs.lemmas.List.Elements.{All-contains, All-weaker}
use Rattle.std.proofs.lemmas.Bool.Decides.{nat_tests}
use Rattle.std.proofs.lemmas.Bool.{cases_lt}
use Rattle.ms_live.specs.declared.gaps.Live.{Live}
use Rattle.ms_live.specs.Overlap.{overlaps}
use Rattle.ms_live.specs.Place.{IsAligned, IsFree, IsOutside}

-- ---- one segment

outside-from_apart : (place n k : ℕ) (s : Live) → k < n → overlaps place n s ≡ false → IsOutside (place + k) s
outside-from_apart place n k s below e = grind (arith, nat_tests)

begins_before : (place n : ℕ) (s : Live) → overlaps place n s ≡ true → s.base < place + n
begins_before place n s e = grind (arith, nat_tests)

pub ends_behind : (place n : ℕ) (s : Live) → overlaps place n s ≡ true → place < s.base + s.size
ends_behind place n s e = grind (arith, nat_tests)

has_bytes : (place n : ℕ) (s : Live) → overlaps place n s ≡ true → 0 < s.size
has_bytes place n s e = grind (arith, nat_tests)

-- ---- all segments

-- where no segment overlaps them, the addresses are free
pub free-from_apart : (live : List Live) (capacity n place : ℕ) → place + n ≤ capacity → All (λ s. overlaps place n s ≡ false) live → IsFree live capacity n place
free-from_apart live capacity n place within apart k below =
    (omega arith, All-weaker (λ s. overlaps place n s ≡ false) (IsOutside (place + k)) (λ s apart. outside-from_apart place n k s below apart) live apart)

-- a segment that overlaps at one place does so at each place from there up to its end
pub taken : (live : List Live) (capacity n place lower : ℕ) (s : Live) → 0 < n → Contains live s → overlaps place n s ≡ true → place ≤ lower → lower < s.base + s.size → ¬ (IsFree live capacity n lower)
taken live capacity n place lower s some has meets from below free =
    let begins = begins_before place n s meets in
    let bytes = has_bytes place n s meets in
    let k : ℕ = s.base - lower in
    let within : k < n = omega arith in
    let out = All-contains (IsOutside (lower + k)) live s (free k within).1 has in
    let past : s.base + s.size ≤ lower + k = out (omega arith) in
    omega arith

-- no place on the way behind it is free
pub none_behind : (live : List Live) (capacity n place next : ℕ) (s : Live) → 0 < n → Contains live s → overlaps place n s ≡ true → IsAligned next → next < s.base + s.size + 16 → ((lower : ℕ) → lower < place → IsAligned lower → ¬ (IsFree live capacity n lower)) → (lower : ℕ) → lower < next → IsAligned lower → ¬ (IsFree live capacity n lower)
none_behind live capacity n place next s some has meets aligned near none_below lower below lower_aligned =
    elim (cases_lt lower place) [
      | inl less ↦ none_below lower less lower_aligned
      | inr from ↦ taken live capacity n place lower s some has meets from (omega arith)
    ]

-- from a place on that is too near to the end none is free
pub none_at_all : (live : List Live) (capacity n place : ℕ) → 0 < n → capacity < place + n → ((lower : ℕ) → lower < place → IsAligned lower → ¬ (IsFree live capacity n lower)) → (at : ℕ) → IsAligned at → ¬ (IsFree live capacity n at)
none_at_all live capacity n place some past none_below at aligned free =
    elim (cases_lt at place) [
      | inl less ↦ none_below at less aligned free
      | inr from ↦ let last : at + (n - 1) < capacity = (free (n - 1) (omega arith)).0 in omega arith
    ]

-- some bytes of a live segment are apart from a free place
pub free_apart : (live : List Live) (capacity n base : ℕ) (s : Live) (at width : ℕ) → IsFree live capacity n base → Contains live s → s.base ≤ at → at + width ≤ s.base + s.size → 0 < width → 0 < n → (at + width ≤ base) ⊎ (base + n ≤ at)
free_apart live capacity n base s at width free has low high some some' =
    elim (cases_lt base (at + width)) [
      | inr behind ↦ inl behind
      | inl before ↦ elim (cases_lt at (base + n)) [
        | inr behind ↦ inr behind
        | inl meets ↦ absurd (elim (cases_lt at base) [
          | inl less ↦
              let out = All-contains (IsOutside (base + 0)) live s (free 0 (omega arith)).1 has in
              let past : s.base + s.size ≤ base + 0 = out (omega arith) in
              omega (arith, past)
          | inr more ↦
              let place : base + (at - base) ≡ at = omega arith in
              let out = All-contains (IsOutside (base + (at - base))) live s (free (at - base) (omega arith)).1 has in
              let past : s.base + s.size ≤ base + (at - base) = out (omega arith) in
              omega (arith, past, place)
        ])
      ]
    ]
