-- The place that `place_of` finds is the least one.
use Rattle.std.proofs.Common.{◌≡◌, ◌==◌, ℕ, zero, suc, ◌+◌, ◌*◌, ◌<◌, ◌&&◌, true, false, not, inl, inr, List, Option, Some, None, is_some, refl, sym, ap, subst, ◌∙◌, arith}
use Rattle.std.specs.Prelude.{nat_le}
use Rattle.std.specs.List.{find, list_any}
use Rattle.std.proofs.lemmas.Bool.{and_from, and_parts, both_ways, cases_lt, cases_order, cond_both, eqb-true, le-leb, leb-true, not-true, not_from_false, or_cases, or_right}
use Rattle.ms_live.specs.declared.gaps.Live.{Live}
use Rattle.ms_live.specs.Overlap.{overlaps}
use Rattle.ms_live.specs.Place.{IsAligned, IsFree, IsPlace}
use Rattle.ms_live.proofs.Found.{find-None, find-Some, is_some-find}
use Rattle.ms_live.proofs.Places.{ends_behind, free-from_apart, none_at_all, taken}
use Rattle.ms_segment.specs.Calls.{is_free, place_from, place_of}

-- ---- whether a place is free

none_from : (o : Option Live) → is_some o ≡ false → o ≡ None
none_from None e = refl
none_from (Some s) e = absurd (cc)

free_from_test : (live : List Live) (capacity n place : ℕ) → is_free live capacity n place ≡ true → IsFree live capacity n place
free_from_test live capacity n place e =
    elim (or_cases (n == 0) (nat_le (place + n) capacity && not (list_any (overlaps place n) live)) e) [
      | inl none ↦ λ k below. absurd (omega (arith, eqb-true n 0 none))
      | inr both ↦ let parts = and_parts (nat_le (place + n) capacity) (not (list_any (overlaps place n) live)) both in
          let nothing = none_from (find (overlaps place n) live) (is_some-find (overlaps place n) live ∙ not-true (list_any (overlaps place n) live) parts.1) in
          free-from_apart live capacity n place (leb-true (place + n) capacity parts.0) (find-None (overlaps place n) live nothing)
    ]

none_taken : (live : List Live) (capacity n place : ℕ) (o : Option Live) → 0 < n → IsFree live capacity n place → find (overlaps place n) live ≡ o → is_some o ≡ false
none_taken live capacity n place None some free e = refl
none_taken live capacity n place (Some s) some free e =
    let found = find-Some (overlaps place n) live s e in
    absurd (taken live capacity n place place s some found.0 found.1 (omega arith) (ends_behind place n s found.1) free)

test_from_free : (live : List Live) (capacity n place : ℕ) → IsFree live capacity n place → is_free live capacity n place ≡ true
test_from_free live capacity zero place free = refl
test_from_free live capacity (suc n) place free =
    let last : place + n < capacity = (free n (omega arith)).0 in
    let apart : list_any (overlaps place (suc n)) live ≡ false = sym (is_some-find (overlaps place (suc n)) live) ∙ none_taken live capacity (suc n) place (find (overlaps place (suc n)) live) (omega arith) free refl in
    or_right (suc n == 0) _ (and_from (nat_le (place + suc n) capacity) _ (le-leb (place + suc n) capacity (omega arith)) (not_from_false (list_any (overlaps place (suc n)) live) apart))

-- ---- the least place

-- past the capacity nothing is free, but for no bytes, which lie at 0
none_past : (live : List Live) (capacity n place : ℕ) → capacity < place → ((lower : ℕ) → lower < place → IsAligned lower → ¬ (IsFree live capacity n lower)) → (at : ℕ) → IsAligned at → ¬ (IsFree live capacity n at)
none_past live capacity zero place past none_below at aligned free = none_below 0 (omega arith) refl (λ k below. absurd (omega arith))
none_past live capacity (suc n) place past none_below at aligned free =
    none_at_all live capacity (suc n) place (omega arith) (omega arith) none_below at aligned free

-- the next multiple of 16 is the next place
none_below_more : (live : List Live) (capacity n place : ℕ) → IsAligned place → is_free live capacity n place ≡ false → ((lower : ℕ) → lower < place → IsAligned lower → ¬ (IsFree live capacity n lower)) → (lower : ℕ) → lower < place + 16 → IsAligned lower → ¬ (IsFree live capacity n lower)
none_below_more live capacity n place aligned not_free none_below lower below lower_aligned free =
    elim (cases_lt lower place) [
      | inl less ↦ none_below lower less lower_aligned free
      | inr from ↦ let same : lower ≡ place = omega arith in
          both_ways (is_free live capacity n place) not_free (test_from_free live capacity n place (subst (IsFree live capacity n) same free))
    ]

place_from_is_place : (live : List Live) (capacity n steps place : ℕ) → IsAligned place → capacity < place + 16 * steps → ((lower : ℕ) → lower < place → IsAligned lower → ¬ (IsFree live capacity n lower)) → IsPlace live capacity n (place_from live capacity n steps place)
place_from_is_place live capacity n zero place aligned past none_below = none_past live capacity n place (omega arith) none_below
place_from_is_place live capacity n (suc steps) place aligned past none_below =
    cond_both (is_free live capacity n place) (Some place) (place_from live capacity n steps (place + 16)) (IsPlace live capacity n) (λ free. (aligned, free_from_test live capacity n place free, none_below)) (λ taken'. place_from_is_place live capacity n steps (place + 16) (omega arith) (omega arith) (none_below_more live capacity n place aligned taken' none_below))

pub IsPlace-place_of : (live : List Live) (capacity n : ℕ) → IsPlace live capacity n (place_of live capacity n)
IsPlace-place_of live capacity n = place_from_is_place live capacity n (suc capacity) 0 refl (omega arith) (λ lower below aligned free. absurd (omega arith))

pub IsPlace-unique : (live : List Live) (capacity n : ℕ) (o p : Option ℕ) → IsPlace live capacity n o → IsPlace live capacity n p → o ≡ p
IsPlace-unique live capacity n None None one other = refl
IsPlace-unique live capacity n None (Some place) one other = absurd (one place other.0 other.1)
IsPlace-unique live capacity n (Some place) None one other = absurd (other place one.0 one.1)
IsPlace-unique live capacity n (Some place) (Some place') one other =
    elim (cases_order place place') [
      | inl same ↦ ap Some same
      | inr apart ↦ elim apart [
        | inl below ↦ absurd (other.2 place below one.0 one.1)
        | inr above ↦ absurd (one.2 place' above other.0 other.1)
      ]
    ]

pub place_of_is : (live : List Live) (capacity n : ℕ) (o : Option ℕ) → IsPlace live capacity n o → o ≡ place_of live capacity n
place_of_is live capacity n o placed = IsPlace-unique live capacity n o (place_of live capacity n) placed (IsPlace-place_of live capacity n)
