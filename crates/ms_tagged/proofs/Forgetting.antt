-- Masks of granules, and what they say once pieces are forgotten.
use Rattle.std.proofs.Common.{lit<, ◌≡◌, ℕ, ◌+◌, ◌-◌, ◌*◌, ◌/◌, ◌%◌, ◌^◌, ◌<◌, ◌≤◌, inl, inr, List, ◌++◌, get_or, length, take, drop, replicate, refl, ap, sym, ◌∙◌, arith}
use Rattle.std.proofs.Math.ListN.{set}
use Rattle.std.specs.Int.{bit_at}
use Rattle.std.proofs.lemmas.Bool.{cases_lt}
use Rattle.std.proofs.lemmas.List.{places, get_or-set_same, get_or-set_other}
use Rattle.std.proofs.lemmas.Nat.{and_mask, or_shifted, pow_pos, shr-shr, shr_split}
use Rattle.std.proofs.Math.Nat.{pow-le-pow_right}
use Rattle.std.specs.Int.Bits.{bit_and, bit_or}
use Rattle.std.proofs.lemmas.Nat.Bits.{bit_at_above, bit_at_cat_low, bit_at_cat_high, bit_at-zero, same_from_bits_below}
use Rattle.ms_tagged.specs.refinement.Granules.{Clears, Forgets, HoldData, piece_bit}

-- ---- one mask

-- the lowest bits of a number
bit_at-mod : (n k i : ℕ) → i < k → bit_at (n % 2 ^ k) i ≡ bit_at n i
bit_at-mod n k i low = sym (ap (λ m. bit_at m i) (sym (shr_split n k)) ∙ bit_at_cat_low (n / 2 ^ k) k (n % 2 ^ k) i low)

-- the highest bits and the lowest ones, with none between them
pub clears : (mask from to : ℕ) → from ≤ to → Clears mask (mask / 2 ^ to * 2 ^ to + mask % 2 ^ from) from to
clears mask from to order =
    let small : mask % 2 ^ from < 2 ^ from = omega (arith, pow_pos from) in
    let fits : mask % 2 ^ from < 2 ^ to = omega (arith, pow-le-pow_right {n = 2} (lit< tt) order) in
    record {
      inside = λ i high low. bit_at_cat_low (mask / 2 ^ to) to (mask % 2 ^ from) i low ∙ bit_at_above (mask % 2 ^ from) from i small high;
      below = λ i low. bit_at_cat_low (mask / 2 ^ to) to (mask % 2 ^ from) i (omega arith) ∙ bit_at-mod mask from i low;
      above = λ i high.
          let sum : to + (i - to) ≡ i = omega arith in
          bit_at_cat_high (mask / 2 ^ to) to (mask % 2 ^ from) i fits high ∙ ap (λ n. n % 2) (shr-shr mask to (i - to) ∙ ap (λ k. mask / 2 ^ k) sum);
    }

-- the same as the code computes it
pub clears-computed : (mask from to n : ℕ) → n ≡ mask → mask < 65536 → from ≤ to → to ≤ 16 → Clears mask (bit_or (n / 2 ^ to * 2 ^ to % 4294967296) (bit_and n (1 * 2 ^ from % 4294967296 - 1))) from to
clears-computed mask from to n is fits order within =
    let low : 2 ^ from ≤ 65536 = pow-le-pow_right {n = 2} (lit< tt) {i = from} {j = 16} (omega arith) in
    let high : mask / 2 ^ to * 2 ^ to ≤ mask = omega (arith, shr_split mask to) in
    let wide : mask / 2 ^ to * 2 ^ to % 4294967296 ≡ mask / 2 ^ to * 2 ^ to = omega arith in
    let ones : 1 * 2 ^ from % 4294967296 ≡ 2 ^ from = omega arith in
    let rest : mask % 2 ^ from < 2 ^ to = omega (arith, pow_pos from, pow-le-pow_right {n = 2} (lit< tt) order) in
    let both : bit_or (mask / 2 ^ to * 2 ^ to) (mask % 2 ^ from) ≡ mask / 2 ^ to * 2 ^ to + mask % 2 ^ from = or_shifted (mask / 2 ^ to) to (mask % 2 ^ from) rest in
    rw (is, wide, ones, and_mask mask from, both) (clears mask from to order)

-- ---- a few bits of two masks

pub bits-computed : (first second place count f s : ℕ) → f ≡ first → s ≡ second → first < 65536 → second < 65536 → count ≤ 8 → bit_and (bit_or (s * 2 ^ 16 % 4294967296) f / 2 ^ place) (1 * 2 ^ count % 4294967296 - 1) ≡ (second * 2 ^ 16 + first) / 2 ^ place % 2 ^ count
bits-computed first second place count f s f_is s_is small also few =
    let low : 2 ^ count ≤ 256 = pow-le-pow_right {n = 2} (lit< tt) {i = count} {j = 8} few in
    let ones : 1 * 2 ^ count % 4294967296 ≡ 2 ^ count = omega arith in
    let wide : second * 2 ^ 16 % 4294967296 ≡ second * 2 ^ 16 = omega arith in
    rw (f_is, s_is, wide, ones, or_shifted second 16 first small) (and_mask ((second * 2 ^ 16 + first) / 2 ^ place) count)

-- bit i of them is what the masks say of the byte there
bits-bit : (masks : List ℕ) (from to i : ℕ) → from < to → to ≤ from + 8 → i < to - from → get_or masks (from / 16) 0 < 65536
    → bit_at ((get_or masks ((to - 1) / 16) 0 * 2 ^ 16 + get_or masks (from / 16) 0) / 2 ^ (from % 16) % 2 ^ (to - from)) i ≡ piece_bit masks (from + i)
bits-bit masks from to i some few inside small =
    let first = get_or masks (from / 16) 0 in
    let second = get_or masks ((to - 1) / 16) 0 in
    let both = second * 2 ^ 16 + first in
    bit_at-mod (both / 2 ^ (from % 16)) (to - from) i inside
    ∙ (ap (λ n. n % 2) (shr-shr both (from % 16) i)
    ∙ elim (cases_lt (from % 16 + i) 16) [
      | inl low ↦
          let g : from / 16 ≡ (from + i) / 16 = omega arith in
          let j : from % 16 + i ≡ (from + i) % 16 = omega arith in
          bit_at_cat_low second 16 first (from % 16 + i) low ∙ (ap (λ k. bit_at (get_or masks k 0) (from % 16 + i)) g ∙ ap (bit_at (get_or masks ((from + i) / 16) 0)) j)
      | inr high ↦
          let g : (to - 1) / 16 ≡ (from + i) / 16 = omega arith in
          let j : from % 16 + i - 16 ≡ (from + i) % 16 = omega arith in
          bit_at_cat_high second 16 first (from % 16 + i) small high ∙ (ap (λ k. bit_at (get_or masks k 0) (from % 16 + i - 16)) g ∙ ap (bit_at (get_or masks ((from + i) / 16) 0)) j)
    ])

-- they are 0 exactly where none of the bytes is a piece
pub data-bits : (masks : List ℕ) (from to bits : ℕ) → from < to → to ≤ from + 8 → (to - 1) / 16 < length masks → get_or masks (from / 16) 0 < 65536
    → bits ≡ (get_or masks ((to - 1) / 16) 0 * 2 ^ 16 + get_or masks (from / 16) 0) / 2 ^ (from % 16) % 2 ^ (to - from) → (bits ≡ 0 → HoldData masks from to) × (HoldData masks from to → bits ≡ 0)
data-bits masks from to bits some few there small is = (
  λ none. record {
    there = omega arith;
    none = λ i above below.
        let sum : from + (i - from) ≡ i = omega arith in
        ap (piece_bit masks) (sym sum) ∙ (sym (bits-bit masks from to (i - from) some few (omega arith) small) ∙ (ap (λ n. bit_at n (i - from)) (sym is ∙ none) ∙ bit_at-zero (i - from)));
  },
  λ held.
      let below : bits < 2 ^ (to - from) = rw is (omega (arith, pow_pos (to - from))) in
      same_from_bits_below (to - from) bits 0 below (pow_pos (to - from)) (λ i inside.
      ap (λ n. bit_at n i) is ∙ (bits-bit masks from to i some few inside small ∙ (held.none (from + i) (omega arith) (omega arith) ∙ sym (bit_at-zero i)))),
)

-- ---- masks in a row

pub forgets-none : (masks : List ℕ) (at : ℕ) → Forgets masks masks at at
forgets-none masks at = record {
  inside = λ i high low. absurd (omega arith);
  below = λ i low. refl;
  above = λ i high. refl;
}

-- one of them is another
pub forgets-set : (masks : List ℕ) (granule mask from to : ℕ) → granule < length masks → from ≤ to → to ≤ 16 → Clears (get_or masks granule 0) mask from to → Forgets masks (set masks granule mask) (16 * granule + from) (16 * granule + to)
forgets-set masks granule mask from to there order within clear =
    let old : (i : ℕ) → i / 16 ≡ granule → piece_bit masks i ≡ bit_at (get_or masks granule 0) (i % 16) = λ i e. ap (λ g. bit_at (get_or masks g 0) (i % 16)) e in
    let here : (i : ℕ) → i / 16 ≡ granule → piece_bit (set masks granule mask) i ≡ bit_at mask (i % 16) =
    λ i e. ap (λ g. bit_at (get_or (set masks granule mask) g 0) (i % 16)) e ∙ ap (λ m. bit_at m (i % 16)) (get_or-set_same masks granule mask 0 there) in
    let other : (i : ℕ) → (i / 16 ≡ granule → ⊥) → piece_bit (set masks granule mask) i ≡ piece_bit masks i = λ i e. ap (λ m. bit_at m (i % 16)) (get_or-set_other masks granule (i / 16) mask 0 e) in
    record {
      inside = λ i above below. here i (omega arith) ∙ clear.inside (i % 16) (omega arith) (omega arith);
      below = λ i below. elim (cases_lt (i / 16) granule) [
        | inl lower ↦ other i (λ e. absurd (omega arith))
        | inr same ↦ let e : i / 16 ≡ granule = omega arith in here i e ∙ (clear.below (i % 16) (omega arith) ∙ sym (old i e))
      ];
      above = λ i above. elim (cases_lt granule (i / 16)) [
        | inl higher ↦ other i (λ e. absurd (omega arith))
        | inr same ↦ let e : i / 16 ≡ granule = omega arith in here i e ∙ (clear.above (i % 16) (omega arith) ∙ sym (old i e))
      ];
    }

pub wiped-inside : (masks : List ℕ) (from to i : ℕ) → from ≤ to → to ≤ length masks → from ≤ i → i < to → get_or (take from masks ++ replicate (to - from) 0 ++ drop to masks) i 0 ≡ 0
wiped-inside masks from to i order within above below = grind (arith, places)

pub wiped-below : (masks : List ℕ) (from to i : ℕ) → from ≤ to → to ≤ length masks → i < from → get_or (take from masks ++ replicate (to - from) 0 ++ drop to masks) i 0 ≡ get_or masks i 0
wiped-below masks from to i order within below = grind (arith, places)

pub wiped-above : (masks : List ℕ) (from to i : ℕ) → from ≤ to → to ≤ length masks → to ≤ i → get_or (take from masks ++ replicate (to - from) 0 ++ drop to masks) i 0 ≡ get_or masks i 0
wiped-above masks from to i order within above = grind (arith, places)

-- some of them are 0
pub forgets-wiped : (masks : List ℕ) (from to : ℕ) → from ≤ to → to ≤ length masks → Forgets masks (take from masks ++ replicate (to - from) 0 ++ drop to masks) (16 * from) (16 * to)
forgets-wiped masks from to order within =
    let new = take from masks ++ replicate (to - from) 0 ++ drop to masks in
    record {
      inside = λ i above below. ap (λ m. bit_at m (i % 16)) (wiped-inside masks from to (i / 16) order within (omega arith) (omega arith)) ∙ bit_at-zero (i % 16);
      below = λ i below. ap (λ m. bit_at m (i % 16)) (wiped-below masks from to (i / 16) order within (omega arith));
      above = λ i above. ap (λ m. bit_at m (i % 16)) (wiped-above masks from to (i / 16) order within (omega arith));
    }

-- one range and the one behind it
pub forgets-both : (old mid new : List ℕ) (from at to : ℕ) → from ≤ at → at ≤ to → Forgets old mid from at → Forgets mid new at to → Forgets old new from to
forgets-both old mid new from at to low high first second = record {
  inside = λ i above below. elim (cases_lt i at) [
    | inl in_first ↦ second.below i in_first ∙ first.inside i above in_first
    | inr behind ↦ second.inside i behind below
  ];
  below = λ i below. second.below i (omega arith) ∙ first.below i below;
  above = λ i above. second.above i above ∙ first.above i (omega arith);
}
