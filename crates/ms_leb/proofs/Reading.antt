-- What a cursor reads is spelled so, what is spelled so is read, and where the bytes end inside.
use Rattle.std.proofs.Common.{◌≡◌, ℕ, suc, ◌+◌, ◌-◌, ◌/◌, ◌^◌, ◌<◌, false, ltb, leb, inl, inr, List, [], ◌∷◌, length, Result, Ok, Err, refl, sym, ap, ◌∙◌, arith, ℤ}
use Rattle.std.specs.Prelude.{IfOk}
use Rattle.std.proofs.lemmas.Bool.Decides.{nat_tests}
use Rattle.ms_bytes.specs.Spot.{Spot}
use Rattle.ms_leb.specs.Leb128.{SignedAt, UnsignedAt, signed_at, unsigned_at, with_low, with_low_z}
use Rattle.ms_bytes.specs.ResultLaws.{chosen}
use Rattle.ms_leb.proofs.Leb128Laws.{same_pair, signed_again, signed_takes, unsigned_again, unsigned_takes}
use Rattle.ms_leb.specs.declared.leb.Leb.{Leb}
use Rattle.ms_leb.specs.declared.leb.Leb.TheVariants.{Short}
use Rattle.ms_leb.specs.refinement.Numbers.{IsShort, ReadsNumber}

-- ---- unsigned

pub unsigned_found : (bits : ℕ) (old new : Spot) (r : Result ℕ Leb) → ReadsNumber old new r (unsigned_at bits old.left) → IfOk r (λ n. UnsignedAt bits old.left n new.left)
unsigned_found bits old new (Ok n) h = unsigned_takes bits old.left n new.left h.0
unsigned_found bits old new (Err e) h = tt

pub unsigned_only : (bits : ℕ) (old new : Spot) (r : Result ℕ Leb) → ReadsNumber old new r (unsigned_at bits old.left) → (n : ℕ) (rest : List ℕ) → UnsignedAt bits old.left n rest → (r ≡ Ok n) × (new.left ≡ rest)
unsigned_only bits old new (Ok x) h n rest spelled =
    let e : unsigned_at bits old.left ≡ Ok (n, rest) = ap (unsigned_at bits) spelled.2 ∙ unsigned_again bits spelled.0 n rest spelled.1 in
    let p = same_pair (x, new.left) (n, rest) (sym h.0 ∙ e) in
    (ap (λ (k : ℕ). Ok k) p.0, p.1)
unsigned_only bits old new (Err d) h n rest spelled =
    let e : unsigned_at bits old.left ≡ Ok (n, rest) = ap (unsigned_at bits) spelled.2 ∙ unsigned_again bits spelled.0 n rest spelled.1 in
    absurd cc

low_short : (l : ℕ) (r : Result (ℕ × List ℕ) Leb) → with_low l r ≡ Err Short → r ≡ Err Short
low_short l (Ok x) e = absurd cc
low_short l (Err d) e = e

-- fewer bytes than seven more bits may have
less_by_seven : (bits n : ℕ) → 7 < bits → n < (bits - 7 + 6) / 7 → suc n < (bits + 6) / 7
less_by_seven bits n lt h = omega arith

more_by_seven : (bits n : ℕ) → 7 < bits → suc n < (bits + 6) / 7 → n < (bits - 7 + 6) / 7
more_by_seven bits n lt h = omega arith

pub unsigned_short : (bits : ℕ) (bytes : List ℕ) → 0 < bits → unsigned_at bits bytes ≡ Err Short → IsShort bits bytes
unsigned_short bits [] some e = (omega arith, tt)
unsigned_short bits (b ∷ bs) some e =
    elim (chosen (ltb b 128) _ _ _ e) [
      | inl last ↦ elim (chosen (ltb b (2 ^ bits)) _ _ _ last.1) [
        | inl h ↦ absurd (let x = h.1 in cc)
        | inr h ↦ absurd (let x = h.1 in cc)
      ]
      | inr more ↦ elim (chosen (leb bits 7) _ _ _ more.1) [
        | inl h ↦ absurd (let x = h.1 in cc)
        | inr h ↦
            let lt : 7 < bits = grind (arith, nat_tests) in
            let i = unsigned_short (bits - 7) bs (omega arith) (low_short (b - 128) (unsigned_at (bits - 7) bs) h.1) in
            (less_by_seven bits (length bs) lt i.0, (grind (arith, nat_tests), i.1))
      ]
    ]

pub short_unsigned : (bits : ℕ) (bytes : List ℕ) → IsShort bits bytes → unsigned_at bits bytes ≡ Err Short
short_unsigned bits [] h = refl
short_unsigned bits (b ∷ bs) h =
    let lt : 7 < bits = omega arith in
    let one : ltb b 128 ≡ false = grind (arith, nat_tests) in
    let two : leb bits 7 ≡ false = grind (arith, nat_tests) in
    rw (one, two, short_unsigned (bits - 7) bs (more_by_seven bits (length bs) lt h.0, h.1.1)) refl

-- ---- signed

pub signed_found : (bits : ℕ) (old new : Spot) (r : Result ℤ Leb) → ReadsNumber old new r (signed_at bits old.left) → IfOk r (λ n. SignedAt bits old.left n new.left)
signed_found bits old new (Ok n) h = signed_takes bits old.left n new.left h.0
signed_found bits old new (Err e) h = tt

pub signed_only : (bits : ℕ) (old new : Spot) (r : Result ℤ Leb) → ReadsNumber old new r (signed_at bits old.left) → (n : ℤ) (rest : List ℕ) → SignedAt bits old.left n rest → (r ≡ Ok n) × (new.left ≡ rest)
signed_only bits old new (Ok x) h n rest spelled =
    let e : signed_at bits old.left ≡ Ok (n, rest) = ap (signed_at bits) spelled.2 ∙ signed_again bits spelled.0 n rest spelled.1 in
    let p = same_pair (x, new.left) (n, rest) (sym h.0 ∙ e) in
    (ap (λ (k : ℤ). Ok k) p.0, p.1)
signed_only bits old new (Err d) h n rest spelled =
    let e : signed_at bits old.left ≡ Ok (n, rest) = ap (signed_at bits) spelled.2 ∙ signed_again bits spelled.0 n rest spelled.1 in
    absurd cc

low_short_z : (l : ℕ) (r : Result (ℤ × List ℕ) Leb) → with_low_z l r ≡ Err Short → r ≡ Err Short
low_short_z l (Ok x) e = absurd cc
low_short_z l (Err d) e = e

pub signed_short : (bits : ℕ) (bytes : List ℕ) → 0 < bits → signed_at bits bytes ≡ Err Short → IsShort bits bytes
signed_short bits [] some e = (omega arith, tt)
signed_short bits (b ∷ bs) some e =
    elim (chosen (ltb b 64) _ _ _ e) [
      | inl last ↦ elim (chosen (ltb b (2 ^ (bits - 1))) _ _ _ last.1) [
        | inl h ↦ absurd (let x = h.1 in cc)
        | inr h ↦ absurd (let x = h.1 in cc)
      ]
      | inr big ↦ elim (chosen (ltb b 128) _ _ _ big.1) [
        | inl last ↦ elim (chosen (leb 128 (b + 2 ^ (bits - 1))) _ _ _ last.1) [
          | inl h ↦ absurd (let x = h.1 in cc)
          | inr h ↦ absurd (let x = h.1 in cc)
        ]
        | inr more ↦ elim (chosen (leb bits 7) _ _ _ more.1) [
          | inl h ↦ absurd (let x = h.1 in cc)
          | inr h ↦
              let lt : 7 < bits = grind (arith, nat_tests) in
              let i = signed_short (bits - 7) bs (omega arith) (low_short_z (b - 128) (signed_at (bits - 7) bs) h.1) in
              (less_by_seven bits (length bs) lt i.0, (grind (arith, nat_tests), i.1))
        ]
      ]
    ]

pub short_signed : (bits : ℕ) (bytes : List ℕ) → IsShort bits bytes → signed_at bits bytes ≡ Err Short
short_signed bits [] h = refl
short_signed bits (b ∷ bs) h =
    let lt : 7 < bits = omega arith in
    let zero : ltb b 64 ≡ false = grind (arith, nat_tests) in
    let one : ltb b 128 ≡ false = grind (arith, nat_tests) in
    let two : leb bits 7 ≡ false = grind (arith, nat_tests) in
    rw (zero, one, two, short_signed (bits - 7) bs (more_by_seven bits (length bs) lt h.0, h.1.1)) refl

-- ---- the answer Short

pub is_short : {A : Type 0} (old new : Spot) (r : Result A Leb) (read : Result (A × List ℕ) Leb) → ReadsNumber old new r read → r ≡ Err Short → read ≡ Err Short
is_short old new (Ok x) read h e = absurd cc
is_short old new (Err d) read h e = let f = h.0 in cc

pub was_short : {A : Type 0} (old new : Spot) (r : Result A Leb) (read : Result (A × List ℕ) Leb) → ReadsNumber old new r read → read ≡ Err Short → r ≡ Err Short
was_short old new (Ok x) read h e = absurd (let f = h.0 in cc)
was_short old new (Err d) read h e = let f = h.0 in cc
