-- A number that is read is spelled so, and one that is spelled so is read.
use Rattle.std.proofs.Common.{◌≡◌, ℕ, ◌+◌, ◌*◌, ◌-◌, ◌^◌, ◌<◌, ◌≤◌, true, false, ltb, leb, inl, inr, List, [], ◌∷◌, ◌++◌, Result, Ok, Err, refl, sym, ap, ◌∙◌, arith, ℤ, pos, ◌+ℤ◌, ◌-ℤ◌, ◌*ℤ◌}
use Rattle.std.proofs.lemmas.Bool.Decides.{nat_tests}
use Rattle.ms_bytes.specs.ResultLaws.{chosen}
use Rattle.ms_leb.specs.declared.leb.Leb.{Leb}
use Rattle.ms_leb.specs.Leb128.{IsUnsigned, IsSigned, UnsignedAt, SignedAt, unsigned_at, signed_at, with_low, with_low_z}

-- two answers that are equal, part by part
pub same_pair : {A E : Type 0} (x y : A × List ℕ) → ◌≡◌ {A = Result (A × List ℕ) E} (Ok x) (Ok y) → (x.0 ≡ y.0) × (x.1 ≡ y.1)
same_pair x y e = let p : x ≡ y = cc in (ap (λ q. q.0) p, ap (λ q. q.1) p)

low_takes : (l : ℕ) (r : Result (ℕ × List ℕ) Leb) (n : ℕ) (t : List ℕ) → with_low l r ≡ Ok (n, t) → (high : ℕ) × (r ≡ Ok (high, t)) × (n ≡ high * 128 + l)
low_takes l (Ok x) n t e = let p = same_pair (x.0 * 128 + l, x.1) (n, t) e in (x.0, ap (λ (u : List ℕ). Ok (x.0, u)) p.1, sym p.0)
low_takes l (Err d) n t e = absurd cc

low_takes_z : (l : ℕ) (r : Result (ℤ × List ℕ) Leb) (n : ℤ) (t : List ℕ) → with_low_z l r ≡ Ok (n, t) → (high : ℤ) × (r ≡ Ok (high, t)) × (n ≡ high *ℤ pos 128 +ℤ pos l)
low_takes_z l (Ok x) n t e = let p = same_pair (x.0 *ℤ pos 128 +ℤ pos l, x.1) (n, t) e in (x.0, ap (λ (u : List ℕ). Ok (x.0, u)) p.1, sym p.0)
low_takes_z l (Err d) n t e = absurd cc

-- ---- unsigned

pub more_unsigned : (bits b : ℕ) (front : List ℕ) (high n : ℕ) → 128 ≤ b → 7 < bits → IsUnsigned (bits - 7) front high → n ≡ high * 128 + (b - 128) → IsUnsigned bits (b ∷ front) n
more_unsigned bits b [] high n le lt h e = absurd h
more_unsigned bits b (c ∷ front) high n le lt h e = (le, lt, (high, h, e))

pub unsigned_takes : (bits : ℕ) (bytes : List ℕ) (n : ℕ) (rest : List ℕ) → unsigned_at bits bytes ≡ Ok (n, rest) → UnsignedAt bits bytes n rest
unsigned_takes bits [] n rest e = absurd cc
unsigned_takes bits (b ∷ bs) n rest e =
    elim (chosen (ltb b 128) _ _ _ e) [
      | inl last ↦ elim (chosen (ltb b (2 ^ bits)) _ _ _ last.1) [
        | inl h ↦
            let p = same_pair (b, bs) (n, rest) h.1 in
            (b ∷ [], (grind (arith, nat_tests), grind (arith, nat_tests), sym p.0), ap (λ (x : List ℕ). b ∷ x) p.1)
        | inr h ↦ absurd cc
      ]
      | inr more ↦ elim (chosen (leb bits 7) _ _ _ more.1) [
        | inl h ↦ absurd cc
        | inr h ↦
            let w = low_takes (b - 128) (unsigned_at (bits - 7) bs) n rest h.1 in
            let i = unsigned_takes (bits - 7) bs w.0 rest w.1 in
            (b ∷ i.0, more_unsigned bits b i.0 w.0 n (grind (arith, nat_tests)) (grind (arith, nat_tests)) i.1 w.2, ap (λ (x : List ℕ). b ∷ x) i.2)
      ]
    ]

u_last : (bits b : ℕ) (rest : List ℕ) → b < 128 → b < 2 ^ bits → unsigned_at bits (b ∷ rest) ≡ Ok (b, rest)
u_last bits b rest lt within =
    let one : ltb b 128 ≡ true = grind (arith, nat_tests) in
    let two : ltb b (2 ^ bits) ≡ true = grind (arith, nat_tests) in
    rw (one, two) refl

u_more : (bits b high : ℕ) (bs rest : List ℕ) → 128 ≤ b → 7 < bits → unsigned_at (bits - 7) bs ≡ Ok (high, rest) → unsigned_at bits (b ∷ bs) ≡ Ok (high * 128 + (b - 128), rest)
u_more bits b high bs rest le lt e =
    let one : ltb b 128 ≡ false = grind (arith, nat_tests) in
    let two : leb bits 7 ≡ false = grind (arith, nat_tests) in
    rw (one, two, e) refl

pub unsigned_again : (bits : ℕ) (front : List ℕ) (n : ℕ) (rest : List ℕ) → IsUnsigned bits front n → unsigned_at bits (front ++ rest) ≡ Ok (n, rest)
unsigned_again bits [] n rest h = absurd h
unsigned_again bits (b ∷ []) n rest h = u_last bits b rest h.0 h.1 ∙ ap (λ (k : ℕ). Ok (k, rest)) (sym h.2)
unsigned_again bits (b ∷ c ∷ front) n rest h =
    u_more bits b h.2.0 ((c ∷ front) ++ rest) rest h.0 h.1 (unsigned_again (bits - 7) (c ∷ front) h.2.0 rest h.2.1) ∙ ap (λ (k : ℕ). Ok (k, rest)) (sym h.2.2)

-- ---- signed

pub more_signed : (bits b : ℕ) (front : List ℕ) (high n : ℤ) → 128 ≤ b → 7 < bits → IsSigned (bits - 7) front high → n ≡ high *ℤ pos 128 +ℤ pos (b - 128) → IsSigned bits (b ∷ front) n
more_signed bits b [] high n le lt h e = absurd h
more_signed bits b (c ∷ front) high n le lt h e = (le, lt, (high, h, e))

pub signed_takes : (bits : ℕ) (bytes : List ℕ) (n : ℤ) (rest : List ℕ) → signed_at bits bytes ≡ Ok (n, rest) → SignedAt bits bytes n rest
signed_takes bits [] n rest e = absurd cc
signed_takes bits (b ∷ bs) n rest e =
    elim (chosen (ltb b 64) _ _ _ e) [
      | inl last ↦ elim (chosen (ltb b (2 ^ (bits - 1))) _ _ _ last.1) [
        | inl h ↦
            let p = same_pair (pos b, bs) (n, rest) h.1 in
            (b ∷ [], inl (grind (arith, nat_tests), grind (arith, nat_tests), sym p.0), ap (λ (x : List ℕ). b ∷ x) p.1)
        | inr h ↦ absurd cc
      ]
      | inr big ↦ elim (chosen (ltb b 128) _ _ _ big.1) [
        | inl last ↦ elim (chosen (leb 128 (b + 2 ^ (bits - 1))) _ _ _ last.1) [
          | inl h ↦
              let p = same_pair (pos b -ℤ pos 128, bs) (n, rest) h.1 in
              (b ∷ [], inr (grind (arith, nat_tests), grind (arith, nat_tests), grind (arith, nat_tests), sym p.0), ap (λ (x : List ℕ). b ∷ x) p.1)
          | inr h ↦ absurd cc
        ]
        | inr more ↦ elim (chosen (leb bits 7) _ _ _ more.1) [
          | inl h ↦ absurd cc
          | inr h ↦
              let w = low_takes_z (b - 128) (signed_at (bits - 7) bs) n rest h.1 in
              let i = signed_takes (bits - 7) bs w.0 rest w.1 in
              (b ∷ i.0, more_signed bits b i.0 w.0 n (grind (arith, nat_tests)) (grind (arith, nat_tests)) i.1 w.2, ap (λ (x : List ℕ). b ∷ x) i.2)
        ]
      ]
    ]

s_last : (bits b : ℕ) (n : ℤ) (rest : List ℕ) → IsSigned bits (b ∷ []) n → signed_at bits (b ∷ rest) ≡ Ok (n, rest)
s_last bits b n rest (inl h) =
    let one : ltb b 64 ≡ true = grind (arith, nat_tests) in
    let two : ltb b (2 ^ (bits - 1)) ≡ true = grind (arith, nat_tests) in
    rw (one, two, h.2) refl
s_last bits b n rest (inr h) =
    let one : ltb b 64 ≡ false = grind (arith, nat_tests) in
    let two : ltb b 128 ≡ true = grind (arith, nat_tests) in
    let three : leb 128 (b + 2 ^ (bits - 1)) ≡ true = grind (arith, nat_tests) in
    let e : signed_at bits (b ∷ rest) ≡ Ok (pos b -ℤ pos 128, rest) = rw (one, two, three) refl in
    e ∙ ap (λ (k : ℤ). Ok (k, rest)) (sym h.3)

s_more : (bits b : ℕ) (high : ℤ) (bs rest : List ℕ) → 128 ≤ b → 7 < bits → signed_at (bits - 7) bs ≡ Ok (high, rest) → signed_at bits (b ∷ bs) ≡ Ok (high *ℤ pos 128 +ℤ pos (b - 128), rest)
s_more bits b high bs rest le lt e =
    let one : ltb b 64 ≡ false = grind (arith, nat_tests) in
    let two : ltb b 128 ≡ false = grind (arith, nat_tests) in
    let three : leb bits 7 ≡ false = grind (arith, nat_tests) in
    rw (one, two, three, e) refl

pub signed_again : (bits : ℕ) (front : List ℕ) (n : ℤ) (rest : List ℕ) → IsSigned bits front n → signed_at bits (front ++ rest) ≡ Ok (n, rest)
signed_again bits [] n rest h = absurd h
signed_again bits (b ∷ []) n rest h = s_last bits b n rest h
signed_again bits (b ∷ c ∷ front) n rest h =
    s_more bits b h.2.0 ((c ∷ front) ++ rest) rest h.0 h.1 (signed_again (bits - 7) (c ∷ front) h.2.0 rest h.2.1) ∙ ap (λ (k : ℤ). Ok (k, rest)) (sym h.2.2)
