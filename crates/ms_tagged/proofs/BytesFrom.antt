-- Bytes by a function of the place.
use Rattle.std.proofs.Common.{◌≡◌, ℕ, ◌+◌, ◌-◌, ◌<◌, ◌≤◌, zero, suc, List, ◌∷◌, ◌++◌, get_or, length, take, drop, refl, ap, sym, ◌∙◌, zero-add, add-zero, arith}
use Rattle.std.proofs.lemmas.List.{drop_at, take_at}
use Rattle.ms_tagged.specs.Bytes.{Byte, overwritten, range}
use Rattle.ms_tagged.specs.refinement.Granules.{bytes_from}

pub length-bytes_from : (byte : ℕ → Byte) (i n : ℕ) → length (bytes_from byte i n) ≡ n
length-bytes_from byte i zero = refl
length-bytes_from byte i (suc n) = ap suc (length-bytes_from byte (suc i) n)

-- the same bytes at other places
pub bytes_from-same : (byte other : ℕ → Byte) (i j n : ℕ) → ((k : ℕ) → k < n → byte (i + k) ≡ other (j + k)) → bytes_from byte i n ≡ bytes_from other j n
bytes_from-same byte other i j zero same = refl
bytes_from-same byte other i j (suc n) same =
    let first : byte i ≡ other j = rw (← add-zero i, ← add-zero j) (same 0 (omega arith)) in
    let rest : bytes_from byte (suc i) n ≡ bytes_from other (suc j) n =
    bytes_from-same byte other (suc i) (suc j) n (λ k below.
    let a : suc i + k ≡ i + suc k = omega arith in
    let b : suc j + k ≡ j + suc k = omega arith in
    ap byte a ∙ (same (suc k) (omega arith) ∙ ap other (sym b))) in
    ap (λ b. b ∷ bytes_from byte (suc i) n) first ∙ ap (λ l. other j ∷ l) rest

pub bytes_from-append : (byte : ℕ → Byte) (i m n : ℕ) → bytes_from byte i (m + n) ≡ bytes_from byte i m ++ bytes_from byte (i + m) n
bytes_from-append byte i zero n = rw (zero-add n, add-zero i) refl
bytes_from-append byte i (suc m) n =
    let sum : suc m + n ≡ suc (m + n) = omega arith in
    let place : suc i + m ≡ i + suc m = omega arith in
    ap (bytes_from byte i) sum ∙ ap (λ l. byte i ∷ l) (bytes_from-append byte (suc i) m n ∙ ap (λ j. bytes_from byte (suc i) m ++ bytes_from byte j n) place)

pub get_or-bytes_from : (byte : ℕ → Byte) (i n k : ℕ) (d : Byte) → k < n → get_or (bytes_from byte i n) k d ≡ byte (i + k)
get_or-bytes_from byte i zero k d within = absurd (omega arith)
get_or-bytes_from byte i (suc n) zero d within = ap byte (sym (add-zero i))
get_or-bytes_from byte i (suc n) (suc k) d within =
    get_or-bytes_from byte (suc i) n k d (omega arith) ∙ ap byte (let e : suc i + k ≡ i + suc k = omega arith in e)

drop-bytes_from : (byte : ℕ → Byte) (n at : ℕ) → at ≤ n → drop at (bytes_from byte 0 n) ≡ bytes_from byte at (n - at)
drop-bytes_from byte n at within =
    let sum : n ≡ at + (n - at) = omega arith in
    ap (λ m. drop at (bytes_from byte 0 m)) sum ∙ (ap (drop at) (bytes_from-append byte 0 at (n - at)) ∙ (drop_at (bytes_from byte 0 at) (bytes_from byte (0 + at) (n - at)) at (length-bytes_from byte 0 at) ∙ ap (λ j. bytes_from byte j (n - at)) (zero-add at)))

pub range-bytes_from : (byte : ℕ → Byte) (n at width : ℕ) → at + width ≤ n → range at width (bytes_from byte 0 n) ≡ bytes_from byte at width
range-bytes_from byte n at width within =
    let sum : n - at ≡ width + (n - at - width) = omega arith in
    ap (take width) (drop-bytes_from byte n at (omega arith) ∙ (ap (bytes_from byte at) sum ∙ bytes_from-append byte at width (n - at - width)))
    ∙ take_at (bytes_from byte at width) (bytes_from byte (at + width) (n - at - width)) width (length-bytes_from byte at width)

take-bytes_from : (byte : ℕ → Byte) (n at : ℕ) → at ≤ n → take at (bytes_from byte 0 n) ≡ bytes_from byte 0 at
take-bytes_from byte n at within = range-bytes_from byte n 0 at (omega arith)

-- a write at a place
pub bytes_from-overwritten : (byte old : ℕ → Byte) (n at : ℕ) (new : List Byte) → at + length new ≤ n
    → ((i : ℕ) → i < at → byte i ≡ old i) → bytes_from byte at (length new) ≡ new → ((i : ℕ) → at + length new ≤ i → byte i ≡ old i)
    → bytes_from byte 0 n ≡ overwritten at new (bytes_from old 0 n)
bytes_from-overwritten byte old n at new within below here above =
    let w = length new in
    let sum : n ≡ at + w + (n - (at + w)) = omega arith in
    let front : bytes_from byte 0 at ≡ take at (bytes_from old 0 n) =
    bytes_from-same byte old 0 0 at (λ k low. rw (zero-add k) (below k low)) ∙ sym (take-bytes_from old n at (omega arith)) in
    let back : bytes_from byte (at + w) (n - (at + w)) ≡ drop (at + w) (bytes_from old 0 n) =
    bytes_from-same byte old (at + w) (at + w) (n - (at + w)) (λ k low. above (at + w + k) (omega arith)) ∙ sym (drop-bytes_from old n (at + w) within) in
    ap (bytes_from byte 0) sum
    ∙ (bytes_from-append byte 0 (at + w) (n - (at + w))
    ∙ (ap (λ l. l ++ bytes_from byte (0 + (at + w)) (n - (at + w))) (bytes_from-append byte 0 at w)
    ∙ rw (zero-add, zero-add, front, here, back) refl))
