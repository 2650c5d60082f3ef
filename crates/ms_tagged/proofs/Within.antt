-- What is read or written within some of the bytes: a part of them, and one byte of a number.
use Rattle.std.proofs.Common.{◌≡◌, ℕ, suc, zero, ◌+◌, ◌*◌, ◌/◌, ◌%◌, ◌^◌, ◌<◌, ◌≤◌, List, [], ◌∷◌, ◌++◌, length, take, drop, lit<, refl, sym, ap, ◌∙◌, append_assoc, arith, zero-add}
use Rattle.std.proofs.Math.Arith.{mod-mul}
use Rattle.std.proofs.Math.Nat.{one-le-pow, pow-suc}
use Rattle.std.proofs.lemmas.List.{take-append-drop, take-take}
use Rattle.ms_tagged.specs.Bytes.{Byte, Data, data_of, overwritten, range}

-- ---- a part of some bytes

pub overwritten-cons : (a : ℕ) (new : List Byte) (x : Byte) (xs : List Byte) → overwritten (suc a) new (x ∷ xs) ≡ x ∷ overwritten a new xs
overwritten-cons a new x xs = let e : suc a + length new ≡ suc (a + length new) = omega arith in rw e refl

drop-split : (l w : ℕ) (xs : List Byte) → l ≤ w → drop l xs ≡ drop l (take w xs) ++ drop w xs
drop-split zero w xs less = sym (take-append-drop w xs)
drop-split (suc l) zero xs less = absurd (omega arith)
drop-split (suc l) (suc w) [] less = refl
drop-split (suc l) (suc w) (x ∷ xs) less = drop-split l w xs (omega arith)

overwritten-front : (k w : ℕ) (new old : List Byte) → k + length new ≤ w → w ≤ length old → overwritten k new old ≡ overwritten k new (take w old) ++ drop w old
overwritten-front zero w new old within long =
    rw zero-add (ap (λ xs. new ++ xs) (drop-split (length new) w old (omega (arith, within))) ∙ sym (append_assoc new (drop (length new) (take w old)) (drop w old)))
overwritten-front (suc k) zero new old within long = absurd (omega arith)
overwritten-front (suc k) (suc w) new [] within long = absurd (omega arith)
overwritten-front (suc k) (suc w) new (x ∷ xs) within long =
    overwritten-cons k new x xs ∙ (ap (λ ys. x ∷ ys) (overwritten-front k w new xs (omega arith) (omega arith)) ∙ ap (λ ys. ys ++ drop w xs) (sym (overwritten-cons k new x (take w xs))))

-- a write within some bytes is a write of them all
pub overwritten-within : (a k w : ℕ) (new old : List Byte) → k + length new ≤ w → a + w ≤ length old → length (overwritten k new (range a w old)) ≡ w → overwritten (a + k) new old ≡ overwritten a (overwritten k new (range a w old)) old
overwritten-within zero k w new old within long same =
    rw (zero-add, zero-add) (overwritten-front k w new old within (omega arith) ∙ ap (λ n. overwritten k new (take w old) ++ drop n old) (sym same))
overwritten-within (suc a) k w new [] within long same = absurd (omega arith)
overwritten-within (suc a) k w new (x ∷ xs) within long same =
    let e : suc a + k ≡ suc (a + k) = omega arith in
    ap (λ n. overwritten n new (x ∷ xs)) e ∙ (overwritten-cons (a + k) new x xs ∙ (ap (λ ys. x ∷ ys) (overwritten-within a k w new xs within (omega arith) same) ∙ sym (overwritten-cons a (overwritten k new (range a w xs)) x xs)))

range-front : (k l w : ℕ) (old : List Byte) → k + l ≤ w → range k l old ≡ range k l (take w old)
range-front zero l w old within = sym (take-take l w old (omega arith))
range-front (suc k) l zero old within = absurd (omega arith)
range-front (suc k) l (suc w) [] within = refl
range-front (suc k) l (suc w) (x ∷ xs) within = range-front k l w xs (omega arith)

-- a range within a range
pub range-within : (a k l w : ℕ) (old : List Byte) → k + l ≤ w → a + w ≤ length old → range (a + k) l old ≡ range k l (range a w old)
range-within zero k l w old within long = rw zero-add (range-front k l w old within)
range-within (suc a) k l w [] within long = absurd (omega arith)
range-within (suc a) k l w (x ∷ xs) within long =
    let e : suc a + k ≡ suc (a + k) = omega arith in
    rw e (range-within a k l w xs within (omega arith))

-- ---- the bytes of a number

same_parts : (a b c d : ℕ) → b < 256 → d < 256 → a * 256 + b ≡ c * 256 + d → (a ≡ c) × (b ≡ d)
same_parts a b c d low low' e = (omega arith, omega arith)

-- they go by its lowest bytes
pub data_of-low : (width n k : ℕ) → n % 256 ^ width ≡ k % 256 ^ width → data_of width n ≡ data_of width k
data_of-low zero n k e = refl
data_of-low (suc width) n k e =
    let above : 0 < 256 ^ width = omega (arith, one-le-pow width 256 (lit< tt)) in
    let power : 256 ^ suc width ≡ 256 ^ width * 256 = pow-suc 256 width in
    let long : n % (256 ^ width * 256) ≡ k % (256 ^ width * 256) = rw power at e in
    let parts = same_parts (n / 256 % 256 ^ width) (n % 256) (k / 256 % 256 ^ width) (k % 256) (omega arith) (omega arith) (sym (mod-mul n above (lit< tt)) ∙ (long ∙ mod-mul k above (lit< tt))) in
    ap (λ b. Data b ∷ data_of width (n / 256)) parts.1 ∙ ap (λ bs. Data (k % 256) ∷ bs) (data_of-low width (n / 256) (k / 256) parts.0)

-- byte `place` of a number, the lowest one first
abbrev pub byte_of_number : (place n : ℕ) → ℕ
byte_of_number zero n = n % 256
byte_of_number (suc place) n = byte_of_number place (n / 256)

-- the number with another byte there
abbrev pub with_byte : (place byte n : ℕ) → ℕ
with_byte zero byte n = byte + 256 * (n / 256)
with_byte (suc place) byte n = n % 256 + 256 * with_byte place byte (n / 256)

-- one byte is read
pub range-data_of : (place width n : ℕ) → place < width → range place 1 (data_of width n) ≡ Data (byte_of_number place n) ∷ []
range-data_of place zero n within = absurd (omega arith)
range-data_of zero (suc width) n within = refl
range-data_of (suc place) (suc width) n within = range-data_of place width (n / 256) (omega arith)

-- one byte is written
pub overwritten-data_of : (place width byte n : ℕ) → place < width → byte < 256 → overwritten place (Data byte ∷ []) (data_of width n) ≡ data_of width (with_byte place byte n)
overwritten-data_of place zero byte n within small = absurd (omega arith)
overwritten-data_of zero (suc width) byte n within small =
    let low : (byte + 256 * (n / 256)) % 256 ≡ byte = omega arith in
    let high : (byte + 256 * (n / 256)) / 256 ≡ n / 256 = omega arith in
    rw (low, high) refl
overwritten-data_of (suc place) (suc width) byte n within small =
    let low : (n % 256 + 256 * with_byte place byte (n / 256)) % 256 ≡ n % 256 = omega arith in
    let high : (n % 256 + 256 * with_byte place byte (n / 256)) / 256 ≡ with_byte place byte (n / 256) = omega arith in
    overwritten-cons place (Data byte ∷ []) (Data (n % 256)) (data_of width (n / 256)) ∙ (ap (λ bs. Data (n % 256) ∷ bs) (overwritten-data_of place width byte (n / 256) (omega arith) small) ∙ rw (low, high) refl)

-- it is of as many bytes
pub with_byte-below : (place width byte n : ℕ) → place < width → byte < 256 → n < 256 ^ width → with_byte place byte n < 256 ^ width
with_byte-below place zero byte n within small below = absurd (omega arith)
with_byte-below zero (suc width) byte n within small below =
    let power : 256 ^ suc width ≡ 256 ^ width * 256 = pow-suc 256 width in
    rw power (let under : n < 256 ^ width * 256 = rw power at below in omega (arith, under, small))
with_byte-below (suc place) (suc width) byte n within small below =
    let power : 256 ^ suc width ≡ 256 ^ width * 256 = pow-suc 256 width in
    let under : n < 256 ^ width * 256 = rw power at below in
    let rest = with_byte-below place width byte (n / 256) (omega arith) small (omega (arith, under)) in
    rw power (omega (arith, rest))
