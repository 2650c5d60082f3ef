-- The bytes that granules say.
use Rattle.std.proofs.Common.{lit<, true, eqb, eq-eqb, ◌≡◌, ℕ, ◌+◌, ◌-◌, ◌*◌, ◌/◌, ◌%◌, ◌<◌, ◌≤◌, inl, inr, zero, suc, Some, None, List, [], ◌∷◌, get_or, length, take, drop, replicate, refl, ap, sym, subst, ◌∙◌, arith}
use Rattle.std.specs.Int.{bit_at}
use Rattle.std.proofs.lemmas.Bool.{cases_lt, eqb-true}
use Rattle.std.proofs.lemmas.List.{take-append-drop, drop-take, get_or-drop, get_or-take, get_or_default, same_lists, drop_more, drop-drop, get_or-replicate, get_or_past, length-drop, length-take, length-take-le}
use Rattle.std.proofs.lemmas.Nat.Bits.{bit_at-lt, bit_at-zero, bit_at_ones, same_from_bits_below}
use Rattle.ms_handle.specs.declared.handle.Handle.{Handle}
use Rattle.ms_handle.specs.declared.handle.Handle.TheVariants.{Broken}
use Rattle.ms_tagged.specs.Bytes.{Byte, Data, Piece, IsHandleAt, IsWidth, whole, torn, number_at, held_at, number_with, range, shown_at, zeros}
use Rattle.ms_tagged.specs.refinement.Granules.{byte_at, byte_by, bytes_from, data_bytes, handle_in, number_of, piece_bit, unset}
use Rattle.ms_tagged.proofs.Handles.{torn-with_data}
use Rattle.ms_tagged.proofs.Numbers.{number_at-none}
use Rattle.ms_tagged.specs.declared.granules.StoredHandle.{StoredHandle}
use Rattle.ms_tagged.proofs.BytesFrom.{length-bytes_from, bytes_from-same, get_or-bytes_from, range-bytes_from}

-- ---- one byte

pub byte_at-same : (plain masks plain' masks' : List ℕ) (handles : List StoredHandle) (i : ℕ) → piece_bit masks i ≡ piece_bit masks' i → get_or plain i 0 ≡ get_or plain' i 0 → byte_at plain masks handles i ≡ byte_at plain' masks' handles i
byte_at-same plain masks plain' masks' handles i bits bytes = rw (bits, bytes) refl

pub byte_at-data : (plain masks : List ℕ) (handles : List StoredHandle) (i : ℕ) → piece_bit masks i ≡ 0 → byte_at plain masks handles i ≡ Data (get_or plain i 0)
byte_at-data plain masks handles i bit = rw bit refl

data-bit : (bit plain : ℕ) (handle : Handle) (i x : ℕ) → byte_by bit plain handle i ≡ Data x → bit ≡ 0
data-bit zero plain handle i x e = refl
data-bit (suc bit) plain handle i x e = cc

piece-bit : (bit plain : ℕ) (handle : Handle) (i : ℕ) (other : Handle) (j : ℕ) → bit < 2 → byte_by bit plain handle i ≡ Piece other j → bit ≡ 1
piece-bit zero plain handle i other j small e = cc
piece-bit (suc bit) plain handle i other j small e = omega arith

-- bytes without pieces
pub bytes_from-data : (plain masks : List ℕ) (handles : List StoredHandle) (i n : ℕ) → i + n ≤ length plain → ((k : ℕ) → i ≤ k → k < i + n → piece_bit masks k ≡ 0) → bytes_from (byte_at plain masks handles) i n ≡ data_bytes (take n (drop i plain))
bytes_from-data plain masks handles i zero within none = refl
bytes_from-data plain masks handles i (suc n) within none =
    let next : i + 1 ≡ suc i = omega arith in
    rw (drop_more plain i 0 (omega arith), next, byte_at-data plain masks handles i (none i (omega arith) (omega arith)))
    (ap (λ l. Data (get_or plain i 0) ∷ l) (bytes_from-data plain masks handles (suc i) n (omega arith) (λ k low high. none k (omega arith) (omega arith))))

-- ---- reading data

pub number_at-data : (bytes : List ℕ) → number_at (data_bytes bytes) ≡ Some (number_of bytes)
number_at-data [] = refl
number_at-data (byte ∷ bytes) = ap (number_with byte) (number_at-data bytes)

-- no byte of them is a piece
pub number-read : (plain masks : List ℕ) (handles : List StoredHandle) (old : List Byte) (n at width : ℕ) → bytes_from (byte_at plain masks handles) 0 n ≡ old → at + width ≤ length old → at + width ≤ length plain → ((i : ℕ) → at ≤ i → i < at + width → piece_bit masks i ≡ 0)
    → number_at (range at width old) ≡ Some (number_of (take width (drop at plain)))
number-read plain masks handles old n at width seen within there none =
    let room : length old ≡ n = ap length (sym seen) ∙ length-bytes_from (byte_at plain masks handles) 0 n in
    ap (λ l. number_at (range at width l)) (sym seen)
    ∙ (ap number_at (range-bytes_from (byte_at plain masks handles) n at width (omega arith) ∙ bytes_from-data plain masks handles at width there none) ∙ number_at-data (take width (drop at plain)))

-- one byte
pub one-read : (plain masks : List ℕ) (handles : List StoredHandle) (old : List Byte) (n at : ℕ) → bytes_from (byte_at plain masks handles) 0 n ≡ old → at < length old → range at 1 old ≡ byte_at plain masks handles at ∷ []
one-read plain masks handles old n at seen within =
    let room : length old ≡ n = ap length (sym seen) ∙ length-bytes_from (byte_at plain masks handles) 0 n in
    ap (range at 1) (sym seen) ∙ range-bytes_from (byte_at plain masks handles) n at 1 (omega arith)

pub shown-read : (plain masks : List ℕ) (handles : List StoredHandle) (old : List Byte) (n at : ℕ) → bytes_from (byte_at plain masks handles) 0 n ≡ old → at < length old → shown_at (range at 1 old) ≡ shown_at (byte_at plain masks handles at ∷ [])
shown-read plain masks handles old n at seen within = ap shown_at (one-read plain masks handles old n at seen within)

pub held-read : (plain masks : List ℕ) (handles : List StoredHandle) (old : List Byte) (n at : ℕ) → bytes_from (byte_at plain masks handles) 0 n ≡ old → at < length old → held_at (range at 1 old) ≡ held_at (byte_at plain masks handles at ∷ [])
held-read plain masks handles old n at seen within = ap held_at (one-read plain masks handles old n at seen within)

-- a byte behind the granules that are there
pub byte_at-past : (plain masks : List ℕ) (handles : List StoredHandle) (i : ℕ) → length plain ≤ i → length plain ≡ 16 * length masks → byte_at plain masks handles i ≡ Data 0
byte_at-past plain masks handles i past each =
    let bit : piece_bit masks i ≡ 0 = ap (λ m. bit_at m (i % 16)) (get_or_past masks (i / 16) 0 (omega arith)) ∙ bit_at-zero (i % 16) in
    byte_at-data plain masks handles i bit ∙ ap Data (get_or_past plain i 0 past)

number_at-zeros : (byte : ℕ → Byte) (i n : ℕ) → ((k : ℕ) → i ≤ k → byte k ≡ Data 0) → number_at (bytes_from byte i n) ≡ Some 0
number_at-zeros byte i zero are = refl
number_at-zeros byte i (suc n) are = rw (are i (omega arith), number_at-zeros byte (suc i) n (λ k low. are k (omega arith))) refl

-- none of the bytes is there
pub number-past : (plain masks : List ℕ) (handles : List StoredHandle) (old : List Byte) (n at width : ℕ) → bytes_from (byte_at plain masks handles) 0 n ≡ old → at + width ≤ length old → length plain ≤ at → length plain ≡ 16 * length masks
    → number_at (range at width old) ≡ Some 0
number-past plain masks handles old n at width seen within past each =
    let room : length old ≡ n = ap length (sym seen) ∙ length-bytes_from (byte_at plain masks handles) 0 n in
    ap (λ l. number_at (range at width l)) (sym seen)
    ∙ (ap number_at (range-bytes_from (byte_at plain masks handles) n at width (omega arith)) ∙ number_at-zeros (byte_at plain masks handles) at width (λ k low. byte_at-past plain masks handles k (omega (arith, past, low)) each))

pub shown-piece : (plain masks : List ℕ) (handles : List StoredHandle) (i : ℕ) → piece_bit masks i ≡ 1 → shown_at (byte_at plain masks handles i ∷ []) ≡ None
shown-piece plain masks handles i bit = rw bit refl

pub shown-data : (plain masks : List ℕ) (handles : List StoredHandle) (i : ℕ) → (piece_bit masks i ≡ 1 → ⊥) → shown_at (byte_at plain masks handles i ∷ []) ≡ Some (get_or plain i 0)
shown-data plain masks handles i other =
    let small : piece_bit masks i < 2 = bit_at-lt (get_or masks (i / 16) 0) (i % 16) in
    let bit : piece_bit masks i ≡ 0 = elim (cases_lt (piece_bit masks i) 1) [ inl low ↦ omega arith | inr high ↦ absurd (other (omega arith)) ] in
    ap (λ b. shown_at (b ∷ [])) (byte_at-data plain masks handles i bit)

pub held-piece : (plain masks : List ℕ) (handles : List StoredHandle) (i : ℕ) → piece_bit masks i ≡ 1 → held_at (byte_at plain masks handles i ∷ []) ≡ Some (handle_in handles (i / 16))
held-piece plain masks handles i bit = rw bit refl

pub held-data : (plain masks : List ℕ) (handles : List StoredHandle) (i : ℕ) → (piece_bit masks i ≡ 1 → ⊥) → held_at (byte_at plain masks handles i ∷ []) ≡ None
held-data plain masks handles i other =
    let small : piece_bit masks i < 2 = bit_at-lt (get_or masks (i / 16) 0) (i % 16) in
    let bit : piece_bit masks i ≡ 0 = elim (cases_lt (piece_bit masks i) 1) [ inl low ↦ omega arith | inr high ↦ absurd (other (omega arith)) ] in
    ap (λ b. held_at (b ∷ [])) (byte_at-data plain masks handles i bit)

-- the bytes of a new memory
pub bytes_from-none : (i n : ℕ) → bytes_from (byte_at [] [] []) i n ≡ replicate n (Data 0)
bytes_from-none i zero = refl
bytes_from-none i (suc n) =
    ap (λ b. b ∷ bytes_from (byte_at [] [] []) (suc i) n) (byte_at-past [] [] [] i (omega arith) refl) ∙ ap (λ l. Data 0 ∷ l) (bytes_from-none (suc i) n)

-- ---- a number, byte by byte

first-shown : (bytes : List Byte) (byte : ℕ) → shown_at (take 1 bytes) ≡ Some byte → bytes ≡ Data byte ∷ drop 1 bytes
first-shown [] byte e = cc
first-shown (Data x ∷ bytes) byte e = let h : x ≡ byte = cc in ap (λ y. Data y ∷ bytes) h
first-shown (Piece handle i ∷ bytes) byte e = cc

first-piece : (bytes : List Byte) (n : ℕ) → 0 < length bytes → shown_at (take 1 bytes) ≡ None → number_at (take (suc n) bytes) ≡ None
first-piece [] n some e = absurd (omega arith)
first-piece (Data x ∷ bytes) n some e = cc
first-piece (Piece handle i ∷ bytes) n some e = refl

pub number-more : (bytes : List Byte) (at n m value byte : ℕ) → m ≡ suc n → shown_at (range at 1 bytes) ≡ Some byte → number_at (range (at + 1) n bytes) ≡ Some value → number_at (range at m bytes) ≡ Some (value * 256 + byte)
number-more bytes at n m value byte is first rest =
    let sum : byte + 256 * value ≡ value * 256 + byte = omega arith in
    rw (is, first-shown (drop at bytes) byte first, drop-drop 1 at bytes, rest, sum) refl

pub number-none : (bytes : List Byte) (from width index : ℕ) → index < width → from + width ≤ length bytes → shown_at (range (from + index) 1 bytes) ≡ None → number_at (range from width bytes) ≡ None
number-none bytes from width index inside within piece =
    let m : width - index ≡ suc (width - index - 1) = omega arith in
    let there : 0 < length (drop (from + index) bytes) = omega (arith, length-drop (from + index) bytes) in
    let sum : index + (width - index) ≡ width = omega arith in
    number_at-none index (range from width bytes)
    (ap (λ w. number_at (drop index (take w (drop from bytes)))) (sym sum) ∙ (ap number_at (drop-take index (width - index) (drop from bytes) ∙ ap (take (width - index)) (drop-drop index from bytes)) ∙ rw m (first-piece (drop (from + index) bytes) (width - index - 1) there piece)))

-- ---- reading a handle

pub whole-read : (plain masks : List ℕ) (handles : List StoredHandle) (granule : ℕ) → get_or masks granule 0 ≡ 65535 → IsHandleAt (bytes_from (byte_at plain masks handles) (16 * granule) 16) (let stored = get_or handles granule unset in stored.handle)
whole-read plain masks handles granule mask =
    let stored = get_or handles granule unset in
    whole (bytes_from-same (byte_at plain masks handles) (Piece stored.handle) (16 * granule) 0 16 (λ k small.
    let g : (16 * granule + k) / 16 ≡ granule = omega arith in
    let j : (16 * granule + k) % 16 ≡ 0 + k = omega arith in
    rw (g, mask, j, bit_at_ones 16 (0 + k) (omega arith)) refl))

pub cleared-read : (plain masks : List ℕ) (handles : List StoredHandle) (granule : ℕ) → get_or masks granule 0 ≡ 0 → ((k : ℕ) → k < 16 → get_or plain (16 * granule + k) 0 ≡ 0) → bytes_from (byte_at plain masks handles) (16 * granule) 16 ≡ zeros
cleared-read plain masks handles granule mask are =
    bytes_from-same (byte_at plain masks handles) (λ _. Data 0) (16 * granule) 0 16 (λ k small.
    let g : (16 * granule + k) / 16 ≡ granule = omega arith in
    let bit : piece_bit masks (16 * granule + k) ≡ 0 = ap (λ j. bit_at (get_or masks j 0) ((16 * granule + k) % 16)) g ∙ (ap (λ m. bit_at m ((16 * granule + k) % 16)) mask ∙ bit_at-zero ((16 * granule + k) % 16)) in
    byte_at-data plain masks handles (16 * granule + k) bit ∙ ap Data (are k small))

bit-there : (plain masks : List ℕ) (handles : List StoredHandle) (granule k : ℕ) → k < 16 → piece_bit masks (16 * granule + k) ≡ bit_at (get_or masks granule 0) k
bit-there plain masks handles granule k small =
    let g : (16 * granule + k) / 16 ≡ granule = omega arith in
    let j : (16 * granule + k) % 16 ≡ k = omega arith in
    rw (g, j) refl

-- some bits are 1 and others 0
pub mixed-read : (plain masks : List ℕ) (handles : List StoredHandle) (granule : ℕ) → get_or masks granule 0 < 65536 → (get_or masks granule 0 ≡ 0 → ⊥) → (get_or masks granule 0 ≡ 65535 → ⊥) → IsHandleAt (bytes_from (byte_at plain masks handles) (16 * granule) 16) Broken
mixed-read plain masks handles granule small some few =
    let bytes = byte_at plain masks handles in
    torn
    (λ handle e. few (same_from_bits_below 16 (get_or masks granule 0) 65535 small (lit< tt) (λ k low.
    let is : bytes (16 * granule + k) ≡ Piece handle (0 + k) = sym (get_or-bytes_from bytes (16 * granule) 16 k (Data 0) low) ∙ (ap (λ l. get_or l k (Data 0)) e ∙ get_or-bytes_from (Piece handle) 0 16 k (Data 0) low) in
    sym (bit-there plain masks handles granule k low) ∙ (piece-bit _ _ _ _ handle (0 + k) (bit_at-lt _ _) is ∙ sym (bit_at_ones 16 k low)))))
    (λ e. some (same_from_bits_below 16 (get_or masks granule 0) 0 small (lit< tt) (λ k low.
    let is : bytes (16 * granule + k) ≡ Data 0 = sym (get_or-bytes_from bytes (16 * granule) 16 k (Data 0) low) ∙ (ap (λ l. get_or l k (Data 0)) e ∙ get_or-replicate 16 k (Data 0) (Data 0) low) in
    sym (bit-there plain masks handles granule k low) ∙ (data-bit _ _ _ _ 0 is ∙ sym (bit_at-zero k)))))

-- data bytes that aren't all 0
pub data-read : (plain masks : List ℕ) (handles : List StoredHandle) (granule : ℕ) → get_or masks granule 0 ≡ 0 → 16 * granule + 16 ≤ length plain → (take 16 (drop (16 * granule) plain) ≡ replicate 16 0 → ⊥) → IsHandleAt (bytes_from (byte_at plain masks handles) (16 * granule) 16) Broken
data-read plain masks handles granule mask there others =
    let bytes = byte_at plain masks handles in
    let is : (k : ℕ) → k < 16 → bytes (16 * granule + k) ≡ Data (get_or plain (16 * granule + k) 0) =
    λ k low. byte_at-data plain masks handles (16 * granule + k) (bit-there plain masks handles granule k low ∙ (ap (λ m. bit_at m k) mask ∙ bit_at-zero k)) in
    let first : get_or (bytes_from bytes (16 * granule) 16) 0 (Data 0) ≡ Data (get_or plain (16 * granule + 0) 0) = get_or-bytes_from bytes (16 * granule) 16 0 (Data 0) (lit< tt) ∙ is 0 (lit< tt) in
    torn-with_data (bytes_from bytes (16 * granule) 16) 0 (get_or plain (16 * granule + 0) 0) (lit< tt) first
    (λ e. others (same_lists (take 16 (drop (16 * granule) plain)) (replicate 16 0) (omega (arith, length-take 16 (drop (16 * granule) plain), length-drop (16 * granule) plain)) (λ k d low.
    let small : k < 16 = omega (arith, length-take 16 (drop (16 * granule) plain)) in
    let zero_there : Data (get_or plain (16 * granule + k) 0) ≡ Data 0 = sym (is k small) ∙ (sym (get_or-bytes_from bytes (16 * granule) 16 k (Data 0) small) ∙ (ap (λ l. get_or l k (Data 0)) e ∙ get_or-replicate 16 k (Data 0) (Data 0) small)) in
    let value : get_or plain (16 * granule + k) 0 ≡ 0 = cc in
    get_or_default (take 16 (drop (16 * granule) plain)) k d 0 low ∙ (get_or-take 16 (drop (16 * granule) plain) k 0 small ∙ (get_or-drop (16 * granule) plain k 0 ∙ (value ∙ sym (get_or-replicate 16 k 0 d small)))))))

-- the sixteen bytes at an address
pub handle-read : (plain masks : List ℕ) (handles : List StoredHandle) (old : List Byte) (n at : ℕ) (handle : Handle) → bytes_from (byte_at plain masks handles) 0 n ≡ old → at % 16 ≡ 0 → at + 16 ≤ length old → IsHandleAt (bytes_from (byte_at plain masks handles) (16 * (at / 16)) 16) handle → IsHandleAt (range at 16 old) handle
handle-read plain masks handles old n at handle seen aligned within is =
    let room : length old ≡ n = ap length (sym seen) ∙ length-bytes_from (byte_at plain masks handles) 0 n in
    let place : 16 * (at / 16) ≡ at = omega arith in
    let P : List Byte → Type 0 = λ bytes. IsHandleAt bytes handle in
    subst P (ap (λ a. bytes_from (byte_at plain masks handles) a 16) place ∙ (sym (range-bytes_from (byte_at plain masks handles) n at 16 (omega arith)) ∙ ap (range at 16) seen)) is

-- ---- widths and zeros

pub width-few : (width : ℕ) → IsWidth width → (0 < width) × (width ≤ 8)
width-few width (inl e) = (omega arith, omega arith)
width-few width (inr (inl e)) = (omega arith, omega arith)
width-few width (inr (inr (inl e))) = (omega arith, omega arith)
width-few width (inr (inr (inr e))) = (omega arith, omega arith)

zeros_from-number : (bytes : List ℕ) → number_of bytes ≡ 0 → bytes ≡ replicate (length bytes) 0
zeros_from-number [] e = refl
zeros_from-number (byte ∷ bytes) e =
    let first : byte ≡ 0 = omega arith in
    let rest : number_of bytes ≡ 0 = omega arith in
    ap (λ b. b ∷ bytes) first ∙ ap (λ l. 0 ∷ l) (zeros_from-number bytes rest)

-- two words are 0 exactly where their bytes are
pub halves-zeros : (bytes low high : List ℕ) (a b : ℕ) → length bytes ≡ 16 → low ≡ take 8 bytes → high ≡ drop 8 bytes → a ≡ number_of low → b ≡ number_of high → a ≡ 0 → (eqb b 0 ≡ true → bytes ≡ replicate 16 0) × (bytes ≡ replicate 16 0 → eqb b 0 ≡ true)
halves-zeros bytes low high a b long front back low_is high_is none = (
  λ also.
      let first = zeros_from-number low (sym low_is ∙ none) in
      let second = zeros_from-number high (sym high_is ∙ eqb-true b 0 also) in
      let m : length low ≡ 8 = ap length front ∙ length-take-le 8 bytes (omega arith) in
      let n : length high ≡ 8 = ap length back ∙ omega (arith, length-drop 8 bytes) in
      sym (take-append-drop 8 bytes) ∙ (rw (← front, ← back, first, second, m, n) refl),
  λ are. eq-eqb b 0 (high_is ∙ ap number_of (back ∙ ap (drop 8) are)),
)

-- a granule's bytes as the code takes them
pub zeros-held : (plain now : List ℕ) (at place : ℕ) → now ≡ plain → place ≡ at → (take (at + 16 - at) (drop at now) ≡ replicate 16 0 → (k : ℕ) → k < 16 → get_or plain (place + k) 0 ≡ 0) × (take 16 (drop place plain) ≡ replicate 16 0 → take (at + 16 - at) (drop at now) ≡ replicate 16 0)
zeros-held plain now at place value same =
    let n : at + 16 - at ≡ 16 = omega arith in
    let part : take (at + 16 - at) (drop at now) ≡ take 16 (drop place plain) = rw (n, value, same) refl in (
      λ are k small. sym (get_or-drop place plain k 0) ∙ (sym (get_or-take 16 (drop place plain) k 0 small) ∙ (ap (λ l. get_or l k 0) (sym part ∙ are) ∙ get_or-replicate 16 k 0 0 small)),
      λ are. part ∙ are,
    )
