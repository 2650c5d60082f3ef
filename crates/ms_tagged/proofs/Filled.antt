-- Bytes behind which data bytes 0 stand.
use Rattle.std.proofs.Common.{◌≡◌, ℕ, Vec, zero, suc, ◌+◌, ◌-◌, ◌<◌, ◌≤◌, inl, inr, List, [], ◌∷◌, ◌++◌, length, get_or, take, drop, replicate, Some, refl, ap, sym, ◌∙◌, append-nil, append_assoc, length-append, length-drop, arith, lit<}
use Rattle.std.proofs.lemmas.List.{drop-append-le, drop-replicate, drop_all, get_or-append-add, get_or-replicate, length-replicate, replicate-append-replicate, length-map, map-append, take-append-le, take-replicate, take_all, length-take-le}
use Rattle.std.proofs.Math.Seq.{drop-append-add, take-append-add}
use Rattle.std.proofs.lemmas.Bool.{cases_lt}
use Rattle.ms_tagged.specs.Bytes.{Byte, Data, IsHandleAt, Piece, number_at, number_with, overwritten, range}
use Rattle.ms_handle.specs.declared.handle.Handle.TheVariants.{Broken}
use Rattle.ms_tagged.specs.refinement.Tags.{byte_of, bytes_of, filled}
use Rattle.ms_tagged.specs.declared.tag.Tag.{Tag}
use Rattle.ms_tagged.specs.declared.tag.Tag.TheVariants as tagged
use Rattle.ms_tagged.proofs.Handles.{torn-with_data}
use Rattle.ms_tagged.proofs.Ranges.{length-overwritten}
use Rattle.ms_tagged.proofs.Tags.{bytes_of-range, bytes_of-replicate, bytes_of-written, length-held}
use Rattle.std.specs.Vec.{with_items}

pub filled-full : (n : ℕ) (bytes : List Byte) → length bytes ≡ n → filled n bytes ≡ bytes
filled-full n bytes is =
    let none : n - length bytes ≡ 0 = omega arith in
    ap (λ m. bytes ++ replicate m (Data 0)) none ∙ append-nil bytes

-- some of the zeros are written out
pub filled-reached : (n k : ℕ) (bytes : List Byte) → length bytes + k ≤ n → filled n (bytes ++ replicate k (Data 0)) ≡ filled n bytes
filled-reached n k bytes fits =
    let long : length (bytes ++ replicate k (Data 0)) ≡ length bytes + k = length-append bytes (replicate k (Data 0)) ∙ ap (λ m. length bytes + m) (length-replicate k (Data 0)) in
    let sum : k + (n - (length bytes + k)) ≡ n - length bytes = omega arith in
    ap (λ m. bytes ++ replicate k (Data 0) ++ replicate (n - m) (Data 0)) long
    ∙ (append_assoc bytes (replicate k (Data 0)) (replicate (n - (length bytes + k)) (Data 0)) ∙ ap (λ rest. bytes ++ rest) (replicate-append-replicate k (n - (length bytes + k)) (Data 0) ∙ ap (λ m. replicate m (Data 0)) sum))

-- ---- a range of them

-- so many of bytes and zeros behind them
take-filled : (width z : ℕ) (bytes : List Byte) → width ≤ length bytes + z → take width (bytes ++ replicate z (Data 0)) ≡ filled width (take width bytes)
take-filled width z bytes within =
    elim (cases_lt (length bytes) width) [
      | inl past ↦
          let sum : length bytes + (width - length bytes) ≡ width = omega arith in
          let whole : take width bytes ≡ bytes = take_all width bytes (omega arith) in
          ap (λ m. take m (bytes ++ replicate z (Data 0))) (sym sum)
          ∙ (take-append-add bytes (replicate z (Data 0)) (width - length bytes) ∙ (ap (λ rest. bytes ++ rest) (take-replicate (width - length bytes) z (Data 0) (omega arith)) ∙ ap (filled width) (sym whole)))
      | inr inside ↦ take-append-le width bytes (replicate z (Data 0)) inside ∙ sym (filled-full width (take width bytes) (length-take-le width bytes inside))
    ]

pub range-filled : (n address width : ℕ) (bytes : List Byte) → length bytes ≤ n → address + width ≤ n → range address width (filled n bytes) ≡ filled width (range address width bytes)
range-filled n address width bytes fits within =
    let z = n - length bytes in
    elim (cases_lt (length bytes) address) [
      | inl past ↦
          let more = address - length bytes in
          let sum : length bytes + more ≡ address = omega arith in
          let none : drop address bytes ≡ [] = drop_all address bytes (omega arith) in
          let rest : drop address (filled n bytes) ≡ replicate (z - more) (Data 0) = ap (λ m. drop m (filled n bytes)) (sym sum) ∙ (drop-append-add bytes (replicate z (Data 0)) more ∙ drop-replicate more z (Data 0)) in
          let all : width ≡ width - 0 = omega arith in
          ap (take width) rest ∙ (take-replicate width (z - more) (Data 0) (omega arith) ∙ (ap (λ m. replicate m (Data 0)) all ∙ ap (filled width) (sym (ap (take width) none ∙ take_all {A = Byte} width [] (omega arith)))))
      | inr inside ↦
          let here : width ≤ length (drop address bytes) + z = rw (length-drop address bytes) (omega arith) in
          ap (take width) (drop-append-le address bytes (replicate z (Data 0)) inside) ∙ take-filled width z (drop address bytes) here
    ]

-- ---- a write into them

pub overwritten-filled : (n address : ℕ) (new bytes : List Byte) → address + length new ≤ length bytes → filled n (overwritten address new bytes) ≡ overwritten address new (filled n bytes)
overwritten-filled n address new bytes within =
    let back = replicate (n - length bytes) (Data 0) in
    let front : address ≤ length bytes = omega arith in
    ap (λ m. overwritten address new bytes ++ replicate (n - m) (Data 0)) (length-overwritten address new bytes within)
    ∙ (append_assoc (take address bytes ++ new) (drop (address + length new) bytes) back
    ∙ (ap (λ rest. take address bytes ++ new ++ rest) (sym (drop-append-le (address + length new) bytes back within))
    ∙ ap (λ before. before ++ new ++ drop (address + length new) (bytes ++ back)) (sym (take-append-le address bytes back front))))

-- ---- what they are

number_at-replicate : (k : ℕ) → number_at (replicate k (Data 0)) ≡ Some 0
number_at-replicate zero = refl
number_at-replicate (suc k) = ap (number_with 0) (number_at-replicate k)

number_at-more : (k : ℕ) (bytes : List Byte) → number_at (bytes ++ replicate k (Data 0)) ≡ number_at bytes
number_at-more k [] = number_at-replicate k
number_at-more k (Data byte ∷ bytes) = ap (number_with byte) (number_at-more k bytes)
number_at-more k (Piece handle i ∷ bytes) = refl

pub number_at-filled : (n : ℕ) (bytes : List Byte) → number_at (filled n bytes) ≡ number_at bytes
number_at-filled n bytes = number_at-more (n - length bytes) bytes

pub filled-zeros : (n : ℕ) (bytes : List Byte) → length bytes ≤ n → bytes ≡ replicate (length bytes) (Data 0) → filled n bytes ≡ replicate n (Data 0)
filled-zeros n bytes fits are =
    let sum : length bytes + (n - length bytes) ≡ n = omega arith in
    ap (λ front. front ++ replicate (n - length bytes) (Data 0)) are ∙ (replicate-append-replicate (length bytes) (n - length bytes) (Data 0) ∙ ap (λ m. replicate m (Data 0)) sum)

-- where all are zeros, so are those that stand in front
pub zeros-filled : (n : ℕ) (bytes : List Byte) → length bytes ≤ n → filled n bytes ≡ replicate n (Data 0) → bytes ≡ replicate (length bytes) (Data 0)
zeros-filled n bytes fits are =
    sym (take_all (length bytes) bytes (omega arith)) ∙ (sym (take-append-le (length bytes) bytes (replicate (n - length bytes) (Data 0)) (omega arith)) ∙ (ap (take (length bytes)) are ∙ take-replicate (length bytes) n (Data 0) fits))

-- the last byte, where not all stand in front
last-filled : (bytes : List Byte) → length bytes < 16 → get_or (filled 16 bytes) 15 (Data 0) ≡ Data 0
last-filled bytes short =
    let sum : length bytes + (15 - length bytes) ≡ 15 = omega arith in
    ap (λ m. get_or (filled 16 bytes) m (Data 0)) (sym sum) ∙ (get_or-append-add bytes (replicate (16 - length bytes) (Data 0)) (15 - length bytes) (Data 0) ∙ get_or-replicate (16 - length bytes) (15 - length bytes) (Data 0) (Data 0) (omega arith))

pub torn-filled : (bytes : List Byte) → length bytes < 16 → (bytes ≡ replicate (length bytes) (Data 0) → ⊥) → IsHandleAt (filled 16 bytes) Broken
torn-filled bytes short not_zeros =
    torn-with_data (filled 16 bytes) 15 0 (lit< tt) (last-filled bytes short) (λ are. not_zeros (zeros-filled 16 bytes (omega arith) are))

-- ---- the tags that are there

pub length-filled : (n : ℕ) (bytes : List Byte) → length bytes ≤ n → length (filled n bytes) ≡ n
length-filled n bytes fits = rw (length-append bytes (replicate (n - length bytes) (Data 0)), length-replicate (n - length bytes) (Data 0)) (omega arith)

-- a range of all bytes, by the tags of it that are there
pub range-part : (now part items : List Tag) (old : List Byte) (n address width : ℕ) → part ≡ take width (drop address now) → now ≡ items → length now ≤ n → filled n (bytes_of items) ≡ old → address + width ≤ length old → range address width old ≡ filled width (bytes_of part)
range-part now part items old n address width is same fits seen within =
    let fits-items : length (bytes_of items) ≤ n = omega (arith, fits, length-map items byte_of, ap length same) in
    let room : address + width ≤ n = omega (arith, within, ap length seen, length-filled n (bytes_of items) fits-items) in
    let here : bytes_of part ≡ range address width (bytes_of items) = ap bytes_of is ∙ bytes_of-range now (bytes_of items) address width width refl (ap bytes_of same) in
    ap (range address width) (sym seen) ∙ (range-filled n address width (bytes_of items) fits-items room ∙ ap (filled width) (sym here))

-- more tags are there, all of zeros
pub reached-same : (items more : List Tag) (old : List Byte) (n k : ℕ) → more ≡ items ++ replicate k (tagged.Data 0) → length items + k ≤ n → filled n (bytes_of items) ≡ old → filled n (bytes_of more) ≡ old
reached-same items more old n k is fits seen =
    let long : length (bytes_of items) + k ≤ n = omega (arith, fits, length-map items byte_of) in
    ap (λ ts. filled n (bytes_of ts)) is
    ∙ (ap (filled n) (map-append byte_of items (replicate k (tagged.Data 0)) ∙ ap (λ rest. bytes_of items ++ rest) (bytes_of-replicate k (tagged.Data 0))) ∙ (filled-reached n k (bytes_of items) long ∙ seen))

pub length-reached : (items more : List Tag) (end : ℕ) → more ≡ items ++ replicate (end - length items) (tagged.Data 0) → end ≤ length more
length-reached items more end is =
    omega (arith, ap length is, length-append items (replicate (end - length items) (tagged.Data 0)), length-replicate (end - length items) (tagged.Data 0))

-- how long the part of them is, at a size as the code computes it
pub held-part : (now more items : List Tag) (address size : ℕ) → now ≡ more → more ≡ items ++ replicate (address + size - length items) (tagged.Data 0) → length (take (address + size - address) (drop address now)) ≡ size
held-part now more items address size value reached =
    let within : address + size ≤ length (bytes_of more) = omega (arith, length-reached items more (address + size) reached, length-map more byte_of) in
    length-held now more (bytes_of more) address size value refl within

-- a write into the tags, up to whose end they were made to be there
pub written-filled : {Z : Type 0} (vec : Vec Tag Z) (now part items : List Tag) (written old : List Byte) (n address size k : ℕ)
    → now ≡ vec.items → length now ≡ vec.len → vec.items ≡ items ++ replicate (address + size - length items) (tagged.Data 0) → length items ≤ n → filled n (bytes_of items) ≡ old → address + size ≤ length old
    → k ≡ size → length part ≡ length (take k (drop address now)) → bytes_of part ≡ written → length written ≡ size
    → filled n (bytes_of (with_items vec (take address now ++ (part ++ drop k (drop address now)))).items) ≡ overwritten address written old
written-filled vec now part items written old n address size k value len reached fits seen within is long part_is written_long =
    let fits-bytes : length (bytes_of items) ≤ n = omega (arith, fits, length-map items byte_of) in
    let room : address + size ≤ n = omega (arith, within, ap length seen, length-filled n (bytes_of items) fits-bytes) in
    let there : address + size ≤ length (bytes_of vec.items) = omega (arith, length-reached items vec.items (address + size) reached, length-map vec.items byte_of) in
    let front : address + k ≤ length (bytes_of vec.items) = omega (arith, there, is) in
    let wide : address + length written ≤ length (bytes_of vec.items) = omega (arith, there, written_long) in
    let more : length items + (address + size - length items) ≤ n = omega (arith, room, fits) in
    ap (filled n) (bytes_of-written vec now part written (bytes_of vec.items) address k value len refl long part_is front)
    ∙ (overwritten-filled n address written (bytes_of vec.items) wide ∙ ap (overwritten address written) (reached-same items vec.items old n (address + size - length items) reached more seen))
