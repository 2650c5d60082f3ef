-- Tags as bytes.
use Rattle.std.proofs.Common.{◌≡◌, ℕ, Bool, true, false, ◌&&◌, eqb, ◌+◌, ◌*◌, ◌-◌, ◌/◌, ◌%◌, ◌<◌, ◌≤◌, zero, suc, Some, None, Vec, List, [], ◌∷◌, ◌++◌, length, get_or, take, drop, replicate, refl, ap, sym, ◌∙◌, append_assoc, zero-add, arith}
use Rattle.std.proofs.lemmas.List.{with_items_is, take-map, map-append, length-map, length-append, length-drop, length-take, drop-drop, take_more_set, map_push, replicate_more, drop-map, drop_more, take_more, get_or-map}
use Rattle.std.proofs.Math.ListN.{set}
use Rattle.std.specs.Vec.{with_items}
use Rattle.std.specs.List.{list_all}
use Rattle.std.proofs.lemmas.Bool.{eqb-true}
use Rattle.ms_handle.specs.declared.handle.Handle.{Handle}
use Rattle.ms_tagged.specs.Bytes.{Byte, Data, Piece, data_of, number_at, range, overwritten}
use Rattle.ms_tagged.specs.refinement.Tags.{byte_of, bytes_of, pieces_from}
use Rattle.ms_tagged.specs.declared.tag.Tag.{Tag}
use Rattle.ms_tagged.specs.declared.tag.Tag.TheVariants as tagged
use Rattle.ms_tagged.proofs.Numbers.{number_at-none}
use Rattle.ms_tagged.proofs.Handles.{pieces_from-next, get_or-pieces_from}

-- the bytes before the next place, once that is written
pub bytes_of-write : (tags : List Tag) (i : ℕ) (tag : Tag) → i < length tags → take (i + 1) (bytes_of (set tags i tag)) ≡ take i (bytes_of tags) ++ byte_of tag ∷ []
bytes_of-write tags i tag within =
    take-map byte_of (i + 1) (set tags i tag) ∙ (ap bytes_of (take_more_set tags i tag within) ∙ (map_push byte_of (take i tags) tag ∙ ap (λ bytes. bytes ++ byte_of tag ∷ []) (sym (take-map byte_of i tags))))

pub bytes_of-replicate : (n : ℕ) (tag : Tag) → bytes_of (replicate n tag) ≡ replicate n (byte_of tag)
bytes_of-replicate zero tag = refl
bytes_of-replicate (suc n) tag = ap (λ bytes. byte_of tag ∷ bytes) (bytes_of-replicate n tag)

-- ---- a loop's step

pub zeros-written : (tags : List Tag) (i : ℕ) → i < length tags → take i (bytes_of tags) ≡ replicate i (Data 0) → take (i + 1) (bytes_of (set tags i (tagged.Data 0))) ≡ replicate (i + 1) (Data 0)
zeros-written tags i within before = rw (bytes_of-write tags i (tagged.Data 0) within, before) (replicate_more i (Data 0))

pub pieces-written : (tags : List Tag) (handle : Handle) (i : ℕ) → i < length tags → take i (bytes_of tags) ≡ pieces_from handle 0 i → take (i + 1) (bytes_of (set tags i (tagged.Piece handle i))) ≡ pieces_from handle 0 (i + 1)
pieces-written tags handle i within before =
    rw (bytes_of-write tags i (tagged.Piece handle i) within, before, pieces_from-next handle i) refl

pub number-written : (tags : List Tag) (i n rest number : ℕ) → i < length tags → i < n → take i (bytes_of tags) ++ data_of (n - i) rest ≡ data_of n number → take (i + 1) (bytes_of (set tags i (tagged.Data (rest % 256)))) ++ data_of (n - (i + 1)) (rest / 256) ≡ data_of n number
number-written tags i n rest number within more before =
    let e : n - i ≡ suc (n - (i + 1)) = omega arith in
    rw (bytes_of-write tags i (tagged.Data (rest % 256)) within, append_assoc) (rw e at before)

-- the bytes from a place on
pub bytes_of-drop : (tags : List Tag) (i : ℕ) (tag : Tag) → i < length tags → get_or tags i (tagged.Data 0) ≡ tag → drop i (bytes_of tags) ≡ byte_of tag ∷ drop (i + 1) (bytes_of tags)
bytes_of-drop tags i tag within is =
    drop-map byte_of i tags ∙ (ap bytes_of (drop_more tags i (tagged.Data 0) within) ∙ (ap (λ t. byte_of t ∷ bytes_of (drop (i + 1) tags)) is ∙ ap (λ rest. byte_of tag ∷ rest) (sym (drop-map byte_of (i + 1) tags))))

-- ---- a part of all tags

pub bytes_of-range : (tags : List Tag) (old : List Byte) (address k size : ℕ) → k ≡ size → bytes_of tags ≡ old → bytes_of (take k (drop address tags)) ≡ range address size old
bytes_of-range tags old address k size same is =
    sym (take-map byte_of k (drop address tags)) ∙ (ap (take k) (sym (drop-map byte_of address tags)) ∙ (ap (λ n. take n (drop address (bytes_of tags))) same ∙ ap (λ bytes. take size (drop address bytes)) is))

pub length-part : (tags : List Tag) (address k : ℕ) → address + k ≤ length tags → length (take k (drop address tags)) ≡ k
length-part tags address k within = rw (length-take k (drop address tags), length-drop address tags) (omega arith)

pub length-part_written : (tags part : List Tag) (address k : ℕ) → address + k ≤ length tags → length part ≡ k → length (take address tags ++ (part ++ drop k (drop address tags))) ≡ length tags
length-part_written tags part address k within long =
    rw (length-append (take address tags) (part ++ drop k (drop address tags)), length-append part (drop k (drop address tags)), length-drop k (drop address tags), length-drop address tags, length-take address tags, long) (omega arith)

pub bytes_of-part_written : (tags part : List Tag) (written old : List Byte) (address k : ℕ) → length part ≡ k → bytes_of tags ≡ old → bytes_of part ≡ written → bytes_of (take address tags ++ (part ++ drop k (drop address tags))) ≡ overwritten address written old
bytes_of-part_written tags part written old address k long before part_is =
    let n : k ≡ length written = sym long ∙ (sym (length-map part byte_of) ∙ ap length part_is) in
    rw (map-append byte_of (take address tags) (part ++ drop k (drop address tags)), map-append byte_of part (drop k (drop address tags)), part_is, drop-drop k address tags, ← drop-map byte_of (address + k) tags, ← take-map byte_of address tags, before, n, append_assoc) refl

pub first_byte : (tags : List Tag) → get_or (bytes_of tags) 0 (Data 0) ≡ byte_of (get_or tags 0 (tagged.Data 0))
first_byte [] = refl
first_byte (tag ∷ tags) = refl

-- the number from one place lower on
pub number-read : (tags : List Tag) (i byte value : ℕ) → 0 < i → i ≤ length tags → get_or tags (i - 1) (tagged.Data 0) ≡ tagged.Data byte → number_at (drop i (bytes_of tags)) ≡ Some value → number_at (drop (i - 1) (bytes_of tags)) ≡ Some (value * 256 + byte)
number-read tags i byte value low within is read =
    let first = bytes_of-drop tags (i - 1) (tagged.Data byte) (omega arith) is in
    let next : i - 1 + 1 ≡ i = omega arith in
    let sum : byte + 256 * value ≡ value * 256 + byte = omega arith in
    rw (first, next, read, sum) refl

-- a piece stands there, so that all is no number
pub no_number-read : (tags : List Tag) (i : ℕ) (handle : Handle) (n : ℕ) → i < length tags → get_or tags i (tagged.Data 0) ≡ tagged.Piece handle n → number_at (bytes_of tags) ≡ None
no_number-read tags i handle n within is =
    number_at-none i (bytes_of tags) (rw (bytes_of-drop tags i (tagged.Piece handle n) within is) refl)

-- how long the part of a vector is, at a size as the code computes it
pub length-held : (now items : List Tag) (old : List Byte) (address size : ℕ) → now ≡ items → bytes_of items ≡ old → address + size ≤ length old → length (take (address + size - address) (drop address now)) ≡ size
length-held now items old address size value before within =
    let same : length now ≡ length old = sym (length-map now byte_of) ∙ ap length (ap bytes_of value ∙ before) in
    let k : address + size - address ≡ size = omega arith in
    rw k (length-part now address size (omega arith))

-- a vector of tags with a part of it written
pub bytes_of-written : {Z : Type 0} (vec : Vec Tag Z) (now part : List Tag) (written old : List Byte) (address k : ℕ) → now ≡ vec.items → length now ≡ vec.len → bytes_of vec.items ≡ old → length part ≡ length (take k (drop address now)) → bytes_of part ≡ written → address + k ≤ length old → bytes_of (with_items vec (take address now ++ (part ++ drop k (drop address now)))).items ≡ overwritten address written old
bytes_of-written vec now part written old address k value len before long part_is within =
    let seen : bytes_of now ≡ old = ap bytes_of value ∙ before in
    let same : length now ≡ length old = sym (length-map now byte_of) ∙ ap length seen in
    let room : address + k ≤ length now = omega arith in
    let size : length part ≡ k = long ∙ length-part now address k room in
    ap bytes_of (with_items_is vec (take address now ++ (part ++ drop k (drop address now))) (length-part_written now part address k room size ∙ len)) ∙ bytes_of-part_written now part written old address k size seen part_is

-- ---- looking for the pieces of a handle

pub pieces-read : (tags : List Tag) (handle : Handle) (i : ℕ) → i < length tags → get_or tags i (tagged.Data 0) ≡ tagged.Piece handle i → take i (bytes_of tags) ≡ pieces_from handle 0 i → take (i + 1) (bytes_of tags) ≡ pieces_from handle 0 (i + 1)
pieces-read tags handle i within is before =
    let long : i < length (bytes_of tags) = simp length-map within in
    let here : get_or (bytes_of tags) i (Data 0) ≡ Piece handle i = get_or-map byte_of tags i (tagged.Data 0) (Data 0) within ∙ ap byte_of is in
    rw (take_more (bytes_of tags) i (Data 0) long, here, before, pieces_from-next handle i) refl

piece_from-byte_of : (tag : Tag) (handle : Handle) (i : ℕ) → byte_of tag ≡ Piece handle i → tag ≡ tagged.Piece handle i
piece_from-byte_of (tagged.Data byte) handle i e = cc
piece_from-byte_of (tagged.Piece other n) handle i e = cc

pub piece-read : (tags : List Tag) (handle : Handle) (i : ℕ) → i < length tags → bytes_of tags ≡ pieces_from handle 0 (length tags) → get_or tags i (tagged.Data 0) ≡ tagged.Piece handle i
piece-read tags handle i within are =
    piece_from-byte_of (get_or tags i (tagged.Data 0)) handle i (sym (get_or-map byte_of tags i (tagged.Data 0) (Data 0) within) ∙ (ap (λ bytes. get_or bytes i (Data 0)) are ∙ (get_or-pieces_from handle 0 (length tags) i within ∙ ap (Piece handle) (zero-add i))))

-- ---- looking for zeros

abbrev pub is_zero : Tag → Bool
is_zero (tagged.Data byte) = eqb byte 0
is_zero (tagged.Piece handle i) = false

both_from_and : (a b : Bool) → (a && b) ≡ true → (a ≡ true) × (b ≡ true)
both_from_and true b h = (refl, h)
both_from_and false b h = cc

pub zeros_from-all : (tags : List Tag) → list_all is_zero tags ≡ true → bytes_of tags ≡ replicate (length tags) (Data 0)
zeros_from-all [] h = refl
zeros_from-all (tagged.Data byte ∷ tags) h =
    let both = both_from_and (eqb byte 0) (list_all is_zero tags) h in
    rw (eqb-true byte 0 both.0, zeros_from-all tags both.1) refl
zeros_from-all (tagged.Piece handle i ∷ tags) h = cc

pub all_from-zeros : (tags : List Tag) → bytes_of tags ≡ replicate (length tags) (Data 0) → list_all is_zero tags ≡ true
all_from-zeros [] h = refl
all_from-zeros (tagged.Data byte ∷ tags) h =
    let zero_first : Data byte ≡ Data 0 = ap (λ bytes. get_or bytes 0 (Data 0)) h in
    let is : byte ≡ 0 = cc in
    let others : bytes_of tags ≡ replicate (length tags) (Data 0) = ap (drop 1) h in
    rw (is, all_from-zeros tags others) refl
all_from-zeros (tagged.Piece handle i ∷ tags) h = cc

-- ---- one tag

pub byte-held : (items : List Tag) (read tag : Tag) (old : List Byte) (address : ℕ) → read ≡ tag → read ≡ get_or items address read → bytes_of items ≡ old → address < length old → range address 1 old ≡ byte_of tag ∷ []
byte-held items read tag old address is held before within =
    let same : length items ≡ length old = sym (length-map items byte_of) ∙ ap length before in
    let room : address < length items = omega arith in
    let here : get_or (bytes_of items) address (Data 0) ≡ byte_of tag = get_or-map byte_of items address read (Data 0) room ∙ ap byte_of (sym held ∙ is) in
    rw (← before, drop_more (bytes_of items) address (Data 0) (simp length-map room), here) refl
