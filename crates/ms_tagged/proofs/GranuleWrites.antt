-- What a write leaves of the bytes that granules say.
use Rattle.std.proofs.Common.{◌≡◌, ℕ, Vec, ◌+◌, ◌-◌, ◌*◌, ◌/◌, ◌%◌, ◌<◌, ◌≤◌, zero, suc, List, [], ◌∷◌, ◌++◌, get_or, length, take, drop, replicate, refl, ap, sym, ◌∙◌, arith}
use Rattle.std.proofs.Math.ListN.{set}
use Rattle.std.specs.Vec.{with_items}
use Rattle.std.proofs.lemmas.List.{places, drop-drop, drop_at, get_or-set_same, get_or-set_other, length-map, length-take-le, take_at, with_items_is}
use Rattle.std.proofs.lemmas.Nat.Bits.{bit_at_ones}
use Rattle.ms_handle.specs.declared.handle.Handle.{Handle}
use Rattle.ms_tagged.specs.Bytes.{Byte, Data, Piece, overwritten, pieces}
use Rattle.ms_tagged.specs.refinement.Granules.{Forgets, byte_at, byte_by, bytes_from, data_bytes, piece_bit, unset}
use Rattle.ms_tagged.specs.declared.granules.StoredHandle.{StoredHandle}
use Rattle.ms_tagged.proofs.BytesFrom.{length-bytes_from, bytes_from-same, bytes_from-overwritten}
use Rattle.ms_tagged.proofs.GranuleBytes.{byte_at-same, bytes_from-data}

-- ---- writing data

pub written-above : (plain bytes : List ℕ) (at i : ℕ) → at + length bytes ≤ length plain → at + length bytes ≤ i → get_or (take at plain ++ (bytes ++ drop (at + length bytes) plain)) i 0 ≡ get_or plain i 0
written-above plain bytes at i within above = grind (arith, places)

-- plain bytes were written, and the masks say that they are no pieces
data-overwritten : (plain masks plain' masks' : List ℕ) (handles : List StoredHandle) (old : ℕ → Byte) (n at : ℕ) (bytes : List ℕ)
    → ((i : ℕ) → byte_at plain masks handles i ≡ old i) → Forgets masks masks' at (at + length bytes)
    → plain' ≡ take at plain ++ (bytes ++ drop (at + length bytes) plain) → at + length bytes ≤ length plain → at + length bytes ≤ n
    → bytes_from (byte_at plain' masks' handles) 0 n ≡ overwritten at (data_bytes bytes) (bytes_from old 0 n)
data-overwritten plain masks plain' masks' handles old n at bytes before forgets is there within =
    let w = length bytes in
    let long : length (data_bytes bytes) ≡ w = length-map bytes Data in
    let part : take w (drop at plain') ≡ bytes =
    ap (λ l. take w (drop at l)) is ∙ (ap (take w) (drop_at (take at plain) (bytes ++ drop (at + w) plain) at (length-take-le at plain (omega arith))) ∙ take_at bytes (drop (at + w) plain) w refl) in
    let all : length plain' ≡ length plain = rw is (grind (arith, places)) in
    let here : bytes_from (byte_at plain' masks' handles) at w ≡ data_bytes bytes =
    bytes_from-data plain' masks' handles at w (omega arith) forgets.inside ∙ ap data_bytes part in
    bytes_from-overwritten (byte_at plain' masks' handles) old n at (data_bytes bytes) (omega arith)
    (λ i below. byte_at-same plain' masks' plain masks handles i (forgets.below i below) (rw is (grind (arith, places))) ∙ before i)
    (rw long here)
    (λ i above. byte_at-same plain' masks' plain masks handles i (forgets.above i (omega arith)) (rw is (written-above plain bytes at i (omega arith) (omega arith))) ∙ before i)

-- the same as the code writes it
pub data-written : {Z : Type 0} (plain : Vec ℕ Z) (masks : Vec ℕ Z) (handles : List StoredHandle) (before : ℕ → Byte) (now said forgotten part : List ℕ) (written old : List Byte) (n at size k : ℕ)
    → ((i : ℕ) → byte_at plain.items masks.items handles i ≡ before i)
    → now ≡ plain.items → length now ≡ plain.len → said ≡ masks.items → length forgotten ≡ length said → length said ≡ masks.len
    → Forgets said forgotten at (at + size) → at + size ≤ plain.len → bytes_from before 0 n ≡ old → at + size ≤ length old
    → k ≡ size → length part ≡ length (take k (drop at now)) → data_bytes part ≡ written → length written ≡ size
    → bytes_from (byte_at (with_items plain (take at now ++ (part ++ drop k (drop at now)))).items (with_items masks forgotten).items handles) 0 n ≡ overwritten at written old
data-written plain masks handles before now said forgotten part written old n at size k same value len mask_value mask_long mask_len forgets there seen within is long part_is written_long =
    let room : length old ≡ n = ap length (sym seen) ∙ length-bytes_from before 0 n in
    let w : length part ≡ size = sym (length-map part Data) ∙ (ap length part_is ∙ written_long) in
    let behind : drop k (drop at now) ≡ drop (at + length part) now = drop-drop k at now ∙ ap (λ m. drop (at + m) now) (is ∙ sym w) in
    let all : length (take at now ++ (part ++ drop k (drop at now))) ≡ plain.len = rw behind (grind (arith, places)) in
    let plain_is = with_items_is plain (take at now ++ (part ++ drop k (drop at now))) all in
    let masks_are = with_items_is masks forgotten (mask_long ∙ mask_len) in
    let forgets' : Forgets masks.items forgotten at (at + length part) = rw (← mask_value, w) forgets in
    ap (λ l. bytes_from (byte_at l (with_items masks forgotten).items handles) 0 n) plain_is
    ∙ (ap (λ l. bytes_from (byte_at (take at now ++ (part ++ drop k (drop at now))) l handles) 0 n) masks_are
    ∙ (data-overwritten plain.items masks.items (take at now ++ (part ++ drop k (drop at now))) forgotten handles before n at part same forgets' (rw (behind, value) refl) (omega (arith, ap length value)) (omega arith)
    ∙ (ap (λ l. overwritten at l (bytes_from before 0 n)) part_is ∙ ap (overwritten at written) seen)))

-- how long the part is that is written, at a size as the code computes it
pub length-held : (now : List ℕ) (at size : ℕ) → at + size ≤ length now → length (take (at + size - at) (drop at now)) ≡ size
length-held now at size within = grind (arith, places)

-- ---- writing a handle

get_or-more : {X : Type 0} (xs : List X) (k i : ℕ) (d : X) → get_or (xs ++ replicate k d) i d ≡ get_or xs i d
get_or-more [] zero i d = refl
get_or-more [] (suc k) zero d = refl
get_or-more [] (suc k) (suc i) d = get_or-more [] k i d
get_or-more (x ∷ xs) k zero d = refl
get_or-more (x ∷ xs) k (suc i) d = get_or-more xs k i d

-- granules in which no handle was stored say nothing more
pub byte_at-filled : (plain masks : List ℕ) (handles more : List StoredHandle) (k i : ℕ) → more ≡ handles ++ replicate k unset → byte_at plain masks more i ≡ byte_at plain masks handles i
byte_at-filled plain masks handles more k i is =
    ap (λ (hs : List StoredHandle). byte_at plain masks hs i) is ∙ ap (λ (s : StoredHandle). byte_by (piece_bit masks i) (get_or plain i 0) s.handle (i % 16)) (get_or-more handles k (i / 16) unset)

pub handle-overwritten : (plain masks : List ℕ) (handles : List StoredHandle) (old : ℕ → Byte) (n granule : ℕ) (handle : Handle)
    → ((i : ℕ) → byte_at plain masks handles i ≡ old i) → granule < length masks → granule < length handles → 16 * granule + 16 ≤ n
    → bytes_from (byte_at plain (set masks granule 65535) (set handles granule (record { handle = handle }))) 0 n ≡ overwritten (16 * granule) (pieces handle) (bytes_from old 0 n)
handle-overwritten plain masks handles old n granule handle before there stored within =
    let masks' = set masks granule 65535 in
    let handles' = set handles granule (record { handle = handle }) in
    let other : (i : ℕ) → (i / 16 ≡ granule → ⊥) → byte_at plain masks' handles' i ≡ old i =
    λ i e. rw (get_or-set_other masks granule (i / 16) 65535 0 e, get_or-set_other handles granule (i / 16) (record { handle = handle }) unset e) (before i) in
    let here : (k : ℕ) → k < 16 → byte_at plain masks' handles' (16 * granule + k) ≡ Piece handle (0 + k) =
    λ k small.
    let g : (16 * granule + k) / 16 ≡ granule = omega arith in
    let j : (16 * granule + k) % 16 ≡ 0 + k = omega arith in
    rw (g, get_or-set_same masks granule 65535 0 there, get_or-set_same handles granule (record { handle = handle }) unset stored, j, bit_at_ones 16 (0 + k) (omega arith)) refl in
    bytes_from-overwritten (byte_at plain masks' handles') old n (16 * granule) (pieces handle) within
    (λ i below. other i (λ e. absurd (omega arith)))
    (bytes_from-same (byte_at plain masks' handles') (Piece handle) (16 * granule) 0 16 here)
    (λ i above. other i (λ e. absurd (let h : 16 * granule + 16 ≤ i = above in omega arith)))
