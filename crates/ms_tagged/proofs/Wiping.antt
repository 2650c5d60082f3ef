-- Marks of blocks, and bytes that are made data bytes 0.
use Rattle.std.proofs.Common.{◌≡◌, ◌≢◌, ℕ, Vec, ◌+◌, ◌-◌, ◌*◌, ◌/◌, ◌%◌, ◌^◌, ◌<◌, ◌≤◌, ◌⊎◌, inl, inr, w64, zero, suc, List, ◌∷◌, ◌++◌, get_or, length, take, drop, replicate, refl, ap, sym, ◌∙◌, append_assoc, arith}
use Rattle.std.proofs.Math.ListN.{set}
use Rattle.std.specs.Int.{bit_at, bit_not}
use Rattle.std.specs.Int.Bits.{bit_and, bit_or}
use Rattle.std.specs.Vec.{with_items}
use Rattle.std.proofs.lemmas.Bool.{cases_eq, cases_lt}
use Rattle.std.proofs.lemmas.List.{places, drop-drop, get_or-set_same, get_or-set_other, length-replicate, with_items_is}
use Rattle.std.proofs.lemmas.Nat.Bits.{bit_at-lt, bit_at-zero, bit_at_clear_other, bit_at_clear_same, bit_at_set_same, bit_at_set_other}
use Rattle.ms_tagged.specs.Bytes.{Byte, Data, overwritten}
use Rattle.ms_tagged.specs.refinement.Granules.{Forgets, IsBlank, Wipes, byte_at, bytes_from, mark_bit}
use Rattle.ms_tagged.specs.declared.granules.StoredHandle.{StoredHandle}
use Rattle.ms_tagged.proofs.BytesFrom.{length-bytes_from, bytes_from-overwritten}
use Rattle.ms_tagged.proofs.Forgetting.{wiped-inside, wiped-below, wiped-above}
use Rattle.ms_tagged.proofs.GranuleWrites.{written-above}
use Rattle.ms_tagged.proofs.GranuleBytes.{byte_at-data, byte_at-past, byte_at-same}

-- ---- marks

-- one word of them is another: the marks in it, and all others
mark-here : (written : List ℕ) (at word i : ℕ) → at < 262144 * length written → i / 262144 ≡ at / 262144 → mark_bit (set written (at / 262144) word) i ≡ bit_at word (i / 4096 % 64)
mark-here written at word i there same =
    ap (λ k. bit_at (get_or (set written (at / 262144) word) k 0) (i / 4096 % 64)) same ∙ ap (λ w. bit_at w (i / 4096 % 64)) (get_or-set_same written (at / 262144) word 0 (omega arith))

mark-others : (written : List ℕ) (at word : ℕ) → at < 262144 * length written → ((k : ℕ) → k < 64 → k ≢ at / 4096 % 64 → bit_at word k ≡ bit_at (get_or written (at / 262144) 0) k)
    → (i : ℕ) → i / 4096 ≢ at / 4096 → mark_bit (set written (at / 262144) word) i ≡ mark_bit written i
mark-others written at word there keeps i other =
    elim (cases_eq (i / 262144) (at / 262144)) [
      | inl same ↦
          let apart : i / 4096 % 64 ≢ at / 4096 % 64 = λ e. other (omega (arith, e, same)) in
          mark-here written at word i there same ∙ (keeps (i / 4096 % 64) (omega arith) apart ∙ ap (λ k. bit_at (get_or written k 0) (i / 4096 % 64)) (sym same))
      | inr apart ↦ ap (λ w. bit_at w (i / 4096 % 64)) (get_or-set_other written (at / 262144) (i / 262144) word 0 apart)
    ]

-- a mark is set
pub marked-block : (written : List ℕ) (at n : ℕ) → at < 262144 * length written → (i : ℕ) → i / 4096 ≡ at / 4096
    → mark_bit (set written (at / 262144) (bit_or n (1 * 2 ^ (at / 4096 % 64) % 2 ^ 64))) i ≡ 1
marked-block written at n there i same =
    let j : i / 4096 % 64 ≡ at / 4096 % 64 = ap (λ k. k % 64) same in
    mark-here written at _ i there (omega (arith, same)) ∙ (ap (bit_at (bit_or n (1 * 2 ^ (at / 4096 % 64) % 2 ^ 64))) j ∙ bit_at_set_same w64 n (at / 4096 % 64) (omega arith))

pub marked-others : (written : List ℕ) (at n : ℕ) → n ≡ get_or written (at / 262144) 0 → at < 262144 * length written → (i : ℕ) → i / 4096 ≢ at / 4096
    → mark_bit (set written (at / 262144) (bit_or n (1 * 2 ^ (at / 4096 % 64) % 2 ^ 64))) i ≡ mark_bit written i
marked-others written at n is there =
    mark-others written at _ there (λ k small apart. bit_at_set_other w64 n (at / 4096 % 64) (omega arith) k apart ∙ ap (λ m. bit_at m k) is)

-- a mark is taken away
pub unmarked-block : (written : List ℕ) (at n : ℕ) → at < 262144 * length written → (i : ℕ) → i / 4096 ≡ at / 4096
    → mark_bit (set written (at / 262144) (bit_and n (bit_not w64 (1 * 2 ^ (at / 4096 % 64) % 2 ^ 64)))) i ≡ 0
unmarked-block written at n there i same =
    let j : i / 4096 % 64 ≡ at / 4096 % 64 = ap (λ k. k % 64) same in
    mark-here written at _ i there (omega (arith, same)) ∙ (ap (bit_at (bit_and n (bit_not w64 (1 * 2 ^ (at / 4096 % 64) % 2 ^ 64)))) j ∙ bit_at_clear_same w64 n (at / 4096 % 64) (omega arith))

pub unmarked-others : (written : List ℕ) (at n : ℕ) → n ≡ get_or written (at / 262144) 0 → at < 262144 * length written → (i : ℕ) → i / 4096 ≢ at / 4096
    → mark_bit (set written (at / 262144) (bit_and n (bit_not w64 (1 * 2 ^ (at / 4096 % 64) % 2 ^ 64)))) i ≡ mark_bit written i
unmarked-others written at n is there =
    mark-others written at _ there (λ k small apart. bit_at_clear_other w64 n (at / 4096 % 64) (omega arith) k small apart ∙ ap (λ m. bit_at m k) is)

-- the blocks of a few bytes are marked, by the first of them and the last
one≢zero : (n : ℕ) → n ≡ 1 → n ≡ 0 → ⊥
one≢zero n one none = omega (arith, one, none)

module _ (old mid new : List ℕ) (from to : ℕ) (some : from < to) (few : to ≤ from + 16)
    (first : (i : ℕ) → i / 4096 ≡ from / 4096 → mark_bit mid i ≡ 1) (first_others : (i : ℕ) → i / 4096 ≢ from / 4096 → mark_bit mid i ≡ mark_bit old i)
    (last : (i : ℕ) → i / 4096 ≡ (to - 1) / 4096 → mark_bit new i ≡ 1) (last_others : (i : ℕ) → i / 4096 ≢ (to - 1) / 4096 → mark_bit new i ≡ mark_bit mid i) where
  pub both-marked : (i : ℕ) → from ≤ i → i < to → mark_bit new i ≡ 1
  both-marked i above below =
      elim (cases_eq (i / 4096) ((to - 1) / 4096)) [
        | inl in_last ↦ last i in_last
        | inr apart ↦
            let front : i / 4096 ≡ from / 4096 = elim (cases_eq (i / 4096) (from / 4096)) [ inl e ↦ e | inr ne ↦ absurd (apart (omega (arith, some, few, ne))) ] in
            last_others i apart ∙ first i front
      ]

  pub both-kept : (i : ℕ) → mark_bit new i ≡ 0 → mark_bit old i ≡ 0
  both-kept i none =
      elim (cases_eq (i / 4096) ((to - 1) / 4096)) [
        | inl in_last ↦ absurd (one≢zero _ (last i in_last) none)
        | inr apart ↦ elim (cases_eq (i / 4096) (from / 4096)) [
          | inl in_first ↦ absurd (one≢zero _ (last_others i apart ∙ first i in_first) none)
          | inr also ↦ sym (last_others i apart ∙ first_others i also) ∙ none
        ]
      ]

-- none of those in one word is set
pub region-none : (written : List ℕ) (at i : ℕ) → i / 262144 ≡ at / 262144 → get_or written (at / 262144) 0 ≡ 0 → mark_bit written i ≡ 0
region-none written at i same none = ap (λ k. bit_at (get_or written k 0) (i / 4096 % 64)) same ∙ (ap (λ w. bit_at w (i / 4096 % 64)) none ∙ bit_at-zero (i / 4096 % 64))

-- a block that isn't marked
pub block-none : (written : List ℕ) (at i : ℕ) → i / 4096 ≡ at / 4096 → (mark_bit written at ≡ 1 → ⊥) → mark_bit written i ≡ 0
block-none written at i same other =
    let region : i / 262144 ≡ at / 262144 = omega (arith, same) in
    let moved : mark_bit written i ≡ mark_bit written at = ap (λ k. bit_at (get_or written k 0) (i / 4096 % 64)) region ∙ ap (λ b. bit_at (get_or written (at / 262144) 0) (b % 64)) same in
    let small : mark_bit written at < 2 = bit_at-lt (get_or written (at / 262144) 0) (at / 4096 % 64) in
    moved ∙ elim (cases_lt (mark_bit written at) 1) [ inl low ↦ omega (arith, low) | inr high ↦ absurd (other (omega (arith, small, high))) ]

-- ---- bytes that are data bytes 0

-- what changed is marked
pub blank-written : (plain masks written plain' masks' written' : List ℕ) (from to : ℕ) → IsBlank plain masks written
    → ((handles : List StoredHandle) (i : ℕ) → i < from → byte_at plain' masks' handles i ≡ byte_at plain masks handles i)
    → ((handles : List StoredHandle) (i : ℕ) → to ≤ i → byte_at plain' masks' handles i ≡ byte_at plain masks handles i)
    → ((i : ℕ) → from ≤ i → i < to → mark_bit written' i ≡ 1) → ((i : ℕ) → mark_bit written' i ≡ 0 → mark_bit written i ≡ 0) → IsBlank plain' masks' written'
blank-written plain masks written plain' masks' written' from to blank below above marked kept = record {
  zeros = λ handles i none. elim (cases_lt i from) [
    | inl in_front ↦ below handles i in_front ∙ blank.zeros handles i (kept i none)
    | inr behind ↦ elim (cases_lt i to) [
      | inl inside ↦ absurd (one≢zero _ (marked i behind inside) none)
      | inr past ↦ above handles i past ∙ blank.zeros handles i (kept i none)
    ]
  ];
}

-- what lost its mark was made so
pub blank-wiped : (plain masks written plain' masks' written' : List ℕ) (from to : ℕ) → IsBlank plain masks written → Wipes plain masks plain' masks' from to
    → ((i : ℕ) → (i < from) ⊎ (to ≤ i) → mark_bit written' i ≡ 0 → mark_bit written i ≡ 0) → IsBlank plain' masks' written'
blank-wiped plain masks written plain' masks' written' from to blank wipes kept = record {
  zeros = λ handles i none. elim (cases_lt i from) [
    | inl in_front ↦ wipes.below handles i in_front ∙ blank.zeros handles i (kept i (inl in_front) none)
    | inr behind ↦ elim (cases_lt i to) [
      | inl inside ↦ wipes.inside handles i behind inside
      | inr past ↦ wipes.above handles i past ∙ blank.zeros handles i (kept i (inr past) none)
    ]
  ];
}

-- nothing is marked there
pub wipes-blank : (plain masks written : List ℕ) (from to : ℕ) → IsBlank plain masks written → ((i : ℕ) → from ≤ i → i < to → mark_bit written i ≡ 0) → Wipes plain masks plain masks from to
wipes-blank plain masks written from to blank none = record {
  inside = λ handles i above below. blank.zeros handles i (none i above below);
  below = λ handles i below. refl;
  above = λ handles i above. refl;
}

-- none of them is there
pub wipes-none : (plain masks : List ℕ) (at : ℕ) → Wipes plain masks plain masks at at
wipes-none plain masks at = record {
  inside = λ handles i above below. absurd (omega arith);
  below = λ handles i below. refl;
  above = λ handles i above. refl;
}

-- zeros are written over them, and they are no pieces
pub wipes-zeros : (plain masks plain' masks' : List ℕ) (from to : ℕ) → from ≤ to → to ≤ length plain → Forgets masks masks' from to → plain' ≡ take from plain ++ replicate (to - from) 0 ++ drop to plain → Wipes plain masks plain' masks' from to
wipes-zeros plain masks plain' masks' from to order within forgets is = record {
  inside = λ handles i above below. byte_at-data plain' masks' handles i (forgets.inside i above below) ∙ ap Data (ap (λ l. get_or l i 0) is ∙ wiped-inside plain from to i order within above below);
  below = λ handles i below. byte_at-same plain' masks' plain masks handles i (forgets.below i below) (ap (λ l. get_or l i 0) is ∙ wiped-below plain from to i order within below);
  above = λ handles i above. byte_at-same plain' masks' plain masks handles i (forgets.above i above) (ap (λ l. get_or l i 0) is ∙ wiped-above plain from to i order within above);
}

-- the same as the code writes it
pub wipes-filled : (plain masks masks' part : List ℕ) (from to : ℕ) → from ≤ to → to ≤ length plain → Forgets masks masks' from to → part ≡ replicate (length (take (to - from) (drop from plain))) 0
    → Wipes plain masks (take from plain ++ (part ++ drop (to - from) (drop from plain))) masks' from to
wipes-filled plain masks masks' part from to order within forgets part_is =
    let w : length (take (to - from) (drop from plain)) ≡ to - from = grind (arith, places) in
    let end : from + (to - from) ≡ to = omega arith in
    let behind : drop (to - from) (drop from plain) ≡ drop to plain = drop-drop (to - from) from plain ∙ ap (λ m. drop m plain) end in
    let zeros_are : part ≡ replicate (to - from) 0 = part_is ∙ ap (λ m. replicate m 0) w in
    wipes-zeros plain masks (take from plain ++ (part ++ drop (to - from) (drop from plain))) masks' from to order within forgets
    (ap (λ l. take from plain ++ (l ++ drop (to - from) (drop from plain))) zeros_are ∙ (ap (λ l. take from plain ++ (replicate (to - from) 0 ++ l)) behind ∙ sym (append_assoc (take from plain) (replicate (to - from) 0) (drop to plain))))

-- some of them, and those behind
pub wipes-both : (plain masks plain' masks' plain'' masks'' : List ℕ) (from at to : ℕ) → from ≤ at → at ≤ to → Wipes plain masks plain' masks' from at → Wipes plain' masks' plain'' masks'' at to → Wipes plain masks plain'' masks'' from to
wipes-both plain masks plain' masks' plain'' masks'' from at to low high first second = record {
  inside = λ handles i above below. elim (cases_lt i at) [
    | inl in_first ↦ second.below handles i in_first ∙ first.inside handles i above in_first
    | inr behind ↦ second.inside handles i behind below
  ];
  below = λ handles i below. second.below handles i (omega arith) ∙ first.below handles i below;
  above = λ handles i above. second.above handles i above ∙ first.above handles i (omega arith);
}

-- those behind the end are so anyway
pub wipes-past : (plain masks plain' masks' : List ℕ) (from at to : ℕ) → at ≤ to → (at < to → length plain' ≤ at) → length plain' ≡ 16 * length masks' → Wipes plain masks plain' masks' from at → Wipes plain masks plain' masks' from to
wipes-past plain masks plain' masks' from at to high past each wipes = record {
  inside = λ handles i above below. elim (cases_lt i at) [
    | inl inside ↦ wipes.inside handles i above inside
    | inr behind ↦ byte_at-past plain' masks' handles i (let far : length plain' ≤ at = past (omega arith) in omega (arith, far, behind)) each
  ];
  below = wipes.below;
  above = λ handles i above. wipes.above handles i (omega arith);
}

zeros-from : (byte : ℕ → Byte) (i n : ℕ) → ((k : ℕ) → i ≤ k → k < i + n → byte k ≡ Data 0) → bytes_from byte i n ≡ replicate n (Data 0)
zeros-from byte i zero are = refl
zeros-from byte i (suc n) are =
    ap (λ b. b ∷ bytes_from byte (suc i) n) (are i (omega arith) (omega arith)) ∙ ap (λ l. Data 0 ∷ l) (zeros-from byte (suc i) n (λ k low high. are k (omega arith) (omega arith)))

-- the bytes that granules say, of vectors that were lent
pub wiped-bytes : {Z : Type 0} (plain : Vec ℕ Z) (masks : Vec ℕ Z) (handles : List StoredHandle) (now said plain' masks' : List ℕ) (old : List Byte) (n at size : ℕ)
    → now ≡ plain.items → length now ≡ plain.len → said ≡ masks.items → length said ≡ masks.len → length plain' ≡ length now → length masks' ≡ length said
    → Wipes now said plain' masks' at (at + size) → bytes_from (byte_at plain.items masks.items handles) 0 n ≡ old → at + size ≤ length old
    → bytes_from (byte_at (with_items plain plain').items (with_items masks masks').items handles) 0 n ≡ overwritten at (replicate size (Data 0)) old
wiped-bytes plain masks handles now said plain' masks' old n at size value len also also_len long also_long wipes seen within =
    let before = byte_at plain.items masks.items handles in
    let room : length old ≡ n = ap length (sym seen) ∙ length-bytes_from before 0 n in
    let w : length (replicate size (Data 0)) ≡ size = length-replicate size (Data 0) in
    let same : (i : ℕ) → byte_at now said handles i ≡ before i = λ i. rw (value, also) refl in
    let after = byte_at plain' masks' handles in
    ap (λ l. bytes_from (byte_at l (with_items masks masks').items handles) 0 n) (with_items_is plain plain' (long ∙ len))
    ∙ (ap (λ l. bytes_from (byte_at plain' l handles) 0 n) (with_items_is masks masks' (also_long ∙ also_len))
    ∙ (bytes_from-overwritten after before n at (replicate size (Data 0)) (omega (arith, within, room, w))
    (λ i below. wipes.below handles i below ∙ same i)
    (rw w (zeros-from after at size (λ k low high. wipes.inside handles k low high)))
    (λ i above. wipes.above handles i (omega (arith, above, w)) ∙ same i)
    ∙ ap (overwritten at (replicate size (Data 0))) seen))

-- ---- vectors that were lent

length-part : (now : List ℕ) (at size : ℕ) → at + size ≤ length now → length (take size (drop at now)) ≡ size
length-part now at size within = grind (arith, places)

pub blank-lent : {Z : Type 0} (plain masks written : Vec ℕ Z) (plain' masks' written' : List ℕ) → length plain' ≡ plain.len → length masks' ≡ masks.len → length written' ≡ written.len
    → IsBlank plain' masks' written' → IsBlank (with_items plain plain').items (with_items masks masks').items (with_items written written').items
blank-lent plain masks written plain' masks' written' long also_long marks_long blank =
    rw (with_items_is plain plain' long, with_items_is masks masks' also_long, with_items_is written written' marks_long) blank

data-below : (plain bytes : List ℕ) (at i : ℕ) → at + length bytes ≤ length plain → i < at → get_or (take at plain ++ (bytes ++ drop (at + length bytes) plain)) i 0 ≡ get_or plain i 0
data-below plain bytes at i within below = grind (arith, places)

-- a number was written
pub blank-data : {Z : Type 0} (plain masks written : Vec ℕ Z) (plain_before masks_before now said marks forgotten part marked : List ℕ) (at size k : ℕ)
    → IsBlank plain_before masks_before written.items → ((handles : List StoredHandle) (i : ℕ) → byte_at plain.items masks.items handles i ≡ byte_at plain_before masks_before handles i)
    → now ≡ plain.items → length now ≡ plain.len → said ≡ masks.items → length forgotten ≡ length said → length said ≡ masks.len → marks ≡ written.items → length marked ≡ length marks → length marks ≡ written.len
    → Forgets said forgotten at (at + size) → at + size ≤ plain.len → k ≡ size → length part ≡ length (take k (drop at now))
    → ((i : ℕ) → at ≤ i → i < at + size → mark_bit marked i ≡ 1) → ((i : ℕ) → mark_bit marked i ≡ 0 → mark_bit marks i ≡ 0)
    → IsBlank (with_items plain (take at now ++ (part ++ drop k (drop at now)))).items (with_items masks forgotten).items (with_items written marked).items
blank-data plain masks written plain_before masks_before now said marks forgotten part marked at size k blank same value len mask_value mask_long mask_len marks_value marks_long marks_len forgets there is long set kept =
    let w : length part ≡ size = rw (long, is) (length-part now at size (omega (arith, there, len))) in
    let behind : drop k (drop at now) ≡ drop (at + length part) now = drop-drop k at now ∙ ap (λ m. drop (at + m) now) (is ∙ sym w) in
    let room : at + length part ≤ length now = omega (arith, there, len, w) in
    let all : length (take at now ++ (part ++ drop k (drop at now))) ≡ plain.len = rw behind (grind (arith, places)) in
    let new = take at now ++ (part ++ drop k (drop at now)) in
    let before : (handles : List StoredHandle) (i : ℕ) → byte_at now said handles i ≡ byte_at plain_before masks_before handles i = λ handles i. rw (value, mask_value) (same handles i) in
    blank-lent plain masks written new forgotten marked all (mask_long ∙ mask_len) (marks_long ∙ marks_len)
    (blank-written plain_before masks_before written.items new forgotten marked at (at + size) blank
    (λ handles i below. byte_at-same new forgotten now said handles i (forgets.below i below) (ap (λ l. get_or (take at now ++ (part ++ l)) i 0) behind ∙ data-below now part at i room below) ∙ before handles i)
    (λ handles i above. byte_at-same new forgotten now said handles i (forgets.above i above) (ap (λ l. get_or (take at now ++ (part ++ l)) i 0) behind ∙ written-above now part at i room (omega (arith, above, w))) ∙ before handles i)
    set (λ i none. ap (λ l. mark_bit l i) (sym marks_value) ∙ kept i none))

-- a handle was written
pub blank-handle : {Z : Type 0} (written : Vec ℕ Z) (plain_before masks_before plain masks marks marked : List ℕ) (granule at : ℕ)
    → IsBlank plain_before masks_before written.items → ((handles : List StoredHandle) (i : ℕ) → byte_at plain masks handles i ≡ byte_at plain_before masks_before handles i)
    → marks ≡ written.items → length marked ≡ length marks → length marks ≡ written.len → 16 * granule ≡ at
    → ((i : ℕ) → at ≤ i → i < at + 16 → mark_bit marked i ≡ 1) → ((i : ℕ) → mark_bit marked i ≡ 0 → mark_bit marks i ≡ 0)
    → IsBlank plain (set masks granule 65535) (with_items written marked).items
blank-handle written plain_before masks_before plain masks marks marked granule at blank same marks_value marks_long marks_len place set_there kept =
    let other : (handles : List StoredHandle) (i : ℕ) → (i / 16 ≡ granule → ⊥) → byte_at plain (set masks granule 65535) handles i ≡ byte_at plain_before masks_before handles i =
    λ handles i e. rw (get_or-set_other masks granule (i / 16) 65535 0 e) (same handles i) in
    rw (with_items_is written marked (marks_long ∙ marks_len))
    (blank-written plain_before masks_before written.items plain (set masks granule 65535) marked at (at + 16) blank
    (λ handles i below. other handles i (λ e. absurd (omega (arith, below, place, e))))
    (λ handles i above. other handles i (λ e. absurd (omega (arith, above, place, e))))
    set_there (λ i none. ap (λ l. mark_bit l i) (sym marks_value) ∙ kept i none))
