-- The lines of live segments, byte by byte and segment by segment.
use Rattle.std.proofs.Common.{◌≡◌, ◌∙◌, ℕ, zero, suc, ◌+◌, ◌<◌, ◌≤◌, inl, inr, List, [], ◌∷◌, ◌++◌, length, take, drop, drop-drop, append_assoc, append-nil, refl, sym, ap, subst, arith}
use Rattle.std.specs.Prelude.{slice_get, Option, Some, All, flat_map}
use Rattle.std.proofs.lemmas.Option.{slice_get_cases}
use Rattle.std.proofs.lemmas.List.Elements.{All-get_or}
use Rattle.ms_live.specs.declared.gaps.Live.{Live}
use Rattle.ms_segment.specs.Memory.{IsWithin, Memory}
use Rattle.ms_tagged.specs.Bytes.{Byte, range, shown_at}
use Rattle.ms_tasks.proofs.Chaining.{drop_at}
use Rattle.ms_run.specs.Telling.{byte_word, bytes_word, dump_line, shown_word}

-- ---- the bytes of a range

-- the byte at a place of a range, and those behind it
pub record IsByteAt (bytes : List Byte) (base size place : ℕ) : Type 0 where
  pub byte : Byte
  pub behind : drop place (range base size bytes) ≡ byte ∷ drop (suc place) (range base size bytes)
  pub shown : range (base + place) 1 bytes ≡ byte ∷ []

-- the same of the front of a list
front_byte : (bytes : List Byte) (size place : ℕ) → place < size → size ≤ length bytes → (b : Byte) × (drop place (take size bytes) ≡ b ∷ drop (suc place) (take size bytes)) × (take 1 (drop place bytes) ≡ b ∷ [])
front_byte [] size place below within = absurd (omega arith)
front_byte (b ∷ bs) zero place below within = absurd (omega arith)
front_byte (b ∷ bs) (suc size) zero below within = (b, refl, refl)
front_byte (b ∷ bs) (suc size) (suc place) below within = let rest = front_byte bs size place (omega arith) (omega arith) in (rest.0, rest.1, rest.2)

behind_length : (base : ℕ) (bytes : List Byte) (size : ℕ) → base + size ≤ length bytes → size ≤ length (drop base bytes)
behind_length zero bytes size within = omega arith
behind_length (suc base) [] size within = absurd (omega arith)
behind_length (suc base) (b ∷ bs) size within = behind_length base bs size (omega arith)

pub byte_at : (bytes : List Byte) (base size place : ℕ) → place < size → base + size ≤ length bytes → IsByteAt bytes base size place
byte_at bytes base size place below within =
    let front = front_byte (drop base bytes) size place below (behind_length base bytes size within) in
    record { byte = front.0; behind = front.1; shown = ap (take 1) (sym (drop-drop place base bytes)) ∙ front.2 }

-- a range that has bytes has a word, which begins with a space
pub word_of_range : (bytes : List Byte) (base size : ℕ) → 0 < size → base + size ≤ length bytes → bytes_word (range base size bytes) ≡ 32 ∷ flat_map byte_word (range base size bytes)
word_of_range bytes base size some within =
    let first = byte_at bytes base size 0 some within in
    by (range base size bytes) first.behind
  where
    by : {b : Byte} {more : List Byte} (part : List Byte) → part ≡ b ∷ more → bytes_word part ≡ 32 ∷ flat_map byte_word part
    by [] e = absurd cc
    by (b ∷ bs) e = refl

-- one byte more was put, of those that were left
pub byte_grows : (made digits all : List ℕ) (bytes : List Byte) (base size place : ℕ) → place < size → base + size ≤ length bytes → digits ≡ shown_word (shown_at (range (base + place) 1 bytes))
    → made ++ flat_map byte_word (drop place (range base size bytes)) ≡ all → (made ++ digits) ++ flat_map byte_word (drop (place + 1) (range base size bytes)) ≡ all
byte_grows made digits all bytes base size place below within is so_far =
    let at = byte_at bytes base size place below within in
    let rest = flat_map byte_word (drop (suc place) (range base size bytes)) in
    let next : suc place ≡ place + 1 = omega arith in
    let word : digits ≡ byte_word at.byte = is ∙ ap (λ (bs : List Byte). shown_word (shown_at bs)) at.shown in
    ap (λ j. (made ++ digits) ++ flat_map byte_word (drop j (range base size bytes))) (sym next)
    ∙ (append_assoc made digits rest
    ∙ (ap (λ (x : List ℕ). made ++ x) (ap (λ (x : List ℕ). x ++ rest) word ∙ ap (flat_map byte_word) (sym at.behind)) ∙ so_far))

-- all were put
pub bytes_done : (made all : List ℕ) (bytes : List Byte) (base size : ℕ) → made ++ flat_map byte_word (drop size (range base size bytes)) ≡ all → made ≡ all
bytes_done made all bytes base size e = sym (append-nil made) ∙ (ap (λ (bs : List Byte). made ++ flat_map byte_word bs) (sym (nothing_left size (drop base bytes))) ∙ e)
  where
    nothing_left : (n : ℕ) (bs : List Byte) → drop n (take n bs) ≡ []
    nothing_left zero bs = refl
    nothing_left (suc n) [] = refl
    nothing_left (suc n) (b ∷ bs) = nothing_left n bs

-- ---- segments

segment_got : {A : Type 0} (x y : A) → ◌≡◌ {A = Option A} (Some x) (Some y) → x ≡ y
segment_got x y e = cc

-- each lies within the memory
pub segment_within : (capacity : ℕ) (live : List Live) (i : ℕ) (s : Live) → slice_get live i ≡ Some s → All (IsWithin capacity) live → s.base + s.size ≤ capacity
segment_within capacity live i s e all =
    elim (slice_get_cases live i).1 [
      | inl h ↦ let same : h.0 ≡ s = segment_got h.0 s (sym h.2 ∙ e) in (subst (IsWithin capacity) (h.3 ∙ same) (All-get_or (IsWithin capacity) live i h.0 h.1 all)).0
      | inr h ↦ absurd (let n = h.1 in cc)
    ]

-- the line of one more was put, of those that were left
pub line_grows : (made more all : List ℕ) (m : Memory) (i : ℕ) (s : Live) → slice_get m.live i ≡ Some s → more ≡ made ++ dump_line m s
    → made ++ flat_map (dump_line m) (drop i m.live) ≡ all → more ++ flat_map (dump_line m) (drop (i + 1) m.live) ≡ all
line_grows made more all m i s found is so_far =
    let rest = flat_map (dump_line m) (drop (suc i) m.live) in
    let next : suc i ≡ i + 1 = omega arith in
    ap (λ j. more ++ flat_map (dump_line m) (drop j m.live)) (sym next)
    ∙ (ap (λ (x : List ℕ). x ++ rest) is
    ∙ (append_assoc made (dump_line m s) rest
    ∙ (ap (λ (x : List ℕ). made ++ x) (sym (ap (flat_map (dump_line m)) (drop_at m.live i s found))) ∙ so_far)))
