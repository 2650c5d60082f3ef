-- The contents of live segments, and what a write leaves of them.
use Rattle.std.proofs.Common.{◌≡◌, ℕ, suc, zero, ◌+◌, ◌≤◌, List, [], ◌∷◌, ◌++◌, Some, length, map, take, drop, refl, sym, ap, ◌∙◌, arith}
use Rattle.std.proofs.lemmas.List.{length-map}
use Rattle.ms_handle.specs.declared.handle.Handle.{Handle}
use Rattle.ms_live.specs.declared.gaps.Live.{Live}
use Rattle.ms_tagged.specs.Bytes.{Byte, Data, Piece, overwritten, range}
use Rattle.ms_tagged.proofs.Ranges.{length-overwritten, length-range, range-overwritten_apart, range-overwritten_same}
use Rattle.ms_segment.proofs.Standing.{live_inside, nothing_written, segments_apart}
use Rattle.ms_tagged.proofs.Within.{overwritten-within}
use Rattle.ms_segment.specs.Memory.{IsSound, Memory, live_of, with_bytes}
use Rattle.ms_apart.specs.refinement.Apart.{EachByte, contents}
use Rattle.ms_apart.proofs.Lists.{drop_mapped, take_mapped}

-- ---- a fact about each handle in bytes

module _ (P : Handle → Type 0) where
  pub bytes_drop : (n : ℕ) (xs : List Byte) → EachByte P xs → EachByte P (drop n xs)
  bytes_drop zero xs h = h
  bytes_drop (suc n) [] h = h
  bytes_drop (suc n) (Data x ∷ xs) h = bytes_drop n xs h
  bytes_drop (suc n) (Piece g i ∷ xs) h = bytes_drop n xs h.1

  pub bytes_take : (n : ℕ) (xs : List Byte) → EachByte P xs → EachByte P (take n xs)
  bytes_take zero xs h = tt
  bytes_take (suc n) [] h = tt
  bytes_take (suc n) (Data x ∷ xs) h = bytes_take n xs h
  bytes_take (suc n) (Piece g i ∷ xs) h = (h.0, bytes_take n xs h.1)

  pub bytes_append : (xs ys : List Byte) → EachByte P xs → EachByte P ys → EachByte P (xs ++ ys)
  bytes_append [] ys h k = k
  bytes_append (Data x ∷ xs) ys h k = bytes_append xs ys h k
  bytes_append (Piece g i ∷ xs) ys h k = (h.0, bytes_append xs ys h.1 k)

  pub bytes_range : (k w : ℕ) (xs : List Byte) → EachByte P xs → EachByte P (range k w xs)
  bytes_range k w xs h = bytes_take w (drop k xs) (bytes_drop k xs h)

  pub bytes_overwritten : (k : ℕ) (new old : List Byte) → EachByte P new → EachByte P old → EachByte P (overwritten k new old)
  bytes_overwritten k new old h g = bytes_append (take k old ++ new) (drop (k + length new) old) (bytes_append (take k old) new (bytes_take k old g) h) (bytes_drop (k + length new) old g)

-- ---- bytes within bytes

module _ (f : Byte → Byte) where
  pub range_mapped : (k w : ℕ) (xs : List Byte) → range k w (map f xs) ≡ map f (range k w xs)
  range_mapped k w xs = ap (take w) (drop_mapped f k xs) ∙ take_mapped f w (drop k xs)

  append_mapped : (xs ys : List Byte) → map f xs ++ map f ys ≡ map f (xs ++ ys)
  append_mapped [] ys = refl
  append_mapped (x ∷ xs) ys = ap (λ zs. f x ∷ zs) (append_mapped xs ys)

  pub overwritten_mapped : (k : ℕ) (new old : List Byte) → overwritten k (map f new) (map f old) ≡ map f (overwritten k new old)
  overwritten_mapped k new old =
      ap (λ n. (take k (map f old) ++ map f new) ++ drop (k + n) (map f old)) (length-map new f)
      ∙ (ap (λ xs. (xs ++ map f new) ++ drop (k + length new) (map f old)) (take_mapped f k old)
      ∙ (ap (λ xs. (map f (take k old) ++ map f new) ++ xs) (drop_mapped f (k + length new) old)
      ∙ (ap (λ xs. xs ++ map f (drop (k + length new) old)) (append_mapped (take k old) new)
      ∙ append_mapped (take k old ++ new) (drop (k + length new) old))))

-- ---- what a write in a segment leaves of it, and of another one

pub contents_written : (m : Memory) (id : ℕ) (s : Live) (k : ℕ) (new : List Byte) → IsSound m → live_of m id ≡ Some s → k + length new ≤ s.size → contents (with_bytes m (s.base + k) new) s ≡ overwritten k new (contents m s)
contents_written m id s k new sound live within =
    let inside = live_inside m id s sound.placed live in
    let long : length (contents m s) ≡ s.size = length-range s.base s.size m.bytes inside in
    let same : length (overwritten k new (contents m s)) ≡ s.size = length-overwritten k new (contents m s) (omega (arith, within, long)) ∙ long in
    ap (range s.base s.size) (overwritten-within s.base k s.size new m.bytes within inside same) ∙ range-overwritten_same s.base s.size (overwritten k new (contents m s)) m.bytes (sym same) inside

contents_apart : (m : Memory) (i j : ℕ) (s t : Live) (k size : ℕ) (new : List Byte) → s.size ≡ size → IsSound m → live_of m i ≡ Some s → live_of m j ≡ Some t → (i ≡ j → ⊥) → k + length new ≤ t.size → range s.base size (overwritten (t.base + k) new m.bytes) ≡ range s.base size m.bytes
contents_apart m i j s t k zero new is sound live live' other within = refl
contents_apart m i j s t k (suc n) [] is sound live live' other within = ap (range s.base (suc n)) (nothing_written (t.base + k) m.bytes)
contents_apart m i j s t k (suc n) (b ∷ bs) is sound live live' other within =
    let inside = live_inside m j t sound.placed live' in
    range-overwritten_apart s.base (suc n) (t.base + k) (b ∷ bs) m.bytes ((segments_apart m i j s t sound.placed live live' other).ranges s.base (suc n) (t.base + k) (length (b ∷ bs)) (omega arith) (omega (arith, is)) (omega arith) (omega (arith, within)) (omega arith) (omega arith)) (omega (arith, within, inside))

pub contents_other : (m : Memory) (i j : ℕ) (s t : Live) (k : ℕ) (new : List Byte) → IsSound m → live_of m i ≡ Some s → live_of m j ≡ Some t → (i ≡ j → ⊥) → k + length new ≤ t.size → contents (with_bytes m (t.base + k) new) s ≡ contents m s
contents_other m i j s t k new sound live live' other within = contents_apart m i j s t k s.size new refl sound live live' other within
