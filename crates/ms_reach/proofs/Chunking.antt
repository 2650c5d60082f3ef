-- Chunks of marks: what the chunk of an address says of it, and what one more mark changes.
use Rattle.std.proofs.Common.{◌≡◌, ◌≢◌, ◌==◌, ℕ, zero, suc, ◌+◌, ◌-◌, ◌*◌, ◌^◌, ◌/◌, ◌%◌, ◌<◌, ◌≤◌, ◌⊎◌, inl, inr, Bool, true, false, cond, List, [], ◌∷◌, length, get_or, replicate, bit_or, slice_get, slice_set, Some, w64, refl, sym, ap, subst, ◌∙◌, arith}
use Rattle.std.proofs.lemmas.Bool.Decides.{eqb_tells}
use Rattle.std.proofs.lemmas.List.{length-replicate, length-set}
use Rattle.std.proofs.lemmas.List.FromFn.{fill_by_all, get_or-map-range_with_len, length-map-range_with_len}
use Rattle.std.proofs.lemmas.Nat.Bits.{bit_at-zero, bit_at_ones, bit_at_set_other, bit_at_set_same}
use Rattle.std.proofs.lemmas.Option.{slice_get-get_or, slice_get_within}
use Rattle.ms_reach.specs.declared.chunks.Chunk.{Chunk}
use Rattle.ms_reach.specs.declared.chunks.Chunks.{Chunks}
use Rattle.ms_reach.specs.refinement.Chunks.{IsChunk, Leaps, MarksOne, Passes, Sets, chunk_of, flag_of, flags_of, fresh, is_set}
use Rattle.ms_reach.specs.refinement.Marking.{AllMarked, IsMarked}
use Rattle.ms_reach.proofs.Marks.{marked_still}

-- ---- the list of flags

pub flags_length : (c : Chunks) (n : ℕ) → length (flags_of c n) ≡ n
flags_length c n = length-map-range_with_len (flag_of c) 0 n

pub flag_here : (c : Chunks) (n k : ℕ) → k < n → slice_get (flags_of c n) k ≡ Some (flag_of c k)
flag_here c n k low =
    slice_get-get_or (flags_of c n) k false (omega (arith, low, flags_length c n)) ∙ ap Some (get_or-map-range_with_len (flag_of c) 0 n k k false low (omega arith))

get_or_none : (n k : ℕ) → get_or (replicate n false) k false ≡ false
get_or_none zero k = refl
get_or_none (suc n) zero = refl
get_or_none (suc n) (suc k) = get_or_none n k

pub none_set : (i : ℕ) → is_set 0 i ≡ false
none_set i = ap (λ (b : ℕ). b == 1) (bit_at-zero i)

-- where nothing is known of any chunk, nothing is marked
pub flags_none : (c : Chunks) (n : ℕ) → ((m : ℕ) → chunk_of c m ≡ fresh m) → flags_of c n ≡ replicate n false
flags_none c n none =
    sym (fill_by_all (flag_of c) (replicate n false) n false (length-replicate n false) (λ k low. get_or_none n k ∙ sym (ap (λ (h : Chunk). is_set h.flags (k % 64)) (none (k / 64)) ∙ none_set (k % 64))))

-- ---- a chunk, and the addresses in it

pub leaps_none : (marks : List Bool) (n : ℕ) → Leaps marks n n
leaps_none marks n = (omega arith, λ k low high within. absurd (omega (arith, low, high)))

pub passes_none : (c : Chunks) (marks : List Bool) → ((m : ℕ) → chunk_of c m ≡ fresh m) → Passes c marks
passes_none c marks none n = subst (λ (h : Chunk). Leaps marks n h.next) (sym (none n)) (leaps_none marks n)

flag_in : (c : Chunks) (n i : ℕ) → i < 64 → flag_of c (n * 64 + i) ≡ is_set (chunk_of c n).flags i
flag_in c n i low =
    let number : (n * 64 + i) / 64 ≡ n = omega arith in
    let place : (n * 64 + i) % 64 ≡ i = omega arith in
    ap (λ (q : ℕ). is_set (chunk_of c q).flags ((n * 64 + i) % 64)) number ∙ ap (is_set (chunk_of c n).flags) place

pub chunk_is : (c : Chunks) (len n : ℕ) → Passes c (flags_of c len) → IsChunk (flags_of c len) n (chunk_of c n)
chunk_is c len n p = record {
  flags = λ i low within. flag_here c len (n * 64 + i) (omega (arith, within, flags_length c len)) ∙ ap Some (flag_in c n i low);
  leaps = p n;
}

-- the addresses from one on, as far as the places of its chunk have the same flag
pub run_flags : (b : Bool) (marks : List Bool) (at end : ℕ) (c : Chunk) → IsChunk marks (at / 64) c → end ≤ 64 → ((i : ℕ) → at % 64 ≤ i → i < end → is_set c.flags i ≡ b) → (k : ℕ) → at ≤ k → k < at / 64 * 64 + end → k < length marks → slice_get marks k ≡ Some b
run_flags b marks at end c is top same k low high within = by (k % 64) (omega arith) (omega (arith, low, high, top)) (omega (arith, high, low, top)) where
  by : (i : ℕ) → at / 64 * 64 + i ≡ k → at % 64 ≤ i → i < end → slice_get marks k ≡ Some b
  by i e from to = subst (λ (j : ℕ). slice_get marks j ≡ Some b) e (is.flags i (omega (arith, to, top)) (omega (arith, e, within)) ∙ ap Some (same i from to))

-- ---- what changes

-- an address that has a mark
pub at_few : (c : Chunks) (len at : ℕ) (b : Bool) (marks : List Bool) → flags_of c len ≡ marks → len < 2 ^ 32 → slice_get marks at ≡ Some b → at < 2 ^ 32
at_few c len at b marks same few is = omega (arith, slice_get_within marks at b is, ap (λ (bs : List Bool). length bs) same, flags_length c len, few)

pub marks_one : (n : ℕ) (c : Chunk) (i next : ℕ) → i < 64 → (next ≡ c.next) ⊎ ((next ≡ n + 1) × (bit_or c.flags (1 * 2 ^ i % 2 ^ 64) ≡ 2 ^ 64 - 1)) → MarksOne n c i (record { flags = bit_or c.flags (1 * 2 ^ i % 2 ^ 64); next = next })
marks_one n c i next low leads = record {
  here = ap (λ (b : ℕ). b == 1) (bit_at_set_same w64 c.flags i low);
  others = λ j ne. ap (λ (b : ℕ). b == 1) (bit_at_set_other w64 c.flags i low j ne);
  next = elim leads [ inl same ↦ inl same | inr full ↦ inr (full.0, λ j below. ap (λ (f : ℕ). is_set f j) full.1 ∙ ap (λ (b : ℕ). b == 1) (bit_at_ones 64 j below)) ];
}

flag_or : (c : Chunks) (n k : ℕ) → k < n → get_or (flags_of c n) k false ≡ flag_of c k
flag_or c n k low = get_or-map-range_with_len (flag_of c) 0 n k k false low (omega arith)

set_here : (bs : List Bool) (k : ℕ) → k < length bs → get_or (slice_set bs k true) k false ≡ true
set_here [] k low = absurd (omega (arith, low))
set_here (b ∷ bs) zero low = refl
set_here (b ∷ bs) (suc k) low = set_here bs k (omega (arith, low))

set_other : (bs : List Bool) (j k : ℕ) → k ≢ j → get_or (slice_set bs j true) k false ≡ get_or bs k false
set_other [] zero k ne = refl
set_other [] (suc j) k ne = refl
set_other (b ∷ bs) zero zero ne = absurd (ne refl)
set_other (b ∷ bs) zero (suc k) ne = refl
set_other (b ∷ bs) (suc j) zero ne = refl
set_other (b ∷ bs) (suc j) (suc k) ne = set_other bs j k (λ e. ne (ap suc e))

-- one chunk is changed: this one, and all others
set_one : (c c' : Chunks) (n : ℕ) (new : Chunk) → Sets c n new c' → chunk_of c' n ≡ new
set_one c c' n new sets = elim (eqb_tells n n) [ inl same ↦ sets n ∙ ap (λ (b : Bool). cond b new (chunk_of c n)) same.0 | inr apart ↦ absurd (apart.1 refl) ]

set_rest : (c c' : Chunks) (n m : ℕ) (new : Chunk) → Sets c n new c' → m ≢ n → chunk_of c' m ≡ chunk_of c m
set_rest c c' n m new sets ne = elim (eqb_tells m n) [ inl same ↦ absurd (ne same.1) | inr apart ↦ sets m ∙ ap (λ (b : Bool). cond b new (chunk_of c m)) apart.0 ]

-- one address more is marked
module _ (c c' : Chunks) (len at : ℕ) (new : Chunk) (one : MarksOne (at / 64) (chunk_of c (at / 64)) (at % 64) new) (sets : Sets c (at / 64) new c') where
  flag_marked : flag_of c' at ≡ true
  flag_marked = ap (λ (h : Chunk). is_set h.flags (at % 64)) (set_one c c' (at / 64) new sets) ∙ one.here

  flag_other : (k : ℕ) → k ≢ at → flag_of c' k ≡ flag_of c k
  flag_other k ne =
      elim (eqb_tells (k / 64) (at / 64)) [
        | inl same ↦
            let place : k % 64 ≢ at % 64 = λ e. ne (omega (arith, e, same.1)) in
            ap (λ (q : ℕ). is_set (chunk_of c' q).flags (k % 64)) same.1 ∙ (ap (λ (h : Chunk). is_set h.flags (k % 64)) (set_one c c' (at / 64) new sets) ∙ (one.others (k % 64) place ∙ ap (λ (q : ℕ). is_set (chunk_of c q).flags (k % 64)) (sym same.1)))
        | inr apart ↦ ap (λ (h : Chunk). is_set h.flags (k % 64)) (set_rest c c' (at / 64) (k / 64) new sets apart.1)
      ]

  pub flags_more : flags_of c' len ≡ slice_set (flags_of c len) at true
  flags_more = sym (fill_by_all (flag_of c') (slice_set (flags_of c len) at true) len false (length-set (flags_of c len) at true ∙ flags_length c len) by) where
    by : (k : ℕ) → k < len → get_or (slice_set (flags_of c len) at true) k false ≡ flag_of c' k
    by k low =
        elim (eqb_tells k at) [
          | inl same ↦ subst (λ (j : ℕ). get_or (slice_set (flags_of c len) at true) j false ≡ flag_of c' j) (sym same.1) (set_here (flags_of c len) at (omega (arith, same.1, low, flags_length c len)) ∙ sym flag_marked)
          | inr apart ↦ set_other (flags_of c len) at k apart.1 ∙ (flag_or c len k low ∙ sym (flag_other k apart.1))
        ]

  leaps_still : (n next : ℕ) → Leaps (flags_of c len) n next → Leaps (flags_of c' len) n next
  leaps_still n next leaps =
      (leaps.0, λ k low high within. subst (λ (bs : List Bool). IsMarked bs k) (sym flags_more) (marked_still (flags_of c len) at k (leaps.1 k low high (omega (arith, within, flags_length c' len, flags_length c len)))))

  leaps_whole : ((j : ℕ) → j < 64 → is_set new.flags j ≡ true) → Leaps (flags_of c' len) (at / 64) (at / 64 + 1)
  leaps_whole all = (omega arith, whole) where
    whole : AllMarked (flags_of c' len) (at / 64 * 64) ((at / 64 + 1) * 64)
    whole k low high within =
        let number : k / 64 ≡ at / 64 = omega (arith, low, high) in
        flag_here c' len k (omega (arith, within, flags_length c' len)) ∙ ap Some (ap (λ (q : ℕ). is_set (chunk_of c' q).flags (k % 64)) number ∙ (ap (λ (h : Chunk). is_set h.flags (k % 64)) (set_one c c' (at / 64) new sets) ∙ all (k % 64) (omega arith)))

  pub passes_more : Passes c (flags_of c len) → Passes c' (flags_of c' len)
  passes_more p m =
      elim (eqb_tells m (at / 64)) [
        | inl same ↦
            subst (λ (q : ℕ). Leaps (flags_of c' len) q (chunk_of c' q).next) (sym same.1)
            (subst (λ (h : Chunk). Leaps (flags_of c' len) (at / 64) h.next) (sym (set_one c c' (at / 64) new sets)) here)
        | inr apart ↦ subst (λ (h : Chunk). Leaps (flags_of c' len) m h.next) (sym (set_rest c c' (at / 64) m new sets apart.1)) (leaps_still m (chunk_of c m).next (p m))
      ]
    where
      here : Leaps (flags_of c' len) (at / 64) new.next
      here =
          elim one.next [
            | inl as_before ↦ subst (Leaps (flags_of c' len) (at / 64)) (sym as_before) (leaps_still (at / 64) (chunk_of c (at / 64)).next (p (at / 64)))
            | inr full ↦ subst (Leaps (flags_of c' len) (at / 64)) (sym full.0) (leaps_whole full.1)
          ]
