-- Marks of addresses, kept for chunks of 64.
use Rattle.std.specs.Prelude.{◌≡◌, ◌≢◌, ◌==◌, ◌<◌, ◌≤◌, ◌⊎◌, ℕ, ◌+◌, ◌*◌, ◌/◌, ◌%◌, Bool, true, cond, List, length, map, slice_get, Some, unwrap_or}
use Rattle.std.specs.BTreeMap.{get}
use Rattle.std.specs.Int.{bit_at}
use Rattle.std.specs.List.{range_with_len}
use Rattle.std.specs.Ordering.{nat_cmp}
use Rattle.ms_reach.specs.declared.chunks.Chunk.{Chunk}
use Rattle.ms_reach.specs.declared.chunks.Chunks.{Chunks}
use Rattle.ms_reach.specs.refinement.Marking.{AllMarked}

abbrev pub is_set : ℕ → ℕ → Bool
is_set flags i = bit_at flags i == 1

-- a chunk of which nothing is known
abbrev pub fresh : ℕ → Chunk
fresh n = record { flags = 0; next = n }

-- the chunk of a number
abbrev pub chunk_of : Chunks → ℕ → Chunk
chunk_of c n = cond (n == c.place) c.current (unwrap_or (get nat_cmp c.others n) (fresh n))

abbrev pub flag_of : Chunks → ℕ → Bool
flag_of c k = is_set (chunk_of c (k / 64)).flags (k % 64)

-- the flags of so many addresses
abbrev pub flags_of : Chunks → ℕ → List Bool
flags_of c n = map (flag_of c) (range_with_len 0 n)

-- a chunk that doesn't lie before one of a number, up to which all are marked
abbrev pub Leaps : List Bool → ℕ → ℕ → Type 0
Leaps marks n next = (n ≤ next) × AllMarked marks (n * 64) (next * 64)

-- such a chunk is known of each
abbrev pub Passes : Chunks → List Bool → Type 0
Passes c marks = (n : ℕ) → Leaps marks n (chunk_of c n).next

-- the chunk of a number has these marks
pub record IsChunk (marks : List Bool) (n : ℕ) (c : Chunk) : Type 0 where
  pub flags : (i : ℕ) → i < 64 → n * 64 + i < length marks → slice_get marks (n * 64 + i) ≡ Some (is_set c.flags i)
  pub leaps : Leaps marks n c.next

-- the chunk of a number has the address of one more place marked; where all are, the next chunk is the one from which on to look further
pub record MarksOne (n : ℕ) (c : Chunk) (i : ℕ) (c' : Chunk) : Type 0 where
  pub here : is_set c'.flags i ≡ true
  pub others : (j : ℕ) → j ≢ i → is_set c'.flags j ≡ is_set c.flags j
  pub next : (c'.next ≡ c.next) ⊎ ((c'.next ≡ n + 1) × ((j : ℕ) → j < 64 → is_set c'.flags j ≡ true))

-- one chunk is another one now
abbrev pub Sets : Chunks → ℕ → Chunk → Chunks → Type 0
Sets c n chunk c' = (m : ℕ) → chunk_of c' m ≡ cond (m == n) chunk (chunk_of c m)

abbrev pub IsSame : Chunks → Chunks → Type 0
IsSame c c' = (m : ℕ) → chunk_of c' m ≡ chunk_of c m

-- nothing has changed, but of one chunk perhaps from which on to look further
abbrev pub Redirects : Chunks → ℕ → ℕ → Chunks → Type 0
Redirects c n next c' = (m : ℕ) → (chunk_of c' m ≡ chunk_of c m) ⊎ ((m ≡ n) × (chunk_of c' m ≡ record (chunk_of c m) { next = next }))
