-- The linear memory as a plain list of bytes (WebAssembly 1.0, 4.2.8 and 4.4.4).
use Rattle.ms_bytes.specs.Little.{bytes_of, number_of}
use Rattle.ms_types.specs.Page.{page}
use Rattle.std.specs.Prelude.{◌≡◌, ◌≤◌, ◌⊎◌, ℕ, ◌+◌, ◌*◌, ◌/◌, List, ◌++◌, length, take, drop, replicate, Option, Some, None}

-- its bytes, and the greatest number of pages that it may have, if one is set
pub record Memory : Type 0 where
  pub bytes : List ℕ
  pub max : Option ℕ

-- how many pages a memory may have at most
abbrev pub most_pages : ℕ
most_pages = 1024

abbrev pub IsWidth : ℕ → Type 0
IsWidth width = (width ≡ 1) ⊎ ((width ≡ 2) ⊎ ((width ≡ 4) ⊎ (width ≡ 8)))

-- ---- accesses

-- so many bytes from an address on lie in the memory
abbrev pub IsInside : Memory → ℕ → ℕ → Type 0
IsInside m address width = address + width ≤ length m.bytes

-- the number that stands there
abbrev pub loaded : Memory → ℕ → ℕ → ℕ
loaded m address width = number_of (take width (drop address m.bytes))

-- the memory with the lowest bytes of a value there, all other bytes as before
abbrev pub stored : Memory → ℕ → ℕ → ℕ → Memory
stored m address width value = record { bytes = take address m.bytes ++ bytes_of width value ++ drop (address + width) m.bytes; max = m.max }

-- ---- size

abbrev pub pages : Memory → ℕ
pages m = length m.bytes / page

abbrev pub IsUpTo : ℕ → Option ℕ → Type 0
IsUpTo n None = Unit {0}
IsUpTo n (Some max) = n ≤ max

-- so many more pages may be had
abbrev pub MayGrow : Memory → ℕ → Type 0
MayGrow m n = (pages m + n ≤ most_pages) × IsUpTo (pages m + n) m.max

-- with so many more pages of zeros
abbrev pub grown : Memory → ℕ → Memory
grown m n = record { bytes = m.bytes ++ replicate (n * page) 0; max = m.max }
