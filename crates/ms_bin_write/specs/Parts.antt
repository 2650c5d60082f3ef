-- The parts of what is written (WebAssembly 1.0, 5.1.3 and 5.2): numbers, vectors, and what has its size before it.
use Rattle.std.specs.Prelude.{ℕ, List, ◌++◌, length}
use Rattle.std.specs.List.{flat_map}
use Rattle.ms_leb.specs.Shortest.{shortest_unsigned}

-- a count, an index or a size
abbrev pub number_bytes : ℕ → List ℕ
number_bytes n = shortest_unsigned n

-- a vector: the count of the items, and the items
unfoldable pub vec_bytes : {A : Type 0} → (A → List ℕ) → List A → List ℕ
vec_bytes text xs = number_bytes (length xs) ++ flat_map text xs

-- how many bytes there are, and the bytes
unfoldable pub sized_bytes : List ℕ → List ℕ
sized_bytes content = number_bytes (length content) ++ content
