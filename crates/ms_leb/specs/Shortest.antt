-- The shortest spelling of a number (WebAssembly 1.0, 5.2.2): its groups of seven bits, the lowest first, and none above that
-- which tells the number.
use Rattle.std.specs.Prelude.{ℕ, zero, suc, ◌+◌, ◌-◌, ◌/◌, ◌%◌, Bool, true, false, List, [], ◌∷◌, nat_lt, ℤ, pos, negsuc, if◌then◌else◌}

-- the groups of a number, the last one at the latest behind k others
abbrev pub groups : ℕ → ℕ → List ℕ
groups zero n = n ∷ []
groups (suc k) n = if nat_lt n 128 then n ∷ [] else (n % 128 + 128) ∷ groups k (n / 128)

-- A number n has at most n + 1 groups.
unfoldable pub shortest_unsigned : ℕ → List ℕ
shortest_unsigned n = groups n n

-- Seven bits of n, or those of the negative number -(n + 1), each of which is the other one (two's complement).
abbrev pub seven_bits : Bool → ℕ → ℕ
seven_bits false low = low
seven_bits true low = 127 - low

-- The last group has the sign in its highest bit, so it is below 64 before the bits are turned.
abbrev pub signed_groups : Bool → ℕ → ℕ → List ℕ
signed_groups negative zero n = seven_bits negative n ∷ []
signed_groups negative (suc k) n =
    if nat_lt n 64 then seven_bits negative n ∷ [] else (seven_bits negative (n % 128) + 128) ∷ signed_groups negative k (n / 128)

-- `negsuc n` is -(n + 1)
unfoldable pub shortest_signed : ℤ → List ℕ
shortest_signed (pos n) = signed_groups false n n
shortest_signed (negsuc n) = signed_groups true n n
