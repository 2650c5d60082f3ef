-- Live segments that have bytes, in the order of their addresses, and the place that one walk along them finds.
use Rattle.std.specs.Prelude.{ℕ, suc, ◌+◌, ◌*◌, ◌/◌, ◌≤◌, cond, nat_lt, List, [], ◌∷◌}
use Rattle.ms_live.specs.Overlap.{overlaps}
use Rattle.ms_live.specs.declared.gaps.Live.{Live}

-- how many of them, from the front, begin no later than an address
abbrev pub no_later : ℕ → List Live → ℕ
no_later address [] = 0
no_later address (t ∷ ts) = cond (nat_lt address t.base) 0 (suc (no_later address ts))

-- with a segment more, behind those that begin no later
abbrev pub put_in : Live → List Live → List Live
put_in s [] = s ∷ []
put_in s (t ∷ ts) = cond (nat_lt s.base t.base) (s ∷ t ∷ ts) (t ∷ put_in s ts)

-- the same where it has bytes
abbrev pub placed_with : Live → List Live → List Live
placed_with s ts = cond (nat_lt 0 s.size) (put_in s ts) ts

abbrev pub all_in : List Live → List Live → List Live
all_in [] ts = ts
all_in (s ∷ ss) ts = all_in ss (placed_with s ts)

abbrev pub by_address : List Live → List Live
by_address live = all_in live []

-- each begins no earlier than this, and than the one before it
abbrev pub AreFrom : ℕ → List Live → Type 0
AreFrom least [] = Unit {0}
AreFrom least (t ∷ ts) = (least ≤ t.base) × AreFrom t.base ts

-- a candidate for a place of n addresses goes behind a segment that it overlaps
abbrev pub past : (n candidate : ℕ) → Live → ℕ
past n candidate s = cond (overlaps candidate n s) (16 * ((s.base + s.size + 15) / 16)) candidate

-- and so along all of them
abbrev pub passed : (n candidate : ℕ) → List Live → ℕ
passed n candidate [] = candidate
passed n candidate (s ∷ ss) = passed n (past n candidate s) ss
