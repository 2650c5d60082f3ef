-- What reading a number gives, and why there is none.
use Rattle.std.specs.Prelude.{◌≡◌, ◌+◌, ◌/◌, ◌<◌, ◌≤◌, ℕ, List, [], ◌∷◌, drop, length, Result, Ok, Err}
use Rattle.ms_bytes.specs.Spot.{Spot}
use Rattle.ms_leb.specs.declared.leb.Leb.{Leb}

-- a number and how many bytes it takes are what reading gives
abbrev pub Counts : {A : Type 0} → List ℕ → Result (A × ℕ) Leb → Result (A × List ℕ) Leb → Type 0
Counts bytes (Ok x) read = read ≡ Ok (x.0, drop x.1 bytes)
Counts bytes (Err e) read = read ≡ Err e

-- the number that is read is what reading gives, and after an error nothing is read
abbrev pub ReadsNumber : {A : Type 0} → Spot → Spot → Result A Leb → Result (A × List ℕ) Leb → Type 0
ReadsNumber old new (Ok x) read = (read ≡ Ok (x, new.left)) × (new.end ≡ old.end)
ReadsNumber old new (Err e) read = (read ≡ Err e) × (new ≡ old)

-- each byte has the top bit, which says that another one follows
abbrev pub AllGoOn : List ℕ → Type 0
AllGoOn [] = Unit {0}
AllGoOn (b ∷ bs) = (128 ≤ b) × AllGoOn bs

-- the bytes end inside a number of so many bits: there are fewer than it may have, and each says that another one follows
abbrev pub IsShort : ℕ → List ℕ → Type 0
IsShort bits bytes = (length bytes < (bits + 6) / 7) × AllGoOn bytes
