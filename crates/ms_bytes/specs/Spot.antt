-- What a cursor is: the bytes of a slice that are left, and the place at which the slice ends.
use Rattle.std.specs.Prelude.{◌≡◌, ◌==◌, ℕ, Bool, false, [], ◌-◌, List, ◌∷◌, ◌<◌, length, take, drop}

pub record Spot : Type 0 where
  pub end : ℕ
  pub left : List ℕ

-- the beginning of a slice
abbrev pub start : List ℕ → Spot
start bytes = record { end = length bytes; left = bytes }

-- where the next item of a text is, by the place at which the text ends
abbrev pub place_of : {E : Type 0} → ℕ → List E → ℕ
place_of end left = end - length left

abbrev pub place : Spot → ℕ
place s = place_of s.end s.left

-- behind the next n bytes
abbrev pub over : ℕ → Spot → Spot
over n s = record { end = s.end; left = drop n s.left }

-- the next n bytes alone
abbrev pub part : ℕ → Spot → Spot
part n s = record { end = s.end - length (drop n s.left); left = take n s.left }

-- new is old without its first byte
pub record TakesByte (old new : Spot) (byte : ℕ) : Type 0 where
  pub byte_is : old.left ≡ byte ∷ new.left
  pub end_is : new.end ≡ old.end
  pub in_range : byte < 256

-- whether this is the first byte
abbrev pub first_is : ℕ → List ℕ → Bool
first_is b [] = false
first_is b (c ∷ cs) = c == b
