-- Why bytes are no tokens of the text format, and where.
use Rattle.std.specs.Prelude.{◌||◌, ◌==◌, ℕ, Bool, Option, Some, None, List, [], ◌∷◌, drop, is_none, if◌then◌else◌}
use Rattle.std.specs.Str.{is_utf8}
use Rattle.std.specs.Str.Lossy.{utf8_error_len, utf8_valid_len}
use Rattle.ms_bytes.specs.Spot.{place_of}
use Rattle.ms_bytes.specs.Format.{Format}
use Rattle.ms_bytes.specs.Parts.{seq}

pub data Fault : Type 0 where
  -- no token, blank or comment begins there, or what begins there has a wrong byte or escape in it
  Char : ℕ → Fault
  -- what begins there is not closed
  Unclosed : ℕ → Fault

-- a byte is wrong
abbrev pub char_here : ℕ → List ℕ → Fault
char_here end s = Char (place_of end s)

-- inside of a string or a comment: the text ends, or the next byte is wrong
abbrev pub broken : ℕ → List ℕ → Fault
broken end [] = Unclosed end
broken end (b ∷ s) = Char (place_of end (b ∷ s))

-- whether the bytes are UTF-8, or would be if their last character were not cut off by their end
abbrev pub may_be_utf8 : List ℕ → Bool
may_be_utf8 s = is_utf8 s || is_none (utf8_error_len (drop (utf8_valid_len s) s))

-- what begins in front of s is cut off by the end, unless a byte before that is wrong
abbrev pub cut : ℕ → List ℕ → Fault
cut end s = if may_be_utf8 s then Unclosed (place_of end s) else Char (place_of end s)

-- a fault inside of what begins in front of s stands where it begins
abbrev pub inside : ℕ → List ℕ → Fault → Fault
inside end s (Char at) = Char (place_of end s)
inside end s (Unclosed at) = cut end s

-- any byte
abbrev pub any : ℕ → Option ℕ
any b = Some b

-- this byte
abbrev pub this : ℕ → ℕ → Option ℕ
this a b = if b == a then Some b else None

infixl 10 ◌>>=◌
abbrev pub ◌>>=◌ : {A B : Type 0} → Format ℕ Fault A → (A → Format ℕ Fault B) → Format ℕ Fault B
a >>= f = seq a f
