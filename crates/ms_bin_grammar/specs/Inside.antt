-- Reading an item whose size in bytes stands before it.
use Rattle.std.specs.Prelude.{◌==◌, ℕ, List, [], ◌++◌, length, drop, nat_lt, Result, Ok, Err, if◌then◌else◌}
use Rattle.ms_bytes.specs.Spot.{Spot, part}
use Rattle.ms_bytes.specs.Reading.{◌>>=◌, Reader}
use Rattle.ms_leb.specs.Leb128.{UnsignedAt}
use Rattle.ms_bin_grammar.specs.declared.fault.ReadFault.{ReadFault}
use Rattle.ms_bin_grammar.specs.Faults.{malformed}
use Rattle.ms_bin_grammar.specs.Numbers.{number_at}

-- the bytes of the item; a size that passes what is left is a fault at the size
unfoldable pub bounded_at : Reader ℕ ReadFault Spot
bounded_at end s = do
  n ← number_at 32 end s
  if nat_lt (length n.1) n.0 then Err (malformed end s) else Ok (part n.0 (record { end = end; left = n.1 }), drop n.0 n.1)

-- nothing is left
abbrev pub end_at : ℕ → List ℕ → Result (Unit {0}) ReadFault
end_at end s = if length s == 0 then Ok tt else Err (malformed end s)

unfoldable pub sized_at : {A : Type 0} → Reader ℕ ReadFault A → Reader ℕ ReadFault A
sized_at item end s = do
  inside ← bounded_at end s
  x ← item inside.0.end inside.0.left
  done ← end_at inside.0.end x.1
  Ok (x.0, inside.1)

-- the item, of exactly as many bytes
abbrev pub IsSized : {A : Type 0} → (List ℕ → A → List ℕ → Type 0) → List ℕ → A → List ℕ → Type 0
IsSized R s x t = (text : List ℕ) × UnsignedAt 32 s (length text) (text ++ t) × R text x []
