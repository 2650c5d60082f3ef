-- Formats of bytes, and where reading them stops.
use Rattle.std.specs.Prelude.{ℕ, Bool, true, false, List}
use Rattle.ms_bytes.specs.Spot.{place_of}
use Rattle.ms_bytes.specs.Format.{Format}
use Rattle.ms_bin_grammar.specs.declared.fault.ReadFault.{ReadFault}
use Rattle.ms_bin_grammar.specs.declared.fault.ReadFault.TheVariants.{Float, Malformed}

abbrev pub Binary : Type 0 → Type 1
Binary A = Format ℕ ReadFault A

-- a fault at the item that would begin here
abbrev pub malformed : ℕ → List ℕ → ReadFault
malformed end s = Malformed (place_of end s)

-- a fault at a code, which is that of floating-point numbers or of nothing
abbrev pub wrong : Bool → ℕ → ReadFault
wrong true at = Float at
wrong false at = Malformed at
