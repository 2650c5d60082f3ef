-- The text of an event: a word and its numbers, in decimal without leading zeros, with one space between. Where a sealed handle was
-- sliced or read through, the word for it ends the line.
use Rattle.std.specs.Prelude.{◌<◌, ℕ, Bool, true, false, List, [], ◌∷◌, ◌++◌, codes}
use Rattle.std.specs.Fmt.{decimal}
use Rattle.ms_event.specs.declared.event.Event.{Event}
use Rattle.ms_event.specs.declared.event.Event.TheVariants.{Alloc, Free, Read, Refused, Seal, Slice, Write}

-- a space and a number, for each number
abbrev pub numbers : List ℕ → List ℕ
numbers [] = []
numbers (n ∷ ns) = 32 ∷ decimal n ++ numbers ns

-- the end of a line that tells of a handle
abbrev pub ending : Bool → List ℕ
ending false = []
ending true = codes " sealed"

abbrev pub text : Event → List ℕ
text (Alloc id addr size) = codes "alloc" ++ numbers (id ∷ addr ∷ size ∷ [])
text (Refused size) = codes "refused" ++ numbers (size ∷ [])
text (Seal id lo hi) = codes "seal" ++ numbers (id ∷ lo ∷ hi ∷ [])
text (Slice sealed id lo hi lo2 hi2) = codes "slice" ++ (numbers (id ∷ lo ∷ hi ∷ lo2 ∷ hi2 ∷ []) ++ ending sealed)
text (Read sealed id lo hi addr width) = codes "read" ++ (numbers (id ∷ lo ∷ hi ∷ addr ∷ width ∷ []) ++ ending sealed)
text (Write id lo hi addr width) = codes "write" ++ numbers (id ∷ lo ∷ hi ∷ addr ∷ width ∷ [])
text (Free id) = codes "free" ++ numbers (id ∷ [])

-- an identity is below 2^64, all else below 2^32
abbrev pub IsId : ℕ → Type 0
IsId n = n < 18446744073709551616

abbrev pub IsWord : ℕ → Type 0
IsWord n = n < 4294967296

abbrev pub IsInRange : Event → Type 0
IsInRange (Alloc id addr size) = IsId id × IsWord addr × IsWord size
IsInRange (Refused size) = IsWord size
IsInRange (Seal id lo hi) = IsId id × IsWord lo × IsWord hi
IsInRange (Slice sealed id lo hi lo2 hi2) = IsId id × IsWord lo × IsWord hi × IsWord lo2 × IsWord hi2
IsInRange (Read sealed id lo hi addr width) = IsId id × IsWord lo × IsWord hi × IsWord addr × IsWord width
IsInRange (Write id lo hi addr width) = IsId id × IsWord lo × IsWord hi × IsWord addr × IsWord width
IsInRange (Free id) = IsId id
