-- What the readers of the code give, against what reading gives.
use Rattle.std.specs.Prelude.{◌≡◌, ℕ, List, Result, Ok, Err}
use denote.Ref.{Bor}
use Rattle.ms_bytes.specs.Spot.{Spot}
use Rattle.ms_bin_grammar.specs.Module.{Stops}
use Rattle.ms_bin_grammar.specs.declared.fault.ReadFault.{ReadFault}
use Rattle.ms_bin_grammar.specs.declared.fault.ReadFault.TheVariants.{Float, Limit, Malformed, Memory}

-- the reader stopped where reading does, unless memory ran out
abbrev pub Fails : {A : Type 0} → ReadFault → Result A ReadFault → Type 0
Fails (Malformed at) read = read ≡ Err (Malformed at)
Fails (Float at) read = read ≡ Err (Float at)
Fails (Limit which at) read = read ≡ Err (Limit which at)
Fails Memory read = Unit {0}

-- the answer, and what the cursor has left, are what reading gives, unless memory ran out
abbrev pub Reads : {A : Type 0} → Spot → Spot → Result A ReadFault → Result (A × List ℕ) ReadFault → Type 0
Reads old new (Ok x) read = (read ≡ Ok (x, new.left)) × (new.end ≡ old.end)
Reads old new (Err e) read = Fails e read

-- the same where the answer is what a state has become
abbrev pub StepsTo : {S : Type 0} → S → Spot → Spot → Result (Unit {0}) ReadFault → Result (S × List ℕ) ReadFault → Type 0
StepsTo after old new (Ok x) read = (read ≡ Ok (after, new.left)) × (new.end ≡ old.end)
StepsTo after old new (Err e) read = Fails e read

-- the same where nothing is taken
abbrev pub Finds : {A : Type 0} → Result A ReadFault → Result A ReadFault → Type 0
Finds (Ok x) read = read ≡ Ok x
Finds (Err e) read = Fails e read

-- the same where the answer is a part of the bytes
abbrev pub ReadsPart : Spot → Spot → Result (Bor (List ℕ)) ReadFault → Result (List ℕ × List ℕ) ReadFault → Type 0
ReadsPart old new (Ok x) read = (read ≡ Ok (x.now, new.left)) × (new.end ≡ old.end)
ReadsPart old new (Err e) read = Fails e read

-- this is the first fault of the bytes, unless memory ran out
abbrev pub IsFirstFault : List ℕ → ReadFault → Type 0
IsFirstFault bytes (Malformed at) = Stops bytes (Malformed at)
IsFirstFault bytes (Float at) = Stops bytes (Float at)
IsFirstFault bytes (Limit which at) = Stops bytes (Limit which at)
IsFirstFault bytes Memory = Unit {0}
