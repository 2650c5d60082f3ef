-- What the adapters ask of a device, each of whose calls that failed is counted by the device.
use Rattle.std.specs.Prelude.{◌≡◌, ℕ, List, [], Result, MatchResult, IfOk}
use Rattle.ms_outside.specs.Faults.{CountsFault}

-- the count of faults after a call with this outcome
abbrev pub CountsOutcome : {T E : Type 0} → Result T E → ℕ → ℕ → Type 0
CountsOutcome outcome before after = MatchResult outcome (λ _. after ≡ before) (λ _. CountsFault before after)

-- a write takes something of a piece that isn't empty
abbrev pub TakesSome : {E : Type 0} → Result ℕ E → List ℕ → Type 0
TakesSome outcome piece = IfOk outcome (λ n. n ≡ 0 → piece ≡ [])
