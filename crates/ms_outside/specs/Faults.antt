-- Counts of calls and of faults. An object counts each of its calls, and each of those that failed.
use Rattle.std.specs.Prelude.{◌≡◌, ℕ, ◌+◌, ◌<◌, ◌≤◌, ◌⊎◌}

-- the last value of a u64, where a counter stays
abbrev pub last_count : ℕ
last_count = 18446744073709551615

-- The count of calls after exactly one more, whatever it answered: one more than before, or at the last value as before.
abbrev pub CountsCall : ℕ → ℕ → Type 0
CountsCall before after = (after ≡ before + 1) ⊎ ((before ≡ last_count) × (after ≡ last_count))

-- The count rose: it is greater than before, or stands at the last value.
abbrev pub Rose : ℕ → ℕ → Type 0
Rose before after = (before < after) ⊎ (after ≡ last_count)

-- the count after a call that failed
pub record CountsFault (before after : ℕ) : Type 0 where
  pub never_falls : before ≤ after
  pub rose : Rose before after
