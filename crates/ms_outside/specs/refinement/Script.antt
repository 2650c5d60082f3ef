-- Which calls of an object in memory are to fail, for tests.
use Rattle.std.specs.Prelude.{◌==◌, ℕ, ◌+◌, Bool, List, [], ◌∷◌, ◌++◌, min, if◌then◌else◌}
use Rattle.std.specs.List.{list_any}
use Rattle.ms_outside.specs.Faults.{last_count}

-- the numbers of the calls that are to fail, counted from 1, and how many calls there were
pub record Script : Type 0 where
  pub failing : List ℕ
  pub calls : ℕ

abbrev pub no_script : Script
no_script = record { failing = []; calls = 0 }

-- one more, or the last value of a u64
abbrev pub one_more : ℕ → ℕ
one_more n = min (n + 1) last_count

-- whether the next call is to fail
abbrev pub next_fails : Script → Bool
next_fails s = list_any (λ call. call == one_more s.calls) s.failing

-- after one more call
abbrev pub called : Script → Script
called s = record s { calls = one_more s.calls }

-- this call is to fail too
abbrev pub also_failing : ℕ → Script → Script
also_failing call s = record s { failing = s.failing ++ call ∷ [] }

-- a count of faults after a call that failed or did not
abbrev pub counted : Bool → ℕ → ℕ
counted failed faults = if failed then one_more faults else faults
