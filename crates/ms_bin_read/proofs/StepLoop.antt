-- Taking steps as a loop does.
use Rattle.std.proofs.Common.{◌≡◌, ℕ, ◌-◌, ◌<◌, Bool, true, List, Result}
use Rattle.ms_bytes.specs.Runs.{run_at}
use Rattle.ms_bytes.specs.RunLaws.{run_fails}
use Rattle.ms_bin_grammar.specs.declared.fault.ReadFault.{ReadFault}
use Rattle.ms_bin_grammar.specs.declared.fault.ReadFault.TheVariants.{Float, Limit, Malformed, Memory}
use Rattle.ms_bin_grammar.specs.Faults.{Binary, malformed}
use Rattle.ms_bin_read.specs.refinement.Readers.{Fails}

module _ {S : Type 0} (going : S → List ℕ → Bool) (step : S → Binary S) (n i : ℕ) (st : S) (end : ℕ) (s : List ℕ) (total : Result (S × List ℕ) ReadFault) (so_far : run_at malformed going step (n - i) st end s ≡ total) where
  pub steps_fail : (e : ReadFault) → i < n → going st s ≡ true → Fails e ((step st).read end s) → Fails e total
  steps_fail (Malformed at) lt g h = run_fails malformed going step n i st end s total so_far (Malformed at) lt g h
  steps_fail (Float at) lt g h = run_fails malformed going step n i st end s total so_far (Float at) lt g h
  steps_fail (Limit which at) lt g h = run_fails malformed going step n i st end s total so_far (Limit which at) lt g h
  steps_fail Memory lt g h = tt
