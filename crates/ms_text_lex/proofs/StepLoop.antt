-- A loop that takes steps.
use Rattle.std.proofs.Common.{◌≡◌, ℕ, ◌-◌, ◌+◌, ◌≤◌, ◌<◌, Bool, true, false, List, Option, Some, None, Result, Ok, Err, sym, ap, ◌∙◌}
use Rattle.ms_bytes.specs.Reading.{◌>>=◌}
use Rattle.ms_bytes.specs.Format.{Format}
use Rattle.ms_bytes.specs.Runs.{run_at}
use Rattle.ms_bytes.specs.RunLaws.{run_ends, run_is_step, run_on, run_over}
use Rattle.ms_text_lex.specs.Fault.{Fault, broken}
use Rattle.ms_text_lex.specs.Readers.{FailsBy}

-- what fails in its first step fails
pub fails_first : {A B : Type 0} (o : Option Fault) (first : Result A Fault) (next : A → Result B Fault) → FailsBy o first → FailsBy o (first >>= next)
fails_first (Some f) first next h = ap (λ (r : Result _ Fault). r >>= next) h
fails_first None first next h = tt

module _ {S : Type 0} (going : S → List ℕ → Bool) (step : ℕ → S → Format ℕ Fault S) (end now : ℕ) (same : now ≡ end) (n i : ℕ) (st : S) (s : List ℕ) (total : Result (S × List ℕ) Fault)
    (so_far : run_at broken going (step end) (n - i) st end s ≡ total) where
  pub ends : (b : Bool) → b ≡ going st s → b ≡ false → total ≡ Ok (st, s)
  ends b g is = run_ends broken going (step end) n i st end s total so_far (sym g ∙ is)

  pub fails : (b : Bool) (o : Option Fault) → b ≡ going st s → b ≡ true → i < n → FailsBy o ((step now st).read now s) → FailsBy o total
  fails b o g is lt h =
      let e = run_is_step broken going (step end) n i st end s total so_far lt (sym g ∙ is) in
      rw e (fails_first o ((step end st).read end s) _ (rw (← same) h))

  pub on : (b : Bool) (next : S) (t : List ℕ) → b ≡ going st s → b ≡ true → i < n → (step now st).read now s ≡ Ok (next, t)
      → run_at broken going (step end) (n - (i + 1)) next end t ≡ total
  on b next t g is lt h =
      let read : (step end st).read end s ≡ Ok (next, t) = rw (← same) h in
      run_on broken going (step end) n i st end s total so_far next t lt (sym g ∙ is) read

  pub over : (b : Bool) → b ≡ going st s → b ≡ true → n ≤ i → total ≡ Err (broken now s)
  over b g is le = rw same (run_over broken going (step end) n i st end s total so_far le (sym g ∙ is))
