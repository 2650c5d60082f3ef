-- A loop that takes steps.
use Rattle.std.proofs.Common.{◌≡◌, ℕ, ◌-◌, ◌+◌, ◌≤◌, ◌<◌, Bool, true, false, List, length, Option, Some, None, Result, Ok, Err, refl, sym, ap, ◌∙◌, arith}
use Rattle.ms_bytes.specs.Reading.{◌>>=◌}
use Rattle.ms_bytes.specs.Format.{Format}
use Rattle.ms_bytes.specs.Runs.{run_at}
use Rattle.ms_bytes.specs.RunLaws.{run_ends, run_is_step, run_on, run_over}
use Rattle.ms_text_lex.specs.declared.token.Token.{Token}
use Rattle.ms_text_grammar.specs.declared.fault.TextFault.{TextFault}
use Rattle.ms_text_grammar.specs.Faults.{bad}
use Rattle.ms_text_parts.specs.refinement.Readers.{FailsBy}

-- what fails in its first step fails
pub fails_first : {A B : Type 0} (o : Option TextFault) (first : Result A TextFault) (next : A → Result B TextFault) → FailsBy o first → FailsBy o (first >>= next)
fails_first (Some f) first next h = ap (λ (r : Result _ TextFault). r >>= next) h
fails_first None first next h = tt

module _ {S : Type 0} (going : List ℕ → S → List Token → Bool) (step : List ℕ → S → Format Token TextFault S) (source src : List ℕ) (same : src ≡ source) (n i : ℕ) (st : S) (s : List Token) (total : Result (S × List Token) TextFault)
    (so_far : run_at (bad source) (going source) (step source) (n - i) st (length source) s ≡ total) where
  pub ends : (b : Bool) → b ≡ going src st s → b ≡ false → total ≡ Ok (st, s)
  ends b g is = run_ends (bad source) (going source) (step source) n i st (length source) s total so_far (rw (← same) (sym g ∙ is))

  pub fails : (b : Bool) (o : Option TextFault) → b ≡ going src st s → b ≡ true → i < n → FailsBy o ((step src st).read (length src) s) → FailsBy o total
  fails b o g is lt h =
      let go : going source st s ≡ true = rw (← same) (sym g ∙ is) in
      let e = run_is_step (bad source) (going source) (step source) n i st (length source) s total so_far lt go in
      rw e (fails_first o ((step source st).read (length source) s) _ (rw (← same) h))

  pub on : (b : Bool) (next : S) (t : List Token) → b ≡ going src st s → b ≡ true → i < n → (step src st).read (length src) s ≡ Ok (next, t)
      → run_at (bad source) (going source) (step source) (n - (i + 1)) next (length source) t ≡ total
  on b next t g is lt h =
      let go : going source st s ≡ true = rw (← same) (sym g ∙ is) in
      let read : (step source st).read (length source) s ≡ Ok (next, t) = rw (← same) h in
      run_on (bad source) (going source) (step source) n i st (length source) s total so_far next t lt go read

  pub over : (b : Bool) → b ≡ going src st s → b ≡ true → n ≤ i → total ≡ Err (bad src (length src) s)
  over b g is le =
      let go : going source st s ≡ true = rw (← same) (sym g ∙ is) in
      rw same (run_over (bad source) (going source) (step source) n i st (length source) s total so_far le go)
