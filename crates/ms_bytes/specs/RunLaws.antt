-- Laws of steps that are taken as long as there is another one.
use Rattle.std.specs.Prelude.{◌≡◌, ℕ, zero, suc, ◌+◌, ◌-◌, ◌<◌, ◌≤◌, Bool, true, false, List, length, Result, Ok, Err, refl}
use Rattle.std.proofs.Common.{inl, inr, sym, subst, ◌∙◌, arith}
use Rattle.ms_bytes.specs.Reading.{◌>>=◌, okay}
use Rattle.ms_bytes.specs.ResultLaws.{bind_ok, chosen, not_refused, ok_is}
use Rattle.ms_bytes.specs.Format.{Format}
use Rattle.ms_bytes.specs.Runs.{Runs, TakesItem, goes, rests, run_at}

-- each step takes an item since its format does
pub takes_least : {E F S : Type 0} (going : S → List E → Bool) (step : S → Format E F S) → ((st : S) → 1 ≤ (step st).least) → TakesItem going step
takes_least going step enough st s x t g h = omega (arith, enough st, (step st).fits s x t h)

same_ends : {E F S : Type 0} (going : S → List E → Bool) (step : S → Format E F S) (st x : S) (s t : List E) → going st s ≡ false → okay {F = F} {A = S × List E} (st, s) ≡ okay {F = F} (x, t) → Runs going step st s x t
same_ends {E} {F} {S} going step st x s t h e = subst (λ (q : S × List E). Runs going step st s q.0 q.1) (ok_is {F = F} (st, s) (x, t) e) (rests h)

module _ {E F S : Type 0} (fault : ℕ → List E → F) (going : S → List E → Bool) (step : S → Format E F S) where
  pub run_takes : (n : ℕ) (st : S) (end : ℕ) (s : List E) (x : S) (t : List E) → run_at fault going step n st end s ≡ Ok (x, t) → Runs going step st s x t
  unfolding run_at
  run_takes zero st end s x t e =
      elim (chosen (going st s) _ _ _ e) [
        | inl h ↦ absurd (not_refused {A = S × List E} (fault end s) (x, t) h.1)
        | inr h ↦ same_ends going step st x s t h.0 h.1
      ]
  run_takes (suc n) st end s x t e =
      elim (chosen (going st s) _ _ _ e) [
        | inl h ↦
            let y = bind_ok ((step st).read end s) (λ y. run_at fault going step n y.0 end y.1) (x, t) h.1 in
            goes y.0.0 h.0 ((step st).takes end s y.0.0 y.0.1 y.1) (run_takes n y.0.0 end y.0.1 x t y.2)
        | inr h ↦ same_ends going step st x s t h.0 h.1
      ]

  run_rests : (n : ℕ) (st : S) (end : ℕ) (s : List E) → going st s ≡ false → run_at fault going step n st end s ≡ Ok (st, s)
  unfolding run_at
  run_rests zero st end s h = rw h refl
  run_rests (suc n) st end s h = rw h refl

  run_goes : (n : ℕ) (st next last : S) (end : ℕ) (s t u : List E) → going st s ≡ true → (step st).read end s ≡ Ok (next, t) → length t < length s → length s ≤ n
      → ((k : ℕ) → length t ≤ k → run_at fault going step k next end t ≡ Ok (last, u)) → run_at fault going step n st end s ≡ Ok (last, u)
  unfolding run_at
  run_goes zero st next last end s t u g e lt le on = absurd (omega arith)
  run_goes (suc n) st next last end s t u g e lt le on = rw (g, e) (on n (omega arith))

  pub run_again : TakesItem going step → {st last : S} {s u : List E} → Runs going step st s last u → (n end : ℕ) → length s ≤ n → run_at fault going step n st end s ≡ Ok (last, u)
  run_again shorter (rests {st = st} {s = s} h) n end le = run_rests n st end s h
  run_again shorter (goes {st = st} {last = last} {s = s} {t = t} {u = u} next g h r) n end le =
      run_goes n st next last end s t u g ((step st).again end s next t h) (shorter st s next t g h) le (λ k fits. run_again shorter r k end fits)

  pub run_fits : {st last : S} {s u : List E} → Runs going step st s last u → length u + 0 ≤ length s
  run_fits (rests h) = omega arith
  run_fits (goes {st = st} {s = s} {t = t} next g h r) = let le = run_fits r in omega (arith, (step st).fits s next t h)

-- there is no further step at the end
pub run_last : {E F S : Type 0} (going : S → List E → Bool) (step : S → Format E F S) {st last : S} {s u : List E} → Runs going step st s last u → going last u ≡ false
run_last going step (rests h) = h
run_last going step (goes next g h r) = run_last going step r

-- ---- a loop that runs: i of n steps are taken, and what is left of it is all of it

module _ {E F S : Type 0} (fault : ℕ → List E → F) (going : S → List E → Bool) (step : S → Format E F S) (n i : ℕ) (st : S) (end : ℕ) (s : List E) (total : Result (S × List E) F) (so_far : run_at fault going step (n - i) st end s ≡ total) where
  -- the next step
  pub run_is_step : i < n → going st s ≡ true → total ≡ ((step st).read end s >>= λ x. run_at fault going step (n - (i + 1)) x.0 end x.1)
  unfolding run_at
  run_is_step lt g =
      let k : n - i ≡ suc (n - (i + 1)) = omega arith in
      rw (← so_far, k, g) refl

  pub run_fails : (e : F) → i < n → going st s ≡ true → (step st).read end s ≡ Err e → total ≡ Err e
  run_fails e lt g h = rw (run_is_step lt g, h) refl

  pub run_on : (next : S) (t : List E) → i < n → going st s ≡ true → (step st).read end s ≡ Ok (next, t) → run_at fault going step (n - (i + 1)) next end t ≡ total
  run_on next t lt g h = rw (run_is_step lt g, h) refl

  pub run_ends : going st s ≡ false → total ≡ Ok (st, s)
  run_ends g = sym so_far ∙ run_rests fault going step (n - i) st end s g

  pub run_over : n ≤ i → going st s ≡ true → total ≡ Err (fault end s)
  unfolding run_at
  run_over le g =
      let k : n - i ≡ 0 = omega arith in
      rw (← so_far, k, g) refl
