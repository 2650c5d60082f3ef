-- Laws of codes and what stands behind them.
use Rattle.std.specs.Prelude.{◌≡◌, ◌≢◌, ℕ, ◌+◌, ◌≤◌, true, false, Option, Some, None, List, [], ◌∷◌, length, Ok, refl}
use Rattle.std.proofs.Common.{eqb, inl, inr, ap, arith}
use Rattle.std.proofs.lemmas.Bool.{eqb-true, eq-eqb}
use Rattle.std.proofs.lemmas.Bool.Decides.{nat_tests}
use Rattle.ms_bytes.specs.Spot.{place_of}
use Rattle.ms_bytes.specs.Reading.{◌>>=◌}
use Rattle.ms_bytes.specs.ResultLaws.{bind_ok, chosen, not_refused}
use Rattle.ms_bytes.specs.Format.{Format}
use Rattle.ms_bytes.specs.Codes.{AmongSpelled, Case, CaseSpelled, Coded, CodedSpelled, Is, IsIf, NamedSpelled, PairSpelled, SecondSpelled, among_at, case_at, coded_at, named_at, pair_at, second_at}

apart : (b c : ℕ) → b ≢ c → eqb b c ≡ false
apart b c ne = grind (arith, nat_tests)

differs : (b c : ℕ) → eqb b c ≡ false → b ≢ c
differs b c e is = absurd (let f : eqb b c ≡ true = eq-eqb b c is in cc)

-- what fits, and takes nothing more for sure
pub at_least_none : {A F : Type 0} (f : Format ℕ F A) (s : List ℕ) (x : A) (t : List ℕ) → f.spelled s x t → length t ≤ length s
at_least_none f s x t h = omega (arith, f.fits s x t h)

-- ---- rows

module _ {F A : Type 0} where
  pub case_takes : (at : ℕ) (k : Case F A) (end : ℕ) (s : List ℕ) (x : A) (t : List ℕ) → case_at at k end s ≡ Ok (x, t) → CaseSpelled k s x t
  case_takes at (Is f) end s x t e = f.takes end s x t e
  case_takes at (IsIf true fault f) end s x t e = (refl, f.takes end s x t e)
  case_takes at (IsIf false fault f) end s x t e = absurd (not_refused {A = A × List ℕ} (fault at) (x, t) e)

  pub case_again : (at : ℕ) (k : Case F A) (end : ℕ) (s : List ℕ) (x : A) (t : List ℕ) → CaseSpelled k s x t → case_at at k end s ≡ Ok (x, t)
  case_again at (Is f) end s x t h = f.again end s x t h
  case_again at (IsIf b fault f) end s x t h = rw h.0 (f.again end s x t h.1)

  pub case_fits : (k : Case F A) (s : List ℕ) (x : A) (t : List ℕ) → CaseSpelled k s x t → length t ≤ length s
  case_fits (Is f) s x t h = at_least_none f s x t h
  case_fits (IsIf b fault f) s x t h = at_least_none f s x t h.1

  pub among_takes : (rows : List (ℕ × Case F A)) (others : Coded F A) (at code end : ℕ) (s : List ℕ) (x : A) (t : List ℕ) → among_at rows others at code end s ≡ Ok (x, t) → AmongSpelled rows others code s x t
  among_takes [] others at code end s x t e = others.takes at code end s x t e
  among_takes (row ∷ rows) others at code end s x t e =
      elim (chosen (eqb code row.0) _ _ _ e) [
        | inl h ↦ inl (eqb-true code row.0 h.0, case_takes at row.1 end s x t h.1)
        | inr h ↦ inr (differs code row.0 h.0, among_takes rows others at code end s x t h.1)
      ]

  pub among_again : (rows : List (ℕ × Case F A)) (others : Coded F A) (at code end : ℕ) (s : List ℕ) (x : A) (t : List ℕ) → AmongSpelled rows others code s x t → among_at rows others at code end s ≡ Ok (x, t)
  among_again [] others at code end s x t h = others.again at code end s x t h
  among_again (row ∷ rows) others at code end s x t (inl h) = rw (eq-eqb code row.0 h.0) (case_again at row.1 end s x t h.1)
  among_again (row ∷ rows) others at code end s x t (inr h) = rw (apart code row.0 h.0) (among_again rows others at code end s x t h.1)

  pub among_fits : (rows : List (ℕ × Case F A)) (others : Coded F A) (code : ℕ) (s : List ℕ) (x : A) (t : List ℕ) → AmongSpelled rows others code s x t → length t ≤ length s
  among_fits [] others code s x t h = others.fits code s x t h
  among_fits (row ∷ rows) others code s x t (inl h) = case_fits row.1 s x t h.1
  among_fits (row ∷ rows) others code s x t (inr h) = among_fits rows others code s x t h.1

-- ---- names

module _ {F K A : Type 0} (behind : K → Format ℕ F A) (others : Coded F A) where
  pub named_takes : (name : Option K) (at code end : ℕ) (s : List ℕ) (x : A) (t : List ℕ) → named_at behind others name at code end s ≡ Ok (x, t) → NamedSpelled behind others name code s x t
  named_takes None at code end s x t e = others.takes at code end s x t e
  named_takes (Some k) at code end s x t e = (behind k).takes end s x t e

  pub named_again : (name : Option K) (at code end : ℕ) (s : List ℕ) (x : A) (t : List ℕ) → NamedSpelled behind others name code s x t → named_at behind others name at code end s ≡ Ok (x, t)
  named_again None at code end s x t h = others.again at code end s x t h
  named_again (Some k) at code end s x t h = (behind k).again end s x t h

  pub named_fits : (name : Option K) (code : ℕ) (s : List ℕ) (x : A) (t : List ℕ) → NamedSpelled behind others name code s x t → length t ≤ length s
  named_fits None code s x t h = others.fits code s x t h
  named_fits (Some k) code s x t h = at_least_none (behind k) s x t h

-- ---- a second code

module _ {F A : Type 0} (missing : ℕ → F) (first : ℕ) (seconds others : Coded F A) where
  second_takes : (at end : ℕ) (s : List ℕ) (x : A) (t : List ℕ) → second_at missing seconds at end s ≡ Ok (x, t) → SecondSpelled seconds s x t
  second_takes at end [] x t e = absurd (not_refused {A = A × List ℕ} (missing at) (x, t) e)
  second_takes at end (b ∷ s) x t e = (b, s, refl, seconds.takes at b end s x t e)

  pub pair_takes : (at code end : ℕ) (s : List ℕ) (x : A) (t : List ℕ) → pair_at missing first seconds others at code end s ≡ Ok (x, t) → PairSpelled first seconds others code s x t
  pair_takes at code end s x t e =
      elim (chosen (eqb code first) _ _ _ e) [
        | inl h ↦ inl (eqb-true code first h.0, second_takes at end s x t h.1)
        | inr h ↦ inr (differs code first h.0, others.takes at code end s x t h.1)
      ]

  pub pair_again : (at code end : ℕ) (s : List ℕ) (x : A) (t : List ℕ) → PairSpelled first seconds others code s x t → pair_at missing first seconds others at code end s ≡ Ok (x, t)
  pair_again at code end s x t (inl h) = rw (eq-eqb code first h.0, h.1.2) (seconds.again at h.1.0 end h.1.1 x t h.1.3)
  pair_again at code end s x t (inr h) = rw (apart code first h.0) (others.again at code end s x t h.1)

pub pair_fits : {F A : Type 0} (first : ℕ) (seconds others : Coded F A) (code : ℕ) (s : List ℕ) (x : A) (t : List ℕ) → PairSpelled first seconds others code s x t → length t ≤ length s
pair_fits first seconds others code s x t (inl h) = let le = seconds.fits h.1.0 h.1.1 x t h.1.3 in let l = ap length h.1.2 in omega arith
pair_fits first seconds others code s x t (inr h) = others.fits code s x t h.1

-- ---- an item behind what a code is

module _ {F A B : Type 0} (codes : Coded F A) (f : A → Format ℕ F B) where
  pub then_takes : (at code end : ℕ) (s : List ℕ) (y : B) (t : List ℕ) → (codes.read at code end s >>= λ x. (f x.0).read end x.1) ≡ Ok (y, t) → (x : A) × (m : List ℕ) × codes.spelled code s x m × (f x).spelled m y t
  then_takes at code end s y t e =
      let x = bind_ok (codes.read at code end s) (λ x. (f x.0).read end x.1) (y, t) e in
      (x.0.0, x.0.1, codes.takes at code end s x.0.0 x.0.1 x.1, (f x.0.0).takes end x.0.1 y t x.2)

  pub then_again : (at code end : ℕ) (s : List ℕ) (y : B) (t : List ℕ) → (x : A) × (m : List ℕ) × codes.spelled code s x m × (f x).spelled m y t → (codes.read at code end s >>= λ x. (f x.0).read end x.1) ≡ Ok (y, t)
  then_again at code end s y t h = rw (codes.again at code end s h.0 h.1 h.2) ((f h.0).again end h.1 y t h.3)

  pub then_fits : (code : ℕ) (s : List ℕ) (y : B) (t : List ℕ) → (x : A) × (m : List ℕ) × codes.spelled code s x m × (f x).spelled m y t → length t ≤ length s
  then_fits code s y t h = omega (arith, codes.fits code s h.0 h.1 h.2, (f h.0).fits h.1 y t h.3)

-- ---- a code, and what stands behind it

module _ {F A : Type 0} (fault : ℕ → List ℕ → F) (codes : Coded F A) where
  pub coded_takes : (end : ℕ) (s : List ℕ) (x : A) (t : List ℕ) → coded_at fault codes end s ≡ Ok (x, t) → CodedSpelled codes s x t
  coded_takes end [] x t e = absurd (not_refused {A = A × List ℕ} (fault end []) (x, t) e)
  coded_takes end (b ∷ m) x t e = (b, m, refl, codes.takes (place_of end (b ∷ m)) b end m x t e)

  pub coded_again : (end : ℕ) (s : List ℕ) (x : A) (t : List ℕ) → CodedSpelled codes s x t → coded_at fault codes end s ≡ Ok (x, t)
  coded_again end s x t h = rw h.2 (codes.again (place_of end (h.0 ∷ h.1)) h.0 end h.1 x t h.3)

pub coded_fits : {F A : Type 0} (codes : Coded F A) (s : List ℕ) (x : A) (t : List ℕ) → CodedSpelled codes s x t → length t + 1 ≤ length s
coded_fits codes s x t h = let le = codes.fits h.0 h.1 x t h.3 in let l = ap length h.2 in omega arith
