-- Laws of the parts of formats: what is read is spelled so, and what is spelled so is read.
use Rattle.std.proofs.Common.{◌≡◌, ◌+◌, ◌≤◌, ℕ, Option, Some, None, List, [], ◌∷◌, length, Ok, refl, sym, ap, arith}
use Rattle.ms_bytes.specs.Reading.{◌>>=◌, okay}
use Rattle.ms_bytes.specs.Format.{Format}
use Rattle.ms_bytes.specs.Items.{ItemSpelled, ended_at, item_at, taken}
use Rattle.ms_bytes.specs.ResultLaws.{bind_ok, ok_is}

-- ---- one after the other

module _ {E F A B : Type 0} (a : Format E F A) (f : A → Format E F B) where
  pub seq_takes : (end : ℕ) (s : List E) (y : B) (t : List E) → (a.read end s >>= λ x. (f x.0).read end x.1) ≡ Ok (y, t)
      → (x : A) × (m : List E) × a.spelled s x m × (f x).spelled m y t
  seq_takes end s y t e =
      let x = bind_ok (a.read end s) (λ x. (f x.0).read end x.1) (y, t) e in
      (x.0.0, x.0.1, a.takes end s x.0.0 x.0.1 x.1, (f x.0.0).takes end x.0.1 y t x.2)

  pub seq_again : (end : ℕ) (s : List E) (y : B) (t : List E) → (x : A) × (m : List E) × a.spelled s x m × (f x).spelled m y t
      → (a.read end s >>= λ x. (f x.0).read end x.1) ≡ Ok (y, t)
  seq_again end s y t h = rw (a.again end s h.0 h.1 h.2) ((f h.0).again end h.1 y t h.3)

  pub seq_fits : (s : List E) (y : B) (t : List E) → (x : A) × (m : List E) × a.spelled s x m × (f x).spelled m y t → length t + a.least ≤ length s
  seq_fits s y t h = omega (arith, a.fits s h.0 h.1 h.2, (f h.0).fits h.1 y t h.3)

-- ---- nothing

pub pure_takes : {E F A : Type 0} (v : A) (end : ℕ) (s : List E) (x : A) (t : List E) → okay {F = F} {A = A × List E} (v, s) ≡ okay {F = F} (x, t) → (x ≡ v) × (s ≡ t)
pure_takes {E} {F} {A} v end s x t e =
    let p = ok_is {F = F} (v, s) (x, t) e in
    (sym (ap (λ (q : A × List E). q.0) p), ap (λ (q : A × List E). q.1) p)

pub pure_again : {E F A : Type 0} (v : A) (end : ℕ) (s : List E) (x : A) (t : List E) → (x ≡ v) × (s ≡ t) → okay {F = F} {A = A × List E} (v, s) ≡ okay {F = F} (x, t)
pure_again v end s x t h = rw (h.0, h.1) refl

pub pure_fits : {E A : Type 0} (v : A) (s : List E) (x : A) (t : List E) → (x ≡ v) × (s ≡ t) → length t + 0 ≤ length s
pure_fits v s x t h = rw h.1 (omega arith)

-- ---- an item

taken_is : {E F A : Type 0} (fault : F) (s : List E) (o : Option A) (x : A) (t : List E) → taken fault s o ≡ Ok (x, t) → (s ≡ t) × (o ≡ Some x)
taken_is {E} {F} {A} fault s (Some y) x t e =
    let p = ok_is {F = F} (y, s) (x, t) e in
    (ap (λ (q : A × List E). q.1) p, ap (λ (q : A × List E). Some q.0) p)
taken_is fault s None x t e = absurd cc

module _ {E F A : Type 0} (fault : ℕ → List E → F) (f : E → Option A) where
  pub item_takes : (end : ℕ) (s : List E) (x : A) (t : List E) → item_at fault f end s ≡ Ok (x, t) → ItemSpelled f s x t
  item_takes end [] x t e = absurd cc
  item_takes end (b ∷ s) x t e = let p = taken_is (fault end (b ∷ s)) s (f b) x t e in (b, ap (λ (l : List E). b ∷ l) p.0, p.1)

  pub item_again : (end : ℕ) (s : List E) (x : A) (t : List E) → ItemSpelled f s x t → item_at fault f end s ≡ Ok (x, t)
  item_again end s x t h = rw (h.1, h.2) refl

pub item_fits : {E A : Type 0} (f : E → Option A) (s : List E) (x : A) (t : List E) → ItemSpelled f s x t → length t + 1 ≤ length s
item_fits f s x t h = let l = ap length h.1 in omega arith

-- ---- a choice

pub fits_least : (n least : ℕ) (s t : ℕ) → n ≤ least → t + least ≤ s → t + n ≤ s
fits_least n least s t le h = omega arith

pub any_least : (n : ℕ) → 0 ≤ n
any_least n = omega arith

-- ---- the end

pub ended_takes : {E F : Type 0} (fault : ℕ → List E → F) (end : ℕ) (s : List E) (x : Unit {0}) (t : List E) → ended_at fault end s ≡ Ok (x, t) → (s ≡ []) × (t ≡ [])
ended_takes {E} {F} fault end [] x t e = (refl, sym (ap (λ (q : Unit {0} × List E). q.1) (ok_is {F = F} (tt, []) (x, t) e)))
ended_takes fault end (b ∷ s) x t e = absurd cc

pub ended_again : {E F : Type 0} (fault : ℕ → List E → F) (end : ℕ) (s : List E) (x : Unit {0}) (t : List E) → (s ≡ []) × (t ≡ []) → ended_at fault end s ≡ Ok (x, t)
ended_again fault end s x t h = rw (h.0, h.1) refl

pub ended_fits : {E : Type 0} (s : List E) (x : Unit {0}) (t : List E) → (s ≡ []) × (t ≡ []) → length t + 0 ≤ length s
ended_fits s x t h = rw h.1 (omega arith)
