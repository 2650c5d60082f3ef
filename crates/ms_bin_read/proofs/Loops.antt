-- Reading items one after the other, as loops do.
use Rattle.std.proofs.Common.{◌≡◌, ℕ, suc, ◌-◌, ◌+◌, ◌≤◌, ◌<◌, List, [], ◌∷◌, ◌++◌, Result, Ok, Err, refl, sym, ap, ◌∙◌, append_assoc, arith}
use Rattle.std.proofs.lemmas.List.{append-nil}
use Rattle.ms_bytes.specs.Reading.{◌>>=◌}
use Rattle.ms_bytes.specs.Repetition.{each, repeat, times}
use Rattle.ms_bin_grammar.specs.declared.fault.ReadFault.{ReadFault}
use Rattle.ms_bin_grammar.specs.declared.fault.ReadFault.TheVariants.{Float, Limit, Malformed, Memory}
use Rattle.ms_bin_grammar.specs.Faults.{Binary}
use Rattle.ms_bin_read.specs.refinement.Readers.{Fails}

-- what was read before, and what is still read
abbrev pub with_front : {A : Type 0} → List A → Result (List A × List ℕ) ReadFault → Result (List A × List ℕ) ReadFault
with_front front (Ok x) = Ok (front ++ x.0, x.1)
with_front front (Err e) = Err e

regroup : {A : Type 0} (front : List A) (x : A) (read : Result (List A × List ℕ) ReadFault) → with_front front (read >>= λ y. Ok (x ∷ y.0, y.1)) ≡ with_front (front ++ x ∷ []) read
regroup front x (Ok y) = ap (λ xs. Ok (xs, y.1)) (sym (append_assoc front (x ∷ []) y.0))
regroup front x (Err f) = refl

nothing_more : {A : Type 0} (front : List A) (bytes : List ℕ) → with_front front (Ok ([], bytes)) ≡ Ok (front, bytes)
nothing_more front bytes = ap (λ xs. Ok (xs, bytes)) (append-nil front)

-- what fails in its first step fails
pub fails_first : {A B : Type 0} (e : ReadFault) (first : Result A ReadFault) (next : A → Result B ReadFault) → Fails e first → Fails e (first >>= next)
fails_first (Malformed at) first next h = ap (λ (r : Result _ ReadFault). r >>= next) h
fails_first (Float at) first next h = ap (λ (r : Result _ ReadFault). r >>= next) h
fails_first (Limit which at) first next h = ap (λ (r : Result _ ReadFault). r >>= next) h
fails_first Memory first next h = tt

fails_after : {A : Type 0} (e : ReadFault) (front : List A) (read : Result (List A × List ℕ) ReadFault) → Fails e read → Fails e (with_front front read)
fails_after (Malformed at) front read h = ap (with_front front) h
fails_after (Float at) front read h = ap (with_front front) h
fails_after (Limit which at) front read h = ap (with_front front) h
fails_after Memory front read h = tt

-- ---- so many items

module _ {A : Type 0} (item : Binary A) (front : List A) (count i end : ℕ) (bytes : List ℕ) (total : Result (List A × List ℕ) ReadFault) (so_far : with_front front ((times (count - i) item).read end bytes) ≡ total) where
  pub times_fails : (e : ReadFault) → i < count → Fails e (item.read end bytes) → Fails e total
  unfolding times
  times_fails e lt h =
      let k : count - i ≡ suc (count - (i + 1)) = omega arith in
      rw (← so_far, k) (fails_after e front _ (fails_first e (item.read end bytes) _ h))

  pub times_goes : (x : A) (after : List ℕ) → i < count → item.read end bytes ≡ Ok (x, after) → with_front (front ++ x ∷ []) ((times (count - (i + 1)) item).read end after) ≡ total
  unfolding times
  times_goes x after lt h =
      let k : count - i ≡ suc (count - (i + 1)) = omega arith in
      let one : with_front front ((times (count - i) item).read end bytes) ≡ with_front (front ++ x ∷ []) ((times (count - (i + 1)) item).read end after) = rw (k, h) (regroup front x ((times (count - (i + 1)) item).read end after)) in
      sym one ∙ so_far

  pub times_done : count ≤ i → total ≡ Ok (front, bytes)
  unfolding times
  times_done le =
      let k : count - i ≡ 0 = omega arith in
      let one : with_front front ((times (count - i) item).read end bytes) ≡ Ok (front, bytes) = rw k (nothing_more front bytes) in
      sym so_far ∙ one

-- ---- an item for each of a list

module _ {K A : Type 0} (item : K → Binary A) (front : List A) (k : K) (ks left : List K) (end : ℕ) (bytes : List ℕ) (total : Result (List A × List ℕ) ReadFault) (so_far : with_front front ((each item left).read end bytes) ≡ total) where
  pub each_fails : (e : ReadFault) → left ≡ k ∷ ks → Fails e ((item k).read end bytes) → Fails e total
  unfolding each
  each_fails e is h = rw (← so_far, is) (fails_after e front _ (fails_first e ((item k).read end bytes) _ h))

  pub each_goes : (x : A) (after : List ℕ) → left ≡ k ∷ ks → (item k).read end bytes ≡ Ok (x, after) → with_front (front ++ x ∷ []) ((each item ks).read end after) ≡ total
  unfolding each
  each_goes x after is h =
      let one : with_front front ((each item left).read end bytes) ≡ with_front (front ++ x ∷ []) ((each item ks).read end after) = rw (is, h) (regroup front x ((each item ks).read end after)) in
      sym one ∙ so_far

pub each_done : {K A : Type 0} (item : K → Binary A) (front : List A) (left : List K) (end : ℕ) (bytes : List ℕ) (total : Result (List A × List ℕ) ReadFault) → with_front front ((each item left).read end bytes) ≡ total → left ≡ [] → total ≡ Ok (front, bytes)
unfolding each
each_done item front left end bytes total so_far none =
    let one : with_front front ((each item left).read end bytes) ≡ Ok (front, bytes) = rw none (nothing_more front bytes) in
    sym so_far ∙ one

-- ---- so many steps, each from the state that the one before left

module _ {S : Type 0} (step : S → Binary S) (count i : ℕ) (st : S) (end : ℕ) (bytes : List ℕ) (total : Result (S × List ℕ) ReadFault) (so_far : (repeat step (count - i) st).read end bytes ≡ total) where
  pub repeat_fails : (e : ReadFault) → i < count → Fails e ((step st).read end bytes) → Fails e total
  unfolding repeat
  repeat_fails e lt h =
      let k : count - i ≡ suc (count - (i + 1)) = omega arith in
      rw (← so_far, k) (fails_first e ((step st).read end bytes) _ h)

  pub repeat_goes : (next : S) (after : List ℕ) → i < count → (step st).read end bytes ≡ Ok (next, after) → (repeat step (count - (i + 1)) next).read end after ≡ total
  unfolding repeat
  repeat_goes next after lt h =
      let k : count - i ≡ suc (count - (i + 1)) = omega arith in
      let one : (repeat step (count - i) st).read end bytes ≡ (repeat step (count - (i + 1)) next).read end after = rw (k, h) refl in
      sym one ∙ so_far

  pub repeat_done : count ≤ i → total ≡ Ok (st, bytes)
  unfolding repeat
  repeat_done le =
      let k : count - i ≡ 0 = omega arith in
      let one : (repeat step (count - i) st).read end bytes ≡ Ok (st, bytes) = rw k refl in
      sym so_far ∙ one
