-- Where an access through a pointer goes.
use Rattle.std.proofs.Common.{◌≡◌, ℕ, zero, suc, ◌+◌, ◌*◌, ◌<◌, ◌≤◌, Bool, true, false, cond, ltb, ℤ, pos, negsuc, ◌*ℤ◌, inl, inr, Option, Some, None, Result, Ok, Err, refl, ap, subst, arith}
use Rattle.std.specs.Prelude.{neg_ℤ}
use Rattle.std.proofs.lemmas.Bool.{ltb-true, cases_lt, le-leb, lt-leb, lt-ltb, le-ltb}
use Rattle.std.proofs.Math.Nat.{mul-le-mul_right}
use Rattle.ms_handle.specs.declared.handle.Handle.TheVariants as handles
use Rattle.ms_live.specs.declared.gaps.Live.{Live}
use Rattle.ms_segment.specs.Memory.{Access, Memory, access, accessed, accessed_if, live_of}
use Rattle.ms_segment.specs.declared.trap.SegTrap.{SegTrap}
use Rattle.ms_segment.specs.declared.trap.SegTrap.TheVariants as traps
use Rattle.c_meaning.specs.Objects.{index_in}

-- an access of element k, of w bytes, of an array of n
abbrev pub located_in : (sealed : Bool) → Live → (place n w : ℕ) → Option ℕ → Result Access SegTrap
located_in z g place n w None = Err traps.Bounds
located_in z g place n w (Some k) = Ok (record { address = g.base + place + k * w; id = g.id; lo = place; hi = place + n * w; sealed = z })

abbrev pub located : (sealed : Bool) → Option Live → (place n w : ℕ) → Option ℕ → Result Access SegTrap
located z None place n w k = Err traps.Freed
located z (Some g) place n w k = located_in z g place n w k

negated : (n : ℕ) → 0 < n → (j : ℕ) × (neg_ℤ (pos n) ≡ negsuc j) × (suc j ≡ n)
negated zero some = absurd (omega (arith, some))
negated (suc n) some = (n, refl, refl)

pub negsuc-times : (k w : ℕ) → 0 < w → (j : ℕ) × (negsuc k *ℤ pos w ≡ negsuc j) × (suc j ≡ suc k * w)
negsuc-times k w some = negated (suc k * w) (let h : 1 * w ≤ suc k * w = mul-le-mul_right w (let g : 1 ≤ suc k = omega arith in g) in omega (arith, h))

pub index_ends : (k n w : ℕ) → k < n → k * w + w ≤ n * w
index_ends k n w within = let h : (k + 1) * w ≤ n * w = mul-le-mul_right w (let g : k + 1 ≤ n = omega arith in g) in omega (arith, h)

pub index_past : (k n w : ℕ) → 0 < w → n ≤ k → n * w < k * w + w
index_past k n w some past = let h : n * w ≤ k * w = mul-le-mul_right w past in omega (arith, h)

accessed_is : (z : Bool) (g : Live) (place n w : ℕ) (i : ℤ) → 0 < w → accessed g z place (n * w) (i *ℤ pos w) w ≡ located_in z g place n w (index_in n i)
accessed_is z g place n w (pos k) some =
    elim (cases_lt k n) [
      | inl within ↦ rw (le-leb (k * w + w) (n * w) (index_ends k n w within), lt-ltb k n within) refl
      | inr past ↦ rw (lt-leb (k * w + w) (n * w) (index_past k n w some past), le-ltb k n past) refl
    ]
accessed_is z g place n w (negsuc k) some =
    let j = negsuc-times k w some in ap (λ (o : ℤ). accessed g z place (n * w) o w) j.1

accessed_if_is : (z : Bool) (o : Option Live) (place n w : ℕ) (i : ℤ) → 0 < w → accessed_if o z place (n * w) (i *ℤ pos w) w ≡ located z o place n w (index_in n i)
accessed_if_is z None place n w i some = refl
accessed_if_is z (Some g) place n w i some = accessed_is z g place n w i some

-- the access of one element through the handle of a pointer
pub access_is : (m : Memory) (z : Bool) (id place n w : ℕ) (i : ℤ) → 0 < w → access m (handles.Good z id place (n * w) (i *ℤ pos w)) w ≡ located z (live_of m id) place n w (index_in n i)
access_is m z id place n w i some = accessed_if_is z (live_of m id) place n w i some

index_test : (n k l : ℕ) (b : Bool) → ltb k n ≡ b → cond b (Some k) None ≡ Some l → l < n
index_test n k l true test is = let same : k ≡ l = cc in subst (λ x. x < n) same (ltb-true k n test)
index_test n k l false test is = absurd (cc)

pub index_in-within : (n : ℕ) (i : ℤ) (k : ℕ) → index_in n i ≡ Some k → k < n
index_in-within n (pos j) k is = index_test n j k (ltb j n) refl is
index_in-within n (negsuc j) k is = absurd (cc)
