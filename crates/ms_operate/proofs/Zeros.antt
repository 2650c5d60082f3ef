-- So many zeros as `IsClz` and `IsCtz` ask for are as many as `leading` and `trailing` count.
use Rattle.std.proofs.Common.{◌≡◌, ℕ, zero, suc, ◌+◌, ◌-◌, ◌*◌, ◌/◌, ◌%◌, ◌^◌, ◌<◌, ◌≤◌, cond, ap, sym, subst, ◌∙◌, arith}
use Rattle.std.proofs.lemmas.Bool.{le-ltb, lt-ltb}
use Rattle.std.proofs.lemmas.Nat.{mod-pow-add}
use Rattle.std.proofs.Math.Nat.{div-div-eq-div-mul, pow-succ'}
use Rattle.std.proofs.Math.Pow.{pow_mono}
use Rattle.ms_num.specs.Integers.{IsClz, IsCtz}
use Rattle.ms_operate.specs.Integers.{leading, trailing}

pub leading_is : (w a k : ℕ) → IsClz w a k → k ≡ leading w a
leading_is zero a k h = omega (arith, h.most)
leading_is (suc n) a zero h =
    let e : suc n - 0 - 1 ≡ n = omega arith in
    let top : 2 ^ n ≤ a = subst (λ (m : ℕ). 2 ^ m ≤ a) e (h.one (omega arith)) in
    sym (ap (λ b. cond b (suc (leading n a)) 0) (le-ltb a (2 ^ n) top))
leading_is (suc n) a (suc j) h =
    let e : suc n - suc j ≡ n - j = omega arith in
    let zeros : a < 2 ^ (n - j) = subst (λ (m : ℕ). a < 2 ^ m) e h.zeros in
    let below : a < 2 ^ n = omega (arith, zeros, pow_mono {i = n - j} {j = n} (omega arith)) in
    let rest : IsClz n a j = record {
      most = omega (arith, h.most);
      zeros = zeros;
      one = λ p. subst (λ (m : ℕ). 2 ^ (m - 1) ≤ a) e (h.one (omega arith));
    } in
    ap (λ (m : ℕ). suc m) (leading_is n a j rest) ∙ sym (ap (λ b. cond b (suc (leading n a)) 0) (lt-ltb a (2 ^ n) below))

halves : (a j : ℕ) → a / 2 / 2 ^ j ≡ a / 2 ^ suc j
halves a j = div-div-eq-div-mul a 2 (2 ^ j) ∙ ap (λ (m : ℕ). a / m) (sym (pow-succ' 2 j))

-- the lowest bit, and those above it
parts : (a j : ℕ) → a % 2 ^ suc j ≡ (a / 2 % 2 ^ j) * 2 + a % 2
parts a j =
    let e : suc j ≡ j + 1 = omega arith in
    rw e (mod-pow-add a j 1)

pub trailing_is : (w a k : ℕ) → IsCtz w a k → k ≡ trailing w a
trailing_is zero a k h = omega (arith, h.most)
trailing_is (suc n) a zero h =
    let odd : a / 2 ^ 0 % 2 ≡ 1 = h.one (omega arith) in
    let one : a % 2 ≡ 1 = omega arith in
    rw one (omega arith)
trailing_is (suc n) a (suc j) h =
    let p = parts a j in
    let even : a % 2 ≡ 0 = omega (arith, h.zeros, p) in
    let rest : IsCtz n (a / 2) j = record {
      most = omega (arith, h.most);
      zeros = omega (arith, h.zeros, p);
      one = λ q. rw (halves a j) (h.one (omega arith));
    } in
    rw even (ap (λ (m : ℕ). suc m) (trailing_is n (a / 2) j rest))
