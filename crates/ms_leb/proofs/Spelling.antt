-- The shortest spellings: what they are step by step, that they spell their numbers, and that no others are shorter.
use Rattle.std.proofs.Common.{◌≡◌, ℕ, zero, suc, ◌+◌, ◌*◌, ◌-◌, ◌/◌, ◌%◌, ◌^◌, ◌<◌, ◌≤◌, Bool, true, false, inl, inr, List, [], ◌∷◌, length, refl, sym, ap, subst, ◌∙◌, arith, ℤ, pos, negsuc, ◌+ℤ◌, ◌*ℤ◌}
use Rattle.std.specs.Prelude.{All}
use Rattle.std.proofs.lemmas.Int.{ints}
use Rattle.std.proofs.lemmas.Bool.{cases_lt, lt-ltb, le-ltb}
use Rattle.std.proofs.lemmas.List.Elements.{All-head, All-tail}
use Rattle.std.proofs.Math.Pow.{pow_mono}
use Rattle.ms_leb.specs.Leb128.{IsSigned, IsUnsigned, IsWithin}
use Rattle.ms_leb.specs.Shortest.{groups, seven_bits, shortest_signed, shortest_unsigned, signed_groups}
use Rattle.ms_leb.proofs.Leb128Laws.{more_signed, more_unsigned}
use Rattle.ms_leb.proofs.Powers.{pow_seven, pow_signed}

-- ---- unsigned: step by step

groups_last : (k n : ℕ) → n < 128 → groups k n ≡ n ∷ []
groups_last zero n lt = refl
groups_last (suc k) n lt = rw (lt-ltb n 128 lt) refl

groups_more : (k n : ℕ) → 128 ≤ n → groups (suc k) n ≡ (n % 128 + 128) ∷ groups k (n / 128)
groups_more k n le = rw (le-ltb n 128 le) refl

-- more groups than it has make no difference
groups_any : (k j n : ℕ) → n ≤ k → n ≤ j → groups k n ≡ groups j n
groups_any zero j n a b = groups_last zero n (omega arith) ∙ sym (groups_last j n (omega arith))
groups_any (suc k) zero n a b = groups_last (suc k) n (omega arith) ∙ sym (groups_last zero n (omega arith))
groups_any (suc k) (suc j) n a b =
    elim (cases_lt n 128) [
      | inl lt ↦ groups_last (suc k) n lt ∙ sym (groups_last (suc j) n lt)
      | inr le ↦ groups_more k n le ∙ (ap (λ (l : List ℕ). (n % 128 + 128) ∷ l) (groups_any k j (n / 128) (omega arith) (omega arith)) ∙ sym (groups_more j n le))
    ]

pub unsigned_last : (n : ℕ) → n < 128 → shortest_unsigned n ≡ n ∷ []
unfolding shortest_unsigned
unsigned_last n lt = groups_last n n lt

pub unsigned_more : (n : ℕ) → 128 ≤ n → shortest_unsigned n ≡ (n % 128 + 128) ∷ shortest_unsigned (n / 128)
unfolding shortest_unsigned
unsigned_more n le =
    groups_any n (suc n) n (omega arith) (omega arith)
    ∙ (groups_more n n le ∙ ap (λ (l : List ℕ). (n % 128 + 128) ∷ l) (groups_any n (n / 128) (n / 128) (omega arith) (omega arith)))

-- ---- unsigned: spelled, and not shorter

byte_power : (bits n : ℕ) → 128 ≤ n → n < 2 ^ bits → 7 < bits
byte_power bits n le lt = elim (cases_lt 7 bits) [ inl more ↦ more | inr few ↦ let p : 2 ^ bits ≤ 2 ^ 7 = pow_mono few in absurd (omega arith) ]

groups_spell : (k bits n : ℕ) → n ≤ k → n < 2 ^ bits → IsUnsigned bits (groups k n) n
groups_spell zero bits n a lt = (omega arith, lt, refl)
groups_spell (suc k) bits n a lt =
    elim (cases_lt n 128) [
      | inl small ↦ rw (groups_last (suc k) n small) (small, lt, refl)
      | inr le ↦
          let more = byte_power bits n le lt in
          let high : n / 128 < 2 ^ (bits - 7) = omega (arith, pow_seven bits (omega arith)) in
          let is : n ≡ n / 128 * 128 + (n % 128 + 128 - 128) = omega arith in
          rw (groups_more k n le) (more_unsigned bits (n % 128 + 128) (groups k (n / 128)) (n / 128) n (omega arith) more (groups_spell k (bits - 7) (n / 128) (omega arith) high) is)
    ]

pub unsigned_spelled : (bits n : ℕ) → n < 2 ^ bits → IsUnsigned bits (shortest_unsigned n) n
unfolding shortest_unsigned
unsigned_spelled bits n lt = groups_spell n bits n (omega arith) lt

no_fewer_groups : (k n bits : ℕ) (other : List ℕ) → All (λ b. b < 256) other → IsUnsigned bits other n → length (groups k n) ≤ length other
no_fewer_groups k n bits [] small h = absurd h
no_fewer_groups zero n bits (b ∷ bs) small h = omega arith
no_fewer_groups (suc k) n bits (b ∷ []) small h = rw (lt-ltb n 128 (omega (arith, h.0, h.2))) (omega arith)
no_fewer_groups (suc k) n bits (b ∷ c ∷ bs) small h =
    elim (cases_lt n 128) [
      | inl lt ↦ rw (groups_last (suc k) n lt) (omega arith)
      | inr le ↦
          let byte : b < 256 = All-head (λ b. b < 256) b (c ∷ bs) small in
          let high : n / 128 ≡ h.2.0 = omega (arith, h.0, h.2.2) in
          let one = no_fewer_groups k (n / 128) (bits - 7) (c ∷ bs) (All-tail (λ b. b < 256) b (c ∷ bs) small) (subst (λ (m : ℕ). IsUnsigned (bits - 7) (c ∷ bs) m) (sym high) h.2.1) in
          rw (groups_more k n le) (omega arith)
    ]

pub unsigned_shortest : (bits n : ℕ) (other : List ℕ) → All (λ b. b < 256) other → IsUnsigned bits other n → length (shortest_unsigned n) ≤ length other
unfolding shortest_unsigned
unsigned_shortest bits n other small h = no_fewer_groups n n bits other small h

-- ---- signed: step by step

signed_groups_last : (negative : Bool) (k n : ℕ) → n < 64 → signed_groups negative k n ≡ seven_bits negative n ∷ []
signed_groups_last negative zero n lt = refl
signed_groups_last negative (suc k) n lt = rw (lt-ltb n 64 lt) refl

signed_groups_more : (negative : Bool) (k n : ℕ) → 64 ≤ n → signed_groups negative (suc k) n ≡ (seven_bits negative (n % 128) + 128) ∷ signed_groups negative k (n / 128)
signed_groups_more negative k n le = rw (le-ltb n 64 le) refl

pub signed_any : (negative : Bool) (k j n : ℕ) → n ≤ k → n ≤ j → signed_groups negative k n ≡ signed_groups negative j n
signed_any negative zero j n a b = signed_groups_last negative zero n (omega arith) ∙ sym (signed_groups_last negative j n (omega arith))
signed_any negative (suc k) zero n a b = signed_groups_last negative (suc k) n (omega arith) ∙ sym (signed_groups_last negative zero n (omega arith))
signed_any negative (suc k) (suc j) n a b =
    elim (cases_lt n 64) [
      | inl lt ↦ signed_groups_last negative (suc k) n lt ∙ sym (signed_groups_last negative (suc j) n lt)
      | inr le ↦
          signed_groups_more negative k n le
          ∙ (ap (λ (l : List ℕ). (seven_bits negative (n % 128) + 128) ∷ l) (signed_any negative k j (n / 128) (omega arith) (omega arith)) ∙ sym (signed_groups_more negative j n le))
    ]

pub signed_last : (negative : Bool) (n : ℕ) → n < 64 → signed_groups negative n n ≡ seven_bits negative n ∷ []
signed_last negative n lt = signed_groups_last negative n n lt

pub signed_more : (negative : Bool) (n : ℕ) → 64 ≤ n → signed_groups negative n n ≡ (seven_bits negative (n % 128) + 128) ∷ signed_groups negative (n / 128) (n / 128)
signed_more negative n le =
    signed_any negative n (suc n) n (omega arith) (omega arith)
    ∙ (signed_groups_more negative n n le
    ∙ ap (λ (l : List ℕ). (seven_bits negative (n % 128) + 128) ∷ l) (signed_any negative n (n / 128) (n / 128) (omega arith) (omega arith)))

-- ---- signed: spelled, and not shorter

-- n, or -(n + 1)
abbrev signed_of : Bool → ℕ → ℤ
signed_of false n = pos n
signed_of true n = negsuc n

last_spelled : (negative : Bool) (bits n : ℕ) → n < 64 → n < 2 ^ (bits - 1) → IsSigned bits (seven_bits negative n ∷ []) (signed_of negative n)
last_spelled false bits n small lt = inl (small, lt, refl)
last_spelled true bits n small lt = inr (omega arith, omega arith, omega arith, omega (arith, ints))

split_value : (negative : Bool) (n : ℕ) → signed_of negative n ≡ signed_of negative (n / 128) *ℤ pos 128 +ℤ pos (seven_bits negative (n % 128) + 128 - 128)
split_value false n = omega (arith, ints)
split_value true n = omega (arith, ints)

low_power : (bits n : ℕ) → 64 ≤ n → n < 2 ^ (bits - 1) → 7 < bits
low_power bits n le lt =
    elim (cases_lt 7 bits) [
      | inl more ↦ more
      | inr few ↦
          let less : bits - 1 ≤ 6 = omega arith in
          let p : 2 ^ (bits - 1) ≤ 2 ^ 6 = pow_mono less in
          absurd (omega arith)
    ]

from_128 : (n : ℕ) → 128 ≤ n + 128
from_128 n = omega arith

signed_groups_spell : (negative : Bool) (k bits n : ℕ) → n ≤ k → n < 2 ^ (bits - 1) → IsSigned bits (signed_groups negative k n) (signed_of negative n)
signed_groups_spell negative zero bits n a lt = last_spelled negative bits n (omega arith) lt
signed_groups_spell negative (suc k) bits n a lt =
    elim (cases_lt n 64) [
      | inl small ↦ rw (signed_groups_last negative (suc k) n small) (last_spelled negative bits n small lt)
      | inr le ↦
          let more = low_power bits n le lt in
          let high : n / 128 < 2 ^ ((bits - 7) - 1) = omega (arith, pow_signed bits more) in
          rw (signed_groups_more negative k n le) (more_signed bits (seven_bits negative (n % 128) + 128) (signed_groups negative k (n / 128)) (signed_of negative (n / 128)) (signed_of negative n)
          (from_128 (seven_bits negative (n % 128))) more (signed_groups_spell negative k (bits - 7) (n / 128) (omega arith) high) (split_value negative n))
    ]

pub signed_spelled : (bits : ℕ) (n : ℤ) → IsWithin (bits - 1) n → IsSigned bits (shortest_signed n) n
unfolding shortest_signed
signed_spelled bits (pos n) h = signed_groups_spell false n bits n (omega arith) (omega (arith, ints, h.1))
signed_spelled bits (negsuc n) h = signed_groups_spell true n bits n (omega arith) (omega (arith, ints, h.0))

not_last : (negative : Bool) (bits n b : ℕ) → 64 ≤ n → IsSigned bits (b ∷ []) (signed_of negative n) → ⊥
not_last false bits n b le (inl h) = omega (arith, ints, h.0, h.2)
not_last false bits n b le (inr h) = omega (arith, ints, h.1, h.3)
not_last true bits n b le (inl h) = omega (arith, ints, h.0, h.2)
not_last true bits n b le (inr h) = omega (arith, ints, h.0, h.3)

high_is : (negative : Bool) (n l : ℕ) (high : ℤ) → l < 128 → signed_of negative n ≡ high *ℤ pos 128 +ℤ pos l → high ≡ signed_of negative (n / 128)
high_is false n l high lt e = omega (arith, ints)
high_is true n l high lt e = omega (arith, ints)

no_fewer_signed : (negative : Bool) (k n bits : ℕ) (other : List ℕ) → All (λ b. b < 256) other → IsSigned bits other (signed_of negative n) → length (signed_groups negative k n) ≤ length other
no_fewer_signed negative k n bits [] small h = absurd h
no_fewer_signed negative zero n bits (b ∷ bs) small h = omega arith
no_fewer_signed negative (suc k) n bits (b ∷ []) small h =
    elim (cases_lt n 64) [ inl lt ↦ rw (signed_groups_last negative (suc k) n lt) (omega arith) | inr le ↦ absurd (not_last negative bits n b le h) ]
no_fewer_signed negative (suc k) n bits (b ∷ c ∷ bs) small h =
    elim (cases_lt n 64) [
      | inl lt ↦ rw (signed_groups_last negative (suc k) n lt) (omega arith)
      | inr le ↦
          let byte : b < 256 = All-head (λ b. b < 256) b (c ∷ bs) small in
          let high : h.2.0 ≡ signed_of negative (n / 128) = high_is negative n (b - 128) h.2.0 (omega (arith, h.0)) h.2.2 in
          let one = no_fewer_signed negative k (n / 128) (bits - 7) (c ∷ bs) (All-tail (λ b. b < 256) b (c ∷ bs) small) (subst (λ (m : ℤ). IsSigned (bits - 7) (c ∷ bs) m) high h.2.1) in
          rw (signed_groups_more negative k n le) (omega arith)
    ]

pub signed_shortest : (bits : ℕ) (n : ℤ) (other : List ℕ) → All (λ b. b < 256) other → IsSigned bits other n → length (shortest_signed n) ≤ length other
unfolding shortest_signed
signed_shortest bits (pos n) other small h = no_fewer_signed false n n bits other small h
signed_shortest bits (negsuc n) other small h = no_fewer_signed true n n bits other small h
