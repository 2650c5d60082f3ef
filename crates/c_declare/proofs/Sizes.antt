-- A type whose size is measured has one, and is small enough for a part of a struct.
use Rattle.std.proofs.Common.{◌≡◌, ◌∙◌, ℕ, ◌*◌, ◌/◌, ◌<◌, ◌≤◌, ◌&&◌, nat_le, nat_lt, Bool, true, false, Option, Some, None, IsSome, if◌then◌else◌, refl, ap, arith, rules}
use Rattle.std.proofs.lemmas.Bool.Decides.{nat_tests}
use Rattle.c_types.specs.Integers.{bits}
use Rattle.c_types.specs.declared.integers.IntType.{IntType}
use Rattle.c_types.specs.declared.integers.IntType.TheVariants.{Char, SignedChar, UnsignedChar, Short, UnsignedShort, Int, UnsignedInt, Long, UnsignedLong, LongLong, UnsignedLongLong}
use Rattle.c_types.specs.Layout.{Table, Layout, HasSize, IsSmall, layout_at, size, size_in, pointer_size, most_bytes}
use Rattle.c_types.specs.Types.{Ty, void, integer, struct, pointer, array, function, is_function}
use Rattle.c_check_types.specs.Types.{limited, measured, so_many}

same : (a b : ℕ) → Some a ≡ Some b → a ≡ b
same a b e = cc

pub chosen : (b : Bool) (a n : ℕ) → (if b then Some a else None) ≡ Some n → (b ≡ true) × (a ≡ n)
chosen true a n e = (refl, same a n e)
chosen false a n e = let q : None ≡ Some n = e in absurd (cc)

-- of a size that is measured
abbrev pub IsMeasured : Table → Ty → ℕ → Type 0
IsMeasured table t n = HasSize table t × (size table t ≡ n) × (n ≤ most_bytes)

struct_is : (o : Option Layout) (n : ℕ) → limited o ≡ Some n → IsSome o × (size_in o ≡ n) × (n ≤ most_bytes)
struct_is None n e = let q : None ≡ Some n = e in absurd (cc)
struct_is (Some l) n e =
    let c = chosen (nat_le l.size most_bytes) l.size n e in
    (search rules, c.1, grind (arith, nat_tests, c.0, c.1))

array_of : (table : Table) (t : Ty) (m s k : ℕ) → HasSize table t → size table t ≡ s → so_many m (Some s) ≡ Some k → IsMeasured table (array t m) k
array_of table t m s k h p e =
    let c = chosen (nat_lt 0 m && (nat_le m most_bytes && nat_le (m * s) most_bytes)) (m * s) k e in
    let b = parts (nat_lt 0 m) (nat_le m most_bytes) (nat_le (m * s) most_bytes) c.0 refl refl in
    ((b.0, h), ap (λ x. m * x) p ∙ c.1, grind (arith, b.1, c.1)) where
      parts : (a b c : Bool) → (a && (b && c)) ≡ true → nat_lt 0 m ≡ a → nat_le (m * s) most_bytes ≡ c → (0 < m) × (m * s ≤ most_bytes)
      parts true true true e p q = (grind (arith, nat_tests, p), grind (arith, nat_tests, q))
      parts true true false e p q = let r : false ≡ true = e in absurd (cc)
      parts true false c e p q = let r : false ≡ true = e in absurd (cc)
      parts false b c e p q = let r : false ≡ true = e in absurd (cc)

array_is : (table : Table) (t : Ty) (m : ℕ) (o : Option ℕ) (k : ℕ) → ((s : ℕ) → o ≡ Some s → IsMeasured table t s) → so_many m o ≡ Some k → IsMeasured table (array t m) k
array_is table t m None k h e = let q : None ≡ Some k = e in absurd (cc)
array_is table t m (Some s) k h e = let it = h s refl in array_of table t m s k it.0 it.1 e

pub integer_bits : (t : IntType) → bits t ≤ 64
integer_bits Char = omega arith
integer_bits SignedChar = omega arith
integer_bits UnsignedChar = omega arith
integer_bits Short = omega arith
integer_bits UnsignedShort = omega arith
integer_bits Int = omega arith
integer_bits UnsignedInt = omega arith
integer_bits Long = omega arith
integer_bits UnsignedLong = omega arith
integer_bits LongLong = omega arith
integer_bits UnsignedLongLong = omega arith

pub pointer_bytes : (b : Bool) → (if b then 4 else 16) ≤ most_bytes
pointer_bytes true = omega arith
pointer_bytes false = omega arith

pub is_measured : (table : Table) (t : Ty) (n : ℕ) → measured table t ≡ Some n → IsMeasured table t n
is_measured table void n e = let q : None ≡ Some n = e in absurd (cc)
is_measured table (integer t) n e =
    let q = same (bits t / 8) n e in (tt, q, omega (arith, q, integer_bits t))
is_measured table (struct m) n e = struct_is (layout_at table m) n e
is_measured table (pointer t) n e =
    let q = same (pointer_size t) n e in (tt, q, omega (arith, q, pointer_bytes (is_function t)))
is_measured table (array t m) n e =
    array_is table t m (measured table t) n (λ s p. is_measured table t s p) e
is_measured table (function r ps) n e = let q : None ≡ Some n = e in absurd (cc)

pub small_if_measured : (table : Table) (t : Ty) (n : ℕ) → measured table t ≡ Some n → IsSmall table t
small_if_measured table t n e = let it = is_measured table t n e in (it.0, omega (arith, it.1, it.2))
