-- A type whose size is measured has one of at most 2^30 bytes.
use Rattle.std.proofs.Common.{◌≡◌, ℕ, ◌*◌, ◌<◌, ◌≤◌, ◌&&◌, nat_le, nat_lt, Bool, true, false, Option, Some, None, refl, sym, arith}
use Rattle.std.proofs.lemmas.Bool.Decides.{nat_tests}
use Rattle.c_types.specs.Layout.{Table, IsSmall, size, most_bytes}
use Rattle.c_types.specs.Types.{Ty, void, integer, struct, pointer, array, function, is_function}
use Rattle.c_typed.specs.refinement.Types.{IsScalar}
use Rattle.c_check_types.specs.Types.{measured, so_many}
use Rattle.c_declare.proofs.Sizes.{chosen, integer_bits, is_measured, pointer_bytes}

-- what is tested of an array
parts : (m s : ℕ) (a b c : Bool) → (a && (b && c)) ≡ true → nat_lt 0 m ≡ a → nat_le m most_bytes ≡ b → nat_le (m * s) most_bytes ≡ c
    → (0 < m) × (m ≤ most_bytes) × (m * s ≤ most_bytes)
parts m s true true true e p q r = (grind (arith, nat_tests, p), grind (arith, nat_tests, q), grind (arith, nat_tests, r))
parts m s true true false e p q r = let x : false ≡ true = e in absurd (cc)
parts m s true false c e p q r = let x : false ≡ true = e in absurd (cc)
parts m s false b c e p q r = let x : false ≡ true = e in absurd (cc)

counted : (m : ℕ) (o : Option ℕ) (k : ℕ) → so_many m o ≡ Some k → (s : ℕ) × (o ≡ Some s) × (m * s ≡ k) × (0 < m) × (m ≤ most_bytes) × (m * s ≤ most_bytes)
counted m None k e = let q : None ≡ Some k = e in absurd (cc)
counted m (Some s) k e =
    let c = chosen (nat_lt 0 m && (nat_le m most_bytes && nat_le (m * s) most_bytes)) (m * s) k e in
    let p = parts m s (nat_lt 0 m) (nat_le m most_bytes) (nat_le (m * s) most_bytes) c.0 refl refl refl in
    (s, refl, c.1, p.0, p.1, p.2)

pub small_if_measured : (table : Table) (t : Ty) (n : ℕ) → measured table t ≡ Some n → IsSmall table t × (n ≡ size table t)
small_if_measured table t n e =
    let it = is_measured table t n e in ((it.0, omega (arith, it.1, it.2)), sym it.1)

-- an array that is measured has at most 2^30 elements
pub few_if_measured : (table : Table) (t : Ty) (m n : ℕ) → measured table (array t m) ≡ Some n → m ≤ most_bytes
few_if_measured table t m n e = (counted m (measured table t) n e).4

pub scalar-small : (table : Table) (t : Ty) → IsScalar t → IsSmall table t
scalar-small table void h = absurd h
scalar-small table (integer t) h = (tt, omega (arith, integer_bits t))
scalar-small table (struct n) h = absurd h
scalar-small table (pointer t) h = (tt, pointer_bytes (is_function t))
scalar-small table (array t n) h = absurd h
scalar-small table (function r ps) h = absurd h
