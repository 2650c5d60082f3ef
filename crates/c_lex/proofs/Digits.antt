-- What digits are worth only grows, and nothing holds 2^64.
use Rattle.std.proofs.Common.{◌≡◌, ℕ, ◌+◌, ◌*◌, ◌≤◌, ◌^◌, Some, false, leb, List, [], ◌∷◌, refl, arith}
use Rattle.std.proofs.lemmas.Bool.Decides.{nat_tests}
use Rattle.c_token.specs.declared.word.IntegerType.{IntegerType}
use Rattle.c_token.specs.declared.word.IntegerType.TheVariants.{Int, Long, LongLong, UnsignedInt, UnsignedLong, UnsignedLongLong}
use Rattle.c_lex.specs.declared.class.Base.{Base}
use Rattle.c_lex.specs.declared.class.Base.TheVariants.{Decimal, Hexadecimal, Octal}
use Rattle.c_lex.specs.declared.numbers.Constant.TheVariants.{TooLarge}
use Rattle.c_lex.specs.declared.numbers.Suffix.{Suffix}
use Rattle.c_lex.specs.Classes.{worth}
use Rattle.c_lex.specs.Numbers.{first_holding, greatest, is_ten, radix, types_of, value_of, with_suffix}

scaled : (base : Base) (v d : ℕ) → v ≤ v * radix base + d
scaled Octal v d = omega arith
scaled Decimal v d = omega arith
scaled Hexadecimal v d = omega arith

le_trans : (a b c : ℕ) → a ≤ b → b ≤ c → a ≤ c
le_trans a b c p q = omega arith

pub grows : (base : Base) (v : ℕ) (s : List ℕ) → v ≤ value_of base v s
grows base v [] = omega arith
grows base v (b ∷ s) = le_trans v (v * radix base + worth b) _ (scaled base v (worth b)) (grows base (v * radix base + worth b) s)

pub stays_large : (base : Base) (v b : ℕ) (s : List ℕ) → 2 ^ 64 ≤ v * radix base + worth b → 2 ^ 64 ≤ value_of base v (b ∷ s)
stays_large base v b s le = le_trans (2 ^ 64) (v * radix base + worth b) _ le (grows base (v * radix base + worth b) s)

too_great : (t : IntegerType) (v : ℕ) → 2 ^ 64 ≤ v → leb v (greatest t) ≡ false
too_great Int v h = grind (arith, nat_tests)
too_great UnsignedInt v h = grind (arith, nat_tests)
too_great Long v h = grind (arith, nat_tests)
too_great UnsignedLong v h = grind (arith, nat_tests)
too_great LongLong v h = grind (arith, nat_tests)
too_great UnsignedLongLong v h = grind (arith, nat_tests)

pub none_holds : (ts : List IntegerType) (v : ℕ) → 2 ^ 64 ≤ v → TooLarge ≡ first_holding v ts
none_holds [] v h = refl
none_holds (t ∷ ts) v h = rw (too_great t v h) (none_holds ts v h)

pub too_large : (base : Base) (digits : List ℕ) (suffix : Suffix) → 2 ^ 64 ≤ value_of base 0 digits → TooLarge ≡ with_suffix base digits (Some suffix)
too_large base [] suffix h = absurd (omega arith)
too_large base (d ∷ ds) suffix h = none_holds (types_of (is_ten base) suffix) (value_of base 0 (d ∷ ds)) h
