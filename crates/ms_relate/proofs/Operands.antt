-- Numbers of C as operands and as bytes.
use Rattle.std.proofs.Common.{◌≡◌, ℕ, ◌-◌, ◌/◌, ◌%◌, ◌<◌, ℤ, pos, negsuc, Bool, true, false, List, [], ◌∷◌, refl, sym, ap, ◌∙◌, arith}
use Rattle.std.specs.Prelude.{◌-ℤ◌, nat_lt, if◌then◌else◌}
use Rattle.std.proofs.lemmas.Int.{ints}
use Rattle.c_types.specs.Integers.{bits}
use Rattle.c_types.specs.declared.integers.IntType.{IntType}
use Rattle.c_types.specs.declared.integers.IntType.TheVariants.{Char, SignedChar, UnsignedChar, Short, UnsignedShort, Int, UnsignedInt, Long, UnsignedLong, LongLong, UnsignedLongLong}
use Rattle.c_meaning.specs.Integers.{value_of as number_of}
use Rattle.ms_module.specs.Accesses.{load_bytes, store_bytes}
use Rattle.ms_num.specs.Integers.{wrapped}
use Rattle.ms_operate.specs.Accesses.{value_of}
use Rattle.ms_relate.specs.refinement.Homes.{IsIn}
use Rattle.ms_handle.specs.declared.handle.Handle.{Handle}
use Rattle.ms_linear.specs.declared.value.Value.{Value as Operand}
use Rattle.ms_linear.specs.declared.value.Value.TheVariants as operands
use Rattle.ms_machine.specs.Segments.{changed, segment_on}
use Rattle.ms_module.specs.declared.access.Segment.TheVariants.{Store}
use Rattle.ms_module.specs.declared.access.StoreOp.TheVariants as stores
use Rattle.ms_segment.specs.Calls.{store, stored_at}
use Rattle.ms_segment.specs.Memory.{Memory, access, writable}
use Rattle.ms_tagged.specs.Bytes.{Data, data_of}
use Rattle.ms_relate.specs.refinement.Acts.{integer_operand, load_of, store_of}

pub load_width : (t : IntType) → load_bytes (load_of t) ≡ bits t / 8
load_width Char = refl
load_width SignedChar = refl
load_width UnsignedChar = refl
load_width Short = refl
load_width UnsignedShort = refl
load_width Int = refl
load_width UnsignedInt = refl
load_width Long = refl
load_width UnsignedLong = refl
load_width LongLong = refl
load_width UnsignedLongLong = refl

pub store_width : (t : IntType) → store_bytes (store_of t) ≡ bits t / 8
store_width Char = refl
store_width SignedChar = refl
store_width UnsignedChar = refl
store_width Short = refl
store_width UnsignedShort = refl
store_width Int = refl
store_width UnsignedInt = refl
store_width Long = refl
store_width UnsignedLong = refl
store_width LongLong = refl
store_width UnsignedLongLong = refl

wrapped_most : (z : ℤ) → (wrapped 8 z < 256) × (wrapped 16 z < 65536) × (wrapped 32 z < 4294967296)
wrapped_most (pos n) = (omega arith, omega arith, omega arith)
wrapped_most (negsuc n) = (omega arith, omega arith, omega arith)

-- what is read is the operand
pub value_is : (t : IntType) (z : ℤ) → IsIn t z → value_of (load_of t) (wrapped (bits t) z) ≡ integer_operand t z
value_is Char z is = ap (λ (x : ℤ). Rattle.ms_linear.specs.declared.value.Value.TheVariants.I32 (wrapped 32 x)) is
value_is SignedChar z is = ap (λ (x : ℤ). Rattle.ms_linear.specs.declared.value.Value.TheVariants.I32 (wrapped 32 x)) is
value_is UnsignedChar z is = ap (λ (n : ℕ). Rattle.ms_linear.specs.declared.value.Value.TheVariants.I32 n) (omega (arith, (wrapped_most z).0) ∙ ap (wrapped 32) is)
value_is Short z is = ap (λ (x : ℤ). Rattle.ms_linear.specs.declared.value.Value.TheVariants.I32 (wrapped 32 x)) is
value_is UnsignedShort z is = ap (λ (n : ℕ). Rattle.ms_linear.specs.declared.value.Value.TheVariants.I32 n) (omega (arith, (wrapped_most z).1) ∙ ap (wrapped 32) is)
value_is Int z is = refl
value_is UnsignedInt z is = refl
value_is Long z is = refl
value_is UnsignedLong z is = refl
value_is LongLong z is = refl
value_is UnsignedLongLong z is = refl

-- ---- what is written goes by the lowest bytes alone

one_byte : (n k : ℕ) → n % 256 ≡ k % 256 → data_of 1 n ≡ data_of 1 k
one_byte n k e = ap (λ x. Data x ∷ []) e

two_bytes : (n k : ℕ) → n % 65536 ≡ k % 65536 → data_of 2 n ≡ data_of 2 k
two_bytes n k e =
    let low : n % 256 ≡ k % 256 = omega arith in
    let high : n / 256 % 256 ≡ k / 256 % 256 = omega arith in
    rw (low, high) refl

low_8 : (z : ℤ) → wrapped 32 z % 256 ≡ wrapped 8 z % 256
low_8 (pos n) = omega arith
low_8 (negsuc n) = omega arith

low_16 : (z : ℤ) → wrapped 32 z % 65536 ≡ wrapped 16 z % 65536
low_16 (pos n) = omega arith
low_16 (negsuc n) = omega arith

-- a store of the operand is one of the number's word
pub store_is : (t : IntType) (z : ℤ) (m : Memory) (h : Handle) (rest : List Operand) → segment_on (Store (store_of t)) m (integer_operand t z ∷ operands.Handle h ∷ rest) ≡ changed rest (store m h (bits t / 8) (wrapped (bits t) z))
store_is Char z m h rest = ap (λ bs. changed rest (stored_at m bs 1 (writable (access m h 1)))) (one_byte (wrapped 32 z) (wrapped 8 z) (low_8 z))
store_is SignedChar z m h rest = ap (λ bs. changed rest (stored_at m bs 1 (writable (access m h 1)))) (one_byte (wrapped 32 z) (wrapped 8 z) (low_8 z))
store_is UnsignedChar z m h rest = ap (λ bs. changed rest (stored_at m bs 1 (writable (access m h 1)))) (one_byte (wrapped 32 z) (wrapped 8 z) (low_8 z))
store_is Short z m h rest = ap (λ bs. changed rest (stored_at m bs 2 (writable (access m h 2)))) (two_bytes (wrapped 32 z) (wrapped 16 z) (low_16 z))
store_is UnsignedShort z m h rest = ap (λ bs. changed rest (stored_at m bs 2 (writable (access m h 2)))) (two_bytes (wrapped 32 z) (wrapped 16 z) (low_16 z))
store_is Int z m h rest = refl
store_is UnsignedInt z m h rest = refl
store_is Long z m h rest = refl
store_is UnsignedLong z m h rest = refl
store_is LongLong z m h rest = refl
store_is UnsignedLongLong z m h rest = refl

-- a byte, and the number of type char that it is
low_char : (b : ℕ) → b < 256 → wrapped 32 (pos b) % 256 ≡ wrapped 32 (number_of Char b) % 256
low_char b lt = by (nat_lt b 128) where
  by : (c : Bool) → wrapped 32 (pos b) % 256 ≡ wrapped 32 (if c then pos b else pos b -ℤ pos 256) % 256
  by true = refl
  by false =
      let is : pos b -ℤ pos 256 ≡ negsuc (255 - b) = omega (arith, ints, lt) in
      let low : wrapped 32 (pos b) % 256 ≡ wrapped 32 (negsuc (255 - b)) % 256 = omega (arith, lt) in
      low ∙ ap (λ (z : ℤ). wrapped 32 z % 256) (sym is)

pub byte_is : (b : ℕ) → b < 256 → (m : Memory) (h : Handle) (rest : List Operand)
    → segment_on (Store stores.I32Store8) m (operands.I32 (wrapped 32 (pos b)) ∷ operands.Handle h ∷ rest) ≡ segment_on (Store (store_of Char)) m (integer_operand Char (number_of Char b) ∷ operands.Handle h ∷ rest)
byte_is b lt m h rest = ap (λ bs. changed rest (stored_at m bs 1 (writable (access m h 1)))) (one_byte (wrapped 32 (pos b)) (wrapped 32 (number_of Char b)) (low_char b lt))
