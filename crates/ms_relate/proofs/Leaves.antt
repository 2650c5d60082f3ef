-- A value at an address: what is read there, and what keeps it.
use Rattle.std.proofs.Common.{◌≡◌, ℕ, ◌/◌, ◌^◌, ◌<◌, Bool, true, false, cond, ℤ, pos, negsuc, List, Some, refl, sym, ap, ◌∙◌, arith}
use Rattle.std.proofs.Math.Nat.{mod-eq_of_lt}
use Rattle.std.proofs.lemmas.Nat.{mod_below}
use Rattle.c_types.specs.Integers.{bits}
use Rattle.c_types.specs.Layout.{Table}
use Rattle.c_types.specs.Types.{Ty, void, integer, struct, pointer, array, function, is_function}
use Rattle.c_types.specs.declared.integers.IntType.{IntType}
use Rattle.c_types.specs.declared.integers.IntType.TheVariants.{Char, SignedChar, UnsignedChar, Short, UnsignedShort, Int, UnsignedInt, Long, UnsignedLong, LongLong, UnsignedLongLong}
use Rattle.c_meaning.specs.Shapes.{width}
use Rattle.ms_relate.specs.refinement.Laid.{is_handle}
use Rattle.c_meaning.specs.Values.{Value}
use Rattle.ms_handle.specs.declared.handle.Handle.{Handle}
use Rattle.ms_num.specs.Integers.{wrapped}
use Rattle.ms_tagged.specs.Bytes.{Byte, IsHandleAt, data_of, number_at, pieces, range, zeros}
use Rattle.ms_tagged.specs.Bytes as bytes'
use Rattle.ms_tagged.proofs.Numbers.{number_at-data_of}
use Rattle.ms_segment.specs.Calls.{handle_at}
use Rattle.ms_segment.proofs.Functions.{handle_at_is}
use Rattle.ms_relate.specs.refinement.Homes.{Home, handle, IsOf, is_number, is_null, is_invalid, is_pointer, is_named, is_no_function, word}
use Rattle.ms_relate.specs.refinement.Relation.{ArePieces, whole, cleared, StandsAt}

-- ---- widths

pub integer_width : (t : IntType) → 0 < bits t / 8
integer_width Char = omega arith
integer_width SignedChar = omega arith
integer_width UnsignedChar = omega arith
integer_width Short = omega arith
integer_width UnsignedShort = omega arith
integer_width Int = omega arith
integer_width UnsignedInt = omega arith
integer_width Long = omega arith
integer_width UnsignedLong = omega arith
integer_width LongLong = omega arith
integer_width UnsignedLongLong = omega arith

pub pointer_width : (b : Bool) → (let n : ℕ = cond b 4 16 in 0 < n)
pointer_width true = omega arith
pointer_width false = omega arith

wrapped_below : (w : ℕ) (z : ℤ) → 0 < 2 ^ w → wrapped w z < 2 ^ w
wrapped_below w (pos n) some = mod_below n (2 ^ w) some
wrapped_below w (negsuc n) some = omega (arith, some)

pub integer_word : (t : IntType) (z : ℤ) → wrapped (bits t) z < 256 ^ (bits t / 8)
integer_word Char z = wrapped_below 8 z (omega arith)
integer_word SignedChar z = wrapped_below 8 z (omega arith)
integer_word UnsignedChar z = wrapped_below 8 z (omega arith)
integer_word Short z = wrapped_below 16 z (omega arith)
integer_word UnsignedShort z = wrapped_below 16 z (omega arith)
integer_word Int z = wrapped_below 32 z (omega arith)
integer_word UnsignedInt z = wrapped_below 32 z (omega arith)
integer_word Long z = wrapped_below 32 z (omega arith)
integer_word UnsignedLong z = wrapped_below 32 z (omega arith)
integer_word LongLong z = wrapped_below 64 z (omega arith)
integer_word UnsignedLongLong z = wrapped_below 64 z (omega arith)

pub handle_flag : (b : Bool) → cond b false true ≡ false → b ≡ true
handle_flag true e = refl
handle_flag false e = absurd (cc)

-- ---- handles at sixteen bytes

pub handle_at-pieces : (bs : List Byte) (h : Handle) → ArePieces bs h → handle_at bs ≡ h
handle_at-pieces bs h (whole e) = rw e (sym (handle_at_is (pieces h) h refl (bytes'.whole refl)))
handle_at-pieces bs h (cleared e) = rw e refl

module _ (table : Table) (places : Ty → ℕ → ℕ) (homes : List Home) where
  pub width_positive : (t : Ty) (v : Value) → IsOf table places homes t v → 0 < width t
  width_positive (integer t) v of = integer_width t
  width_positive (pointer t) v of = pointer_width (is_function t)
  width_positive void v of = elim of [ ]
  width_positive (struct n) v of = elim of [ ]
  width_positive (array t n) v of = elim of [ ]
  width_positive (function r ps) v of = elim of [ ]

  -- the word of what isn't a pointer to an object fits its bytes
  pub word_below : (t : Ty) (v : Value) → is_handle t ≡ false → IsOf table places homes t v → word places t v < 256 ^ width t
  word_below t v plain (is_number {t = u} {z} in_range) = integer_word u z
  word_below t v plain (is_null {t = u} f) = absurd (let h : is_function u ≡ true = handle_flag (is_function u) plain in cc)
  word_below t v plain (is_invalid {t = u} f) = absurd (let h : is_function u ≡ true = handle_flag (is_function u) plain in cc)
  word_below t v plain (is_pointer {t = u} {p} h s f g k l near) = absurd (let h : is_function u ≡ true = handle_flag (is_function u) plain in cc)
  word_below t v plain (is_named {t = u} {n} f small) = rw f small
  word_below t v plain (is_no_function {t = u} f) = rw f (omega arith)

  pub number_read : (t : Ty) (v : Value) (bytes : List Byte) (a : ℕ) → is_handle t ≡ false → StandsAt table places homes bytes a t v → number_at (range a (width t) bytes) ≡ Some (word places t v)
  number_read t v bytes a plain stands =
      ap number_at (stands.spelled.data' plain) ∙ (number_at-data_of (width t) (word places t v) ∙ ap Some (mod-eq_of_lt (word_below t v plain stands.is_of)))

  pub handle_read : (t : Ty) (v : Value) (bytes : List Byte) (a : ℕ) → is_handle t ≡ true → StandsAt table places homes bytes a t v → handle_at (range a (width t) bytes) ≡ handle homes v
  handle_read t v bytes a has stands = handle_at-pieces (range a (width t) bytes) (handle homes v) (stands.spelled.pieces' has)

  -- the same bytes
  pub stands_still : (t : Ty) (v : Value) (old new : List Byte) (a : ℕ) → range a (width t) new ≡ range a (width t) old → StandsAt table places homes old a t v → StandsAt table places homes new a t v
  stands_still t v old new a same stands = record { is_of = stands.is_of; aligned = stands.aligned; spelled = rw same stands.spelled }
