-- Values of C as operands of the machine, where each object has its home: a pointer is the handle that leads there. What is known of a
-- value goes on holding where more objects have homes.
use Rattle.std.proofs.Common.{◌≡◌, ℕ, List, ◌∷◌, refl, ap}
use Rattle.std.specs.Prelude.{ℤ, if◌then◌else◌}
use Rattle.ms_linear.specs.declared.value.Value.{Value as Word}
use Rattle.ms_linear.specs.declared.value.Value.TheVariants.{I32, Handle}
use Rattle.c_types.specs.declared.integers.IntType.{IntType}
use Rattle.c_types.specs.declared.integers.IntType.TheVariants.{Char, SignedChar, UnsignedChar, Short, UnsignedShort, Int, UnsignedInt, Long, UnsignedLong, LongLong, UnsignedLongLong}
use Rattle.c_types.specs.Layout.{Table}
use Rattle.c_types.specs.Types.{Ty, void, integer, pointer, struct, array, function}
use Rattle.c_meaning.specs.Values.{Value, number}
use Rattle.c_numbers.specs.Operands.{IsIn, word}
use Rattle.ms_relate.specs.refinement.Acts.{integer_operand, operand}
use Rattle.ms_relate.specs.refinement.Homes as homes
use Rattle.ms_relate.specs.refinement.Homes.{Home, IsScalar, handle, is_number}
use Rattle.ms_relate.specs.refinement.Laid.{is_handle}
use Rattle.ms_relate.proofs.Growing.{Extends, handle_still, is_of_still}
use Rattle.c_runs.specs.Words.{value_word}

-- ---- values without a pointer

abbrev pub IsOf : Ty → Value → Type 0
IsOf void v = Unit {0}
IsOf (integer u) (number z) = IsIn u z
IsOf _ _ = ⊥

-- ---- any values

-- what stands on the operands, or in the local of a plain variable
module _ (places : Ty → ℕ → ℕ) where
  abbrev pub word_of : Ty → List Home → Value → Word
  word_of (pointer t) hs v = operand places hs (pointer t) v
  word_of t hs v = value_word t v

  -- what an expression of the type leaves
  abbrev pub pushed_of : Ty → List Home → Value → List Word → List Word
  pushed_of void hs v vs = vs
  pushed_of t hs v vs = word_of t hs v ∷ vs

module _ (table : Table) (places : Ty → ℕ → ℕ) where
  abbrev pub IsValueOf : Ty → List Home → Value → Type 0
  IsValueOf (pointer t) hs v = homes.IsOf table places hs (pointer t) v
  IsValueOf t hs v = IsOf t v

  -- ---- more homes

  module _ (old new : List Home) (more : Extends old new) where
    pub value_still : (t : Ty) (v : Value) → IsValueOf t old v → IsValueOf t new v
    value_still void v ok = ok
    value_still (integer u) v ok = ok
    value_still (pointer t) v ok = is_of_still table places old new more (pointer t) v ok
    value_still (struct n) v ok = ok
    value_still (array t n) v ok = ok
    value_still (function r ps) v ok = ok

    pub word_still : (t : Ty) (v : Value) → IsValueOf t old v → word_of places t new v ≡ word_of places t old v
    word_still void v ok = refl
    word_still (integer u) v ok = refl
    word_still (pointer t) v ok =
        ap (λ (h : _). if is_handle (pointer t) then Handle h else I32 (homes.word places (pointer t) v)) (handle_still table places old new more (pointer t) v ok)
    word_still (struct n) v ok = refl
    word_still (array t n) v ok = refl
    word_still (function r ps) v ok = refl

    pub pushed_still : (t : Ty) (v : Value) (vs : List Word) → IsValueOf t old v → pushed_of places t new v vs ≡ pushed_of places t old v vs
    pushed_still void v vs ok = refl
    pushed_still (integer u) v vs ok = refl
    pushed_still (pointer t) v vs ok = ap (λ (x : Word). x ∷ vs) (word_still (pointer t) v ok)
    pushed_still (struct n) v vs ok = refl
    pushed_still (array t n) v vs ok = refl
    pushed_still (function r ps) v vs ok = refl

  -- ---- as accesses see them

  module _ (hs : List Home) where
    integer_is : (u : IntType) (z : ℤ) → word u z ≡ integer_operand u z
    integer_is Char z = refl
    integer_is SignedChar z = refl
    integer_is UnsignedChar z = refl
    integer_is Short z = refl
    integer_is UnsignedShort z = refl
    integer_is Int z = refl
    integer_is UnsignedInt z = refl
    integer_is Long z = refl
    integer_is UnsignedLong z = refl
    integer_is LongLong z = refl
    integer_is UnsignedLongLong z = refl

    pub of_value : (t : Ty) (v : Value) → IsScalar t → IsValueOf t hs v → homes.IsOf table places hs t v
    of_value (integer u) (number z) s ok = is_number ok
    of_value (integer u) _ s ok = absurd ok
    of_value (pointer t) v s ok = ok
    of_value void v s ok = absurd s
    of_value (struct n) v s ok = absurd s
    of_value (array t n) v s ok = absurd s
    of_value (function r ps) v s ok = absurd s

    pub to_value : (t : Ty) (v : Value) → IsScalar t → homes.IsOf table places hs t v → IsValueOf t hs v
    to_value (integer u) v s (is_number in_range) = in_range
    to_value (pointer t) v s ok = ok
    to_value void v s ok = absurd s
    to_value (struct n) v s ok = absurd s
    to_value (array t n) v s ok = absurd s
    to_value (function r ps) v s ok = absurd s

    pub operand_is : (t : Ty) (v : Value) → IsScalar t → IsValueOf t hs v → word_of places t hs v ≡ operand places hs t v
    operand_is (integer u) (number z) s ok = integer_is u z
    operand_is (integer u) _ s ok = absurd ok
    operand_is (pointer t) v s ok = refl
    operand_is void v s ok = absurd s
    operand_is (struct n) v s ok = absurd s
    operand_is (array t n) v s ok = absurd s
    operand_is (function r ps) v s ok = absurd s

    -- what stands on the operands of a scalar
    pub pushed_is : (t : Ty) (v : Value) (vs : List Word) → IsScalar t → pushed_of places t hs v vs ≡ word_of places t hs v ∷ vs
    pushed_is (integer u) v vs s = refl
    pushed_is (pointer t) v vs s = refl
    pushed_is void v vs s = absurd s
    pushed_is (struct n) v vs s = absurd s
    pushed_is (array t n) v vs s = absurd s
    pushed_is (function r ps) v vs s = absurd s
