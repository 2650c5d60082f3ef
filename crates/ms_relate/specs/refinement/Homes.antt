-- Where objects lie, and what values of C are for the machine.
use Rattle.std.specs.Prelude.{◌≡◌, ℕ, suc, ◌+◌, ◌<◌, ℤ, pos, ◌*ℤ◌, Bool, true, false, List, Option, Some, None, slice_get}
use Rattle.c_types.specs.Integers.{bits}
use Rattle.c_types.specs.Layout.{Table}
use Rattle.c_types.specs.Types.{Ty, integer, pointer, is_function}
use Rattle.c_types.specs.declared.integers.IntType.{IntType}
use Rattle.c_meaning.specs.Shapes.{Shape, shape, size}
use Rattle.c_meaning.specs.Values.{Pointer, Step, Value, number, null, invalid, points, function_at, no_function}
use Rattle.c_meaning.specs.Objects.{Span, is_near, length_of, span_at, whole_of}
use Rattle.ms_handle.specs.declared.handle.Handle.{Handle}
use Rattle.ms_handle.specs.declared.handle.Handle.TheVariants as handles
use Rattle.ms_num.specs.Integers.{wrapped}
use Rattle.c_meaning.specs.Integers.{wrap}

-- of an object: the identity of its segment, its elements' shape and their number; these never change
pub record Home : Type 0 where
  pub id : ℕ
  pub shape : Shape
  pub count : ℕ

abbrev pub span_of : Home → List Step → Option Span
span_of h path = span_at path (whole_of h.shape h.count)

-- ---- pointers are handles

abbrev pub handle_to : (sealed : Bool) → (id : ℕ) → Option Span → (index : ℤ) → Handle
handle_to sealed id None i = handles.Broken
handle_to sealed id (Some s) i = handles.Good sealed id s.place (length_of s) (i *ℤ pos (size s.shape))

abbrev pub handle_in : Option Home → Pointer → Handle
handle_in None p = handles.Broken
handle_in (Some h) p = handle_to p.sealed h.id (span_of h p.path) p.index

abbrev pub handle : List Home → Value → Handle
handle homes invalid = handles.Broken
handle homes (points p) = handle_in (slice_get homes p.object) p
handle homes _ = handles.Null

-- ---- numbers and functions are words

abbrev pub IsIn : IntType → ℤ → Type 0
IsIn t z = wrap t z ≡ z

-- a function is its number in the table of functions, which is given by the type of the pointer, and no function is 0
abbrev pub word : (Ty → ℕ → ℕ) → Ty → Value → ℕ
word places (integer t) (number z) = wrapped (bits t) z
word places t (function_at n) = suc (places t n)
word places _ _ = 0

-- ---- pointers to arrays

-- it isn't far from the start of its array, which ends below 2^32, and so do its elements, also where there is none
pub record IsNear (p : Pointer) (s : Span) : Type 0 where
  pub near : is_near (p.index *ℤ pos (size s.shape)) ≡ true
  pub low : s.place + length_of s < 4294967296
  pub small : size s.shape < 4294967296

-- ---- the values of a type

module _ (table : Table) (places : Ty → ℕ → ℕ) (homes : List Home) where
  pub data IsOf : Ty → Value → Type 0 where
    is_number : {t : IntType} {z : ℤ} → IsIn t z → IsOf (integer t) (number z)
    is_null : {t : Ty} → is_function t ≡ false → IsOf (pointer t) null
    is_invalid : {t : Ty} → is_function t ≡ false → IsOf (pointer t) invalid
    -- it leads to an array of that type
    is_pointer : {t : Ty} {p : Pointer} (h : Home) (s : Span) → is_function t ≡ false → slice_get homes p.object ≡ Some h → span_of h p.path ≡ Some s → s.shape ≡ shape table t → IsNear p s → IsOf (pointer t) (points p)
    -- it has a number there, as one of that type
    is_named : {t : Ty} {n : ℕ} → is_function t ≡ true → suc (places (pointer t) n) < 4294967296 → IsOf (pointer t) (function_at n)
    is_no_function : {t : Ty} → is_function t ≡ true → IsOf (pointer t) no_function

-- null, invalid, or a pointer to an array whose elements have this shape
pub data Leads (homes : List Home) (s : Shape) : Value → Type 0 where
  leads_null : Leads homes s null
  leads_invalid : Leads homes s invalid
  leads_to : {p : Pointer} (h : Home) (x : Span) → slice_get homes p.object ≡ Some h → span_of h p.path ≡ Some x → x.shape ≡ s → IsNear p x → Leads homes s (points p)

-- ---- types of one value

abbrev pub IsScalar : Ty → Type 0
IsScalar (integer t) = Unit {0}
IsScalar (pointer t) = Unit {0}
IsScalar _ = ⊥
