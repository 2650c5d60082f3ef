-- Types as they are written: specifiers (C11, 6.7.2), declarators (6.7.6), names of types (6.7.7), and the integer constant
-- expressions (6.6) that stand in them. Sizes of types (6.5.3.4).
use Rattle.std.specs.Prelude.{ℕ, ◌*◌, ◌/◌, ◌&&◌, not, nat_lt, nat_le, Bool, true, false, List, [], ◌∷◌, ◌++◌, map, is_some, Option, Some, None, if◌then◌else◌}
use Rattle.c_types.specs.declared.integers.IntType.{IntType}
use Rattle.c_types.specs.declared.integers.IntType.TheVariants.{Char, SignedChar, UnsignedChar, Short, UnsignedShort, Int, UnsignedInt, Long, UnsignedLong, LongLong, UnsignedLongLong}
use Rattle.c_types.specs.Integers.{bits}
use Rattle.c_types.specs.Layout.{Table, Layout, layout_at, pointer_size, most_bytes}
use Rattle.c_types.specs.Types.{Ty, void, integer, struct, pointer, array, function, Tys, no_types}
use Rattle.c_tree.specs.declared.operators.Infix.TheVariants.{Binary}
use Rattle.c_tree.specs.declared.specifier.SpecifierNode.{SpecifierNode}
use Rattle.c_tree.specs.declared.specifier.SpecifierNode.TheVariants as specifiers
use Rattle.c_tree.specs.declared.specifier.Sign.{Sign}
use Rattle.c_tree.specs.declared.specifier.Sign.TheVariants as signs
use Rattle.c_tree.specs.declared.specifier.Width.{Width}
use Rattle.c_tree.specs.declared.specifier.Width.TheVariants as widths
use Rattle.c_tree.specs.Operators.{combination}
use Rattle.c_tree.specs.Tree as tree
use Rattle.c_tree.specs.Tree.{Expr, Declarator, Parameters}
use Rattle.c_check_types.specs.declared.entity.Entity.{Entity}
use Rattle.c_check_types.specs.declared.entity.Entity.TheVariants as entities
use Rattle.c_check_types.specs.State.{Names, number_of, Rule, ◌>>=◌, ◌>>◌, pure, none, given, only_if, state, and_then}
use Rattle.c_check_types.specs.Scopes.{library, named_entity, tag_number}
use Rattle.c_check_types.specs.TypeEquality.{tys_of}
use Rattle.c_check_types.specs.declared.constants.Constant.{Constant}
use Rattle.c_check_types.specs.Constants.{a_number, constant_type, constant_bits, character_bits, binary, unary, choice, cast, natural}
use Rattle.c_check_types.specs.Operators.{operator_of}

-- ---- sizes (6.5.3.4)

abbrev pub limited : Option Layout → Option ℕ
limited None = None
limited (Some l) = if nat_le l.size most_bytes then Some l.size else None

abbrev pub so_many : ℕ → Option ℕ → Option ℕ
so_many n None = None
so_many n (Some s) = if nat_lt 0 n && (nat_le n most_bytes && nat_le (n * s) most_bytes) then Some (n * s) else None

-- the size of a type that has one, which is small enough
abbrev pub measured : Table → Ty → Option ℕ
measured structs void = None
measured structs (integer t) = Some (bits t / 8)
measured structs (struct n) = limited (layout_at structs n)
measured structs (pointer t) = Some (pointer_size t)
measured structs (array t n) = so_many n (measured structs t)
measured structs (function r ps) = None

abbrev pub size_of : Ty → Rule ℕ
size_of t = do
  s ← state
  given (measured s.structs t)

-- ---- specifiers (6.7.2)

abbrev pub integer_said : Sign → Width → IntType
integer_said signs.Unsaid widths.Char = Char
integer_said signs.Signed widths.Char = SignedChar
integer_said signs.Unsigned widths.Char = UnsignedChar
integer_said signs.Unsigned widths.Short = UnsignedShort
integer_said _ widths.Short = Short
integer_said signs.Unsigned widths.Unsaid = UnsignedInt
integer_said _ widths.Unsaid = Int
integer_said signs.Unsigned widths.Long = UnsignedLong
integer_said _ widths.Long = Long
integer_said signs.Unsigned widths.LongLong = UnsignedLongLong
integer_said _ widths.LongLong = LongLong

-- size_t is unsigned int, ptrdiff_t is long long (7.19)
abbrev pub specified : SpecifierNode → Rule Ty
specified specifiers.Void = pure void
specified (specifiers.Integer ws) = do
  c ← given (combination ws)
  pure (integer (integer_said c.sign c.width))
specified specifiers.SizeT = pure (integer UnsignedInt)
specified specifiers.PtrdiffT = pure (integer LongLong)
specified (specifiers.Struct tag) = do
  n ← tag_number tag
  pure (struct n)
-- an enumerated type is int, and is defined before its tag stands alone (6.7.2.2, 6.7.2.3)
specified (specifiers.Enum tag) = do
  s ← state
  only_if (is_some (number_of s.enum_tags tag))
  pure (integer Int)

-- ---- declarators (6.7.6)

-- what is declared: of a type, or an array of elements of a type whose length is to come
pub data Derived : Type 0 where
  whole : Ty → Derived
  lengthless : Ty → Derived

abbrev pub whole_type : Derived → Option Ty
whole_type (whole t) = Some t
whole_type (lengthless t) = None

pub record Parameter : Type 0 where
  pub name : Option (List ℕ)
  pub ty : Ty

-- a name, if there is one, its type and, where that is a function's, the parameters that stand at the name
pub record Declared : Type 0 where
  pub name : Option (List ℕ)
  pub derived : Derived
  pub params : List Parameter

-- pointers lead to objects, to structs that aren't defined and to functions
abbrev pub may_be_led_to : Ty → Bool
may_be_led_to void = false
may_be_led_to _ = true

abbrev pub pointer_to : Derived → Option Ty
pointer_to d = and_then (whole_type d) (λ t. if may_be_led_to t then Some (pointer t) else None)

-- elements have a size (6.7.6.2)
abbrev pub element : Derived → Rule Ty
element d = do
  t ← given (whole_type d)
  size_of t
  pure t

abbrev pub array_of : Ty → ℕ → Rule Ty
array_of t n = do
  size_of (array t n)
  pure (array t n)

abbrev pub sized_array : Ty → Constant → Rule Ty
sized_array t c = do
  n ← given (natural c)
  array_of t n

-- results are void, integers and pointers
abbrev pub result_type : Derived → Option Ty
result_type (whole void) = Some void
result_type (whole (integer t)) = Some (integer t)
result_type (whole (pointer t)) = Some (pointer t)
result_type _ = None

-- as parameters arrays become pointers to elements, and functions pointers to functions (6.7.6.3, paragraphs 7 and 8)
abbrev pub adjusted : Derived → Option Ty
adjusted (lengthless t) = Some (pointer t)
adjusted (whole void) = None
adjusted (whole (integer t)) = Some (integer t)
adjusted (whole (struct n)) = None
adjusted (whole (pointer t)) = Some (pointer t)
adjusted (whole (array t n)) = Some (pointer t)
adjusted (whole (function r ps)) = Some (pointer (function r ps))

abbrev pub types_of_parameters : List Parameter → Tys
types_of_parameters ps = tys_of (map (λ p. p.ty) ps)

abbrev pub function_of : Ty → List Parameter → Rule Ty
function_of r ps = pure (function r (types_of_parameters ps))

abbrev pub integer_type : Ty → Option IntType
integer_type (integer t) = Some t
integer_type _ = None

-- The names of a function's parameters differ (6.2.1, paragraph 4; 6.7, paragraph 3), and none stands before the unit.
abbrev pub with_name : Names → Option (List ℕ) → Option Names
with_name names None = Some names
with_name names (Some name) =
    if not (is_some (library name)) && not (is_some (number_of names name)) then Some (names ++ name ∷ []) else None

-- a parameter, which is what is declared of its specifier's type, and the names with its own
abbrev pub a_parameter : SpecifierNode → (Ty → Rule Declared) → Names → Rule (Parameter × Names)
a_parameter s declares names = do
  b ← specified s
  x ← declares b
  t ← given (adjusted x.derived)
  more ← given (with_name names x.name)
  pure (record { name = x.name; ty = t }, more)

-- an enumerator (6.6, paragraph 6)
abbrev pub constant_of : Entity → Option Constant
constant_of (entities.Constant n) = Some (a_number Int n)
constant_of _ = None

abbrev pub named_constant : List ℕ → Rule Constant
named_constant name = do
  e ← named_entity name
  given (constant_of e)

-- A declarator is read from the outside in: in `*a[1]` the array is of what the pointer is declared to be.
abbrev mutual
  pub declared : Declarator → Derived → List Parameter → Rule Declared
  declared (tree.named name) d ps = pure (record { name = Some name; derived = d; params = ps })
  declared tree.nothing d ps = pure (record { name = None; derived = d; params = ps })
  declared (tree.wrapped inner) d ps = declared inner d ps
  -- 6.7.6.1
  declared (tree.pointer inner) d ps = do
    t ← given (pointer_to d)
    declared inner (whole t) []
  -- 6.7.6.2
  declared (tree.array inner) d ps = do
    t ← element d
    declared inner (lengthless t) []
  declared (tree.sized inner e) d ps = do
    t ← element d
    c ← constant e
    a ← sized_array t c
    declared inner (whole a) []
  -- 6.7.6.3
  declared (tree.function inner written) d ps = do
    r ← given (result_type d)
    qs ← parameters written [] []
    f ← function_of r qs
    declared inner (whole f) qs
  declared (tree.function_void inner) d ps = do
    r ← given (result_type d)
    declared inner (whole (function r no_types)) []

  -- parameters in order, behind those so far with their names
  pub parameters : Parameters → Names → List Parameter → Rule (List Parameter)
  parameters tree.no_parameters names qs = pure qs
  parameters (tree.parameter_and s d ps) names qs = do
    q ← a_parameter s (λ b. declared d (whole b) []) names
    parameters ps q.1 (qs ++ q.0 ∷ [])

  -- integer constant expressions (6.6, paragraph 6)
  pub constant : Expr → Rule Constant
  constant (tree.integer n t) = pure (a_number (constant_type t) (constant_bits (constant_type t) n))
  constant (tree.character c) = pure (a_number Int (character_bits c))
  constant (tree.name n) = named_constant n
  constant (tree.paren e) = constant e
  constant (tree.unary op e) = do
    x ← constant e
    given (unary op x)
  constant (tree.size_of_type s d) = do
    b ← specified s
    x ← declared d (whole b) []
    t ← given (whole_type x.derived)
    n ← size_of t
    pure (a_number UnsignedInt n)
  constant (tree.cast s d e) = do
    b ← specified s
    x ← declared d (whole b) []
    t ← given (whole_type x.derived)
    u ← given (integer_type t)
    y ← constant e
    pure (cast u y)
  constant (tree.between (Binary op) a b) = do
    x ← constant a
    y ← constant b
    pure (binary (operator_of op) x y)
  constant (tree.choice c a b) = do
    x ← constant c
    y ← constant a
    z ← constant b
    pure (choice x y z)
  constant _ = none

-- names of types (6.7.7)
abbrev pub type_name : SpecifierNode → Declarator → Rule Ty
type_name s d = do
  b ← specified s
  x ← declared d (whole b) []
  given (whole_type x.derived)
