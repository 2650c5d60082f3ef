-- Expressions (C11, 6.5).
use Rattle.std.specs.Prelude.{ℕ, ◌+◌, ◌-◌, ◌==◌, ◌^◌, Bool, true, false, List, [], ◌∷◌, ◌++◌, length, slice_get, Option, Some, None, if◌then◌else◌}
use Rattle.c_types.specs.declared.integers.IntType.{IntType}
use Rattle.c_types.specs.declared.integers.IntType.TheVariants.{Int, UnsignedInt, LongLong}
use Rattle.c_types.specs.declared.types.Scalar.{Scalar}
use Rattle.c_types.specs.Integers.{promoted, common}
use Rattle.c_types.specs.Layout.{members_of}
use Rattle.c_types.specs.Types.{Ty, void, integer, struct, pointer, function, Tys, no_types, types, is_function, scalar_of}
use Rattle.c_tree.specs.declared.operators.Access.{Access}
use Rattle.c_tree.specs.declared.operators.Access.TheVariants as accesses
use Rattle.c_tree.specs.declared.operators.AssignOp.{AssignOp}
use Rattle.c_tree.specs.declared.operators.AssignOp.TheVariants as assigns
use Rattle.c_tree.specs.declared.operators.Infix.TheVariants.{Comma, Assign, Binary}
use Rattle.c_tree.specs.declared.operators.StepOp.{StepOp}
use Rattle.c_tree.specs.declared.operators.StepOp.TheVariants as steps
use Rattle.c_tree.specs.declared.operators.UnaryOp.TheVariants as unaries
use Rattle.c_tree.specs.Tree as tree
use Rattle.c_tree.specs.Tree.{Expr, Exprs}
use Rattle.c_typed.specs.declared.ops.BinaryOp.{BinaryOp}
use Rattle.c_typed.specs.declared.ops.BinaryOp.TheVariants as ops
use Rattle.c_typed.specs.declared.ops.UnaryOp.{UnaryOp}
use Rattle.c_typed.specs.declared.ops.UnaryOp.TheVariants as signs
use Rattle.c_typed.specs.declared.ops.Variable.TheVariants as variables
use Rattle.c_typed.specs.Tree as to
use Rattle.c_typed.specs.Tree.{Place}
use Rattle.c_check_types.specs.declared.entity.Entity.{Entity}
use Rattle.c_check_types.specs.declared.entity.Entity.TheVariants as entities
use Rattle.c_check_types.specs.declared.operators.Operator.{Operator}
use Rattle.c_check_types.specs.declared.operators.Operator.TheVariants.{And, Or, Equality, Order, Arithmetic, Shift, Plus, Minus}
use Rattle.c_check_types.specs.State.{Rule, ◌>>=◌, ◌>>◌, pure, none, given, only_if, state, followed, number_of}
use Rattle.c_check_types.specs.Scopes.{library, named_entity}
use Rattle.c_check_types.specs.declared.prelude.LibraryName.{LibraryName}
use Rattle.c_check_types.specs.declared.prelude.LibraryName.TheVariants as prelude
use Rattle.c_check_types.specs.TypeEquality.{same_type}
use Rattle.c_check_types.specs.Operators.{operator_of}
use Rattle.c_check_types.specs.Constants.{constant_type, constant_bits, character_bits}
use Rattle.c_check_types.specs.Types.{size_of, type_name}
use Rattle.c_conversions.specs.Conversions as form
use Rattle.c_typed.specs.Forms.{promoted_value, arithmetic, shift}
use Rattle.c_operators.specs.Operations.{sum, minus, order, equality, choice}
use Rattle.c_conversions.specs.Conversions.{Form, place, value, designator, text, zero, bytes, product, allocation, operand, value_of, integer_of, pointer_of, place_of, at_type, condition_of, assigned_to, thrown_away}

-- ---- names (6.5.1)

abbrev pub slot_type : ℕ → Rule Ty
slot_type n = do
  s ← state
  given (slice_get s.slots n)

abbrev pub global_type : ℕ → Rule Ty
global_type n = do
  s ← state
  given (slice_get s.globals n)

abbrev pub function_type : ℕ → Rule Ty
function_type n = do
  s ← state
  f ← given (slice_get s.functions n)
  pure f.ty

abbrev pub entity_form : Entity → Rule Form
entity_form (entities.Local n) = do
  t ← slot_type n
  pure (place (to.of (variables.Local n)) t)
entity_form (entities.Global n) = do
  t ← global_type n
  pure (place (to.of (variables.Global n)) t)
entity_form (entities.Function n) = do
  t ← function_type n
  pure (designator (to.function n) t)
-- an enumerator, which is no null constant where it is 0 (6.3.2.3, paragraph 3)
entity_form (entities.Constant n) = pure (value (to.number Int n) (integer Int))

-- EOF is -1; the functions of the library stand where they are called alone
abbrev pub name_form : List ℕ → Option LibraryName → Rule Form
name_form name (Some prelude.Null) = pure form.null
name_form name (Some prelude.Eof) = pure (value (to.number Int (2 ^ 32 - 1)) (integer Int))
name_form name (Some _) = none
name_form name None = do
  e ← named_entity name
  entity_form e

-- ---- an expression that is used, by its rule

abbrev pub an_operand : Rule Form → Rule Form
an_operand rule = do
  x ← rule
  operand x

abbrev pub a_value : Rule Form → Rule (to.Expr × Ty)
a_value rule = do
  x ← rule
  value_of x

abbrev pub an_integer : Rule Form → Rule (to.Expr × IntType)
an_integer rule = do
  x ← rule
  integer_of x

abbrev pub a_pointer : Rule Form → Rule (to.Expr × Ty)
a_pointer rule = do
  x ← rule
  pointer_of x

abbrev pub a_place : Rule Form → Rule (Place × Ty)
a_place rule = do
  x ← rule
  place_of x

abbrev pub a_condition : Rule Form → Rule to.Expr
a_condition rule = do
  x ← rule
  condition_of x

-- as if it were assigned to a type: an argument of a parameter of this type, a result, an initializer
abbrev pub as_assigned : Ty → Rule Form → Rule to.Expr
as_assigned t rule = do
  x ← rule
  assigned_to t x

abbrev pub performed : Rule Form → Rule to.Expr
performed rule = do
  x ← rule
  thrown_away x

-- ---- operators between two operands, the left one first

abbrev pub operating : Operator → Form → Rule Form → Rule Form
operating And x right = do
  c ← condition_of x
  d ← a_condition right
  pure (value (to.and c d) (integer Int))
operating Or x right = do
  c ← condition_of x
  d ← a_condition right
  pure (value (to.or c d) (integer Int))
operating (Equality op) x right = do
  u ← operand x
  v ← an_operand right
  given (equality op u v)
operating (Order op) x right = do
  u ← value_of x
  v ← a_value right
  given (order op u v)
operating (Arithmetic op) x right = do
  u ← integer_of x
  v ← an_integer right
  pure (arithmetic op u v)
operating (Shift op) x right = do
  u ← integer_of x
  v ← an_integer right
  pure (shift op u v)
operating Plus x right = do
  u ← value_of x
  v ← a_value right
  sum u v
operating Minus x right = do
  u ← value_of x
  v ← a_value right
  minus u v

-- ---- unary operators (6.5.3)

-- a function, and what a pointer to one leads to, are that function
abbrev pub led_to : to.Expr → Ty → Form
led_to e (function r ps) = designator e (function r ps)
led_to e t = place (to.deref e) t

abbrev pub deref : Form → Rule Form
deref f = do
  v ← pointer_of f
  pure (led_to v.0 v.1)

abbrev pub address : Form → Rule Form
address (place p t) = pure (value (to.address p) (pointer t))
address (designator e t) = pure (value e (pointer t))
address _ = none

-- 6.5.3.3
abbrev pub plus : Form → Rule Form
plus f = do
  v ← integer_of f
  pure (value (promoted_value v) (integer (promoted v.1)))

abbrev pub signed : UnaryOp → Form → Rule Form
signed op f = do
  v ← integer_of f
  pure (value (to.unary op (promoted v.1) (promoted_value v)) (integer (promoted v.1)))

abbrev pub negated : Form → Rule Form
negated f = do
  c ← condition_of f
  pure (value (to.not c) (integer Int))

-- functions, void, NULL and malloc's call have no size
abbrev pub size : Form → Rule Form
size (place p t) = do
  n ← size_of t
  pure (value (to.size_of_place n p) (integer UnsignedInt))
size (value e t) = do
  n ← size_of t
  pure (value (to.size_of_value n e) (integer UnsignedInt))
size (text s) = pure (value (to.size_of_type (length s + 1)) (integer UnsignedInt))
size (zero t) = do
  n ← size_of (integer t)
  pure (value (to.size_of_value n (to.number t 0)) (integer UnsignedInt))
size _ = none

abbrev pub size_of_value : Rule Form → Rule Form
size_of_value rule = do
  x ← rule
  size x

-- what stands in sizeof isn't evaluated, and its literals aren't made: they are counted anew, and forgotten
abbrev pub unevaluated : {A : Type 0} → Rule A → Rule A
unevaluated rule = λ s. followed (rule (record s { made = []; literals = 0 })) (λ a after. Some (a, record after { made = s.made; literals = s.literals }))

-- ---- assignments (6.5.16, 6.5.2.4, 6.5.3.1)

abbrev pub copied : ℕ → Place → Place × Ty → Rule Form
copied n p (q, t) = do
  only_if (same_type (struct n) t)
  size_of t
  pure (value (to.copy n p q) void)

abbrev pub stored : Place → Ty → Form → Rule Form
stored p t f = do
  s ← given (scalar_of t)
  e ← assigned_to t f
  pure (value (to.assign s p e) t)

-- a struct is assigned from a place, any other thing from a value
abbrev pub assigned : Place × Ty → Form → Rule Form
assigned (p, struct n) f = do
  q ← place_of f
  copied n p q
assigned (p, t) f = stored p t f

-- the type at which `op=` works, of that of the place and that of the operand
abbrev pub worked : Operator → IntType → IntType → Option (BinaryOp × IntType)
worked (Arithmetic op) t u = Some (op, common t u)
worked (Shift op) t u = Some (op, promoted t)
worked Plus t u = Some (ops.Add, common t u)
worked Minus t u = Some (ops.Sub, common t u)
worked _ t u = None

abbrev pub goes_back : Operator → Option Bool
goes_back Plus = Some false
goes_back Minus = Some true
goes_back _ = None

abbrev pub updated : (old : Bool) → Operator → Place × Ty → to.Expr × IntType → Rule Form
updated old op (p, integer t) (e, u) = do
  w ← given (worked op t u)
  pure (value (to.update old t w.0 w.1 p (at_type u w.1 e)) (integer t))
updated old op (p, pointer t) (e, u) = do
  back ← given (goes_back op)
  size_of t
  pure (value (to.advance old t back p (at_type u LongLong e)) (pointer t))
updated old op _ v = none

-- `=`, and `op=`
abbrev pub assigning : Option Operator → Place × Ty → Form → Rule Form
assigning None p f = assigned p f
assigning (Some op) p f = do
  v ← integer_of f
  updated false op p v

-- by 1
abbrev pub stepped : (old : Bool) → Operator → Form → Rule Form
stepped old op f = do
  p ← place_of f
  updated old op p (to.number Int 1, Int)

abbrev pub a_step : (old : Bool) → Operator → Rule Form → Rule Form
a_step old op rule = do
  x ← rule
  stepped old op x

abbrev pub step_operator : StepOp → Operator
step_operator steps.Increment = Plus
step_operator steps.Decrement = Minus

abbrev pub assign_operator : AssignOp → Option Operator
assign_operator assigns.Plain = None
assign_operator assigns.Mul = Some (Arithmetic ops.Mul)
assign_operator assigns.Div = Some (Arithmetic ops.Div)
assign_operator assigns.Rem = Some (Arithmetic ops.Rem)
assign_operator assigns.Add = Some Plus
assign_operator assigns.Sub = Some Minus
assign_operator assigns.ShiftLeft = Some (Shift ops.ShiftLeft)
assign_operator assigns.ShiftRight = Some (Shift ops.ShiftRight)
assign_operator assigns.BitAnd = Some (Arithmetic ops.And)
assign_operator assigns.BitXor = Some (Arithmetic ops.Xor)
assign_operator assigns.BitOr = Some (Arithmetic ops.Or)

-- ---- members and elements (6.5.2.1, 6.5.2.3)

-- the number and the type of a struct's member
abbrev pub member_named : ℕ → List ℕ → Rule (ℕ × Ty)
member_named n name = do
  s ← state
  names ← given (slice_get s.members n)
  m ← given (number_of names name)
  t ← given (slice_get (members_of s.structs (struct n)) m)
  pure (m, t)

abbrev pub member_in : Place → Ty → List ℕ → Rule Form
member_in p (struct n) name = do
  m ← member_named n name
  pure (place (to.member p n m.0) m.1)
member_in p t name = none

abbrev pub member : Access → Form → List ℕ → Rule Form
member accesses.Dot f name = do
  p ← place_of f
  member_in p.0 p.1 name
member accesses.Arrow f name = do
  v ← pointer_of f
  member_in (to.deref v.0) v.1 name

abbrev pub element : to.Expr × Ty → to.Expr × IntType → Rule Form
element (p, t) (i, u) = do
  size_of t
  pure (place (to.deref (to.move t false p (at_type u LongLong i))) t)

-- ---- calls (6.5.2.2)

abbrev pub exprs_of : List to.Expr → to.Exprs
exprs_of [] = to.none
exprs_of (e ∷ es) = to.more e (exprs_of es)

-- the function that is called by its number, if it is
abbrev pub function_number : to.Expr → Option ℕ
function_number (to.function n) = Some n
function_number _ = None

abbrev pub call_of : Option ℕ → to.Expr → Ty → Option Scalar → to.Exprs → to.Expr
call_of None e t s es = to.call_through t s e es
call_of (Some n) e t s es = to.call n s es

-- a call of what a value points to
abbrev pub called : to.Expr × Ty → (Tys → Rule (List to.Expr)) → Rule Form
called (e, function r ps) arguments = do
  es ← arguments ps
  pure (value (call_of (function_number e) e (function r ps) (scalar_of r) (exprs_of es)) r)
called _ arguments = none

-- free takes a pointer to an object or a null constant
abbrev pub freed : Form → Option to.Expr
freed (value e (pointer t)) = if is_function t then None else Some (to.free e)
freed (zero t) = Some (to.free to.null)
freed form.null = Some (to.free to.null)
freed _ = None

abbrev pub freeing : Form → Rule Form
freeing f = do
  v ← operand f
  e ← given (freed v)
  pure (value e void)

abbrev pub putting : Form → Rule Form
putting f = do
  e ← assigned_to (integer Int) f
  pure (value (to.putchar e) (integer Int))

abbrev pub allocating : Form → Rule Form
allocating f = do
  e ← assigned_to (integer UnsignedInt) f
  pure (allocation (bytes e))

-- calloc, by the rules of its arguments, in order
abbrev pub multiplying : (count size : Rule Form) → Rule Form
multiplying count size = do
  n ← as_assigned (integer UnsignedInt) count
  e ← as_assigned (integer UnsignedInt) size
  pure (allocation (product n e))

abbrev pub no_arguments : Exprs → Bool
no_arguments tree.no_exprs = true
no_arguments (tree.expr_and e es) = false

-- a call of the library: of which function, with which arguments, the form of the sole one, and calloc's of two
abbrev pub library_call : LibraryName → Exprs → (only two : Rule Form) → Rule Form
library_call prelude.Putchar es only two = do
  x ← only
  putting x
library_call prelude.Getchar es only two = do
  only_if (no_arguments es)
  pure (value to.getchar (integer Int))
library_call prelude.Abort es only two = do
  only_if (no_arguments es)
  pure (value to.abort void)
library_call prelude.Malloc es only two = do
  x ← only
  allocating x
library_call prelude.Calloc es only two = two
library_call prelude.Free es only two = do
  x ← only
  freeing x
library_call prelude.Null es only two = none
library_call prelude.Eof es only two = none

-- a call: of the library, or of a function or a pointer to one
abbrev pub calling : Option LibraryName → Rule Form → Exprs → (only two : Rule Form) → (Tys → Rule (List to.Expr)) → Rule Form
calling (Some l) callee es only two arguments = library_call l es only two
calling None callee es only two arguments = do
  p ← a_pointer callee
  called p arguments

-- a cast of a form (6.5.4)
abbrev pub cast : Ty → Form → Rule Form
cast void f = do
  e ← thrown_away f
  pure (value (to.discard e) void)
cast (integer t) f = do
  v ← integer_of f
  pure (value (at_type v.1 t v.0) (integer t))
cast (pointer t) f = do
  e ← assigned_to (pointer t) f
  pure (value e (pointer t))
cast _ f = none

-- ---- the rules

abbrev pub called_library : Expr → Option LibraryName
called_library (tree.name n) = library n
called_library _ = None

abbrev pub constant_form : ℕ → IntType → Form
constant_form n t = if n == 0 then zero t else value (to.number t n) (integer t)

abbrev mutual
  pub typing : Expr → Rule Form
  typing (tree.name n) = name_form n (library n)
  typing (tree.integer n t) =
      pure (constant_form (constant_bits (constant_type t) n) (constant_type t))
  typing (tree.character c) = pure (value (to.number Int (character_bits c)) (integer Int))
  typing (tree.string s) = pure (text s)
  typing (tree.paren e) = typing e
  typing (tree.index a i) = do
    p ← a_pointer (typing a)
    j ← an_integer (typing i)
    element p j
  typing (tree.call f es) = calling (called_library f) (typing f) es (sole es) (factors es) (λ ts. arguments es ts [])
  typing (tree.member op e n) = do
    x ← typing e
    member op x n
  typing (tree.after op e) = a_step true (step_operator op) (typing e)
  typing (tree.unary unaries.AddressOf e) = do
    x ← typing e
    address x
  typing (tree.unary unaries.Deref e) = do
    x ← typing e
    deref x
  typing (tree.unary unaries.Plus e) = do
    x ← typing e
    plus x
  typing (tree.unary unaries.Minus e) = do
    x ← typing e
    signed signs.Negate x
  typing (tree.unary unaries.Complement e) = do
    x ← typing e
    signed signs.Complement x
  typing (tree.unary unaries.Not e) = do
    x ← typing e
    negated x
  typing (tree.unary unaries.Increment e) = a_step false Plus (typing e)
  typing (tree.unary unaries.Decrement e) = a_step false Minus (typing e)
  typing (tree.unary unaries.SizeOf e) = unevaluated (size_of_value (typing e))
  typing (tree.size_of_type s d) = do
    t ← type_name s d
    n ← size_of t
    pure (value (to.size_of_type n) (integer UnsignedInt))
  typing (tree.cast s d e) = do
    t ← type_name s d
    x ← typing e
    cast t x
  -- 6.5.17
  typing (tree.between Comma a b) = do
    e ← performed (typing a)
    v ← a_value (typing b)
    pure (value (to.comma e v.0) v.1)
  typing (tree.between (Assign op) a b) = do
    p ← a_place (typing a)
    y ← typing b
    assigning (assign_operator op) p y
  typing (tree.between (Binary op) a b) = do
    x ← typing a
    operating (operator_of op) x (typing b)
  typing (tree.choice c a b) = do
    test ← a_condition (typing c)
    u ← an_operand (typing a)
    v ← an_operand (typing b)
    given (choice test u v)

  -- the sole argument
  pub sole : Exprs → Rule Form
  sole (tree.expr_and e tree.no_exprs) = typing e
  sole _ = none

  -- calloc's two arguments
  pub factors : Exprs → Rule Form
  factors (tree.expr_and a (tree.expr_and b tree.no_exprs)) = multiplying (typing a) (typing b)
  factors _ = none

  -- arguments, converted to the types of parameters, as many as there are, behind those so far
  pub arguments : Exprs → Tys → List to.Expr → Rule (List to.Expr)
  arguments tree.no_exprs no_types vs = pure vs
  arguments (tree.expr_and e es) (types t ts) vs = do
    v ← as_assigned t (typing e)
    arguments es ts (vs ++ v ∷ [])
  arguments _ _ vs = none
