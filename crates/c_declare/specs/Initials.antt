-- What an initializer says by its form (C11, 6.7.9): whether it may be an address that is known before `main`, the bytes of a
-- string, and the length of an array.
use Rattle.std.specs.Prelude.{ℕ, ◌+◌, ◌&&◌, nat_le, Bool, true, false, List, length, Option, Some, None, if◌then◌else◌}
use Rattle.c_types.specs.declared.integers.IntType.TheVariants.{Char}
use Rattle.c_types.specs.Types.{Ty, integer}
use Rattle.c_tree.specs.declared.operators.UnaryOp.{UnaryOp}
use Rattle.c_tree.specs.declared.operators.UnaryOp.TheVariants as unaries
use Rattle.c_tree.specs.Tree as tree
use Rattle.c_tree.specs.Tree.{Expr, Initialiser, Initialisers}
use Rattle.c_check_types.specs.State.{Rule, ◌>>=◌, ◌>>◌, pure, given}
use Rattle.c_check_types.specs.TypeEquality.{same_integer}
use Rattle.c_check_types.specs.Types.{Derived, whole, lengthless, array_of, size_of}

-- ---- addresses (6.6, paragraph 9)

-- at file scope, an expression without its parentheses
abbrev pub bare : Expr → Expr
bare (tree.paren e) = bare e
bare e = e

abbrev pub is_name : Expr → Bool
is_name (tree.name n) = true
is_name _ = false

-- whether an expression may be an address that is known before `main`: an `&` and a name, a name, a string or a constant
abbrev pub takes_address : UnaryOp → Bool
takes_address unaries.AddressOf = true
takes_address _ = false

abbrev pub is_address : Expr → Bool
is_address (tree.unary op e) = takes_address op && is_name (bare e)
is_address (tree.name n) = true
is_address (tree.string s) = true
is_address (tree.integer n t) = true
is_address _ = false

abbrev pub is_reference : Expr → Bool
is_reference (tree.unary op e) = takes_address op
is_reference _ = false

-- ---- strings

abbrev pub is_char : Ty → Bool
is_char (integer t) = same_integer t Char
is_char _ = false

abbrev pub string_of : Expr → Option (List ℕ)
string_of (tree.string bytes) = Some bytes
string_of _ = None

abbrev pub at_most : ℕ → Option (List ℕ) → Option (List ℕ)
at_most n None = None
at_most n (Some bytes) = if nat_le (length bytes) n then Some bytes else None

-- a char array takes a string of at most its length without the final zero (6.7.9, paragraph 14)
abbrev pub fills : Ty → ℕ → Expr → Option (List ℕ)
fills t n e = if is_char t then at_most n (string_of e) else None

-- ---- a length that is missing (6.7.9, paragraph 22)

abbrev pub count : Initialisers → ℕ
count tree.no_initialisers = 0
count (tree.initialiser_and v vs) = count vs + 1

abbrev pub with_zero : Option (List ℕ) → Option ℕ
with_zero None = None
with_zero (Some bytes) = Some (length bytes + 1)

abbrev pub given_length : Ty → Option Initialiser → Option ℕ
given_length t None = None
given_length t (Some (tree.braces vs comma)) = Some (count vs)
given_length t (Some (tree.single e)) = if is_char t then with_zero (string_of e) else None

-- the type of a variable: it has a size
abbrev pub variable_type : Derived → Option Initialiser → Rule Ty
variable_type (whole t) v = do
  size_of t
  pure t
variable_type (lengthless t) v = do
  n ← given (given_length t v)
  array_of t n
