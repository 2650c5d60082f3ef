-- Initializers (C11, 6.7.9), flattened to assignments of leaves. What isn't given stays zero.
use Rattle.std.specs.Prelude.{ℕ, ◌+◌, nat_lt, Bool, true, false, List, [], ◌∷◌, ◌++◌, slice_get, Option, Some, if◌then◌else◌}
use Rattle.c_types.specs.Layout.{members_of}
use Rattle.c_types.specs.Types.{Ty, integer, struct, pointer, array, scalar_of}
use Rattle.c_tree.specs.Tree as tree
use Rattle.c_tree.specs.Tree.{Expr, Initialiser, Initialisers}
use Rattle.c_typed.specs.Tree as to
use Rattle.c_typed.specs.Tree.{Place, Stmt}
use Rattle.c_typed.specs.Parts.{element_place}
use Rattle.c_check_types.specs.State.{Rule, ◌>>=◌, ◌>>◌, pure, none, given, only_if, state, and_then}
use Rattle.c_check_types.specs.TypeEquality.{same_type}
use Rattle.c_check_types.specs.Types.{constant, size_of}
use Rattle.c_check_types.specs.Constants.{value_at}
use Rattle.c_conversions.specs.Conversions as form
use Rattle.c_conversions.specs.Conversions.{Form, place, designator, text, zero, assigned_to}
use Rattle.c_declare.specs.Initials.{bare, is_address, is_reference, fills}
use Rattle.c_check_exprs.specs.Expressions.{a_place, as_assigned, typing}

-- ---- what a leaf is given

-- the form of a constant address: `&name`, the name of an array or a function, a string, NULL or 0 (6.6, paragraph 9)
abbrev pub is_array : Ty → Bool
is_array (array t n) = true
is_array _ = false

abbrev pub names_address : Form → Bool
names_address (place p t) = is_array t
names_address (designator e t) = true
names_address (text bytes) = true
names_address (zero t) = true
names_address form.null = true
names_address _ = false

abbrev pub is_known : Expr → Form → Bool
is_known e x = if is_reference e then true else names_address x

abbrev pub pointer_constant : Ty → Expr → Rule to.Expr
pointer_constant t e = do
  only_if (is_address e)
  x ← typing e
  only_if (is_known e x)
  assigned_to (pointer t) x

-- a value at file scope (6.7.9, paragraph 4)
abbrev pub static_value : Ty → Expr → Rule to.Expr
static_value (integer t) e = do
  c ← constant e
  n ← given (value_at t c)
  pure (to.number t n)
static_value (pointer t) e = pointer_constant t (bare e)
static_value _ e = none

-- at file scope, or in a function
abbrev pub leaf : (static : Bool) → Ty → Expr → Rule to.Expr
leaf true t e = static_value t e
leaf false t e = as_assigned t (typing e)

-- a value of a place, behind what is done so far
abbrev pub string_value : Place → Ty → ℕ → Expr → List Stmt → Option (List Stmt)
string_value p t n e done = and_then (fills t n e) (λ bytes. Some (done ++ to.fill p n bytes ∷ []))

abbrev pub scalar_value : (static : Bool) → Place → Ty → Expr → List Stmt → Rule (List Stmt)
scalar_value static p t e done = do
  s ← given (scalar_of t)
  v ← leaf static t e
  pure (done ++ to.perform (to.assign s p v) ∷ [])

abbrev pub single_value : (static : Bool) → Place → Ty → Expr → List Stmt → Rule (List Stmt)
single_value static p (array t n) e done = given (string_value p t n e done)
single_value static p t e done = scalar_value static p t e done

-- the type of a member of a struct
abbrev pub member_type : (number index : ℕ) → Rule Ty
member_type m i = do
  s ← state
  given (slice_get (members_of s.structs (struct m)) i)

-- an element, no more than there are, by what its initializer gives at its place
abbrev pub element : (Place → List Stmt → Rule (List Stmt)) → Place → Ty → (count index : ℕ) → List Stmt → Rule (List Stmt)
element gives p t n i done = do
  only_if (nat_lt i n)
  gives (element_place p t n i) done

-- a member, no more than there are, by what its initializer gives at its place and its type
abbrev pub member : (Place → Ty → List Stmt → Rule (List Stmt)) → Place → (number index : ℕ) → List Stmt → Rule (List Stmt)
member gives p m i done = do
  t ← member_type m i
  gives (to.member p m i) t done

-- Inside braces a struct has braces of its own. A value is written before the next one is evaluated.
abbrev mutual
  pub inside : (v : Initialiser) → (static : Bool) → Place → Ty → List Stmt → Rule (List Stmt)
  inside (tree.single e) static p t done = single_value static p t e done
  inside (tree.braces vs comma) static p (array t n) done = elements vs static p t n 0 done
  inside (tree.braces vs comma) static p (struct m) done = members vs static p m 0 done
  inside (tree.braces vs comma) static p t done = none

  pub elements : (vs : Initialisers) → (static : Bool) → Place → Ty → (count index : ℕ) → List Stmt → Rule (List Stmt)
  elements tree.no_initialisers static p t n i done = pure done
  elements (tree.initialiser_and v vs) static p t n i done = do
    more ← element (λ q so_far. inside v static q t so_far) p t n i done
    elements vs static p t n (i + 1) more

  pub members : (vs : Initialisers) → (static : Bool) → Place → (number index : ℕ) → List Stmt → Rule (List Stmt)
  members tree.no_initialisers static p m i done = pure done
  members (tree.initialiser_and v vs) static p m i done = do
    more ← member (λ q t so_far. inside v static q t so_far) p m i done
    members vs static p m (i + 1) more

-- A variable's initializer. In a function a struct is initialized from a place, too (6.7.9, paragraph 13).
abbrev pub from_place : ℕ → Place → Place × Ty → List Stmt → Rule (List Stmt)
from_place m p (q, t) done = do
  only_if (same_type (struct m) t)
  size_of t
  pure (done ++ to.perform (to.copy m p q) ∷ [])

abbrev pub copied_from : ℕ → Place → Expr → List Stmt → Rule (List Stmt)
copied_from m p e done = do
  q ← a_place (typing e)
  from_place m p q done

abbrev pub initialised : (v : Initialiser) → (static : Bool) → Place → Ty → List Stmt → Rule (List Stmt)
initialised (tree.single e) false p (struct m) done = copied_from m p e done
initialised v static p t done = inside v static p t done
