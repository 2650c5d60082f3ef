-- The types of places and expressions (C11, 6.5). Each form has one line: what its type is, and what its parts have to be.
use Rattle.std.specs.Prelude.{◌≡◌, ℕ, ◌==◌, ◌||◌, ◌≤◌, ◌<◌, ◌^◌, Bool, true, false, List, [], ◌∷◌, ◌++◌, slice_get, Some}
use Rattle.c_types.specs.declared.integers.IntType.{IntType}
use Rattle.c_types.specs.declared.integers.IntType.TheVariants.{Char, Int, UnsignedInt, LongLong}
use Rattle.c_types.specs.Integers.{bits, promoted}
use Rattle.c_types.specs.Layout.{Table, IsSmall, members_of, size}
use Rattle.c_types.specs.Types.{Ty, void, integer, struct, pointer, array, function, Tys, no_types, types, is_function, scalar_of}
use Rattle.c_typed.specs.declared.ops.Variable.{Variable}
use Rattle.c_typed.specs.declared.ops.Variable.TheVariants.{Local, Global}
use Rattle.c_typed.specs.Tree as tree
use Rattle.c_typed.specs.Tree.{Place, Expr, Exprs}
use Rattle.c_typed.specs.refinement.Types.{IsType}

-- What a tree may name: structs, variables at file scope, string literals, functions, and of the variables of the function those
-- of the blocks that stand around it.
pub record Context : Type 0 where
  pub structs : Table
  pub globals : List Ty
  -- how many literals are made
  pub literals : ℕ
  pub functions : List Ty
  pub slots : List Ty
  -- the slots of its parameters, and of the variables of these blocks
  pub visible : List ℕ

abbrev pub with_literals : Context → ℕ → Context
with_literals c n = record c { literals = n }

abbrev pub is_visible : List ℕ → ℕ → Bool
is_visible [] n = false
is_visible (m ∷ ms) n = m == n || is_visible ms n

-- with the variables of a block (6.2.1, paragraph 4)
abbrev pub opened : Context → List ℕ → Context
opened c ns = record c { visible = c.visible ++ ns }

abbrev pub IsVariable : Context → Variable → Ty → Type 0
IsVariable c (Local n) t = (slice_get c.slots n ≡ Some t) × (is_visible c.visible n ≡ true)
IsVariable c (Global n) t = slice_get c.globals n ≡ Some t

-- what a struct's member is
abbrev pub IsMember : Table → (number index : ℕ) → Ty → Type 0
IsMember structs n m t = slice_get (members_of structs (struct n)) m ≡ Some t

-- an integer of at most 32 bits, which is tested as it is
abbrev pub IsNarrow : IntType → Type 0
IsNarrow t = bits t ≤ 32

-- a type that arithmetic works at: it is its own promotion (6.3.1.1)
abbrev pub IsPromoted : IntType → Type 0
IsPromoted t = promoted t ≡ t

abbrev mutual
  -- `IsPlace c p t`: the place p is one of an object of the type t
  pub IsPlace : Context → Place → Ty → Type 0
  IsPlace c (tree.of v) t = IsVariable c v t
  IsPlace c (tree.deref e) t = (is_function t ≡ false) × HasType c e (pointer t)
  IsPlace c (tree.member p n m) t = IsPlace c p (struct n) × IsMember c.structs n m t

  -- `HasType c e t`: the expression e has the type t, void where it has no value
  pub HasType : Context → Expr → Ty → Type 0
  HasType c (tree.number u n) t = (t ≡ integer u) × (n < 2 ^ bits u)
  HasType c tree.null t =
      (u : Ty) × (t ≡ pointer u) × (is_function u ≡ false) × IsType c.structs t
  HasType c tree.no_function t =
      (u : Ty) × (t ≡ pointer u) × (is_function u ≡ true) × IsType c.structs t
  HasType c (tree.function n) t = (u : Ty) × (t ≡ pointer u) × (slice_get c.functions n ≡ Some u)
  HasType c (tree.literal n) t = (t ≡ pointer (integer Char)) × (n < c.literals)
  HasType c (tree.read s p) t = (scalar_of t ≡ Some s) × IsPlace c p t
  HasType c (tree.decay u n p) t = (t ≡ pointer u) × IsPlace c p (array u n)
  HasType c (tree.address p) t = (u : Ty) × (t ≡ pointer u) × IsPlace c p u
  HasType c (tree.convert u v e) t = (t ≡ integer v) × HasType c e (integer u)
  HasType c (tree.truth s e) t =
      (u : Ty) × (t ≡ integer Int) × (scalar_of u ≡ Some s) × HasType c e u
  HasType c (tree.not e) t =
      (u : IntType) × (t ≡ integer Int) × IsNarrow u × HasType c e (integer u)
  HasType c (tree.unary op u e) t = (t ≡ integer u) × IsPromoted u × HasType c e (integer u)
  HasType c (tree.binary op u a b) t =
      (t ≡ integer u) × IsPromoted u × HasType c a (integer u) × HasType c b (integer u)
  HasType c (tree.compare op u a b) t =
      (t ≡ integer Int) × IsPromoted u × HasType c a (integer u) × HasType c b (integer u)
  HasType c (tree.compare_pointers op a b) t =
      (u : Ty) × (t ≡ integer Int) × (is_function u ≡ false) × HasType c a (pointer u) × HasType c b (pointer u)
  HasType c (tree.same_function is a b) t =
      (u : Ty) × (t ≡ integer Int) × (is_function u ≡ true) × HasType c a (pointer u) × HasType c b (pointer u)
  HasType c (tree.difference u a b) t =
      (t ≡ integer LongLong) × IsSmall c.structs u × HasType c a (pointer u) × HasType c b (pointer u)
  HasType c (tree.move u back a b) t =
      (t ≡ pointer u) × IsSmall c.structs u × HasType c a (pointer u) × HasType c b (integer LongLong)
  HasType c (tree.move_by u a b) t =
      (t ≡ pointer u) × IsSmall c.structs u × HasType c a (integer LongLong) × HasType c b (pointer u)
  HasType c (tree.and a b) t =
      (u v : IntType) × (t ≡ integer Int) × IsNarrow u × IsNarrow v × HasType c a (integer u) × HasType c b (integer v)
  HasType c (tree.or a b) t =
      (u v : IntType) × (t ≡ integer Int) × IsNarrow u × IsNarrow v × HasType c a (integer u) × HasType c b (integer v)
  HasType c (tree.choose s e a b) t =
      (u : IntType) × (scalar_of t ≡ s) × IsNarrow u × HasType c e (integer u) × HasType c a t × HasType c b t
  HasType c (tree.comma a b) t = (u : Ty) × HasType c a u × HasType c b t
  HasType c (tree.assign s p e) t = (scalar_of t ≡ Some s) × IsPlace c p t × HasType c e t
  HasType c (tree.update old u op v p e) t =
      (t ≡ integer u) × IsPromoted v × IsPlace c p (integer u) × HasType c e (integer v)
  HasType c (tree.advance old u back p e) t =
      (t ≡ pointer u) × IsSmall c.structs u × IsPlace c p (pointer u) × HasType c e (integer LongLong)
  HasType c (tree.copy n p q) t =
      (t ≡ void) × IsSmall c.structs (struct n) × IsPlace c p (struct n) × IsPlace c q (struct n)
  HasType c (tree.call n s es) t =
      (us : Tys) × (slice_get c.functions n ≡ Some (function t us)) × (scalar_of t ≡ s) × HaveTypes c es us
  HasType c (tree.call_through f s e es) t =
      (us : Tys) × (f ≡ function t us) × (scalar_of t ≡ s) × HasType c e (pointer f) × HaveTypes c es us
  HasType c (tree.putchar e) t = (t ≡ integer Int) × HasType c e (integer Int)
  HasType c tree.getchar t = t ≡ integer Int
  HasType c tree.abort t = t ≡ void
  HasType c (tree.malloc u e) t =
      (t ≡ pointer u) × IsType c.structs u × IsSmall c.structs u × HasType c e (integer UnsignedInt)
  HasType c (tree.calloc u a b) t =
      (t ≡ pointer u) × IsType c.structs u × IsSmall c.structs u × HasType c a (integer UnsignedInt) × HasType c b (integer UnsignedInt)
  HasType c (tree.free e) t =
      (u : Ty) × (t ≡ void) × (is_function u ≡ false) × HasType c e (pointer u)
  HasType c (tree.discard e) t = (u : Ty) × (t ≡ void) × HasType c e u
  HasType c (tree.visit p) t =
      (n : ℕ) × (t ≡ void) × IsSmall c.structs (struct n) × IsPlace c p (struct n)
  -- What stands in sizeof isn't evaluated, and its literals are counted by themselves (6.5.3.4).
  HasType c (tree.size_of_place n p) t =
      (u : Ty) × (k : ℕ) × (t ≡ integer UnsignedInt) × IsSmall c.structs u × (n ≡ size c.structs u) × IsPlace (with_literals c k) p u
  HasType c (tree.size_of_value n e) t =
      (u : Ty) × (k : ℕ) × (t ≡ integer UnsignedInt) × IsSmall c.structs u × (n ≡ size c.structs u) × HasType (with_literals c k) e u
  HasType c (tree.size_of_type n) t = t ≡ integer UnsignedInt

  -- as many arguments as there are parameters, each of its type (6.5.2.2)
  pub HaveTypes : Context → Exprs → Tys → Type 0
  HaveTypes c tree.none no_types = Unit {0}
  HaveTypes c (tree.more e es) (types t ts) = HasType c e t × HaveTypes c es ts
  HaveTypes c _ _ = ⊥

-- 6.8.4.1, 6.8.5
abbrev pub IsCondition : Context → Expr → Type 0
IsCondition c e = (u : IntType) × IsNarrow u × HasType c e (integer u)
