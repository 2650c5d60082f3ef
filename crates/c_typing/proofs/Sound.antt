-- The types of expressions and places are types that may stand in a unit: places are of objects, functions take scalars.
use Rattle.std.proofs.Common.{◌≡◌, ℕ, List, true, false, Some, refl, sym, subst}
use Rattle.std.specs.Prelude.{slice_get}
use Rattle.c_types.specs.declared.types.Scalar.{Scalar}
use Rattle.c_types.specs.declared.types.Scalar.TheVariants as scalars
use Rattle.c_types.specs.declared.integers.IntType.TheVariants.{Int, Char, UnsignedInt, LongLong}
use Rattle.c_types.specs.Layout.{Table, HasSize}
use Rattle.c_types.specs.Types.{Ty, void, integer, struct, pointer, array, function, Tys, no_types, is_function, scalar_of}
use Rattle.c_types.specs.Types as ty
use Rattle.c_typed.specs.declared.ops.Variable.{Variable}
use Rattle.c_typed.specs.declared.ops.Variable.TheVariants.{Local, Global}
use Rattle.c_typed.specs.Tree as tree
use Rattle.c_typed.specs.Tree.{Place, of, deref, member, Expr}
use Rattle.c_typed.specs.refinement.Expressions as well
use Rattle.c_typed.specs.refinement.Expressions.{HasType, IsPlace, IsMember}
use Rattle.c_typed.specs.refinement.Types.{IsType, AreParameters, IsScalar}
use Rattle.c_typing.proofs.Names.{TypeOf}

abbrev pub HasScalar : Ty → Type 0
HasScalar t = (s : Scalar) × (scalar_of t ≡ Some s)

abbrev mutual
  pub Sound : Ty → Type 0
  Sound (pointer t) = Sound t
  Sound (array t n) = (is_function t ≡ false) × Sound t
  Sound (function r ps) = Sound r × AreSound ps
  Sound _ = Unit {0}

  pub AreSound : Tys → Type 0
  AreSound no_types = Unit {0}
  AreSound (ty.types t ts) = HasScalar t × Sound t × AreSound ts

abbrev pub IsSoundObject : Ty → Type 0
IsSoundObject t = (is_function t ≡ false) × Sound t

pub record AreSoundNames (structs : Table) (globals slots functions : List Ty) : Type 0 where
  pub variable : (v : Variable) (t : Ty) → TypeOf globals slots v t → IsSoundObject t
  pub member : (n m : ℕ) (t : Ty) → IsMember structs n m t → IsSoundObject t
  pub function : (n : ℕ) (t : Ty) → slice_get functions n ≡ Some t → (is_function t ≡ true) × Sound t

-- ---- types that may stand in a unit

pub sized_is : (table : Table) (t : Ty) → HasSize table t → is_function t ≡ false
sized_is table void h = refl
sized_is table (integer u) h = refl
sized_is table (struct n) h = refl
sized_is table (pointer t) h = refl
sized_is table (array t n) h = refl
sized_is table (function r ps) h = absurd h

scalar_has : (t : Ty) → IsScalar t → HasScalar t
scalar_has (integer u) h = (scalars.Int u, refl)
scalar_has (pointer (void)) h = (scalars.Pointer, refl)
scalar_has (pointer (integer u)) h = (scalars.Pointer, refl)
scalar_has (pointer (struct n)) h = (scalars.Pointer, refl)
scalar_has (pointer (pointer t)) h = (scalars.Pointer, refl)
scalar_has (pointer (array t n)) h = (scalars.Pointer, refl)
scalar_has (pointer (function r ps)) h = (scalars.Function, refl)
scalar_has void h = absurd h
scalar_has (struct n) h = absurd h
scalar_has (array t n) h = absurd h
scalar_has (function r ps) h = absurd h

mutual
  pub sound_of_type : (table : Table) (t : Ty) → IsType table t → Sound t
  sound_of_type table void h = tt
  sound_of_type table (integer u) h = tt
  sound_of_type table (struct n) h = tt
  sound_of_type table (pointer t) h = sound_of_type table t h.1
  sound_of_type table (array t n) h = (sized_is table t h.1.0.1, sound_of_type table t h.0)
  sound_of_type table (function r ps) h = (sound_of_type table r h.1, sound_of_types table ps h.2)

  sound_of_types : (table : Table) (ps : Tys) → AreParameters table ps → AreSound ps
  sound_of_types table no_types h = tt
  sound_of_types table (ty.types t ts) h = (scalar_has t h.0, sound_of_type table t h.1, sound_of_types table ts h.2)

module _ (k : well.Context) (names : AreSoundNames k.structs k.globals k.slots k.functions) where
  by_type : (t u : Ty) → t ≡ u → Sound u → Sound t
  by_type t u e h = subst (λ (q : Ty). Sound q) (sym e) h

  mutual
    pub sound_place : (p : Place) (t : Ty) → IsPlace k p t → IsSoundObject t
    sound_place (of (Local n)) t h = names.variable (Local n) t h.0
    sound_place (of (Global n)) t h = names.variable (Global n) t h
    sound_place (deref e) t h = (h.0, sound_expr e (pointer t) h.1)
    sound_place (member p n m) t h = names.member n m t h.1

    pub sound_expr : (e : Expr) (t : Ty) → HasType k e t → Sound t
    sound_expr (tree.number u n) t h = by_type t (integer u) h.0 tt
    sound_expr tree.null t h = sound_of_type k.structs t h.3
    sound_expr tree.no_function t h = sound_of_type k.structs t h.3
    sound_expr (tree.function n) t h = by_type t (pointer h.0) h.1 ((names.function n h.0 h.2).1)
    sound_expr (tree.literal n) t h = by_type t (pointer (integer Char)) h.0 tt
    sound_expr (tree.read s p) t h = (sound_place p t h.1).1
    sound_expr (tree.decay u n p) t h = by_type t (pointer u) h.0 ((sound_place p (array u n) h.1).1.1)
    sound_expr (tree.address p) t h = by_type t (pointer h.0) h.1 ((sound_place p h.0 h.2).1)
    sound_expr (tree.convert u v a) t h = by_type t (integer v) h.0 tt
    sound_expr (tree.truth s a) t h = by_type t (integer Int) h.1 tt
    sound_expr (tree.not a) t h = by_type t (integer Int) h.1 tt
    sound_expr (tree.unary o u a) t h = by_type t (integer u) h.0 tt
    sound_expr (tree.binary o u a b) t h = by_type t (integer u) h.0 tt
    sound_expr (tree.compare o u a b) t h = by_type t (integer Int) h.0 tt
    sound_expr (tree.compare_pointers o a b) t h = by_type t (integer Int) h.1 tt
    sound_expr (tree.same_function is a b) t h = by_type t (integer Int) h.1 tt
    sound_expr (tree.difference u a b) t h = by_type t (integer LongLong) h.0 tt
    sound_expr (tree.move u back a b) t h = by_type t (pointer u) h.0 (sound_expr a (pointer u) h.2)
    sound_expr (tree.move_by u a b) t h = by_type t (pointer u) h.0 (sound_expr b (pointer u) h.3)
    sound_expr (tree.and a b) t h = by_type t (integer Int) h.2 tt
    sound_expr (tree.or a b) t h = by_type t (integer Int) h.2 tt
    sound_expr (tree.choose s e a b) t h = sound_expr a t h.4
    sound_expr (tree.comma a b) t h = sound_expr b t h.2
    sound_expr (tree.assign s p e) t h = (sound_place p t h.1).1
    sound_expr (tree.update old u o v p e) t h = by_type t (integer u) h.0 tt
    sound_expr (tree.advance old u back p e) t h = by_type t (pointer u) h.0 ((sound_place p (pointer u) h.2).1)
    sound_expr (tree.copy n p q) t h = by_type t void h.0 tt
    sound_expr (tree.call n s es) t h = (names.function n (function t h.0) h.1).1.0
    sound_expr (tree.call_through f s e es) t h = (subst (λ (q : Ty). Sound q) h.1 (sound_expr e (pointer f) h.3)).0
    sound_expr (tree.putchar e) t h = by_type t (integer Int) h.0 tt
    sound_expr tree.getchar t h = by_type t (integer Int) h tt
    sound_expr tree.abort t h = by_type t void h tt
    sound_expr (tree.malloc u e) t h = by_type t (pointer u) h.0 (sound_of_type k.structs u h.1)
    sound_expr (tree.calloc u a b) t h = by_type t (pointer u) h.0 (sound_of_type k.structs u h.1)
    sound_expr (tree.free e) t h = by_type t void h.1 tt
    sound_expr (tree.discard e) t h = by_type t void h.1 tt
    sound_expr (tree.visit p) t h = by_type t void h.1 tt
    sound_expr (tree.size_of_place n p) t h = by_type t (integer UnsignedInt) h.2 tt
    sound_expr (tree.size_of_value n e) t h = by_type t (integer UnsignedInt) h.2 tt
    sound_expr (tree.size_of_type n) t h = by_type t (integer UnsignedInt) h tt
