-- Where code is made: what it refers to, and the types of the variables that it may name.
use Rattle.std.specs.Prelude.{◌≡◌, refl, ◌+◌, ℕ, Bool, List, length, map, Option, Some, None, slice_get}
use Rattle.std.specs.Borrow.{Bor}
use Rattle.c_types.specs.declared.types.CType.{CType}
use Rattle.c_types.specs.Types.{Ty, type_of}
use Rattle.c_typed.specs.declared.ops.Variable.{Variable}
use Rattle.c_typed.specs.declared.ops.Variable.TheVariants.{Local, Global}
use Rattle.c_typed.specs.declared.tree.Stmt.{Stmt}
use Rattle.c_typed.specs.declared.unit.TypedUnit.{TypedUnit}
use Rattle.c_typed.specs.Tree.{Typed}
use Rattle.c_typed.specs.refinement.Views.{stmt_of, typed_of}
use Rattle.c_code.specs.Modules.{entry_of, index_of, is_object_in, no_slots, sigs_through, target}
use Rattle.c_code.specs.Targets.{Target}
use Rattle.c_emit.specs.declared.tables.Tables.{Tables}

pub record Site : Type 0 where
  pub target : Target
  -- of the slots of the function, and of the variables at file scope
  pub slots : List Ty
  pub globals : List Ty

-- which variables are objects, in a body or before `main`
abbrev pub objects_in : Typed → List Ty → Option Stmt → Variable → Bool
objects_in u slots None = no_slots u
objects_in u slots (Some s) = is_object_in u (stmt_of s) slots

abbrev pub site_in : Typed → List Ty → Option Stmt → (first scratch : ℕ) → Site
site_in u slots body first scratch =
    record { target = target u (objects_in u slots body) first scratch; slots = slots; globals = u.globals }

-- A body of a unit, or what is done before `main`, and its site. (Proofs tell values apart by data; a site has functions.)
pub record Body : Type 0 where
  pub unit : TypedUnit
  pub types : List CType
  pub body : Option Stmt
  pub first : ℕ
  pub scratch : ℕ
  pub site : Site
  pub open site use *
  pub is : site ≡ site_in (typed_of unit) (map type_of types) body first scratch

abbrev borrowed : Option (Bor Stmt) → Option Stmt
borrowed None = None
borrowed (Some s) = Some s.now

abbrev pub body_of : TypedUnit → List CType → Option (Bor Stmt) → (first scratch : ℕ) → Body
body_of u types body first scratch = record {
  unit = u;
  types = types;
  body = borrowed body;
  first = first;
  scratch = scratch;
  site = site_in (typed_of u) (map type_of types) (borrowed body) first scratch;
  is = refl;
}

-- what the tables hold of a function: its index, and its entry
pub record AreTables (u : Typed) (t : Tables) : Type 0 where
  pub index : (n i : ℕ) → slice_get t.index.items n ≡ Some i → i ≡ index_of u n
  pub entry : (n i : ℕ) → slice_get t.entry.items n ≡ Some i → i ≡ entry_of u n
  pub through : t.through ≡ sigs_through u
  pub first_through : t.first_through ≡ 3 + length u.functions

-- the flags of variables say what is an object
pub record AreFlags (p : Variable → Bool) (locals globals : List Bool) : Type 0 where
  pub local : (n : ℕ) (b : Bool) → slice_get locals n ≡ Some b → b ≡ p (Local n)
  pub global : (n : ℕ) (b : Bool) → slice_get globals n ≡ Some b → b ≡ p (Global n)
