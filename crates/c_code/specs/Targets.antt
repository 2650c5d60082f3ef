-- What the code of a function refers to, and the code of variables (WebAssembly 1.0, 2.4.2).
use Rattle.std.specs.Prelude.{ℕ, ◌+◌, Bool, List, [], ◌∷◌, Option, Some, None, if◌then◌else◌}
use Rattle.ms_module.specs.declared.instr.Instr.{Instr}
use Rattle.ms_module.specs.declared.instr.Instr.TheVariants.{GlobalGet, GlobalSet, LocalGet, LocalSet, LocalTee, Drop}
use Rattle.ms_module.specs.declared.numeric.Width.{Width}
use Rattle.ms_module.specs.declared.numeric.Width.TheVariants.{W32, W64}
use Rattle.c_types.specs.declared.types.Scalar.{Scalar}
use Rattle.c_types.specs.declared.types.Scalar.TheVariants as scalars
use Rattle.c_types.specs.Layout.{Table}
use Rattle.c_types.specs.Types.{Ty}
use Rattle.c_typed.specs.declared.ops.Variable.{Variable}
use Rattle.c_typed.specs.declared.ops.Variable.TheVariants.{Local, Global}
use Rattle.c_typed.specs.Tree.{Place, of}
use Rattle.ms_emit.specs.Codes.{Code, plain, one, no_code}
use Rattle.c_code.specs.Operations.{width_of}

-- Behind the slots a function has four scratch locals, an i32, an i64 and two handles, and then those of values that wait.
pub record Target : Type 0 where
  pub structs : Table
  -- by a function's number: its index, and its entry in the table
  pub index : ℕ → ℕ
  pub entry : ℕ → ℕ
  -- the type of a function that is called through a pointer
  pub sig : Ty → ℕ
  -- how many variables stand at file scope: a global for each, and then one for each string literal
  pub globals : ℕ
  -- whether a variable is an object, whose handle its local or global then holds
  pub is_object : Variable → Bool
  -- the local of the first slot, and the first scratch local
  pub first : ℕ
  pub scratch : ℕ

module _ (t : Target) where
  -- ---- variables

  abbrev pub get : Variable → Instr
  get (Local n) = LocalGet (t.first + n)
  get (Global n) = GlobalGet n

  abbrev pub set : Variable → Instr
  set (Local n) = LocalSet (t.first + n)
  set (Global n) = GlobalSet n

  -- the value is set, and stays
  abbrev pub tee : Variable → Code
  tee (Local n) = one (LocalTee (t.first + n))
  tee (Global n) = plain (GlobalSet n ∷ GlobalGet n ∷ [])

  -- the variable that a place is, if it is no object
  abbrev pub plain_in : Place → Option Variable
  plain_in (of v) = if t.is_object v then None else Some v
  plain_in _ = None

  -- ---- scratch locals: each is read right behind where it is set

  abbrev pub scratch_i32 : ℕ
  scratch_i32 = t.scratch

  abbrev pub scratch_i64 : ℕ
  scratch_i64 = t.scratch + 1

  -- a handle that is a value, and one that is a place
  abbrev pub scratch_handle : ℕ
  scratch_handle = t.scratch + 2

  abbrev pub scratch_place : ℕ
  scratch_place = t.scratch + 3

  abbrev pub scratch_of_width : Width → ℕ
  scratch_of_width W32 = scratch_i32
  scratch_of_width W64 = scratch_i64

  abbrev pub scratch_of : Scalar → ℕ
  scratch_of (scalars.Int u) = scratch_of_width (width_of u)
  scratch_of scalars.Pointer = scratch_handle
  scratch_of scalars.Function = scratch_i32

  -- of the value that waits while d others do
  abbrev pub waiting : (d : ℕ) → ℕ
  waiting d = t.scratch + 4 + d
