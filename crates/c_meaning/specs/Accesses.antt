-- Objects that are made, each by a grant, and variables (C11, 6.2.4 and 7.22.3).
use Rattle.std.specs.Prelude.{ℕ, ◌*◌, ◌/◌, nat_lt, Bool, true, false, List, [], ◌∷◌, ◌++◌, length, Option, Some, None, if◌then◌else◌, slice_get, slice_set}
use Rattle.c_types.specs.Types.{Ty}
use Rattle.c_types.specs.Layout.{Table}
use Rattle.c_typed.specs.declared.ops.Variable.{Variable}
use Rattle.c_typed.specs.declared.ops.Variable.TheVariants.{Local, Global}
use Rattle.c_meaning.specs.Shapes.{Shape, shape, size}
use Rattle.c_meaning.specs.Values.{Value, null}
use Rattle.c_meaning.specs.Objects.{Kind, heap, frame, Object, new_object, to_object}
use Rattle.c_meaning.specs.World.{exhausted, ungranted, Held, World, Result, gives, ends, Does, ◌>>=◌, pure, stop, change}

-- ---- making

-- with a grant taken for an object of so many bytes
abbrev pub asked : List Bool → ℕ → World → World
asked gs n w = record w { grants = gs; sizes = w.sizes ++ n ∷ [] }

abbrev pub with_object : Object → World → World
with_object o w = record w { objects = w.objects ++ o ∷ [] }

-- the number of the new object, an array of so many elements, or none where it isn't granted
abbrev pub make : Kind → Shape → ℕ → Does (Option ℕ)
make k s n = λ w. granted w.grants w where
  granted : List Bool → World → Result (Option ℕ)
  granted [] w = ends ungranted w
  granted (true ∷ gs) w = gives (Some (length w.objects)) (with_object (new_object k s n) (asked gs (n * size s) w))
  granted (false ∷ gs) w = gives None (asked gs (n * size s) w)

abbrev pub or_exhausted : Option ℕ → Does ℕ
or_exhausted None = stop exhausted
or_exhausted (Some n) = pure n

-- of a variable or of a literal, an array of one (6.5.6, paragraph 7)
abbrev pub make_frame : Table → Ty → Does ℕ
make_frame structs t = make frame (shape structs t) 1 >>= or_exhausted

abbrev pub pointer_to : Option ℕ → Value
pointer_to None = null
pointer_to (Some n) = to_object n

-- 7.22.3.4: of so many bytes, as many elements as they hold
abbrev pub allocate : Table → Ty → (bytes : ℕ) → Does Value
allocate structs t bytes = let s = shape structs t in make heap s (bytes / size s) >>= (λ o. pure (pointer_to o))

-- 7.22.3.2: a product that no unsigned int holds is null, and asks for no object
abbrev pub allocate_product : Table → Ty → (bytes : ℕ) → Does Value
allocate_product structs t bytes = if nat_lt bytes 4294967296 then allocate structs t bytes else pure null

-- ---- variables

abbrev pub held_in : World → Variable → Option Held
held_in w (Local n) = slice_get w.locals n
held_in w (Global n) = slice_get w.globals n

abbrev pub with_held : Variable → Held → World → World
with_held (Local n) h w = record w { locals = slice_set w.locals n h }
with_held (Global n) h w = record w { globals = slice_set w.globals n h }

abbrev pub hold : Variable → Held → Does (Unit {0})
hold v h = change (with_held v h)
