-- Which variables of a unit are objects.
use Rattle.std.specs.Prelude.{ℕ, suc, Bool, List, [], ◌∷◌, map, Option, Some, None}
use Rattle.c_types.specs.Types.{Ty}
use Rattle.c_typed.specs.Objects.{is_object}
use Rattle.c_typed.specs.Tree.{Stmt, Function, Typed}
use Rattle.c_meaning.specs.Units.{is_global_object}

-- a flag for each slot of each function that has a body, and one for each variable at file scope
pub record Flags : Type 0 where
  pub functions : List (List Bool)
  pub globals : List Bool

-- of the slots of these types, from the n-th on
abbrev pub slots_from : (body : Stmt) → (n : ℕ) → List Ty → List Bool
slots_from s n [] = []
slots_from s n (t ∷ ts) = is_object s n t ∷ slots_from s (suc n) ts

abbrev pub of_body : List Ty → Option Stmt → List Bool
of_body slots None = []
of_body slots (Some s) = slots_from s 0 slots

abbrev pub of_function : Function → List Bool
of_function f = of_body f.slots f.body

-- of the variables of these types at file scope, from the n-th on
abbrev pub globals_from : Typed → (n : ℕ) → List Ty → List Bool
globals_from u n [] = []
globals_from u n (t ∷ ts) = is_global_object u n t ∷ globals_from u (suc n) ts

abbrev pub flags : Typed → Flags
flags u = record { functions = map of_function u.functions; globals = globals_from u 0 u.globals }
