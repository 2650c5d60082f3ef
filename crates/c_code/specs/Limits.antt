-- What passes a limit of the compiler, and is refused before any code is made.
use Rattle.std.specs.Prelude.{ℕ, ◌+◌, ◌||◌, Bool, true, false, List, [], ◌∷◌, length, nat_lt, Option, Some, None, is_some, ◌&&◌, if◌then◌else◌}
use Rattle.std.specs.List.{list_any}
use Rattle.ms_module.specs.declared.module.Func.{Func}
use Rattle.ms_emit.specs.Codes.{total}
use Rattle.c_types.specs.Layout.{Table}
use Rattle.c_typed.specs.Tree.{Function, Typed}
use Rattle.c_code.specs.Leaves.{leaves}
use Rattle.c_code.specs.Modules.{named}
use Rattle.c_code.specs.Uses.{Use, copies, uses}

-- of the variables and parameters of a function, the leaves of a struct that is copied, and the functions that are values
abbrev pub most_slots : ℕ
most_slots = 10000

abbrev pub most_leaves : ℕ
most_leaves = 64

abbrev pub most_named : ℕ
most_named = 65535

abbrev pub has_many_slots : Function → Bool
has_many_slots f = is_some f.body && nat_lt most_slots (length f.slots)

abbrev pub is_long_copy : Table → Use → Bool
is_long_copy structs (copies n) = nat_lt most_leaves (length (leaves structs n))
is_long_copy structs _ = false

pub data Limit : Type 0 where
  locals copy functions : Limit

abbrev pub first_true : Bool → Limit → Option Limit → Option Limit
first_true b l rest = if b then Some l else rest

-- the first that is passed
abbrev pub limit_of : Typed → Option Limit
limit_of u =
    first_true (list_any has_many_slots u.functions) locals
    (first_true (list_any (is_long_copy u.structs) (uses u)) copy
    (first_true (nat_lt most_named (length (named u))) functions None))

-- ---- how much code a module has (WebAssembly 1.0, 2.4.7): past 2^25 instructions it is want of memory

abbrev pub most_instructions : ℕ
most_instructions = 33554432

abbrev pub instructions_of : List Func → ℕ
instructions_of [] = 0
instructions_of (f ∷ fs) = total f.body + instructions_of fs
