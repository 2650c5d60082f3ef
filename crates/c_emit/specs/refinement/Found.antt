-- What a walk over a unit has found of its uses so far.
use Rattle.std.specs.Prelude.{◌≡◌, ◌||◌, ℕ, Bool, false, List, [], replicate}
use Rattle.std.specs.List.{list_any}
use Rattle.ms_types.specs.declared.types.FuncType.{FuncType}
use Rattle.c_types.specs.Layout.{Table}
use Rattle.c_typed.specs.Tree.{Made, global, text}
use Rattle.c_code.specs.Limits.{is_long_copy}
use Rattle.c_code.specs.Modules.{distinct_behind, is_call_of, is_name_of, through_in}
use Rattle.c_code.specs.Uses.{Use, in_values}
use Rattle.c_place.specs.refinement.Marks.{marked_from}
use Rattle.c_emit.specs.declared.uses.Uses.{Uses}

pub record Found : Type 0 where
  -- flags of functions, by their numbers
  pub used : List Bool
  pub named : List Bool
  pub through : List FuncType
  pub has_long_copy : Bool

abbrev pub found : Uses → Found
found x = record { used = x.used.items; named = x.named.items; through = x.through; has_long_copy = x.has_long_copy }

-- of so many functions
abbrev pub no_uses : ℕ → Found
no_uses n = record { used = replicate n false; named = replicate n false; through = []; has_long_copy = false }

-- with these uses, too
abbrev pub with_uses : Table → List Use → Found → Found
with_uses structs xs s = record {
  used = marked_from 0 (λ n. list_any (is_call_of n) xs) s.used;
  named = marked_from 0 (λ n. list_any (is_name_of n) xs) s.named;
  through = distinct_behind s.through (through_in xs);
  has_long_copy = s.has_long_copy || list_any (is_long_copy structs) xs;
}

-- what is used in one thing that is made before `main`
abbrev pub in_one : Made → List Use
in_one (global n ss) = in_values ss
in_one (text bytes) = []

-- between the two, these uses were found
pub record Finds (structs : Table) (xs : List Use) (old new : Found) : Type 0 where
  pub is : new ≡ with_uses structs xs old
