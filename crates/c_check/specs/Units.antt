-- Translation units (C11, 6.9): the typed tree, or where the first external declaration begins up to which there is none.
use Rattle.std.specs.Prelude.{ℕ, List, [], ◌∷◌, Option, Some, None, Result, Ok, Err}
use Rattle.c_tree.specs.declared.external.External.{External}
use Rattle.c_typed.specs.Tree.{Typed}
use Rattle.c_check_types.specs.State.{State}
use Rattle.c_check_types.specs.Scopes.{no_names}
use Rattle.c_check.specs.Declarations.{external}

-- before the unit: the file scope is empty
abbrev pub start : State
start =
    record {
      tags = [];
      structs = [];
      members = [];
      enum_tags = [];
      enumerations = [];
      function_names = [];
      functions = [];
      global_names = [];
      globals = [];
      made = [];
      literals = 0;
      scopes = no_names ∷ [];
      slots = [];
      at = 0;
      additions = [];
    }

abbrev pub typed_state : State → Typed
typed_state s =
    record {
      tags = s.tags;
      structs = s.structs;
      members = s.members;
      enumerations = s.enumerations;
      names = s.global_names;
      globals = s.globals;
      made = s.made;
      functions = s.functions;
      additions = s.additions;
    }

-- behind one declaration, which begins there
abbrev pub going_on : (at : ℕ) → Option (Unit {0} × State) → (State → Result Typed ℕ) → Result Typed ℕ
going_on at None next = Err at
going_on at (Some (u, s)) next = next s

-- external declarations in order
abbrev pub externals : List External → State → Result Typed ℕ
externals [] s = Ok (typed_state s)
externals (x ∷ xs) s = going_on x.at (external x s) (λ t. externals xs t)

-- the typing of a unit
abbrev pub typing_of : List External → Result Typed ℕ
typing_of xs = externals xs start
