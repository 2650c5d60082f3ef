-- What the code's values are, and what its answers say of a rule.
use Rattle.std.specs.Prelude.{◌≡◌, ℕ, List, map, Option, Some, None, Result, Ok, Err}
use Rattle.std.specs.Borrow.{Bor}
use Rattle.c_types.specs.Types.{type_of}
use Rattle.c_typed.specs.refinement.Views.{enumeration_of, function_of, made_of}
use Rattle.c_check_types.specs.declared.checker.Checker.{Checker}
use Rattle.c_check_types.specs.declared.checker.Scope.{Scope as ScopeCode}
use Rattle.c_check_types.specs.declared.fault.Stop.{Stop}
use Rattle.c_check_types.specs.declared.fault.Stop.TheVariants as stops
use Rattle.c_check_types.specs.State.{State, Scope, Rule}
use Rattle.c_check_types.specs.declared.declared.Derived.{Derived as DerivedCode}
use Rattle.c_check_types.specs.declared.declared.Derived.TheVariants as code
use Rattle.c_check_types.specs.declared.declared.Parameter.{Parameter as ParameterCode}
use Rattle.c_check_types.specs.declared.declared.Declared.{Declared as DeclaredCode}
use Rattle.c_check_types.specs.Types.{Derived, whole, lengthless, Parameter, Declared}

abbrev pub scope_of : ScopeCode → Scope
scope_of s = record { names = s.names; entities = s.entities.items; slots = s.slots.items }

abbrev pub scopes_of : List ScopeCode → List Scope
scopes_of ss = map scope_of ss

abbrev pub state_of : Checker → State
state_of c =
    record {
      tags = c.tags;
      structs = c.structs;
      members = c.members.items;
      enum_tags = c.enum_tags;
      enumerations = map enumeration_of c.enumerations.items;
      function_names = c.function_names;
      functions = map function_of c.functions.items;
      global_names = c.global_names.items;
      globals = map type_of c.globals.items;
      made = map made_of c.made.items;
      literals = c.literals;
      scopes = scopes_of c.scopes;
      slots = map type_of c.slots.items;
      at = c.at;
      additions = c.additions.items;
    }

-- The answer is the rule's: its value, and the state behind it; or there is none. Want of memory says nothing.
abbrev pub Obeys : {A B : Type 0} → (B → A) → Rule A → State → State → Result B Stop → Type 0
Obeys view rule old new (Ok x) = rule old ≡ Some (view x, new)
Obeys view rule old new (Err stops.NoTyping) = rule old ≡ None
Obeys view rule old new (Err stops.Memory) = Unit {0}

-- the same of an option
abbrev pub Gives : {A B : Type 0} → (B → A) → Option A → Result B Stop → Type 0
Gives view o (Ok x) = o ≡ Some (view x)
Gives view o (Err stops.NoTyping) = o ≡ None
Gives view o (Err stops.Memory) = Unit {0}

-- ---- declarators

abbrev pub name_of : Option (Bor (List ℕ)) → Option (List ℕ)
name_of None = None
name_of (Some b) = Some b.now

abbrev pub derived_of : DerivedCode → Derived
derived_of (code.Whole t) = whole (type_of t)
derived_of (code.Lengthless t) = lengthless (type_of t)

abbrev pub parameter_of : ParameterCode → Parameter
parameter_of p = record { name = name_of p.name; ty = type_of p.ty }

abbrev pub parameters_in : List ParameterCode → List Parameter
parameters_in ps = map parameter_of ps

abbrev pub declared_of : DeclaredCode → Declared
declared_of d = record { name = name_of d.name; derived = derived_of d.derived; params = parameters_in d.params.items }
