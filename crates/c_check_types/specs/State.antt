-- What typing knows at a place in a unit, and rules: functions that read and change it, or have no answer.
use Rattle.std.specs.Prelude.{ℕ, Bool, true, false, List, [], ◌∷◌, ◌++◌, Option, Some, None}
pub use Rattle.ms_names.specs.Numbered.{number_of}
use Rattle.c_types.specs.Layout.{Table}
use Rattle.c_types.specs.Types.{Ty}
use Rattle.c_typed.specs.declared.unit.Addition.{Addition}
use Rattle.c_typed.specs.declared.unit.Subject.{Subject}
use Rattle.c_typed.specs.Tree.{Enumeration, Function, Made}
use Rattle.c_check_types.specs.declared.entity.Entity.{Entity}

-- names with numbers, each the number of the names before it
abbrev pub Names : Type 0
Names = List (List ℕ)

-- the names of a scope, what each stands for, and the slots of the parameters and variables that are declared in it
pub record Scope : Type 0 where
  pub names : Names
  pub entities : List Entity
  pub slots : List ℕ

pub record State : Type 0 where
  -- the tags, and for each its struct, where it is defined, and the names of its members
  pub tags : Names
  pub structs : Table
  pub members : List Names
  -- the tags of enumerated types, and the enumerated types that are defined
  pub enum_tags : Names
  pub enumerations : List Enumeration
  -- the functions that are declared
  pub function_names : Names
  pub functions : List Function
  -- the names and the types of the variables at file scope, what is made before `main`, and how many of these are literals
  pub global_names : Names
  pub globals : List Ty
  pub made : List Made
  pub literals : ℕ
  -- the scopes, the innermost first
  pub scopes : List Scope
  -- the types of the parameters and variables of the function that is read
  pub slots : List Ty
  -- where the external declaration that is read begins, and what the external declarations so far add
  pub at : ℕ
  pub additions : List Addition

-- a rule: its answer and the state behind it, where there is one
abbrev pub Rule : Type 0 → Type 0
Rule A = State → Option (A × State)

abbrev pub followed : {A B : Type 0} → Option (A × State) → (A → Rule B) → Option (B × State)
followed None next = None
followed (Some (a, s)) next = next a s

infixl 20 ◌>>=◌
abbrev pub ◌>>=◌ : {A B : Type 0} → Rule A → (A → Rule B) → Rule B
◌>>=◌ rule next = λ s. followed (rule s) next

infixl 20 ◌>>◌
abbrev pub ◌>>◌ : {A B : Type 0} → Rule A → Rule B → Rule B
◌>>◌ rule next = λ s. followed (rule s) (λ a. next)

abbrev pub pure : {A : Type 0} → A → Rule A
pure a = λ s. Some (a, s)

-- no answer
abbrev pub none : {A : Type 0} → Rule A
none = λ s. None

abbrev pub given : {A : Type 0} → Option A → Rule A
given None = none
given (Some a) = pure a

-- an answer only where this holds
abbrev pub only_if : Bool → Rule (Unit {0})
only_if true = pure tt
only_if false = none

abbrev pub state : Rule State
state = λ s. Some (s, s)

abbrev pub change : (State → State) → Rule (Unit {0})
change f = λ s. Some (tt, f s)

-- the external declaration that is read adds this
abbrev pub added : Subject → Rule (Unit {0})
added x = change (λ s. record s { additions = s.additions ++ record { at = s.at; subject = x } ∷ [] })

-- what an option has, where it has something
abbrev pub and_then : {A B : Type 0} → Option A → (A → Option B) → Option B
and_then None f = None
and_then (Some a) f = f a
