-- What holds of the tables of a unit (C11, 6.9).
use Rattle.std.specs.Prelude.{◌≡◌, ℕ, zero, suc, ◌+◌, ◌<◌, true, List, [], ◌∷◌, ◌++◌, length, map, Option, Some, None}
use Rattle.std.specs.List.{All}
use Rattle.c_types.specs.Layout.{Table, Layout, layout_at, IsLaidOut}
use Rattle.c_types.specs.Types.{Ty, function, Tys, no_types, types}
use Rattle.c_typed.specs.Constants.{give_constants}
use Rattle.c_typed.specs.Identifiers.{is_identifier}
use Rattle.c_typed.specs.Tree as tree
use Rattle.c_typed.specs.Tree.{Function, Made, Stmt, Typed}
use Rattle.c_typed.specs.refinement.Expressions.{Context}
use Rattle.c_typed.specs.Statements.{IsDone, IsFilled, IsStatement, no_jumps}
use Rattle.c_typed.specs.refinement.Types.{IsObject, IsType}

-- ---- what is made before `main`

-- how many of what is made are string literals
abbrev pub literals_in : List Made → ℕ
literals_in [] = 0
literals_in (tree.global n ss ∷ ms) = literals_in ms
literals_in (tree.text bytes ∷ ms) = literals_in ms + 1

-- which variables are made, in order
abbrev pub variables_in : List Made → List ℕ
variables_in [] = []
variables_in (tree.global n ss ∷ ms) = n ∷ variables_in ms
variables_in (tree.text bytes ∷ ms) = variables_in ms

-- the first numbers, so many
abbrev pub numbers : ℕ → List ℕ
numbers zero = []
numbers (suc n) = numbers n ++ n ∷ []

-- a value that file scope gives: an assignment, or a string's bytes
abbrev pub IsGiven : Context → Stmt → Type 0
IsGiven c (tree.perform e) = IsDone c e
IsGiven c (tree.fill p n bytes) = IsFilled c p n bytes
IsGiven c _ = ⊥

abbrev pub IsMade : Context → Made → Type 0
IsMade c (tree.global n ss) = All (IsGiven c) ss × (give_constants ss ≡ true)
IsMade c (tree.text bytes) = Unit {0}

-- ---- functions

-- what a function with these slots may name, of which the first are its parameters
abbrev pub context_of : Typed → (slots : List Ty) → (params : ℕ) → Context
context_of u slots k =
    record { structs = u.structs; globals = u.globals; literals = literals_in u.made; functions = map (λ f. f.ty) u.functions; slots = slots; visible = numbers k }

abbrev pub list_of : Tys → List Ty
list_of no_types = []
list_of (types t ts) = t ∷ list_of ts

-- The body of a function of a result and parameters. The first slots are the parameters, in order (6.9.1).
abbrev pub IsBody : Typed → (result : Ty) → (params : Tys) → (slots : List Ty) → Option Stmt → Type 0
IsBody u r ps slots None = Unit {0}
IsBody u r ps slots (Some s) =
    ((locals : List Ty) × (slots ≡ list_of ps ++ locals)) × All (IsObject u.structs) slots × IsStatement (context_of u slots (length (list_of ps))) r no_jumps s

abbrev pub IsFunction : Typed → Function → Type 0
IsFunction u f =
    (r : Ty) × (ps : Tys) × (f.ty ≡ function r ps) × IsType u.structs f.ty × IsBody u r ps f.slots f.body

abbrev pub HasIdentifier : Function → Type 0
HasIdentifier f = is_identifier f.name ≡ true

-- no two functions have one name
abbrev pub HaveNames : List Function → Type 0
HaveNames [] = Unit {0}
HaveNames (f ∷ fs) = All (λ (g : Function). g.name ≡ f.name → ⊥) fs × HaveNames fs

-- ---- structs

-- the members of a struct that is defined: one at least, and each an object
abbrev pub AreMembers : Table → List Ty → Type 0
AreMembers table ts = (0 < length ts) × All (IsObject table) ts

-- Each struct that is defined is laid out as its members say, so that it is deeper than each struct in it, and no struct contains
-- itself (6.7.2.1, paragraph 3).
pub record IsWellTyped (u : Typed) : Type 0 where
  pub laid_out : IsLaidOut u.structs
  pub structs : (n : ℕ) (l : Layout) → layout_at u.structs n ≡ Some l → AreMembers u.structs l.members
  pub tags : length u.tags ≡ length u.structs
  pub names : length u.names ≡ length u.globals
  pub globals : All (IsObject u.structs) u.globals
  -- each variable at file scope is made once; its values name no slot
  pub variables : variables_in u.made ≡ numbers (length u.globals)
  pub made : All (IsMade (context_of u [] 0)) u.made
  pub identifiers : All HasIdentifier u.functions
  pub distinct : HaveNames u.functions
  pub functions : All (IsFunction u) u.functions
