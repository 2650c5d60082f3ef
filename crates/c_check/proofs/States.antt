-- What holds of each state of typing, what a rule may do to one, and rules one behind the other.
use Rattle.std.proofs.Common.{◌≡◌, refl, ℕ, ◌+◌, ◌≤◌, ◌<◌, ◌^◌, true, false, List, [], ◌∷◌, ◌++◌, length, map, slice_get, Option, Some, None}
use Rattle.std.specs.List.{All}
use Rattle.c_types.specs.Layout.{Table, Layout, layout_at, IsLaidOut}
use Rattle.c_types.specs.Types.{Ty, function, Tys}
use Rattle.c_typed.specs.Tree as tree
use Rattle.c_typed.specs.Tree.{Function, Made, Stmt}
use Rattle.c_check_types.specs.declared.entity.Entity.{Entity}
use Rattle.c_check_types.specs.declared.entity.Entity.TheVariants as entities
use Rattle.c_check_types.specs.State.{Names, Scope, State, Rule, followed, ◌>>=◌}
use Rattle.c_check_types.specs.Scopes.{outer}
use Rattle.c_typed.specs.refinement.Expressions.{Context, is_visible}
use Rattle.c_typed.specs.refinement.Types.{IsType, IsObject}
use Rattle.c_typed.specs.Units.{literals_in, AreMembers, HasIdentifier, HaveNames}

-- the slots of the scopes, outer ones first
abbrev pub visible_in : List Scope → List ℕ
visible_in [] = []
visible_in (scope ∷ scopes) = visible_in scopes ++ scope.slots

abbrev pub front : List Scope → List ℕ
front [] = []
front (scope ∷ scopes) = scope.slots

-- what a tree may name at a state
abbrev pub context : State → Context
context s =
    record { structs = s.structs; globals = s.globals; literals = s.literals; functions = map (λ f. f.ty) s.functions; slots = s.slots; visible = visible_in s.scopes }

-- ---- each state

abbrev pub IsDeclared : Table → Function → Type 0
IsDeclared table f = (r : Ty) × (ps : Tys) × (f.ty ≡ function r ps) × IsType table f.ty

-- what a name stands for: a variable that is open, or a number of an int
abbrev pub IsKnown : (visible : List ℕ) → Entity → Type 0
IsKnown visible (entities.Local n) = is_visible visible n ≡ true
IsKnown visible (entities.Constant n) = n < 2 ^ 32
IsKnown visible _ = Unit {0}

abbrev pub AreKnown : List Scope → Type 0
AreKnown [] = Unit {0}
AreKnown (scope ∷ scopes) = All (IsKnown (visible_in (scope ∷ scopes))) scope.entities × AreKnown scopes

-- the functions have the names that are kept, which are identifiers, each another one
abbrev pub AreNamed : Names → List Function → Type 0
AreNamed names fs = (names ≡ map (λ (f : Function). f.name) fs) × All HasIdentifier fs × HaveNames fs

abbrev pub IsBelow : List Ty → ℕ → Type 0
IsBelow slots n = n < length slots

-- the types that a state knows may stand in a unit
pub record Good (s : State) : Type 0 where
  pub tags : length s.tags ≡ length s.structs
  pub laid_out : IsLaidOut s.structs
  pub structs : (n : ℕ) (l : Layout) → layout_at s.structs n ≡ Some l → AreMembers s.structs l.members
  pub names : length s.global_names ≡ length s.globals
  pub globals : All (IsObject s.structs) s.globals
  pub functions : All (IsDeclared s.structs) s.functions
  pub named : AreNamed s.function_names s.functions
  pub slots : All (IsObject s.structs) s.slots
  pub scoped : 0 < length s.scopes
  pub known : AreKnown s.scopes
  pub opened : All (IsBelow s.slots) (visible_in s.scopes)

-- ---- from one state to another

-- more tags, and more of them defined
pub record Extends (old new : Table) : Type 0 where
  pub tags : length old ≤ length new
  pub structs : (n : ℕ) (l : Layout) → layout_at old n ≡ Some l → layout_at new n ≡ Some l

abbrev pub IsText : Made → Type 0
IsText (tree.global n ss) = ⊥
IsText (tree.text bytes) = Unit {0}

-- what is made: texts alone, each of them counted
abbrev pub MakesTexts : State → State → Type 0
MakesTexts s t =
    (ms : List Made) × (t.made ≡ s.made ++ ms) × All IsText ms × (t.literals ≡ s.literals + literals_in ms)

-- what rules of types and expressions do: they see tags, and make literals; or enter names
pub record Quiet (s t : State) : Type 0 where
  pub structs : Extends s.structs t.structs
  pub globals : t.globals ≡ s.globals
  pub functions : t.functions ≡ s.functions
  pub outer : outer t.scopes ≡ outer s.scopes
  pub front : front t.scopes ≡ front s.scopes
  pub slots : t.slots ≡ s.slots
  pub made : MakesTexts s t

abbrev pub IsNew : Function → Type 0
IsNew f = f.body ≡ None

abbrev pub IsAbove : List Ty → ℕ → Type 0
IsAbove slots n = length slots ≤ n

-- what rules of statements do, too: they declare functions, and in the innermost scope variables that have new slots
pub record Steps (s t : State) : Type 0 where
  pub structs : Extends s.structs t.structs
  pub globals : t.globals ≡ s.globals
  pub functions : (fs : List Function) × (t.functions ≡ s.functions ++ fs) × All IsNew fs
  pub outer : outer t.scopes ≡ outer s.scopes
  pub front : (ns : List ℕ) × (front t.scopes ≡ front s.scopes ++ ns) × All (IsAbove s.slots) ns
  pub slots : (ts : List Ty) × (t.slots ≡ s.slots ++ ts)
  pub made : MakesTexts s t

-- ---- from one context to another

-- whatever is named in the one is the same in the other
pub record Grows (c d : Context) : Type 0 where
  pub structs : Extends c.structs d.structs
  pub globals : (n : ℕ) (t : Ty) → slice_get c.globals n ≡ Some t → slice_get d.globals n ≡ Some t
  pub literals : c.literals ≤ d.literals
  pub functions : (n : ℕ) (t : Ty) → slice_get c.functions n ≡ Some t → slice_get d.functions n ≡ Some t
  pub slots : (n : ℕ) (t : Ty) → slice_get c.slots n ≡ Some t → slice_get d.slots n ≡ Some t
  pub visible : (n : ℕ) → is_visible c.visible n ≡ true → is_visible d.visible n ≡ true
  pub fresh : (n : ℕ) → n < length c.slots → is_visible c.visible n ≡ false → is_visible d.visible n ≡ false

-- ---- rules

-- whatever a rule answers at a state, the state behind it is good, is related to that one, and has the fact P with the answer
abbrev pub Does : (R : State → State → Type 0) → {A : Type 0} → Rule A → State → (State → A → Type 0) → Type 0
Does R {A} rule s P = (a : A) (t : State) → rule s ≡ Some (a, t) → Good t × R s t × P t a

module _ (R : State → State → Type 0) (onward : (s t u : State) → R s t → R t u → R s u) where
  -- a rule, and one that takes its answer
  pub bind : {A B : Type 0} (rule : Rule A) (next : A → Rule B) (s : State) (P : State → A → Type 0) (Q : State → B → Type 0)
      → Does R rule s P → ((a : A) (t : State) → Good t → R s t → P t a → Does R (next a) t Q) → Does R (rule >>= next) s Q
  bind rule next s P Q does then b u e = behind (rule s) refl e where
    behind : (o : Option (_ × State)) → rule s ≡ o → followed o next ≡ Some (b, u) → Good u × R s u × Q u b
    behind None is e = let q : None ≡ Some (b, u) = e in absurd (cc)
    behind (Some (a, t)) is e =
        let d = does a t is in
        let f = then a t d.0 d.1 d.2 b u e in
        (f.0, onward s t u d.1 f.1, f.2)
