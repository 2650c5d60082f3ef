-- Names and their scopes (C11, 6.2.1 to 6.2.3, 6.7, 6.7.2.3).
use Rattle.std.specs.Prelude.{ℕ, ◌&&◌, Bool, true, false, not, List, [], ◌∷◌, ◌++◌, length, is_some, slice_get, nat_eq, Option, Some, None, if◌then◌else◌}
use lib.Pointwise.{pointwise}
use Rattle.c_types.specs.Types.{Ty}
use Rattle.c_typed.specs.declared.unit.Subject.TheVariants as subjects
use Rattle.c_typed.specs.Identifiers.{is_identifier}
use Rattle.c_typed.specs.Tree.{Function}
use Rattle.c_check_types.specs.declared.entity.Entity.{Entity}
use Rattle.c_check_types.specs.declared.entity.Entity.TheVariants as entities
use Rattle.c_check_types.specs.declared.prelude.LibraryName.{LibraryName}
use Rattle.c_check_types.specs.declared.prelude.LibraryName.TheVariants as prelude
use Rattle.c_check_types.specs.State.{Scope, number_of, Rule, ◌>>=◌, ◌>>◌, pure, given, only_if, state, change, added, and_then}
use Rattle.c_check_types.specs.TypeEquality.{same_type}

-- ---- the names that stand before the unit (7.19, 7.21, 7.22)

abbrev name_putchar : List ℕ
name_putchar = 112 ∷ 117 ∷ 116 ∷ 99 ∷ 104 ∷ 97 ∷ 114 ∷ []

abbrev name_getchar : List ℕ
name_getchar = 103 ∷ 101 ∷ 116 ∷ 99 ∷ 104 ∷ 97 ∷ 114 ∷ []

abbrev name_abort : List ℕ
name_abort = 97 ∷ 98 ∷ 111 ∷ 114 ∷ 116 ∷ []

abbrev name_malloc : List ℕ
name_malloc = 109 ∷ 97 ∷ 108 ∷ 108 ∷ 111 ∷ 99 ∷ []

abbrev name_calloc : List ℕ
name_calloc = 99 ∷ 97 ∷ 108 ∷ 108 ∷ 111 ∷ 99 ∷ []

abbrev name_free : List ℕ
name_free = 102 ∷ 114 ∷ 101 ∷ 101 ∷ []

abbrev name_null : List ℕ
name_null = 78 ∷ 85 ∷ 76 ∷ 76 ∷ []

abbrev name_eof : List ℕ
name_eof = 69 ∷ 79 ∷ 70 ∷ []

abbrev is : List ℕ → List ℕ → Bool
is name other = pointwise nat_eq name other

abbrev pub library : List ℕ → Option LibraryName
library name =
    if is name name_putchar
    then Some prelude.Putchar
    else (if is name name_getchar
    then Some prelude.Getchar
    else (if is name name_abort
    then Some prelude.Abort
    else (if is name name_malloc
    then Some prelude.Malloc
    else (if is name name_calloc then Some prelude.Calloc else (if is name name_free then Some prelude.Free else (if is name name_null then Some prelude.Null else (if is name name_eof then Some prelude.Eof else None)))))))

-- ---- looking up

abbrev pub entity_in : Scope → List ℕ → Option Entity
entity_in scope name = and_then (number_of scope.names name) (λ n. slice_get scope.entities n)

abbrev pub or_else : Option Entity → Option Entity → Option Entity
or_else None other = other
or_else (Some e) other = Some e

-- an inner name hides outer ones (6.2.1, paragraph 4)
abbrev pub entity_of : List Scope → List ℕ → Option Entity
entity_of [] name = None
entity_of (scope ∷ scopes) name = or_else (entity_in scope name) (entity_of scopes name)

-- the entity of a name that is declared, and stands in scope
abbrev pub named_entity : List ℕ → Rule Entity
named_entity name = do
  s ← state
  given (entity_of s.scopes name)

-- ---- scopes

abbrev pub no_names : Scope
no_names = record { names = []; entities = []; slots = [] }

abbrev pub opened : Rule (Unit {0})
opened = change (λ s. record s { scopes = no_names ∷ s.scopes })

abbrev pub outer : List Scope → List Scope
outer [] = []
outer (scope ∷ scopes) = scopes

abbrev pub closed : Rule (Unit {0})
closed = change (λ s. record s { scopes = outer s.scopes })

abbrev pub with_name : Scope → List ℕ → Entity → Scope
with_name scope name e = record { names = scope.names ++ name ∷ []; entities = scope.entities ++ e ∷ []; slots = scope.slots }

abbrev pub in_front : List Scope → List ℕ → Entity → List Scope
in_front [] name e = []
in_front (scope ∷ scopes) name e = with_name scope name e ∷ scopes

abbrev pub is_known : List Scope → List ℕ → Bool
is_known [] name = false
is_known (scope ∷ scopes) name = is_some (number_of scope.names name)

-- In the innermost scope a name stands for one thing (6.7, paragraph 3), and those before the unit can't be declared.
abbrev pub enters : List ℕ → Entity → Rule (Unit {0})
enters name e = do
  s ← state
  only_if (not (is_some (library name)) && not (is_known s.scopes name))
  change (λ s. record s { scopes = in_front s.scopes name e })

-- ---- enumerators (6.7.2.2)

abbrev pub enters_constant : List ℕ → (bits : ℕ) → Rule (Unit {0})
enters_constant name n = enters name (entities.Constant n)

-- ---- variables

abbrev pub with_slot : Scope → ℕ → Scope
with_slot scope n = record { names = scope.names; entities = scope.entities; slots = scope.slots ++ n ∷ [] }

abbrev pub opens : List Scope → ℕ → List Scope
opens [] n = []
opens (scope ∷ scopes) n = with_slot scope n ∷ scopes

-- a parameter or a variable of a function gets the next slot
abbrev pub new_slot : Ty → Rule ℕ
new_slot t = do
  s ← state
  change (λ s. record s { scopes = opens s.scopes (length s.slots); slots = s.slots ++ t ∷ [] })
  pure (length s.slots)

abbrev pub enters_local : List ℕ → Ty → Rule ℕ
enters_local name t = do
  n ← new_slot t
  enters name (entities.Local n)
  pure n

-- ---- functions (6.2.7, 6.7, paragraph 4)

abbrev pub is_function : Option Entity → ℕ → Bool
is_function (Some (entities.Function m)) n = nat_eq m n
is_function _ n = false

abbrev pub entity_in_front : List Scope → List ℕ → Option Entity
entity_in_front [] name = None
entity_in_front (scope ∷ scopes) name = entity_in scope name

-- A function that is named in the innermost scope already may be named there again.
abbrev pub enters_function : List ℕ → ℕ → Rule (Unit {0})
enters_function name n = do
  s ← state
  if is_function (entity_in_front s.scopes name) n then pure tt else enters name (entities.Function n)

abbrev pub file_scope : List Scope → Option Scope
file_scope [] = None
file_scope (scope ∷ []) = Some scope
file_scope (scope ∷ more ∷ scopes) = file_scope (more ∷ scopes)

abbrev pub is_global : Option Entity → Bool
is_global (Some (entities.Global n)) = true
is_global _ = false

abbrev pub names_variable : List Scope → List ℕ → Bool
names_variable scopes name = is_global (and_then (file_scope scopes) (λ scope. entity_in scope name))

abbrev pub a_function : List ℕ → Ty → Function
a_function name t = record { name = name; ty = t; slots = []; body = None }

-- a function that is declared for the first time gets the next number
abbrev pub new_function : List ℕ → Ty → Rule ℕ
new_function name t = do
  s ← state
  only_if (is_identifier name)
  only_if (not (names_variable s.scopes name))
  change (λ s. record s { function_names = s.function_names ++ name ∷ []; functions = s.functions ++ a_function name t ∷ [] })
  added (subjects.Function (length s.functions))
  enters_function name (length s.functions)
  pure (length s.functions)

abbrev pub has_type : Option Function → Ty → Bool
has_type None t = false
has_type (Some f) t = same_type f.ty t

-- all declarations of a function agree, wherever they stand
abbrev pub old_function : List ℕ → Ty → ℕ → Rule ℕ
old_function name t n = do
  s ← state
  only_if (has_type (slice_get s.functions n) t)
  enters_function name n
  pure n

abbrev pub old_or_new : List ℕ → Ty → Option ℕ → Rule ℕ
old_or_new name t None = new_function name t
old_or_new name t (Some n) = old_function name t n

-- the number of a function that is declared
abbrev pub declares_function : List ℕ → Ty → Rule ℕ
declares_function name t = do
  s ← state
  old_or_new name t (number_of s.function_names name)

-- a variable at file scope is declared once, and no function has its name
abbrev pub enters_global : List ℕ → Ty → Rule ℕ
enters_global name t = do
  s ← state
  only_if (not (is_some (number_of s.function_names name)))
  enters name (entities.Global (length s.globals))
  change (λ s. record s { global_names = s.global_names ++ name ∷ []; globals = s.globals ++ t ∷ [] })
  added (subjects.Variable (length s.globals))
  pure (length s.globals)

-- ---- tags (6.7.2.3), which are global, and of which those of structs and those of enumerated types differ

abbrev pub new_tag : List ℕ → Rule ℕ
new_tag tag = do
  s ← state
  only_if (not (is_some (number_of s.enum_tags tag)))
  change (λ s. record s { tags = s.tags ++ tag ∷ []; structs = s.structs ++ None ∷ []; members = s.members ++ [] ∷ [] })
  added (subjects.Tag (length s.structs))
  pure (length s.structs)

abbrev pub old_or_new_tag : List ℕ → Option ℕ → Rule ℕ
old_or_new_tag tag None = new_tag tag
old_or_new_tag tag (Some n) = pure n

-- the number of a tag, which is new where it is seen for the first time
abbrev pub tag_number : List ℕ → Rule ℕ
tag_number tag = do
  s ← state
  old_or_new_tag tag (number_of s.tags tag)
