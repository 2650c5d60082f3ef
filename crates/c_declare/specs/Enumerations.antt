-- Enumerated types (C11, 6.7.2.2). Their type is int.
use Rattle.std.specs.Prelude.{ℕ, ◌+◌, ◌==◌, ◌%◌, ◌^◌, ◌&&◌, not, List, [], ◌∷◌, ◌++◌, length, is_some, Option, Some, None, if◌then◌else◌}
use Rattle.c_types.specs.declared.integers.IntType.TheVariants.{Int}
use Rattle.c_types.specs.Types.{Ty, integer}
use Rattle.c_tree.specs.declared.enumerator.Enumerator.{Enumerator as Written}
use Rattle.c_tree.specs.Tree.{Expr}
use Rattle.c_typed.specs.declared.unit.Enumerator.{Enumerator}
use Rattle.c_typed.specs.declared.unit.Subject.TheVariants as subjects
use Rattle.c_check_types.specs.State.{number_of, Rule, ◌>>=◌, ◌>>◌, pure, given, only_if, state, change, added}
use Rattle.c_check_types.specs.Scopes.{enters_constant}
use Rattle.c_check_types.specs.Constants.{int_of}
use Rattle.c_check_types.specs.Types.{constant}

-- the number behind the last one, where int holds it
abbrev pub following : ℕ → Option ℕ
following n = if n == 2147483647 then None else Some ((n + 1) % 2 ^ 32)

-- what is written, or what follows
abbrev pub enumerator_value : Option Expr → Option ℕ → Rule ℕ
enumerator_value None next = given next
enumerator_value (Some e) next = do
  c ← constant e
  given (int_of c)

abbrev pub enumerator : Written → Option ℕ → Rule ℕ
enumerator x next = do
  n ← enumerator_value x.value next
  enters_constant x.name n
  pure n

-- enumerators in order, behind those so far; each is in scope behind itself (6.2.1, paragraph 7)
abbrev pub enumerators : List Written → (next : Option ℕ) → List Enumerator → Rule (List Enumerator)
enumerators [] next so_far = pure so_far
enumerators (x ∷ xs) next so_far = do
  n ← enumerator x next
  enumerators xs (following n) (so_far ++ record { name = x.name; bits = n } ∷ [])

-- a tag is defined once, and is none of a struct (6.7.2.3)
abbrev pub enters_enum_tag : Option (List ℕ) → Rule (Unit {0})
enters_enum_tag None = pure tt
enters_enum_tag (Some tag) = do
  s ← state
  only_if (not (is_some (number_of s.tags tag)))
  only_if (not (is_some (number_of s.enum_tags tag)))
  change (λ s. record s { enum_tags = s.enum_tags ++ tag ∷ [] })

abbrev pub keeps_enumeration : Option (List ℕ) → List Enumerator → Rule (Unit {0})
keeps_enumeration tag es = do
  s ← state
  change (λ s. record s { enumerations = s.enumerations ++ record { tag = tag; constants = es } ∷ [] })
  added (subjects.Enumeration (length s.enumerations))

abbrev pub enumeration : Option (List ℕ) → List Written → Rule Ty
enumeration tag xs = do
  es ← enumerators xs (Some 0) []
  enters_enum_tag tag
  keeps_enumeration tag es
  pure (integer Int)
