-- Structs (C11, 6.7.2.1), and the types of specifiers at file scope.
use Rattle.std.specs.Prelude.{ℕ, nat_le, not, Bool, true, false, List, [], ◌∷◌, ◌++◌, length, is_some, slice_get, slice_set, Option, Some, None}
use Rattle.c_types.specs.Layout.{Layout, laid_out, most_bytes}
use Rattle.c_types.specs.Types.{Ty, struct}
use Rattle.c_tree.specs.declared.external.MemberHead.TheVariants as heads
use Rattle.c_tree.specs.declared.external.OuterSpecifier.{OuterSpecifier}
use Rattle.c_tree.specs.declared.external.OuterSpecifier.TheVariants as outers
use Rattle.c_tree.specs.declared.external.Piece.{Piece}
use Rattle.c_tree.specs.declared.external.Piece.TheVariants as pieces
use Rattle.c_tree.specs.Tree.{Declarator}
use Rattle.c_typed.specs.declared.unit.Subject.TheVariants as subjects
use Rattle.c_check_types.specs.State.{Names, number_of, Rule, ◌>>=◌, ◌>>◌, pure, none, given, only_if, state, change, added}
use Rattle.c_check_types.specs.Scopes.{tag_number}
use Rattle.c_declare.specs.Enumerations.{enumeration}
use Rattle.c_check_types.specs.Types.{whole, whole_type, specified, declared, size_of}

-- a struct whose members are being read: its number, and the names and types of those so far
pub record Open : Type 0 where
  pub number : ℕ
  pub names : Names
  pub types : List Ty

abbrev pub opens_struct : List ℕ → Rule Open
opens_struct tag = do
  n ← tag_number tag
  pure (record { number = n; names = []; types = [] })

-- members are distinct and have a size
abbrev pub with_member : Open → List ℕ → Ty → Rule Open
with_member o name t = do
  only_if (not (is_some (number_of o.names name)))
  size_of t
  pure (record { number = o.number; names = o.names ++ name ∷ []; types = o.types ++ t ∷ [] })

abbrev pub declares_member : Open → Ty → Declarator → Rule Open
declares_member o b d = do
  x ← declared d (whole b) []
  name ← given x.name
  t ← given (whole_type x.derived)
  with_member o name t

abbrev pub with_members : Open → Ty → List Declarator → Rule Open
with_members o b [] = pure o
with_members o b (d ∷ ds) = do
  p ← declares_member o b d
  with_members p b ds

abbrev pub is_undefined : Option (Option Layout) → Bool
is_undefined (Some None) = true
is_undefined _ = false

-- a struct has a member at least (6.7.2.1, paragraph 8)
abbrev pub has_members : List Ty → Bool
has_members [] = false
has_members (t ∷ ts) = true

-- a tag is defined once, and its struct isn't too large
abbrev pub defines : Open → Rule Ty
defines o = do
  s ← state
  only_if (is_undefined (slice_get s.structs o.number))
  only_if (has_members o.types)
  only_if (nat_le (length o.types) most_bytes)
  change (λ s. record s { structs = slice_set s.structs o.number (Some (laid_out s.structs o.types)); members = slice_set s.members o.number o.names })
  added (subjects.Members o.number)
  size_of (struct o.number)
  pure (struct o.number)

-- The members of a struct, which may define structs in it, so many of them open around it.
abbrev pub closes : List Open → Rule (Ty × List Open)
closes [] = none
closes (o ∷ []) = none
closes (o ∷ p ∷ os) = do
  t ← defines o
  pure (t, p ∷ os)

abbrev pub in_front : List Open → Ty → List Declarator → Rule (List Open)
in_front [] b ds = none
in_front (o ∷ os) b ds = do
  p ← with_members o b ds
  pure (p ∷ os)

abbrev pub piece : List Open → Piece → Rule (List Open)
piece os (pieces.Opens tag) = do
  o ← opens_struct tag
  pure (o ∷ os)
piece os (pieces.Member (heads.Specifier s) ds) = do
  b ← specified s
  in_front os b ds
piece os (pieces.Member (heads.Enum tag xs comma) ds) = do
  b ← enumeration tag xs
  in_front os b ds
piece os (pieces.Member heads.Close ds) = do
  x ← closes os
  in_front x.1 x.0 ds

abbrev pub all_pieces : List Open → List Piece → Rule (List Open)
all_pieces os [] = pure os
all_pieces os (p ∷ ps) = do
  qs ← piece os p
  all_pieces qs ps

abbrev pub last_one : List Open → Rule Ty
last_one (o ∷ []) = defines o
last_one _ = none

abbrev pub struct_defined : List ℕ → List Piece → Rule Ty
struct_defined tag ps = do
  o ← opens_struct tag
  os ← all_pieces (o ∷ []) ps
  last_one os

abbrev pub outer : OuterSpecifier → Rule Ty
outer (outers.Plain s) = specified s
outer (outers.Struct tag ps) = struct_defined tag ps
outer (outers.Enum tag xs comma) = enumeration tag xs
