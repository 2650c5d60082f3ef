-- Structs that are defined: their members are objects.
use Rattle.std.proofs.Common.{◌≡◌, refl, ℕ, zero, suc, ◌<◌, ◌⊎◌, inl, inr, true, false, not, nat_le, List, [], ◌∷◌, ◌++◌, length, set, Option, Some, None, slice_get, is_some, arith}
use Rattle.std.proofs.lemmas.List.{length-set}
use Rattle.std.proofs.lemmas.List.Elements.{All-nil, All-cons, All-head, All-tail, All-push, All-weaker}
use Rattle.std.specs.List.{All}
use Rattle.c_types.specs.Layout.{Table, Layout, layout_at, HasSize, laid_out, most_bytes}
use Rattle.c_types.specs.Types.{Ty, struct}
use Rattle.c_tree.specs.declared.external.MemberHead.TheVariants as heads
use Rattle.c_tree.specs.declared.external.OuterSpecifier.{OuterSpecifier}
use Rattle.c_tree.specs.declared.external.OuterSpecifier.TheVariants as outers
use Rattle.c_tree.specs.declared.external.Piece.{Piece}
use Rattle.c_tree.specs.declared.external.Piece.TheVariants as pieces
use Rattle.c_tree.specs.Tree.{Declarator}
use Rattle.c_typed.specs.declared.unit.Subject.TheVariants as subjects
use Rattle.c_types.proofs.Growth.{defined}
use Rattle.c_check_types.specs.State.{State, number_of}
use Rattle.c_check_types.specs.Types.{measured, whole, whole_type}
use Rattle.c_declare.specs.Structs.{Open, opens_struct, with_member, declares_member, with_members, is_undefined, has_members, defines, closes, in_front, piece, all_pieces, last_one, outer}
use Rattle.c_typed.specs.refinement.Types.{IsType, IsObject}
use Rattle.c_typed.specs.Units.{AreMembers}
use Rattle.c_check.proofs.States.{Good, Extends, Quiet, Does}
use Rattle.c_check.proofs.Extension.{quiet-same, quiet-onward, type-kept}
use Rattle.c_check.proofs.Rules.{quietly, ends, given-then, only-then}
use Rattle.c_check.proofs.Sizes.{small_if_measured}
use Rattle.c_check.proofs.Types.{IsBase, base-derived, whole-is, objects-kept, functions-kept, tag-does, specified-does, declared-does}
use Rattle.c_check.proofs.Enumerations.{enumeration-does}

-- ---- a struct more that is defined

within : (x : Table) (k : ℕ) → is_undefined (slice_get x k) ≡ true → k < length x
within [] k e = let q : false ≡ true = e in absurd (cc)
within (o ∷ os) zero e = omega arith
within (o ∷ os) (suc k) e = let q = within os k e in omega arith

definition-extends : (x : Table) (k : ℕ) (d : Layout) → is_undefined (slice_get x k) ≡ true → (n : ℕ) (l : Layout) → layout_at x n ≡ Some l → layout_at (set x k (Some d)) n ≡ Some l
definition-extends [] k d h n l e = e
definition-extends (None ∷ os) zero d h zero l e = let q : None ≡ Some l = e in absurd (cc)
definition-extends (Some m ∷ os) zero d h zero l e = let q : false ≡ true = h in absurd (cc)
definition-extends (o ∷ os) zero d h (suc n) l e = e
definition-extends (o ∷ os) (suc k) d h zero l e = e
definition-extends (o ∷ os) (suc k) d h (suc n) l e = definition-extends os k d h n l e

definition-is : (x : Table) (k : ℕ) (d : Layout) (n : ℕ) (l : Layout) → layout_at (set x k (Some d)) n ≡ Some l → (layout_at x n ≡ Some l) ⊎ (l ≡ d)
definition-is [] k d n l e = inl e
definition-is (o ∷ os) zero d zero l e = inr (let q : Some d ≡ Some l = e in cc)
definition-is (o ∷ os) zero d (suc n) l e = inl e
definition-is (o ∷ os) (suc k) d zero l e = inl e
definition-is (o ∷ os) (suc k) d (suc n) l e = definition-is os k d n l e

-- the members of an open struct so far are objects
abbrev pub IsOpen : Table → Open → Type 0
IsOpen x o = All (IsObject x) o.types

open-kept : (x y : Table) → Extends x y → (o : Open) → IsOpen x o → IsOpen y o
open-kept x y p o h = objects-kept x y p o.types h

-- a state with the struct defined
abbrev with-struct : State → Open → State
with-struct s o =
    record s { structs = set s.structs o.number (Some (laid_out s.structs o.types)); members = set s.members o.number o.names; additions = s.additions ++ record { at = s.at; subject = subjects.Members o.number } ∷ [] }

struct-extends : (s : State) (o : Open) → is_undefined (slice_get s.structs o.number) ≡ true → Extends s.structs (with-struct s o).structs
struct-extends s o e =
    let d = Some (laid_out s.structs o.types) in
    record { tags = omega (arith, length-set s.structs o.number d); structs = definition-extends s.structs o.number (laid_out s.structs o.types) e }

struct-more : (s : State) (o : Open) → is_undefined (slice_get s.structs o.number) ≡ true → Quiet s (with-struct s o)
struct-more s o e =
    record { structs = struct-extends s o e; globals = refl; functions = refl; outer = refl; front = refl; slots = refl; made = (quiet-same s).made }

members-are : (x : Table) (ts : List Ty) (n : ℕ) (l : Layout) → ((n : ℕ) (l : Layout) → layout_at x n ≡ Some l → AreMembers x l.members) → AreMembers x ts
    → ((layout_at x n ≡ Some l) ⊎ (l ≡ laid_out x ts)) → AreMembers x l.members
members-are x ts n l old h (inl e) = old n l e
members-are x ts n l old h (inr e) = rw e h

some-there : (ts : List Ty) → has_members ts ≡ true → 0 < length ts
some-there [] e = let q : false ≡ true = e in absurd (cc)
some-there (t ∷ ts) e = omega arith

undefined-is : (o : Option (Option Layout)) → is_undefined o ≡ true → o ≡ Some None
undefined-is None e = let q : false ≡ true = e in absurd (cc)
undefined-is (Some None) e = refl
undefined-is (Some (Some l)) e = let q : false ≡ true = e in absurd (cc)

struct-good : (s : State) (o : Open) → is_undefined (slice_get s.structs o.number) ≡ true → has_members o.types ≡ true → Good s → IsOpen s.structs o → Good (with-struct s o)
struct-good s o e some g h =
    let x = s.structs in
    let v = with-struct s o in
    let d = laid_out s.structs o.types in
    let p = struct-extends s o e in
    record {
      tags = omega (arith, g.tags, length-set x o.number (Some d));
      laid_out = defined x o.number o.types (undefined-is (slice_get x o.number) e) (All-weaker (IsObject x) (HasSize x) (λ t k. k.1.0) o.types h) g.laid_out;
      structs = λ n l f. let m = members-are x o.types n l g.structs (some-there o.types some, h) (definition-is x o.number d n l f) in (m.0, objects-kept x v.structs p l.members m.1);
      names = g.names;
      globals = objects-kept x v.structs p s.globals g.globals;
      functions = functions-kept x v.structs p s.functions g.functions;
      named = g.named;
      slots = objects-kept x v.structs p s.slots g.slots;
      scoped = g.scoped;
      known = g.known;
      opened = g.opened;
    }

-- ---- rules of structs

abbrev OpenThere : State → Open → Type 0
OpenThere u o = IsOpen u.structs o

abbrev AllOpen : State → List Open → Type 0
AllOpen u os = All (IsOpen u.structs) os

abbrev Bases : State → Ty → Type 0
Bases u t = IsBase u.structs t

all-kept : (x y : Table) → Extends x y → (os : List Open) → All (IsOpen x) os → All (IsOpen y) os
all-kept x y p os h = All-weaker (IsOpen x) (IsOpen y) (open-kept x y p) os h

opens_struct-does : (tag : List ℕ) (s : State) → Good s → Does Quiet (opens_struct tag) s OpenThere
opens_struct-does tag s g =
    quietly s (tag-does tag s g) (λ n t good q h.
    ends Quiet (record { number = n; names = []; types = [] }) t t OpenThere good (quiet-same t) (All-nil (IsObject t.structs)))

with_member-does : (o : Open) (name : List ℕ) (t : Ty) (s : State) → Good s → IsOpen s.structs o → IsType s.structs t → Does Quiet (with_member o name t) s OpenThere
with_member-does o name t s g h i =
    only-then Quiet (not (is_some (number_of o.names name))) _ s _ (λ b.
    given-then Quiet (measured s.structs t) _ s _ (λ k m.
    ends Quiet (record { number = o.number; names = o.names ++ name ∷ []; types = o.types ++ t ∷ [] }) s s OpenThere g (quiet-same s)
    (All-push (IsObject s.structs) o.types t h (i, (small_if_measured s.structs t k m).0))))

declares_member-does : (o : Open) (b : Ty) (d : Declarator) (s : State) → Good s → IsOpen s.structs o → IsBase s.structs b → Does Quiet (declares_member o b d) s OpenThere
declares_member-does o b d s g h i =
    quietly s (declared-does d (whole b) [] s g (base-derived s.structs b i)) (λ y u good q j.
    given-then Quiet y.name _ u _ (λ name e.
    given-then Quiet (whole_type y.derived) _ u _ (λ t f.
    with_member-does o name t u good (open-kept s.structs u.structs q.structs o h) (whole-is u.structs y.derived y.params t j f).0)))

base-kept : (x y : Table) → Extends x y → (t : Ty) → IsBase x t → IsBase y t
base-kept x y p t h = (type-kept x y p t h.0, h.1)

with_members-does : (o : Open) (b : Ty) (ds : List Declarator) (s : State) → Good s → IsOpen s.structs o → IsBase s.structs b → Does Quiet (with_members o b ds) s OpenThere
with_members-does o b [] s g h i = ends Quiet o s s OpenThere g (quiet-same s) h
with_members-does o b (d ∷ ds) s g h i =
    quietly s (declares_member-does o b d s g h i) (λ p u good q j. with_members-does p b ds u good j (base-kept s.structs u.structs q.structs b i))

-- a rule of one state, behind another
after : {A : Type 0} {o : Option (A × State)} (s v : State) {P : State → A → Type 0} → Quiet s v
    → ((a : A) (t : State) → ◌≡◌ {A = Option (A × State)} o (Some (a, t)) → Good t × Quiet v t × P t a)
    → (a : A) (t : State) → ◌≡◌ {A = Option (A × State)} o (Some (a, t)) → Good t × Quiet s t × P t a
after s v r does a t e = let d = does a t e in (d.0, quiet-onward s v t r d.1, d.2)

defines-does : (o : Open) (s : State) → Good s → IsOpen s.structs o → Does Quiet (defines o) s Bases
defines-does o s g h =
    only-then Quiet (is_undefined (slice_get s.structs o.number)) _ s _ (λ b.
    only-then Quiet (has_members o.types) _ s _ (λ some.
    only-then Quiet (nat_le (length o.types) most_bytes) _ s _ (λ c.
    let v = with-struct s o in
    after s v (struct-more s o b) (
    given-then Quiet (measured v.structs (struct o.number)) _ v _ (λ k m.
    ends Quiet (struct o.number) v v Bases (struct-good s o b some g h) (quiet-same v)
    (omega (arith, within s.structs o.number b, length-set s.structs o.number (Some (laid_out s.structs o.types))), refl))))))

abbrev BaseAndOpen : State → Ty × List Open → Type 0
BaseAndOpen u x = IsBase u.structs x.0 × All (IsOpen u.structs) x.1

closes-does : (os : List Open) (s : State) → Good s → All (IsOpen s.structs) os → Does Quiet (closes os) s BaseAndOpen
closes-does [] s g h = λ a u e. let q : None ≡ Some (a, u) = e in absurd (cc)
closes-does (o ∷ []) s g h = λ a u e. let q : None ≡ Some (a, u) = e in absurd (cc)
closes-does (o ∷ p ∷ os) s g h =
    let is = IsOpen s.structs in
    quietly s (defines-does o s g (All-head is o (p ∷ os) h)) (λ t u good q i.
    ends Quiet (t, p ∷ os) u u BaseAndOpen good (quiet-same u) (i, all-kept s.structs u.structs q.structs (p ∷ os) (All-tail is o (p ∷ os) h)))

in_front-does : (os : List Open) (b : Ty) (ds : List Declarator) (s : State) → Good s → All (IsOpen s.structs) os → IsBase s.structs b → Does Quiet (in_front os b ds) s AllOpen
in_front-does [] b ds s g h i = λ a u e. let q : None ≡ Some (a, u) = e in absurd (cc)
in_front-does (o ∷ os) b ds s g h i =
    let is = IsOpen s.structs in
    quietly s (with_members-does o b ds s g (All-head is o os h) i) (λ p u good q j.
    ends Quiet (p ∷ os) u u AllOpen good (quiet-same u)
    (All-cons (IsOpen u.structs) p os j (all-kept s.structs u.structs q.structs os (All-tail is o os h))))

piece-does : (os : List Open) (p : Piece) (s : State) → Good s → All (IsOpen s.structs) os → Does Quiet (piece os p) s AllOpen
piece-does os (pieces.Opens tag) s g h =
    quietly s (opens_struct-does tag s g) (λ o u good q i.
    ends Quiet (o ∷ os) u u AllOpen good (quiet-same u) (All-cons (IsOpen u.structs) o os i (all-kept s.structs u.structs q.structs os h)))
piece-does os (pieces.Member (heads.Specifier x) ds) s g h =
    quietly s (specified-does x s g) (λ b u good q i. in_front-does os b ds u good (all-kept s.structs u.structs q.structs os h) i)
piece-does os (pieces.Member (heads.Enum tag xs comma) ds) s g h =
    quietly s (enumeration-does tag xs s g) (λ b u good q i. in_front-does os b ds u good (all-kept s.structs u.structs q.structs os h) i)
piece-does os (pieces.Member heads.Close ds) s g h =
    quietly s (closes-does os s g h) (λ x u good q i. in_front-does x.1 x.0 ds u good i.1 i.0)

all_pieces-does : (os : List Open) (ps : List Piece) (s : State) → Good s → All (IsOpen s.structs) os → Does Quiet (all_pieces os ps) s AllOpen
all_pieces-does os [] s g h = ends Quiet os s s AllOpen g (quiet-same s) h
all_pieces-does os (p ∷ ps) s g h =
    quietly s (piece-does os p s g h) (λ qs u good q i. all_pieces-does qs ps u good i)

last_one-does : (os : List Open) (s : State) → Good s → All (IsOpen s.structs) os → Does Quiet (last_one os) s Bases
last_one-does [] s g h = λ a u e. let q : None ≡ Some (a, u) = e in absurd (cc)
last_one-does (o ∷ []) s g h = defines-does o s g (All-head (IsOpen s.structs) o [] h)
last_one-does (o ∷ p ∷ os) s g h = λ a u e. let q : None ≡ Some (a, u) = e in absurd (cc)

-- a struct that is defined at file scope, or any other specifier
pub outer-does : (x : OuterSpecifier) (s : State) → Good s → Does Quiet (outer x) s (λ u t. IsBase u.structs t)
outer-does (outers.Plain x) s g = specified-does x s g
outer-does (outers.Struct tag ps) s g =
    quietly s (opens_struct-does tag s g) (λ o t good q h.
    quietly t (all_pieces-does (o ∷ []) ps t good (All-cons (IsOpen t.structs) o [] h (All-nil (IsOpen t.structs)))) (λ os u fine r i.
    last_one-does os u fine i))
outer-does (outers.Enum tag xs comma) s g = enumeration-does tag xs s g
