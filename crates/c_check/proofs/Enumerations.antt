-- Enumerated types: their enumerators are numbers of an int.
use Rattle.std.proofs.Common.{◌≡◌, subst, refl, ℕ, ◌+◌, ◌==◌, ◌%◌, ◌^◌, ◌<◌, Bool, true, false, not, List, [], ◌∷◌, ◌++◌, length, Option, Some, None, is_some, if◌then◌else◌, arith}
use Rattle.std.specs.Prelude.{ℤ, pos, negsuc}
use Rattle.ms_num.specs.Integers.{wrapped}
use Rattle.c_types.specs.declared.integers.IntType.TheVariants.{Int}
use Rattle.c_types.specs.Types.{Ty, integer}
use Rattle.c_tree.specs.declared.enumerator.Enumerator.{Enumerator as Written}
use Rattle.c_tree.specs.Tree.{Expr}
use Rattle.c_typed.specs.declared.unit.Enumerator.{Enumerator}
use Rattle.c_typed.specs.declared.unit.Subject.TheVariants as subjects
use Rattle.c_check_types.specs.declared.constants.Constant.{Constant}
use Rattle.c_check_types.specs.declared.entity.Entity.TheVariants as entities
use Rattle.c_check_types.specs.State.{State, number_of, and_then}
use Rattle.c_check_types.specs.Constants.{int_of, is_int, meant, converted}
use Rattle.c_declare.specs.Enumerations.{following, enumerator_value, enumerator, enumerators, enters_enum_tag, keeps_enumeration, enumeration}
use Rattle.c_check.proofs.States.{Good, Quiet, Does}
use Rattle.c_check.proofs.Extension.{extends-same, quiet-same}
use Rattle.c_check.proofs.Rules.{quietly, ends, given-ends, only-then}
use Rattle.c_check.proofs.Types.{IsBase, constant-does}
use Rattle.c_check.proofs.Scopes.{enters-does}

wrapped-fits : (z : ℤ) → wrapped 32 z < 2 ^ 32
wrapped-fits (pos n) = omega arith
wrapped-fits (negsuc n) = omega arith

abbrev pub FitsInt : State → ℕ → Type 0
FitsInt s n = n < 2 ^ 32

abbrev pub MayFit : Option ℕ → Type 0
MayFit None = Unit {0}
MayFit (Some n) = n < 2 ^ 32

following-fits : (n : ℕ) → MayFit (following n)
following-fits n = by (n == 2147483647) where
  by : (b : Bool) → MayFit (if b then None else Some ((n + 1) % 2 ^ 32))
  by true = tt
  by false = omega arith

may-fit : (o : Option ℕ) (n : ℕ) → MayFit o → o ≡ Some n → n < 2 ^ 32
may-fit None n h e = let q : None ≡ Some n = e in absurd (cc)
may-fit (Some m) n h e = let q : m ≡ n = cc in subst (λ k. k < 2 ^ 32) q h

number-fits : (b : Bool) (z : ℤ) (n : ℕ) → (if b then Some (wrapped 32 z) else None) ≡ Some n → n < 2 ^ 32
number-fits true z n e = let q : wrapped 32 z ≡ n = cc in subst (λ k. k < 2 ^ 32) q (wrapped-fits z)
number-fits false z n e = let q : None ≡ Some n = e in absurd (cc)

int-fits : (c : Constant) (o : Option ℕ) (n : ℕ) → and_then o (λ a. if is_int (meant c.ty a) then Some (converted c.ty Int a) else None) ≡ Some n → n < 2 ^ 32
int-fits c None n e = let q : None ≡ Some n = e in absurd (cc)
int-fits c (Some a) n e = number-fits (is_int (meant c.ty a)) (meant c.ty a) n e

enumerator_value-does : (v : Option Expr) (next : Option ℕ) (s : State) → Good s → MayFit next → Does Quiet (enumerator_value v next) s FitsInt
enumerator_value-does None next s g h = given-ends Quiet next s FitsInt g (quiet-same s) (λ n e. may-fit next n h e)
enumerator_value-does (Some e) next s g h =
    quietly s (constant-does e s g) (λ c t good q i.
    given-ends Quiet (int_of c) t FitsInt good (quiet-same t) (λ n f. int-fits c c.value n f))

enumerator-does : (x : Written) (next : Option ℕ) (s : State) → Good s → MayFit next → Does Quiet (enumerator x next) s FitsInt
enumerator-does x next s g h =
    quietly s (enumerator_value-does x.value next s g h) (λ n t good q i.
    quietly t (enters-does x.name (entities.Constant n) t good i) (λ a u fine r j.
    ends Quiet n u u FitsInt fine (quiet-same u) i))

abbrev Any : {A : Type 0} → State → A → Type 0
Any u a = Unit {0}

enumerators-does : (xs : List Written) (next : Option ℕ) (es : List Enumerator) (s : State) → Good s → MayFit next → Does Quiet (enumerators xs next es) s Any
enumerators-does [] next es s g h = ends Quiet es s s Any g (quiet-same s) tt
enumerators-does (x ∷ xs) next es s g h =
    quietly s (enumerator-does x next s g h) (λ n t good q i.
    enumerators-does xs (following n) (es ++ record { name = x.name; bits = n } ∷ []) t good (following-fits n))

-- a state with the tag of an enumerated type more, and with an enumerated type more
abbrev with-tag : State → List ℕ → State
with-tag s tag = record s { enum_tags = s.enum_tags ++ tag ∷ [] }

abbrev with-enumeration : State → Option (List ℕ) → List Enumerator → State
with-enumeration s tag es =
    record s { enumerations = s.enumerations ++ record { tag = tag; constants = es } ∷ []; additions = s.additions ++ record { at = s.at; subject = subjects.Enumeration (length s.enumerations) } ∷ [] }

tag-good : (s : State) (tag : List ℕ) → Good s → Good (with-tag s tag)
tag-good s tag g =
    record { tags = g.tags; laid_out = g.laid_out; structs = g.structs; names = g.names; globals = g.globals; functions = g.functions; named = g.named; slots = g.slots; scoped = g.scoped; known = g.known; opened = g.opened }

tag-more : (s : State) (tag : List ℕ) → Quiet s (with-tag s tag)
tag-more s tag =
    record { structs = extends-same s.structs; globals = refl; functions = refl; outer = refl; front = refl; slots = refl; made = (quiet-same s).made }

more-good : (s : State) (tag : Option (List ℕ)) (es : List Enumerator) → Good s → Good (with-enumeration s tag es)
more-good s tag es g =
    record { tags = g.tags; laid_out = g.laid_out; structs = g.structs; names = g.names; globals = g.globals; functions = g.functions; named = g.named; slots = g.slots; scoped = g.scoped; known = g.known; opened = g.opened }

more-more : (s : State) (tag : Option (List ℕ)) (es : List Enumerator) → Quiet s (with-enumeration s tag es)
more-more s tag es =
    record { structs = extends-same s.structs; globals = refl; functions = refl; outer = refl; front = refl; slots = refl; made = (quiet-same s).made }

enters_enum_tag-does : (tag : Option (List ℕ)) (s : State) → Good s → Does Quiet (enters_enum_tag tag) s Any
enters_enum_tag-does None s g = ends Quiet tt s s Any g (quiet-same s) tt
enters_enum_tag-does (Some tag) s g =
    only-then Quiet (not (is_some (number_of s.tags tag))) _ s Any (λ a.
    only-then Quiet (not (is_some (number_of s.enum_tags tag))) _ s Any (λ b.
    ends Quiet tt s (with-tag s tag) Any (tag-good s tag g) (tag-more s tag) tt))

keeps_enumeration-does : (tag : Option (List ℕ)) (es : List Enumerator) (s : State) → Good s → Does Quiet (keeps_enumeration tag es) s Any
keeps_enumeration-does tag es s g = ends Quiet tt s (with-enumeration s tag es) Any (more-good s tag es g) (more-more s tag es) tt

abbrev Bases : State → Ty → Type 0
Bases u t = IsBase u.structs t

pub enumeration-does : (tag : Option (List ℕ)) (xs : List Written) (s : State) → Good s → Does Quiet (enumeration tag xs) s (λ u t. IsBase u.structs t)
enumeration-does tag xs s g =
    quietly s (enumerators-does xs (Some 0) [] s g (omega arith)) (λ es t good q h.
    quietly t (enters_enum_tag-does tag t good) (λ a u fine r i.
    quietly u (keeps_enumeration-does tag es u fine) (λ b v fair w j.
    ends Quiet (integer Int) v v Bases fair (quiet-same v) (tt, refl))))
