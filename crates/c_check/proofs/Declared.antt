-- The parameters of a function that is defined, and the types of variables.
use Rattle.std.proofs.Common.{◌≡◌, ◌∙◌, sym, ap, refl, ℕ, suc, List, [], ◌∷◌, ◌++◌, length, map, Option, Some, None, append_assoc, arith}
use Rattle.std.proofs.lemmas.List.{append-nil, length-append}
use Rattle.std.proofs.lemmas.List.Elements.{All-head, All-tail}
use Rattle.std.specs.List.{All}
use Rattle.c_types.specs.Layout.{Table}
use Rattle.c_types.specs.Types.{Ty, array}
use Rattle.c_tree.specs.Tree.{Initialiser}
use Rattle.c_check_types.specs.State.{State}
use Rattle.c_check_types.specs.Types.{measured, Derived, whole, lengthless, Parameter, types_of_parameters}
use Rattle.c_declare.specs.Functions.{enters_parameter, enters_parameters}
use Rattle.c_declare.specs.Initials.{given_length, variable_type}
use Rattle.c_typed.specs.refinement.Types.{IsObject}
use Rattle.c_typed.specs.Units.{list_of, numbers}
use Rattle.c_check.proofs.States.{front, Good, Quiet, Steps, Does}
use Rattle.c_check.proofs.Extension.{quiet-same, steps-same}
use Rattle.c_check.proofs.Rules.{stepping, ends, given-then}
use Rattle.c_check.proofs.Sizes.{small_if_measured, few_if_measured, scalar-small}
use Rattle.c_check.proofs.Types.{IsParameter, IsDerived, params-kept}
use Rattle.c_check.proofs.Scopes.{HasSlot, new_slot-does, enters_local-does}

-- ---- parameters

abbrev pub types-in : List Parameter → List Ty
types-in ps = map (λ (p : Parameter). p.ty) ps

pub types-listed : (ps : List Parameter) → list_of (types_of_parameters ps) ≡ types-in ps
types-listed [] = refl
types-listed (p ∷ ps) = ap (λ ts. p.ty ∷ ts) (types-listed ps)

scalar-object : (x : Table) (p : Parameter) → IsParameter x p → IsObject x p.ty
scalar-object x p h = (h.1, scalar-small x p.ty h.0)

-- the slots of the innermost scope are all that there are, in order
abbrev pub IsNumbered : State → Type 0
IsNumbered s = front s.scopes ≡ numbers (length s.slots)

one-longer : (s u : State) (t : Ty) (n : ℕ) → HasSlot s t u n → IsNumbered s → IsNumbered u
one-longer s u t n h e =
    let l = length-append s.slots (t ∷ []) in
    let k : length u.slots ≡ suc (length s.slots) = ap (λ ts. length ts) h.1 ∙ omega (arith, l) in
    h.3 ∙ ap (λ ns. ns ++ n ∷ []) e ∙ ap (λ m. numbers (length s.slots) ++ m ∷ []) h.4 ∙ ap (λ k. numbers k) (sym k)

-- slots of these types, behind those of a state
abbrev pub HasSlots : {A : Type 0} → State → List Ty → State → A → Type 0
HasSlots s ts u a = (u.slots ≡ s.slots ++ ts) × (IsNumbered s → IsNumbered u)

enters_parameter-does : (name : Option (List ℕ)) (t : Ty) (s : State) → Good s → IsObject s.structs t → Does Steps (enters_parameter name t) s (HasSlots s (t ∷ []))
enters_parameter-does None t s g h =
    stepping s (new_slot-does t s g h) (λ n u good q p. ends Steps tt u u (HasSlots s (t ∷ [])) good (steps-same u) (p.1, one-longer s u t n p))
enters_parameter-does (Some name) t s g h =
    stepping s (enters_local-does name t s g h) (λ n u good q p. ends Steps tt u u (HasSlots s (t ∷ [])) good (steps-same u) (p.1, one-longer s u t n p))

pub enters_parameters-does : (ps : List Parameter) (s : State) → Good s → All (IsParameter s.structs) ps → Does Steps (enters_parameters ps) s (HasSlots s (types-in ps))
enters_parameters-does [] s g h = ends Steps tt s s (HasSlots s []) g (steps-same s) (sym (append-nil s.slots), λ e. e)
enters_parameters-does (p ∷ ps) s g h =
    let is = IsParameter s.structs in
    stepping s (enters_parameter-does p.name p.ty s g (scalar-object s.structs p (All-head is p ps h))) (λ a u good q slots.
    let rest = params-kept s.structs u.structs q.structs ps (All-tail is p ps h) in
    λ b v e.
    let d = enters_parameters-does ps u good rest b v e in
    (d.0, d.1, (d.2.0 ∙ ap (λ ts. ts ++ types-in ps) slots.0 ∙ append_assoc s.slots (p.ty ∷ []) (types-in ps), λ e. d.2.1 (slots.1 e))))

-- ---- variables

pub variable_type-does : (d : Derived) (ps : List Parameter) (v : Option Initialiser) (s : State) → Good s → IsDerived s.structs d ps
    → Does Quiet (variable_type d v) s (λ u t. IsObject u.structs t)
variable_type-does (whole t) ps v s g h =
    given-then Quiet (measured s.structs t) _ s _ (λ k m.
    ends Quiet t s s (λ u a. IsObject u.structs a) g (quiet-same s) (h.0, (small_if_measured s.structs t k m).0))
variable_type-does (lengthless t) ps v s g h =
    given-then Quiet (given_length t v) _ s _ (λ n e.
    given-then Quiet (measured s.structs (array t n)) _ s _ (λ k m.
    let small = (small_if_measured s.structs (array t n) k m).0 in
    ends Quiet (array t n) s s (λ u a. IsObject u.structs a) g (quiet-same s) ((h.0, small, few_if_measured s.structs t n k m), small)))
