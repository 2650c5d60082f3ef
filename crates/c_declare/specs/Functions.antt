-- Functions that are defined (C11, 6.9.1): their parameters, slots and bodies.
use Rattle.std.specs.Prelude.{ℕ, not, Bool, false, List, [], ◌∷◌, ◌++◌, is_some, slice_get, slice_set, Option, Some, None}
use Rattle.c_types.specs.Types.{Ty, function}
use Rattle.c_typed.specs.declared.unit.Subject.TheVariants as subjects
use Rattle.c_typed.specs.Tree.{Function, Stmt}
use Rattle.c_check_types.specs.State.{Rule, ◌>>=◌, ◌>>◌, pure, given, only_if, state, change, added, and_then}
use Rattle.c_check_types.specs.Scopes.{new_slot, enters_local}
use Rattle.c_check_types.specs.Types.{Parameter}

-- parameters stand in the scope of the body's block; they may have no name
abbrev pub enters_parameter : Option (List ℕ) → Ty → Rule (Unit {0})
enters_parameter None t = do
  new_slot t
  pure tt
enters_parameter (Some name) t = do
  enters_local name t
  pure tt

abbrev pub enters_parameters : List Parameter → Rule (Unit {0})
enters_parameters [] = pure tt
enters_parameters (p ∷ ps) = do
  enters_parameter p.name p.ty
  enters_parameters ps

abbrev pub has_no_body : Option Function → Bool
has_no_body None = false
has_no_body (Some f) = not (is_some f.body)

abbrev pub is_declared_alone : ℕ → Rule (Unit {0})
is_declared_alone n = do
  s ← state
  only_if (has_no_body (slice_get s.functions n))

abbrev pub defined : Function → List Ty → Stmt → Function
defined f slots body = record f { slots = slots; body = Some body }

abbrev pub with_definition : List Function → ℕ → List Ty → Stmt → Option (List Function)
with_definition fs n slots body =
    and_then (slice_get fs n) (λ f. Some (slice_set fs n (defined f slots body)))

abbrev pub with_body : ℕ → Stmt → Rule (Unit {0})
with_body n body = do
  s ← state
  fs ← given (with_definition s.functions n s.slots body)
  change (λ s. record s { functions = fs; slots = [] })
  added (subjects.Body n)

abbrev pub result_in : Ty → Option Ty
result_in (function r ps) = Some r
result_in _ = None
