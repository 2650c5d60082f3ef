-- Calls of functions (C11, 6.5.2.2 and 6.9.1). A unit of fuel is spent at each call of a defined function, behind the test of the
-- depth. `calls_at` has a bound, by which the recursion goes: it is above the fuel, so that no run comes to it.
use Rattle.std.specs.Prelude.{ℕ, zero, suc, nat_lt, Bool, true, false, List, [], ◌∷◌, ◌++◌, length, map, drop, Option, Some, None, if◌then◌else◌, slice_get}
use Rattle.c_types.specs.Types.{Ty, void, function}
use Rattle.c_typed.specs.declared.ops.Variable.TheVariants.{Local}
use Rattle.c_typed.specs.Tree.{Stmt, Function, Typed}
use Rattle.c_typed.specs.Objects.{is_object}
use Rattle.c_meaning.specs.Values.{Value, zero_value}
use Rattle.c_meaning.specs.Objects as objects
use Rattle.c_meaning.specs.World.{deep, lost, out_of_fuel, Held, plain, object, World, Result, gives, ends, Does, ◌>>=◌, ◌>>◌, pure, stop, known, alter, spend}
use Rattle.c_meaning.specs.Accesses.{make_frame, hold}
use Rattle.c_meaning.specs.Expressions.{Calls}
use Rattle.c_meaning.specs.Statements.{Flow, returned, leave, stmt}

abbrev pub slots_from : Stmt → ℕ → List Ty → List (Ty × Bool)
slots_from body n [] = []
slots_from body n (t ∷ ts) = (t, is_object body n t) ∷ slots_from body (suc n) ts

-- the slots of the parameters: as many as there are arguments
abbrev pub numbers_from : ℕ → List Value → List ℕ
numbers_from n [] = []
numbers_from n (v ∷ vs) = n ∷ numbers_from (suc n) vs

abbrev pub result_of : Ty → Ty
result_of (function r ps) = r
result_of _ = void

-- a result that is missing is 0
abbrev pub given : Ty → Flow → Value
given t (returned v) = v
given t f = zero_value t

-- how many calls may be open
abbrev pub deepest : ℕ
deepest = 16384

abbrev pub if_shallow : Does Value → Does Value
if_shallow go w = if nat_lt w.depth deepest then go w else ends deep w

-- ---- a call: the parameters hold the arguments, and other variables nothing yet

abbrev pub first_locals : Function → List Value → List Held
first_locals f vs = map plain vs ++ map (λ t. plain (zero_value t)) (drop (length vs) f.slots)

-- the caller's variables and depth come back
abbrev pub back_to : World → Result Value → Result Value
back_to caller (gives v w) = gives v (record w { locals = caller.locals; depth = caller.depth })
back_to caller (ends e w) = ends e w

abbrev pub within_call : Function → List Value → Does Value → Does Value
within_call f vs go w = back_to w (go (record w { locals = first_locals f vs; depth = suc w.depth }))

module _ (unit : Typed) where
  -- a parameter that is an object is made, and takes its argument
  abbrev pub make_param : ℕ → Value → (Ty × Bool) → Does (Unit {0})
  make_param n v (t, true) =
      make_frame unit.structs t >>= (λ o. hold (Local n) (object o) >> alter (λ os. objects.write os (objects.to_object o) v))
  make_param n v (t, false) = pure tt

  abbrev pub make_params : List (Ty × Bool) → ℕ → List Value → Does (Unit {0})
  make_params slots n [] = pure tt
  make_params slots n (v ∷ vs) = known (slice_get slots n) >>= make_param n v >> make_params slots (suc n) vs

  -- the parameters' objects are made before the body's, and end last
  abbrev pub run_body : Calls → (bound : ℕ) → Function → Stmt → List Value → Does Value
  run_body calls bound f body vs =
      let slots = slots_from body 0 f.slots in
      make_params slots 0 vs >> (stmt unit calls bound slots body >>= (λ flow.
      leave unit calls bound slots (numbers_from 0 vs) >> pure (given (result_of f.ty) flow)))

  abbrev pub called : Calls → (bound : ℕ) → List Value → Function → Stmt → Does Value
  called calls bound vs f body = within_call f vs (run_body calls bound f body vs)

  abbrev pub with_body : {A : Type 0} → Function → Option Stmt → (Function → Stmt → Does A) → Does A
  with_body f None go = stop lost
  with_body f (Some body) go = go f body

  -- of the function of a number, which is defined
  abbrev pub of_defined : {A : Type 0} → Option Function → (Function → Stmt → Does A) → Does A
  of_defined None go = stop lost
  of_defined (Some f) go = with_body f f.body go

  abbrev pub calls_at : (bound : ℕ) → Calls
  calls_at zero f vs = stop out_of_fuel
  calls_at (suc n) f vs =
      of_defined (slice_get unit.functions f) (λ g body. if_shallow (spend >> called (calls_at n) (suc n) vs g body))
