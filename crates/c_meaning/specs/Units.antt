-- What a unit does (C11, 5.1.2.2.1 and 6.9): what is made before `main`, and `main`. `means`, at the end, is the meaning of C.
use Rattle.std.specs.Prelude.{ℕ, suc, Bool, false, ◌||◌, List, [], ◌∷◌, ◌++◌, codes, length, map, position, Option, Some, None, if◌then◌else◌, slice_get}
use Rattle.std.specs.Str.{bytes_eq}
use Rattle.c_types.specs.declared.integers.IntType.TheVariants.{Char}
use Rattle.c_types.specs.Types.{Ty, void, integer, array}
use Rattle.c_typed.specs.declared.ops.Variable.TheVariants.{Global}
use Rattle.c_typed.specs.Tree.{Stmt, Function, Made, global, text, Typed}
use Rattle.c_typed.specs.Objects.{in_stmt, is_whole}
use Rattle.c_meaning.specs.Values.{Value, inside, zero_value}
use Rattle.c_meaning.specs.Objects as objects
use Rattle.c_meaning.specs.World.{End, result, lost, plain, object, World, Result, gives, ends, Does, ◌>>=◌, ◌>>◌, pure, stop, known, look, change, alter}
use Rattle.c_meaning.specs.Accesses.{make_frame, hold}
use Rattle.c_meaning.specs.Expressions.{Calls, char_of, further}
use Rattle.c_meaning.specs.Statements.{stmt}
use Rattle.c_meaning.specs.Functions.{of_defined, called, calls_at, result_of}

-- ---- which variables at file scope are objects

abbrev pub in_body : ℕ → Option Stmt → Bool
in_body n None = false
in_body n (Some s) = in_stmt (Global n) s

abbrev pub in_functions : ℕ → List Function → Bool
in_functions n [] = false
in_functions n (f ∷ fs) = in_body n f.body || in_functions n fs

abbrev pub in_values : ℕ → List Stmt → Bool
in_values n [] = false
in_values n (s ∷ ss) = in_stmt (Global n) s || in_values n ss

abbrev pub in_made : ℕ → List Made → Bool
in_made n [] = false
in_made n (global m ss ∷ ms) = in_values n ss || in_made n ms
in_made n (text bytes ∷ ms) = in_made n ms

-- one of this type
abbrev pub is_global_object : Typed → ℕ → Ty → Bool
is_global_object u n t = is_whole t || (in_made n u.made || in_functions n u.functions)

-- a string's bytes and a zero (6.4.5, paragraph 6)
abbrev pub string : List ℕ → Ty
string bytes = array (integer Char) (suc (length bytes))

abbrev pub no_calls : Calls
no_calls f vs = stop lost

module _ (unit : Typed) where
  -- ---- before `main` (6.2.4, paragraph 3): objects are made in the order of their tokens

  abbrev pub make_global : ℕ → Ty → Does (Unit {0})
  make_global n t =
      if is_global_object unit n t then (make_frame unit.structs t >>= (λ o. hold (Global n) (object o))) else pure tt

  abbrev pub remember : ℕ → Does (Unit {0})
  remember o = change (λ w. record w { literals = w.literals ++ o ∷ [] })

  abbrev pub make_each : List Made → Does (Unit {0})
  make_each [] = pure tt
  make_each (global n ss ∷ ms) = known (slice_get unit.globals n) >>= make_global n >> make_each ms
  make_each (text bytes ∷ ms) = make_frame unit.structs (string bytes) >>= remember >> make_each ms

  -- and then they are initialised, in the same order (6.7.9)

  abbrev pub run_each : List Stmt → Does (Unit {0})
  run_each [] = pure tt
  run_each (s ∷ ss) = stmt unit no_calls 0 [] s >> run_each ss

  -- the bytes of the literal of this number: not through a pointer that a program has, so it isn't sealed
  abbrev pub fill_literal : ℕ → List ℕ → Does (Unit {0})
  fill_literal k bytes =
      look (λ w. slice_get w.literals k) >>= known >>= (λ o. further inside (objects.to_object o)) >>= (λ p.
      alter (objects.write_all 1 p 0 (map char_of bytes)))

  -- k literals stand before these
  abbrev pub give_each : (k : ℕ) → List Made → Does (Unit {0})
  give_each k [] = pure tt
  give_each k (global n ss ∷ ms) = run_each ss >> give_each k ms
  give_each k (text bytes ∷ ms) = fill_literal k bytes >> give_each (suc k) ms

  abbrev pub before_main : Does (Unit {0})
  before_main = make_each unit.made >> give_each 0 unit.made

  -- ---- main

  abbrev pub as_result : Ty → Value → Option Value
  as_result void v = None
  as_result t v = Some v

  -- it is carried out like a call, for which no unit is spent
  abbrev pub run_main : (bound : ℕ) → Option ℕ → Does (Option Value)
  run_main bound None = stop lost
  run_main bound (Some main) =
      of_defined unit (slice_get unit.functions main) (λ g body.
      called unit (calls_at unit bound) (suc bound) [] g body >>= (λ v. pure (as_result (result_of g.ty) v)))

  abbrev pub main_number : Option ℕ
  main_number = position (λ (f : Function). bytes_eq (codes "main") f.name) unit.functions

  -- ---- from the start, with this input, these grants and so much fuel

  abbrev pub first_world : List (Option ℕ) → List Bool → ℕ → World
  first_world input grants fuel = record {
    objects = [];
    literals = [];
    globals = map (λ t. plain (zero_value t)) unit.globals;
    locals = [];
    depth = 0;
    fuel = fuel;
    input = input;
    output = [];
    grants = grants;
    sizes = [];
  }

  abbrev pub closed : Result (Option Value) → End × World
  closed (gives v w) = (result v, w)
  closed (ends e w) = (e, w)

  -- the end, and the world then: its output, the input left, and the sizes of what was created
  abbrev pub means : (input : List (Option ℕ)) → (grants : List Bool) → (fuel : ℕ) → End × World
  means input grants fuel =
      closed ((make_each unit.made >> (give_each 0 unit.made >> run_main (suc fuel) main_number)) (first_world input grants fuel))
