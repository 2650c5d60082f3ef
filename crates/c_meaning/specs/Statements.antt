-- What statements do (C11, 6.8), by recursion on the typed tree. A unit of fuel is spent at each return to the start of a loop.
-- `loops` and `do_loops` have a bound, by which the recursion goes: it is above the fuel, so that no run comes to it.
use Rattle.std.specs.Prelude.{ℕ, zero, suc, ◌==◌, Bool, true, false, List, [], ◌∷◌, map, Option, Some, None, if◌then◌else◌, slice_get}
use Rattle.c_types.specs.Types.{Ty}
use Rattle.c_typed.specs.declared.ops.Variable.TheVariants.{Local}
use Rattle.c_typed.specs.declared.tree.Case.{Case}
use Rattle.c_typed.specs.Tree.{Expr, Stmt, nothing, perform, fill, if_else, loop, do_while, switch, scope, return, return_nothing, break, continue, Stmts, done, seq, Typed}
use Rattle.c_typed.specs.Statements.{count}
use Rattle.c_meaning.specs.Values.{Value, inside, zero_value}
use Rattle.c_meaning.specs.Objects as objects
use Rattle.c_meaning.specs.World.{out_of_fuel, Held, plain, object, Does, ◌>>=◌, ◌>>◌, pure, stop, known, look, alter, spend}
use Rattle.c_meaning.specs.Integers.{bits_of, value_of}
use Rattle.c_meaning.specs.Accesses.{make_frame, hold}
use Rattle.c_meaning.specs.Expressions.{Calls, char_of, expr, further, integer, nothing_given, place, pointer, test}

-- ---- how a statement goes on (6.8.6)

pub data Flow : Type 0 where
  next broken continued : Flow
  returned : Value → Flow

-- a statement, and what is done where it goes on
abbrev pub followed : Does Flow → Flow → Does Flow
followed rest next = rest
followed rest f = pure f

-- ---- loops (6.8.5)

-- behind the body of a loop: it goes on so, or the loop is left, too
abbrev pub behind_body : Does Flow → Flow → Does Flow
behind_body again next = again
behind_body again broken = pure next
behind_body again continued = again
behind_body again (returned v) = pure (returned v)

-- `while` and `for`: the test, the body, and what is evaluated behind each iteration
abbrev pub loops : (bound : ℕ) → Does Bool → Does (Unit {0}) → Does Flow → Does Flow
loops zero test step body = stop out_of_fuel
loops (suc n) test step body =
    test >>= (λ x. if x then (body >>= behind_body (step >> (spend >> loops n test step body))) else pure next)

-- `do`: the body, and then the test
abbrev pub do_loops : (bound : ℕ) → Does Bool → Does Flow → Does Flow
do_loops zero test body = stop out_of_fuel
do_loops (suc n) test body =
    body >>= behind_body (test >>= (λ x. if x then (spend >> do_loops n test body) else pure next))

-- ---- labels (6.8.4.2)

-- whether this is the label of these bits, or `default` where none are given
abbrev pub is_label : Option ℕ → Case → Bool
is_label wanted x = same wanted x.label where
  same : Option ℕ → Option ℕ → Bool
  same None None = true
  same (Some m) (Some n) = m == n
  same _ _ = false

-- the group of statements with which the first such label goes on
abbrev pub group_at : Option ℕ → List Case → Option ℕ
group_at wanted [] = None
group_at wanted (x ∷ xs) = if is_label wanted x then Some x.group else group_at wanted xs

abbrev pub or_else : Option ℕ → (n : ℕ) → ℕ
or_else None n = n
or_else (Some m) n = m

-- the group with which a switch goes on: behind the label that is equal, else behind `default`, else none
abbrev pub goes_to : List Case → (bits groups : ℕ) → ℕ
goes_to cases n k = or_else (group_at (Some n) cases) (or_else (group_at None cases) k)

-- `break` leaves the switch
abbrev pub behind_switch : Flow → Flow
behind_switch broken = next
behind_switch f = f

module _ (unit : Typed) (calls : Calls) (bound : ℕ) where
  -- what is evaluated behind each iteration
  abbrev pub step_of : Option Expr → Does (Unit {0})
  step_of None = pure tt
  step_of (Some e) = expr unit calls e >> pure tt

  -- in a function with these slots: the type of each, and whether it is an object
  module _ (slots : List (Ty × Bool)) where
    -- ---- blocks: a variable begins as zero at each entry of its block (6.2.4)

    abbrev pub enter_slot : ℕ → (Ty × Bool) → Does (Unit {0})
    enter_slot n (t, true) = make_frame unit.structs t >>= (λ o. hold (Local n) (object o))
    enter_slot n (t, false) = hold (Local n) (plain (zero_value t))

    abbrev pub enter : List ℕ → Does (Unit {0})
    enter [] = pure tt
    enter (n ∷ ns) = known (slice_get slots n) >>= enter_slot n >> enter ns

    abbrev pub leave_held : Held → Does (Unit {0})
    leave_held (object o) = alter (λ os. objects.end os o)
    leave_held (plain v) = pure tt

    abbrev pub leave : List ℕ → Does (Unit {0})
    leave [] = pure tt
    leave (n ∷ ns) = look (λ w. slice_get w.locals n) >>= known >>= leave_held >> leave ns

    -- ---- statements

    abbrev mutual
      pub stmt : Stmt → Does Flow
      stmt nothing = pure next
      stmt (perform e) = expr unit calls e >> pure next
      -- a string into an array (6.7.9, paragraph 14)
      stmt (fill b n bytes) =
          pointer (place unit calls b) >>= further inside >>= (λ p.
          alter (objects.write_all 1 p 0 (map char_of bytes))) >> pure next
      stmt (if_else c a b) = test (expr unit calls c) >>= (λ x. if x then stmt a else stmt b)
      stmt (loop c step body) = loops bound (test (expr unit calls c)) (step_of step) (stmt body)
      stmt (do_while body c) = do_loops bound (test (expr unit calls c)) (stmt body)
      -- its objects are made at its entry, and end when it is left, in whatever way; an initialiser that is passed over isn't
      -- carried out
      stmt (switch t e ns cases groups) =
          integer (expr unit calls e) >>= (λ x. enter ns >> (stmts_from (goes_to cases (bits_of t x) (count groups)) groups >>= (λ f.
          leave ns >> pure (behind_switch f))))
      stmt (scope ns ss) = enter ns >> (stmts_from 0 ss >>= (λ f. leave ns >> pure f))
      stmt (return e) = expr unit calls e >>= (λ v. pure (returned v))
      stmt return_nothing = pure (returned nothing_given)
      stmt break = pure broken
      stmt continue = pure continued

      -- but for so many
      pub stmts_from : ℕ → Stmts → Does Flow
      stmts_from k done = pure next
      stmts_from zero (seq s ss) = stmt s >>= followed (stmts_from zero ss)
      stmts_from (suc k) (seq s ss) = stmts_from k ss
