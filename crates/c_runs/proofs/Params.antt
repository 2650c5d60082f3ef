-- Parameters of a function of which one is an object: each is copied from its argument, which stands in front of all slots, and the
-- objects are made in their order.
use Rattle.std.proofs.Common.{◌≡◌, ◌≢◌, ℕ, zero, suc, ◌+◌, ◌<◌, ◌≤◌, List, [], ◌∷◌, ◌++◌, length, length-append, append_assoc, append-nil, drop, map, Bool, true, false, Option, Some, None, refl, sym, ap, ◌∙◌, arith, subst}
use Rattle.std.specs.Prelude.{slice_get, slice_set, ◌||◌, ◌*◌}
use Rattle.std.proofs.lemmas.Bool.{ne_eqb}
use Rattle.std.proofs.lemmas.Option.{slice_get_within}
use Rattle.ms_linear.specs.declared.value.Value.{Value as Word}
use Rattle.ms_linear.specs.declared.value.Value.TheVariants.{Handle}
use Rattle.ms_machine.specs.Step as step
use Rattle.ms_module.specs.declared.instr.Instr.TheVariants.{LocalGet}
use Rattle.ms_task.specs.Thread.{Item, Thread, thread, depth_of}
use Rattle.c_types.specs.declared.types.Scalar.{Scalar}
use Rattle.c_types.specs.Layout.{Table, size as type_size}
use Rattle.c_types.specs.Types.{Ty, void, integer, struct, pointer, array, function, Tys, no_types, types, scalar_of}
use Rattle.c_typed.specs.declared.ops.Variable.TheVariants.{Local}
use Rattle.c_typed.specs.Tree.{Function, Typed, of}
use Rattle.c_typed.specs.refinement.Expressions.{is_visible}
use Rattle.c_typed.specs.Units.{list_of, numbers}
use Rattle.c_meaning.specs.Values.{Value}
use Rattle.c_meaning.specs.Objects as objects
use Rattle.c_meaning.specs.Objects.{Object, Outcome, to_object, write}
use Rattle.c_meaning.specs.World.{End, Held, plain, object, World, Result, gives, ends, Does, after, ◌>>=◌, ◌>>◌, pure, alter, as_done, known}
use Rattle.c_meaning.specs.World as world
use Rattle.c_meaning.specs.Accesses.{asked, hold, make_frame, with_object}
use Rattle.c_meaning.specs.Shapes.{shape, size}
use Rattle.c_meaning.specs.Expressions as meaning
use Rattle.c_meaning.specs.Expressions.{Spot, at, variable, place, spot_of}
use Rattle.c_meaning.specs.Functions.{first_locals, make_param, make_params, numbers_from}
use Rattle.ms_emit.specs.Codes.{Code, no_code, plain as bare, one, ◌⨾◌, size_of}
use Rattle.c_code.specs.Functions.{param, params_from}
use Rattle.c_code.specs.Operations.{store}
use Rattle.c_code.specs.Statements.{made}
use Rattle.c_code.specs.Targets.{get, set}
use Rattle.ms_relate.specs.refinement.Homes.{Home, IsScalar, handle}
use Rattle.ms_relate.proofs.Growing.{Extends}
use Rattle.c_runs.proofs.Goes as goes
use Rattle.c_runs.proofs.Goes.{Goes, IsEnd, Mem, Runs, RunsTo, Stops, behind_goes, bind, here, one_here, weaker}
use Rattle.c_runs.proofs.Held.{Slot, get_behind, length_held, set_behind, set_there, some_is}
use Rattle.c_runs.proofs.Ending.{Differ, visible_first, visible_left, visible_right}
use Rattle.c_runs.proofs.Values.{pushed_is, value_still, word_of, word_still}
use Rattle.c_runs.proofs.Related.{AreOf, Env, HasAll, IsValue, Kept, Now, Starts, depth_front, extends_trans, frame_of, front, front_append, get_in, has_back, has_front, kept_seen, locals_of, pushes, seeing}
use Rattle.c_runs.proofs.Ops.{GoodIn, OpIn, Stack, at_work, op_any, op_over_in, op_then_in, same, size_joined}
use Rattle.c_runs.proofs.Nodes.{Always, gone, set_runs}
use Rattle.c_runs.proofs.Cells.{IsSpot, lead_still, over_handle, spot_pushed, variable_leads}
use Rattle.c_runs.proofs.Steps.{op_store}
use Rattle.c_runs.proofs.Scopes.{open_plain_too}
use Rattle.c_runs.proofs.Makes.{enters_object}
use Rattle.c_runs.proofs.Entering.{arg_words, firsts}

-- ---- what stops in the same way, with other variables

pub data SameBut {A : Type 0} : Result A → Result A → Type 0 where
  given_same : (a : A) (w : World) → SameBut (gives a w) (gives a w)
  ended_same : (e : End) (w : World) (ls : List Held) → SameBut (ends e w) (ends e (record w { locals = ls }))

pub same_self : {A : Type 0} (x : Result A) → SameBut x x
same_self (gives a w) = given_same a w
same_self (ends e w) = ended_same e w w.locals

pub same_after : {A B : Type 0} (x y : Result A) (f : A → World → Result B) → SameBut x y → SameBut (after x f) (after y f)
same_after _ _ f (given_same a w) = same_self (f a w)
same_after _ _ f (ended_same e w ls) = ended_same e w ls

module _ (S : goes.Site) where
  end_same : (e : End) (w : World) (ls : List Held) → IsEnd S e w → IsEnd S e (record w { locals = ls })
  end_same (world.result v) w ls h = h
  end_same (world.unsafe u) w ls h = h
  end_same world.zero_divide w ls h = h
  end_same world.overflow w ls h = h
  end_same world.abort w ls h = h
  end_same world.null_call w ls h = h
  end_same world.deep w ls h = h
  end_same world.exhausted w ls h = h
  end_same world.ungranted w ls h = h
  end_same world.out_of_fuel w ls h = h
  end_same world.lost w ls h = h

  pub runs_same : {A : Type 0} (size : ℕ) (m : Mem) (t : Thread) (w : World) (to : A → World → Mem → Thread) (Good : A → World → Mem → Type 0) (x y : Result A) → SameBut x y → Runs S size m t w to Good x → Runs S size m t w to Good y
  runs_same size m t w to Good _ _ (given_same a w1) h = h
  runs_same size m t w to Good _ _ (ended_same e w1 ls) h = λ ag.
      let q = h ag in
      record { puts = q.puts; events = q.events; tells = record { output = q.tells.output; sizes = q.tells.sizes; grants = q.tells.grants }; is = end_same e w1 ls q.is; cost = q.cost; least = q.least; greatest = q.greatest; so = q.so; asks = q.asks }

-- ---- elements that are set

set_swapped : {A : Type 0} (xs : List A) (i j : ℕ) (a b : A) → i ≢ j → slice_set (slice_set xs i a) j b ≡ slice_set (slice_set xs j b) i a
set_swapped [] i j a b d = refl
set_swapped (x ∷ xs) zero zero a b d = absurd (d refl)
set_swapped (x ∷ xs) zero (suc j) a b d = refl
set_swapped (x ∷ xs) (suc i) zero a b d = refl
set_swapped {A = A} (x ∷ xs) (suc i) (suc j) a b d = ap (λ (l : List A). x ∷ l) (set_swapped xs i j a b (λ e. d (ap suc e)))

set_twice : {A : Type 0} (xs : List A) (i : ℕ) (a b : A) → slice_set (slice_set xs i a) i b ≡ slice_set xs i b
set_twice [] i a b = refl
set_twice (x ∷ xs) zero a b = refl
set_twice {A = A} (x ∷ xs) (suc i) a b = ap (λ (l : List A). x ∷ l) (set_twice xs i a b)

-- the variables, where those from the n-th on hold these values
abbrev pub filled : (n : ℕ) → List Value → List Held → List Held
filled n [] ls = ls
filled n (u ∷ us) ls = filled (suc n) us (slice_set ls n (plain u))

filled_set : (m : ℕ) (us : List Value) (ls : List Held) (n : ℕ) (h : Held) → n < m → slice_set (filled m us ls) n h ≡ filled m us (slice_set ls n h)
filled_set m [] ls n h lt = refl
filled_set m (u ∷ us) ls n h lt =
    filled_set (suc m) us (slice_set ls m (plain u)) n h (omega (arith, lt))
    ∙ ap (filled (suc m) us) (set_swapped ls m n (plain u) h (λ e. omega (arith, lt, e)))

filled_front : (pre : List Held) (us : List Value) (ts : List Ty) → length us ≤ length ts → filled (length pre) us (pre ++ firsts ts) ≡ pre ++ (map plain us ++ firsts (drop (length us) ts))
filled_front pre [] ts le = refl
filled_front pre (u ∷ us) [] le = absurd (omega (arith, le))
filled_front pre (u ∷ us) (t ∷ ts) le =
    let z : length pre + 0 ≡ length pre = omega arith in
    let here : slice_set (pre ++ firsts (t ∷ ts)) (length pre) (plain u) ≡ (pre ++ plain u ∷ []) ++ firsts ts =
    ap (λ (n : ℕ). slice_set (pre ++ firsts (t ∷ ts)) n (plain u)) (sym z) ∙ set_behind pre (firsts (t ∷ ts)) 0 (plain u) ∙ sym (append_assoc pre (plain u ∷ []) (firsts ts)) in
    let more : suc (length pre) ≡ length (pre ++ plain u ∷ []) = (let a = length-append pre (plain u ∷ []) in omega (arith, a)) in
    ap (filled (suc (length pre)) us) here
    ∙ ap (λ (n : ℕ). filled n us ((pre ++ plain u ∷ []) ++ firsts ts)) more
    ∙ filled_front (pre ++ plain u ∷ []) us ts (omega (arith, le))
    ∙ append_assoc pre (plain u ∷ []) (map plain us ++ firsts (drop (length us) ts))

-- what a function's variables begin with
pub first_filled : (f : Function) (us : List Value) → length us ≤ length f.slots → first_locals f us ≡ filled 0 us (firsts f.slots)
first_filled f us le = sym (filled_front [] us f.slots le)

-- ---- the numbers of parameters

numbers_on : (n : ℕ) (us : List Value) → numbers n ++ numbers_from n us ≡ numbers (n + length us)
numbers_on n [] = append-nil (numbers n) ∙ (let z : n ≡ n + 0 = omega arith in ap numbers z)
numbers_on n (u ∷ us) =
    let z : suc n + length us ≡ n + suc (length us) = omega arith in
    sym (append_assoc (numbers n) (n ∷ []) (numbers_from (suc n) us)) ∙ numbers_on (suc n) us ∙ ap numbers z

pub numbers_are : (us : List Value) → numbers_from 0 us ≡ numbers (length us)
numbers_are us = numbers_on 0 us ∙ (let z : 0 + length us ≡ length us = omega arith in ap numbers z)

behind_others : (n k : ℕ) (us : List Value) → n < k → is_visible (numbers_from k us) n ≡ false
behind_others n k [] lt = refl
behind_others n k (u ∷ us) lt = ap (λ (b : Bool). b || is_visible (numbers_from (suc k) us) n) (ne_eqb k n (λ e. omega (arith, lt, e))) ∙ behind_others n (suc k) us (omega (arith, lt))

pub numbers_differ : (n : ℕ) (us : List Value) → Differ (numbers_from n us)
numbers_differ n [] = tt
numbers_differ n (u ∷ us) = (behind_others n (suc n) us (omega arith), numbers_differ (suc n) us)

-- ---- what the copies do, from variables that all begin with zeros

module _ (unit : Typed) (kinds : List Slot) where
  abbrev pub copy_param : ℕ → Value → Slot → Does (Unit {0})
  copy_param n v (t, true) = make_param unit n v (t, true)
  copy_param n v (t, false) = hold (Local n) (plain v)

  abbrev pub copies : ℕ → List Value → Does (Unit {0})
  copies n [] = pure tt
  copies n (v ∷ vs) = known (slice_get kinds n) >>= copy_param n v >> copies (suc n) vs

  -- the same world, in which these hold their values
  abbrev with_values : ℕ → List Value → World → World
  with_values n us w = record w { locals = filled n us w.locals }

  -- behind this parameter
  abbrev Rest : ℕ → List Value → Type 0
  Rest n us = (w : World) → SameBut (copies n us w) (make_params unit kinds n us (with_values n us w))

  by_write : (n : ℕ) (us : List Value) → Rest (suc n) us → (w : World) (ls : List Held) → ls ≡ filled (suc n) us w.locals → (o : Outcome (List Object))
      → SameBut (after (after (as_done o w) (λ os w1. gives (tt {0}) (record w1 { objects = os }))) (λ q. copies (suc n) us))
      (after (after (as_done o (record w { locals = ls })) (λ os w1. gives (tt {0}) (record w1 { objects = os }))) (λ q. make_params unit kinds (suc n) us))
  by_write n us rest w ls e (objects.gives os) =
      subst (λ (l : List Held). SameBut (copies (suc n) us (record w { objects = os })) (make_params unit kinds (suc n) us (record w { locals = l; objects = os }))) (sym e)
      (rest (record w { objects = os }))
  by_write n us rest w ls e (objects.stops u) = ended_same (world.unsafe u) w ls
  by_write n us rest w ls e objects.lost = ended_same world.lost w ls

  by_grants : (n : ℕ) (u : Value) (us : List Value) → Rest (suc n) us → (t : Ty) (w : World) (gs : List Bool)
      → SameBut (after (make_param unit n u (t, true) (record w { grants = gs })) (λ q. copies (suc n) us)) (after (make_param unit n u (t, true) (record (with_values n (u ∷ us) w) { grants = gs })) (λ q. make_params unit kinds (suc n) us))
  by_grants n u us rest t w [] = ended_same world.ungranted (record w { grants = [] }) (filled n (u ∷ us) w.locals)
  by_grants n u us rest t w (false ∷ gs) = ended_same world.exhausted (asked gs (1 * size (shape unit.structs t)) w) (filled n (u ∷ us) w.locals)
  by_grants n u us rest t w (true ∷ gs) =
      let o : ℕ = length w.objects in
      let w0 : World = with_object (objects.new_object objects.frame (shape unit.structs t) 1) (asked gs (1 * size (shape unit.structs t)) w) in
      let w1 : World = record w0 { locals = slice_set w.locals n (object o) } in
      by_write n us rest w1 (slice_set (filled (suc n) us (slice_set w.locals n (plain u))) n (object o))
      (filled_set (suc n) us (slice_set w.locals n (plain u)) n (object o) (omega arith) ∙ ap (filled (suc n) us) (set_twice w.locals n (plain u) (object o)))
      (write w1.objects (to_object o) u)

  by_kind : (n : ℕ) (u : Value) (us : List Value) → Rest (suc n) us → (w : World) (o : Option Slot)
      → SameBut (after (after (known o w) (copy_param n u)) (λ q. copies (suc n) us)) (after (after (known o (with_values n (u ∷ us) w)) (make_param unit n u)) (λ q. make_params unit kinds (suc n) us))
  by_kind n u us rest w None = ended_same world.lost w (filled n (u ∷ us) w.locals)
  by_kind n u us rest w (Some (t, false)) = rest (record w { locals = slice_set w.locals n (plain u) })
  by_kind n u us rest w (Some (t, true)) = by_grants n u us rest t w w.grants

  pub copies_same : (n : ℕ) (us : List Value) → Rest n us
  copies_same n [] w = given_same tt w
  copies_same n (u ∷ us) w = by_kind n u us (copies_same (suc n) us) w (slice_get kinds n)

-- ---- the code of a parameter that is an object

param_is : (E : Env) (n : ℕ) (t : Ty) (s : Scalar) → scalar_of t ≡ Some s → param E.target true n t ≡ made E.target (Local n) (type_size E.target.structs t) ⨾ bare (get E.target (Local n) ∷ LocalGet n ∷ []) ⨾ one (store s)
param_is E n (integer u) s e = ap (λ (r : Scalar). made E.target (Local n) (type_size E.target.structs (integer u)) ⨾ bare (get E.target (Local n) ∷ LocalGet n ∷ []) ⨾ one (store r)) (some_is _ s e)
param_is E n (pointer u) s e = ap (λ (r : Scalar). made E.target (Local n) (type_size E.target.structs (pointer u)) ⨾ bare (get E.target (Local n) ∷ LocalGet n ∷ []) ⨾ one (store r)) (some_is _ s e)
param_is E n void s e = absurd cc
param_is E n (struct k) s e = absurd cc
param_is E n (array t k) s e = absurd cc
param_is E n (function r ps) s e = absurd cc

scalar_some : (t : Ty) → IsScalar t → (s : Scalar) × (scalar_of t ≡ Some s)
scalar_some (integer u) h = (_, refl)
scalar_some (pointer u) h = (_, refl)
scalar_some void h = absurd h
scalar_some (struct k) h = absurd h
scalar_some (array t k) h = absurd h
scalar_some (function r ps) h = absurd h

-- ---- one parameter, and all

module _ (E : Env) (hs : List Home) where
  -- the variables of these numbers are entered
  abbrev pub Copies : Code → List ℕ → Does (Unit {0}) → Type 0
  Copies c ns x =
      (n : ℕ) → HasAll E.site.funcs E.fn n (c n).seqs → (now : Now) → Starts E hs now → (vs : List Word) (r : List Item) → depth_of r ≡ E.depth → (w : World) (m : Mem) → Kept E now w m
      → Runs E.site (size_of (c n)) m (at_work E m w vs (front (c n).instrs r)) w (λ u w1 m1. at_work E m1 w1 vs r) (λ u w1 m1. Kept E (record now { visible = now.visible ++ ns }) w1 m1) (x w)

  copies_none : Copies no_code [] (pure tt)
  copies_none n has now le vs r dep w m k =
      here E.site 0 w m (λ u w1 m1. at_work E m1 w1 vs r) (λ u w1 m1. Kept E (record now { visible = now.visible ++ [] }) w1 m1) (tt {0}) (subst (λ (us : List ℕ). Kept E (record now { visible = us }) w m) (sym (append-nil now.visible)) k)

  copies_then : (a b : Code) (xs ys : List ℕ) (x y : Does (Unit {0})) → Copies a xs x → Copies b ys y → Copies (a ⨾ b) (xs ++ ys) (x >> y)
  copies_then a b xs ys x y ra rb n has now le vs r dep w m k =
      let ca = a n in
      let n' = n + length ca.seqs in
      let cb = b n' in
      let to = λ (u : Unit {0}) (w1 : World) (m1 : Mem). at_work E m1 w1 vs r in
      let R = front cb.instrs r in
      let all = λ (u : Unit {0}) (w1 : World) (m1 : Mem). Kept E (record now { visible = now.visible ++ (xs ++ ys) }) w1 m1 in
      let now1 = record now { visible = now.visible ++ xs } in
      subst (λ (q : ℕ). Runs E.site q m (at_work E m w vs (front (ca.instrs ++ cb.instrs) r)) w to all (after (x w) (λ u. y))) (size_joined ca cb)
      (subst (λ (q : List Item). Runs E.site (size_of ca + size_of cb) m (at_work E m w vs q) w to all (after (x w) (λ u. y))) (sym (front_append ca.instrs cb.instrs r))
      (bind E.site (size_of ca) (size_of cb) m (at_work E m w vs (front ca.instrs R)) w (λ u w1 m1. at_work E m1 w1 vs R) (λ u w1 m1. Kept E now1 w1 m1) to all (x w) (λ u. y)
      (ra n (has_front E.site.funcs E.fn n ca.seqs cb.seqs has) now le vs R (depth_front cb.instrs r ∙ dep) w m k)
      (λ u w1 m1 g.
      subst (λ (us : List ℕ). Runs E.site (size_of cb) m1 (at_work E m1 w1 vs R) w1 to (λ u w2 m2. Kept E (record now { visible = us }) w2 m2) (y w1)) (append_assoc now.visible xs ys)
      (rb n' (has_back E.site.funcs E.fn n ca.seqs cb.seqs has) now1 (record { below = le.below; grown = le.grown; seen = λ z e. visible_left now.visible xs z (le.seen z e); few = le.few }) vs r dep w1 m1 g))))

  module _ (x : ℕ) (t : Ty) (scalar : IsScalar t) (u : Value) (ok : IsValue E t hs u) (arg : slice_get E.args x ≡ Some (word_of E.places t hs u)) where
    -- the argument is on top
    got : (w : World) (m : Mem) (vs : List Word) (r : List Item) → Goes E.site 1 w w m (at_work E m w vs (front (LocalGet x ∷ []) r)) m (at_work E m w (word_of E.places t hs u ∷ vs) r)
    got w m vs r =
        one_here E.site w m m (LocalGet x) (frame_of E m w) vs r (thread (frame_of E m w) (word_of E.places t hs u ∷ vs) r)
        (ap (λ (o : Option Word). step.pushed (goes.store E.site m) (thread (frame_of E m w) vs r) o) (get_in E.args (locals_of E m w ++ m.temps) x (word_of E.places t hs u) arg))

    -- a parameter that is no object
    copies_plain : slice_get E.kinds x ≡ Some (t, false) → Copies (param E.target false x t) (x ∷ []) (hold (Local x) (plain u))
    copies_plain at_x n has now le vs r dep w m k =
        let to = λ (q : Unit {0}) (w1 : World) (m1 : Mem). at_work E m1 w1 vs r in
        weaker E.site 2 m (at_work E m w vs (front (LocalGet x ∷ set E.target (Local x) ∷ []) r)) w to (λ q w1 m1. Always E q × Kept E now w1 m1) (λ q w1 m1. Kept E (record now { visible = now.visible ++ x ∷ [] }) w1 m1) (hold (Local x) (plain u) w)
        (λ q w1 m1 g. kept_seen E now (now.visible ++ x ∷ []) w1.objects w1 m1 (open_plain_too E now w1 x t at_x g.1.open') g.1)
        (behind_goes E.site 1 1 w w m m (at_work E m w vs (front (LocalGet x ∷ set E.target (Local x) ∷ []) r)) (at_work E m w (word_of E.places t hs u ∷ vs) (front (set E.target (Local x) ∷ []) r)) to (λ q w1 m1. Always E q × Kept E now w1 m1) (hold (Local x) (plain u) w)
        (got w m vs (front (set E.target (Local x) ∷ []) r))
        (set_runs E x t scalar at_x hs u ok n tt now le vs r dep w m k))

    -- ---- one that is

    module _ (s : Scalar) (scalar_is : scalar_of t ≡ Some s) (at_x : slice_get E.kinds x ≡ Some (t, true)) where
      abbrev Ex : Env
      Ex = seeing (x ∷ []) E

      -- its value is written
      abbrev puts : Does (Unit {0})
      puts = place E.unit E.calls (of (Local x)) >>= (λ q. meaning.store q u)

      abbrev rest : Code
      rest = bare (get E.target (Local x) ∷ LocalGet x ∷ []) ⨾ one (store s)

      arg_runs : (gs : List Home) → Extends hs gs → OpIn Ex gs (one (LocalGet x)) same (pushes E t) (IsValue E t) (pure u)
      arg_runs gs grown n has now le vs r dep w m k ag =
          let more = extends_trans hs gs m.homes grown (extends_trans gs now.homes m.homes le.grown k.grown) in (
            m,
            (value_still E.unit.structs E.places hs m.homes more t u ok, k),
            subst (λ (us : List Word). Goes E.site 1 w w m (at_work E m w vs (front (LocalGet x ∷ []) r)) m (at_work E m w us r)) (ap (λ (q : Word). q ∷ vs) (sym (word_still E.unit.structs E.places hs m.homes more t u ok)) ∙ sym (pushed_is E.unit.structs E.places m.homes t u vs scalar))
                (got w m vs r),
          )

      puts_runs : OpIn Ex hs rest same (λ gs. gone E) (λ gs. Always E) puts
      puts_runs =
          op_then_in Ex hs (one (get E.target (Local x))) (one (LocalGet x) ⨾ one (store s)) same (spot_pushed Ex) (λ gs. gone E) (IsSpot Ex t) (λ gs. Always E) (place E.unit E.calls (of (Local x))) (λ q. meaning.store q u)
          (op_any Ex hs (one (get E.target (Local x))) same (spot_pushed Ex) (IsSpot Ex t) (place E.unit E.calls (of (Local x))) (variable_leads Ex x t at_x (visible_first x [])))
          (λ gs grown q is. by gs grown q is)
        where
          by : (gs : List Home) → Extends hs gs → (q : Spot) → IsSpot Ex t gs q → OpIn Ex gs (one (LocalGet x) ⨾ one (store s)) (spot_pushed Ex gs q) (λ js. gone E) (λ js. Always E) (meaning.store q u)
          by gs grown (variable y) is = absurd is
          by gs grown (at pv) is =
              let under : Stack = λ vs. Handle (handle gs pv) ∷ vs in
              op_then_in Ex gs (one (LocalGet x)) (one (store s)) under (λ js v vs. pushes E t js v (under vs)) (λ js. gone E) (IsValue E t) (λ js. Always E) (pure u) (λ v. meaning.store (at pv) v)
              (op_over_in Ex gs (one (LocalGet x)) same under (pushes E t) (IsValue E t) (pure u) (arg_runs gs grown))
              (λ js more v ok'.
              subst (λ (st : Stack). OpIn Ex js (one (store s)) st (λ ks. gone E) (λ ks. Always E) (alter (λ os. write os pv v))) (λ j vs. over_handle Ex t s scalar scalar_is gs js more pv v is ok' vs j)
              (op_store Ex t s scalar scalar_is js pv (lead_still Ex t s scalar scalar_is gs js more pv is) v ok'))

      -- made, and then written
      made_then : (w : World) → x < length w.locals → make_param E.unit x u (t, true) w ≡ after ((make_frame E.unit.structs t >>= (λ o. hold (Local x) (object o))) w) (λ q. puts)
      made_then w lt = by w.grants where
        by : (gs : List Bool) → make_param E.unit x u (t, true) (record w { grants = gs }) ≡ after ((make_frame E.unit.structs t >>= (λ o. hold (Local x) (object o))) (record w { grants = gs })) (λ q. puts)
        by [] = refl
        by (false ∷ gs) = refl
        by (true ∷ gs) =
            let w1 : World = with_object (objects.new_object objects.frame (shape E.unit.structs t) 1) (asked gs (1 * size (shape E.unit.structs t)) (record w { grants = true ∷ gs })) in
            let w2 : World = record w1 { locals = slice_set w.locals x (object (length w.objects)) } in
            ap (λ (h : Option Held). after (after (known h w2) (λ y. pure (spot_of (Local x) y))) (λ q. meaning.store q u)) (sym (set_there w.locals x (object (length w.objects)) lt))

      copies_object : Copies (param E.target true x t) (x ∷ []) (make_param E.unit x u (t, true))
      copies_object =
          subst (λ (c : Code). Copies c (x ∷ []) (make_param E.unit x u (t, true))) (sym (param_is E x t s scalar_is))
          (subst (λ (structs : Table). Copies (made E.target (Local x) (type_size structs t) ⨾ rest) (x ∷ []) (make_param E.unit x u (t, true))) (sym E.structs_are) both)
        where
          both : Copies (made E.target (Local x) (type_size E.unit.structs t) ⨾ rest) (x ∷ []) (make_param E.unit x u (t, true))
          both n has now le vs r dep w m k =
              let ca = made E.target (Local x) (type_size E.unit.structs t) n in
              let n' = n + length ca.seqs in
              let cb = rest n' in
              let R = front cb.instrs r in
              let to = λ (q : Unit {0}) (w1 : World) (m1 : Mem). at_work E m1 w1 vs r in
              let now1 = record now { visible = now.visible ++ x ∷ [] } in
              let all = λ (q : Unit {0}) (w1 : World) (m1 : Mem). Kept E now1 w1 m1 in
              let first = make_frame E.unit.structs t >>= (λ o. hold (Local x) (object o)) in
              let long = length_held E.unit.structs E.places E.kinds m.homes w.locals k.held in
              let within = slice_get_within E.kinds x (t, true) at_x in
              subst (λ (y : Result (Unit {0})). Runs E.site (size_of ((made E.target (Local x) (type_size E.unit.structs t) ⨾ rest) n)) m (at_work E m w vs (front (ca.instrs ++ cb.instrs) r)) w to all y) (sym (made_then w (omega (arith, long, within))))
              (subst (λ (q : ℕ). Runs E.site q m (at_work E m w vs (front (ca.instrs ++ cb.instrs) r)) w to all (after (first w) (λ q. puts))) (size_joined ca cb)
              (subst (λ (q : List Item). Runs E.site (size_of ca + size_of cb) m (at_work E m w vs q) w to all (after (first w) (λ q. puts))) (sym (front_append ca.instrs cb.instrs r))
              (bind E.site (size_of ca) (size_of cb) m (at_work E m w vs (front ca.instrs R)) w (λ q w1 m1. at_work E m1 w1 vs R) (λ q w1 m1. Kept E now1 w1 m1 × (m1.temps ≡ m.temps)) to all (first w) (λ q. puts)
              (enters_object E x t at_x (E.objects_are x t at_x) now w m k vs n R (has_front E.site.funcs E.fn n ca.seqs cb.seqs has))
              (λ q w1 m1 g.
              weaker E.site (size_of cb) m1 (at_work E m1 w1 vs R) w1 to (GoodIn Ex (λ gs. Always E) now1) all (puts w1) (λ z w2 m2 h. h.1)
              (puts_runs n' (has_back E.site.funcs E.fn n ca.seqs cb.seqs has) now1 (record { below = le.below; grown = le.grown; seen = λ z e. visible_right now.visible (x ∷ []) z e; few = le.few }) vs r dep w1 m1 g.0)))))

  -- these parameters, from the n-th on, have these arguments
  abbrev pub AreArgs : ℕ → Tys → List Value → Type 0
  AreArgs n no_types [] = Unit {0}
  AreArgs n (types t ts) (u ∷ us) = (IsScalar t × IsValue E t hs u × (slice_get E.args n ≡ Some (word_of E.places t hs u)) × (slice_get E.slots n ≡ Some t)) × AreArgs (suc n) ts us
  AreArgs n _ _ = ⊥

  copies_one : (x : ℕ) (t : Ty) → IsScalar t → (u : Value) → IsValue E t hs u → slice_get E.args x ≡ Some (word_of E.places t hs u) → slice_get E.slots x ≡ Some t
      → Copies (param E.target (E.target.is_object (Local x)) x t) (x ∷ []) (known (slice_get E.kinds x) >>= copy_param E.unit E.kinds x u)
  copies_one x t scalar u ok arg e = by (E.target.is_object (Local x)) refl where
    known_as : (b : Bool) → E.target.is_object (Local x) ≡ b → slice_get E.kinds x ≡ Some (t, b)
    known_as b q = E.kinds_are x t e ∙ ap (λ (c : Bool). Some (t, c)) q

    by : (b : Bool) → E.target.is_object (Local x) ≡ b → Copies (param E.target b x t) (x ∷ []) (known (slice_get E.kinds x) >>= copy_param E.unit E.kinds x u)
    by true q =
        let s = scalar_some t scalar in
        subst (λ (o : Option Slot). Copies (param E.target true x t) (x ∷ []) (known o >>= copy_param E.unit E.kinds x u)) (sym (known_as true q)) (copies_object x t scalar u ok arg s.0 s.1 (known_as true q))
    by false q = subst (λ (o : Option Slot). Copies (param E.target false x t) (x ∷ []) (known o >>= copy_param E.unit E.kinds x u)) (sym (known_as false q)) (copies_plain x t scalar u ok arg (known_as false q))

  pub copies_all : (n : ℕ) (ps : Tys) (us : List Value) → AreArgs n ps us → Copies (params_from E.target n (list_of ps)) (numbers_from n us) (copies E.unit E.kinds n us)
  copies_all n no_types [] a = copies_none
  copies_all n (types t ts) (u ∷ us) a =
      copies_then (param E.target (E.target.is_object (Local n)) n t) (params_from E.target (suc n) (list_of ts)) (n ∷ []) (numbers_from (suc n) us) (known (slice_get E.kinds n) >>= copy_param E.unit E.kinds n u) (copies E.unit E.kinds (suc n) us)
      (copies_one n t a.0.0 u a.0.1 a.0.2 a.0.3) (copies_all (suc n) ts us a.1)
  copies_all n no_types (u ∷ us) a = absurd a
  copies_all n (types t ts) [] a = absurd a

  -- arguments that stand in front
  abbrev pub AreScalarsOf : Tys → Type 0
  AreScalarsOf no_types = Unit {0}
  AreScalarsOf (types t ts) = IsScalar t × AreScalarsOf ts

  pub args_from : (pre : List Word) (n : ℕ) (ps : Tys) (us : List Value) (ts : List Ty) → length pre ≡ n → E.args ≡ pre ++ arg_words E hs ps us → ((x : ℕ) (t : Ty) → slice_get (list_of ps ++ ts) x ≡ Some t → slice_get E.slots (n + x) ≡ Some t)
      → AreOf E ps hs us → AreScalarsOf ps → AreArgs n ps us
  args_from pre n no_types [] ts len e slots ok sc = tt
  args_from pre n (types t ps) (u ∷ us) ts len e slots ok sc = (
    (
      sc.0,
      ok.0,
      ap (λ (ws : List Word). slice_get ws n) e ∙ ap (λ (k : ℕ). slice_get (pre ++ (word_of E.places t hs u ∷ arg_words E hs ps us)) k) (let z : n ≡ length pre + 0 = omega (arith, len) in z) ∙ get_behind pre (word_of E.places t hs u ∷ arg_words E hs ps us) 0,
      (let z : n + 0 ≡ n = omega arith in ap (slice_get E.slots) (sym z) ∙ slots 0 t refl),
    ),
    args_from (pre ++ word_of E.places t hs u ∷ []) (suc n) ps us ts (let a = length-append pre (word_of E.places t hs u ∷ []) in omega (arith, a, len)) (e ∙ sym (append_assoc pre (word_of E.places t hs u ∷ []) (arg_words E hs ps us)))
        (λ x s h. let z : suc n + x ≡ n + suc x = omega arith in ap (slice_get E.slots) z ∙ slots (suc x) s h) ok.1 sc.1,
  )
  args_from pre n no_types (u ∷ us) ts len e slots ok sc = absurd ok
  args_from pre n (types t ps) [] ts len e slots ok sc = absurd ok
