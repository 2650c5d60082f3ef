-- The bodies of functions are typed, and so is that of the start function.
use Rattle.std.proofs.Common.{◌≡◌, ℕ, zero, suc, ◌+◌, ◌<◌, ◌≤◌, List, [], ◌∷◌, ◌++◌, length, Bool, true, false, Option, Some, None, sym, arith, subst}
use Rattle.std.specs.List.{All}
use Rattle.std.proofs.lemmas.List.Elements.{All-head, All-tail}
use Rattle.std.proofs.lemmas.Option.{slice_get-get_or}
use Rattle.std.specs.Prelude.{slice_get, get_or, cond, max, ◌||◌, ◌==◌}
use Rattle.ms_types.specs.declared.types.ValType.{ValType}
use Rattle.ms_module.specs.declared.access.Segment.TheVariants as segment
use Rattle.ms_module.specs.declared.instr.Instr.{Instr}
use Rattle.ms_rules.specs.Context.{Context}
use Rattle.ms_rules.specs.Typing.{Typed, types}
use Rattle.c_types.specs.declared.types.Scalar.{Scalar}
use Rattle.c_types.specs.declared.types.Scalar.TheVariants as scalars
use Rattle.c_types.specs.Layout.{size, Table}
use Rattle.c_types.specs.Types.{Ty, void, integer, struct, pointer, array, function, Tys, is_function, scalar_of}
use Rattle.c_typed.specs.declared.ops.Variable.{Variable}
use Rattle.c_typed.specs.declared.ops.Variable.TheVariants.{Local, Global}
use Rattle.c_typed.specs.Objects as objects
use Rattle.c_typed.specs.Tree as tree
use Rattle.c_typed.specs.Tree.{Function, Made, Stmt}
use Rattle.c_typed.specs.refinement.Expressions as well
use Rattle.c_typed.specs.Statements.{IsStatement, no_jumps}
use Rattle.c_typed.specs.Units.{IsGiven, IsMade, list_of, literals_in, numbers, variables_in}
use Rattle.c_meaning.specs.Units.{in_made, in_values, string}
use Rattle.ms_emit.specs.Codes.{Code, inner, no_code, ◌⨾◌}
use Rattle.c_code.specs.Functions.{body, gives, held_as, makes, param, params, params_from, result, start, values}
use Rattle.c_code.specs.Modules.{waits_made, waits_values}
use Rattle.c_code.specs.Operations.{val_of, val_option}
use Rattle.c_code.specs.Statements.{at_body, made, objects_in, stmt, freed}
use Rattle.c_code.specs.Targets.{Target}
use Rattle.c_code.specs.Uses as uses
use Rattle.c_typing.proofs.Names.{Each, Fits, Holds, of_stmt, IsNamed, Names, each_back, each_front, or_left, or_right, each_append, TypeOf}
use Rattle.c_typing.proofs.Sound.{AreSoundNames, HasScalar}
use Rattle.c_typing.proofs.Steps.{get_step, local_get, segment_step, set_step, store_step, zero_step}
use Rattle.c_typing.proofs.Stmts.{HasHandle, Leaves, filled_goes, freed_goes, made_goes, objects_hold, stmt_goes}
use Rattle.c_typing.proofs.Typing.{Goes, Labels, none, does, end, stands, ◌▸◌, ◌▹◌}

-- code that leaves its result is a body that is typed
body_is : (c : Context) (code : Code) (k : Option ValType) → Goes c (inner (code 1)) (k ∷ []) code [] (types k)
    → Typed c (inner (code 1)) (k ∷ []) 0 k
body_is c code k g = let b = inner (code 1) in let st = stands [] b in (suc (length b), g.typed 1 (length b) (omega arith) st.2)

pub each_below : (m n : ℕ) → m ≤ n → Each (λ x. x < n) (numbers m)
each_below zero n le = tt
each_below (suc m) n le = each_append (λ x. x < n) (numbers m) (m ∷ [])
    (each_below m n (omega (arith, le))) (omega (arith, le), tt)

-- where nothing can be left
nowhere : {c : Context} {body : List (List Instr)} {ls : Labels} (t : Target) (vs : List Variable) → Each (HasHandle c t) vs
    → Leaves c body t ls (at_body vs) no_jumps
nowhere t vs h = record { objects = h; breaks = λ e. absurd cc; continues = λ e. absurd cc; leaving = λ ls' ts. none }

-- ---- parameters

abbrev pub ParamsHeld : Context → Target → ℕ → List Ty → Type 0
ParamsHeld c t n [] = Unit {0}
ParamsHeld c t n (u ∷ us) = (slice_get c.locals n ≡ Some (held_as false u)) × Holds c t (Local n)
    (held_as (t.is_object (Local n)) u) × HasScalar u × ParamsHeld c t (suc n) us

module _ {c : Context} {body : List (List Instr)} {ls : Labels} (t : Target) where
  stored_goes : (n : ℕ) (u : Ty) → HasScalar u → slice_get c.locals n ≡ Some (held_as false u) → HasHandle c t (Local n)
      → Goes c body ls (param t true n u) [] []
  stored_goes n (integer i) s at h = made_goes t (Local n) (size t.structs (integer i)) [] h ▹ does
      (get_step t (Local n) h ▸ local_get at ▸ end) ▹ does (store_step (scalars.Int i) ▸ end)
  stored_goes n (pointer q) s at h =
      made_goes t (Local n) (size t.structs (pointer q)) [] h ▹ does (get_step t (Local n) h ▸ local_get at ▸ end)
      ▹ does (store_step (cond (is_function q) scalars.Function scalars.Pointer) ▸ end)
  stored_goes n void s at h = absurd (let e = s.1 in cc)
  stored_goes n (struct i) s at h = absurd (let e = s.1 in cc)
  stored_goes n (array q i) s at h = absurd (let e = s.1 in cc)
  stored_goes n (function r ps) s at h = absurd (let e = s.1 in cc)

  param_goes : (b : Bool) (n : ℕ) (u : Ty) → HasScalar u → slice_get c.locals n ≡ Some (held_as false u)
      → Holds c t (Local n) (held_as b u) → Goes c body ls (param t b n u) [] []
  param_goes true n u s at h = stored_goes n u s at h
  param_goes false n u s at h = does (local_get at ▸ set_step t (Local n) h ▸ end)

  params_from_goes : (n : ℕ) (us : List Ty) → ParamsHeld c t n us → Goes c body ls (params_from t n us) [] []
  params_from_goes n [] h = none
  params_from_goes n (u ∷ us) h = param_goes (t.is_object (Local n)) n u h.2 h.0 h.1 ▹ params_from_goes (suc n) us h.3

  params_goes : (us : List Ty) → ParamsHeld c t 0 us → Goes c body ls (params t us) [] []
  params_goes us h = by (t.first == 0) where
    by : (b : Bool) → Goes c body ls (cond b no_code (params_from t 0 us)) [] []
    by true = none
    by false = params_from_goes 0 us h

  result_goes : (o : Option Scalar) → Goes c body ls (result t o) [] (types (val_option o))
  result_goes None = none
  result_goes (Some s) = does (zero_step s ▸ end)

-- ---- the body of a function

module _ (c : Context) (t : Target) (waits : ℕ) (structs : Table) (globals slots functions : List Ty)
    (literals : ℕ) (names : Names c t globals slots literals waits) (sound : AreSoundNames structs globals slots functions) where
  pub body_typed : (f : Function) (s : Stmt) (r : Ty) (ps : Tys) → f.ty ≡ function r ps → f.slots ≡ slots
      → length (list_of ps) ≤ length slots → c.returns ≡ Some (val_of r) → ParamsHeld c t 0 (list_of ps)
      → IsStatement (record {
        structs = structs;
        globals = globals;
        literals = literals;
        functions = functions;
        slots = slots;
        visible = numbers (length (list_of ps));
      }) r no_jumps s
      → Fits c t globals slots functions waits 0 (of_stmt s) → Typed c (body t f s) (val_of r ∷ []) 0 (val_of r)
  body_typed f s r ps is_ty is_slots le returns held well fit =
      let k = length (list_of ps) in
      let vs = objects_in t slots (numbers k) in
      let code : Code = params t (list_of ps) ⨾ stmt t slots 0
      (at_body vs) s ⨾ freed t vs ⨾ result t (scalar_of r) in
      let below = each_below k (length slots) le in
      let ls = val_of r ∷ [] in
      let b = inner (code 1) in
      let hold = objects_hold c b ls t names (numbers k) below in
      subst (λ (q : List Ty). Typed c (of_type f.ty q) ls 0 (val_of r)) (sym is_slots)
      (subst (λ (q : Ty). Typed c (of_type q slots) ls 0 (val_of r)) (sym is_ty) (body_is c code (val_of r)
      (params_goes t (list_of ps) held ▹ stmt_goes c b t waits r returns structs globals slots functions literals names sound ls
      (numbers k) 0 (at_body vs) no_jumps (nowhere t vs hold) s well fit []
      ▹ freed_goes t vs [] hold ▹ result_goes t (scalar_of r))))
    where
      of_type : Ty → List Ty → List (List Instr)
      of_type q us = body t (record f { ty = q; slots = us }) s

  -- ---- before `main`

  makes_goes : {bd : List (List Instr)} {ls : Labels} (k : ℕ) (ms : List Made) → Each (λ n. n < length globals) (variables_in ms)
      → k + literals_in ms ≤ literals → Goes c bd ls (makes t globals k ms) [] []
  makes_goes k [] h le = none
  makes_goes {bd} {ls} k (tree.global n ss ∷ ms) h le = by (t.is_object (Global n))
      (names.variable (Global n) (get_or globals n void) (slice_get-get_or globals n void h.0)) ▹ makes_goes k ms h.1 le where
        by : (b : Bool) → Holds c t (Global n) (held_as b (get_or globals n void))
            → Goes c bd ls (cond b (made t (Global n) (size t.structs (get_or globals n void))) no_code) [] []
        by true q = made_goes t (Global n) (size t.structs (get_or globals n void)) [] q
        by false q = none
  makes_goes k (tree.text bytes ∷ ms) h le = made_goes t (Global (t.globals + k)) (size t.structs (string bytes)) []
      (names.literal k (omega (arith, le))) ▹ makes_goes (suc k) ms h (omega (arith, le))

-- What is made before `main`: its uses are named, the variables under its `&` are objects, and so many values wait.
pub record FitsValues (c : Context) (t : Target) (functions : List Ty) (waits : ℕ) (us : List uses.Use) (under : ℕ → Bool)
    (n : ℕ) : Type 0 where
  pub uses : Each (IsNamed c t functions) us
  pub objects : (m : ℕ) → under m ≡ true → t.is_object (Global m) ≡ true
  pub least : n ≤ waits

module _ (c : Context) (t : Target) (functions : List Ty) (waits : ℕ) where
  first_values : (us vs : List uses.Use) (f g : ℕ → Bool) (m n : ℕ)
      → FitsValues c t functions waits (us ++ vs) (λ v. f v || g v) (max m n) → FitsValues c t functions waits us f m
  first_values us vs f g m n h = record {
    uses = each_front (IsNamed c t functions) us vs h.uses;
    objects = λ v e. h.objects v (or_left (f v) (g v) e);
    least = let l = h.least in omega (arith, l);
  }

  second_values : (us vs : List uses.Use) (f g : ℕ → Bool) (m n : ℕ)
      → FitsValues c t functions waits (us ++ vs) (λ v. f v || g v) (max m n) → FitsValues c t functions waits vs g n
  second_values us vs f g m n h = record {
    uses = each_back (IsNamed c t functions) us vs h.uses;
    objects = λ v e. h.objects v (or_right (f v) (g v) e);
    least = let l = h.least in omega (arith, l);
  }

module _ (u : tree.Typed) (c : Context) (t : Target) (waits : ℕ) (returns : c.returns ≡ Some None)
    (structs : Table) (globals functions : List Ty) (literals : ℕ)
    (names : Names c t globals [] literals waits) (sound : AreSoundNames structs globals [] functions) where
  abbrev Here : well.Context
  Here = record { structs = structs; globals = globals; literals = literals; functions = functions; slots = []; visible = [] }

  fits_alone : (s : Stmt) → FitsValues c t functions waits (uses.in_stmt s) (λ n. objects.in_stmt (Global n) s)
      (uses.waits_stmt s) → Fits c t globals [] functions waits 0 (of_stmt s)
  fits_alone s h = record { uses = h.uses; objects = by; least = let l = h.least in omega (arith, l) } where
    by : (v : Variable) (u : Ty) → TypeOf globals [] v u → objects.in_stmt v s ≡ true
        → t.is_object v ≡ true
    by (Local n) u at e = absurd cc
    by (Global n) u at e = h.objects n e

  value_goes : (bd : List (List Instr)) (ls : Labels) (s : Stmt) → IsGiven Here s
      → FitsValues c t functions waits (uses.in_stmt s) (λ n. objects.in_stmt (Global n) s) (uses.waits_stmt s)
      → Goes c bd ls (stmt t [] 0 (at_body []) s) [] []
  value_goes bd ls (tree.perform e) g h = stmt_goes c bd t waits void returns structs globals
      [] functions literals names sound ls [] 0 (at_body []) no_jumps (nowhere t [] tt) (tree.perform e) g
      (fits_alone (tree.perform e) h) []
  value_goes bd ls (tree.fill p n bs) g h = stmt_goes c bd t waits void returns structs globals
      [] functions literals names sound ls [] 0 (at_body []) no_jumps (nowhere t [] tt) (tree.fill p n bs) g
      (fits_alone (tree.fill p n bs) h) []
  value_goes bd ls tree.nothing g h = absurd g
  value_goes bd ls (tree.if_else e a b) g h = absurd g
  value_goes bd ls (tree.loop e a b) g h = absurd g
  value_goes bd ls (tree.do_while a b) g h = absurd g
  value_goes bd ls (tree.switch a b e f i) g h = absurd g
  value_goes bd ls (tree.scope a b) g h = absurd g
  value_goes bd ls (tree.return e) g h = absurd g
  value_goes bd ls tree.return_nothing g h = absurd g
  value_goes bd ls tree.break g h = absurd g
  value_goes bd ls tree.continue g h = absurd g

  values_goes : (bd : List (List Instr)) (ls : Labels) (ss : List Stmt) → All (IsGiven Here) ss
      → FitsValues c t functions waits (uses.in_values ss) (λ n. in_values n ss) (waits_values u ss)
      → Goes c bd ls (values t ss) [] []
  values_goes bd ls [] g h = none
  values_goes bd ls (s ∷ ss) g h =
      value_goes bd ls s (All-head (IsGiven Here) s ss g) (first_values c t functions waits (uses.in_stmt s) (uses.in_values ss)
      (λ n. objects.in_stmt (Global n) s) (λ n. in_values n ss) (uses.waits_stmt s) (waits_values u ss) h)
      ▹ values_goes bd ls ss (All-tail (IsGiven Here) s ss g)
      (second_values c t functions waits (uses.in_stmt s) (uses.in_values ss) (λ n. objects.in_stmt (Global n) s)
      (λ n. in_values n ss) (uses.waits_stmt s) (waits_values u ss) h)

  gives_goes : (bd : List (List Instr)) (ls : Labels) (k : ℕ) (ms : List Made) → All (IsMade Here) ms
      → k + literals_in ms ≤ literals → FitsValues c t functions waits (uses.in_made ms) (λ n. in_made n ms) (waits_made u ms)
      → Goes c bd ls (gives t k ms) [] []
  gives_goes bd ls k [] g le h = none
  gives_goes bd ls k (tree.global n ss ∷ ms) g le h =
      values_goes bd ls ss (All-head (IsMade Here) (tree.global n ss) ms g).0
      (first_values c t functions waits (uses.in_values ss) (uses.in_made ms) (λ m. in_values m ss) (λ m. in_made m ms)
      (waits_values u ss) (waits_made u ms) h)
      ▹ gives_goes bd ls k ms (All-tail (IsMade Here) (tree.global n ss) ms g) le
      (second_values c t functions waits (uses.in_values ss) (uses.in_made ms) (λ m. in_values m ss) (λ m. in_made m ms)
      (waits_values u ss) (waits_made u ms) h)
  gives_goes bd ls k (tree.text bytes ∷ ms) g le h =
      let v = Global (t.globals + k) in
      let at = names.literal k (omega (arith, le)) in
      filled_goes c bd ls t names bytes [] (does (get_step t v at ▸ end))
      ▹ does (get_step t v at ▸ segment_step segment.Seal [] ▸ set_step t v at ▸ end)
      ▹ gives_goes bd ls (suc k) ms (All-tail (IsMade Here) (tree.text bytes) ms g) (omega (arith, le))
      (record { uses = h.uses; objects = h.objects; least = h.least })

  pub start_typed : (ms : List Made) → All (IsMade Here) ms → literals_in ms ≤ literals
      → Each (λ n. n < length globals) (variables_in ms) → FitsValues c t functions waits (uses.in_made ms) (λ n. in_made n ms)
      (waits_made u ms)
      → Typed c (start t globals ms) (None ∷ []) 0 None
  start_typed ms g le h fit =
      let code : Code = makes t globals 0 ms ⨾ gives t 0 ms in
      body_is c code None (makes_goes c t waits structs globals [] functions literals names sound 0 ms h (omega (arith, le))
      ▹ gives_goes (inner (code 1)) (None ∷ []) 0 ms g (omega (arith, le)) fit)
