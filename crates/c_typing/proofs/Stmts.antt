-- The code of well-typed statements is well typed, and leaves the operands as they were.
use Rattle.std.proofs.Common.{◌≡◌, ℕ, zero, suc, ◌<◌, List, [], ◌∷◌, ◌++◌, length, Bool, true, false, Option, Some, None, refl, ap, ◌∙◌, arith}
use Rattle.std.proofs.lemmas.Option.{slice_get-get_or}
use Rattle.std.specs.Prelude.{slice_get, get_or, cond, map, filter, take}
use Rattle.ms_handle.specs.declared.handle.Kind.TheVariants as kinds
use Rattle.ms_types.specs.declared.types.ValType.{ValType}
use Rattle.ms_types.specs.declared.types.ValType.TheVariants as vals
use Rattle.ms_module.specs.declared.access.Segment.TheVariants as segment
use Rattle.ms_module.specs.declared.access.StoreOp.TheVariants as stores
use Rattle.ms_module.specs.declared.instr.Instr.{Instr}
use Rattle.ms_module.specs.declared.numeric.Width.{Width}
use Rattle.ms_module.specs.declared.numeric.Width.TheVariants.{W32, W64}
use Rattle.ms_rules.specs.Context.{Context}
use Rattle.ms_rules.specs.Typing.{types}
use Rattle.c_types.specs.declared.integers.IntType.{IntType}
use Rattle.c_types.specs.declared.integers.IntType.TheVariants.{Char}
use Rattle.c_types.specs.declared.types.Scalar.{Scalar}
use Rattle.c_types.specs.Layout.{size, Table}
use Rattle.c_types.specs.Types.{Ty, void, integer, array, scalar_of}
use Rattle.c_typed.specs.declared.ops.Variable.{Variable}
use Rattle.c_typed.specs.declared.ops.Variable.TheVariants.{Local}
use Rattle.c_typed.specs.declared.tree.Case.{Case}
use Rattle.c_typed.specs.Objects as objects
use Rattle.c_typed.specs.Tree as tree
use Rattle.c_typed.specs.Tree.{Place, Expr, Stmt, perform, fill, if_else, loop, do_while, switch, scope, return, return_nothing, break, continue, Stmts, done, seq}
use Rattle.c_typed.specs.declared.jumps.Jumps.{Jumps}
use Rattle.c_typed.specs.refinement.Expressions as well
use Rattle.c_typed.specs.refinement.Expressions.{IsCondition, opened}
use Rattle.c_typed.specs.Statements as well_stmts
use Rattle.c_typed.specs.Statements.{AreNew, AreStatements, IsStatement, IsStep, count}
use Rattle.c_meaning.specs.Integers.{value_of}
use Rattle.ms_emit.specs.Codes.{Code}
use Rattle.c_code.specs.Expressions.{expr, is_deref, step}
use Rattle.c_code.specs.Functions.{held_as, val_or_handle}
use Rattle.c_code.specs.Operations.{integer_type, val_of, val_option, width_of}
use Rattle.c_code.specs.Statements.{Exits, bytes_put, chosen, continues, entered, enters, filled, freed, groups, in_group, in_loop, iterated, made, objects_in, stmt, stmts, with_objects, within, zeroed}
use Rattle.c_code.specs.Targets.{Target, scratch_of_width, waiting}
use Rattle.c_code.specs.Uses as uses
use Rattle.c_typing.proofs.Exprs.{FitE, FitsIn, as_narrow, expr_goes, memory_of, place_goes}
use Rattle.c_typing.proofs.Names.{Each, Holds, of_expr, of_stmt, of_stmts, ◌⊕◌, IsNamed, Names, each_append, each_back, each_front, first, or_left, or_right, second}
use Rattle.c_typing.proofs.Parts.{decayed_goes, new_frame_goes}
use Rattle.c_typing.proofs.Sound.{AreSoundNames}
use Rattle.c_typing.proofs.Steps.{br_if_step, br_step, constant_step, get_step, i32_step, i64_step, local_get, local_set, rel_step, return_step, segment_step, select_step, set_step, tee_goes, unreachable_step, zero_step}
use Rattle.c_typing.proofs.Typing.{Goes, Labels, none, does, end, in_block, in_choice, in_repeat, ◌▸◌, ◌▹◌}

pub each_take : {A : Type 0} (P : A → Type 0) (n : ℕ) (xs : List A) → Each P xs → Each P (take n xs)
each_take P zero xs h = tt
each_take P (suc n) [] h = tt
each_take P (suc n) (x ∷ xs) h = (h.0, each_take P n xs h.1)

new_below : (k : well.Context) (ns : List ℕ) → AreNew k ns → Each (λ n. n < length k.slots) ns
new_below k [] h = tt
new_below k (n ∷ ns) h = (h.0, new_below (opened k (n ∷ [])) ns h.2)

module _ (c : Context) (t : Target) where
  -- its local or global has a handle
  abbrev pub HasHandle : Variable → Type 0
  HasHandle v = Holds c t v vals.Handle

module _ {c : Context} {body : List (List Instr)} {ls : Labels} (t : Target) where
  -- ---- objects of blocks

  pub freed_goes : (vs : List Variable) (ts : List ValType) → Each (HasHandle c t) vs → Goes c body ls (freed t vs) ts ts
  freed_goes [] ts h = none
  freed_goes (v ∷ vs) ts h = does (get_step t v h.0 ▸ segment_step (segment.Free kinds.Frame) ts ▸ end) ▹ freed_goes vs ts h.1

  pub made_goes : (v : Variable) (n : ℕ) (ts : List ValType) → HasHandle c t v → Goes c body ls (made t v n) ts ts
  made_goes v n ts h = new_frame_goes n ts ▹ tee_goes t v h ▹ does (segment_step segment.IsNull ts ▸ end) ▹ in_choice {k = None}
      (does (unreachable_step ▸ end)) none

  zeroed_goes : (v : Variable) (o : Option Scalar) (ts : List ValType) → Holds c t v (val_or_handle (val_option o))
      → Goes c body ls (zeroed t v o) ts ts
  zeroed_goes v None ts h = none
  zeroed_goes v (Some s) ts h = does (zero_step s ▸ set_step t v h ▸ end)

  entered_goes : (b : Bool) (v : Variable) (u : Ty) (ts : List ValType) → Holds c t v (held_as b u)
      → Goes c body ls (entered t b v u) ts ts
  entered_goes true v u ts h = made_goes v (size t.structs u) ts h
  entered_goes false v u ts h = zeroed_goes v (scalar_of u) ts h

module _ (c : Context) (body : List (List Instr)) (ls : Labels) (t : Target) {globals slots : List Ty} {literals waits : ℕ}
    (names : Names c t globals slots literals waits) where
  pub enters_goes : (ns : List ℕ) (ts : List ValType) → Each (λ n. n < length slots) ns → Goes c body ls (enters t slots ns) ts ts
  enters_goes [] ts h = none
  enters_goes (n ∷ ns) ts h =
      entered_goes t (t.is_object (Local n)) (Local n) (get_or slots n void) ts
      (names.variable (Local n) (get_or slots n void) (slice_get-get_or slots n void h.0)) ▹ enters_goes ns ts h.1

  pub objects_hold : (ns : List ℕ) → Each (λ n. n < length slots) ns → Each (HasHandle c t) (objects_in t slots ns)
  objects_hold [] h = tt
  objects_hold (n ∷ ns) h = by (t.is_object (Local n))
      (names.variable (Local n) (get_or slots n void) (slice_get-get_or slots n void h.0)) (objects_hold ns h.1) where
        rest : List ℕ
        rest = filter (λ m. t.is_object (Local m)) ns

        by : (b : Bool) → Holds c t (Local n) (held_as b (get_or slots n void)) → Each (HasHandle c t) (map Local rest)
            → Each (HasHandle c t) (map Local (cond b (n ∷ rest) rest))
        by true q g = (q, g)
        by false q g = g

  bytes_goes : (i : ℕ) (bs : List ℕ) (ts : List ValType) → Goes c body ls (bytes_put t i bs) ts ts
  bytes_goes i [] ts = none
  bytes_goes i (b ∷ bs) ts =
      does (local_get names.handle ▸ i64_step ▸ segment_step (segment.Add 1) ts ▸ i32_step ▸ segment_step
      (segment.Store stores.I32Store8) ts ▸ end) ▹ bytes_goes (suc i) bs ts

  pub filled_goes : {p : Code} (bs : List ℕ) (ts : List ValType) → Goes c body ls p ts (vals.Handle ∷ ts)
      → Goes c body ls (filled t p bs) ts ts
  filled_goes bs ts g = g ▹ does (local_set names.handle ▸ end) ▹ bytes_goes 0 bs ts

  -- ---- switches

  chosen_goes : (u : IntType) (x : ℕ) (cs : List Case) (ts : List ValType)
      → slice_get c.locals x ≡ Some (integer_type (width_of u)) → Goes c body ls (chosen t u x cs) (vals.I32 ∷ ts) (vals.I32 ∷ ts)
  chosen_goes u x [] ts e = none
  chosen_goes u x (case ∷ cs) ts e = by case.label (chosen_goes u x cs ts e) where
    by : (l : Option ℕ) → Goes c body ls (chosen t u x cs) (vals.I32 ∷ ts) (vals.I32 ∷ ts)
        → Goes c body ls (chosen t u x (record { group = case.group; label = l } ∷ cs)) (vals.I32 ∷ ts) (vals.I32 ∷ ts)
    by None g = none ▹ g
    by (Some n) g = does (i32_step ▸ local_get e ▸ constant_step (width_of u) (value_of u n) ▸ rel_step
        (width_of u) ▸ select_step ▸ end) ▹ g

-- ---- loops

abbrev inside_loop : Bool → Labels → Labels
inside_loop false ls = None ∷ ls
inside_loop true ls = None ∷ None ∷ ls

iterated_goes : {c : Context} {body : List (List Instr)} {ls : Labels} (t : Target) (b : Bool) {s after test : Code}
    (ts : List ValType) → Goes c body (inside_loop b ls) s [] [] → Goes c body (None ∷ ls) after [] []
    → Goes c body (None ∷ ls) test [] (vals.I32 ∷ []) → Goes c body ls (iterated t b s after test) ts ts
iterated_goes t false ts gs ga gt = in_repeat {k = None} (gs ▹ ga ▹ gt ▹ does (br_if_step refl ▸ end))
iterated_goes t true ts gs ga gt = in_repeat {k = None} (in_block {k = None} gs ▹ ga ▹ gt ▹ does (br_if_step refl ▸ end))

-- ---- ways out

pub record Leaves (c : Context) (body : List (List Instr)) (t : Target) (ls : Labels) (x : Exits) (j : Jumps) : Type 0 where
  pub objects : Each (HasHandle c t) x.objects
  pub breaks : j.breaks ≡ true → slice_get ls x.break_label ≡ Some None
  pub continues : j.continues ≡ true → slice_get ls x.continue_label ≡ Some None
  pub leaving : (ls' : Labels) (ts : List ValType) → Goes c body ls' x.leaving ts ts

module _ {c : Context} {body : List (List Instr)} {t : Target} {ls : Labels} {x : Exits} {j : Jumps}
    (h : Leaves c body t ls x j) where
  leaves_within : Leaves c body t (None ∷ ls) (within x) j
  leaves_within = record { objects = h.objects; breaks = h.breaks; continues = h.continues; leaving = h.leaving }

  leaves_with : (vs : List Variable) → Each (HasHandle c t) vs → Leaves c body t ls (with_objects vs x) j
  leaves_with vs e = record {
    objects = each_append (HasHandle c t) vs x.objects e h.objects;
    breaks = h.breaks;
    continues = h.continues;
    leaving = h.leaving;
  }

  leaves_in_loop : (b : Bool) → Leaves c body t (inside_loop b (None ∷ ls)) (in_loop b x) well_stmts.in_loop
  leaves_in_loop true = record { objects = h.objects; breaks = λ e. refl; continues = λ e. refl; leaving = λ ls' ts. none }
  leaves_in_loop false = record { objects = h.objects; breaks = λ e. refl; continues = λ e. refl; leaving = λ ls' ts. none }

  leaves_group : (w : ℕ) → slice_get c.locals w ≡ Some vals.I32
      → Leaves c body t (None ∷ ls) (in_group w x) (well_stmts.in_switch j)
  leaves_group w e = record {
    objects = h.objects;
    breaks = λ q. refl;
    continues = h.continues;
    leaving = λ ls' ts. does
        (i32_step ▸ local_set e ▸ end);
  }

module _ (c : Context) (body : List (List Instr)) (t : Target) (waits : ℕ) (r : Ty) (returns : c.returns ≡ Some (val_of r)) where
  abbrev pub Fit : well.Context → ℕ → Stmt → Type 0
  Fit k d s = FitsIn c t k waits d (of_stmt s)

  abbrev pub FitAll : well.Context → ℕ → Stmts → Type 0
  FitAll k d ss = FitsIn c t k waits d (of_stmts ss)

  abbrev FitStep : well.Context → ℕ → Option Expr → Type 0
  FitStep k d None = Unit {0}
  FitStep k d (Some e) = FitE c t k waits d e

  in_loop_fits : (k : well.Context) (d : ℕ) (e : Expr) (after : Option Expr) (s : Stmt) → Fit k d (loop e after s)
      → FitE c t k waits d e × FitStep k d after × Fit k d s
  in_loop_fits k d e None s x =
      let y : FitsIn c t k waits d (of_expr e ⊕ of_stmt s) =
      record { uses = x.uses; objects = x.objects; least = let l = x.least in omega (arith, l) } in
      (first (of_expr e) (of_stmt s) y, tt, second (of_expr e) (of_stmt s) y)
  in_loop_fits k d e (Some a) s x =
      let y = second (of_expr e) (of_expr a ⊕ of_stmt s) x in (
        first (of_expr e) (of_expr a ⊕ of_stmt s) x,
        first (of_expr a) (of_stmt s) y,
        second (of_expr a) (of_stmt s) y,
      )

  module _ (structs : Table) (globals slots functions : List Ty) (literals : ℕ)
      (names : Names c t globals slots literals waits) (sound : AreSoundNames structs globals slots functions) where
    -- where these variables are visible
    abbrev pub At : List ℕ → well.Context
    At visible = record {
      structs = structs;
      globals = globals;
      literals = literals;
      functions = functions;
      slots = slots;
      visible = visible;
    }

    condition_goes : (ls : Labels) (v : List ℕ) (d : ℕ) (e : Expr) → IsCondition (At v) e → FitE c t (At v) waits d e
        → (ts : List ValType) → Goes c body ls (expr t true d e) ts (vals.I32 ∷ ts)
    condition_goes ls v d e h x ts = as_narrow ls h.0 h.1
        (expr_goes c body t (At v) waits names sound ls true d e (integer h.0) h.2 x ts)

    step_goes : (ls : Labels) (v : List ℕ) (d : ℕ) (after : Option Expr) → IsStep (At v) after → FitStep (At v) d after
        → (ts : List ValType) → Goes c body ls (step t d after) ts ts
    step_goes ls v d None h x ts = none
    step_goes ls v d (Some e) h x ts = expr_goes c body t (At v) waits names sound ls false d e h.0 h.1 x ts

    operand_is : (w : Width) → slice_get c.locals (scratch_of_width t w) ≡ Some (integer_type w)
    operand_is W32 = names.i32
    operand_is W64 = names.i64

    mutual
      pub stmt_goes : (ls : Labels) (v : List ℕ) (d : ℕ) (x : Exits) (j : Jumps) → Leaves c body t ls x j → (s : Stmt)
          → IsStatement (At v) r j s → Fit (At v) d s → (ts : List ValType) → Goes c body ls (stmt t slots d x s) ts ts
      stmt_goes ls v d x j out tree.nothing h fit ts = none
      stmt_goes ls v d x j out (perform e) h fit ts = expr_goes c body t (At v) waits names sound ls false d e h.0 h.1 fit ts
      stmt_goes ls v d x j out (fill p n bytes) h fit ts =
          filled_goes c body ls t names bytes ts (decayed_goes (is_deref p) n ts
          (place_goes c body t (At v) waits names sound ls d p (array (integer Char) n) h.1
          (memory_of c body t (At v) waits names sound p (array (integer Char) n) refl) fit ts))
      stmt_goes ls v d x j out (if_else e a b) h fit ts =
          let y = first (of_expr e) (of_stmt a ⊕ of_stmt b) fit in
          let z = second (of_expr e) (of_stmt a ⊕ of_stmt b) fit in
          let za = first (of_stmt a) (of_stmt b) z in
          let zb = second (of_stmt a) (of_stmt b) z in
          condition_goes ls v d e h.0 y ts ▹ in_choice {k = None}
          (stmt_goes (None ∷ ls) v d (within x) j (leaves_within out) a h.1 za [])
          (stmt_goes (None ∷ ls) v d (within x) j (leaves_within out) b h.2 zb [])
      stmt_goes ls v d x j out (loop e after s) h fit ts =
          let y = in_loop_fits (At v) d e after s fit in
          let b = continues s in
          condition_goes ls v d e h.0 y.0 ts ▹ in_choice {k = None} (iterated_goes t b []
          (stmt_goes (inside_loop b (None ∷ ls)) v d (in_loop b x) well_stmts.in_loop (leaves_in_loop out b) s h.2 y.2 [])
          (step_goes (None ∷ None ∷ ls) v d after h.1 y.1 []) (condition_goes (None ∷ None ∷ ls) v d e h.0 y.0 [])) none
      stmt_goes ls v d x j out (do_while s e) h fit ts =
          let y = first (of_stmt s) (of_expr e) fit in
          let z = second (of_stmt s) (of_expr e) fit in
          let b = continues s in
          in_block {k = None} (iterated_goes t b [] (stmt_goes (inside_loop b (None ∷ ls)) v d (in_loop b x) well_stmts.in_loop
          (leaves_in_loop out b) s h.0 y []) none (condition_goes (None ∷ None ∷ ls) v d e h.1 z []))
      stmt_goes ls v d x j out (switch u e ns cases ss) h fit ts =
          let least = fit.least in
          let y : FitE c t (At v) waits d e = record {
            uses = each_front (IsNamed c t functions) (uses.in_expr e) (uses.in_stmts ss) fit.uses;
            objects = λ q w a b. fit.objects q w a (or_left (objects.in_expr q e) (objects.in_stmts q ss) b);
            least =
                omega (arith, least);
          } in
          let z : FitAll (opened (At v) ns) (suc d) ss = record {
            uses = each_back (IsNamed c t functions) (uses.in_expr e) (uses.in_stmts ss) fit.uses;
            objects = λ q w a b. fit.objects q w a (or_right (objects.in_expr q e) (objects.in_stmts q ss) b);
            least =
                omega (arith, least);
          } in
          let waits_is = names.waiting d (omega (arith, least)) in
          let below = new_below (At v) ns h.2 in
          let vs = objects_in t slots ns in
          let held = objects_hold c body ls t names ns below in
          let at = operand_is (width_of u) in
          (expr_goes c body t (At v) waits names sound ls true d e (integer u) h.1 y ts ▹ does (local_set at ▸ i32_step ▸ end)
          ▹ chosen_goes c body ls t names u (scratch_of_width t (width_of u)) cases ts at ▹ does (local_set waits_is ▸ end))
          ▹ enters_goes c body ls t names ns ts below
          ▹ groups_goes ls (v ++ ns) d (in_group (waiting t d) (with_objects vs x)) (well_stmts.in_switch j)
          (leaves_group (leaves_with out vs held) (waiting t d) waits_is) 0 ss h.5 z waits_is ts
          ▹ freed_goes t vs ts held
      stmt_goes ls v d x j out (scope ns ss) h fit ts =
          let below = new_below (At v) ns h.0 in
          let vs = objects_in t slots ns in
          let held = objects_hold c body ls t names ns below in
          enters_goes c body ls t names ns ts below ▹ stmts_goes ls (v ++ ns) d (with_objects vs x) j
          (leaves_with out vs held) ss h.1 fit ts ▹ freed_goes t vs ts held
      stmt_goes ls v d x j out (return e) h fit ts =
          expr_goes c body t (At v) waits names sound ls true d e r h.1 fit ts
          ▹ freed_goes t x.objects (types (val_of r) ++ ts) out.objects ▹ does (return_step (val_of r) ts returns ▸ end)
      stmt_goes ls v d x j out return_nothing h fit ts = freed_goes t x.objects ts out.objects ▹ does
          (return_step None ts (returns ∙ ap (λ (q : Ty). Some (val_of q)) h) ▸ end)
      stmt_goes ls v d x j out break h fit ts =
          freed_goes t (take x.left_by_break x.objects) ts (each_take (HasHandle c t) x.left_by_break x.objects out.objects)
          ▹ out.leaving ls ts ▹ does (br_step (out.breaks h) ▸ end)
      stmt_goes ls v d x j out continue h fit ts =
          freed_goes t (take x.left_by_continue x.objects) ts (each_take (HasHandle c t) x.left_by_continue x.objects out.objects)
          ▹ does (br_step (out.continues h) ▸ end)

      pub stmts_goes : (ls : Labels) (v : List ℕ) (d : ℕ) (x : Exits) (j : Jumps) → Leaves c body t ls x j → (ss : Stmts)
          → AreStatements (At v) r j ss → FitAll (At v) d ss → (ts : List ValType) → Goes c body ls (stmts t slots d x ss) ts ts
      stmts_goes ls v d x j out done h fit ts = none
      stmts_goes ls v d x j out (seq s ss) h fit ts =
          let y = first (of_stmt s) (of_stmts ss) fit in
          let z = second (of_stmt s) (of_stmts ss) fit in
          stmt_goes ls v d x j out s h.0 y ts ▹ stmts_goes ls v d x j out ss h.1 z ts

      groups_goes : (ls : Labels) (v : List ℕ) (d : ℕ) (x : Exits) (j : Jumps) → Leaves c body t (None ∷ ls) x j
          → (i : ℕ) (ss : Stmts) → AreStatements (At v) r j ss → FitAll (At v) (suc d) ss
          → slice_get c.locals (waiting t d) ≡ Some vals.I32
          → (ts : List ValType) → Goes c body ls (groups t slots d x i ss) ts ts
      groups_goes ls v d x j out i done h fit w ts = none
      groups_goes ls v d x j out i (seq s ss) h fit w ts =
          let y = first (of_stmt s) (of_stmts ss) fit in
          let z = second (of_stmt s) (of_stmts ss) fit in
          (does (local_get w ▸ i32_step ▸ rel_step W32 ▸ end)
          ▹ in_choice {k = None} (stmt_goes (None ∷ ls) v (suc d) x j out s h.0 y []) none)
          ▹ groups_goes ls v d x j out (suc i) ss h.1 z w ts
