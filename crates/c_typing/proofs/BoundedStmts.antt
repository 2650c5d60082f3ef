-- How deep blocks nest in the code of statements and of bodies, how many loops it has, and what it calls.
use Rattle.std.proofs.Common.{◌≡◌, ℕ, zero, suc, ◌+◌, ◌≤◌, List, [], ◌∷◌, ◌++◌, length, Bool, true, false, Option, Some, None, refl, sym, ap, ◌∙◌, arith, subst}
use Rattle.std.specs.Prelude.{cond, get_or, max, take, ◌||◌, ◌==◌}
use Rattle.ms_handle.specs.declared.handle.Kind.TheVariants as kinds
use Rattle.ms_module.specs.declared.access.Segment.TheVariants as segment
use Rattle.ms_module.specs.declared.access.StoreOp.TheVariants as stores
use Rattle.ms_module.specs.declared.instr.Instr.{Instr}
use Rattle.ms_module.specs.declared.instr.Instr.TheVariants.{LocalGet, LocalSet, Segment, Select, Unreachable}
use Rattle.ms_module.specs.declared.numeric.RelOp.TheVariants as rels
use Rattle.ms_module.specs.declared.numeric.Width.TheVariants.{W32}
use Rattle.c_types.specs.declared.integers.IntType.{IntType}
use Rattle.c_types.specs.declared.types.Scalar.{Scalar}
use Rattle.c_types.specs.declared.types.Scalar.TheVariants as scalars
use Rattle.c_types.specs.Layout.{size}
use Rattle.c_types.specs.Types.{Ty, void, integer, struct, pointer, array, function, is_function, scalar_of}
use Rattle.c_typed.specs.declared.ops.Variable.{Variable}
use Rattle.c_typed.specs.declared.ops.Variable.TheVariants.{Local, Global}
use Rattle.c_typed.specs.declared.tree.Case.{Case}
use Rattle.c_typed.specs.refinement.Nesting as nesting
use Rattle.c_typed.specs.refinement.Nesting.{deepest, expr_nesting, made_nesting, one_if, step_nesting, stmt_nesting, stmts_nesting}
use Rattle.c_typed.specs.Tree as tree
use Rattle.c_typed.specs.Tree.{Expr, Stmt, perform, fill, if_else, loop, do_while, switch, scope, return, return_nothing, break, continue, Stmts, done, seq, Function, Made}
use Rattle.c_typed.specs.Statements.{count}
use Rattle.c_typed.specs.Units.{numbers}
use Rattle.c_meaning.specs.Integers.{value_of}
use Rattle.c_meaning.specs.Statements.{group_at, or_else}
use Rattle.c_meaning.specs.Units.{string}
use Rattle.ms_emit.specs.Codes.{Code, inner, no_code, ◌⨾◌}
use Rattle.c_code.specs.Expressions.{is_deref, step}
use Rattle.c_code.specs.Functions.{body, gives, makes, param, params, params_from, params_in, result, result_in, start, values}
use Rattle.c_code.specs.Operations.{constant, i32, i64, rel, width_of}
use Rattle.c_code.specs.Statements.{Exits, any_continues, at_body, bytes_put, chosen, continues, entered, enters, filled, freed, groups, in_group, in_loop, iterated, made, objects_in, selected, stmt, stmts, with_objects, within, zeroed}
use Rattle.c_code.specs.Targets.{Target, get, scratch_handle, scratch_of_width, set, waiting}
use Rattle.c_code.specs.Uses.{in_expr, in_made, in_step, in_stmt, in_stmts, in_values}
use Rattle.c_typing.specs.refinement.LoopsAndCalls.{loops_in_made, loops_in_stmt, loops_in_stmts, loops_in_values}
use Rattle.c_typing.proofs.Bounded.{Bounded, BodyBounded, at_most, body_bounded, flat, in_block_of, in_choice_of, in_leaf, in_repeat_of, nothing, ◌▸◌, ◌▹◌}
use Rattle.c_typing.proofs.BoundedExprs.{Calls, E, Host, Within, both_first, both_second, constant_flat, decayed_ok, expr_ok, get_flat, higher, inside, place_ok, set_flat, store_flat, tee_ok, zero_flat}
use Rattle.c_typing.proofs.Names.{each_back, each_front}

-- ---- both definitions of a statement that continues the loop around it agree

mutual
  same_continues : (s : Stmt) → continues s ≡ nesting.continues s
  same_continues tree.nothing = refl
  same_continues (perform e) = refl
  same_continues (fill p n bs) = refl
  same_continues (if_else c a b) =
      ap (λ (x : Bool). x || continues b) (same_continues a) ∙ ap (λ (x : Bool). nesting.continues a || x) (same_continues b)
  same_continues (loop c after s) = refl
  same_continues (do_while s c) = refl
  same_continues (switch t e ns cases ss) = same_any ss
  same_continues (scope ns ss) = same_any ss
  same_continues (return e) = refl
  same_continues return_nothing = refl
  same_continues break = refl
  same_continues continue = refl

  same_any : (ss : Stmts) → any_continues ss ≡ nesting.any_continues ss
  same_any done = refl
  same_any (seq s ss) =
      ap (λ (x : Bool). x || any_continues ss) (same_continues s) ∙ ap (λ (x : Bool). nesting.continues s || x) (same_any ss)

module _ (body : List (List Instr)) (C D : ℕ → Type 0) (t : Target) (h : ℕ) where
  -- without loops, within a depth
  abbrev Q : Code → Type 0
  Q a = Bounded body C D h 0 a

  pub freed_ok : (vs : List Variable) → Q (freed t vs)
  freed_ok [] = nothing
  freed_ok (v ∷ vs) = flat {is = get t v ∷ Segment (segment.Free kinds.Frame) ∷ []} (get_flat C D t v, (tt, tt)) ▹ freed_ok vs

  pub made_ok : (v : Variable) (n : ℕ) → Q (made t v n)
  made_ok v n = flat {is = i32 n ∷ Segment (segment.New kinds.Frame) ∷ []} (tt, (tt, tt)) ▹ tee_ok body C D h t v
      ▹ flat {is = Segment segment.IsNull ∷ []} (tt, tt) ▹ in_leaf (Unreachable ∷ []) [] (tt, tt) tt

  zeroed_ok : (v : Variable) (o : Option Scalar) → Q (zeroed t v o)
  zeroed_ok v None = nothing
  zeroed_ok v (Some s) = flat (zero_flat C D s, (set_flat C D t v, tt))

  entered_ok : (b : Bool) (v : Variable) (u : Ty) → Q (entered t b v u)
  entered_ok true v u = made_ok v (size t.structs u)
  entered_ok false v u = zeroed_ok v (scalar_of u)

  enters_ok : (slots : List Ty) (ns : List ℕ) → Q (enters t slots ns)
  enters_ok slots [] = nothing
  enters_ok slots (n ∷ ns) = entered_ok (t.is_object (Local n)) (Local n) (get_or slots n void) ▹ enters_ok slots ns

  bytes_ok : (i : ℕ) (bs : List ℕ) → Q (bytes_put t i bs)
  bytes_ok i [] = nothing
  bytes_ok i (b ∷ bs) =
      flat {is = LocalGet (scratch_handle t) ∷ i64 i ∷ Segment (segment.Add 1) ∷ i32 b ∷ Segment
      (segment.Store stores.I32Store8) ∷ []} (tt, (tt, (tt, (tt, (tt, tt))))) ▹ bytes_ok (suc i) bs

  filled_ok : {p : Code} (bs : List ℕ) → Q p → Q (filled t p bs)
  filled_ok bs g = g ▹ flat {is = LocalSet (scratch_handle t) ∷ []} (tt, tt) ▹ bytes_ok 0 bs

  -- ---- switches

  chosen_ok : (u : IntType) (x : ℕ) (cs : List Case) → Q (chosen t u x cs)
  chosen_ok u x [] = nothing
  chosen_ok u x (case ∷ cs) = by case.label (chosen_ok u x cs) where
    by : (l : Option ℕ) → Bounded body C D h 0 (chosen t u x cs)
        → Bounded body C D h 0 (chosen t u x (record { group = case.group; label = l } ∷ cs))
    by None g = nothing ▹ g
    by (Some n) g =
        flat {is = i32 case.group ∷ LocalGet x ∷ constant (width_of u) (value_of u n) ∷ rel (width_of u) rels.Ne ∷ Select ∷ []}
        (tt, (tt, (constant_flat C D (width_of u) (value_of u n), (tt, (tt, tt))))) ▹ g

  selected_ok : (u : IntType) (x w : ℕ) (cases : List Case) (k : ℕ) {e : Code} → Q e → Q (selected t u x w cases k e)
  selected_ok u x w cases k g =
      g ▹ flat {is = LocalSet x ∷ i32 (or_else (group_at None cases) k) ∷ []} (tt, (tt, tt)) ▹ chosen_ok u x cases
      ▹ flat (tt, tt)

-- ---- loops

module _ (body : List (List Instr)) (C D : ℕ → Type 0) (t : Target) where
  -- the statement nests in n blocks, and has a block of its own where it continues the loop
  iterated_ok : (b : Bool) (h n l : ℕ) {s after test : Code} → n + one_if b ≤ h
      → ((k : ℕ) → n ≤ k → Bounded body C D k l s) → Bounded body C D h 0 after → Bounded body C D h 0 test
      → Bounded body C D (suc h) (l + 1) (iterated t b s after test)
  iterated_ok false h n l le gs ga gt =
      at_most (in_repeat_of (gs h (omega (arith, le)) ▸ (ga ▹ gt ▹ flat (tt, tt)))) (omega arith)
  iterated_ok true zero n l le gs ga gt = absurd (omega (arith, le))
  iterated_ok true (suc h) n l le gs ga gt =
      at_most (in_repeat_of (in_block_of (gs h (omega (arith, le))) ▸ (ga ▹ gt ▹ flat (tt, tt)))) (omega arith)

-- ---- statements

module _ (body : List (List Instr)) (C D : ℕ → Type 0) (host : Host C) (t : Target) (slots : List Ty) where
  abbrev pub S : ℕ → Stmt → Type 0
  S h s = Within C D t h (stmt_nesting s) (in_stmt s)

  abbrev pub Ss : ℕ → Stmts → Type 0
  Ss h ss = Within C D t h (stmts_nesting ss) (in_stmts ss)

  abbrev Step : ℕ → Option Expr → Type 0
  Step h o = Within C D t h (step_nesting o) (in_step o)

  abbrev Leaving : Exits → Type 0
  Leaving x = (h : ℕ) → Bounded body C D h 0 x.leaving

  step_ok : (h d : ℕ) (o : Option Expr) → Step h o → Bounded body C D h 0 (step t d o)
  step_ok h d None w = nothing
  step_ok h d (Some e) w = expr_ok body C D host t h false d e w

  mutual
    pub stmt_ok : (h d : ℕ) (x : Exits) → Leaving x → (s : Stmt) → S h s
        → Bounded body C D h (loops_in_stmt s) (stmt t slots d x s)
    stmt_ok h d x out tree.nothing w = nothing
    stmt_ok h d x out (perform e) w = expr_ok body C D host t h false d e w
    stmt_ok h d x out (fill p n bytes) w =
        filled_ok body C D t h bytes (decayed_ok body C D h (is_deref p) n (place_ok body C D host t h d p w))
    stmt_ok zero d x out (if_else c a b) w = absurd (let le = w.depth in omega (arith, le))
    stmt_ok (suc h) d x out (if_else c a b) w =
        let n = max (stmt_nesting a) (stmt_nesting b) in
        let us = in_stmt a ++ in_stmt b in
        let y = inside C D t h (max (expr_nesting c) n) (in_expr c ++ us) w in
        let yc = higher C D t h (expr_nesting c) (in_expr c) (both_first C D t h (expr_nesting c) n (in_expr c) us y) in
        let z = both_second C D t h (expr_nesting c) n (in_expr c) us y in
        let ya = both_first C D t h (stmt_nesting a) (stmt_nesting b) (in_stmt a) (in_stmt b) z in
        let yb = both_second C D t h (stmt_nesting a) (stmt_nesting b) (in_stmt a) (in_stmt b) z in
        at_most (expr_ok body C D host t (suc h) true d c yc ▸ in_choice_of (stmt_ok h d (within x) out a ya)
        (stmt_ok h d (within x) out b yb)) (omega arith)
    stmt_ok zero d x out (loop c after s) w = absurd (let le = w.depth in omega (arith, le))
    stmt_ok (suc zero) d x out (loop c after s) w = absurd (let le = w.depth in omega (arith, le))
    stmt_ok (suc (suc h)) d x out (loop c after s) w =
        let le = w.depth in
        let us = in_step after ++ in_stmt s in
        let uc = each_front (Calls C D t) (in_expr c) us w.uses in
        let rest = each_back (Calls C D t) (in_expr c) us w.uses in
        let yc : E body C D host t (suc (suc h)) c = record { depth = omega (arith, le); uses = uc } in
        let zc : E body C D host t h c = record { depth = omega (arith, le); uses = uc } in
        let ya : Step h after =
        record { depth = omega (arith, le); uses = each_front (Calls C D t) (in_step after) (in_stmt s) rest } in
        let ys = each_back (Calls C D t) (in_step after) (in_stmt s) rest in
        let fits : stmt_nesting s + one_if (nesting.continues s) ≤ h = omega (arith, le) in
        let b = continues s in
        at_most (expr_ok body C D host t (suc (suc h)) true d c yc ▸ in_choice_of
        (iterated_ok body C D t b h (stmt_nesting s) (loops_in_stmt s)
        (subst (λ (q : Bool). stmt_nesting s + one_if q ≤ h) (sym (same_continues s)) fits)
        (λ k lt. stmt_ok k d (in_loop b x) (λ j. nothing) s (record { depth = lt; uses = ys }))
        (step_ok h d after ya) (expr_ok body C D host t h true d c zc)) nothing) (omega arith)
    stmt_ok zero d x out (do_while s c) w = absurd (let le = w.depth in omega (arith, le))
    stmt_ok (suc zero) d x out (do_while s c) w = absurd (let le = w.depth in omega (arith, le))
    stmt_ok (suc (suc h)) d x out (do_while s c) w =
        let le = w.depth in
        let ys = each_front (Calls C D t) (in_stmt s) (in_expr c) w.uses in
        let yc : E body C D host t h c =
        record { depth = omega (arith, le); uses = each_back (Calls C D t) (in_stmt s) (in_expr c) w.uses } in
        let fits : stmt_nesting s + one_if (nesting.continues s) ≤ h = omega (arith, le) in
        let b = continues s in
        in_block_of (iterated_ok body C D t b h (stmt_nesting s) (loops_in_stmt s)
        (subst (λ (q : Bool). stmt_nesting s + one_if q ≤ h) (sym (same_continues s)) fits)
        (λ k lt. stmt_ok k d (in_loop b x) (λ j. nothing) s (record { depth = lt; uses = ys }))
        nothing (expr_ok body C D host t h true d c yc))
    stmt_ok zero d x out (switch u e ns cases ss) w = absurd (let le = w.depth in omega (arith, le))
    stmt_ok (suc h) d x out (switch u e ns cases ss) w =
        let y = inside C D t h (max (expr_nesting e) (stmts_nesting ss)) (in_expr e ++ in_stmts ss) w in
        let ye = higher C D t h (expr_nesting e) (in_expr e)
        (both_first C D t h (expr_nesting e) (stmts_nesting ss) (in_expr e) (in_stmts ss) y) in
        let z = both_second C D t h (expr_nesting e) (stmts_nesting ss) (in_expr e) (in_stmts ss) y in
        let vs = objects_in t slots ns in
        at_most (selected_ok body C D t (suc h) u (scratch_of_width t (width_of u)) (waiting t d) cases (count ss)
        (expr_ok body C D host t (suc h) true d e ye) ▸ enters_ok body C D t (suc h) slots ns
        ▸ groups_ok h d (in_group (waiting t d) (with_objects vs x)) (λ j. flat (tt, (tt, tt))) 0 ss z
        ▸ freed_ok body C D t (suc h) vs) (omega arith)
    stmt_ok h d x out (scope ns ss) w =
        let vs = objects_in t slots ns in
        at_most (enters_ok body C D t h slots ns ▸ stmts_ok h d (with_objects vs x) out ss w ▸ freed_ok body C D t h vs)
        (omega arith)
    stmt_ok h d x out (return e) w =
        expr_ok body C D host t h true d e w ▹ freed_ok body C D t h x.objects ▹ flat (tt, tt)
    stmt_ok h d x out return_nothing w = freed_ok body C D t h x.objects ▹ flat (tt, tt)
    stmt_ok h d x out break w = freed_ok body C D t h (take x.left_by_break x.objects) ▹ out h ▹ flat (tt, tt)
    stmt_ok h d x out continue w = freed_ok body C D t h (take x.left_by_continue x.objects) ▹ flat (tt, tt)

    pub stmts_ok : (h d : ℕ) (x : Exits) → Leaving x → (ss : Stmts) → Ss h ss
        → Bounded body C D h (loops_in_stmts ss) (stmts t slots d x ss)
    stmts_ok h d x out done w = nothing
    stmts_ok h d x out (seq s ss) w =
        stmt_ok h d x out s (both_first C D t h (stmt_nesting s) (stmts_nesting ss) (in_stmt s) (in_stmts ss) w)
        ▸ stmts_ok h d x out ss (both_second C D t h (stmt_nesting s) (stmts_nesting ss) (in_stmt s) (in_stmts ss) w)

    groups_ok : (h d : ℕ) (x : Exits) → Leaving x → (i : ℕ) (ss : Stmts) → Ss h ss
        → Bounded body C D (suc h) (loops_in_stmts ss) (groups t slots d x i ss)
    groups_ok h d x out i done w = nothing
    groups_ok h d x out i (seq s ss) w =
        let y = both_first C D t h (stmt_nesting s) (stmts_nesting ss) (in_stmt s) (in_stmts ss) w in
        let z = both_second C D t h (stmt_nesting s) (stmts_nesting ss) (in_stmt s) (in_stmts ss) w in
        at_most ((flat {is = LocalGet (waiting t d) ∷ i32 i ∷ rel W32 rels.LeU ∷ []} (tt, (tt, (tt, tt)))
        ▸ in_choice_of (stmt_ok h (suc d) x out s y) nothing) ▸ groups_ok h d x out (suc i) ss z) (omega arith)

-- ---- bodies

module _ (body : List (List Instr)) (C D : ℕ → Type 0) (t : Target) (h : ℕ) where
  stored_ok : (n : ℕ) (u : Ty) → Bounded body C D h 0 (param t true n u)
  stored_ok n (integer i) = made_ok body C D t h (Local n) (size t.structs (integer i))
      ▹ flat {is = get t (Local n) ∷ LocalGet n ∷ []} (tt, (tt, tt)) ▹ flat (store_flat C D (scalars.Int i), tt)
  stored_ok n (pointer q) = made_ok body C D t h (Local n) (size t.structs (pointer q))
      ▹ flat {is = get t (Local n) ∷ LocalGet n ∷ []} (tt, (tt, tt))
      ▹ flat (store_flat C D (cond (is_function q) scalars.Function scalars.Pointer), tt)
  stored_ok n void = made_ok body C D t h (Local n) (size t.structs void)
      ▹ flat {is = get t (Local n) ∷ LocalGet n ∷ []} (tt, (tt, tt)) ▹ nothing
  stored_ok n (struct i) = made_ok body C D t h (Local n) (size t.structs (struct i))
      ▹ flat {is = get t (Local n) ∷ LocalGet n ∷ []} (tt, (tt, tt)) ▹ nothing
  stored_ok n (array q i) = made_ok body C D t h (Local n) (size t.structs (array q i))
      ▹ flat {is = get t (Local n) ∷ LocalGet n ∷ []} (tt, (tt, tt)) ▹ nothing
  stored_ok n (function r ps) = made_ok body C D t h (Local n) (size t.structs (function r ps))
      ▹ flat {is = get t (Local n) ∷ LocalGet n ∷ []} (tt, (tt, tt)) ▹ nothing

  param_ok : (b : Bool) (n : ℕ) (u : Ty) → Bounded body C D h 0 (param t b n u)
  param_ok true n u = stored_ok n u
  param_ok false n u = flat (tt, (tt, tt))

  params_from_ok : (n : ℕ) (us : List Ty) → Bounded body C D h 0 (params_from t n us)
  params_from_ok n [] = nothing
  params_from_ok n (u ∷ us) = param_ok (t.is_object (Local n)) n u ▹ params_from_ok (suc n) us

  params_ok : (us : List Ty) → Bounded body C D h 0 (params t us)
  params_ok us = by (t.first == 0) where
    by : (b : Bool) → Bounded body C D h 0 (cond b no_code (params_from t 0 us))
    by true = nothing
    by false = params_from_ok 0 us

  result_ok : (o : Option Scalar) → Bounded body C D h 0 (result t o)
  result_ok None = nothing
  result_ok (Some s) = flat (zero_flat C D s, tt)

  makes_ok : (us : List Ty) (k : ℕ) (ms : List Made) → Bounded body C D h 0 (makes t us k ms)
  makes_ok us k [] = nothing
  makes_ok us k (tree.global n ss ∷ ms) = by (t.is_object (Global n)) ▹ makes_ok us k ms where
    by : (b : Bool) → Bounded body C D h 0 (cond b (made t (Global n) (size t.structs (get_or us n void))) no_code)
    by true = made_ok body C D t h (Global n) (size t.structs (get_or us n void))
    by false = nothing
  makes_ok us k (tree.text bytes ∷ ms) = made_ok body C D t h (Global (t.globals + k)) (size t.structs (string bytes))
      ▹ makes_ok us (suc k) ms

module _ (body : List (List Instr)) (C D : ℕ → Type 0) (host : Host C) (t : Target) (h : ℕ) where
  values_ok : (ss : List Stmt) → Within C D t h (deepest stmt_nesting ss) (in_values ss)
      → Bounded body C D h (loops_in_values ss) (values t ss)
  values_ok [] w = nothing
  values_ok (s ∷ ss) w = stmt_ok body C D host t [] h 0 (at_body []) (λ j. nothing) s
      (both_first C D t h (stmt_nesting s) (deepest stmt_nesting ss) (in_stmt s) (in_values ss) w)
      ▸ values_ok ss (both_second C D t h (stmt_nesting s) (deepest stmt_nesting ss) (in_stmt s) (in_values ss) w)

  gives_ok : (k : ℕ) (ms : List Made) → Within C D t h (deepest made_nesting ms) (in_made ms)
      → Bounded body C D h (loops_in_made ms) (gives t k ms)
  gives_ok k [] w = nothing
  gives_ok k (tree.global n ss ∷ ms) w =
      values_ok ss (both_first C D t h (deepest stmt_nesting ss) (deepest made_nesting ms) (in_values ss) (in_made ms) w)
      ▸ gives_ok k ms
      (both_second C D t h (deepest stmt_nesting ss) (deepest made_nesting ms) (in_values ss) (in_made ms) w)
  gives_ok k (tree.text bytes ∷ ms) w =
      let v = Global (t.globals + k) in
      at_most (filled_ok body C D t h bytes (flat {is = get t v ∷ []} (tt, tt))
      ▸ flat {is = get t v ∷ Segment segment.Seal ∷ set t v ∷ []} (tt, (tt, (tt, tt)))
      ▸ gives_ok (suc k) ms (record { depth = let d = w.depth in omega (arith, d); uses = w.uses })) (omega arith)

module _ (C D : ℕ → Type 0) (host : Host C) (t : Target) (h : ℕ) where
  pub body_ok : (f : Function) (s : Stmt) → Within C D t h (stmt_nesting s) (in_stmt s)
      → BodyBounded C D h (loops_in_stmt s) (body t f s)
  body_ok f s w =
      let us = params_in f.ty in
      let vs = objects_in t f.slots (numbers (length us)) in
      let o = scalar_of (result_in f.ty) in
      let code : Code = params t us ⨾ stmt t f.slots 0 (at_body vs) s ⨾ freed t vs ⨾ result t o in
      let b = inner (code 1) in
      body_bounded C D h (loops_in_stmt s) code (at_most (params_ok b C D t h us
      ▸ stmt_ok b C D host t f.slots h 0 (at_body vs) (λ j. nothing) s w ▸ freed_ok b C D t h vs ▸ result_ok b C D t h o)
      (omega arith))

  pub start_ok : (us : List Ty) (ms : List Made) → Within C D t h (deepest made_nesting ms) (in_made ms)
      → BodyBounded C D h (loops_in_made ms) (start t us ms)
  start_ok us ms w =
      let code : Code = makes t us 0 ms ⨾ gives t 0 ms in
      let b = inner (code 1) in
      body_bounded C D h (loops_in_made ms) code
      (at_most (makes_ok b C D t h us 0 ms ▸ gives_ok b C D host t h 0 ms w) (omega arith))
