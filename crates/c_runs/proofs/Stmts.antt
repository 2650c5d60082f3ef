-- Statements do what is meant.
use Rattle.std.proofs.Common.{◌≡◌, ℕ, zero, suc, ◌+◌, ◌*◌, ◌<◌, ◌≤◌, List, [], ◌∷◌, ◌++◌, length, take, filter, map, Bool, true, false, Option, Some, None, refl, sym, ap, ◌∙◌, arith, subst, cond, T, eqb→eq, ltb→lt}
use Rattle.std.proofs.lemmas.Option.{slice_get_within}
use Rattle.std.specs.Prelude.{pos, nat_lt, ◌==◌, ◌-◌, not, ◌&&◌, ◌||◌, slice_get, get_or, if◌then◌else◌}
use Rattle.ms_linear.specs.declared.value.Value.{Value as Word}
use Rattle.ms_module.specs.declared.instr.Instr.{Instr}
use Rattle.ms_module.specs.declared.instr.Instr.TheVariants.{Br, Return, Segment}
use Rattle.ms_module.specs.declared.access.Segment.TheVariants as segment
use Rattle.ms_module.specs.declared.numeric.Width.{Width}
use Rattle.ms_task.specs.Thread.{Thread}
use Rattle.ms_num.specs.Integers.{wrapped}
use Rattle.c_types.specs.declared.integers.IntType.{IntType}
use Rattle.c_types.specs.declared.integers.IntType.TheVariants.{Char}
use Rattle.c_types.specs.declared.types.Scalar.{Scalar}
use Rattle.c_types.specs.declared.types.Scalar.TheVariants as scalars
use Rattle.c_types.specs.Types.{Ty, void, integer, pointer, struct, array, function, is_function, Tys, scalar_of}
use Rattle.c_typed.specs.declared.ops.Variable.{Variable}
use Rattle.c_typed.specs.declared.ops.Variable.TheVariants.{Local}
use Rattle.c_typed.specs.Tree as tree
use Rattle.c_typed.specs.Tree.{Place, Expr, Stmt, nothing, perform, if_else, loop, scope, return, return_nothing, break, continue, Stmts, done, seq}
use Rattle.c_typed.specs.declared.jumps.Jumps.{Jumps}
use Rattle.c_typed.specs.refinement.Expressions as well
use Rattle.c_typed.specs.refinement.Expressions.{HasType, is_visible}
use Rattle.c_typed.specs.Statements as judged
use Rattle.c_typed.specs.Statements.{AreNew, AreStatements, IsStatement, IsStep, count, in_loop}
use Rattle.c_meaning.specs.Values.{Value, null, no_function, number, zero_value}
use Rattle.c_meaning.specs.Values as values
use Rattle.c_meaning.specs.Objects.{write_all}
use Rattle.c_meaning.specs.World.{Held, plain, World, Result, gives, Does, after, alter, ◌>>=◌, ◌>>◌, pure, known}
use Rattle.c_meaning.specs.Integers.{bits_of, is_zero}
use Rattle.c_meaning.specs.Accesses.{hold}
use Rattle.c_meaning.specs.Expressions as meaning
use Rattle.c_meaning.specs.Expressions.{char_of, expr, is_true, place}
use Rattle.c_meaning.specs.Statements as meant
use Rattle.c_meaning.specs.Statements.{Flow, next, broken, continued, returned, behind_switch, goes_to, enter, leave, leave_held, step_of, stmts_from}
use Rattle.ms_emit.specs.Codes.{Code, one, no_code, ◌⨾◌, block, choice, size_of}
use Rattle.c_code.specs.Expressions as code
use Rattle.c_code.specs.Operations.{constant, i32, width_of}
use Rattle.c_runs.proofs.Small.{are_small, is_short, is_small}
use Rattle.c_code.specs.Statements as scheme
use Rattle.c_code.specs.Statements.{Exits, any_continues, continues, entered, enters, freed, iterated, objects_in, with_objects, within}
use Rattle.c_code.specs.Targets.{Target, set, waiting}
use Rattle.c_code.specs.Uses as uses
use Rattle.c_code.specs.Uses.{waits, waits_place, waits_step, waits_stmt, waits_stmts}
use Rattle.c_numbers.specs.Operands.{operand}
use Rattle.c_numbers.proofs.Conversions.{constant_is}
use Rattle.ms_relate.specs.refinement.Homes.{Home}
use Rattle.c_typing.proofs.Sound.{AreSoundNames}
use Rattle.c_runs.proofs.Goes.{Mem, Runs, bind, here, after_after}
use Rattle.c_runs.proofs.Ending.{differ_both, new_differ, none_new, visible_either, visible_left, visible_right}
use Rattle.c_runs.proofs.Scopes.{IsOff, frees_out, held_scope, scope_runs, with_off}
use Rattle.c_runs.proofs.Held.{some_is, Slot, found}
use Rattle.c_runs.proofs.Values.{IsOf}
use Rattle.c_runs.specs.Words.{pushed}
use Rattle.c_runs.proofs.Switches.{HeldRuns, flow_leave, from_group, goes_small, group_then, leaves, switch_runs, switched}
use Rattle.c_runs.proofs.Related.{Env, beside, Holds, IsValue, Now, extends_none, front, pushes, seeing, sees_none}
use Rattle.c_runs.proofs.Ops.{Op, OpIn, Stack, at_work, op_carried, op_look_in, op_none, op_then, op_then_in, same}
use Rattle.c_runs.proofs.Nodes.{Always, Leaves, Num, gone, remains, set_runs, of_number, test_is}
use Rattle.c_runs.proofs.Operations.{AtHome, Linked}
use Rattle.c_runs.proofs.Scalars.{IsData, null_runs, zero_in}
use Rattle.c_runs.proofs.Entries.{types_of}
use Rattle.c_runs.proofs.Functions.{no_function_runs}
use Rattle.c_runs.proofs.Strings.{fill_runs, whole_filled}
use Rattle.c_runs.proofs.Globals.{NamesOf}
use Rattle.c_runs.proofs.Exprs.{AreScalars, CallsRun, decays_run, expr_runs, narrow_width, ArgsRun, args_all}
use Rattle.c_runs.proofs.Rooms.{ready_at}
use Rattle.c_runs.proofs.Flows.{FlowIn, FlowOut, FlowRuns, GoodFlow, Off, ahead, to_flow, flow_none, flow_behind, flow_behind_in, flow_of, flow_seq, flow_return, flow_continue, flow_choice, no_group, Way, way}
use Rattle.c_runs.proofs.Dos.{do_runs}
use Rattle.c_runs.proofs.Loops.{inside, iterated_is, jumps_in, while_runs}
use Rattle.c_runs.proofs.Ready.{IsReady, behind_test, either, in_expr_of, in_place_of, in_step_of, in_stmt_of, in_stmts_of, looped, parts}
use Rattle.c_runs.proofs.Whole.{IsWhole, whole_choice, whole_expr, whole_plain, whole_then}

-- ---- a statement without a `continue` of its own is one where none may stand

pub neither : (a b : Bool) → (a || b) ≡ false → (a ≡ false) × (b ≡ false)
neither true b e = absurd cc
neither false b e = (refl, e)

abbrev without_continue : Jumps → Jumps
without_continue j = record { breaks = j.breaks; continues = false }

mutual
  no_continue : (k : well.Context) (r : Ty) (j : Jumps) (s : Stmt) → continues s ≡ false → IsStatement k r j s → IsStatement k r (without_continue j) s
  no_continue k r j nothing e h = h
  no_continue k r j (perform x) e h = h
  no_continue k r j (tree.fill p n bytes) e h = h
  no_continue k r j (if_else x a b) e h = let q = neither (continues a) (continues b) e in (h.0, no_continue k r j a q.0 h.1, no_continue k r j b q.1 h.2)
  no_continue k r j (loop x step s) e h = h
  no_continue k r j (tree.do_while s x) e h = h
  no_continue k r j (tree.switch t x ns cases ss) e h = (h.0, h.1, h.2, h.3, h.4, no_continues (well.opened k ns) r (judged.in_switch j) ss e h.5)
  no_continue k r j (scope ns ss) e h = (h.0, no_continues (well.opened k ns) r j ss e h.1)
  no_continue k r j (return x) e h = h
  no_continue k r j return_nothing e h = h
  no_continue k r j break e h = h
  no_continue k r j continue e h = absurd cc

  no_continues : (k : well.Context) (r : Ty) (j : Jumps) (ss : Stmts) → any_continues ss ≡ false → AreStatements k r j ss → AreStatements k r (without_continue j) ss
  no_continues k r j done e h = h
  no_continues k r j (seq s ss) e h = let q = neither (continues s) (any_continues ss) e in (no_continue k r j s q.0 h.0, no_continues k r j ss q.1 h.1)

jumps_of : (k : well.Context) (r : Ty) (s : Stmt) (b : Bool) → continues s ≡ b → IsStatement k r in_loop s → IsStatement k r (jumps_in b) s
jumps_of k r s true e h = h
jumps_of k r s false e h = no_continue k r in_loop s e h

-- ---- slots of a block

abbrev pub Below : ℕ → List ℕ → Type 0
Below n [] = Unit {0}
Below n (x ∷ xs) = (x < n) × Below n xs

new_below : (k : well.Context) (ns : List ℕ) → AreNew k ns → Below (length k.slots) ns
new_below k [] h = tt
new_below k (n ∷ ns) h = (h.0, new_below (well.opened k (n ∷ [])) ns h.2)

take_none : (n : ℕ) (vs : List Variable) → vs ≡ [] → take n vs ≡ []
take_none zero [] e = refl
take_none (suc n) [] e = refl
take_none n (v ∷ vs) e = absurd cc

-- instructions that end in one
never_one : (b : List Instr) (i : Instr) → b ++ i ∷ [] ≡ [] → ⊥
never_one [] i e = absurd cc
never_one (j ∷ b) i e = absurd cc

never_both : (a b : List Instr) (i : Instr) → a ++ (b ++ i ∷ []) ≡ [] → ⊥
never_both [] b i e = never_one b i e
never_both (j ∷ a) b i e = absurd cc

never_in : (a b : List Instr) (i : Instr) (c : List Instr) → (a ++ i ∷ b) ++ c ≡ [] → ⊥
never_in [] b i c e = absurd cc
never_in (j ∷ a) b i c e = absurd cc

-- ---- the ways out of a statement that has no objects around it

abbrev pub no_off : Off
no_off = record { broken = []; continued = []; returned = [] }

-- the objects of these blocks are freed where it is left so
pub record IsOut (E : Env) (vs : List ℕ) (d : ℕ) (o : Option ℕ) (x : Exits) (off : Off) : Type 0 where
  pub objects : x.objects ≡ objects_in E.target E.slots off.returned
  pub by_break : take x.left_by_break x.objects ≡ objects_in E.target E.slots off.broken
  pub by_continue : take x.left_by_continue x.objects ≡ objects_in E.target E.slots off.continued
  pub leaving : x.leaving ≡ leaves E.target o
  pub around : (q : ℕ) → o ≡ Some q → q < d
  pub returned' : IsOff E vs off.returned
  pub broken' : IsOff E vs off.broken
  pub continued' : IsOff E vs off.continued

pub off_none : (E : Env) (vs : List ℕ) → IsOff E vs []
off_none E vs = record { differ = tt; among = λ x e. absurd cc }

-- of a statement of a function without parameters that are objects
pub out_none : (E : Env) (vs : List ℕ) → IsOut E vs 0 None (scheme.at_body []) no_off
out_none E vs = record { objects = refl; by_break = refl; by_continue = refl; leaving = refl; around = λ q e. absurd cc; returned' = off_none E vs; broken' = off_none E vs; continued' = off_none E vs }

take_append : (us vs : List Variable) (k : ℕ) → take (length us + k) (us ++ vs) ≡ us ++ take k vs
take_append [] vs k = let z : 0 + k ≡ k = omega arith in ap (λ (j : ℕ). take j vs) z
take_append (u ∷ us) vs k = let z : suc (length us) + k ≡ suc (length us + k) = omega arith in ap (λ (j : ℕ). take j (u ∷ (us ++ vs))) z ∙ ap (λ (l : List Variable). u ∷ l) (take_append us vs k)

pub take_zero : (vs : List Variable) → take 0 vs ≡ []
take_zero [] = refl
take_zero (v ∷ vs) = refl

module _ (t : Target) (slots : List Ty) where
  objects_both : (is js : List ℕ) → objects_in t slots (is ++ js) ≡ objects_in t slots is ++ objects_in t slots js
  objects_both [] js = refl
  objects_both (i ∷ is) js = by (t.is_object (Local i)) (objects_both is js) where
    by : (b : Bool) → map Local (filter (scheme.object_of t slots) (is ++ js)) ≡ map Local (filter (scheme.object_of t slots) is) ++ map Local (filter (scheme.object_of t slots) js)
        → map Local (cond b (i ∷ filter (scheme.object_of t slots) (is ++ js)) (filter (scheme.object_of t slots) (is ++ js))) ≡ map Local (cond b (i ∷ filter (scheme.object_of t slots) is) (filter (scheme.object_of t slots) is)) ++ map Local (filter (scheme.object_of t slots) js)
    by true h = ap (λ (l : List Variable). Local i ∷ l) h
    by false h = h

-- ---- statements

abbrev pub IsPlain : Env → ℕ → Type 0
IsPlain E x = (t : Ty) × (slice_get E.kinds x ≡ Some (t, false)) × (E.target.is_object (Local x) ≡ false)

-- slots that are no objects
abbrev pub ArePlain : Env → List ℕ → Type 0
ArePlain E [] = Unit {0}
ArePlain E (x ∷ xs) = IsPlain E x × ArePlain E xs

module _ (E0 : Env) (L : Linked E0.site) (home : AtHome E0) (k : well.Context) (slots_are : k.slots ≡ E0.slots) (calls_run : CallsRun (seeing [] E0) L home k slots_are)
    (scalars_are : (f : ℕ) (t : Ty) (ps : Tys) → slice_get k.functions f ≡ Some (function t ps) → AreScalars (seeing [] E0) L home k slots_are ps)
    (slots_data : (x : ℕ) (t : Ty) → slice_get k.slots x ≡ Some t → E0.target.is_object (Local x) ≡ false → IsData t) (structs_same : k.structs ≡ E0.unit.structs) (functions_are : k.functions ≡ types_of E0.unit) (sound : AreSoundNames k.structs k.globals k.slots k.functions)
    (names : NamesOf E0.unit.structs E0.files E0.reached E0.target k.globals k.literals) (slot_at : (x : ℕ) → x < length k.slots → (t : Ty) × (slice_get k.slots x ≡ Some t)) (wide : E0.bound ≤ E0.turn_bound) where
  -- with these variables visible
  abbrev in_blocks : List ℕ → well.Context
  in_blocks ns = record k { visible = ns }

  at_slot : (x : ℕ) (t : Ty) → slice_get k.slots x ≡ Some t → slice_get E0.slots x ≡ Some t
  at_slot x t e = subst (λ (ts : List Ty). slice_get ts x ≡ Some t) slots_are e

  abbrev at : List ℕ → Env
  at v = seeing v E0

  abbrev value : Expr → Does Value
  value e = expr E0.unit E0.calls e

  calls_at : (v : List ℕ) → CallsRun (at v) L home (in_blocks v) slots_are
  calls_at v may d f t ps e b i above reach hs us ok n has now le vs r dep w m kp =
      calls_run may d f t ps e b i above reach hs us ok n has now (record { below = le.below; grown = le.grown; seen = sees_none now.visible; few = le.few }) vs r dep w m kp

  -- beside d values that wait
  abbrev at_depth : List ℕ → ℕ → Env
  at_depth v d = beside d (at v)

  args_at : (v : List ℕ) (d : ℕ) → ArgsRun (at_depth v d) L home (in_blocks v) slots_are
  args_at v d = args_all E0.waits (at_depth v d) L home (in_blocks v) slots_are (calls_at v) scalars_are slots_data refl structs_same functions_are sound names (omega arith)

  run_expr : (v : List ℕ) (kept : Bool) (d : ℕ) (e : Expr) (t : Ty) → d + waits e ≤ E0.waits → IsReady E0.may_call E0.target.is_object E0.unit true (uses.in_expr e) (in_expr_of e) → HasType (in_blocks v) e t → OpIn (at_depth v d) [] (code.expr E0.target kept d e) same (remains (at v) kept t) (IsValue (at v) t) (value e)
  run_expr v kept d e t room x h =
      expr_runs (at_depth v d) L home (in_blocks v) slots_are (calls_at v) (args_at v d) scalars_are slots_data refl structs_same functions_are sound names kept d e t
      (ready_at E0.may_call E0.target.is_object E0.unit d d E0.waits true (uses.in_expr e) (in_expr_of e) (waits e) (omega arith) room x) h

  -- ---- blocks

  abbrev kinds : List Slot
  kinds = E0.kinds

  zero_runs : (v : List ℕ) (z x : ℕ) (u : IntType) → slice_get E0.kinds x ≡ Some (integer u, false) → Op (at_depth v z) (scheme.zeroed E0.target (Local x) (scalar_of (integer u))) same (gone (at_depth v z)) (Always (at_depth v z)) (hold (Local x) (plain (number (pos 0))))
  zero_runs v z x u e =
      op_then (at_depth v z) (one (constant (width_of u) (pos 0))) (one (set E0.target (Local x))) same (λ (q : Unit {0}). Num (at_depth v z) u (pos 0)) (gone (at_depth v z)) (Always (at_depth v z)) (Always (at_depth v z)) (pure tt) (λ q. hold (Local x) (plain (number (pos 0))))
      (op_carried (at_depth v z) (constant (width_of u) (pos 0)) same (λ (q : Unit {0}). Num (at_depth v z) u (pos 0)) (Always (at_depth v z)) tt tt (λ vs. constant_is (width_of u) (pos 0) vs))
      (λ q ok. set_runs (at_depth v z) x (integer u) tt e [] (number (pos 0)) (zero_in u))

  none_zero : (v : List ℕ) (z x : ℕ) (t : Ty) → is_function t ≡ true → slice_get E0.kinds x ≡ Some (pointer t, false) → Op (at_depth v z) (scheme.zeroed E0.target (Local x) (Some scalars.Function)) same (gone (at_depth v z)) (Always (at_depth v z)) (hold (Local x) (plain no_function))
  none_zero v z x t d e =
      op_then_in (at_depth v z) [] (one (i32 0)) (one (set E0.target (Local x))) same (pushes (at_depth v z) (pointer t)) (λ hs. gone (at_depth v z)) (IsValue (at_depth v z) (pointer t)) (λ hs. Always (at_depth v z)) (pure no_function) (λ q. hold (Local x) (plain q)) (no_function_runs (at_depth v z) t d)
      (λ gs grown q ok. set_runs (at_depth v z) x (pointer t) tt e gs q ok)

  null_zero : (v : List ℕ) (z x : ℕ) (t : Ty) → is_function t ≡ false → slice_get E0.kinds x ≡ Some (pointer t, false) → Op (at_depth v z) (scheme.zeroed E0.target (Local x) (Some scalars.Pointer)) same (gone (at_depth v z)) (Always (at_depth v z)) (hold (Local x) (plain null))
  null_zero v z x t d e =
      op_then_in (at_depth v z) [] (one (Segment segment.Null)) (one (set E0.target (Local x))) same (pushes (at_depth v z) (pointer t)) (λ hs. gone (at_depth v z)) (IsValue (at_depth v z) (pointer t)) (λ hs. Always (at_depth v z)) (pure null) (λ q. hold (Local x) (plain q)) (null_runs (at_depth v z) t d)
      (λ gs grown q ok. set_runs (at_depth v z) x (pointer t) tt e gs q ok)

  zero_of : (v : List ℕ) (z x : ℕ) (t : Ty) → IsData t → slice_get E0.kinds x ≡ Some (t, false) → Op (at_depth v z) (scheme.zeroed E0.target (Local x) (scalar_of t)) same (gone (at_depth v z)) (Always (at_depth v z)) (hold (Local x) (plain (zero_value t)))
  zero_of v z x (integer u) d e = zero_runs v z x u e
  zero_of v z x (pointer t) d e = by (is_function t) refl where
    Zeroes : Bool → Type 0
    Zeroes b = Op (at_depth v z) (scheme.zeroed E0.target (Local x) (Some (if b then scalars.Function else scalars.Pointer))) same (gone (at_depth v z)) (Always (at_depth v z)) (hold (Local x) (plain (if b then no_function else null)))

    by : (b : Bool) → is_function t ≡ b → Zeroes b
    by true q = none_zero v z x t q e
    by false q = null_zero v z x t q e
  zero_of v z x void d e = absurd d
  zero_of v z x (struct n) d e = absurd d
  zero_of v z x (array t n) d e = absurd d
  zero_of v z x (function r ps) d e = absurd d

  -- plain variables are left as they are
  pub leave_is : (ns : List ℕ) → ArePlain E0 ns → (w : World) (m : Mem) → Holds E0 m w → leave E0.unit E0.calls E0.turn_bound kinds ns w ≡ gives tt w
  leave_is [] h w m held = refl
  leave_is (x ∷ ns) h w m held =
      let f = found E0.unit.structs E0.places E0.kinds m.homes w.locals x h.0.0 held h.0.1 in
      ap (λ (o : Option Held). after (after (known o w) (leave_held E0.unit E0.calls E0.turn_bound kinds)) (λ q. leave E0.unit E0.calls E0.turn_bound kinds ns)) f.is
      ∙ leave_is ns h.1 w m held

  leaves_on : (v : List ℕ) (l : Way) (size : ℕ) (now : Now) (w : World) (m : Mem) (t : Thread) (to : Flow → World → Mem → Thread) (y : Does Flow) (ns : List ℕ) → ArePlain E0 ns
      → Runs E0.site size m t w to (GoodFlow (at v) l now) (y w) → Runs E0.site size m t w to (GoodFlow (at v) l now) ((y >>= (λ f. leave E0.unit E0.calls E0.turn_bound kinds ns >> pure f)) w)
  leaves_on v l size now w m t to y ns al h =
      let z : size + 0 ≡ size = omega arith in
      let f = λ (f : Flow). leave E0.unit E0.calls E0.turn_bound kinds ns >> pure f in
      subst (λ (q : ℕ). Runs E0.site q m t w to (GoodFlow (at v) l now) (after (y w) f)) z
      (bind E0.site size 0 m t w to (GoodFlow (at v) l now) to (GoodFlow (at v) l now) (y w) f h
      (λ g w1 m1 ok. subst (λ (q : Result (Unit {0})). Runs E0.site 0 m1 (to g w1 m1) w1 to (GoodFlow (at v) l now) (after q (λ u. pure g))) (sym (leave_is ns al w1 m1 ok.1.held)) (here E0.site 0 w1 m1 to (GoodFlow (at v) l now) g ok)))

  pub left_runs : (v : List ℕ) (l : Way) (b c : ℕ) (x : Code) (y : Does Flow) (ns : List ℕ) → ArePlain E0 ns → FlowRuns (at v) l b c x same y → FlowRuns (at v) l b c x same (y >>= (λ f. leave E0.unit E0.calls E0.turn_bound kinds ns >> pure f))
  left_runs v l b c x y ns al h n has small now le vs r br cr rr caller a dep w m kp =
      leaves_on v l (size_of (x n)) now w m (at_work (at v) m w vs (front (x n).instrs r)) (to_flow (at v) vs r br cr rr caller) y ns al (h n has small now le vs r br cr rr caller a dep w m kp)

  pub no_objects : (ns : List ℕ) → ArePlain E0 ns → objects_in E0.target E0.slots ns ≡ []
  no_objects [] h = refl
  no_objects (x ∷ ns) h =
      ap (λ (b : Bool). map Local (cond b (x ∷ filter (scheme.object_of E0.target E0.slots) ns) (filter (scheme.object_of E0.target E0.slots) ns))) h.0.2 ∙ no_objects ns h.1

  -- ---- ways out

  -- the slots of a block are the function's
  among_of : (v ns : List ℕ) → AreNew (in_blocks v) ns → (x : ℕ) → is_visible ns x ≡ true → x < length E0.slots
  among_of v ns h x e = subst (λ (ts : List Ty). x < length ts) slots_are (below_seen (length k.slots) ns (new_below (in_blocks v) ns h) x e) where
    below_seen : (n : ℕ) (ms : List ℕ) → Below n ms → (y : ℕ) → is_visible ms y ≡ true → y < n
    below_seen n [] h y e = absurd cc
    below_seen n (m ∷ ms) h y e = by (m == y) refl e (below_seen n ms h.1 y) where
      by : (b : Bool) → (m == y) ≡ b → (b || is_visible ms y) ≡ true → (is_visible ms y ≡ true → y < n) → y < n
      by true q e f = subst (λ (z : ℕ). z < n) (eqb→eq m y (subst T (sym q) tt)) h.0
      by false q e f = f e

  out_frees : (v : List ℕ) (l : Way) (hs : List Home) (f : Flow) (b c : ℕ) (tail : Code) (pre : Stack) (us : List Variable) → us ≡ objects_in E0.target E0.slots (ahead l.off f) → IsOff (at v) v (ahead l.off f) → FlowOut (at v) l hs f b c tail pre → FlowIn (at v) l hs b c (freed E0.target us ⨾ tail) pre (pure f)
  out_frees v l hs f b c tail pre us e off h =
      subst (λ (ws : List Variable). FlowIn (at v) l hs b c (freed E0.target ws ⨾ tail) pre (pure f)) (sym e) (frees_out (at v) l hs f b c tail pre off h)

  -- of no value
  out_here : (v : List ℕ) (l : Way) (b c : ℕ) (x : Code) (pre : Stack) (y : Does Flow) → FlowIn (at v) l [] b c x pre y → FlowRuns (at v) l b c x pre y
  out_here v l b c x pre y h n has small now le vs r br cr rr caller a dep w m kp = h n has small now le vs r br cr rr caller a dep w m (extends_none m.homes) kp

  -- with the variables of one more block
  off_more : (v ns is : List ℕ) → AreNew (in_blocks v) ns → IsOff E0 v is → IsOff E0 (v ++ ns) (ns ++ is)
  off_more v ns is h o = record {
    differ = differ_both ns is (new_differ (in_blocks v) ns h) o.differ (λ x e. seen_not (is_visible is x) refl (λ q. let a = none_new (in_blocks v) ns h x (o.among x q).1 in let z : false ≡ true = sym a ∙ e in cc));
    among = λ x e. visible_either ns is x e (λ a. (among_of v ns h x a, visible_right v ns x a)) (λ a. let q = o.among x a in (q.0, visible_left v ns x q.1));
  } where
    seen_not : (b : Bool) {c : Bool} → c ≡ b → (c ≡ true → ⊥) → c ≡ false
    seen_not true e f = absurd (f e)
    seen_not false e f = e

  out_more : (v ns : List ℕ) (d : ℕ) (o : Option ℕ) (x : Exits) (off : Off) → AreNew (in_blocks v) ns → IsOut E0 v d o x off → IsOut E0 (v ++ ns) d o (with_objects (objects_in E0.target E0.slots ns) x) (with_off ns off)
  out_more v ns d o x off h out =
      let us = objects_in E0.target E0.slots ns in
      record {
        objects = ap (λ (ws : List Variable). us ++ ws) out.objects ∙ sym (objects_both E0.target E0.slots ns off.returned);
        by_break = take_append us x.objects x.left_by_break ∙ ap (λ (ws : List Variable). us ++ ws) out.by_break ∙ sym (objects_both E0.target E0.slots ns off.broken);
        by_continue = take_append us x.objects x.left_by_continue ∙ ap (λ (ws : List Variable). us ++ ws) out.by_continue ∙ sym (objects_both E0.target E0.slots ns off.continued);
        leaving = out.leaving;
        around = out.around;
        returned' = off_more v ns off.returned h out.returned';
        broken' = off_more v ns off.broken h out.broken';
        continued' = off_more v ns off.continued h out.continued';
      }

  loop_out : (v : List ℕ) (d : ℕ) (o : Option ℕ) (x : Exits) (off : Off) (C : Bool) → IsOut E0 v d o x off → IsOut E0 v d None (scheme.in_loop C x) (inside off)
  loop_out v d o x off C out = record { objects = out.objects; by_break = take_zero x.objects; by_continue = take_zero x.objects; leaving = refl; around = λ q e'. absurd cc; returned' = out.returned'; broken' = off_none E0 v; continued' = off_none E0 v }

  -- ---- what is evaluated for what it does

  perform_runs : (v : List ℕ) (l : Way) (b c : ℕ) (e : Expr) (t : Ty) → l.depth + waits e ≤ E0.waits → IsReady E0.may_call E0.target.is_object E0.unit true (uses.in_expr e) (in_expr_of e) → HasType (in_blocks v) e t → FlowRuns (at v) l b c (code.expr E0.target false l.depth e) same (value e >> pure next)
  perform_runs v l b c e t room x h = flow_of (at v) l b c (code.expr E0.target false l.depth e) (λ hs. gone (at v)) (IsValue (at v) t) (value e) (run_expr v false l.depth e t room x h) (λ hs a vs. refl)

  step_runs : (v : List ℕ) (d : ℕ) (s : Option Expr) → d + waits_step s ≤ E0.waits → IsReady E0.may_call E0.target.is_object E0.unit true (uses.in_step s) (in_step_of s) → IsStep (in_blocks v) s → Op (at_depth v d) (code.step E0.target d s) same (gone (at v)) (Always (at v)) (step_of E0.unit E0.calls E0.turn_bound s)
  step_runs v d None room x h = op_none (at_depth v d) same (gone (at v)) (Always (at v)) tt tt (λ vs. refl)
  step_runs v d (Some e) room x h =
      op_look_in (at_depth v d) [] (code.expr E0.target false d e) same (λ hs. gone (at v)) (λ hs. gone (at v)) (IsValue (at v) h.0) (λ hs. Always (at v)) (value e) (λ q. pure tt) (run_expr v false d e h.0 room x h.1) (λ gs more q ok. (tt, refl, λ vs. refl, tt))

  -- ---- a string that initialises an array

  string_runs : (v : List ℕ) (l : Way) (b c : ℕ) (p : Place) (n : ℕ) (bytes : List ℕ) → l.depth + waits_place p ≤ E0.waits → is_short bytes ≡ true → IsReady E0.may_call E0.target.is_object E0.unit true (uses.in_place p) (in_place_of p) → length bytes ≤ n → well.IsPlace (in_blocks v) p (array (integer Char) n)
      → FlowRuns (at v) l b c (scheme.filled E0.target (code.decayed (code.is_deref p) n (code.place E0.target l.depth p)) bytes) same (meant.stmt E0.unit E0.calls E0.turn_bound E0.kinds (tree.fill p n bytes))
  string_runs v l b c p n bytes room tested ready few h =
      let d = l.depth in
      let less = ltb→lt (length bytes) 4294967295 (subst T (sym tested) tt) in
      let size : n * 1 ≡ n = omega arith in
      let there = decays_run (at_depth v d) L home (in_blocks v) slots_are (calls_at v) (args_at v d) scalars_are slots_data refl structs_same functions_are sound names d p (integer Char) n
      (ready_at E0.may_call E0.target.is_object E0.unit d d E0.waits true (uses.in_place p) (in_place_of p) (waits_place p) (omega arith) room ready) h in
      let x = meaning.pointer (place E0.unit E0.calls p) >>= meaning.further values.inside in
      let code_of : ℕ → Code = λ k. code.decayed (code.is_deref p) k (code.place E0.target d p) in
      flow_of (at v) l b c (scheme.filled E0.target (code_of n) bytes) (λ hs. gone (at v)) (λ hs. Always (at v)) (x >>= (λ a. alter (write_all 1 a 0 (map char_of bytes))))
      (fill_runs (at_depth v d) bytes (omega (arith, less)) (code_of n) x (subst (λ (k : ℕ). Leaves (at_depth v d) (code_of k) (pointer (integer Char)) x) size there)) (λ hs a vs. refl)

  -- ---- if

  if_runs : (v : List ℕ) (l : Way) (b c : ℕ) (e : Expr) (u : IntType) (x y : Code) (f g : Does Flow) → l.depth + waits e ≤ E0.waits → IsReady E0.may_call E0.target.is_object E0.unit true (uses.in_expr e) (in_expr_of e) → well.IsNarrow u → HasType (in_blocks v) e (integer u) → IsWhole y → FlowRuns (at v) l (suc b) (suc c) x same f → FlowRuns (at v) l (suc b) (suc c) y same g
      → FlowRuns (at v) l b c (code.expr E0.target true l.depth e ⨾ choice None x y) same (meaning.test (value e) >>= (λ t. if t then f else g))
  if_runs v l b c e u x y f g room s narrow h whole rx ry n has small now le vs r br cr rr caller a dep w m kp =
      let ce = code.expr E0.target true l.depth e in
      let all = (ce ⨾ choice None x y) n in
      let q = λ (t : Bool). if t then f else g in
      subst (λ (p : Result Flow). Runs E0.site (size_of all) m (at_work (at v) m w vs (front all.instrs r)) w (to_flow (at v) vs r br cr rr caller) (GoodFlow (at v) l now) p) (sym (after_after (value e w) is_true q))
      (flow_behind (at v) l b c ce (choice None x y) same (pushed (integer u)) (IsOf (integer u)) (value e) (λ z. is_true z >>= q) (run_expr v true l.depth e (integer u) room s h)
      (λ z ok.
      of_number (at v) u (λ z. FlowRuns (at v) l b c (choice None x y) (pushed (integer u) z) (is_true z >>= q))
      (λ z i.
      subst (λ (wd : Width). FlowRuns (at v) l b c (choice None x y) (λ us. operand wd z ∷ us) (q (not (is_zero z)))) (sym (narrow_width u narrow))
      (flow_choice (at v) l b c x y (wrapped 32 z) (not (is_zero z)) f g whole (test_is (at v) u z (narrow_width u narrow) i) rx ry))
      z ok)
      n has small now le vs r br cr rr caller a dep w m kp)

  -- ---- returns

  returns_nothing : (v : List ℕ) (l : Way) (b c : ℕ) → E0.result ≡ void → FlowOut (at v) l [] (returned meaning.nothing_given) b c (one Return) same
  returns_nothing v l b c e =
      let z = meaning.nothing_given in
      let is : (λ (vs : List Word). pushes (at v) E0.result [] z vs) ≡ same = λ q vs. pushes (at v) (e q) [] z vs in
      subst (λ (st : Stack). FlowOut (at v) l [] (returned z) b c (one Return) st) is (flow_return (at v) l [] b c z (subst (λ (t : Ty). IsValue (at v) t [] z) (sym e) tt))

  -- ---- code without instructions has no sequences

  abbrev codes : ℕ → Exits → Stmt → Code
  codes d x s = scheme.stmt E0.target E0.slots d x s

  abbrev all_codes : ℕ → Exits → Stmts → Code
  all_codes d x ss = scheme.stmts E0.target E0.slots d x ss

  whole_entered : (x : ℕ) → IsWhole (entered E0.target (E0.target.is_object (Local x)) (Local x) (get_or E0.slots x void))
  whole_entered x = by (E0.target.is_object (Local x)) where
    zeroes : (o : Option Scalar) → IsWhole (scheme.zeroed E0.target (Local x) o)
    zeroes None = whole_plain []
    zeroes (Some s) = whole_plain _

    by : (b : Bool) → IsWhole (entered E0.target b (Local x) (get_or E0.slots x void))
    by true = λ n e. absurd cc
    by false = zeroes (scalar_of (get_or E0.slots x void))

  whole_enters : (ns : List ℕ) → IsWhole (enters E0.target E0.slots ns)
  whole_enters [] = whole_plain []
  whole_enters (x ∷ ns) = whole_then (entered E0.target (E0.target.is_object (Local x)) (Local x) (get_or E0.slots x void)) (enters E0.target E0.slots ns) (whole_entered x) (whole_enters ns)

  whole_freed : (vs : List Variable) → IsWhole (freed E0.target vs)
  whole_freed [] = whole_plain []
  whole_freed (v ∷ vs) = λ n e. absurd cc

  -- the same of this function where these may be named
  off_at : (v is : List ℕ) → IsOff E0 v is → IsOff (at v) v is
  off_at v is o = record { differ = o.differ; among = o.among }

  zeros : (v : List ℕ) (z x : ℕ) (t : Ty) → slice_get E0.kinds x ≡ Some (t, false) → Op (at_depth v z) (scheme.zeroed E0.target (Local x) (scalar_of t)) same (gone (at_depth v z)) (Always (at_depth v z)) (hold (Local x) (plain (zero_value t)))
  zeros v z x t e =
      let lt = slice_get_within E0.kinds x (t, false) e in
      let long = E0.as_long in
      let s = slot_at x (subst (λ (ts : List Ty). x < length ts) (sym slots_are) (omega (arith, lt, long))) in
      let at_kind = E0.kinds_are x s.0 (at_slot x s.0 s.1) in
      let same_slot = some_is (s.0, E0.target.is_object (Local x)) (t, false) (sym at_kind ∙ e) in
      let same_type : s.0 ≡ t = ap (λ (q : Slot). q.0) same_slot in
      zero_of v z x t (subst IsData same_type (slots_data x s.0 s.1 (ap (λ (q : Slot). q.1) same_slot))) e

  mutual
    whole_stmt : (v : List ℕ) (d : ℕ) (x : Exits) (l : Jumps) (s : Stmt) → IsStatement (in_blocks v) E0.result l s → IsWhole (codes d x s)
    whole_stmt v d x l nothing h = whole_plain []
    whole_stmt v d x l (perform e) h = whole_expr E0.target false d e
    whole_stmt v d x l (if_else e s t) h =
        whole_then (code.expr E0.target true d e) (choice None (codes d (within x) s) (codes d (within x) t)) (whole_expr E0.target true d e) (whole_choice None (codes d (within x) s) (codes d (within x) t))
    whole_stmt v d x l (loop e after s) h =
        let y = iterated E0.target (continues s) (codes d (scheme.in_loop (continues s) x) s) (code.step E0.target d after) (code.expr E0.target true d e) in
        whole_then (code.expr E0.target true d e) (choice None y no_code) (whole_expr E0.target true d e) (whole_choice None y no_code)
    whole_stmt v d x l (scope ns ss) h =
        whole_then (enters E0.target E0.slots ns) _ (whole_enters ns) (whole_then (all_codes d (with_objects (objects_in E0.target E0.slots ns) x) ss) (freed E0.target (objects_in E0.target E0.slots ns))
        (whole_stmts (v ++ ns) d (with_objects (objects_in E0.target E0.slots ns) x) l ss h.1) (whole_freed (objects_in E0.target E0.slots ns)))
    whole_stmt v d x l (return e) h = λ n e'. absurd (never_both (code.expr E0.target true d e n).instrs (freed E0.target x.objects (n + length (code.expr E0.target true d e n).seqs)).instrs Return e')
    whole_stmt v d x l return_nothing h = λ n e'. absurd (never_one (freed E0.target x.objects n).instrs Return e')
    whole_stmt v d x l break h = λ n e'. absurd (never_both (freed E0.target (take x.left_by_break x.objects) n).instrs (x.leaving (n + length (freed E0.target (take x.left_by_break x.objects) n).seqs)).instrs (Br x.break_label) e')
    whole_stmt v d x l continue h = λ n e'. absurd (never_one (freed E0.target (take x.left_by_continue x.objects) n).instrs (Br x.continue_label) e')
    whole_stmt v d x l (tree.fill q n bytes) h = whole_filled E0.target _ bytes
    whole_stmt v d x l (tree.do_while s e) h = λ n e'. absurd cc
    whole_stmt v d x l (tree.switch t e ns cases ss) h = λ n e'. absurd (never_in (code.expr E0.target true d e n).instrs _ _ _ e')

    whole_stmts : (v : List ℕ) (d : ℕ) (x : Exits) (l : Jumps) (ss : Stmts) → AreStatements (in_blocks v) E0.result l ss → IsWhole (all_codes d x ss)
    whole_stmts v d x l done h = whole_plain []
    whole_stmts v d x l (seq s ss) h =
        whole_then (codes d x s) (all_codes d x ss) (whole_stmt v d x l s h.0) (whole_stmts v d x l ss h.1)

  -- ---- all statements

  abbrev does : Stmt → Does Flow
  does s = meant.stmt E0.unit E0.calls E0.turn_bound kinds s

  abbrev do_all : Stmts → Does Flow
  do_all ss = stmts_from E0.unit E0.calls E0.turn_bound kinds 0 ss

  -- ---- groups of a switch

  abbrev do_from : ℕ → Stmts → Does Flow
  do_from n ss = stmts_from E0.unit E0.calls E0.turn_bound kinds n ss

  abbrev all_groups : ℕ → Exits → ℕ → Stmts → Code
  all_groups d x i ss = scheme.groups E0.target E0.slots d x i ss

  past : (ss : Stmts) (n : ℕ) → count ss ≤ n → do_from n ss ≡ pure next
  past done n le = refl
  past (seq s ss) zero le = absurd (omega (arith, le))
  past (seq s ss) (suc n) le = past ss n (omega (arith, le))

  from_group_is : (s : Stmt) (ss : Stmts) (n : ℕ) → from_group (does s) (λ k. do_from k ss) n ≡ do_from n (seq s ss)
  from_group_is s ss zero = refl
  from_group_is s ss (suc n) = refl

  no_groups : (v : List ℕ) (l : Way) (b c g : ℕ) → HeldRuns (at v) g l b c no_code (pure next)
  no_groups v l b c g n has small now le vs r br cr rr caller a dep w m k held = here E0.site 0 w m (to_flow (at v) vs r br cr rr caller) (GoodFlow (at v) l now) next (tt, k)

  same_below : (d q : ℕ) → Some d ≡ Some q → q < suc d
  same_below d q e = let z : d ≡ q = ap (λ (o : Option ℕ). or o) e in omega (arith, z) where
    or : Option ℕ → ℕ
    or None = d
    or (Some n) = n

  -- `break` leaves the switch when its objects have ended
  left_groups : (v : List ℕ) (l : Way) (b c g : ℕ) (x : Code) (y : Does Flow) (ns : List ℕ) → HeldRuns (at v) g l b c x (enter E0.unit E0.calls E0.turn_bound kinds ns >> (switched y >>= (λ f. leave E0.unit E0.calls E0.turn_bound kinds ns >> pure f)))
      → HeldRuns (at v) g l b c x (enter E0.unit E0.calls E0.turn_bound kinds ns >> (y >>= (λ f. leave E0.unit E0.calls E0.turn_bound kinds ns >> pure (behind_switch f))))
  left_groups v l b c g x y ns h n has small now le vs r br cr rr caller a dep w m kp held =
      let to = to_flow (at v) vs r br cr rr caller in
      let start = at_work (at v) m w vs (front (x n).instrs r) in
      let en = enter E0.unit E0.calls E0.turn_bound kinds ns in
      subst (λ (q : Does Flow). Runs E0.site (size_of (x n)) m start w to (GoodFlow (at v) l now) (after (en w) (λ u. q)))
      (λ i w1. after_after (y w1) (λ f. pure (behind_switch f)) (λ f. leave E0.unit E0.calls E0.turn_bound kinds ns >> pure f) i)
      (h n has small now le vs r br cr rr caller a dep w m kp held)

  mutual
    pub stmt_runs : (v : List ℕ) (d : ℕ) (o : Option ℕ) (x : Exits) (j : Jumps) (off : Off) (s : Stmt) → IsOut E0 v d o x off → d + waits_stmt s ≤ E0.waits → IsReady E0.may_call E0.target.is_object E0.unit (is_small s) (uses.in_stmt s) (in_stmt_of s)
        → IsStatement (in_blocks v) E0.result j s → FlowRuns (at v) (way j d o off) x.break_label x.continue_label (codes d x s) same (does s)
    stmt_runs v d o x j off nothing out room i h = flow_none (at v) (way j d o off) x.break_label x.continue_label
    stmt_runs v d o x j off (perform e) out room i h = perform_runs v (way j d o off) x.break_label x.continue_label e h.0 (omega (arith, room)) i h.1
    stmt_runs v d o x j off (if_else e s t) out room i h =
        let q = parts E0.may_call E0.target.is_object E0.unit true (is_small s && is_small t) (uses.in_expr e) (uses.in_stmt s ++ uses.in_stmt t) (in_expr_of e) (either (in_stmt_of s) (in_stmt_of t)) i in
        let q' = parts E0.may_call E0.target.is_object E0.unit (is_small s) (is_small t) (uses.in_stmt s) (uses.in_stmt t) (in_stmt_of s) (in_stmt_of t) q.1 in
        let out' : IsOut E0 v d o (within x) off = record { objects = out.objects; by_break = out.by_break; by_continue = out.by_continue; leaving = out.leaving; around = out.around; returned' = out.returned'; broken' = out.broken'; continued' = out.continued' } in
        if_runs v (way j d o off) x.break_label x.continue_label e h.0.0 (codes d (within x) s) (codes d (within x) t) (does s) (does t) (omega (arith, room)) q.0 h.0.1 h.0.2 (whole_stmt v d (within x) j t h.2)
        (stmt_runs v d o (within x) j off s out' (omega (arith, room)) q'.0 h.1) (stmt_runs v d o (within x) j off t out' (omega (arith, room)) q'.1 h.2)
    stmt_runs v d o x j off (loop e after' s) out room i h =
        let i' = looped E0.may_call E0.target.is_object E0.unit (is_small (loop e after' s)) (uses.in_stmt (loop e after' s)) e after' s i in
        let q = parts E0.may_call E0.target.is_object E0.unit true (is_small s) (uses.in_expr e) (uses.in_step after' ++ uses.in_stmt s) (in_expr_of e) (either (in_step_of after') (in_stmt_of s)) i' in
        let q' = parts E0.may_call E0.target.is_object E0.unit true (is_small s) (uses.in_step after') (uses.in_stmt s) (in_step_of after') (in_stmt_of s) q.1 in
        let T = code.expr E0.target true d e in
        let S = code.step E0.target d after' in
        let body = codes d (scheme.in_loop (continues s) x) s in
        subst (λ (y : Code). FlowRuns (at v) (way j d o off) x.break_label x.continue_label (T ⨾ choice None y no_code) same (does (loop e after' s))) (iterated_is E0.target (continues s) body S T)
        (while_runs (at v) h.0.0 (narrow_width h.0.0 h.0.1) T (value e) d (run_expr v true d e (integer h.0.0) (omega (arith, room)) q.0 h.0.2) S (step_of E0.unit E0.calls E0.turn_bound after') (step_runs v d after' (omega (arith, room)) q'.0 h.1)
        (continues s) body (does s) off (stmt_runs v d None (scheme.in_loop (continues s) x) (jumps_in (continues s)) (inside off) s (loop_out v d o x off (continues s) out) (omega (arith, room)) q'.1 (jumps_of (in_blocks v) E0.result s (continues s) refl h.2))
        j o x.break_label x.continue_label E0.turn_bound wide)
    stmt_runs v d o x j off (scope ns ss) out room i h =
        scope_runs (at v) (zeros v) ns (new_differ (in_blocks v) ns h.0) (among_of v ns h.0) (none_new (in_blocks v) ns h.0) (way j d o off) x.break_label x.continue_label (all_codes d (with_objects (objects_in E0.target E0.slots ns) x) ss) (do_all ss)
        (stmts_run (v ++ ns) d o (with_objects (objects_in E0.target E0.slots ns) x) j (with_off ns off) ss (out_more v ns d o x off h.0 out) room i h.1)
    stmt_runs v d o x j off (return e) out room i h =
        flow_behind_in (at v) (way j d o off) x.break_label x.continue_label (code.expr E0.target true d e) (freed E0.target x.objects ⨾ one Return) same (pushes (at v) E0.result) (IsValue (at v) E0.result) (value e) (λ z. pure (returned z)) (run_expr v true d e E0.result (omega (arith, room)) i h.1)
        (λ hs z ok. out_frees v (way j d o off) hs (returned z) x.break_label x.continue_label (one Return) (pushes (at v) E0.result hs z) x.objects out.objects (off_at v off.returned out.returned') (flow_return (at v) (way j d o off) hs x.break_label x.continue_label z ok))
    stmt_runs v d o x j off return_nothing out room i h =
        out_here v (way j d o off) x.break_label x.continue_label (freed E0.target x.objects ⨾ one Return) same (pure (returned meaning.nothing_given))
        (out_frees v (way j d o off) [] (returned meaning.nothing_given) x.break_label x.continue_label (one Return) same x.objects out.objects (off_at v off.returned out.returned') (returns_nothing v (way j d o off) x.break_label x.continue_label h))
    stmt_runs v d o x j off break out room i h =
        out_here v (way j d o off) x.break_label x.continue_label (freed E0.target (take x.left_by_break x.objects) ⨾ (x.leaving ⨾ one (Br x.break_label))) same (pure broken)
        (out_frees v (way j d o off) [] broken x.break_label x.continue_label (x.leaving ⨾ one (Br x.break_label)) same (take x.left_by_break x.objects) out.by_break (off_at v off.broken out.broken')
        (subst (λ (y : Code). FlowOut (at v) (way j d o off) [] broken x.break_label x.continue_label (y ⨾ one (Br x.break_label)) same) (sym out.leaving)
        (flow_leave (at v) j d o x.break_label x.continue_label off out.around (omega (arith, room)) h)))
    stmt_runs v d o x j off continue out room i h =
        out_here v (way j d o off) x.break_label x.continue_label (freed E0.target (take x.left_by_continue x.objects) ⨾ one (Br x.continue_label)) same (pure continued)
        (out_frees v (way j d o off) [] continued x.break_label x.continue_label (one (Br x.continue_label)) same (take x.left_by_continue x.objects) out.by_continue (off_at v off.continued out.continued') (flow_continue (at v) (way j d o off) x.break_label x.continue_label h))
    stmt_runs v d o x j off (tree.fill q n bytes) out room i h =
        let ready : IsReady E0.may_call E0.target.is_object E0.unit true (uses.in_place q) (in_place_of q) = record { fits = refl; callable = i.callable; known = i.known; objects = i.objects } in
        string_runs v (way j d o off) x.break_label x.continue_label q n bytes (omega (arith, room)) i.fits ready h.0 h.1
    stmt_runs v d o x j off (tree.do_while s e) out room i h =
        let i' : IsReady E0.may_call E0.target.is_object E0.unit (is_small s && true) (uses.in_stmt s ++ uses.in_expr e) (either (in_stmt_of s) (in_expr_of e)) = record { fits = ap (λ (b : Bool). b && true) i.fits; callable = i.callable; known = i.known; objects = i.objects } in
        let q = parts E0.may_call E0.target.is_object E0.unit (is_small s) true (uses.in_stmt s) (uses.in_expr e) (in_stmt_of s) (in_expr_of e) i' in
        let T = code.expr E0.target true d e in
        let body = codes d (scheme.in_loop (continues s) x) s in
        subst (λ (y : Code). FlowRuns (at v) (way j d o off) x.break_label x.continue_label (block None y) same (does (tree.do_while s e))) (iterated_is E0.target (continues s) body no_code T)
        (do_runs (at v) h.1.0 (narrow_width h.1.0 h.1.1) T (value e) d (run_expr v true d e (integer h.1.0) (omega (arith, room)) q.1 h.1.2) (continues s) body (does s) off (stmt_runs v d None (scheme.in_loop (continues s) x) (jumps_in (continues s)) (inside off) s (loop_out v d o x off (continues s) out) (omega (arith, room)) q.0 (jumps_of (in_blocks v) E0.result s (continues s) refl h.0))
        j o x.break_label x.continue_label E0.turn_bound wide)
    stmt_runs v d o x j off (tree.switch t e ns cases ss) out room i h =
        let l = way j d o off in
        let vs = objects_in E0.target E0.slots ns in
        let counted = behind_test E0.may_call E0.target.is_object E0.unit (nat_lt (count ss) no_group) (are_small ss) (uses.in_expr e ++ uses.in_stmts ss) (either (in_expr_of e) (in_stmts_of ss)) i in
        let q = parts E0.may_call E0.target.is_object E0.unit true (are_small ss) (uses.in_expr e) (uses.in_stmts ss) (in_expr_of e) (in_stmts_of ss) counted.1 in
        let few = ltb→lt (count ss) no_group (subst T (sym counted.0) tt) in
        let gs = all_groups d (scheme.in_group (waiting E0.target d) (with_objects vs x)) 0 ss in
        switch_runs (at v) t h.0 (count ss) cases h.3 h.4 (omega (arith, few)) d (omega (arith, room)) (code.expr E0.target true d e) (value e) (run_expr v true d e (integer t) (omega (arith, room)) q.0 h.1) j o off x.break_label x.continue_label
        (enters E0.target E0.slots ns ⨾ (gs ⨾ freed E0.target vs))
        (λ z. enter E0.unit E0.calls E0.turn_bound kinds ns >> (do_from (goes_to cases (bits_of t z) (count ss)) ss >>= (λ f. leave E0.unit E0.calls E0.turn_bound kinds ns >> pure (behind_switch f))))
        (λ z iz.
        let g = goes_to cases (bits_of t z) (count ss) in
        let small = goes_small t (count ss) (bits_of t z) cases h.3 in
        left_groups v l x.break_label x.continue_label g (enters E0.target E0.slots ns ⨾ (gs ⨾ freed E0.target vs)) (do_from g ss) ns
        (held_scope (at v) (zeros v) ns (new_differ (in_blocks v) ns h.2) (among_of v ns h.2) (none_new (in_blocks v) ns h.2) g l x.break_label x.continue_label gs (switched (do_from g ss))
        (subst (λ (n : ℕ). HeldRuns (at (v ++ ns)) g (way j d o (with_off ns off)) x.break_label x.continue_label gs (switched (do_from n ss))) (let y : g - 0 ≡ g = omega arith in y)
        (groups_run (v ++ ns) d o (with_objects vs x) j (with_off ns off) ss 0 (out_more v ns d o x off h.2 out) (omega (arith, few)) (omega (arith, room)) q.1 h.5 x.break_label g (omega (arith, small, few))))))

    pub stmts_run : (v : List ℕ) (d : ℕ) (o : Option ℕ) (x : Exits) (j : Jumps) (off : Off) (ss : Stmts) → IsOut E0 v d o x off → d + waits_stmts ss ≤ E0.waits → IsReady E0.may_call E0.target.is_object E0.unit (are_small ss) (uses.in_stmts ss) (in_stmts_of ss)
        → AreStatements (in_blocks v) E0.result j ss → FlowRuns (at v) (way j d o off) x.break_label x.continue_label (all_codes d x ss) same (do_all ss)
    stmts_run v d o x j off done out room i h = flow_none (at v) (way j d o off) x.break_label x.continue_label
    stmts_run v d o x j off (seq s ss) out room i h =
        let q = parts E0.may_call E0.target.is_object E0.unit (is_small s) (are_small ss) (uses.in_stmt s) (uses.in_stmts ss) (in_stmt_of s) (in_stmts_of ss) i in
        flow_seq (at v) (way j d o off) x.break_label x.continue_label (codes d x s) (all_codes d x ss) (does s) (do_all ss) (stmt_runs v d o x j off s out (omega (arith, room)) q.0 h.0) (stmts_run v d o x j off ss out (omega (arith, room)) q.1 h.1)

    -- the groups of a switch, from the i-th on
    groups_run : (v : List ℕ) (d : ℕ) (o : Option ℕ) (x : Exits) (j : Jumps) (off : Off) (ss : Stmts) (i : ℕ) → IsOut E0 v d o x off → i + count ss ≤ no_group → suc d + waits_stmts ss ≤ E0.waits
        → IsReady E0.may_call E0.target.is_object E0.unit (are_small ss) (uses.in_stmts ss) (in_stmts_of ss) → AreStatements (in_blocks v) E0.result (judged.in_switch j) ss → (b g : ℕ) → g ≤ no_group
        → HeldRuns (at v) g (way j d o off) b x.continue_label (all_groups d (scheme.in_group (waiting E0.target d) x) i ss) (switched (do_from (g - i) ss))
    groups_run v d o x j off done i out few room ready h b g le = no_groups v (way j d o off) b x.continue_label g
    groups_run v d o x j off (seq s ss) i out few room ready h b g le =
        let q = parts E0.may_call E0.target.is_object E0.unit (is_small s) (are_small ss) (uses.in_stmt s) (uses.in_stmts ss) (in_stmt_of s) (in_stmts_of ss) ready in
        let xg = scheme.in_group (waiting E0.target d) x in
        let out' : IsOut E0 v (suc d) (Some d) xg (record off { broken = [] }) = record { objects = out.objects; by_break = take_zero x.objects; by_continue = out.by_continue; leaving = refl; around = λ k e. same_below d k e; returned' = out.returned'; broken' = off_none E0 v; continued' = out.continued' } in
        subst (λ (y : Does Flow). HeldRuns (at v) g (way j d o off) b x.continue_label (all_groups d xg i (seq s ss)) (switched y)) (from_group_is s ss (g - i))
        (group_then (at v) j d o off b x.continue_label i (omega (arith, few)) (codes (suc d) xg s) (does s)
        (stmt_runs v (suc d) (Some d) xg (judged.in_switch j) (record off { broken = [] }) s out' (omega (arith, room)) q.0 h.0)
        (all_groups d xg (suc i) ss) (λ k. do_from k ss) (omega (arith, few)) (past ss (no_group - suc i) (omega (arith, few)))
        (λ g' le'. groups_run v d o x j off ss (suc i) out (omega (arith, few)) (omega (arith, room)) q.1 h.1 b g' le')
        g le)
