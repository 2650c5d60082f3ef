-- Loops with the test behind: the block around them takes the place of the arm in which a loop with the test in front stands.
use Rattle.std.proofs.Common.{◌≡◌, ℕ, zero, suc, ◌+◌, ◌≤◌, List, [], ◌∷◌, length, Bool, Option, None, refl, sym, ap, ◌∙◌, arith, subst}
use Rattle.std.specs.Prelude.{not, if◌then◌else◌}
use Rattle.ms_linear.specs.declared.value.Value.{Value as Word}
use Rattle.ms_linear.specs.declared.value.Value.TheVariants.{I32}
use Rattle.ms_machine.specs.Step as step
use Rattle.ms_module.specs.declared.instr.Instr.{Instr}
use Rattle.ms_module.specs.declared.instr.Instr.TheVariants.{Block, BrIf, Loop}
use Rattle.ms_module.specs.declared.numeric.Width.{Width}
use Rattle.ms_module.specs.declared.numeric.Width.TheVariants.{W32}
use Rattle.ms_num.specs.Integers.{wrapped}
use Rattle.ms_task.specs.Control.{exit_ended}
use Rattle.ms_task.specs.Thread.{Do, Frame, Item, Label, Thread, thread, depth_of, sequence}
use Rattle.c_typed.specs.declared.jumps.Jumps.{Jumps}
use Rattle.c_types.specs.declared.integers.IntType.{IntType}
use Rattle.c_types.specs.Types.{integer}
use Rattle.c_meaning.specs.Values.{Value, number}
use Rattle.c_meaning.specs.World.{World, Result, gives, ends, Does, after, ◌>>=◌, ◌>>◌, pure, spend}
use Rattle.c_meaning.specs.Integers.{is_zero}
use Rattle.c_meaning.specs.Expressions as meaning
use Rattle.c_meaning.specs.Expressions.{is_true}
use Rattle.c_meaning.specs.Statements.{Flow, next, broken, continued, returned, behind_body, do_loops}
use Rattle.ms_emit.specs.Codes.{Code, one, no_code, ◌⨾◌, block, repeat, size_of}
use Rattle.c_code.specs.Operations.{width_of}
use Rattle.c_numbers.specs.Operands.{operand}
use Rattle.c_runs.proofs.Ahead.{Leads, leads_first, leads_further, leads_out, leads_paid}
use Rattle.c_runs.proofs.Goes as goes
use Rattle.c_runs.proofs.Goes.{Mem, Runs, RunsTo, after_after, agrees_after, behind_goes, given, goes_on, one_here, resize, resize_to, stops_behind}
use Rattle.c_runs.proofs.Grants.{Agrees}
use Rattle.c_runs.proofs.Related.{Env, HasAll, IsValue, Kept, Now, kept_fuel, pushes, frame_of, front, front_append, has_back, has_front, beside}
use Rattle.c_runs.proofs.Ops.{GoodIn, IsTest, Op, ToIn, at_work, into, is_no, is_yes, op_none, same, size_joined}
use Rattle.c_runs.proofs.Nodes.{Always, Leaves, gone, test_is}
use Rattle.c_runs.proofs.Flows.{Around, FlowRuns, GoodFlow, IsAt, Off, Way, starts, to_flow, way}
use Rattle.c_runs.proofs.Loops as loops
use Rattle.c_runs.proofs.Loops.{bodied, body_way, lower, weaken}

-- the parts' sizes
part_sizes : (T : Code) (C : Bool) (body : Code) (x : ℕ) → size_of (bodied body C (suc x)) + (size_of (T ((suc x + length (bodied body C (suc x)).seqs) + 0)) + 1) ≡ size_of ((bodied body C ⨾ no_code ⨾ T ⨾ one (BrIf 0)) (suc x))
part_sizes T C body x =
    let cB = bodied body C (suc x) in
    let p1 = suc x + length cB.seqs in
    let p2 = p1 + 0 in
    let a = size_joined cB ((no_code ⨾ T ⨾ one (BrIf 0)) p1) in
    let b = size_joined (no_code p1) ((T ⨾ one (BrIf 0)) p2) in
    let c = size_joined (T p2) (one (BrIf 0) (p2 + length (T p2).seqs)) in
    omega (arith, a, b, c)

module _ (E : Env) (u : IntType) (narrow : width_of u ≡ W32) (T : Code) (test : Does Value) (d : ℕ) (rt : Leaves (beside d E) T (integer u) test)
    (C : Bool) (body : Code) (mx : Does Flow) (off : Off) (rx : FlowRuns E (body_way d C off) (if C then 2 else 1) 0 body same mx) (N : ℕ)
    (vs : List Word) (r br cr rr : List Item) (caller : Frame) (b c : ℕ) (js : Jumps) (lo : Option ℕ) (a : Around E vs r b c (way js d lo off) br cr rr caller) (dep : depth_of r ≡ E.depth) where
  abbrev l : Way
  l = way js d lo off

  no_step : Op (beside d E) no_code same (gone E) (Always E) (pure tt)
  no_step = op_none (beside d E) same (gone E) (Always E) tt tt (λ us. refl)

  abbrev R : Code
  R = bodied body C ⨾ no_code ⨾ T ⨾ one (BrIf 0)

  abbrev ring : List Item
  ring = loops.ring E u narrow T test d rt no_code (pure tt) no_step C body mx off rx N vs r br cr rr caller b c js lo a dep

  abbrev outer : List Item
  outer = Label None (length vs) None ∷ r

  abbrev to : Flow → World → Mem → Thread
  to = to_flow E vs r br cr rr caller

  abbrev head : Mem → World → Thread
  head m w = thread (frame_of E m w) vs (Do (Loop None N) ∷ outer)

  abbrev n1 : ℕ
  n1 = suc N + length (bodied body C (suc N)).seqs

  abbrev n2 : ℕ
  n2 = n1 + 0

  abbrev tail1 : List Instr
  tail1 = ((no_code ⨾ T ⨾ one (BrIf 0)) n1).instrs

  abbrev sB : ℕ
  sB = size_of (bodied body C (suc N))

  abbrev sT : ℕ
  sT = size_of (T n2)

  abbrev turn : ℕ
  turn = ((1 + sB) + sT) + 1

  abbrev again : ℕ → Does Flow
  again n = do_loops n (meaning.test test) mx

  abbrev behind_test : ℕ → Bool → Does Flow
  behind_test n x = if x then (spend >> again n) else pure next

  module _ (at_loop : sequence E.site.funcs E.fn N ≡ (R (suc N)).instrs) (has : HasAll E.site.funcs E.fn (suc N) (R (suc N)).seqs) (room : turn ≤ E.site.most) where
    hasB : HasAll E.site.funcs E.fn (suc N) (bodied body C (suc N)).seqs
    hasB = has_front E.site.funcs E.fn (suc N) (bodied body C (suc N)).seqs ((no_code ⨾ T ⨾ one (BrIf 0)) n1).seqs has

    hasT : HasAll E.site.funcs E.fn n2 (T n2).seqs
    hasT = let e : n1 ≡ n2 = omega arith in
        has_front E.site.funcs E.fn n2 (T n2).seqs [] (subst (λ (q : ℕ). HasAll E.site.funcs E.fn q ((T ⨾ one (BrIf 0)) n2).seqs) e (has_back E.site.funcs E.fn (suc N) (bodied body C (suc N)).seqs ((no_code ⨾ T ⨾ one (BrIf 0)) n1).seqs has))

    abbrev Iterates : ℕ → Type 0
    Iterates n = (now : Now) → IsAt E d now → now.below ≤ n → (w : World) (m : Mem) → Kept E now w m → Runs E.site turn m (head m w) w to (GoodFlow E l now) (again n w)

    module _ (n : ℕ) (ih : Iterates n) (now : Now) (le : IsAt E d now) (le' : now.below ≤ suc n) (w : World) (m : Mem) where
      -- again at the loop's instruction, with a unit to spend
      paid_runs : (w2 : World) (m2 : Mem) (q : ℕ) → Kept E now (record w2 { fuel = q }) m2 → Leads E.site turn w (record w2 { fuel = q }) m (head m w) m2 (head m2 w2) → Agrees E.site.last (goes.store E.site m2) (head m2 w2) (given w2) w2.grants
          → RunsTo E.site turn m (head m w) w to (GoodFlow E l now) (after (spend (record w2 { fuel = q })) (λ x. again n))
      paid_runs w2 m2 zero k ld ag = leads_out E.site turn turn w (record w2 { fuel = 0 }) m m2 (head m w) (head m2 w2) (omega arith) ld refl refl
      paid_runs w2 m2 (suc f) k ld ag =
          let w3 : World = record w2 { fuel = f } in
          let now' : Now = lower E (suc f) now in
          let lt = k.less in
          let k3 : Kept E now' w3 m2 = kept_fuel E now (suc f) w2.objects (record w2 { fuel = suc f }) m2 f (omega arith) k in
          leads_paid E.site turn turn turn f w (record w2 { fuel = suc f }) m m2 (head m w) (head m2 w2) to (GoodFlow E l now) (again n w3) ld refl (omega (arith, room))
          (weaken E l now (suc f) turn m2 (head m2 w2) w3 to (again n w3) (omega (arith, lt)) (ih now' (record { below = omega (arith, lt, le.below); waits = le.waits; seen = le.seen }) (omega (arith, lt, le')) w3 m2 k3 ag))

      -- behind the test
      decide : (z : ℕ) (t : Bool) → IsTest E z t → (w2 : World) (m2 : Mem) → Kept E now w2 m2 → Leads E.site ((1 + sB) + sT) w w2 m (head m w) m2 (thread (frame_of E m2 w2) (I32 z ∷ vs) (Do (BrIf 0) ∷ ring))
          → Agrees E.site.last (goes.store E.site m2) (thread (frame_of E m2 w2) (I32 z ∷ vs) (Do (BrIf 0) ∷ ring)) (given w2) w2.grants → RunsTo E.site turn m (head m w) w to (GoodFlow E l now) (behind_test n t w2)
      decide z t (is_yes q ez et) w2 m2 k ld ag =
          let t2 = thread (frame_of E m2 w2) (I32 z ∷ vs) (Do (BrIf 0) ∷ ring) in
          let g = one_here E.site w2 m2 m2 (BrIf 0) (frame_of E m2 w2) (I32 z ∷ vs) ring (head m2 w2)
          (ap (λ (y : ℕ). step.act (goes.store E.site m2) (BrIf 0) (thread (frame_of E m2 w2) (I32 y ∷ vs) ring)) ez ∙ ap (step.moved (goes.store E.site m2)) (loops.to_head E u narrow T test d rt no_code (pure tt) no_step C body mx off rx N vs r br cr rr caller b c js lo a dep (frame_of E m2 w2))) in
          subst (λ (x : Bool). RunsTo E.site turn m (head m w) w to (GoodFlow E l now) (behind_test n x w2)) (sym et)
          (paid_runs w2 m2 w2.fuel k (leads_further E.site ((1 + sB) + sT) 1 w w2 w2 m m2 m2 (head m w) t2 (head m2 w2) ld g) (agrees_after E.site 1 w2 w2 m2 m2 t2 (head m2 w2) g ag))
      decide z t (is_no ez et) w2 m2 k ld ag =
          let t2 = thread (frame_of E m2 w2) (I32 z ∷ vs) (Do (BrIf 0) ∷ ring) in
          let g = one_here E.site w2 m2 m2 (BrIf 0) (frame_of E m2 w2) (I32 z ∷ vs) ring (thread (frame_of E m2 w2) vs ring) (ap (λ (y : ℕ). step.act (goes.store E.site m2) (BrIf 0) (thread (frame_of E m2 w2) (I32 y ∷ vs) ring)) ez) in
          subst (λ (x : Bool). RunsTo E.site turn m (head m w) w to (GoodFlow E l now) (behind_test n x w2)) (sym et)
          (m2, (tt, k), goes_on E.site ((1 + sB) + sT) 1 w w2 w2 m m2 m2 (head m w) t2 (at_work E m2 w2 vs r) ld.goes g)

      -- the test, behind the body
      abbrev at_test : Mem → World → Thread
      at_test m1 w1 = at_work E m1 w1 vs (front (T n2).instrs (Do (BrIf 0) ∷ ring))

      test_by : (w1 : World) (m1 : Mem) → Leads E.site (1 + sB) w w1 m (head m w) m1 (at_test m1 w1) → Agrees E.site.last (goes.store E.site m1) (at_test m1 w1) (given w1) w1.grants
          → (y : Result Value) → RunsTo E.site sT m1 (at_test m1 w1) w1 (ToIn E (pushes E (integer u)) vs (Do (BrIf 0) ∷ ring)) (GoodIn E (IsValue E (integer u)) now) y
          → RunsTo E.site turn m (head m w) w to (GoodFlow E l now) (after y (λ v w2. after (is_true v w2) (behind_test n)))
      test_by w1 m1 ld ag (ends e w2) h = resize_to E.site ((1 + sB) + sT) turn m (head m w) w to (GoodFlow E l now) (ends e w2) (omega arith) (stops_behind E.site (1 + sB) sT w w1 w2 m m1 (head m w) (at_test m1 w1) e ld.goes h)
      test_by w1 m1 ld ag (gives v w2) h = by v h.1.0 h.2 where
        by : (v : Value) → IsValue E (integer u) h.0.homes v → goes.Goes E.site sT w1 w2 m1 (at_test m1 w1) h.0 (at_work E h.0 w2 (pushes E (integer u) h.0.homes v vs) (Do (BrIf 0) ∷ ring))
            → RunsTo E.site turn m (head m w) w to (GoodFlow E l now) (after (is_true v w2) (behind_test n))
        by (number z) i g =
            let t2 = thread (frame_of E h.0 w2) (I32 (wrapped 32 z) ∷ vs) (Do (BrIf 0) ∷ ring) in
            let g' = subst (λ (wd : Width). goes.Goes E.site sT w1 w2 m1 (at_test m1 w1) h.0 (at_work E h.0 w2 (operand wd z ∷ vs) (Do (BrIf 0) ∷ ring))) narrow g in
            decide (wrapped 32 z) (not (is_zero z)) (test_is E u z narrow i) w2 h.0 h.1.1 (leads_further E.site (1 + sB) sT w w1 w2 m m1 h.0 (head m w) (at_test m1 w1) t2 ld g') (agrees_after E.site sT w1 w2 m1 h.0 (at_test m1 w1) t2 g' ag)
        by _ i g = absurd i

      behind_runs : (w1 : World) (m1 : Mem) → Kept E now w1 m1 → Leads E.site (1 + sB) w w1 m (head m w) m1 (at_work E m1 w1 vs (front tail1 ring)) → Agrees E.site.last (goes.store E.site m1) (at_work E m1 w1 vs (front tail1 ring)) (given w1) w1.grants
          → RunsTo E.site turn m (head m w) w to (GoodFlow E l now) ((meaning.test test >>= behind_test n) w1)
      behind_runs w1 m1 k1 ld ag =
          let split = front_append (T n2).instrs (BrIf 0 ∷ []) ring in
          let ag' = subst (λ (q : List Item). Agrees E.site.last (goes.store E.site m1) (at_work E m1 w1 vs q) (given w1) w1.grants) split ag in
          subst (λ (y : Result Flow). RunsTo E.site turn m (head m w) w to (GoodFlow E l now) y) (sym (after_after (test w1) is_true (behind_test n)))
          (test_by w1 m1 (subst (λ (q : List Item). Leads E.site (1 + sB) w w1 m (head m w) m1 (at_work E m1 w1 vs q)) split ld) ag' (test w1) (rt n2 hasT now (starts E d now le) vs (Do (BrIf 0) ∷ ring) dep w1 m1 k1 ag'))

      abbrev t0 : Thread
      t0 = at_work E m w vs (front (bodied body C (suc N)).instrs (front tail1 ring))

      first : Leads E.site 1 w w m (head m w) m t0
      first =
          subst (λ (q : List Item). Leads E.site 1 w w m (head m w) m (at_work E m w vs q)) (front_append (bodied body C (suc N)).instrs tail1 ring)
          (leads_first E.site w m (Loop None N) (frame_of E m w) vs outer (thread (frame_of E m w) vs (front (R (suc N)).instrs ring)) (ap (λ (is : List Instr). step.Next (goes.store E.site m) (thread (frame_of E m w) vs (front is ring)) None) at_loop))

      abbrev to_body : Flow → World → Mem → Thread
      to_body = to_flow E vs (front tail1 ring) r (front tail1 ring) rr caller

      body_by : Agrees E.site.last (goes.store E.site m) t0 (given w) w.grants → (y : Result Flow) → RunsTo E.site sB m t0 w to_body (GoodFlow E (body_way d C off) now) y
          → RunsTo E.site turn m (head m w) w to (GoodFlow E l now) (after y (behind_body (meaning.test test >>= behind_test n)))
      body_by ag (ends e w1) h = resize_to E.site (1 + sB) turn m (head m w) w to (GoodFlow E l now) (ends e w1) (omega arith) (stops_behind E.site 1 sB w w w1 m m (head m w) t0 e first.goes h)
      body_by ag (gives next w1) q =
          let t1 = at_work E q.0 w1 vs (front tail1 ring) in
          behind_runs w1 q.0 q.1.1 (leads_further E.site 1 sB w w w1 m m q.0 (head m w) t0 t1 first q.2) (agrees_after E.site sB w w1 m q.0 t0 t1 q.2 ag)
      body_by ag (gives continued w1) q =
          let t1 = at_work E q.0 w1 vs (front tail1 ring) in
          behind_runs w1 q.0 q.1.1 (leads_further E.site 1 sB w w w1 m m q.0 (head m w) t0 t1 first q.2) (agrees_after E.site sB w w1 m q.0 t0 t1 q.2 ag)
      body_by ag (gives broken w1) q =
          resize_to E.site (1 + sB) turn m (head m w) w to (GoodFlow E l now) (gives next w1) (omega arith) (q.0, (tt, q.1.1), goes_on E.site 1 sB w w w1 m m q.0 (head m w) t0 (at_work E q.0 w1 vs r) first.goes q.2)
      body_by ag (gives (returned v) w1) q =
          resize_to E.site (1 + sB) turn m (head m w) w to (GoodFlow E l now) (gives (returned v) w1) (omega arith)
          (q.0, (q.1.0, q.1.1), goes_on E.site 1 sB w w w1 m m q.0 (head m w) t0 (exit_ended caller (pushes E E.result q.0.homes v vs) rr) first.goes q.2)

      iterates : Kept E now w m → Runs E.site turn m (head m w) w to (GoodFlow E l now) (again (suc n) w)
      iterates k ag =
          let ag0 = agrees_after E.site 1 w w m m (head m w) t0 first.goes ag in
          body_by ag0 (mx w) (loops.body_runs E u narrow T test d rt no_code (pure tt) no_step C body mx off rx N vs r br cr rr caller b c js lo a dep hasB (omega (arith, room)) now le w m k ag0)

    pub all_iterate : (n : ℕ) → Iterates n
    all_iterate zero now le le' w m k = absurd (let lt = k.less in omega (arith, lt, le'))
    all_iterate (suc n) now le le' w m k = iterates n (all_iterate n) now le le' w m k

-- ---- the loop, in its block

module _ (E : Env) where
  pub do_runs : (u : IntType) → width_of u ≡ W32 → (T : Code) (test : Does Value) (d : ℕ) → Leaves (beside d E) T (integer u) test
      → (C : Bool) (body : Code) (mx : Does Flow) (off : Off) → FlowRuns E (body_way d C off) (if C then 2 else 1) 0 body same mx → (js : Jumps) (lo : Option ℕ) → (b c bound : ℕ) → E.bound ≤ bound
      → FlowRuns E (way js d lo off) b c (block None (repeat None (bodied body C ⨾ no_code ⨾ T ⨾ one (BrIf 0)))) same (do_loops bound (meaning.test test) mx)
  do_runs u narrow T test d rt C body mx off rx js lo b c bound wide n has small now le vs r br cr rr caller a dep w m k =
      let N = suc n in
      let loop = repeat None (bodied body C ⨾ no_code ⨾ T ⨾ one (BrIf 0)) in
      let to' = to_flow E vs r br cr rr caller in
      let size = turn E u narrow T test d rt C body mx off rx N vs r br cr rr caller b c js lo a dep in
      let parts = part_sizes T C body N in
      resize E.site (1 + size) (size_of (block None loop n)) m (at_work E m w vs (Do (Block None n) ∷ r)) w to' (GoodFlow E (way js d lo off) now) (do_loops bound (meaning.test test) mx w) (omega (arith, parts))
      (into E (Block None n) vs None size (Loop None N ∷ []) to' (GoodFlow E (way js d lo off) now) (do_loops bound (meaning.test test) mx w) vs r w m
      (ap (λ (is : List Instr). step.Next (goes.store E.site m) (thread (frame_of E m w) vs (front is (Label None (length vs) None ∷ r))) None) has.0)
      (all_iterate E u narrow T test d rt C body mx off rx N vs r br cr rr caller b c js lo a dep has.1.0 has.1.1 (omega (arith, parts, small)) bound now le (omega (arith, le.below, wide)) w m k))
