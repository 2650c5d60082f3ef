-- Loops with the test in front, whose iterations cost a unit of fuel each.
use Rattle.std.proofs.Common.{◌≡◌, ℕ, zero, suc, ◌+◌, ◌≤◌, List, [], ◌∷◌, ◌++◌, length, Bool, true, false, Option, Some, None, refl, sym, ap, ◌∙◌, arith, subst}
use Rattle.std.specs.Prelude.{not, if◌then◌else◌}
use Rattle.ms_linear.specs.declared.value.Value.{Value as Word}
use Rattle.ms_linear.specs.declared.value.Value.TheVariants.{I32}
use Rattle.ms_machine.specs.Crews.{Input}
use Rattle.ms_machine.specs.Store.{Store}
use Rattle.ms_machine.specs.Step as step
use Rattle.ms_module.specs.declared.instr.Instr.{Instr}
use Rattle.ms_module.specs.declared.instr.Instr.TheVariants.{Block, BrIf, Loop}
use Rattle.ms_module.specs.declared.numeric.Width.{Width}
use Rattle.ms_module.specs.declared.numeric.Width.TheVariants.{W32}
use Rattle.ms_num.specs.Integers.{wrapped}
use Rattle.ms_task.specs.Control.{To, branch, kept, return_on, exit_ended}
use Rattle.ms_task.specs.Thread.{Do, Frame, Item, Label, Thread, thread, depth_of, sequence}
use Rattle.ms_task.proofs.Items.{branch_past, return_past}
use Rattle.c_types.specs.declared.integers.IntType.{IntType}
use Rattle.c_types.specs.Types.{integer}
use Rattle.c_typed.specs.declared.jumps.Jumps.{Jumps}
use Rattle.c_meaning.specs.Values.{Value}
use Rattle.c_meaning.specs.World.{World, Result, gives, ends, Does, after, ◌>>=◌, ◌>>◌, pure, spend}
use Rattle.c_meaning.specs.Integers.{is_zero}
use Rattle.c_meaning.specs.Expressions as meaning
use Rattle.c_meaning.specs.Expressions.{is_true}
use Rattle.c_meaning.specs.Statements.{Flow, next, broken, continued, returned, behind_body, loops}
use Rattle.ms_emit.specs.Codes.{Code, one, no_code, ◌⨾◌, block, choice, inner, repeat, size_of}
use Rattle.c_code.specs.Operations.{width_of}
use Rattle.c_code.specs.Statements.{iterated}
use Rattle.c_code.specs.Targets.{Target}
use Rattle.c_numbers.specs.Operands.{operand}
use Rattle.c_runs.specs.Threads.{Paused, ran, steps_to}
use Rattle.c_runs.proofs.Ahead.{Leads, leads_first, leads_further, leads_out, leads_paid}
use Rattle.c_runs.proofs.Goes as goes
use Rattle.c_runs.proofs.Grants.{Agrees}
use Rattle.c_runs.proofs.Goes.{Mem, Runs, RunsTo, after_after, agrees_after, behind_goes, bind, given, goes_on, here, one_here, resize, resize_to, stops_behind}
use Rattle.c_meaning.specs.Objects.{Object}
use Rattle.ms_relate.specs.refinement.Homes.{Home}
use Rattle.c_runs.proofs.Held.{ending}
use Rattle.c_runs.proofs.Related.{Env, HasAll, IsValue, Kept, KeptAs, Now, kept_below, kept_fuel, pushes, depth_front, frame_of, front, front_append, has_back, has_front, total_append, beside}
use Rattle.c_runs.proofs.Ops.{GoodIn, IsTest, Op, ToIn, To_, Good, at_work, choice_at, into, is_no, is_yes, runs_choice, same, size_joined}
use Rattle.c_runs.proofs.Nodes.{Always, Leaves, gone, of_number, test_is}
use Rattle.c_runs.proofs.Flows.{Around, FlowRuns, GoodFlow, IsAt, Off, Way, after_flow, ahead, starts, in_label, lowest_all, to_flow, way}

-- the body may have a `continue` of its own
abbrev pub jumps_in : Bool → Jumps
jumps_in b = record { breaks = true; continues = b }

-- by a `return` alone it leaves blocks outside of the loop
abbrev pub inside : Off → Off
inside off = record { broken = []; continued = []; returned = off.returned }

abbrev pub body_way : (depth : ℕ) → Bool → Off → Way
body_way d b off = way (jumps_in b) d None (inside off)

-- the body, in a block of its own where it has a `continue`
abbrev pub bodied : Code → Bool → Code
bodied body false = body
bodied body true = block None body

pub iterated_is : (t : Target) (C : Bool) (body S T : Code) → repeat None (bodied body C ⨾ S ⨾ T ⨾ one (BrIf 0)) ≡ iterated t C body S T
iterated_is t true body S T = refl
iterated_is t false body S T = refl

module _ (E : Env) where
  -- a fact that is weaker at the end
  abbrev pub lower : ℕ → Now → Now
  lower below now = record now { below = below }

  kept_on : (now : Now) (below : ℕ) (os : List Object) (w : World) (m : Mem) → below ≤ now.below → KeptAs E (lower below now) os w m → KeptAs E now os w m
  kept_on now below os w m le k = kept_below E (lower below now) now.below os w m (let lt = k.less in omega (arith, lt, le)) k

  pub weaken : (l : Way) (now : Now) (below size : ℕ) (m : Mem) (t : Thread) (w : World) (to : Flow → World → Mem → Thread) (y : Result Flow) → below ≤ now.below
      → RunsTo E.site size m t w to (GoodFlow E l (lower below now)) y → RunsTo E.site size m t w to (GoodFlow E l now) y
  weaken l now below size m t w to (gives f w1) le q = (q.0, (q.1.0, kept_on (after_flow l f now) below (ending w1.locals (ahead l.off f) w1.objects) w1 q.0 le q.1.1), q.2)
  weaken l now below size m t w to (ends e w1) le q = q

  module _ (u : IntType) (narrow : width_of u ≡ W32) (T : Code) (test : Does Value) (d : ℕ) (rt : Leaves (beside d E) T (integer u) test) (S : Code) (step' : Does (Unit {0})) (rs : Op (beside d E) S same (gone E) (Always E) step')
      (C : Bool) (body : Code) (mx : Does Flow) (off : Off) (rx : FlowRuns E (body_way d C off) (if C then 2 else 1) 0 body same mx) (N : ℕ)
      (vs : List Word) (r br cr rr : List Item) (caller : Frame) (b c : ℕ) (js : Jumps) (lo : Option ℕ) (a : Around E vs r b c (way js d lo off) br cr rr caller) (dep : depth_of r ≡ E.depth) where
    abbrev l : Way
    l = way js d lo off

    abbrev B : Code
    B = bodied body C

    abbrev R : Code
    R = B ⨾ S ⨾ T ⨾ one (BrIf 0)

    -- behind the loop's code, and behind the loop
    abbrev outer : List Item
    outer = Label None (length vs) None ∷ r

    abbrev pub ring : List Item
    ring = Label None (length vs) (Some (Loop None N)) ∷ outer

    abbrev to : Flow → World → Mem → Thread
    to = to_flow E vs r br cr rr caller

    abbrev head : Mem → World → Thread
    head m w = thread (frame_of E m w) vs (Do (Loop None N) ∷ outer)

    -- the numbers of the parts
    abbrev n1 : ℕ
    n1 = suc N + length (B (suc N)).seqs

    abbrev n2 : ℕ
    n2 = n1 + length (S n1).seqs

    abbrev tail1 : List Instr
    tail1 = ((S ⨾ T ⨾ one (BrIf 0)) n1).instrs

    abbrev tail2 : List Instr
    tail2 = ((T ⨾ one (BrIf 0)) n2).instrs

    abbrev sB : ℕ
    sB = size_of (B (suc N))

    abbrev sS : ℕ
    sS = size_of (S n1)

    abbrev sT : ℕ
    sT = size_of (T n2)

    abbrev turn : ℕ
    turn = (1 + sB) + sS

    to_outside : (fr : Frame) → branch 0 fr vs outer ≡ To (thread fr vs r)
    to_outside fr = ap (λ (o : Option (List Word)). kept o fr r) (lowest_all vs)

    pub to_head : (fr : Frame) → branch 0 fr vs ring ≡ To (thread fr vs (Do (Loop None N) ∷ outer))
    to_head fr = ap (λ (o : Option (List Word)). kept o fr (Do (Loop None N) ∷ outer)) (lowest_all vs)

    -- ---- the body

    abbrev to_body : Flow → World → Mem → Thread
    to_body = to_flow E vs (front tail1 ring) r (front tail1 ring) rr caller

    returns_past : (hs : List Home) (v : Value) → IsValue E E.result hs v → return_on (pushes E E.result hs v vs) (front tail1 ring) ≡ To (thread caller (pushes E E.result hs v vs) rr)
    returns_past hs v ok = return_past (pushes E E.result hs v vs) tail1 ring ∙ a.returns hs v ok

    dep_tail : depth_of (front tail1 ring) ≡ E.depth
    dep_tail = depth_front tail1 ring ∙ dep

    bare_runs : FlowRuns E (body_way d false off) 1 0 body same mx → HasAll E.site.funcs E.fn (suc N) (body (suc N)).seqs → size_of (body (suc N)) ≤ E.site.most → (now : Now) → IsAt E d now → (w : World) (m : Mem) → Kept E now w m
        → Runs E.site (size_of (body (suc N))) m (at_work E m w vs (front (body (suc N)).instrs (front tail1 ring))) w to_body (GoodFlow E (body_way d false off) now) (mx w)
    bare_runs h has small now le w m k =
        h (suc N) has small now le vs (front tail1 ring) r (front tail1 ring) rr caller
        (record {
          breaks = λ e fr. branch_past 1 fr vs tail1 ring ∙ to_outside fr;
          continues = λ e fr. absurd cc;
          returns = returns_past;
        }) dep_tail w m k

    blocked_runs : FlowRuns E (body_way d true off) 2 0 body same mx → HasAll E.site.funcs E.fn (suc N) (block None body (suc N)).seqs → size_of (block None body (suc N)) ≤ E.site.most → (now : Now) → IsAt E d now → (w : World) (m : Mem) → Kept E now w m
        → Runs E.site (size_of (block None body (suc N))) m (at_work E m w vs (front (block None body (suc N)).instrs (front tail1 ring))) w to_body (GoodFlow E (body_way d true off) now) (mx w)
    blocked_runs h has small now le w m k =
        let cx = body (suc (suc N)) in
        let r' = Label None (length vs) None ∷ front tail1 ring in
        let same_to : to_flow E vs r' r (front tail1 ring) rr caller ≡ to_body = λ j f w1 m1. in_label E None (length vs) None vs (front tail1 ring) r (front tail1 ring) rr caller f w1 m1 j in
        resize E.site (1 + size_of cx) (size_of (block None body (suc N))) m (at_work E m w vs (Do (Block None (suc N)) ∷ front tail1 ring)) w to_body (GoodFlow E (body_way d true off) now) (mx w) (omega arith)
        (into E (Block None (suc N)) vs None (size_of cx) cx.instrs to_body (GoodFlow E (body_way d true off) now) (mx w) vs (front tail1 ring) w m
        (ap (λ (is : List Instr). step.Next (goes.store E.site m) (thread (frame_of E m w) vs (front is r')) None) has.0)
        (subst (λ (q : Flow → World → Mem → Thread). Runs E.site (size_of cx) m (at_work E m w vs (front cx.instrs r')) w q (GoodFlow E (body_way d true off) now) (mx w)) same_to
        (h (suc (suc N)) has.1 (omega (arith, small)) now le vs r' r (front tail1 ring) rr caller
        (record {
          breaks = λ e fr. branch_past 1 fr vs tail1 ring ∙ to_outside fr;
          continues = λ e fr. ap (λ (o : Option (List Word)). kept o fr (front tail1 ring)) (lowest_all vs);
          returns = returns_past;
        }) dep_tail w m k)))

    pub body_runs : HasAll E.site.funcs E.fn (suc N) (B (suc N)).seqs → sB ≤ E.site.most → (now : Now) → IsAt E d now → (w : World) (m : Mem) → Kept E now w m
        → Runs E.site sB m (at_work E m w vs (front (B (suc N)).instrs (front tail1 ring))) w to_body (GoodFlow E (body_way d C off) now) (mx w)
    body_runs = by C rx where
      by : (C' : Bool) → FlowRuns E (body_way d C' off) (if C' then 2 else 1) 0 body same mx → HasAll E.site.funcs E.fn (suc N) (bodied body C' (suc N)).seqs → size_of (bodied body C' (suc N)) ≤ E.site.most → (now : Now) → IsAt E d now → (w : World) (m : Mem) → Kept E now w m
          → Runs E.site (size_of (bodied body C' (suc N))) m (at_work E m w vs (front (bodied body C' (suc N)).instrs (front tail1 ring))) w (to_flow E vs (front tail1 ring) r (front tail1 ring) rr caller) (GoodFlow E (body_way d C' off) now) (mx w)
      by false h = bare_runs h
      by true h = blocked_runs h

    -- ---- the test behind it, and then all that a further iteration does

    module _ (hasT : HasAll E.site.funcs E.fn n2 (T n2).seqs) where
      decide : (z : ℕ) (t : Bool) → IsTest E z t → (K : Does Flow) (now : Now) (w : World) (m : Mem) → Kept E now w m → Runs E.site turn m (head m w) w to (GoodFlow E l now) (K w)
          → Runs E.site (1 + turn) m (thread (frame_of E m w) (I32 z ∷ vs) (Do (BrIf 0) ∷ ring)) w to (GoodFlow E l now) ((if t then K else pure next) w)
      decide z t (is_yes q ez et) K now w m k h =
          subst (λ (t' : Bool). Runs E.site (1 + turn) m (thread (frame_of E m w) (I32 z ∷ vs) (Do (BrIf 0) ∷ ring)) w to (GoodFlow E l now) ((if t' then K else pure next) w)) (sym et)
          (behind_goes E.site 1 turn w w m m (thread (frame_of E m w) (I32 z ∷ vs) (Do (BrIf 0) ∷ ring)) (head m w) to (GoodFlow E l now) (K w)
          (one_here E.site w m m (BrIf 0) (frame_of E m w) (I32 z ∷ vs) ring (head m w)
          (ap (λ (y : ℕ). step.act (goes.store E.site m) (BrIf 0) (thread (frame_of E m w) (I32 y ∷ vs) ring)) ez ∙ ap (step.moved (goes.store E.site m)) (to_head (frame_of E m w)))) h)
      decide z t (is_no ez et) K now w m k h =
          subst (λ (t' : Bool). Runs E.site (1 + turn) m (thread (frame_of E m w) (I32 z ∷ vs) (Do (BrIf 0) ∷ ring)) w to (GoodFlow E l now) ((if t' then K else pure next) w)) (sym et)
          (λ ag. resize_to E.site 1 (1 + turn) m (thread (frame_of E m w) (I32 z ∷ vs) (Do (BrIf 0) ∷ ring)) w to (GoodFlow E l now) (gives next w) (omega arith)
          (m, (tt, k), one_here E.site w m m (BrIf 0) (frame_of E m w) (I32 z ∷ vs) ring (thread (frame_of E m w) vs ring) (ap (λ (y : ℕ). step.act (goes.store E.site m) (BrIf 0) (thread (frame_of E m w) (I32 y ∷ vs) ring)) ez)))

      test_runs : (K : Does Flow) (now : Now) → IsAt E d now → ((w : World) (m : Mem) → Kept E now w m → Runs E.site turn m (head m w) w to (GoodFlow E l now) (K w)) → (w : World) (m : Mem) → Kept E now w m
          → Runs E.site (sT + (1 + turn)) m (at_work E m w vs (front tail2 ring)) w to (GoodFlow E l now) ((meaning.test test >>= (λ t. if t then K else pure next)) w)
      test_runs K now le h w m k =
          let f = λ (t : Bool). if t then K else pure next in
          subst (λ (q : List Item). Runs E.site (sT + (1 + turn)) m (at_work E m w vs q) w to (GoodFlow E l now) ((meaning.test test >>= f) w)) (sym (front_append (T n2).instrs (BrIf 0 ∷ []) ring))
          (subst (λ (y : Result Flow). Runs E.site (sT + (1 + turn)) m (at_work E m w vs (front (T n2).instrs (Do (BrIf 0) ∷ ring))) w to (GoodFlow E l now) y) (sym (after_after (test w) is_true f))
          (bind E.site sT (1 + turn) m (at_work E m w vs (front (T n2).instrs (Do (BrIf 0) ∷ ring))) w (ToIn E (pushes E (integer u)) vs (Do (BrIf 0) ∷ ring)) (GoodIn E (IsValue E (integer u)) now) to (GoodFlow E l now) (test w) (λ v w1. after (is_true v w1) f)
          (rt n2 hasT now (starts E d now le) vs (Do (BrIf 0) ∷ ring) dep w m k)
          (λ v w1 m1 g.
          of_number E u (λ v. Runs E.site (1 + turn) m1 (at_work E m1 w1 (pushes E (integer u) m1.homes v vs) (Do (BrIf 0) ∷ ring)) w1 to (GoodFlow E l now) (after (is_true v w1) f))
          (λ z i.
          subst (λ (wd : Width). Runs E.site (1 + turn) m1 (at_work E m1 w1 (operand wd z ∷ vs) (Do (BrIf 0) ∷ ring)) w1 to (GoodFlow E l now) (f (not (is_zero z)) w1)) (sym narrow)
          (decide (wrapped 32 z) (not (is_zero z)) (test_is E u z narrow i) K now w1 m1 g.1 (h w1 m1 g.1)))
          v g.0)))

    -- ---- all iterations, from the loop's instruction on

    abbrev again : ℕ → Does Flow
    again n = loops n (meaning.test test) step' mx

    abbrev iteration : ℕ → Does Flow
    iteration n = mx >>= behind_body (step' >> (spend >> again n))

    waits : (is : List Instr) (s : Store) (fr : Frame) (input : Input) → steps_to E.site.last 0 s (exit_ended fr vs (front (is ++ BrIf 0 ∷ []) ring)) input ≡ ran Paused
    waits [] s fr input = refl
    waits (i ∷ is) s fr input = refl

    module _ (at_loop : sequence E.site.funcs E.fn N ≡ (R (suc N)).instrs) (has : HasAll E.site.funcs E.fn (suc N) (R (suc N)).seqs) (room : sT + (1 + turn) ≤ E.site.most) where
      hasB : HasAll E.site.funcs E.fn (suc N) (B (suc N)).seqs
      hasB = has_front E.site.funcs E.fn (suc N) (B (suc N)).seqs ((S ⨾ T ⨾ one (BrIf 0)) n1).seqs has

      has1 : HasAll E.site.funcs E.fn n1 ((S ⨾ T ⨾ one (BrIf 0)) n1).seqs
      has1 = has_back E.site.funcs E.fn (suc N) (B (suc N)).seqs ((S ⨾ T ⨾ one (BrIf 0)) n1).seqs has

      hasS : HasAll E.site.funcs E.fn n1 (S n1).seqs
      hasS = has_front E.site.funcs E.fn n1 (S n1).seqs ((T ⨾ one (BrIf 0)) n2).seqs has1

      hasT' : HasAll E.site.funcs E.fn n2 (T n2).seqs
      hasT' = has_front E.site.funcs E.fn n2 (T n2).seqs [] (has_back E.site.funcs E.fn n1 (S n1).seqs ((T ⨾ one (BrIf 0)) n2).seqs has1)

      abbrev Iterates : ℕ → Type 0
      Iterates n = (now : Now) → IsAt E d now → now.below ≤ suc n → (w : World) (m : Mem) → Kept E now w m → Runs E.site turn m (head m w) w to (GoodFlow E l now) (iteration n w)

      -- behind a unit that is spent
      paid_runs : (n : ℕ) → ((k : ℕ) → n ≡ suc k → Iterates k) → (now : Now) → IsAt E d now → now.below ≤ suc n → (w : World) (m : Mem) (w2 : World) (m2 : Mem) (q : ℕ)
          → Kept E now (record w2 { fuel = q }) m2 → Leads E.site turn w (record w2 { fuel = q }) m (head m w) m2 (at_work E m2 w2 vs (front tail2 ring)) → Agrees E.site.last (goes.store E.site m2) (at_work E m2 w2 vs (front tail2 ring)) (given w2) w2.grants
          → RunsTo E.site turn m (head m w) w to (GoodFlow E l now) (after (spend (record w2 { fuel = q })) (λ x. again n))
      paid_runs n ih now le le' w m w2 m2 zero k ld ag = leads_out E.site turn turn w (record w2 { fuel = 0 }) m m2 (head m w) (at_work E m2 w2 vs (front tail2 ring)) (omega arith) ld refl (waits (T n2).instrs (goes.store E.site m2) (frame_of E m2 w2) (given w2))
      paid_runs zero ih now le le' w m w2 m2 (suc f) k ld ag = absurd (let lt = k.less in omega (arith, lt, le'))
      paid_runs (suc n) ih now le le' w m w2 m2 (suc f) k ld ag =
          let w3 : World = record w2 { fuel = f } in
          let now' : Now = lower (suc f) now in
          let lt = k.less in
          let k3 : Kept E now' w3 m2 = kept_fuel E now (suc f) w2.objects (record w2 { fuel = suc f }) m2 f (omega arith) k in
          leads_paid E.site turn (sT + (1 + turn)) turn f w (record w2 { fuel = suc f }) m m2 (head m w) (at_work E m2 w2 vs (front tail2 ring)) to (GoodFlow E l now) (again (suc n) w3) ld refl (omega (arith, room))
          (weaken l now (suc f) (sT + (1 + turn)) m2 (at_work E m2 w2 vs (front tail2 ring)) w3 to (again (suc n) w3) (omega (arith, lt))
          (test_runs hasT' (iteration n) now' (record { below = omega (arith, lt, le.below); waits = le.waits; seen = le.seen }) (λ w' m' k'. ih n refl now' (record { below = omega (arith, lt, le.below); waits = le.waits; seen = le.seen }) (omega (arith, lt, le')) w' m' k') w3 m2 k3 ag))

      -- behind the body
      module _ (n : ℕ) (ih : (k : ℕ) → n ≡ suc k → Iterates k) (now : Now) (le : IsAt E d now) (le' : now.below ≤ suc n) (w : World) (m : Mem) where
        step_by : (w1 : World) (m1 : Mem) → Leads E.site (1 + sB) w w1 m (head m w) m1 (at_work E m1 w1 vs (front (S n1).instrs (front tail2 ring))) → Agrees E.site.last (goes.store E.site m1) (at_work E m1 w1 vs (front (S n1).instrs (front tail2 ring))) (given w1) w1.grants
            → (y : Result (Unit {0})) → RunsTo E.site sS m1 (at_work E m1 w1 vs (front (S n1).instrs (front tail2 ring))) w1 (To_ E (gone E) vs (front tail2 ring)) (Good E (Always E) now) y
            → RunsTo E.site turn m (head m w) w to (GoodFlow E l now) (after y (λ x. spend >> again n))
        step_by w1 m1 ld ag (ends e w2) h = stops_behind E.site (1 + sB) sS w w1 w2 m m1 (head m w) (at_work E m1 w1 vs (front (S n1).instrs (front tail2 ring))) e ld.goes h
        step_by w1 m1 ld ag (gives x w2) q =
            let t1 = at_work E m1 w1 vs (front (S n1).instrs (front tail2 ring)) in
            let t2 = at_work E q.0 w2 vs (front tail2 ring) in
            paid_runs n ih now le le' w m w2 q.0 w2.fuel q.1.1 (leads_further E.site (1 + sB) sS w w1 w2 m m1 q.0 (head m w) t1 t2 ld q.2) (agrees_after E.site sS w1 w2 m1 q.0 t1 t2 q.2 ag)

        behind_runs : (w1 : World) (m1 : Mem) → Kept E now w1 m1 → Leads E.site (1 + sB) w w1 m (head m w) m1 (at_work E m1 w1 vs (front tail1 ring)) → Agrees E.site.last (goes.store E.site m1) (at_work E m1 w1 vs (front tail1 ring)) (given w1) w1.grants
            → RunsTo E.site turn m (head m w) w to (GoodFlow E l now) ((step' >> (spend >> again n)) w1)
        behind_runs w1 m1 k1 ld ag =
            let split = front_append (S n1).instrs tail2 ring in
            let ag' = subst (λ (q : List Item). Agrees E.site.last (goes.store E.site m1) (at_work E m1 w1 vs q) (given w1) w1.grants) split ag in
            step_by w1 m1 (subst (λ (q : List Item). Leads E.site (1 + sB) w w1 m (head m w) m1 (at_work E m1 w1 vs q)) split ld) ag' (step' w1)
            (rs n1 hasS now (starts E d now le) vs (front tail2 ring) (depth_front tail2 ring ∙ dep) w1 m1 k1 ag')

        first : Leads E.site 1 w w m (head m w) m (at_work E m w vs (front (B (suc N)).instrs (front tail1 ring)))
        first =
            subst (λ (q : List Item). Leads E.site 1 w w m (head m w) m (at_work E m w vs q)) (front_append (B (suc N)).instrs tail1 ring)
            (leads_first E.site w m (Loop None N) (frame_of E m w) vs outer (thread (frame_of E m w) vs (front (R (suc N)).instrs ring)) (ap (λ (is : List Instr). step.Next (goes.store E.site m) (thread (frame_of E m w) vs (front is ring)) None) at_loop))

        abbrev t0 : Thread
        t0 = at_work E m w vs (front (B (suc N)).instrs (front tail1 ring))

        body_by : Agrees E.site.last (goes.store E.site m) t0 (given w) w.grants → (y : Result Flow) → RunsTo E.site sB m t0 w to_body (GoodFlow E (body_way d C off) now) y → RunsTo E.site turn m (head m w) w to (GoodFlow E l now) (after y (behind_body (step' >> (spend >> again n))))
        body_by ag (ends e w1) h = resize_to E.site (1 + sB) turn m (head m w) w to (GoodFlow E l now) (ends e w1) (omega arith) (stops_behind E.site 1 sB w w w1 m m (head m w) t0 e first.goes h)
        body_by ag (gives next w1) q =
            let t1 = at_work E q.0 w1 vs (front tail1 ring) in
            behind_runs w1 q.0 q.1.1 (leads_further E.site 1 sB w w w1 m m q.0 (head m w) t0 t1 first q.2) (agrees_after E.site sB w w1 m q.0 t0 t1 q.2 ag)
        body_by ag (gives continued w1) q =
            let t1 = at_work E q.0 w1 vs (front tail1 ring) in
            behind_runs w1 q.0 q.1.1 (leads_further E.site 1 sB w w w1 m m q.0 (head m w) t0 t1 first q.2) (agrees_after E.site sB w w1 m q.0 t0 t1 q.2 ag)
        body_by ag (gives broken w1) q =
            resize_to E.site (1 + sB) turn m (head m w) w to (GoodFlow E l now) (gives next w1) (omega arith) (q.0, (tt, q.1.1), goes_on E.site 1 sB w w w1 m m q.0 (head m w) t0 (at_work E q.0 w1 vs r) first.goes q.2)
        body_by ag (gives (returned v) w1) q =
            resize_to E.site (1 + sB) turn m (head m w) w to (GoodFlow E l now) (gives (returned v) w1) (omega arith)
            (q.0, (q.1.0, q.1.1), goes_on E.site 1 sB w w w1 m m q.0 (head m w) t0 (exit_ended caller (pushes E E.result q.0.homes v vs) rr) first.goes q.2)

        iterates : sB ≤ E.site.most → Kept E now w m → Runs E.site turn m (head m w) w to (GoodFlow E l now) (iteration n w)
        iterates small k ag = let ag0 = agrees_after E.site 1 w w m m (head m w) t0 first.goes ag in body_by ag0 (mx w) (body_runs hasB small now le w m k ag0)

      pub all_iterate : (n : ℕ) → Iterates n
      all_iterate zero now le le' w m k = iterates zero (λ j e. absurd cc) now le le' w m (omega (arith, room)) k
      all_iterate (suc n) now le le' w m k = iterates (suc n) (λ j e. subst Iterates (let q : n ≡ j = omega (arith, e) in q) (all_iterate n)) now le le' w m (omega (arith, room)) k

  -- ---- the loop: the test, and the iterations where it holds

  pub while_runs : (u : IntType) → width_of u ≡ W32 → (T : Code) (test : Does Value) (d : ℕ) → Leaves (beside d E) T (integer u) test → (S : Code) (step' : Does (Unit {0})) → Op (beside d E) S same (gone E) (Always E) step'
      → (C : Bool) (body : Code) (mx : Does Flow) (off : Off) → FlowRuns E (body_way d C off) (if C then 2 else 1) 0 body same mx → (js : Jumps) (lo : Option ℕ) → (b c bound : ℕ) → E.bound ≤ bound
      → FlowRuns E (way js d lo off) b c (T ⨾ choice None (repeat None (bodied body C ⨾ S ⨾ T ⨾ one (BrIf 0))) no_code) same (loops bound (meaning.test test) step' mx)
  while_runs u narrow T test d rt S step' rs C body mx off rx js lo b c zero wide n has small now le vs r br cr rr caller a dep w m k = absurd (let lt = k.less in omega (arith, lt, le.below, wide))
  while_runs u narrow T test d rt S step' rs C body mx off rx js lo b c (suc bound) wide n has small now le vs r br cr rr caller a dep w m k =
      let to' = to_flow E vs r br cr rr caller in
      let loop = repeat None (bodied body C ⨾ S ⨾ T ⨾ one (BrIf 0)) in
      let pick = choice None loop no_code in
      let ct = T n in
      let j = n + length ct.seqs in
      let cp = pick j in
      let K = iteration u narrow T test d rt S step' rs C body mx off rx (suc j) vs r br cr rr caller b c js lo a dep bound in
      let f = λ (t : Bool). if t then K else pure next in
      let sizes = size_joined ct cp in
      let hasP = has_back E.site.funcs E.fn n ct.seqs cp.seqs has in
      subst (λ (s : ℕ). Runs E.site s m (at_work E m w vs (front (ct.instrs ++ cp.instrs) r)) w to' (GoodFlow E (way js d lo off) now) ((meaning.test test >>= f) w)) sizes
      (subst (λ (q : List Item). Runs E.site (size_of ct + size_of cp) m (at_work E m w vs q) w to' (GoodFlow E (way js d lo off) now) ((meaning.test test >>= f) w)) (sym (front_append ct.instrs cp.instrs r))
      (subst (λ (y : Result Flow). Runs E.site (size_of ct + size_of cp) m (at_work E m w vs (front ct.instrs (front cp.instrs r))) w to' (GoodFlow E (way js d lo off) now) y) (sym (after_after (test w) is_true f))
      (bind E.site (size_of ct) (size_of cp) m (at_work E m w vs (front ct.instrs (front cp.instrs r))) w (ToIn E (pushes E (integer u)) vs (front cp.instrs r)) (GoodIn E (IsValue E (integer u)) now) to' (GoodFlow E (way js d lo off) now) (test w) (λ v w1. after (is_true v w1) f)
      (rt n (has_front E.site.funcs E.fn n ct.seqs cp.seqs has) now (starts E d now le) vs (front cp.instrs r) (depth_front cp.instrs r ∙ dep) w m k)
      (λ v w1 m1 g.
      of_number E u (λ v. Runs E.site (size_of cp) m1 (at_work E m1 w1 (pushes E (integer u) m1.homes v vs) (front cp.instrs r)) w1 to' (GoodFlow E (way js d lo off) now) (after (is_true v w1) f))
      (λ z i.
      subst (λ (wd : Width). Runs E.site (size_of cp) m1 (at_work E m1 w1 (operand wd z ∷ vs) (front cp.instrs r)) w1 to' (GoodFlow E (way js d lo off) now) (f (not (is_zero z)) w1)) (sym narrow)
      (subst (λ (y : Result Flow). Runs E.site (size_of cp) m1 (at_work E m1 w1 (I32 (wrapped 32 z) ∷ vs) (front cp.instrs r)) w1 to' (GoodFlow E (way js d lo off) now) y) (choice_at E (not (is_zero z)) K (pure next) w1)
      (runs_choice E None loop no_code j (wrapped 32 z) (not (is_zero z)) vs r w1 m1 to' (GoodFlow E (way js d lo off) now) (K w1) (gives next w1) (λ n' e'. refl) (test_is E u z narrow i) hasP
      (λ h. enters h w1 m1 g.1)
      (λ h. here E.site 0 w1 m1 to' (GoodFlow E (way js d lo off) now) next (tt, g.1)))))
      v g.0))))
    where
      -- the parts' sizes
      part_sizes : (x : ℕ) → (size_of (bodied body C (suc x)) + (size_of (S (suc x + length (bodied body C (suc x)).seqs)) + (size_of (T ((suc x + length (bodied body C (suc x)).seqs) + length (S (suc x + length (bodied body C (suc x)).seqs)).seqs)) + (1 + 0)))) ≡ size_of ((bodied body C ⨾ S ⨾ T ⨾ one (BrIf 0)) (suc x))
      part_sizes x =
          let cB = bodied body C (suc x) in
          let p1 = suc x + length cB.seqs in
          let cS = S p1 in
          let p2 = p1 + length cS.seqs in
          let a = size_joined cB ((S ⨾ T ⨾ one (BrIf 0)) p1) in
          let b = size_joined cS ((T ⨾ one (BrIf 0)) p2) in
          let c = size_joined (T p2) (one (BrIf 0) (p2 + length (T p2).seqs)) in
          omega (arith, a, b, c)

      enters : HasAll E.site.funcs E.fn (suc (n + length (T n).seqs)) (repeat None (bodied body C ⨾ S ⨾ T ⨾ one (BrIf 0)) (suc (n + length (T n).seqs))).seqs → (w1 : World) (m1 : Mem) → Kept E now w1 m1
          → Runs E.site (size_of (repeat None (bodied body C ⨾ S ⨾ T ⨾ one (BrIf 0)) (suc (n + length (T n).seqs)))) m1
          (at_work E m1 w1 vs (front (repeat None (bodied body C ⨾ S ⨾ T ⨾ one (BrIf 0)) (suc (n + length (T n).seqs))).instrs (Label None (length vs) None ∷ r))) w1 (to_flow E vs r br cr rr caller) (GoodFlow E (way js d lo off) now)
          (iteration u narrow T test d rt S step' rs C body mx off rx (suc (n + length (T n).seqs)) vs r br cr rr caller b c js lo a dep bound w1)
      enters h w1 m1 k1 =
          let j = n + length (T n).seqs in
          let N = suc j in
          let loop = repeat None (bodied body C ⨾ S ⨾ T ⨾ one (BrIf 0)) in
          let parts = part_sizes N in
          let all = size_joined (T n) (choice None loop no_code j) in
          let inside = total_append (inner (loop (suc j))) [] in
          resize E.site (turn u narrow T test d rt S step' rs C body mx off rx N vs r br cr rr caller b c js lo a dep) (size_of (loop N)) m1 (at_work E m1 w1 vs (Do (Loop None N) ∷ Label None (length vs) None ∷ r)) w1 (to_flow E vs r br cr rr caller) (GoodFlow E (way js d lo off) now)
          (iteration u narrow T test d rt S step' rs C body mx off rx N vs r br cr rr caller b c js lo a dep bound w1) (omega (arith, parts))
          (all_iterate u narrow T test d rt S step' rs C body mx off rx N vs r br cr rr caller b c js lo a dep h.0 h.1 (omega (arith, parts, all, inside, small)) bound now le (omega (arith, le.below, wide)) w1 m1 k1)
