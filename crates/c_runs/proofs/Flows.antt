-- Statements go on in one of four ways: code that does so, put together.
use Rattle.std.proofs.Common.{◌≡◌, ℕ, suc, ◌+◌, ◌-◌, ◌≤◌, List, [], ◌∷◌, ◌++◌, length, drop, Bool, true, Option, Some, None, refl, sym, ap, ◌∙◌, arith, subst, cond}
use Rattle.std.specs.Prelude.{slice_get, if◌then◌else◌}
use Rattle.std.proofs.lemmas.Bool.{le-leb}
use Rattle.ms_types.specs.declared.types.ValType.{ValType}
use Rattle.ms_linear.specs.declared.value.Value.{Value as Word}
use Rattle.ms_linear.specs.declared.value.Value.TheVariants.{I32}
use Rattle.ms_machine.specs.Step as step
use Rattle.ms_module.specs.declared.instr.Instr.{Instr}
use Rattle.ms_module.specs.declared.instr.Instr.TheVariants.{Br, Return}
use Rattle.ms_task.specs.Control.{To, branch, lowest, return_on, exit_ended}
use Rattle.ms_task.specs.Thread.{Frame, Item, Label, Thread, thread, depth_of}
use Rattle.ms_task.proofs.Items.{branch_past, return_past}
use Rattle.c_typed.specs.refinement.Expressions.{is_visible}
use Rattle.c_typed.specs.declared.jumps.Jumps.{Jumps}
use Rattle.c_meaning.specs.Values.{Value}
use Rattle.c_meaning.specs.World.{World, Result, gives, Does, after, ◌>>=◌, ◌>>◌, pure}
use Rattle.c_meaning.specs.Statements.{Flow, next, broken, continued, returned, followed}
use Rattle.ms_emit.specs.Codes.{Code, one, no_code, ◌⨾◌, choice, inner, second_seqs, size_of}
use Rattle.c_runs.proofs.Goes as goes
use Rattle.c_runs.proofs.Goes.{Goes, Mem, Runs, bind, here, one_here}
use Rattle.ms_relate.specs.refinement.Homes.{Home}
use Rattle.ms_relate.proofs.Growing.{Extends}
use Rattle.c_runs.proofs.Values.{pushed_still, value_still}
use Rattle.c_runs.proofs.Held.{ending}
use Rattle.c_runs.proofs.Related.{Env, IsValue, beside, Kept, KeptAs, Now, Starts, extends_none, extends_same, pushes, frame_of, front, front_append, depth_front, HasAll, has_front, has_back, total_append}
use Rattle.c_runs.proofs.Ops.{Stack, same, Op, OpIn, GoodIn, ToIn, at_work, IsTest, runs_choice, choice_at, second_size, size_joined}
use Rattle.c_runs.proofs.Whole.{IsWhole}

-- a block keeps all operands below it
pub lowest_all : (vs : List Word) → lowest (length vs) vs ≡ Some vs
lowest_all vs =
    ap (λ (b : Bool). cond b (Some (drop (length vs - length vs) vs)) None) (le-leb (length vs) (length vs) (omega arith))
    ∙ ap (λ (n : ℕ). Some (drop n vs)) (let z : length vs - length vs ≡ 0 = omega arith in z)

-- The slots whose objects the code has freed where it leaves a statement so: those of all blocks that it leaves, ahead of the meaning,
-- by which each block ends its own.
pub record Off : Type 0 where
  pub broken : List ℕ
  pub continued : List ℕ
  pub returned : List ℕ

-- Where a statement stands: the jumps that may stand there, how many values wait, and, where `break` leads behind a group of a switch,
-- how many wait around that switch: it leaves a number there with which no group is carried out.
pub record Way : Type 0 where
  pub breaks : Bool
  pub continues : Bool
  pub depth : ℕ
  pub left : Option ℕ
  pub off : Off

abbrev pub way : Jumps → (depth : ℕ) → (left : Option ℕ) → Off → Way
way j d o off = record { breaks = j.breaks; continues = j.continues; depth = d; left = o; off = off }

abbrev pub no_group : ℕ
no_group = 4294967295

-- how many values that wait stay
abbrev pub waits_left : Option ℕ → ℕ → ℕ
waits_left None n = n
waits_left (Some q) n = q

abbrev pub waits_after : Way → Flow → ℕ → ℕ
waits_after l broken n = waits_left l.left n
waits_after l f n = n

abbrev pub after_flow : Way → Flow → Now → Now
after_flow l f now = record now { waits = waits_after l f now.waits }

abbrev pub ahead : Off → Flow → List ℕ
ahead off next = []
ahead off broken = off.broken
ahead off continued = off.continued
ahead off (returned v) = off.returned

abbrev pub IsLeft : Option ℕ → Mem → Type 0
IsLeft None m = Unit {0}
IsLeft (Some q) m = slice_get m.temps (4 + q) ≡ Some (I32 no_group)

module _ (E : Env) where
  -- so many values wait, the calls' bound is above, and these variables may be named
  pub record IsAt (depth : ℕ) (now : Now) : Type 0 where
    pub below : now.below ≤ E.bound
    pub waits : now.waits ≡ depth
    pub seen : now.visible ≡ E.visible

  pub starts : (d : ℕ) (now : Now) → IsAt d now → Starts (beside d E) [] now
  starts d now le = record { below = le.below; grown = extends_none now.homes; seen = λ x e. ap (λ (vs : List ℕ). is_visible vs x) le.seen ∙ e; few = (let waits = le.waits in omega (arith, waits)) }

  -- where break, continue and return lead
  pub record Around (vs : List Word) (r : List Item) (b c : ℕ) (j : Way) (br cr rr : List Item) (caller : Frame) : Type 0 where
    pub breaks : j.breaks ≡ true → (fr : Frame) → branch b fr vs r ≡ To (thread fr vs br)
    pub continues : j.continues ≡ true → (fr : Frame) → branch c fr vs r ≡ To (thread fr vs cr)
    pub returns : (hs : List Home) (v : Value) → IsValue E E.result hs v → return_on (pushes E E.result hs v vs) r ≡ To (thread caller (pushes E E.result hs v vs) rr)

  abbrev pub to_flow : List Word → (r br cr rr : List Item) → Frame → Flow → World → Mem → Thread
  to_flow vs r br cr rr caller next w m = at_work E m w vs r
  to_flow vs r br cr rr caller broken w m = at_work E m w vs br
  to_flow vs r br cr rr caller continued w m = at_work E m w vs cr
  to_flow vs r br cr rr caller (returned v) w m = exit_ended caller (pushes E E.result m.homes v vs) rr

  -- break and continue come in loops and switches alone
  abbrev pub IsFlow : Way → Flow → Mem → Type 0
  IsFlow l next m = Unit {0}
  IsFlow l broken m = (l.breaks ≡ true) × IsLeft l.left m
  IsFlow l continued m = l.continues ≡ true
  IsFlow l (returned v) m = IsValue E E.result m.homes v

  abbrev pub GoodFlow : Way → Now → Flow → World → Mem → Type 0
  GoodFlow l now f w m = IsFlow l f m × KeptAs E (after_flow l f now) (ending w.locals (ahead l.off f) w.objects) w m

  abbrev pub FlowRuns : (l : Way) (b c : ℕ) → Code → Stack → Does Flow → Type 0
  FlowRuns l b c code pre x =
      (n : ℕ) → HasAll E.site.funcs E.fn n (code n).seqs → size_of (code n) ≤ E.site.most → (now : Now) → IsAt l.depth now
      → (vs : List Word) (r br cr rr : List Item) (caller : Frame) → Around vs r b c l br cr rr caller → depth_of r ≡ E.depth → (w : World) (m : Mem) → Kept E now w m
      → Runs E.site (size_of (code n)) m (at_work E m w (pre vs) (front (code n).instrs r)) w (to_flow vs r br cr rr caller) (GoodFlow l now) (x w)

  -- the same from one start
  abbrev pub FlowAt : (l : Way) → Now → (b c : ℕ) → Code → Stack → Does Flow → Type 0
  FlowAt l now b c code pre x =
      (n : ℕ) → HasAll E.site.funcs E.fn n (code n).seqs → size_of (code n) ≤ E.site.most → IsAt l.depth now
      → (vs : List Word) (r br cr rr : List Item) (caller : Frame) → Around vs r b c l br cr rr caller → depth_of r ≡ E.depth → (w : World) (m : Mem) → Kept E now w m
      → Runs E.site (size_of (code n)) m (at_work E m w (pre vs) (front (code n).instrs r)) w (to_flow vs r br cr rr caller) (GoodFlow l now) (x w)

  -- the same where the objects have these homes at least
  abbrev pub FlowIn : (l : Way) → List Home → (b c : ℕ) → Code → Stack → Does Flow → Type 0
  FlowIn l hs b c code pre x =
      (n : ℕ) → HasAll E.site.funcs E.fn n (code n).seqs → size_of (code n) ≤ E.site.most → (now : Now) → IsAt l.depth now
      → (vs : List Word) (r br cr rr : List Item) (caller : Frame) → Around vs r b c l br cr rr caller → depth_of r ≡ E.depth → (w : World) (m : Mem) → Extends hs m.homes → Kept E now w m
      → Runs E.site (size_of (code n)) m (at_work E m w (pre vs) (front (code n).instrs r)) w (to_flow vs r br cr rr caller) (GoodFlow l now) (x w)

  -- a way out, behind the frees of the blocks that it leaves
  abbrev pub FlowOut : (l : Way) → List Home → Flow → (b c : ℕ) → Code → Stack → Type 0
  FlowOut l hs f b c code pre =
      (n : ℕ) → HasAll E.site.funcs E.fn n (code n).seqs → size_of (code n) ≤ E.site.most → (now : Now) → IsAt l.depth now
      → (vs : List Word) (r br cr rr : List Item) (caller : Frame) → Around vs r b c l br cr rr caller → depth_of r ≡ E.depth → (w : World) (m : Mem) → Extends hs m.homes → KeptAs E now (ending w.locals (ahead l.off f) w.objects) w m
      → Runs E.site (size_of (code n)) m (at_work E m w (pre vs) (front (code n).instrs r)) w (to_flow vs r br cr rr caller) (GoodFlow l now) (gives f w)

  -- ---- behind more instructions, and in a block

  pub around_front : (is : List Instr) (vs : List Word) (r : List Item) (b c : ℕ) (l : Way) (br cr rr : List Item) (caller : Frame) → Around vs r b c l br cr rr caller → Around vs (front is r) b c l br cr rr caller
  around_front is vs r b c l br cr rr caller a = record {
    breaks = λ e fr. branch_past b fr vs is r ∙ a.breaks e fr;
    continues = λ e fr. branch_past c fr vs is r ∙ a.continues e fr;
    returns = λ hs v ok. return_past (pushes E E.result hs v vs) is r ∙ a.returns hs v ok;
  }

  pub around_block : (k : Option ValType) (h : ℕ) (g : Option Instr) (vs : List Word) (r : List Item) (b c : ℕ) (l : Way) (br cr rr : List Item) (caller : Frame) → Around vs r b c l br cr rr caller → Around vs (Label k h g ∷ r) (suc b) (suc c) l br cr rr caller
  around_block k h g vs r b c l br cr rr caller a = record { breaks = a.breaks; continues = a.continues; returns = a.returns }

  pub in_label : (k : Option ValType) (h : ℕ) (g : Option Instr) (vs : List Word) (r br cr rr : List Item) (caller : Frame) (f : Flow) (w : World) (m : Mem) → to_flow vs (Label k h g ∷ r) br cr rr caller f w m ≡ to_flow vs r br cr rr caller f w m
  in_label k h g vs r br cr rr caller next w m = refl
  in_label k h g vs r br cr rr caller broken w m = refl
  in_label k h g vs r br cr rr caller continued w m = refl
  in_label k h g vs r br cr rr caller (returned v) w m = refl

  -- ---- statements

  pub flow_none : (l : Way) (b c : ℕ) → FlowRuns l b c no_code same (pure next)
  flow_none l b c n has small now le vs r br cr rr caller a dep w m k = here E.site 0 w m (to_flow vs r br cr rr caller) (GoodFlow l now) next (tt, k)

  -- an expression, and what follows
  pub flow_behind_in : {A : Type 0} (l : Way) (b c : ℕ) (x y : Code) (pre : Stack) (mid : List Home → A → Stack) (Ok : List Home → A → Type 0) (e : Does A) (f : A → Does Flow)
      → OpIn (beside l.depth E) [] x pre mid Ok e → ((hs : List Home) (v : A) → Ok hs v → FlowIn l hs b c y (mid hs v) (f v)) → FlowRuns l b c (x ⨾ y) pre (e >>= f)
  flow_behind_in l b c x y pre mid Ok e f rx ry n has small now le vs r br cr rr caller a dep w m k =
      let cx = x n in
      let n' = n + length cx.seqs in
      let cy = y n' in
      let to = to_flow vs r br cr rr caller in
      subst (λ (s : ℕ). Runs E.site s m (at_work E m w (pre vs) (front (cx.instrs ++ cy.instrs) r)) w to (GoodFlow l now) (after (e w) f)) (size_joined cx cy)
      (subst (λ (q : List Item). Runs E.site (size_of cx + size_of cy) m (at_work E m w (pre vs) q) w to (GoodFlow l now) (after (e w) f)) (sym (front_append cx.instrs cy.instrs r))
      (bind E.site (size_of cx) (size_of cy) m (at_work E m w (pre vs) (front cx.instrs (front cy.instrs r))) w (ToIn E mid vs (front cy.instrs r)) (GoodIn E Ok now) to (GoodFlow l now) (e w) f
      (rx n (has_front E.site.funcs E.fn n cx.seqs cy.seqs has) now (starts l.depth now le) vs (front cy.instrs r) (depth_front cy.instrs r ∙ dep) w m k)
      (λ v w1 m1 g. ry m1.homes v g.0 n' (has_back E.site.funcs E.fn n cx.seqs cy.seqs has) (let s = size_joined cx cy in omega (arith, s, small)) now le vs r br cr rr caller a dep w1 m1 (extends_same m1.homes) g.1)))

  pub flow_behind : {A : Type 0} (l : Way) (b c : ℕ) (x y : Code) (pre : Stack) (mid : A → Stack) (Ok : A → Type 0) (e : Does A) (f : A → Does Flow)
      → Op (beside l.depth E) x pre mid Ok e → ((v : A) → Ok v → FlowRuns l b c y (mid v) (f v)) → FlowRuns l b c (x ⨾ y) pre (e >>= f)
  flow_behind l b c x y pre mid Ok e f rx ry =
      flow_behind_in l b c x y pre (λ hs. mid) (λ hs. Ok) e f rx (λ hs v ok n has small now le vs r br cr rr caller a dep w m more k. ry v ok n has small now le vs r br cr rr caller a dep w m k)

  -- a statement that is an expression
  pub flow_of : {A : Type 0} (l : Way) (b c : ℕ) (x : Code) (post : List Home → A → Stack) (Ok : List Home → A → Type 0) (e : Does A) → OpIn (beside l.depth E) [] x same post Ok e → ((hs : List Home) (v : A) (vs : List Word) → post hs v vs ≡ vs) → FlowRuns l b c x same (e >> pure next)
  flow_of l b c x post Ok e rx p n has small now le vs r br cr rr caller a dep w m k =
      let to = to_flow vs r br cr rr caller in
      let s = size_of (x n) in
      let z : s + 0 ≡ s = omega arith in
      subst (λ (q : ℕ). Runs E.site q m (at_work E m w vs (front (x n).instrs r)) w to (GoodFlow l now) (after (e w) (λ v. pure next))) z
      (bind E.site s 0 m (at_work E m w vs (front (x n).instrs r)) w (ToIn E post vs r) (GoodIn E Ok now) to (GoodFlow l now) (e w) (λ v. pure next) (rx n has now (starts l.depth now le) vs r dep w m k)
      (λ v w1 m1 g. subst (λ (us : List Word). Runs E.site 0 m1 (at_work E m1 w1 us r) w1 to (GoodFlow l now) (gives next w1)) (sym (p m1.homes v vs)) (here E.site 0 w1 m1 to (GoodFlow l now) next (tt, g.1))))

  pub flow_seq : (l : Way) (b c : ℕ) (x y : Code) (e f : Does Flow) → FlowRuns l b c x same e → FlowRuns l b c y same f → FlowRuns l b c (x ⨾ y) same (e >>= followed f)
  flow_seq l b c x y e f rx ry n has small now le vs r br cr rr caller a dep w m k =
      let cx = x n in
      let n' = n + length cx.seqs in
      let cy = y n' in
      let to = to_flow vs r br cr rr caller in
      let sizes = size_joined cx cy in
      subst (λ (s : ℕ). Runs E.site s m (at_work E m w vs (front (cx.instrs ++ cy.instrs) r)) w to (GoodFlow l now) (after (e w) (followed f))) sizes
      (subst (λ (q : List Item). Runs E.site (size_of cx + size_of cy) m (at_work E m w vs q) w to (GoodFlow l now) (after (e w) (followed f))) (sym (front_append cx.instrs cy.instrs r))
      (bind E.site (size_of cx) (size_of cy) m (at_work E m w vs (front cx.instrs (front cy.instrs r))) w (to_flow vs (front cy.instrs r) br cr rr caller) (GoodFlow l now) to (GoodFlow l now) (e w) (followed f)
      (rx n (has_front E.site.funcs E.fn n cx.seqs cy.seqs has) (omega (arith, sizes, small)) now le vs (front cy.instrs r) br cr rr caller (around_front cy.instrs vs r b c l br cr rr caller a) (depth_front cy.instrs r ∙ dep) w m k) on))
    where
      on : (g : Flow) (w1 : World) (m1 : Mem) → GoodFlow l now g w1 m1
          → Runs E.site (size_of (y (n + length (x n).seqs))) m1 (to_flow vs (front (y (n + length (x n).seqs)).instrs r) br cr rr caller g w1 m1) w1 (to_flow vs r br cr rr caller) (GoodFlow l now) (followed f g w1)
      on next w1 m1 g = ry (n + length (x n).seqs) (has_back E.site.funcs E.fn n (x n).seqs (y (n + length (x n).seqs)).seqs has) (let s = size_joined (x n) (y (n + length (x n).seqs)) in omega (arith, s, small)) now le vs r br cr rr caller a dep w1 m1 g.1
      on broken w1 m1 g = here E.site (size_of (y (n + length (x n).seqs))) w1 m1 (to_flow vs r br cr rr caller) (GoodFlow l now) broken g
      on continued w1 m1 g = here E.site (size_of (y (n + length (x n).seqs))) w1 m1 (to_flow vs r br cr rr caller) (GoodFlow l now) continued g
      on (returned v) w1 m1 g = here E.site (size_of (y (n + length (x n).seqs))) w1 m1 (to_flow vs r br cr rr caller) (GoodFlow l now) (returned v) g

  pub flow_return : (l : Way) (hs : List Home) (b c : ℕ) (v : Value) → IsValue E E.result hs v → FlowOut l hs (returned v) b c (one Return) (pushes E E.result hs v)
  flow_return l hs b c v ok n has small now le vs r br cr rr caller a dep w m more k ag =
      let is = pushed_still E.unit.structs E.places hs m.homes more E.result v vs ok in (
        m,
        (value_still E.unit.structs E.places hs m.homes more E.result v ok, k),
        subst (λ (us : List Word). Goes E.site 1 w w m (at_work E m w (pushes E E.result hs v vs) (front (Return ∷ []) r)) m (exit_ended caller us rr)) (sym is)
            (one_here E.site w m m Return (frame_of E m w) (pushes E E.result hs v vs) r (thread caller (pushes E E.result hs v vs) rr) (ap (step.moved (goes.store E.site m)) (a.returns hs v ok))),
      )

  -- out of a loop
  pub flow_break : (j : Jumps) (d b c : ℕ) (off : Off) → j.breaks ≡ true → FlowOut (way j d None off) [] broken b c (one (Br b)) same
  flow_break j d b c off e n has small now le vs r br cr rr caller a dep w m more k ag =
      (m, ((e, tt), k), one_here E.site w m m (Br b) (frame_of E m w) vs r (thread (frame_of E m w) vs br) (ap (step.moved (goes.store E.site m)) (a.breaks e (frame_of E m w))))

  pub flow_continue : (l : Way) (b c : ℕ) → l.continues ≡ true → FlowOut l [] continued b c (one (Br c)) same
  flow_continue l b c e n has small now le vs r br cr rr caller a dep w m more k ag =
      (m, (e, k), one_here E.site w m m (Br c) (frame_of E m w) vs r (thread (frame_of E m w) vs cr) (ap (step.moved (goes.store E.site m)) (a.continues e (frame_of E m w))))

  pub flow_choice : (l : Way) (b c : ℕ) (x y : Code) (z : ℕ) (t : Bool) (e f : Does Flow) → IsWhole y → IsTest E z t → FlowRuns l (suc b) (suc c) x same e → FlowRuns l (suc b) (suc c) y same f
      → FlowRuns l b c (choice None x y) (λ vs. I32 z ∷ vs) (if t then e else f)
  flow_choice l b c x y z t e f whole test rx ry n has small now le vs r br cr rr caller a dep w m k =
      let to = to_flow vs r br cr rr caller in
      let r' = Label None (length vs) None ∷ r in
      let a' = around_block None (length vs) None vs r b c l br cr rr caller a in
      let same_to : to_flow vs r' br cr rr caller ≡ to = λ j g w1 m1. in_label None (length vs) None vs r br cr rr caller g w1 m1 j in
      let n2 = suc (suc n + length (x (suc n)).seqs) in
      subst (λ (q : Result Flow). Runs E.site (size_of (choice None x y n)) m (thread (frame_of E m w) (I32 z ∷ vs) (front (choice None x y n).instrs r)) w to (GoodFlow l now) q) (choice_at E t e f w)
      (runs_choice E None x y n z t vs r w m to (GoodFlow l now) (e w) (f w) whole test has
      (λ h. subst (λ (q : Flow → World → Mem → Thread). Runs E.site (size_of (x (suc n))) m (at_work E m w vs (front (x (suc n)).instrs r')) w q (GoodFlow l now) (e w)) same_to
      (rx (suc n) h (small_first n) now le vs r' br cr rr caller a' dep w m k))
      (λ h. subst (λ (q : Flow → World → Mem → Thread). Runs E.site (size_of (y n2)) m (at_work E m w vs (front (y n2).instrs r')) w q (GoodFlow l now) (f w)) same_to
      (ry n2 h (small_second n) now le vs r' br cr rr caller a' dep w m k)))
    where
      small_first : (q : ℕ) → size_of (x (suc n)) ≤ E.site.most
      small_first q = let s = total_append (inner (x (suc n))) (second_seqs (y (suc (suc n + length (x (suc n)).seqs)))) in omega (arith, s, small)

      small_second : (q : ℕ) → size_of (y (suc (suc n + length (x (suc n)).seqs))) ≤ E.site.most
      small_second q =
          let s = total_append (inner (x (suc n))) (second_seqs (y (suc (suc n + length (x (suc n)).seqs)))) in
          let p = second_size E (y (suc (suc n + length (x (suc n)).seqs))) (whole (suc (suc n + length (x (suc n)).seqs))) in
          omega (arith, s, p, small)
