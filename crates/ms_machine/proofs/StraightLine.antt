-- Steps in a row of which the outside sees nothing.
use Rattle.std.proofs.Common.{◌≡◌, ◌≢◌, ◌==◌, ◌<◌, ◌≤◌, ◌+◌, ◌-◌, ◌*◌, ◌^◌, Bor, IfSome, IsTrue, MatchOption, ℕ, zero, suc, Bool, false, List, [], ◌∷◌, ◌++◌, Option, Some, None, append-nil, drop, get_or, get_or-drop, length, length-drop, nat_lt, slice_get, take, take_all, refl, sym, ap, subst, ◌∙◌, arith}
use Rattle.std.proofs.lemmas.Bool.{ltb-true}
use Rattle.ms_event.specs.declared.event.Event.{Event}
use Rattle.ms_event.specs.declared.tally.Tally.{Tally}
use Rattle.ms_event.specs.refinement.Tally.{LeavesRoom, all_tallied}
use Rattle.ms_event.proofs.Tallies.{room_after, room_less, tallied_both}
use Rattle.ms_handle.specs.declared.handle.Handle.{Handle}
use Rattle.ms_linear.specs.declared.global.GlobalInst.{GlobalInst}
use Rattle.ms_linear.specs.declared.value.Value.{Value}
use Rattle.ms_linear.specs.Memory.{Memory as LinearMemory}
use Rattle.ms_module.specs.declared.access.Linear.{Linear as LinearInstr}
use Rattle.ms_module.specs.declared.access.Segment.{Segment as SegmentInstr}
use Rattle.ms_module.specs.declared.instr.Instr.{Instr}
use Rattle.ms_module.specs.declared.instr.Instr.TheVariants as instr
use Rattle.ms_operate.specs.Effects as effects
use Rattle.ms_operate.specs.Effects.{Effect}
use Rattle.ms_operate.specs.Memories.{linear_on}
use Rattle.ms_task.specs.Control.{Moved, Repeats, exit_ended, exited as exited_thread}
use Rattle.ms_task.specs.Thread.{Activation, Begins, Do, Item, Label, Thread, sequence, thread, with_first}
use Rattle.ms_task.specs.refinement.View.{IsAt, at_next, before, frame_of, outer_of, rest_at, thread_of}
use Rattle.ms_task.specs.declared.func.FuncInst.{FuncInst}
use Rattle.ms_task.specs.declared.task.Task.{Task}
use Rattle.ms_task.proofs.Items.{begins_past}
use Rattle.ms_task.proofs.Places.{held, held_before}
use Rattle.ms_segment.specs.Memory.{IsFit}
use Rattle.ms_machine.specs.refinement.StraightLine.{DoesAgain, GoesCounted, GoesQuietly, GoesTelling, IsCalm, IsHalted, IsMet, IsNext, StepsCounted, StepsQuietly}
use Rattle.ms_machine.specs.declared.straight.Stretch.{Stretch}
use Rattle.ms_machine.specs.declared.straight.Stretch.TheVariants as stretches
use Rattle.ms_machine.specs.refinement.Doing.{Can, Carries}
use Rattle.ms_machine.specs.refinement.Holding.{StoreFits, ThreadFits}
use Rattle.ms_machine.specs.Moves.{Goes, move_for, move_on}
use Rattle.ms_machine.specs.Running.{with_event}
use Rattle.ms_machine.specs.Segments as segments
use Rattle.ms_machine.specs.Segments.{Effect as SegmentEffect, segment_on}
use Rattle.ms_machine.specs.Step.{Next, Outcome, Stuck, act, exited, first, in_memory, in_segments, linear, moved, on_memory, on_top, set_global, set_global_at, step_of}
use Rattle.ms_machine.specs.Store.{Store, global_address, instance_of, memory_address}
use Rattle.ms_machine.specs.Typing.{StoreTyped, TaskTyped, outline_of}
use Rattle.ms_machine.proofs.Moving.{move_keeps, move_stays_typed, move_unstuck}
use Rattle.ms_machine.proofs.TypedSteps.{begins_well}

-- ---- one behind the other

pub quietly_on : (s s1 s' : Store) (n k : ℕ) (t t1 t' : Thread) → GoesQuietly s t n s1 t1 → t1.work ≢ [] → StepsQuietly s1 t1 s' t' → k ≡ suc n → GoesQuietly s t k s' t'
quietly_on s s1 s' n k t t1 t' first going step is = subst (λ j. GoesQuietly s t j s' t') (sym is) (s1, t1, first, going, step)

pub quietly_trans : (s s1 s' : Store) (n m k : ℕ) (t t1 t' : Thread) → GoesQuietly s t n s1 t1 → GoesQuietly s1 t1 m s' t' → k ≡ n + m → GoesQuietly s t k s' t'
quietly_trans s s1 s' n zero k t t1 t' first (store, thread) is =
    let e : n ≡ k = omega (arith, is) in
    subst (λ j. GoesQuietly s t j s' t') e (subst (λ (x : Store). GoesQuietly s t n x t') (sym store) (subst (λ x. GoesQuietly s t n s1 x) (sym thread) first))
quietly_trans s s1 s' n (suc m) k t t1 t' first (s2, t2, rest, going, step) is =
    quietly_on s s2 s' (n + m) k t t2 t' (quietly_trans s s1 s2 n m (n + m) t t1 t2 first rest refl) going step (omega (arith, is))

-- ---- what they keep

step_goes : (s s' : Store) (t t' : Thread) (event : Option Event) → step_of s t ≡ Next s' t' event → move_for s t None ≡ Goes s' t' false None event
step_goes s s' t t' event is = ap (move_on s None) is

pub quietly_typed : (s s' : Store) (t t' : Thread) (n : ℕ) → GoesQuietly s t n s' t' → StoreTyped (outline_of s) → TaskTyped (outline_of s) t → (outline_of s' ≡ outline_of s) × TaskTyped (outline_of s') t'
quietly_typed s s' t t' zero (same, still) store task =
    (ap outline_of same, subst (λ (x : Store). TaskTyped (outline_of x) t') (sym same) (subst (TaskTyped (outline_of s)) (sym still) task))
quietly_typed s s' t t' (suc n) (s1, t1, rest, going, step) store task =
    let before = quietly_typed s s1 t t1 n rest store task in
    let then = move_stays_typed s1 s' t1 t' None false None None (step_goes s1 s' t1 t' None step) (subst StoreTyped (sym before.0) store) before.1 going in
    (then.0 ∙ before.0, then.1)

pub quietly_fits : (s s' : Store) (t t' : Thread) (n : ℕ) → GoesQuietly s t n s' t' → StoreFits s → ThreadFits s t → StoreFits s' × ThreadFits s' t'
quietly_fits s s' t t' zero (same, still) store fits =
    (subst StoreFits (sym same) store, subst (λ (x : Store). ThreadFits x t') (sym same) (subst (ThreadFits s) (sym still) fits))
quietly_fits s s' t t' (suc n) (s1, t1, rest, going, step) store fits =
    let before = quietly_fits s s1 t t1 n rest store fits in
    let then = move_keeps s1 s' t1 t' None false None None before.0 before.1 (step_goes s1 s' t1 t' None step) in
    (then.0, then.1)

-- ---- steps that tell

telling_on : (s s1 s' : Store) (n k : ℕ) (es es' : List Event) (event : Option Event) (t t1 t' : Thread) → GoesTelling s t n es s1 t1 → t1.work ≢ [] → step_of s1 t1 ≡ Next s' t' event → es' ≡ es ++ with_event event [] → k ≡ suc n → GoesTelling s t k es' s' t'
telling_on s s1 s' n k es es' event t t1 t' first going step told is = subst (λ j. GoesTelling s t j es' s' t') (sym is) (s1, t1, es, event, first, going, step, told)

-- behind which others tell nothing
telling_quietly : (s s1 s' : Store) (n m k : ℕ) (es : List Event) (t t1 t' : Thread) → GoesTelling s t n es s1 t1 → GoesQuietly s1 t1 m s' t' → k ≡ n + m → GoesTelling s t k es s' t'
telling_quietly s s1 s' n zero k es t t1 t' first (store, thread) is =
    let e : n ≡ k = omega (arith, is) in
    subst (λ j. GoesTelling s t j es s' t') e (subst (λ (x : Store). GoesTelling s t n es x t') (sym store) (subst (λ x. GoesTelling s t n es s1 x) (sym thread) first))
telling_quietly s s1 s' n (suc m) k es t t1 t' first (s2, t2, rest, going, step) is =
    telling_on s s2 s' (n + m) k es es None t t2 t' (telling_quietly s s1 s2 n m (n + m) es t t1 t2 first rest refl) going step (sym (append-nil es)) (omega (arith, is))

pub telling_typed : (s s' : Store) (t t' : Thread) (n : ℕ) (es : List Event) → GoesTelling s t n es s' t' → StoreTyped (outline_of s) → TaskTyped (outline_of s) t → (outline_of s' ≡ outline_of s) × TaskTyped (outline_of s') t'
telling_typed s s' t t' zero es (same, still, none) store task =
    (ap outline_of same, subst (λ (x : Store). TaskTyped (outline_of x) t') (sym same) (subst (TaskTyped (outline_of s)) (sym still) task))
telling_typed s s' t t' (suc n) es (s1, t1, es1, event, rest, going, step, told) store task =
    let before = telling_typed s s1 t t1 n es1 rest store task in
    let then = move_stays_typed s1 s' t1 t' None false None event (step_goes s1 s' t1 t' event step) (subst StoreTyped (sym before.0) store) before.1 going in
    (then.0 ∙ before.0, then.1)

-- handles that fit, and how many identities were made
abbrev Grows : Store → ℕ → Store → Thread → Type 0
Grows s n s' t' = StoreFits s' × ThreadFits s' t' × (s'.segments.made ≤ s.segments.made + n) × ((h : Handle) → IsFit s.segments h → IsFit s'.segments h)

pub telling_grows : (s s' : Store) (t t' : Thread) (n : ℕ) (es : List Event) → GoesTelling s t n es s' t' → StoreFits s → ThreadFits s t → Grows s n s' t'
telling_grows s s' t t' zero es (same, still, none) store fits =
    let first : Grows s 0 s t = (store, fits, omega arith, λ h fit. fit) in
    subst (λ (x : Store). Grows s 0 x t') (sym same) (subst (λ x. Grows s 0 s x) (sym still) first)
telling_grows s s' t t' (suc n) es (s1, t1, es1, event, rest, going, step, told) store fits =
    let before = telling_grows s s1 t t1 n es1 rest store fits in
    let then = move_keeps s1 s' t1 t' None false None event before.0 before.1 (step_goes s1 s' t1 t' event step) in
    let some = before.2 in
    let more = then.2 in
    (then.0, then.1, omega (arith, some, more), λ h fit. then.3 h (before.3 h fit))

-- ---- steps whose events are counted

pub counted_none : (keep : Bool) (s : Store) (t : Thread) (c : Tally) (n : ℕ) → n ≡ 0 → GoesCounted keep s t c n s t c
counted_none keep s t c n none = subst (λ k. GoesCounted keep s t c k s t c) (sym none) ([], (refl, refl, refl), refl, λ _. refl)

pub counted_quietly : (keep : Bool) (s s1 s' : Store) (t t1 t' : Thread) (c c' : Tally) (n m k : ℕ) → GoesCounted keep s t c n s1 t1 c' → GoesQuietly s1 t1 m s' t' → k ≡ n + m → GoesCounted keep s t c k s' t' c'
counted_quietly keep s s1 s' t t1 t' c c' n m k (es, steps, tally, none) rest is = (es, telling_quietly s s1 s' n m k es t t1 t' steps rest is, tally, none)

pub unkept : (keep : Bool) → keep ≡ false → IsTrue keep → ⊥
unkept keep is kept = cc

-- one more, which tells something only where events are not to be kept
pub counted_on : (keep : Bool) (s s1 s' : Store) (t t1 t' : Thread) (c c1 c' : Tally) (n k : ℕ) → (IsTrue keep → ⊥) → GoesCounted keep s t c n s1 t1 c1 → t1.work ≢ [] → StepsCounted s1 t1 c1 s' t' c' → k ≡ suc n → GoesCounted keep s t c k s' t' c'
counted_on keep s s1 s' t t1 t' c c1 c' n k unkept (es, steps, tally, none) going (event, step, told) is = (
  es ++ with_event event [],
  telling_on s s1 s' n k es (es ++ with_event event []) event t t1 t' steps going step refl is,
  told ∙ (ap (all_tallied (with_event event [])) tally ∙ sym (tallied_both es (with_event event []) c)),
  λ kept. absurd (unkept kept),
)

-- one more that tells nothing
pub counted_still : (keep : Bool) (s s1 s' : Store) (t t1 t' : Thread) (c c' : Tally) (n k : ℕ) → GoesCounted keep s t c n s1 t1 c' → t1.work ≢ [] → StepsQuietly s1 t1 s' t' → k ≡ suc n → GoesCounted keep s t c k s' t' c'
counted_still keep s s1 s' t t1 t' c c' n k (es, steps, tally, none) going step is = (es, telling_on s s1 s' n k es es None t t1 t' steps going step (sym (append-nil es)) is, tally, none)

-- room for what is counted later
pub room_told : (n m : ℕ) (c c' : Tally) (event : Option Event) → m + 1 ≤ n → c' ≡ all_tallied (with_event event []) c → LeavesRoom n c → LeavesRoom m c'
room_told n m c c' None less is room = subst (LeavesRoom m) (sym is) (room_less n m c (omega (arith, less)) room)
room_told n m c c' (Some e) less is room = subst (LeavesRoom m) (sym is) (room_after n m c less room e)

module _ (q : Stretch) (keep : Bool) (n : ℕ) (s s' : Store) (t t' : Thread) (c c' : Tally) where
  pub halted_typed : IsHalted q keep n s t c s' t' c' → IsCalm q → StoreTyped (outline_of s) → TaskTyped (outline_of s) t → (outline_of s' ≡ outline_of s) × TaskTyped (outline_of s') t'
  halted_typed halted calm store task = by q halted calm where
    by : (k : Stretch) → IsHalted k keep n s t c s' t' c' → IsCalm k → (outline_of s' ≡ outline_of s) × TaskTyped (outline_of s') t'
    by stretches.Paused (steps, going) calm = telling_typed s s' t t' n steps.0 steps.1 store task
    by stretches.Ended (steps, ended) calm = telling_typed s s' t t' n steps.0 steps.1 store task
    by stretches.Memory steps calm = absurd calm

  pub halted_grows : IsHalted q keep n s t c s' t' c' → IsCalm q → StoreFits s → ThreadFits s t → Grows s n s' t'
  halted_grows halted calm store fits = by q halted calm where
    by : (k : Stretch) → IsHalted k keep n s t c s' t' c' → IsCalm k → Grows s n s' t'
    by stretches.Paused (steps, going) calm = telling_grows s s' t t' n steps.0 steps.1 store fits
    by stretches.Ended (steps, ended) calm = telling_grows s s' t t' n steps.0 steps.1 store fits
    by stretches.Memory steps calm = absurd calm

-- ---- the next instruction

begins_going : (w : List Item) → Begins w → w ≢ []
begins_going [] b e = absurd b
begins_going (i ∷ w) b e = cc

exits_none : (t : Thread) → Begins t.work → exited_thread t ≡ t
exits_none t b = at t.work b where
  at : (w : List Item) → Begins w → exit_ended t.frame t.operands w ≡ thread t.frame t.operands w
  at [] b = absurd b
  at (Do i ∷ w) b = refl
  at (Label k h g ∷ w) b = absurd b
  at (Activation k h caller ∷ w) b = absurd b

-- where it leads, with what is then at its end exited
pub leaves_telling : (s s' : Store) (t t1 u t' : Thread) (i : Instr) (event : Option Event) → t ≡ with_first i t1 → act s i t1 ≡ Next s' u event → t' ≡ exited_thread u → step_of s t ≡ Next s' t' event
leaves_telling s s' t t1 u t' i event starts acts same = ap (step_of s) starts ∙ ap exited acts ∙ ap (λ x. Next s' x event) (sym same)

pub leaves : (s s' : Store) (t t1 u t' : Thread) (i : Instr) → t ≡ with_first i t1 → act s i t1 ≡ Next s' u None → t' ≡ exited_thread u → step_of s t ≡ Next s' t' None
leaves s s' t t1 u t' i starts acts same = leaves_telling s s' t t1 u t' i None starts acts same

-- nothing is at its end
pub stays : (s : Store) (t t1 t' : Thread) (i : Instr) → t ≡ with_first i t1 → act s i t1 ≡ Next s t' None → Begins t'.work → step_of s t ≡ Next s t' None
stays s t t1 t' i starts acts begins = leaves s s t t1 t' t' i starts acts (sym (exits_none t' begins))

module _ (s : Store) (code : List Instr) (t : Task) (place : ℕ) (i : Instr)
    (code-is : code ≡ sequence s.funcs t.function t.sequence) (within : place < length code) (read : i ≡ get_or code place i) where
  pub stands : at_next s.funcs t place ≡ with_first i (at_next s.funcs t (place + 1))
  stands = held s.funcs (frame_of t) t.operands (outer_of s.funcs t) t.function t.sequence place code i code-is within read

  pub before_next : before s.funcs t (place + 1) ≡ Some i
  before_next = held_before s.funcs t.function t.sequence place code i code-is within read

  -- it finds what it takes
  pub can_next : StoreTyped (outline_of s) → TaskTyped (outline_of s) (at_next s.funcs t place) → (at_next s.funcs t place).work ≢ [] → Can i (place + 1) s t
  can_next store task going stuck = move_unstuck s (at_next s.funcs t place) None store task going (ap (move_on s None) (ap (step_of s) stands ∙ ap exited stuck))

-- all from a place on
pub rest_from : (is : List Instr) (place : ℕ) → take (length is - place) (drop place is) ≡ drop place is
rest_from is place = take_all (length is - place) (drop place is) (omega (arith, length-drop place is))

pub some_left : (n : ℕ) → (n == 0) ≡ false → 0 < n
some_left zero e = cc
some_left (suc n) e = omega arith

-- where the rest of a sequence begins at a place
module _ (is rest : List Instr) (place : ℕ) (rest-is : rest ≡ drop place is) (some : 0 < length rest) where
  pub rest_within : place < length is
  rest_within = omega (arith, length-drop place is, ap length rest-is, some)

  pub rest_read : (i : Instr) → i ≡ get_or rest 0 i → i ≡ get_or is place i
  rest_read i read = let e : place + 0 ≡ place = omega arith in read ∙ ap (λ xs. get_or xs 0 i) rest-is ∙ get_or-drop place is 0 i ∙ ap (λ n. get_or is n i) e

  pub rest_more : 0 < length (drop 1 rest) → place + 1 < length is
  rest_more more = omega (arith, length-drop place is, ap length rest-is, length-drop 1 rest, more)

  pub rest_behind : IsTrue (nat_lt 1 (length rest)) → place + 1 < length is
  rest_behind more-is = let more = ltb-true 1 (length rest) more-is in omega (arith, length-drop place is, ap length rest-is, more)

begins_at : (s : Store) (w : List Item) (f q next : ℕ) → next < length (sequence s.funcs f q) → Begins (rest_at s.funcs f q next ++ w)
begins_at s w f q next within = begins_past (drop next (sequence s.funcs f q)) w (λ e. absurd (omega (arith, within, length-drop next (sequence s.funcs f q), ap length e)))

-- another one stands behind it
pub carried_on : (s : Store) (t t' : Task) (i : Instr) (next : ℕ) → Carries i next s t t' → next < length (sequence s.funcs t.function t.sequence) → StepsQuietly s (with_first i (at_next s.funcs t next)) s (at_next s.funcs t' next)
carried_on s t t' i next (acts, at) within =
    let begins = begins_at s (outer_of s.funcs t') t.function t.sequence next within in
    let e : rest_at s.funcs t.function t.sequence next ≡ rest_at s.funcs t'.function t'.sequence next = rw (at.0, at.1) refl in
    stays s (with_first i (at_next s.funcs t next)) (at_next s.funcs t next) (at_next s.funcs t' next) i refl acts (subst (λ w. Begins (w ++ outer_of s.funcs t')) e begins)

-- a task whose work goes on within a sequence has something to do
pub going_at : (s : Store) (t : Task) (place : ℕ) → place < length (sequence s.funcs t.function t.sequence) → (at_next s.funcs t place).work ≢ []
going_at s t place within = begins_going (at_next s.funcs t place).work (begins_at s (outer_of s.funcs t) t.function t.sequence place within)

-- ---- a branch to a loop, and the loop once more

-- what the code says of it, over these functions
abbrev RepeatsIn : List FuncInst → Moved → List Instr → Task → Type 0
RepeatsIn funcs m code t' = Repeats funcs m (thread_of funcs t') × (code ≡ sequence funcs t'.function t'.sequence) × (t'.place < length code)

module _ (s : Store) (t t' : Task) (i : Instr) (next : ℕ) (m : List FuncInst → Moved) (acts : act s i (at_next s.funcs t next) ≡ moved s (m s.funcs)) where
  repeated_in : (code : List Instr) → RepeatsIn s.funcs (m s.funcs) code t' → length code * 16 < 2 ^ 63 → DoesAgain code s (with_first i (at_next s.funcs t next)) t'
  repeated_in code ((ty, b, u, branched, entered), same, within) small =
      let loop = instr.Loop ty b in
      let t0 = with_first i (at_next s.funcs t next) in
      let t1 = with_first loop u in
      let t2 = thread_of s.funcs t' in
      let begins = begins_at s (outer_of s.funcs t') t'.function t'.sequence t'.place (subst (λ (is : List Instr). t'.place < length is) same within) in
      let first : step_of s t0 ≡ Next s t1 None = stays s t0 (at_next s.funcs t next) t1 i refl (acts ∙ ap (moved s) branched) (tt {0}) in
      let second : step_of s t1 ≡ Next s t2 None = stays s t1 u t2 loop refl (ap (moved s) (sym entered)) begins in
      let going : t0.work ≢ [] = begins_going t0.work (tt {0}) in
      ((s, t1, (s, t0, (refl, refl), going, first), begins_going t1.work (tt {0}), second), (same, within, begins_going t2.work begins, small))

  pub repeated : (funcs : List FuncInst) (o : Option (Bor (List Instr))) → funcs ≡ s.funcs → MatchOption o (t' ≡ t) (λ code. RepeatsIn funcs (m funcs) code.now t') → IfSome o (λ code. length code.now * 16 < 2 ^ 63) → MatchOption o (t' ≡ t) (λ code. DoesAgain code.now s (with_first i (at_next s.funcs t next)) t')
  repeated funcs None same as-before small = as-before
  repeated funcs (Some code) same does small = repeated_in code.now (subst (λ (fs : List FuncInst). RepeatsIn fs (m fs) code.now t') same does) small

-- ---- the same where the instruction changes the store

abbrev work_after : Outcome → List Item
work_after (Next s t e) = t.work
work_after _ = []

module _ (s s' : Store) (t u : Thread) (e : Option Event) where
  in_memory_behind : (a : ℕ) (f : Effect) → in_memory s t a f ≡ Next s' u e → u.work ≡ t.work
  in_memory_behind a (effects.Gives vs m) is = sym (ap work_after is)
  in_memory_behind a (effects.Trap trap) is = cc
  in_memory_behind a effects.Stuck is = cc

  on_memory_behind : (j : LinearInstr) (a : ℕ) (m : Option LinearMemory) → on_memory s t j a m ≡ Next s' u e → u.work ≡ t.work
  on_memory_behind j a None is = cc
  on_memory_behind j a (Some m) is = in_memory_behind a (linear_on j m t.operands) is

  linear_at_behind : (j : LinearInstr) (a : Option ℕ) → linear s t j a ≡ Next s' u e → u.work ≡ t.work
  linear_at_behind j None is = cc
  linear_at_behind j (Some a) is = on_memory_behind j a (slice_get s.memories a) is

  -- what was behind an instruction on the linear memory is then left to do
  pub linear_behind : (j : LinearInstr) → act s (instr.Linear j) t ≡ Next s' u e → u.work ≡ t.work
  linear_behind j is = linear_at_behind j (memory_address (instance_of s t.frame)) is

  set_at_behind : (a : ℕ) (g : Option GlobalInst) (v : Value) (vs : List Value) → set_global_at s t a g v vs ≡ Next s' u e → u.work ≡ t.work
  set_at_behind a None v vs is = cc
  set_at_behind a (Some g) v vs is = sym (ap work_after is)

  set_behind : (a : Option ℕ) (v : Value) (vs : List Value) → set_global s t a v vs ≡ Next s' u e → u.work ≡ t.work
  set_behind None v vs is = cc
  set_behind (Some a) v vs is = set_at_behind a (slice_get s.globals a) v vs is

  set_top_behind : (x : ℕ) (vs : List Value) → on_top vs (λ v vs. set_global s t (global_address (instance_of s t.frame) x) v vs) ≡ Next s' u e → u.work ≡ t.work
  set_top_behind x [] is = cc
  set_top_behind x (v ∷ vs) is = set_behind (global_address (instance_of s t.frame) x) v vs is

  -- and behind one that sets a global
  pub global_behind : (x : ℕ) → act s (instr.GlobalSet x) t ≡ Next s' u e → u.work ≡ t.work
  global_behind x is = set_top_behind x t.operands is

  effect_behind : (f : SegmentEffect) → in_segments s t f ≡ Next s' u e → u.work ≡ t.work
  effect_behind (segments.Gives vs m event) is = sym (ap work_after is)
  effect_behind (segments.Trap _) is = cc
  effect_behind segments.Stuck is = cc

  -- and behind one on segments
  pub segment_behind : (j : SegmentInstr) → act s (instr.Segment j) t ≡ Next s' u e → u.work ≡ t.work
  segment_behind j is = effect_behind (segment_on j s.segments t.operands) is

-- another one stands behind it
pub worked_behind : (s s' : Store) (t t' : Task) (i : Instr) (next : ℕ) (event : Option Event) → IsNext i next s t → act s i (at_next s.funcs t next) ≡ Next s' (thread_of s'.funcs t') event → (thread_of s'.funcs t').work ≡ (at_next s.funcs t next).work → next < length (sequence s.funcs t.function t.sequence) → (step_of s (thread_of s.funcs t) ≡ Next s' (thread_of s'.funcs t') event) × ((thread_of s'.funcs t').work ≢ [])
worked_behind s s' t t' i next event here acts behind within =
    let u = thread_of s'.funcs t' in
    let begins = subst Begins (sym behind) (begins_at s (outer_of s.funcs t) t.function t.sequence next within) in
    (leaves_telling s s' (thread_of s.funcs t) (at_next s.funcs t next) u u i event here.0 acts (sym (exits_none u begins)), begins_going u.work begins)

-- a task that is put at a place where its work went on
module _ (s : Store) (t0 : Thread) (n place : ℕ) (t u t' : Task) (same : u ≡ t) (steps : GoesQuietly s t0 n s (at_next s.funcs t place)) (going : (at_next s.funcs t place).work ≢ [])
    (there : thread_of s.funcs t' ≡ at_next s.funcs u place) (others : (k : ℕ) → at_next s.funcs t' k ≡ at_next s.funcs u k) (at : IsAt u place t') where
  there_is : thread_of s.funcs t' ≡ at_next s.funcs t place
  there_is = there ∙ ap (λ (x : Task). at_next s.funcs x place) same

  pub put_at : GoesQuietly s t0 n s (thread_of s.funcs t') × ((thread_of s.funcs t').work ≢ [])
  put_at = subst (λ (x : Thread). GoesQuietly s t0 n s x × (x.work ≢ [])) (sym there_is) (steps, going)

  -- before another's instruction
  pub met_here : (left next : ℕ) (more : Bool) (i j : Instr) → 0 < left → at_next s.funcs t place ≡ with_first i (at_next s.funcs t next) → Can i next s t → (IsTrue more → next < length (sequence s.funcs t.function t.sequence)) → i ≡ j → GoesQuietly s t0 n s (thread_of s.funcs t') × (0 < left) × IsMet j next more s t'
  met_here left next more i j some stands can behind is =
      let next-is : at_next s.funcs t' next ≡ at_next s.funcs t next = others next ∙ ap (λ (x : Task). at_next s.funcs x next) same in
      let first = there_is ∙ stands ∙ ap (with_first i) (sym next-is) in
      let finds : Can i next s t' = subst (λ (x : Thread). act s i x ≢ Stuck) (sym next-is) can in
      let function-is = at.0 ∙ ap (λ (x : Task). x.function) same in
      let sequence-is = at.1 ∙ ap (λ (x : Task). x.sequence) same in
      let follows : IsTrue more → next < length (sequence s.funcs t'.function t'.sequence) = λ yes-more. rw (function-is, sequence-is) (behind yes-more) in
      (put_at.0, some, subst (λ k. IsMet k next more s t') is (put_at.1, (first, finds), follows))

-- the next sequence, wherever it is
pub begins_there : (s : Store) (funcs : List FuncInst) (t0 : Thread) (n : ℕ) (t : Task) → funcs ≡ s.funcs → GoesQuietly s t0 n s (thread_of s.funcs t) → StoreTyped (outline_of s) → TaskTyped (outline_of s) t0 → (thread_of s.funcs t).work ≢ [] → Begins (thread_of funcs t).work
begins_there s funcs t0 n t same steps store task going =
    subst (λ (fs : List FuncInst). Begins (thread_of fs t).work) (sym same)
    (begins_well (outline_of s) (thread_of s.funcs t) (quietly_typed s s t0 (thread_of s.funcs t) n steps store task).1 going)

-- ---- an instruction that changes the store, behind others

module _ (keep : Bool) (s0 s1 s2 s3 : Store) (t0 t1 t2 : Thread) (t3 t4 : Task) (c0 c1 c2 c3 : Tally) (a b k : ℕ)
    (first : GoesCounted keep s0 t0 c0 a s1 t1 c1) (second : GoesQuietly s1 t1 b s1 t2) (going : t2.work ≢ []) (store : s3 ≡ s2) (task : t4 ≡ t3) (tally : c3 ≡ c2) where
  put_there : (P : List Item → Type 0) → GoesCounted keep s0 t0 c0 k s2 (thread_of s2.funcs t3) c2 × P (thread_of s2.funcs t3).work → GoesCounted keep s0 t0 c0 k s3 (thread_of s3.funcs t4) c3 × P (thread_of s3.funcs t4).work
  put_there P there =
      subst (λ (x : Store). GoesCounted keep s0 t0 c0 k x (thread_of x.funcs t4) c3 × P (thread_of x.funcs t4).work) (sym store)
      (subst (λ (x : Task). GoesCounted keep s0 t0 c0 k s2 (thread_of s2.funcs x) c3 × P (thread_of s2.funcs x).work) (sym task)
      (subst (λ (x : Tally). GoesCounted keep s0 t0 c0 k s2 (thread_of s2.funcs t3) x × P (thread_of s2.funcs t3).work) (sym tally) there))

  pub told_on : (P : List Item → Type 0) → (IsTrue keep → ⊥) → StepsCounted s1 t2 c1 s2 (thread_of s2.funcs t3) c2 × P (thread_of s2.funcs t3).work → k ≡ suc (a + b) → GoesCounted keep s0 t0 c0 k s3 (thread_of s3.funcs t4) c3 × P (thread_of s3.funcs t4).work
  told_on P unkept (step, then) is =
      put_there P (counted_on keep s0 s1 s2 t0 t2 (thread_of s2.funcs t3) c0 c1 c2 (a + b) k unkept (counted_quietly keep s0 s1 s1 t0 t1 t2 c0 c1 a b (a + b) first second refl) going step is, then)

  pub told_not : (s2 ≡ s1) × (thread_of s2.funcs t3 ≡ t2) × (c2 ≡ c1) → k ≡ a + b → GoesCounted keep s0 t0 c0 k s3 (thread_of s3.funcs t4) c3 × ((thread_of s3.funcs t4).work ≢ [])
  told_not (same, still, count) is =
      let steps = counted_quietly keep s0 s1 s1 t0 t1 t2 c0 c1 a b k first second is in
      put_there (λ (w : List Item). w ≢ []) (
        subst (λ (x : Store). GoesCounted keep s0 t0 c0 k x (thread_of s2.funcs t3) c2) (sym same) (subst (λ x. GoesCounted keep s0 t0 c0 k s1 x c2) (sym still) (subst (λ x. GoesCounted keep s0 t0 c0 k s1 t2 x) (sym count) steps)),
        subst (λ (x : Thread). x.work ≢ []) (sym still) going,
      )

  -- one that tells nothing
  pub worked_on : (P : List Item → Type 0) → c2 ≡ c1 → StepsQuietly s1 t2 s2 (thread_of s2.funcs t3) × P (thread_of s2.funcs t3).work → k ≡ suc (a + b) → GoesCounted keep s0 t0 c0 k s3 (thread_of s3.funcs t4) c3 × P (thread_of s3.funcs t4).work
  worked_on P count (step, then) is =
      put_there P (
        subst (λ x. GoesCounted keep s0 t0 c0 k s2 (thread_of s2.funcs t3) x) (sym count)
            (counted_still keep s0 s1 s2 t0 t2 (thread_of s2.funcs t3) c0 c1 (a + b) k (counted_quietly keep s0 s1 s1 t0 t1 t2 c0 c1 a b (a + b) first second refl) going step is),
        then,
      )
