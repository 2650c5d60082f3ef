-- A step with the outside: well typed, with handles that fit, and never stuck.
use Rattle.std.proofs.Common.{◌≡◌, ◌≢◌, ◌≤◌, ◌+◌, ℕ, Bool, true, false, List, [], ◌∷◌, ◌++◌, drop, slice_get, Option, Some, None, Ok, refl, sym, ap, subst, ◌∙◌, arith}
use Rattle.ms_event.specs.declared.event.Event.{Event}
use Rattle.ms_handle.specs.declared.handle.Handle.{Handle as H}
use Rattle.ms_host.specs.Host.{given_by, lowest_byte, number_of}
use Rattle.ms_host.specs.declared.host.Host.{Host}
use Rattle.ms_host.specs.declared.host.Host.TheVariants as hosts
use Rattle.ms_linear.specs.declared.value.Value.{Value}
use Rattle.ms_linear.specs.declared.value.Value.TheVariants as values
use Rattle.ms_outside.specs.declared.source.Got.{Got}
use Rattle.ms_outside.specs.declared.source.Got.TheVariants as gots
use Rattle.ms_rules.specs.Typing.{types}
use Rattle.ms_segment.specs.Memory.{IsFit}
use Rattle.ms_task.specs.Control.{exited as exited_thread}
use Rattle.ms_task.specs.Thread.{Thread, thread}
use Rattle.ms_types.specs.declared.types.ValType.TheVariants.{I32}
use Rattle.ms_machine.specs.refinement.Holding.{Each, Fits, StoreFits, ThreadFits, ThreadHolds}
use Rattle.ms_machine.specs.Hosting as hosting
use Rattle.ms_machine.specs.Hosting.{host_on, takes}
use Rattle.ms_machine.specs.Moves as moves
use Rattle.ms_machine.specs.Moves.{Goes, IsPutting, IsTaking, Move, hosted, move_for, move_on}
use Rattle.ms_machine.specs.Step.{Calls, Next, Outcome, Stuck, Trap, step_of}
use Rattle.ms_machine.specs.refinement.Stepped.{DoesStep, InputAfter, IsWell, DoesExit, OutAfter, got_of}
use Rattle.ms_machine.specs.Store.{Store}
use Rattle.ms_machine.specs.declared.stepped.Stepped.{Stepped}
use Rattle.ms_machine.specs.declared.stepped.Stepped.TheVariants as answers
use Rattle.ms_machine.specs.Typing.{Outline, StoreTyped, TaskTyped, outline_of}
use Rattle.ms_machine.proofs.HeldActs.{stepped_calls}
use Rattle.ms_machine.proofs.HeldControl.{exit_holds}
use Rattle.ms_machine.proofs.HeldFits.{step_grows, step_keeps, step_makes}
use Rattle.ms_machine.proofs.TypedSteps.{ExitedTyped, exited_typed, step_typed}
use Rattle.ms_machine.proofs.TypedPlain.{CallTyped}
use Rattle.ms_machine.proofs.TypedValues.{i32_top}

-- ---- typing

abbrev pub MoveTyped : Outline → Move → Type 0
MoveTyped o (Goes s t took put event) = (outline_of s ≡ o) × TaskTyped o t
MoveTyped o (moves.Trap trap) = Unit {0}
MoveTyped o moves.Stuck = ⊥

hosted_typed : (s : Store) (h : Host) (got : Option ℕ) (t : Thread) → CallTyped (outline_of s) h t → MoveTyped (outline_of s) (hosted s t (takes h) (host_on h got t.operands))
hosted_typed s hosts.Putchar got t call =
    let o = outline_of s in
    let n = i32_top t.operands (call.r ++ call.below) call.operands in
    subst (λ vs. MoveTyped o (hosted s t false (host_on hosts.Putchar got vs))) (sym n.2) (
      refl,
      exited_typed o (thread t.frame (values.I32 (lowest_byte n.0) ∷ n.1) t.work) (record {
        ts = types call.k ++ call.r;
        below = call.below;
        operands = ap (λ l. I32 ∷ l) n.3 ∙ ap (λ l. (l ++ call.r) ++ call.below) call.results;
        frame = call.frame;
        work = call.work;
      }),
    )
hosted_typed s hosts.Getchar got t call = (
  refl,
  exited_typed (outline_of s) (thread t.frame (values.I32 (number_of got) ∷ t.operands) t.work) (record {
    ts = types call.k ++ call.r;
    below = call.below;
    operands = ap (λ l. I32 ∷ l) call.operands ∙ ap (λ l. (l ++ call.r) ++ call.below) call.results;
    frame = call.frame;
    work = call.work;
  }),
)
hosted_typed s hosts.Abort got t call = tt

on_typed : (s : Store) (got : Option ℕ) (o : Outcome) → ExitedTyped (outline_of s) o → MoveTyped (outline_of s) (move_on s got o)
on_typed s got (Next s' t' event) h = h
on_typed s got (Calls host t) h = hosted_typed s host got t h
on_typed s got (Trap trap) h = tt
on_typed s got Stuck h = h

pub move_typed : (s : Store) (t : Thread) (got : Option ℕ) → StoreTyped (outline_of s) → TaskTyped (outline_of s) t → t.work ≢ [] → MoveTyped (outline_of s) (move_for s t got)
move_typed s t got store task going = on_typed s got (step_of s t) (step_typed s t store task going)

pub move_unstuck : (s : Store) (t : Thread) (got : Option ℕ) → StoreTyped (outline_of s) → TaskTyped (outline_of s) t → t.work ≢ [] → move_for s t got ≢ moves.Stuck
move_unstuck s t got store task going is = subst (MoveTyped (outline_of s)) is (move_typed s t got store task going)

pub move_stays_typed : (s s' : Store) (t t' : Thread) (got : Option ℕ) (took : Bool) (put : Option ℕ) (event : Option Event) → move_for s t got ≡ Goes s' t' took put event → StoreTyped (outline_of s) → TaskTyped (outline_of s) t → t.work ≢ [] → (outline_of s' ≡ outline_of s) × TaskTyped (outline_of s') t'
move_stays_typed s s' t t' got took put event is store task going =
    let h = subst (MoveTyped (outline_of s)) is (move_typed s t got store task going) in
    (h.0, subst (λ (o : Outline). TaskTyped o t') (sym h.0) h.1)

-- what the code answers, where the task may go on
pub does_step_typed : (s s' : Store) (t t' : Thread) (r : Stepped) (left left' held held' : Option (List ℕ)) → DoesStep r (move_for s t) s t s' t' left left' held held' → IsWell r → StoreTyped (outline_of s) → TaskTyped (outline_of s) t → t.work ≢ [] → (outline_of s' ≡ outline_of s) × TaskTyped (outline_of s') t'
does_step_typed s s' t t' (answers.On event) left left' held held' h well store task going = move_stays_typed s s' t t' h.0.got h.0.took h.0.put event h.0.is store task going
does_step_typed s s' t t' (answers.Ended value event) left left' held held' h well store task going = move_stays_typed s s' t t' h.0.got h.0.took h.0.put event h.0.is store task going
does_step_typed s s' t t' (answers.Trap trap) left left' held held' h well store task going =
    (ap outline_of h.1, subst (λ (x : Store). TaskTyped (outline_of x) t') (sym h.1) (subst (λ x. TaskTyped (outline_of s) x) (sym h.2) task))
does_step_typed s s' t t' answers.ReadFault left left' held held' h well store task going = absurd well
does_step_typed s s' t t' answers.WriteFault left left' held held' h well store task going = absurd well
does_step_typed s s' t t' answers.Memory left left' held held' h well store task going = absurd well

-- ---- handles that fit

host_holds : (P : Value → Type 0) → ((n : ℕ) → P (values.I32 n)) → (h : Host) (got : Option ℕ) (vs us : List Value) (put : Option ℕ) → Each P vs → host_on h got vs ≡ hosting.Gives us put → Each P us
host_holds P int32 hosts.Putchar got (values.I32 n ∷ vs) us put each is = let same : values.I32 (lowest_byte n) ∷ vs ≡ us = cc in subst (Each P) same (int32 (lowest_byte n), each.1)
host_holds P int32 hosts.Putchar got [] us put each is = cc
host_holds P int32 hosts.Putchar got (values.I64 n ∷ vs) us put each is = cc
host_holds P int32 hosts.Putchar got (values.Handle h ∷ vs) us put each is = cc
host_holds P int32 hosts.Getchar got vs us put each is = let same : values.I32 (number_of got) ∷ vs ≡ us = cc in subst (Each P) same (int32 (number_of got), each)
host_holds P int32 hosts.Abort got vs us put each is = cc

-- what holds of each value of the thread behind the call holds behind what the host gave
pub hosted_holds : (P : Value → Type 0) → ((n : ℕ) → P (values.I32 n)) → (s s' : Store) (h : Host) (got : Option ℕ) (u t' : Thread) (took : Bool) (put : Option ℕ) (event : Option Event) → ThreadHolds P u → hosted s u (takes h) (host_on h got u.operands) ≡ Goes s' t' took put event → (s' ≡ s) × (event ≡ None) × ThreadHolds P t'
hosted_holds P int32 s s' h got u t' took put event holds is = by (host_on h got u.operands) refl is where
  by : (e : hosting.Effect) → host_on h got u.operands ≡ e → hosted s u (takes h) e ≡ Goes s' t' took put event → (s' ≡ s) × (event ≡ None) × ThreadHolds P t'
  by (hosting.Gives us b) gives goes =
      let thread : exited_thread (thread u.frame us u.work) ≡ t' = cc in
      (cc, cc, subst (ThreadHolds P) thread (exit_holds P u.frame us u.work (host_holds P int32 h got u.operands us b holds.operands gives) holds.locals holds.kept))
  by (hosting.Trap trap) gives goes = cc
  by hosting.Stuck gives goes = cc

abbrev pub Keeps : Store → Store → Thread → Type 0
Keeps s s' t' = StoreFits s' × ThreadFits s' t' × (s'.segments.made ≤ s.segments.made + 1) × ((h : H) → IsFit s.segments h → IsFit s'.segments h)

pub move_keeps : (s s' : Store) (t t' : Thread) (got : Option ℕ) (took : Bool) (put : Option ℕ) (event : Option Event) → StoreFits s → ThreadFits s t → move_for s t got ≡ Goes s' t' took put event → Keeps s s' t'
move_keeps s s' t t' got took put event store fits is = by (step_of s t) refl is where
  by : (o : Outcome) → step_of s t ≡ o → move_on s got o ≡ Goes s' t' took put event → Keeps s s' t'
  by (Next s1 t1 e) next goes =
      let next' : step_of s t ≡ Next s' t' event = cc in
      let kept = step_keeps s s' t t' event store fits next' in
      (kept.0, kept.1, (step_makes s s' t t' event next').1, step_grows s s' t t' event next')
  by (Calls h u) next goes =
      let P = Fits s.segments in
      let mine = stepped_calls P (λ n. tt) (λ n. tt) tt s t u h store.globals fits next in
      let held = hosted_holds P (λ n. tt) s s' h got u t' took put event mine goes in
      let same : s ≡ s' = sym held.0 in
      (subst StoreFits same store, subst (λ (x : Store). ThreadFits x t') same held.2, subst (λ (x : Store). x.segments.made ≤ s.segments.made + 1) same (omega arith), subst (λ (x : Store). (h : H) → IsFit s.segments h → IsFit x.segments h) same (λ h fit. fit))
  by (Trap trap) next goes = cc
  by Stuck next goes = cc

pub does_step_fits : (s s' : Store) (t t' : Thread) (r : Stepped) (left left' held held' : Option (List ℕ)) → DoesStep r (move_for s t) s t s' t' left left' held held' → IsWell r → StoreFits s → ThreadFits s t → Keeps s s' t'
does_step_fits s s' t t' (answers.On event) left left' held held' h well store fits = move_keeps s s' t t' h.0.got h.0.took h.0.put event store fits h.0.is
does_step_fits s s' t t' (answers.Ended value event) left left' held held' h well store fits = move_keeps s s' t t' h.0.got h.0.took h.0.put event store fits h.0.is
does_step_fits s s' t t' (answers.Trap trap) left left' held held' h well store fits =
    let same : s ≡ s' = sym h.1 in (
      subst StoreFits same store,
      subst (λ x. ThreadFits s' x) (sym h.2) (subst (λ x. ThreadFits x t) same fits),
      subst (λ (x : Store). x.segments.made ≤ s.segments.made + 1) same (omega arith),
      subst (λ (x : Store). (h : H) → IsFit s.segments h → IsFit x.segments h) same (λ h fit. fit),
    )
does_step_fits s s' t t' answers.ReadFault left left' held held' h well store fits = absurd well
does_step_fits s s' t t' answers.WriteFault left left' held held' h well store fits = absurd well
does_step_fits s s' t t' answers.Memory left left' held held' h well store fits = absurd well

-- ---- what the host gave, and what was left then

pub exit_does_step : (r : Stepped) (m : Option ℕ → Move) (s : Store) (t u t' : Thread) (took : Bool) (got put : Option ℕ) (left left' held held' : Option (List ℕ)) → m got ≡ Goes s (exited_thread u) took put None → InputAfter took got left left' → OutAfter put held held' → DoesExit r u t' → DoesStep r m s t s t' left left' held held'
exit_does_step (answers.On event) m s t u t' took got put left left' held held' is input out (same, going, none) =
    (record { got = got; took = took; put = put; is = is ∙ (ap (λ x. Goes s x took put None) (sym same) ∙ ap (Goes s t' took put) (sym none)); input = input; out = out }, going)
exit_does_step (answers.Ended value event) m s t u t' took got put left left' held held' is input out (same, ended, value-is, none) =
    (record { got = got; took = took; put = put; is = is ∙ (ap (λ x. Goes s x took put None) (sym same) ∙ ap (Goes s t' took put) (sym none)); input = input; out = out }, ended, value-is)
exit_does_step (answers.Trap trap) m s t u t' took got put left left' held held' is input out h = absurd h
exit_does_step answers.ReadFault m s t u t' took got put left left' held held' is input out h = absurd h
exit_does_step answers.WriteFault m s t u t' took got put left left' held held' is input out h = absurd h
exit_does_step answers.Memory m s t u t' took got put left left' held held' is input out h = absurd h

puts_one : (s : Store) (t : Thread) (n : ℕ) (vs : List Value) → slice_get vs 0 ≡ Some (values.I32 n) → hosted s t false (host_on hosts.Putchar None vs) ≡ Goes s (exited_thread (thread t.frame (values.I32 (lowest_byte n) ∷ drop 1 vs) t.work)) false (Some (lowest_byte n)) None
puts_one s t n [] e = cc
puts_one s t n (v ∷ vs) e =
    let same : v ≡ values.I32 n = cc in
    subst (λ x. hosted s t false (host_on hosts.Putchar None (x ∷ vs)) ≡ Goes s (exited_thread (thread t.frame (values.I32 (lowest_byte n) ∷ vs) t.work)) false (Some (lowest_byte n)) None) (sym same) refl

pub put_gives : (s : Store) (t : Thread) (n byte : ℕ) (us : List Value) → slice_get t.operands 0 ≡ Some (values.I32 n) → byte ≡ lowest_byte n → us ≡ values.I32 byte ∷ drop 1 t.operands → hosted s t false (host_on hosts.Putchar None t.operands) ≡ Goes s (exited_thread (thread t.frame us t.work)) false (Some (lowest_byte n)) None
put_gives s t n byte us top is on =
    let all : values.I32 (lowest_byte n) ∷ drop 1 t.operands ≡ us = ap (λ b. values.I32 b ∷ drop 1 t.operands) (sym is) ∙ sym on in
    puts_one s t n t.operands top ∙ ap (λ vs. Goes s (exited_thread (thread t.frame vs t.work)) false (Some (lowest_byte n)) None) all

pub taken : (got : Got) (number : ℕ) → Ok number ≡ given_by got → (answer : Option ℕ) × (number ≡ number_of answer) × (got ≡ got_of answer)
taken (gots.Byte b) number is = (Some b, cc, refl)
taken gots.End number is = (None, cc, refl)
taken gots.Failed number is = cc

pub take_gives : (s : Store) (t : Thread) (number : ℕ) (answer : Option ℕ) (room us : List Value) → number ≡ number_of answer → room ≡ values.I32 0 ∷ t.operands → us ≡ values.I32 number ∷ drop 1 room → hosted s t true (host_on hosts.Getchar answer t.operands) ≡ Goes s (exited_thread (thread t.frame us t.work)) true None None
take_gives s t number answer room us is reserved on =
    let same : values.I32 number ∷ drop 1 room ≡ values.I32 number ∷ t.operands = ap (λ (vs : List Value). values.I32 number ∷ drop 1 vs) reserved in
    let all : values.I32 (number_of answer) ∷ t.operands ≡ us = ap (λ b. values.I32 b ∷ t.operands) (sym is) ∙ sym (on ∙ same) in
    ap (λ vs. Goes s (exited_thread (thread t.frame vs t.work)) true None None) all
