-- Memory safety through a step.
use Rattle.std.proofs.Common.{◌≡◌, ℕ, List, [], ◌∷◌, ◌++◌, length, Option, refl, sym, ap, subst}
use Rattle.std.specs.List.{All}
use Rattle.std.proofs.lemmas.List.Elements.{All-cons, All-head, All-tail, All-weaker}
use Rattle.ms_event.specs.declared.event.Event.{Event}
use Rattle.ms_event.specs.Monitor.{AcceptsFrom, State, after, after_all, nothing_yet}
use Rattle.ms_linear.specs.declared.value.Value.{Value}
use Rattle.ms_module.specs.declared.instr.Instr.{Instr}
use Rattle.ms_module.specs.declared.instr.Instr.TheVariants.{Segment}
use Rattle.ms_task.specs.Thread.{Activation, Do, Frame, Item, Label, Thread, thread}
use Rattle.ms_segment.specs.Memory.{IsSound, Memory}
use Rattle.ms_machine.specs.refinement.Holding.{Each, EachGlobal, Fits, StoreFits, ThreadFits, ThreadHolds}
use Rattle.ms_machine.specs.Running.{with_event}
use Rattle.ms_machine.specs.refinement.Safety.{IsMonitored, Knows, Sound}
use Rattle.ms_machine.specs.Segments as segments
use Rattle.ms_machine.specs.Segments.{Effect, segment_on}
use Rattle.ms_machine.specs.Step.{Next, first, in_segments, exited, step_of}
use Rattle.ms_machine.specs.Store.{Store}
use Rattle.ms_machine.proofs.HeldActs.{step_holds_after}
use Rattle.ms_machine.proofs.HeldSegments.{Fresh, FreshBy}
use Rattle.ms_machine.proofs.HeldValues.{thread_grows}
use Rattle.ms_machine.proofs.SafeSegments.{segment_follows, segment_known}
use Rattle.ms_machine.proofs.SafeSizes.{sizes_of}
use Rattle.ms_machine.proofs.SafeStates.{Follows, follows-none, value_grows}
use Rattle.ms_machine.proofs.SafeEvents.{step_tells}

-- ---- traces, one after the other

pub after_both : (state : State) (es fs : List Event) → after_all state (es ++ fs) ≡ after_all (after_all state es) fs
after_both state [] fs = refl
after_both state (e ∷ es) fs = after_both (after state e) es fs

pub accepts_both : (capacity : ℕ) (state : State) (es fs : List Event) → AcceptsFrom capacity state es → AcceptsFrom capacity (after_all state es) fs → AcceptsFrom capacity state (es ++ fs)
accepts_both capacity state [] fs front back = back
accepts_both capacity state (e ∷ es) fs front back = (front.0, accepts_both capacity (after state e) es fs front.1 back)

-- ---- the handles that a step makes

-- what an instruction on segments leaves and tells
effect_left : (s s' : Store) (t t' : Thread) (event : Option Event) (e : Effect) → exited (in_segments s t e) ≡ Next s' t' event → (us : List Value) × (m' : Memory) × (e ≡ segments.Gives us m' event)
effect_left s s' t t' event (segments.Gives us m' happened) is = let same : happened ≡ event = cc in (us, m', ap (segments.Gives us m') same)
effect_left s s' t t' event (segments.Trap trap) is = cc
effect_left s s' t t' event segments.Stuck is = cc

module _ (state : State) (s : Store) (sound : IsSound s.segments) (monitored : IsMonitored state s.segments) where
  known_by : (s' : Store) (i : Instr) (fr : Frame) (vs : List Value) (w : List Item) (t' : Thread) (event : Option Event) → Each (Fits s.segments) vs → Each (Knows state) vs → exited (first s fr vs (Do i ∷ w)) ≡ Next s' t' event → FreshBy (Knows (after_all state (with_event event []))) i s.segments vs
  known_by s' (Segment i) fr vs w t' event fits known is =
      let left = effect_left s s' (thread fr vs w) t' event (segment_on i s.segments vs) is in
      segment_known state s.segments sound monitored i vs left.0 left.1 event fits known left.2
  known_by s' i fr vs w t' event fits known is = tt

  known_first : (s' : Store) (fr : Frame) (vs : List Value) (w : List Item) (t' : Thread) (event : Option Event) → Each (Fits s.segments) vs → Each (Knows state) vs → exited (first s fr vs w) ≡ Next s' t' event → Fresh (Knows (after_all state (with_event event []))) s.segments vs w
  known_first s' fr vs [] t' event fits known is = tt
  known_first s' fr vs (Do i ∷ w) t' event fits known is = known_by s' i fr vs w t' event fits known is
  known_first s' fr vs (Label k h i ∷ w) t' event fits known is = tt
  known_first s' fr vs (Activation k h caller ∷ w) t' event fits known is = tt

  -- ---- a step in a state of the monitor

  -- what it tells may come next, and the memory that it leaves is that of the state afterwards
  pub step_follows : (s' : Store) (t t' : Thread) (event : Option Event) → ThreadFits s t → ThreadHolds (Knows state) t → step_of s t ≡ Next s' t' event → Follows state s.segments event s'.segments
  step_follows s' t t' event fits known is =
      step_tells (Follows state s.segments) s s' t t' event (follows-none state s.segments monitored) (λ i. segment_follows state s.segments sound monitored i t.operands fits.operands known.operands) is

  -- and its handles are known afterwards
  pub step_known : (s' : Store) (t t' : Thread) (event : Option Event) → ThreadFits s t → EachGlobal (Knows state) s.globals → ThreadHolds (Knows state) t → step_of s t ≡ Next s' t' event → ThreadHolds (Knows (after_all state (with_event event []))) t' × EachGlobal (Knows (after_all state (with_event event []))) s'.globals
  step_known s' t t' event fits globals known is =
      let state' : State = after_all state (with_event event []) in
      let follows = step_follows s' t t' event fits known is in
      let fresh = known_first s' t.frame t.operands t.work t' event fits.operands known.operands is in
      step_holds_after (Knows state) (Knows state') (λ n. tt) (λ n. tt) tt (value_grows state state' follows.grows) s s' t t' event fresh globals known is

-- ---- the step of one thread among others

-- What is sound stays so: the event, if there is one, is accepted behind those before.
pub sound_step : (s s' : Store) (t t' : Thread) (others : List Thread) (events : List Event) (event : Option Event) → StoreFits s → ThreadFits s t → Sound events s (t ∷ others) → step_of s t ≡ Next s' t' event → Sound (events ++ with_event event []) s' (t' ∷ others)
sound_step s s' t t' others events event store fits sound is =
    let state : State = after_all nothing_yet events in
    let state' : State = after_all state (with_event event []) in
    let same : state' ≡ after_all nothing_yet (events ++ with_event event []) = sym (after_both nothing_yet events (with_event event [])) in
    let mine = All-head (ThreadHolds (Knows state)) t others sound.threads in
    let theirs = All-tail (ThreadHolds (Knows state)) t others sound.threads in
    let follows = step_follows state s store.segments sound.monitored s' t t' event fits mine is in
    let known = step_known state s store.segments sound.monitored s' t t' event fits sound.globals mine is in
    let accepted = accepts_both (length s.segments.bytes) nothing_yet events (with_event event []) sound.accepted follows.may in
    record {
      accepted = subst (λ n. AcceptsFrom n nothing_yet (events ++ with_event event [])) (sym follows.capacity) accepted;
      sizes = sizes_of (length s.segments.bytes) (events ++ with_event event []) accepted;
      monitored = subst (λ x. IsMonitored x s'.segments) same follows.monitored;
      globals = subst (λ x. EachGlobal (Knows x) s'.globals) same known.1;
      threads = subst (λ x. All (ThreadHolds (Knows x)) (t' ∷ others)) same (All-cons (ThreadHolds (Knows state')) t' others known.0 (All-weaker (ThreadHolds (Knows state)) (ThreadHolds (Knows state')) (λ u. thread_grows (Knows state) (Knows state') (value_grows state state' follows.grows) u) others theirs));
    }
