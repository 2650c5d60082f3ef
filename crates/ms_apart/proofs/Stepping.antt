-- A step of a thread of one side, whole.
use Rattle.std.proofs.Common.{◌≡◌, ℕ, ◌+◌, ◌≤◌, Bool, true, false, cond, nat_lt, pos, List, [], ◌∷◌, length, Option, Some, None, refl, subst}
use Rattle.ms_event.specs.declared.event.Event.TheVariants as events
use Rattle.ms_event.specs.Monitor.{most_live}
use Rattle.ms_handle.specs.declared.handle.Handle.TheVariants as handles
use Rattle.ms_handle.specs.declared.handle.Kind.{Kind}
use Rattle.ms_linear.specs.declared.value.Value.{Value}
use Rattle.ms_linear.specs.declared.value.Value.TheVariants as values
use Rattle.ms_live.specs.Place.{IsPlace}
use Rattle.ms_module.specs.declared.access.Segment.TheVariants as instrs
use Rattle.ms_module.specs.declared.instr.Instr.{Instr}
use Rattle.ms_module.specs.declared.instr.Instr.TheVariants.{Segment}
use Rattle.ms_segment.specs.Calls.{made_at, place_of}
use Rattle.ms_segment.specs.Memory.{IsSound, Memory}
use Rattle.ms_segment.proofs.Places.{IsPlace-place_of}
use Rattle.ms_task.specs.Control.{exited as exited_thread}
use Rattle.ms_task.specs.Thread.{Activation, Do, Frame, Item, Label, Thread, thread}
use Rattle.ms_machine.specs.refinement.Holding.{Each, EachKept, Fits, ThreadFits}
use Rattle.ms_machine.specs.Segments.{made, segment_on}
use Rattle.ms_machine.specs.Step.{Calls, Next, Outcome, Stuck, Trap, act, begin, exited, first, in_segments, step_of}
use Rattle.ms_machine.specs.Store.{Store, with_segments}
use Rattle.ms_machine.proofs.HeldControl.{exit_holds}
use Rattle.ms_machine.proofs.HeldValues.{holds}
use Rattle.ms_apart.specs.refinement.Apart.{FunctionOn, IsSided, Owned, Separated, Sides, Stepped, ThreadOn, ValueOn, WorkOn, makes, plain, same, segments as in_memory_step}
use Rattle.ms_apart.proofs.Functions.{exit_functions}
use Rattle.ms_apart.proofs.Keeping.{PlainOn, act_on}
use Rattle.ms_apart.proofs.Others.{value_moves}

pub exit_on : (sides : Sides) (own : Owned) (side : Bool) (s : Store) (t : Thread) → ThreadOn sides own side s t → ThreadOn sides own side s (exited_thread t)
exit_on sides own side s t on =
    let f = exit_functions (FunctionOn sides s.funcs side) t.frame t.operands t.work on.function on.callers in
    record { function = f.0; callers = f.1; values = exit_holds (ValueOn own side) t.frame t.operands t.work on.values.operands on.values.locals on.values.kept }

-- ---- a thread stays on its side where an identity is new

module _ (own own1 : Owned) (side : Bool) (m : Memory) (agree : (i : ℕ) → i ≤ m.made → own1 i ≡ own i) where
  pub values_move : (vs : List Value) → Each (Fits m) vs → Each (ValueOn own side) vs → Each (ValueOn own1 side) vs
  values_move [] fit x = tt
  values_move (v ∷ vs) fit x = (value_moves own own1 m agree side v fit.0 x.0, values_move vs fit.1 x.1)

  pub work_moves : (w : List Item) → EachKept (Fits m) w → EachKept (ValueOn own side) w → EachKept (ValueOn own1 side) w
  work_moves [] fit x = tt
  work_moves (Do i ∷ w) fit x = work_moves w fit x
  work_moves (Label k h g ∷ w) fit x = work_moves w fit x
  work_moves (Activation k h caller ∷ w) fit x = (values_move caller.locals fit.0 x.0, work_moves w fit.1 x.1)

pub thread_moves : (sides : Sides) (own own1 : Owned) (side : Bool) (s : Store) (t : Thread) → ((i : ℕ) → i ≤ s.segments.made → own1 i ≡ own i) → ThreadFits s t → ThreadOn sides own side s t → ThreadOn sides own1 side s t
thread_moves sides own own1 side s t agree fit on =
    record {
      function = on.function;
      callers = on.callers;
      values = record {
        operands = values_move own own1 side s.segments agree t.operands fit.operands on.values.operands;
        locals = values_move own own1 side s.segments agree t.frame.locals fit.locals on.values.locals;
        kept = work_moves own own1 side s.segments agree t.work fit.kept on.values.kept;
      };
    }

-- ---- the step

module _ (sides : Sides) (own : Owned) (side : Bool) (s : Store) (sided : IsSided sides s) (separated : Separated sides own s) (sound : IsSound s.segments) where
  abbrev pub OutcomeOn : Outcome → Type 0
  OutcomeOn (Next s1 t event) = Stepped sides own side s s1 t event
  OutcomeOn (Calls h t) = ThreadOn sides own side s t
  OutcomeOn (Trap trap) = Unit {0}
  OutcomeOn Stuck = Unit {0}

  from_plain : (o : Outcome) → PlainOn sides own side s sided separated sound o → OutcomeOn o
  from_plain (Next s1 t event) x = plain s1 t event x.2 x.0 x.1
  from_plain (Calls h t) x = x
  from_plain (Trap trap) x = tt
  from_plain Stuck x = tt

  place_is : (size : ℕ) (b : Bool) (base : ℕ) → cond b (place_of s.segments.live (length s.segments.bytes) size) None ≡ Some base → IsPlace s.segments.live (length s.segments.bytes) size (Some base)
  place_is size true base e = subst (IsPlace s.segments.live (length s.segments.bytes) size) e (IsPlace-place_of s.segments.live (length s.segments.bytes) size)
  place_is size false base e = absurd cc

  placed_on : (fr : Frame) (rest vs : List Value) (w : List Item) (size : ℕ) (kind : Kind) (o : Option ℕ) → cond (nat_lt (length s.segments.live) most_live) (place_of s.segments.live (length s.segments.bytes) size) None ≡ o
      → FunctionOn sides s.funcs side fr.function → WorkOn (FunctionOn sides s.funcs side) w → Each (ValueOn own side) rest → Each (ValueOn own side) fr.locals → EachKept (ValueOn own side) w
      → Each (Fits s.segments) rest → Each (Fits s.segments) fr.locals → EachKept (Fits s.segments) w → OutcomeOn (in_segments s (thread fr vs w) (made rest (made_at s.segments size kind o)))
  placed_on fr rest vs w size kind None e f g a b c a' b' c' =
      plain (with_segments s s.segments) (thread fr (values.Handle handles.Null ∷ rest) w) (Some (events.Refused size)) tt (in_memory_step s.segments same) (record { function = f; callers = g; values = holds (ValueOn own side) fr (values.Handle handles.Null ∷ rest) w (tt, a) b c })
  placed_on fr rest vs w size kind (Some base) e f g a b c a' b' c' =
      makes size base kind (thread fr (values.Handle (handles.Good false (s.segments.made + 1) 0 size (pos 0)) ∷ rest) w) (place_is size (nat_lt (length s.segments.live) most_live) base e)
      (λ own1 agree new. record {
        function = f;
        callers = g;
        values = record {
          operands = (new, values_move own own1 side s.segments agree rest a' a);
          locals = values_move own own1 side s.segments agree fr.locals b' b;
          kept = work_moves own own1 side s.segments agree w c' c;
        };
      })

  new_on : (kind : Kind) (fr : Frame) (vs us : List Value) (w : List Item) → FunctionOn sides s.funcs side fr.function → WorkOn (FunctionOn sides s.funcs side) w → Each (ValueOn own side) us → Each (ValueOn own side) fr.locals → EachKept (ValueOn own side) w
      → Each (Fits s.segments) us → Each (Fits s.segments) fr.locals → EachKept (Fits s.segments) w → OutcomeOn (in_segments s (thread fr vs w) (segment_on (instrs.New kind) s.segments us))
  new_on kind fr vs (values.I32 n ∷ rest) w f g a b c a' b' c' = placed_on fr rest vs w n kind _ refl f g a.1 b c a'.1 b' c'
  new_on kind fr vs us w f g a b c a' b' c' = tt

  instr_on : (i : Instr) (fr : Frame) (vs : List Value) (w : List Item) → FunctionOn sides s.funcs side fr.function → WorkOn (FunctionOn sides s.funcs side) w → Each (ValueOn own side) vs → Each (ValueOn own side) fr.locals → EachKept (ValueOn own side) w
      → Each (Fits s.segments) vs → Each (Fits s.segments) fr.locals → EachKept (Fits s.segments) w → OutcomeOn (act s i (thread fr vs w))
  instr_on (Segment (instrs.New kind)) fr vs w f g a b c a' b' c' = new_on kind fr vs vs w f g a b c a' b' c'
  instr_on i fr vs w f g a b c a' b' c' = from_plain (act s i (thread fr vs w)) (act_on sides own side s sided separated sound fr w f g b c i vs (λ new. new) a a')

  exited_on : (o : Outcome) → OutcomeOn o → OutcomeOn (exited o)
  exited_on (Next s1 t event) (plain _ _ _ old step on) = plain s1 (exited_thread t) event old step (exit_on sides own side s t on)
  exited_on (Next s1 t event) (makes size base kind _ placed on) = makes size base kind (exited_thread t) placed (λ own1 agree new. exit_on sides own1 side s t (on own1 agree new))
  exited_on (Calls h t) x = x
  exited_on (Trap trap) x = tt
  exited_on Stuck x = tt

  first_on : (fr : Frame) (vs : List Value) (w : List Item) → FunctionOn sides s.funcs side fr.function → WorkOn (FunctionOn sides s.funcs side) w → Each (ValueOn own side) vs → Each (ValueOn own side) fr.locals → EachKept (ValueOn own side) w
      → Each (Fits s.segments) vs → Each (Fits s.segments) fr.locals → EachKept (Fits s.segments) w → OutcomeOn (first s fr vs w)
  first_on fr vs [] f g a b c a' b' c' = tt
  first_on fr vs (Do i ∷ w) f g a b c a' b' c' = instr_on i fr vs w f g a b c a' b' c'
  first_on fr vs (Label k h i ∷ w) f g a b c a' b' c' = tt
  first_on fr vs (Activation k h caller ∷ w) f g a b c a' b' c' = tt

  -- a step of a thread of one side
  pub step_on : (t : Thread) → ThreadOn sides own side s t → ThreadFits s t → OutcomeOn (step_of s t)
  step_on t on fit = exited_on (begin s t) (first_on t.frame t.operands t.work on.function on.callers on.values.operands on.values.locals on.values.kept fit.operands fit.locals fit.kept)
