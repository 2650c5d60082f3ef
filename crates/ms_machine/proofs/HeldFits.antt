-- The handles of a store and of threads fit, and go on fitting.
use Rattle.std.proofs.Common.{◌≡◌, ℕ, ◌+◌, ◌≤◌, List, [], ◌∷◌, Option, ap, arith}
use Rattle.ms_event.specs.declared.event.Event.{Event}
use Rattle.ms_handle.specs.declared.handle.Handle.{Handle as H}
use Rattle.ms_linear.specs.declared.value.Value.{Value}
use Rattle.ms_linear.specs.declared.value.Value.TheVariants as values
use Rattle.ms_linear.specs.Values.{default_of}
use Rattle.ms_module.specs.declared.instr.Instr.{Instr}
use Rattle.ms_module.specs.declared.instr.Instr.TheVariants.{Segment}
use Rattle.ms_segment.specs.Memory.{IsFit, IsSound, Memory}
use Rattle.ms_task.specs.Control.{nobody, exited as exited_thread, started}
use Rattle.ms_task.specs.declared.func.FuncInst.{FuncInst}
use Rattle.ms_task.specs.Thread.{Activation, Do, Frame, Item, Label, Thread, result_of, sequence, thread}
use Rattle.ms_types.specs.declared.types.ValType.{ValType}
use Rattle.ms_types.specs.declared.types.ValType.TheVariants as types
use Rattle.ms_machine.specs.refinement.Holding.{Each, Fits, StoreFits, ThreadFits}
use Rattle.ms_machine.specs.Segments as segments
use Rattle.ms_machine.specs.Segments.{Effect, segment_on}
use Rattle.ms_machine.specs.Step.{Next, first, in_segments, exited, step_of}
use Rattle.ms_machine.specs.Store.{Store}
use Rattle.ms_machine.proofs.HeldActs.{step_holds}
use Rattle.ms_machine.proofs.HeldControl.{exit_holds}
use Rattle.ms_machine.proofs.HeldMemory.{Grows, segment_fresh, segment_grows, segment_sound}
use Rattle.ms_machine.proofs.HeldSegments.{Fresh, FreshBy}
use Rattle.ms_machine.proofs.HeldValues.{each_default, kept_dos, thread_grows}
use Rattle.ms_machine.proofs.HeldWork.{step_after}

-- ---- the segment memory after a step

grown : (s s' : Store) (t t' : Thread) (event : Option Event) → step_of s t ≡ Next s' t' event → Grows s.segments s'.segments
grown s s' t t' event is =
    step_after (Grows s.segments) s s' t t' event (record { keeps = λ h fit. fit; least = omega arith; most = omega arith }) (λ i. segment_grows i s.segments t.operands) is

-- what fits goes on fitting
pub step_grows : (s s' : Store) (t t' : Thread) (event : Option Event) → step_of s t ≡ Next s' t' event → (h : H) → IsFit s.segments h → IsFit s'.segments h
step_grows s s' t t' event is = (grown s s' t t' event is).keeps

-- at most one more identity
pub step_makes : (s s' : Store) (t t' : Thread) (event : Option Event) → step_of s t ≡ Next s' t' event → (s.segments.made ≤ s'.segments.made) × (s'.segments.made ≤ s.segments.made + 1)
step_makes s s' t t' event is = let g = grown s s' t t' event is in (g.least, g.most)

pub step_sound : (s s' : Store) (t t' : Thread) (event : Option Event) → IsSound s.segments → ThreadFits s t → step_of s t ≡ Next s' t' event → IsSound s'.segments
step_sound s s' t t' event sound fits is =
    step_after IsSound s s' t t' event sound (λ i. segment_sound i s.segments t.operands sound fits.operands) is

-- ---- values

fits_grows : (m m' : Memory) → ((h : H) → IsFit m h → IsFit m' h) → (v : Value) → Fits m v → Fits m' v
fits_grows m m' keeps (values.I32 n) fit = tt
fits_grows m m' keeps (values.I64 n) fit = tt
fits_grows m m' keeps (values.Handle h) fit = keeps h fit

pub thread_fits_grows : (s s' : Store) (u : Thread) → ((h : H) → IsFit s.segments h → IsFit s'.segments h) → ThreadFits s u → ThreadFits s' u
thread_fits_grows s s' u keeps fits = thread_grows (Fits s.segments) (Fits s'.segments) (fits_grows s.segments s'.segments keeps) u fits

-- ---- the handles that a step makes

-- what an instruction on segments leaves
effect_left : (s s' : Store) (t t' : Thread) (event : Option Event) (e : Effect) → exited (in_segments s t e) ≡ Next s' t' event → (us : List Value) × (happened : Option Event) × (e ≡ segments.Gives us s'.segments happened)
effect_left s s' t t' event (segments.Gives us m happened) is =
    let after : record { funcs = s.funcs; instances = s.instances; tables = s.tables; memories = s.memories; globals = s.globals; segments = m } ≡ s' = cc in
    (us, happened, ap (λ (x : Store). segments.Gives us x.segments happened) after)
effect_left s s' t t' event (segments.Trap trap) is = cc
effect_left s s' t t' event segments.Stuck is = cc

fresh_by : (s s' : Store) (i : Instr) (fr : Frame) (vs : List Value) (w : List Item) (t' : Thread) (event : Option Event) → IsSound s.segments → Each (Fits s.segments) vs → ((h : H) → IsFit s.segments h → IsFit s'.segments h) → exited (first s fr vs (Do i ∷ w)) ≡ Next s' t' event → FreshBy (Fits s'.segments) i s.segments vs
fresh_by s s' (Segment i) fr vs w t' event sound fits keeps is =
    let left = effect_left s s' (thread fr vs w) t' event (segment_on i s.segments vs) is in
    segment_fresh i s.segments s'.segments vs left.0 left.1 sound fits keeps left.2
fresh_by s s' i fr vs w t' event sound fits keeps is = tt

fresh : (s s' : Store) (fr : Frame) (vs : List Value) (w : List Item) (t' : Thread) (event : Option Event) → IsSound s.segments → Each (Fits s.segments) vs → ((h : H) → IsFit s.segments h → IsFit s'.segments h) → exited (first s fr vs w) ≡ Next s' t' event → Fresh (Fits s'.segments) s.segments vs w
fresh s s' fr vs [] t' event sound fits keeps is = tt
fresh s s' fr vs (Do i ∷ w) t' event sound fits keeps is = fresh_by s s' i fr vs w t' event sound fits keeps is
fresh s s' fr vs (Label k h i ∷ w) t' event sound fits keeps is = tt
fresh s s' fr vs (Activation k h caller ∷ w) t' event sound fits keeps is = tt

-- ---- a step

pub step_keeps : (s s' : Store) (t t' : Thread) (event : Option Event) → StoreFits s → ThreadFits s t → step_of s t ≡ Next s' t' event → StoreFits s' × ThreadFits s' t'
step_keeps s s' t t' event store fits is =
    let keeps = step_grows s s' t t' event is in
    let made = fresh s s' t.frame t.operands t.work t' event store.segments fits.operands keeps is in
    let all = step_holds Fits (λ m n. tt) (λ m n. tt) (λ m. tt) s s' t t' event (fits_grows s.segments s'.segments keeps) made fits store.globals is in
    (record { globals = all.1; segments = step_sound s s' t t' event store.segments fits is }, all.0)

-- ---- the start of a task

default_fits : (m : Memory) (ty : ValType) → Fits m (default_of ty)
default_fits m types.I32 = tt
default_fits m types.I64 = tt
default_fits m types.Handle = tt

pub starts_fit : (s : Store) (address : ℕ) (g : FuncInst) → ThreadFits s (exited_thread (started s.funcs address g))
starts_fit s address g =
    let P = Fits s.segments in
    let t = started s.funcs address g in
    exit_holds P t.frame t.operands t.work tt (each_default P (default_fits s.segments) g.locals)
    (kept_dos P (sequence s.funcs address 0) (Activation (result_of g) 0 (nobody s.funcs) ∷ []) (tt, tt))
