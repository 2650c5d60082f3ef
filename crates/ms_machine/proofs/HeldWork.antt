-- What an instruction leaves of the segment memory and of the work.
use Rattle.std.proofs.Common.{◌≡◌, ℕ, List, [], ◌∷◌, length, nat_lt, slice_get, slice_set, Option, Some, None, Bool, true, false, cond, Result, Ok, Err, subst}
use Rattle.ms_event.specs.declared.event.Event.{Event}
use Rattle.ms_linear.specs.declared.global.GlobalInst.{GlobalInst}
use Rattle.ms_linear.specs.declared.table.CallTrap.{CallTrap}
use Rattle.ms_linear.specs.declared.table.FuncRef.{FuncRef}
use Rattle.ms_linear.specs.Memory.{Memory as LinearMemory}
use Rattle.ms_linear.specs.Table.{Table, target_of}
use Rattle.ms_linear.specs.declared.value.Value.{Value}
use Rattle.ms_linear.specs.declared.value.Value.TheVariants as values
use Rattle.ms_module.specs.declared.access.Linear.{Linear as LinearInstr}
use Rattle.ms_module.specs.declared.access.Segment.{Segment as SegmentInstr}
use Rattle.ms_module.specs.declared.instr.Instr.{Instr}
use Rattle.ms_module.specs.declared.instr.Instr.TheVariants.{Unreachable, Nop, Block, Loop, If, Br, BrIf, BrTable, Return, Call, CallIndirect, Drop, Select, LocalGet, LocalSet, LocalTee, GlobalGet, GlobalSet, I32Const, I64Const, Numeric, Linear, Segment}
use Rattle.ms_operate.specs.Memories.{linear_on}
use Rattle.ms_operate.specs.Numbers.{numeric_on}
use Rattle.ms_operate.specs.Effects as effects
use Rattle.ms_operate.specs.Outcomes as operate
use Rattle.ms_segment.specs.Memory.{Memory}
use Rattle.ms_task.specs.Control as control
use Rattle.ms_task.specs.Control.{Moved, To, TooDeep, br_if_on, br_table_on, branch, call_on, if_on, return_on}
use Rattle.ms_task.specs.Thread.{Activation, Do, Frame, Item, Label, Thread, thread}
use Rattle.ms_types.specs.declared.types.FuncType.{FuncType}
use Rattle.ms_machine.specs.Segments as segments
use Rattle.ms_machine.specs.Segments.{Effect, segment_on}
use Rattle.ms_host.specs.declared.host.Host.{Host}
use Rattle.ms_host.specs.declared.host.Host.TheVariants as hosts
use Rattle.ms_machine.specs.Step.{Calls, Next, Outcome, Stuck, Trap, act, begin, call, call_target, call_through, called, first, host_in, in_memory, in_segments, linear, moved, on_memory, on_top, pushed, select, set_global, set_global_at, set_local, exited, step_of, value_in, worked}
use Rattle.ms_machine.specs.Store.{Store, at, func_address, global_address, instance_of, memory_address, table_address, type_at}

-- it goes on behind itself
abbrev pub IsPlainInstr : Instr → Type 0
IsPlainInstr Unreachable = ⊥
IsPlainInstr (Block ty body) = ⊥
IsPlainInstr (Loop ty body) = ⊥
IsPlainInstr (If ty arm other) = ⊥
IsPlainInstr (Br l) = ⊥
IsPlainInstr (BrIf l) = ⊥
IsPlainInstr (BrTable table) = ⊥
IsPlainInstr Return = ⊥
IsPlainInstr (Call x) = ⊥
IsPlainInstr (CallIndirect x) = ⊥
IsPlainInstr _ = Unit {0}

-- ---- a fact about the segment memory and the work

module _ (R : Memory → List Item → Type 0) where
  abbrev OutcomeOver : Outcome → Type 0
  OutcomeOver (Next s t event) = R s.segments t.work
  OutcomeOver (Calls h t) = Unit {0}
  OutcomeOver (Trap trap) = Unit {0}
  OutcomeOver Stuck = Unit {0}

  abbrev EffectOver : List Item → Effect → Type 0
  EffectOver w (segments.Gives vs m event) = R m w
  EffectOver w (segments.Trap trap) = Unit {0}
  EffectOver w segments.Stuck = Unit {0}

  top_over : (vs : List Value) (go : Value → List Value → Outcome) → ((v : Value) (rest : List Value) → OutcomeOver (go v rest)) → OutcomeOver (on_top vs go)
  top_over [] go x = tt
  top_over (v ∷ vs) go x = x v vs

  pushed_over : (s : Store) (t : Thread) (o : Option Value) → R s.segments t.work → OutcomeOver (pushed s t o)
  pushed_over s t None r = tt
  pushed_over s t (Some v) r = r

  select_over : (s : Store) (t : Thread) (vs : List Value) → R s.segments t.work → OutcomeOver (select s t vs)
  select_over s t (values.I32 n ∷ b ∷ a ∷ vs) r = r
  select_over s t _ r = tt

  set_local_over : (s : Store) (t : Thread) (x : ℕ) (v : Value) (vs : List Value) → R s.segments t.work → OutcomeOver (set_local s t x v vs)
  set_local_over s t x v vs r = sets (nat_lt x (length t.frame.locals)) where
    sets : (b : Bool) → OutcomeOver (cond b (Next s (thread (record { function = t.frame.function; locals = slice_set t.frame.locals x v }) vs t.work) None) Stuck)
    sets true = r
    sets false = tt

  set_global_over : (s : Store) (t : Thread) (address : Option ℕ) (v : Value) (vs : List Value) → R s.segments t.work → OutcomeOver (set_global s t address v vs)
  set_global_over s t None v vs r = tt
  set_global_over s t (Some x) v vs r = sets (slice_get s.globals x) where
    sets : (o : Option GlobalInst) → OutcomeOver (set_global_at s t x o v vs)
    sets None = tt
    sets (Some g) = r

  worked_over : (s : Store) (t : Thread) (r : operate.Outcome) → R s.segments t.work → OutcomeOver (worked s t r)
  worked_over s t (operate.Gives vs) r = r
  worked_over s t (operate.Trap trap) r = tt
  worked_over s t operate.Stuck r = tt

  linear_over : (s : Store) (t : Thread) (i : LinearInstr) (address : Option ℕ) → R s.segments t.work → OutcomeOver (linear s t i address)
  linear_over s t i None r = tt
  linear_over s t i (Some x) r = on (slice_get s.memories x) where
    leaves : (e : effects.Effect) → OutcomeOver (in_memory s t x e)
    leaves (effects.Gives vs m) = r
    leaves (effects.Trap trap) = tt
    leaves effects.Stuck = tt

    on : (o : Option LinearMemory) → OutcomeOver (on_memory s t i x o)
    on None = tt
    on (Some m) = leaves (linear_on i m t.operands)

  in_segments_over : (s : Store) (t : Thread) (e : Effect) → EffectOver t.work e → OutcomeOver (in_segments s t e)
  in_segments_over s t (segments.Gives vs m event) x = x
  in_segments_over s t (segments.Trap trap) x = tt
  in_segments_over s t segments.Stuck x = tt

  plain_over : (s : Store) (i : Instr) (t : Thread) → IsPlainInstr i → R s.segments t.work → ((j : SegmentInstr) → EffectOver t.work (segment_on j s.segments t.operands)) → OutcomeOver (act s i t)
  plain_over s Nop t plain r x = r
  plain_over s Drop t plain r x = top_over t.operands _ (λ v rest. r)
  plain_over s Select t plain r x = select_over s t t.operands r
  plain_over s (LocalGet l) t plain r x = pushed_over s t (slice_get t.frame.locals l) r
  plain_over s (LocalSet l) t plain r x = top_over t.operands _ (λ v rest. set_local_over s t l v rest r)
  plain_over s (LocalTee l) t plain r x = top_over t.operands _ (λ v rest. set_local_over s t l v (v ∷ rest) r)
  plain_over s (GlobalGet g) t plain r x = pushed_over s t (value_in (at s.globals (global_address (instance_of s t.frame) g))) r
  plain_over s (GlobalSet g) t plain r x = top_over t.operands _ (λ v rest. set_global_over s t (global_address (instance_of s t.frame) g) v rest r)
  plain_over s (I32Const n) t plain r x = r
  plain_over s (I64Const n) t plain r x = r
  plain_over s (Numeric i) t plain r x = worked_over s t (numeric_on i t.operands) r
  plain_over s (Linear i) t plain r x = linear_over s t i (memory_address (instance_of s t.frame)) r
  plain_over s (Segment i) t plain r x = in_segments_over s t (segment_on i s.segments t.operands) (x i)
  plain_over s _ t plain r x = absurd plain

-- ---- a fact about the segment memory

module _ (R : Memory → Type 0) where
  abbrev pub MemoryAfter : Outcome → Type 0
  MemoryAfter (Next s t event) = R s.segments
  MemoryAfter (Calls h t) = Unit {0}
  MemoryAfter (Trap trap) = Unit {0}
  MemoryAfter Stuck = Unit {0}

  abbrev pub MemoryLeft : Effect → Type 0
  MemoryLeft (segments.Gives vs m event) = R m
  MemoryLeft (segments.Trap trap) = Unit {0}
  MemoryLeft segments.Stuck = Unit {0}

  moved_after : (s : Store) (m : Moved) → R s.segments → MemoryAfter (moved s m)
  moved_after s (To t) r = r
  moved_after s TooDeep r = tt
  moved_after s control.Stuck r = tt

  called_after : (s : Store) (a : ℕ) (t : Thread) (h : Option Host) → R s.segments → MemoryAfter (called s a t h)
  called_after s a t None r = moved_after s (call_on s.funcs a t) r
  called_after s a t (Some hosts.Abort) r = tt
  called_after s a t (Some h) r = tt

  call_after : (s : Store) (t : Thread) (address : Option ℕ) → R s.segments → MemoryAfter (call s t address)
  call_after s t None r = tt
  call_after s t (Some x) r = called_after s x t (host_in (slice_get s.funcs x)) r

  target_after : (s : Store) (t : Thread) (f : Result FuncRef CallTrap) → R s.segments → MemoryAfter (call_target s t f)
  target_after s t (Ok f) r = called_after s f.address t (host_in (slice_get s.funcs f.address)) r
  target_after s t (Err e) r = tt

  through_after : (s : Store) (t : Thread) (table : Option Table) (sig : Option FuncType) (vs : List Value) → R s.segments → MemoryAfter (call_through s t table sig vs)
  through_after s t (Some table) (Some sig) (values.I32 i ∷ vs) r = target_after s (thread t.frame vs t.work) (target_of table.entries i sig) r
  through_after s t table sig vs r = tt

  plain_after : (s : Store) (i : Instr) (t : Thread) → IsPlainInstr i → R s.segments → ((j : SegmentInstr) → MemoryLeft (segment_on j s.segments t.operands)) → MemoryAfter (act s i t)
  plain_after s i t plain r x = after (act s i t) (plain_over (λ m w. R m) s i t plain r (λ j. left (segment_on j s.segments t.operands) (x j))) where
    left : (e : Effect) → MemoryLeft e → EffectOver (λ m w. R m) t.work e
    left (segments.Gives vs m event) y = y
    left (segments.Trap trap) y = tt
    left segments.Stuck y = tt

    after : (o : Outcome) → OutcomeOver (λ m w. R m) o → MemoryAfter o
    after (Next s t event) y = y
    after (Calls h t) y = tt
    after (Trap trap) y = tt
    after Stuck y = tt

  pub act_after : (s : Store) (i : Instr) (t : Thread) → R s.segments → ((j : SegmentInstr) → MemoryLeft (segment_on j s.segments t.operands)) → MemoryAfter (act s i t)
  act_after s Unreachable t r x = tt
  act_after s (Block ty body) t r x = r
  act_after s (Loop ty body) t r x = r
  act_after s (If ty arm other) t r x = moved_after s (if_on s.funcs arm other ty t) r
  act_after s (Br l) t r x = moved_after s (branch l t.frame t.operands t.work) r
  act_after s (BrIf l) t r x = moved_after s (br_if_on l t) r
  act_after s (BrTable table) t r x = moved_after s (br_table_on table.labels table.default t) r
  act_after s Return t r x = moved_after s (return_on t.operands t.work) r
  act_after s (Call y) t r x = call_after s t (func_address (instance_of s t.frame) y) r
  act_after s (CallIndirect y) t r x = through_after s t (at s.tables (table_address (instance_of s t.frame))) (type_at (instance_of s t.frame) y) t.operands r
  act_after s i t r x = plain_after s i t tt r x

  first_after : (s : Store) (fr : Frame) (vs : List Value) (w : List Item) → R s.segments → ((j : SegmentInstr) → MemoryLeft (segment_on j s.segments vs)) → MemoryAfter (first s fr vs w)
  first_after s fr vs [] r x = tt
  first_after s fr vs (Do i ∷ w) r x = act_after s i (thread fr vs w) r x
  first_after s fr vs (Label k h i ∷ w) r x = tt
  first_after s fr vs (Activation k h caller ∷ w) r x = tt

  exited_after : (o : Outcome) → MemoryAfter o → MemoryAfter (exited o)
  exited_after (Next s t event) r = r
  exited_after (Calls h t) r = tt
  exited_after (Trap trap) r = tt
  exited_after Stuck r = tt

  -- what holds of the memory, and of what instructions leave of it, holds after a step
  pub step_after : (s s' : Store) (t t' : Thread) (event : Option Event) → R s.segments → ((j : SegmentInstr) → MemoryLeft (segment_on j s.segments t.operands)) → step_of s t ≡ Next s' t' event → R s'.segments
  step_after s s' t t' event r x is = subst MemoryAfter is (exited_after (begin s t) (first_after s t.frame t.operands t.work r x))
