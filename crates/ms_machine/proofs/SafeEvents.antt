-- What a step leaves of the segment memory, with what it tells: instructions but those on segments tell nothing.
use Rattle.std.proofs.Common.{◌≡◌, ℕ, List, [], ◌∷◌, length, nat_lt, slice_get, slice_set, Option, Some, None, Bool, true, false, cond, Result, Ok, Err, subst}
use Rattle.ms_event.specs.declared.event.Event.{Event}
use Rattle.ms_linear.specs.declared.global.GlobalInst.{GlobalInst}
use Rattle.ms_linear.specs.declared.table.CallTrap.{CallTrap}
use Rattle.ms_linear.specs.declared.table.FuncRef.{FuncRef}
use Rattle.ms_linear.specs.Memory.{Memory as LinearMemory}
use Rattle.ms_linear.specs.Table.{Table, target_of}
use Rattle.ms_linear.specs.declared.value.Value.{Value}
use Rattle.ms_linear.specs.declared.value.Value.TheVariants as values
use Rattle.ms_module.specs.declared.access.Linear.{Linear as LinearInstr}
use Rattle.ms_module.specs.declared.access.Segment.{Segment as SegmentInstr}
use Rattle.ms_module.specs.declared.instr.Instr.{Instr}
use Rattle.ms_module.specs.declared.instr.Instr.TheVariants.{Unreachable, Nop, Block, Loop, If, Br, BrIf, BrTable, Return, Call, CallIndirect, Drop, Select, LocalGet, LocalSet, LocalTee, GlobalGet, GlobalSet, I32Const, I64Const, Numeric, Linear, Segment}
use Rattle.ms_operate.specs.Memories.{linear_on}
use Rattle.ms_operate.specs.Numbers.{numeric_on}
use Rattle.ms_operate.specs.Effects as effects
use Rattle.ms_operate.specs.Outcomes as operate
use Rattle.ms_segment.specs.Memory.{Memory}
use Rattle.ms_task.specs.Control as control
use Rattle.ms_task.specs.Control.{Moved, To, TooDeep, br_if_on, br_table_on, branch, call_on, if_on, return_on}
use Rattle.ms_task.specs.Thread.{Activation, Do, Frame, Item, Label, Thread, thread}
use Rattle.ms_types.specs.declared.types.FuncType.{FuncType}
use Rattle.ms_machine.specs.Segments as segments
use Rattle.ms_machine.specs.Segments.{Effect, segment_on}
use Rattle.ms_host.specs.declared.host.Host.{Host}
use Rattle.ms_host.specs.declared.host.Host.TheVariants as hosts
use Rattle.ms_machine.specs.Step.{Calls, Next, Outcome, Stuck, Trap, act, begin, call, call_target, call_through, called, first, host_in, in_memory, in_segments, linear, moved, on_memory, on_top, pushed, select, set_global, set_global_at, set_local, exited, step_of, value_in, worked}
use Rattle.ms_machine.specs.Store.{Store, at, func_address, global_address, instance_of, memory_address, table_address, type_at}

-- a fact about the event and the memory
module _ (R : Option Event → Memory → Type 0) where
  abbrev pub EventBy : Outcome → Type 0
  EventBy (Next s t event) = R event s.segments
  EventBy (Calls h t) = Unit {0}
  EventBy (Trap trap) = Unit {0}
  EventBy Stuck = Unit {0}

  abbrev pub EventIn : Effect → Type 0
  EventIn (segments.Gives vs m event) = R event m
  EventIn (segments.Trap trap) = Unit {0}
  EventIn segments.Stuck = Unit {0}

  -- ---- nothing is told

  module _ (s : Store) (t : Thread) (r : R None s.segments) where
    top_tells : (vs : List Value) (go : Value → List Value → Outcome) → ((v : Value) (rest : List Value) → EventBy (go v rest)) → EventBy (on_top vs go)
    top_tells [] go x = tt
    top_tells (v ∷ vs) go x = x v vs

    pushed_tells : (o : Option Value) → EventBy (pushed s t o)
    pushed_tells None = tt
    pushed_tells (Some v) = r

    select_tells : (vs : List Value) → EventBy (select s t vs)
    select_tells (values.I32 n ∷ b ∷ a ∷ vs) = r
    select_tells _ = tt

    set_local_tells : (x : ℕ) (v : Value) (vs : List Value) → EventBy (set_local s t x v vs)
    set_local_tells x v vs = sets (nat_lt x (length t.frame.locals)) where
      sets : (b : Bool) → EventBy (cond b (Next s (thread (record { function = t.frame.function; locals = slice_set t.frame.locals x v }) vs t.work) None) Stuck)
      sets true = r
      sets false = tt

    set_global_tells : (address : Option ℕ) (v : Value) (vs : List Value) → EventBy (set_global s t address v vs)
    set_global_tells None v vs = tt
    set_global_tells (Some x) v vs = sets (slice_get s.globals x) where
      sets : (o : Option GlobalInst) → EventBy (set_global_at s t x o v vs)
      sets None = tt
      sets (Some g) = r

    worked_tells : (o : operate.Outcome) → EventBy (worked s t o)
    worked_tells (operate.Gives vs) = r
    worked_tells (operate.Trap trap) = tt
    worked_tells operate.Stuck = tt

    linear_tells : (i : LinearInstr) (address : Option ℕ) → EventBy (linear s t i address)
    linear_tells i None = tt
    linear_tells i (Some x) = on (slice_get s.memories x) where
      leaves : (e : effects.Effect) → EventBy (in_memory s t x e)
      leaves (effects.Gives vs m) = r
      leaves (effects.Trap trap) = tt
      leaves effects.Stuck = tt

      on : (o : Option LinearMemory) → EventBy (on_memory s t i x o)
      on None = tt
      on (Some m) = leaves (linear_on i m t.operands)

    moved_tells : (m : Moved) → EventBy (moved s m)
    moved_tells (To u) = r
    moved_tells TooDeep = tt
    moved_tells control.Stuck = tt

    called_tells : (a : ℕ) (u : Thread) (h : Option Host) → EventBy (called s a u h)
    called_tells a u None = moved_tells (call_on s.funcs a u)
    called_tells a u (Some hosts.Abort) = tt
    called_tells a u (Some h) = tt

    call_tells : (address : Option ℕ) → EventBy (call s t address)
    call_tells None = tt
    call_tells (Some x) = called_tells x t (host_in (slice_get s.funcs x))

    target_tells : (vs : List Value) (f : Result FuncRef CallTrap) → EventBy (call_target s (thread t.frame vs t.work) f)
    target_tells vs (Ok f) = called_tells f.address (thread t.frame vs t.work) (host_in (slice_get s.funcs f.address))
    target_tells vs (Err e) = tt

    through_tells : (table : Option Table) (sig : Option FuncType) (vs : List Value) → EventBy (call_through s t table sig vs)
    through_tells (Some table) (Some sig) (values.I32 i ∷ vs) = target_tells vs (target_of table.entries i sig)
    through_tells table sig vs = tt

  -- ---- what instructions tell

  in_segments_tells : (s : Store) (t : Thread) (e : Effect) → EventIn e → EventBy (in_segments s t e)
  in_segments_tells s t (segments.Gives vs m event) x = x
  in_segments_tells s t (segments.Trap trap) x = tt
  in_segments_tells s t segments.Stuck x = tt

  act_tells : (s : Store) (i : Instr) (t : Thread) → R None s.segments → ((j : SegmentInstr) → EventIn (segment_on j s.segments t.operands)) → EventBy (act s i t)
  act_tells s Unreachable t r x = tt
  act_tells s Nop t r x = r
  act_tells s (Block ty body) t r x = r
  act_tells s (Loop ty body) t r x = r
  act_tells s (If ty arm other) t r x = moved_tells s t r (if_on s.funcs arm other ty t)
  act_tells s (Br l) t r x = moved_tells s t r (branch l t.frame t.operands t.work)
  act_tells s (BrIf l) t r x = moved_tells s t r (br_if_on l t)
  act_tells s (BrTable table) t r x = moved_tells s t r (br_table_on table.labels table.default t)
  act_tells s Return t r x = moved_tells s t r (return_on t.operands t.work)
  act_tells s (Call y) t r x = call_tells s t r (func_address (instance_of s t.frame) y)
  act_tells s (CallIndirect y) t r x = through_tells s t r (at s.tables (table_address (instance_of s t.frame))) (type_at (instance_of s t.frame) y) t.operands
  act_tells s Drop t r x = top_tells s t r t.operands _ (λ v rest. r)
  act_tells s Select t r x = select_tells s t r t.operands
  act_tells s (LocalGet l) t r x = pushed_tells s t r (slice_get t.frame.locals l)
  act_tells s (LocalSet l) t r x = top_tells s t r t.operands _ (λ v rest. set_local_tells s t r l v rest)
  act_tells s (LocalTee l) t r x = top_tells s t r t.operands _ (λ v rest. set_local_tells s t r l v (v ∷ rest))
  act_tells s (GlobalGet g) t r x = pushed_tells s t r (value_in (at s.globals (global_address (instance_of s t.frame) g)))
  act_tells s (GlobalSet g) t r x = top_tells s t r t.operands _ (λ v rest. set_global_tells s t r (global_address (instance_of s t.frame) g) v rest)
  act_tells s (I32Const n) t r x = r
  act_tells s (I64Const n) t r x = r
  act_tells s (Numeric i) t r x = worked_tells s t r (numeric_on i t.operands)
  act_tells s (Linear i) t r x = linear_tells s t r i (memory_address (instance_of s t.frame))
  act_tells s (Segment i) t r x = in_segments_tells s t (segment_on i s.segments t.operands) (x i)

  first_tells : (s : Store) (fr : Frame) (vs : List Value) (w : List Item) → R None s.segments → ((j : SegmentInstr) → EventIn (segment_on j s.segments vs)) → EventBy (first s fr vs w)
  first_tells s fr vs [] r x = tt
  first_tells s fr vs (Do i ∷ w) r x = act_tells s i (thread fr vs w) r x
  first_tells s fr vs (Label k h i ∷ w) r x = tt
  first_tells s fr vs (Activation k h caller ∷ w) r x = tt

  exited_tells : (o : Outcome) → EventBy o → EventBy (exited o)
  exited_tells (Next s t event) r = r
  exited_tells (Calls h t) r = tt
  exited_tells (Trap trap) r = tt
  exited_tells Stuck r = tt

  -- what holds of the memory as it is and of no event, and of what instructions on segments leave and tell, holds after a step
  pub step_tells : (s s' : Store) (t t' : Thread) (event : Option Event) → R None s.segments → ((j : SegmentInstr) → EventIn (segment_on j s.segments t.operands)) → step_of s t ≡ Next s' t' event → R event s'.segments
  step_tells s s' t t' event r x is = subst EventBy is (exited_tells (begin s t) (first_tells s t.frame t.operands t.work r x))
