-- One step of a thread on the store (WebAssembly 1.0, 4.4).
use Rattle.std.specs.Prelude.{ℕ, zero, suc, List, [], ◌∷◌, drop, length, nat_lt, if◌then◌else◌, slice_get, slice_set, Option, Some, None, Result, Ok, Err}
use Rattle.ms_num.specs.Integers.{wrapped}
use Rattle.ms_event.specs.declared.event.Event.{Event}
use Rattle.ms_host.specs.declared.host.Host.{Host}
use Rattle.ms_host.specs.declared.host.Host.TheVariants as hosts
use Rattle.ms_linear.specs.declared.global.GlobalInst.{GlobalInst}
use Rattle.ms_linear.specs.declared.table.CallTrap.{CallTrap}
use Rattle.ms_linear.specs.declared.table.CallTrap.TheVariants as targets
use Rattle.ms_linear.specs.declared.table.FuncRef.{FuncRef}
use Rattle.ms_linear.specs.declared.value.Value.{Value}
use Rattle.ms_linear.specs.declared.value.Value.TheVariants.{I32, I64}
use Rattle.ms_linear.specs.Memory.{Memory as LinearMemory}
use Rattle.ms_linear.specs.Table.{Table, target_of}
use Rattle.ms_module.specs.declared.access.Linear.{Linear as LinearInstr}
use Rattle.ms_module.specs.declared.instr.Instr.{Instr}
use Rattle.ms_module.specs.declared.instr.Instr.TheVariants.{Unreachable, Nop, Block, Loop, If, Br, BrIf, BrTable, Return, Call, CallIndirect, Drop, Select, LocalGet, LocalSet, LocalTee, GlobalGet, GlobalSet, I32Const, I64Const, Numeric, Linear, Segment}
use Rattle.ms_operate.specs.Memories.{linear_on}
use Rattle.ms_operate.specs.Numbers.{numeric_on}
use Rattle.ms_operate.specs.Effects as effects
use Rattle.ms_operate.specs.Outcomes as operate
use Rattle.ms_operate.specs.declared.trap.Trap.{Trap as OperateTrap}
use Rattle.ms_operate.specs.declared.trap.Trap.TheVariants as operate-traps
use Rattle.ms_task.specs.Control as control
use Rattle.ms_task.specs.Control.{Moved, To, TooDeep, block_on, br_if_on, br_table_on, branch, call_on, if_on, loop_on, return_on, exited as exited_thread}
use Rattle.ms_task.specs.declared.func.FuncInst.{FuncInst}
use Rattle.ms_task.specs.Thread.{Frame, Item, Do, Thread, thread}
use Rattle.ms_types.specs.declared.types.FuncType.{FuncType}
use Rattle.ms_machine.specs.Segments as segments
use Rattle.ms_machine.specs.Segments.{segment_on}
use Rattle.ms_machine.specs.Store.{Store, at, func_address, global_address, instance_of, memory_address, table_address, type_at, with_globals, with_memories, with_segments}
use Rattle.ms_host.specs.declared.trap.TrapKind.{TrapKind}
use Rattle.ms_host.specs.declared.trap.TrapKind.TheVariants as traps

pub data Outcome : Type 0 where
  -- this store and this thread are there afterwards, and this has happened
  Next : Store → Thread → Option Event → Outcome
  -- the host is called; the thread goes on behind the call, with its arguments still on the operands
  Calls : Host → Thread → Outcome
  -- the program is stopped, and nothing has changed
  Trap : TrapKind → Outcome
  -- what the instruction takes isn't there
  Stuck : Outcome

-- ---- parts

-- the same with these operands
abbrev pub goes : Store → Thread → List Value → Outcome
goes s t vs = Next s (thread t.frame vs t.work) None

abbrev pub pushed : Store → Thread → Option Value → Outcome
pushed s t (Some v) = goes s t (v ∷ t.operands)
pushed s t None = Stuck

abbrev pub on_top : List Value → (Value → List Value → Outcome) → Outcome
on_top [] go = Stuck
on_top (v ∷ vs) go = go v vs

abbrev pub moved : Store → Moved → Outcome
moved s (To t) = Next s t None
moved s TooDeep = Trap traps.Depth
moved s control.Stuck = Stuck

-- ---- parametric instructions (4.4.2)

abbrev pub choose : ℕ → Value → Value → Value
choose zero a b = b
choose (suc n) a b = a

abbrev pub select : Store → Thread → List Value → Outcome
select s t (I32 n ∷ b ∷ a ∷ vs) = goes s t (choose n a b ∷ vs)
select s t _ = Stuck

-- ---- variable instructions (4.4.3)

abbrev pub set_local : Store → Thread → ℕ → Value → List Value → Outcome
set_local s t x v vs =
    if nat_lt x (length t.frame.locals) then Next s (thread (record { function = t.frame.function; locals = slice_set t.frame.locals x v }) vs t.work) None else Stuck

abbrev pub value_in : Option GlobalInst → Option Value
value_in None = None
value_in (Some g) = Some g.value

abbrev pub set_global_at : Store → Thread → ℕ → Option GlobalInst → Value → List Value → Outcome
set_global_at s t a None v vs = Stuck
set_global_at s t a (Some g) v vs = Next (with_globals s (slice_set s.globals a (record { value = v; mutable = g.mutable }))) (thread t.frame vs t.work) None

abbrev pub set_global : Store → Thread → Option ℕ → Value → List Value → Outcome
set_global s t None v vs = Stuck
set_global s t (Some a) v vs = set_global_at s t a (slice_get s.globals a) v vs

-- ---- numeric instructions, and the linear memory (4.4.1 and 4.4.4)

abbrev pub trap_of : OperateTrap → TrapKind
trap_of operate-traps.Zero = traps.Zero
trap_of operate-traps.Overflow = traps.Overflow
trap_of operate-traps.Linear = traps.Linear

abbrev pub worked : Store → Thread → operate.Outcome → Outcome
worked s t (operate.Gives vs) = goes s t vs
worked s t (operate.Trap trap) = Trap (trap_of trap)
worked s t operate.Stuck = Stuck

abbrev pub in_memory : Store → Thread → ℕ → effects.Effect → Outcome
in_memory s t a (effects.Gives vs m) = Next (with_memories s (slice_set s.memories a m)) (thread t.frame vs t.work) None
in_memory s t a (effects.Trap trap) = Trap (trap_of trap)
in_memory s t a effects.Stuck = Stuck

abbrev pub on_memory : Store → Thread → LinearInstr → ℕ → Option LinearMemory → Outcome
on_memory s t i a None = Stuck
on_memory s t i a (Some m) = in_memory s t a (linear_on i m t.operands)

abbrev pub linear : Store → Thread → LinearInstr → Option ℕ → Outcome
linear s t i None = Stuck
linear s t i (Some a) = on_memory s t i a (slice_get s.memories a)

-- ---- handles and segments

abbrev pub in_segments : Store → Thread → segments.Effect → Outcome
in_segments s t (segments.Gives vs m event) = Next (with_segments s m) (thread t.frame vs t.work) event
in_segments s t (segments.Trap kind) = Trap kind
in_segments s t segments.Stuck = Stuck

-- ---- calls (4.4.5 and 4.4.7)

abbrev pub host_in : Option FuncInst → Option Host
host_in None = None
host_in (Some f) = f.host

-- what puts or takes is the host's
abbrev pub asks : Host → Thread → Outcome
asks hosts.Abort t = Trap traps.Abort
asks h t = Calls h t

-- the same behind an index that was topmost
abbrev pub popped : Thread → Thread
popped t = thread t.frame (drop 1 t.operands) t.work

-- a call of the host's function is the host's, at any depth
abbrev pub called : Store → ℕ → Thread → Option Host → Outcome
called s a t None = moved s (call_on s.funcs a t)
called s a t (Some h) = asks h t

abbrev pub call : Store → Thread → Option ℕ → Outcome
call s t None = Stuck
call s t (Some a) = called s a t (host_in (slice_get s.funcs a))

abbrev pub table_trap : CallTrap → TrapKind
table_trap targets.Outside = traps.Table
table_trap targets.Empty = traps.Element
table_trap targets.Signature = traps.Signature

-- the target is looked at before the depth
abbrev pub call_target : Store → Thread → Result FuncRef CallTrap → Outcome
call_target s t (Ok f) = called s f.address t (host_in (slice_get s.funcs f.address))
call_target s t (Err e) = Trap (table_trap e)

abbrev pub call_through : Store → Thread → Option Table → Option FuncType → List Value → Outcome
call_through s t (Some table) (Some sig) (I32 i ∷ vs) = call_target s (thread t.frame vs t.work) (target_of table.entries i sig)
call_through s t _ _ _ = Stuck

-- ---- instructions: the thread's work is what follows the instruction

abbrev pub act : Store → Instr → Thread → Outcome
act s Unreachable t = Trap traps.Unreachable
act s Nop t = goes s t t.operands
act s (Block ty body) t = moved s (block_on s.funcs body ty None t)
act s (Loop ty body) t = moved s (loop_on s.funcs ty body t)
act s (If ty arm other) t = moved s (if_on s.funcs arm other ty t)
act s (Br l) t = moved s (branch l t.frame t.operands t.work)
act s (BrIf l) t = moved s (br_if_on l t)
act s (BrTable table) t = moved s (br_table_on table.labels table.default t)
act s Return t = moved s (return_on t.operands t.work)
act s (Call x) t = call s t (func_address (instance_of s t.frame) x)
act s (CallIndirect x) t = call_through s t (at s.tables (table_address (instance_of s t.frame))) (type_at (instance_of s t.frame) x) t.operands
act s Drop t = on_top t.operands (λ v vs. goes s t vs)
act s Select t = select s t t.operands
act s (LocalGet x) t = pushed s t (slice_get t.frame.locals x)
act s (LocalSet x) t = on_top t.operands (λ v vs. set_local s t x v vs)
act s (LocalTee x) t = on_top t.operands (λ v vs. set_local s t x v (v ∷ vs))
act s (GlobalGet x) t = pushed s t (value_in (at s.globals (global_address (instance_of s t.frame) x)))
act s (GlobalSet x) t = on_top t.operands (λ v vs. set_global s t (global_address (instance_of s t.frame) x) v vs)
act s (I32Const n) t = goes s t (I32 (wrapped 32 n) ∷ t.operands)
act s (I64Const n) t = goes s t (I64 (wrapped 64 n) ∷ t.operands)
act s (Numeric i) t = worked s t (numeric_on i t.operands)
act s (Linear i) t = linear s t i (memory_address (instance_of s t.frame))
act s (Segment i) t = in_segments s t (segment_on i s.segments t.operands)

-- ---- a step carries out the first instruction, and leaves blocks and calls that are then at their ends

abbrev pub first : Store → Frame → List Value → List Item → Outcome
first s fr vs (Do i ∷ w) = act s i (thread fr vs w)
first s fr vs _ = Stuck

abbrev pub begin : Store → Thread → Outcome
begin s t = first s t.frame t.operands t.work

abbrev pub exited : Outcome → Outcome
exited (Next s t event) = Next s (exited_thread t) event
exited (Calls h t) = Calls h t
exited (Trap kind) = Trap kind
exited Stuck = Stuck

abbrev pub step_of : Store → Thread → Outcome
step_of s t = exited (begin s t)
