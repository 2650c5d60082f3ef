-- What the code of an instruction did, against what the definition says of the instruction.
use Rattle.std.specs.Prelude.{◌≡◌, ◌≢◌, ℕ, Bool, List, [], Option, None, Result, Ok, Err}
use Rattle.ms_event.specs.declared.event.Event.{Event}
use Rattle.ms_event.specs.declared.tally.Tally.{Tally}
use Rattle.ms_event.specs.refinement.Tally.{all_tallied}
use Rattle.ms_host.specs.declared.host.Host.{Host}
use Rattle.ms_host.specs.declared.host.Host.TheVariants as hosts
use Rattle.ms_linear.specs.declared.value.Value.{Value}
use Rattle.ms_module.specs.declared.instr.Instr.{Instr}
use Rattle.ms_module.specs.declared.instr.Instr.TheVariants as instr
use Rattle.ms_segment.specs.Memory.{Memory}
use Rattle.ms_operate.specs.declared.trap.Fault.{Fault as OperateFault}
use Rattle.ms_operate.specs.declared.trap.Fault.TheVariants as operate
use Rattle.ms_task.specs.declared.task.Task.{Task}
use Rattle.ms_task.specs.Thread.{Thread}
use Rattle.ms_task.specs.refinement.View.{IsAt, at_next, thread_of}
use Rattle.ms_machine.specs.Running.{with_event}
use Rattle.ms_machine.specs.Segments as segments
use Rattle.ms_machine.specs.Segments.{Effect}
use Rattle.ms_machine.specs.Step.{Calls, Next, Outcome, Stuck, Trap, act, trap_of}
use Rattle.ms_machine.specs.Store.{Store}
use Rattle.ms_machine.specs.declared.fault.Fault.{Fault}
use Rattle.ms_machine.specs.declared.fault.Fault.TheVariants as faults
use Rattle.ms_machine.specs.declared.segment.Told.{Told}
use Rattle.ms_machine.specs.declared.segment.Told.TheVariants as told

abbrev pub fault_of : OperateFault → Fault
fault_of (operate.Trap trap) = faults.Trap (trap_of trap)
fault_of operate.Memory = faults.Memory

-- a function of the host that puts or takes
abbrev pub IsAsking : Host → Type 0
IsAsking hosts.Abort = ⊥
IsAsking _ = Unit {0}

-- The operands, the memory and the event are those; or it stopped, and all is as before. Where memory ran out the memory is
-- as before, and nothing is said of the operands: such a task isn't run again.
abbrev pub DoesInSegments : Effect → List Value → List Value → Memory → Memory → Result (Option Event) Fault → Type 0
DoesInSegments effect old new old-memory new-memory (Ok event) = effect ≡ segments.Gives new new-memory event
DoesInSegments effect old new old-memory new-memory (Err (faults.Trap kind)) = (effect ≡ segments.Trap kind) × (new ≡ old) × (new-memory ≡ old-memory)
DoesInSegments effect old new old-memory new-memory (Err (faults.Host h)) = ⊥
DoesInSegments effect old new old-memory new-memory (Err faults.Memory) = new-memory ≡ old-memory

-- what was told, if it was, is counted
abbrev pub CountsTold : Result (Option Event) Fault → Tally → Tally → Told → Type 0
CountsTold (Ok event) c c' told.Done = c' ≡ all_tallied (with_event event []) c
CountsTold (Err (faults.Trap _)) c c' told.Not = c' ≡ c
CountsTold (Err (faults.Host _)) c c' told.Not = c' ≡ c
CountsTold (Err faults.Memory) c c' told.Memory = Unit {0}
CountsTold _ c c' _ = ⊥

-- The operands and the memory are those, and the event is counted; or it wasn't carried out, and all is as before. Where memory
-- ran out nothing is said.
abbrev pub DoesCounted : Effect → List Value → List Value → Memory → Memory → Tally → Tally → Told → Type 0
DoesCounted effect old new old-memory new-memory c c' told.Done = (event : Option Event) × (effect ≡ segments.Gives new new-memory event) × (c' ≡ all_tallied (with_event event []) c)
DoesCounted effect old new old-memory new-memory c c' told.Not = (new ≡ old) × (new-memory ≡ old-memory) × (c' ≡ c)
DoesCounted effect old new old-memory new-memory c c' told.Memory = Unit {0}

-- The same of a store and a thread: where memory ran out the store is as before.
abbrev pub DoesOutcome : Outcome → Store → Thread → Store → Thread → Result (Option Event) Fault → Type 0
DoesOutcome outcome old old-thread new new-thread (Ok event) = outcome ≡ Next new new-thread event
DoesOutcome outcome old old-thread new new-thread (Err (faults.Trap kind)) = (outcome ≡ Trap kind) × (new ≡ old) × (new-thread ≡ old-thread)
DoesOutcome outcome old old-thread new new-thread (Err (faults.Host h)) = (outcome ≡ Calls h new-thread) × (new ≡ old) × IsAsking h
DoesOutcome outcome old old-thread new new-thread (Err faults.Memory) = new ≡ old

-- The instruction, behind which a task goes on at a place, finds what it takes.
abbrev pub Can : Instr → ℕ → Store → Task → Type 0
Can i next s task = act s i (at_next s.funcs task next) ≢ Stuck

-- The code of the instruction did what the definition says.
abbrev pub DoesInstr : Instr → ℕ → Store → Task → Store → Task → Result (Option Event) Fault → Type 0
DoesInstr i next s task s' task' result = DoesOutcome (act s i (at_next s.funcs task next)) s (thread_of s.funcs task) s' (thread_of s'.funcs task') result

-- The same of a store and a thread, where the event is counted.
abbrev pub DoesTold : Outcome → Store → Thread → Tally → Store → Thread → Tally → Told → Type 0
DoesTold outcome old old-thread c new new-thread c' told.Done = (event : Option Event) × (outcome ≡ Next new new-thread event) × (c' ≡ all_tallied (with_event event []) c)
DoesTold outcome old old-thread c new new-thread c' told.Not = (new ≡ old) × (new-thread ≡ old-thread) × (c' ≡ c)
DoesTold outcome old old-thread c new new-thread c' told.Memory = Unit {0}

-- ---- instructions that tell nothing

abbrev pub TellsNone : Result (Option Event) Fault → Type 0
TellsNone (Ok event) = event ≡ None
TellsNone (Err fault) = Unit {0}

-- where it stopped, nothing has changed
abbrev pub IsQuiet : Task → Task → Result (Option Event) Fault → Type 0
IsQuiet t t' (Ok event) = event ≡ None
IsQuiet t t' (Err fault) = t' ≡ t

-- the same of the operands
abbrev pub IsStill : List Value → List Value → Result (Option Event) Fault → Type 0
IsStill vs vs' (Ok event) = event ≡ None
IsStill vs vs' (Err fault) = vs' ≡ vs

-- ---- those that stay within their sequence

-- It tells nothing; where it stopped, nothing has changed.
abbrev pub Stays : Task → ℕ → Task → Result (Option Event) Fault → Type 0
Stays t next t' (Ok event) = (event ≡ None) × IsAt t next t'
Stays t next t' (Err fault) = t' ≡ t

-- The instruction was carried out so, on the store as it is, but for the task's place: it goes on at `next` of the same sequence.
abbrev pub Carries : Instr → ℕ → Store → Task → Task → Type 0
Carries i next s t t' = (act s i (at_next s.funcs t next) ≡ Next s (at_next s.funcs t' next) None) × IsAt t t.place t'

-- ---- those that leave the store as it is

abbrev pub LeavesStore : Instr → Type 0
LeavesStore (instr.GlobalSet x) = ⊥
LeavesStore (instr.Linear i) = ⊥
LeavesStore (instr.Segment i) = ⊥
LeavesStore _ = Unit {0}

-- ---- the same with a word on what follows

abbrev pub with_more : Result (Option Event) Fault → Bool → Result (Option Event × Bool) Fault
with_more (Ok event) more = Ok (event, more)
with_more (Err fault) more = Err fault

abbrev pub DoesFirst : Outcome → Store → Thread → Store → Thread → Result (Option Event × Bool) Fault → Type 0
DoesFirst outcome old old-thread new new-thread (Ok x) = outcome ≡ Next new new-thread x.0
DoesFirst outcome old old-thread new new-thread (Err (faults.Trap kind)) = (outcome ≡ Trap kind) × (new ≡ old) × (new-thread ≡ old-thread)
DoesFirst outcome old old-thread new new-thread (Err (faults.Host h)) = (outcome ≡ Calls h new-thread) × (new ≡ old) × IsAsking h
DoesFirst outcome old old-thread new new-thread (Err faults.Memory) = new ≡ old
