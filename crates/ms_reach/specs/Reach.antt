-- What a set of instances and a thread can reach of a store.
use Rattle.std.specs.Prelude.{◌≡◌, ◌<◌, ◌≤◌, ℕ, suc, ◌+◌, ◌-◌, Bool, true, false, if◌then◌else◌, List, [], ◌∷◌, ◌++◌, length, take, slice_get, Contains, Option, Some, None}
use Rattle.ms_handle.specs.declared.handle.Handle.{Handle}
use Rattle.ms_handle.specs.declared.handle.Handle.TheVariants as handles
use Rattle.ms_linear.specs.declared.global.GlobalInst.{GlobalInst}
use Rattle.ms_linear.specs.declared.value.Value.{Value}
use Rattle.ms_linear.specs.declared.value.Value.TheVariants as values
use Rattle.ms_live.specs.declared.gaps.Live.{Live}
use Rattle.ms_segment.specs.Memory.{Memory, live_of}
use Rattle.ms_tagged.specs.Bytes.{Piece}
use Rattle.ms_task.specs.declared.func.FuncInst.{FuncInst}
use Rattle.ms_task.specs.Thread.{Activation, Do, Frame, Item, Label, Thread, depth_of}
use Rattle.ms_machine.specs.Store.{Store, global_address, memory_address, table_address}

-- ---- the places that instances define or import

abbrev pub IsOwnGlobal : (ℕ → Bool) → Store → ℕ → Type 0
IsOwnGlobal inside s a = (n : ℕ) × (x : ℕ) × (inside n ≡ true) × (global_address (slice_get s.instances n) x ≡ Some a)

abbrev pub IsOwnMemory : (ℕ → Bool) → Store → ℕ → Type 0
IsOwnMemory inside s a = (n : ℕ) × (inside n ≡ true) × (memory_address (slice_get s.instances n) ≡ Some a)

abbrev pub IsOwnTable : (ℕ → Bool) → Store → ℕ → Type 0
IsOwnTable inside s a = (n : ℕ) × (inside n ≡ true) × (table_address (slice_get s.instances n) ≡ Some a)

-- ---- the values of a thread above its last activation whose caller isn't inside

abbrev pub is_in : (ℕ → Bool) → Option FuncInst → Bool
is_in inside None = false
is_in inside (Some f) = inside f.instance

abbrev pub is_inside : (ℕ → Bool) → List FuncInst → Frame → Bool
is_inside inside funcs fr = is_in inside (slice_get funcs fr.function)

-- how many operands lie below it
abbrev pub floor : (ℕ → Bool) → List FuncInst → List Item → ℕ
floor inside funcs [] = 0
floor inside funcs (Do i ∷ w) = floor inside funcs w
floor inside funcs (Label k h g ∷ w) = floor inside funcs w
floor inside funcs (Activation k h caller ∷ w) = if is_inside inside funcs caller then floor inside funcs w else h

-- how many calls are open with it and below it
abbrev pub calls_below : (ℕ → Bool) → List FuncInst → List Item → ℕ
calls_below inside funcs [] = 0
calls_below inside funcs (Do i ∷ w) = calls_below inside funcs w
calls_below inside funcs (Label k h g ∷ w) = calls_below inside funcs w
calls_below inside funcs (Activation k h caller ∷ w) = if is_inside inside funcs caller then calls_below inside funcs w else suc (depth_of w)

abbrev pub callers_locals : (ℕ → Bool) → List FuncInst → List Item → List Value
callers_locals inside funcs [] = []
callers_locals inside funcs (Do i ∷ w) = callers_locals inside funcs w
callers_locals inside funcs (Label k h g ∷ w) = callers_locals inside funcs w
callers_locals inside funcs (Activation k h caller ∷ w) = if is_inside inside funcs caller then caller.locals ++ callers_locals inside funcs w else []

abbrev pub own_values : (ℕ → Bool) → List FuncInst → Thread → List Value
own_values inside funcs t = take (length t.operands - floor inside funcs t.work) t.operands ++ (t.frame.locals ++ callers_locals inside funcs t.work)

-- ---- the bytes that a handle leads to: those of its live segment inside its bound

abbrev pub LeadsTo : Memory → Handle → ℕ → Type 0
LeadsTo m (handles.Good sealed id base size offset) address = (s : Live) × (live_of m id ≡ Some s) × (s.base + base ≤ address) × (address < s.base + base + size)
LeadsTo m h address = ⊥

abbrev pub ValueLeadsTo : Memory → Value → ℕ → Type 0
ValueLeadsTo m (values.Handle h) address = LeadsTo m h address
ValueLeadsTo m v address = ⊥

-- ---- the least set of bytes that these places and values lead to, and that pieces in it lead to

pub data IsReached (inside : ℕ → Bool) (s : Store) (t : Thread) : ℕ → Type 0 where
  by_value : {v : Value} {address : ℕ} → Contains (own_values inside s.funcs t) v → ValueLeadsTo s.segments v address → IsReached inside s t address
  by_global : {a : ℕ} {g : GlobalInst} {address : ℕ} → IsOwnGlobal inside s a → slice_get s.globals a ≡ Some g → ValueLeadsTo s.segments g.value address → IsReached inside s t address
  by_piece : {place : ℕ} {h : Handle} {i : ℕ} {address : ℕ} → IsReached inside s t place → slice_get s.segments.bytes place ≡ Some (Piece h i) → LeadsTo s.segments h address → IsReached inside s t address
