-- Well-typed stores and threads, after the standard's appendix on soundness (WebAssembly 1.0, A.5). The judgement on
-- instructions is that of validation.
use Rattle.std.specs.Prelude.{◌≡◌, ◌<◌, ℕ, false, List, [], ◌∷◌, ◌++◌, length, map, slice_get, Option, Some, None, All}
use Rattle.ms_host.specs.declared.host.Host.{Host}
use Rattle.ms_host.specs.declared.host.Host.TheVariants as hosts
use Rattle.ms_linear.specs.declared.table.Entry.{Entry}
use Rattle.ms_linear.specs.declared.value.Value.{Value}
use Rattle.ms_linear.specs.Table.{Table}
use Rattle.ms_linear.specs.Values.{global_type_of, type_of}
use Rattle.ms_module.specs.declared.instr.Instr.{Instr}
use Rattle.ms_rules.specs.Context.{Context, inside}
use Rattle.ms_rules.specs.Typing.{InstrTyped, Typed, types}
use Rattle.ms_task.specs.declared.func.FuncInst.{FuncInst}
use Rattle.ms_task.specs.Thread.{Activation, Do, Frame, Item, Label, Thread, body_of, result_of}
use Rattle.ms_types.specs.declared.types.FuncType.{FuncType}
use Rattle.ms_types.specs.declared.types.GlobalType.{GlobalType}
use Rattle.ms_types.specs.declared.types.Limits.{Limits}
use Rattle.ms_types.specs.declared.types.ValType.{ValType}
use Rattle.ms_types.specs.declared.types.ValType.TheVariants.{I32}
use Rattle.ms_machine.specs.declared.store.Instance.{Instance}
use Rattle.ms_machine.specs.Store.{Store, at, number_of_instance}

-- ---- what typing sees of a store, which no step changes

pub record Outline : Type 0 where
  pub funcs : List FuncInst
  pub instances : List Instance
  pub tables : List Table
  -- how many linear memories there are
  pub memories : ℕ
  pub globals : List GlobalType

abbrev pub outline_of : Store → Outline
outline_of s = record { funcs = s.funcs; instances = s.instances; tables = s.tables; memories = length s.memories; globals = map global_type_of s.globals }

-- ---- the context of an instance (A.5.2)

abbrev pub func_type : Option FuncInst → Option FuncType
func_type None = None
func_type (Some f) = Some f.ty

-- an address without a global is ruled out where the instance is typed
abbrev pub global_type : Option GlobalType → GlobalType
global_type None = record { ty = I32; mutable = false }
global_type (Some g) = g

-- a table or a memory of any size
abbrev pub any_size : Option ℕ → List Limits
any_size None = []
any_size (Some address) = record { min = 0; max = None } ∷ []

abbrev pub context_in : Outline → Option Instance → Context
context_in o None = record { sigs = []; funcs = []; tables = []; memories = []; globals = []; locals = []; returns = None }
context_in o (Some i) = record {
  sigs = i.types;
  funcs = map (λ a. func_type (slice_get o.funcs a)) i.funcs;
  tables = any_size i.table;
  memories = any_size i.memory;
  globals = map (λ a. global_type (slice_get o.globals a)) i.globals;
  locals = [];
  returns = None;
}

abbrev pub context_inside : Outline → Option Instance → Option FuncInst → Context
context_inside o i None = context_in o i
context_inside o i (Some f) = inside (context_in o i) (f.ty.params ++ f.locals) (result_of f)

-- inside the function of an address
unfoldable pub context_at : Outline → ℕ → Context
context_at o f = context_inside o (at o.instances (number_of_instance (slice_get o.funcs f))) (slice_get o.funcs f)

-- ---- well-typed stores (A.5.2)

abbrev pub IsBelow : ℕ → Option ℕ → Type 0
IsBelow n None = Unit {0}
IsBelow n (Some address) = address < n

pub record InstanceTyped (o : Outline) (i : Instance) : Type 0 where
  pub funcs : All (λ a. a < length o.funcs) i.funcs
  pub table : IsBelow (length o.tables) i.table
  pub memory : IsBelow o.memories i.memory
  pub globals : All (λ a. a < length o.globals) i.globals

-- ---- the host's functions

abbrev pub host_type : Host → FuncType
host_type hosts.Putchar = record { params = I32 ∷ []; results = I32 ∷ [] }
host_type hosts.Getchar = record { params = []; results = I32 ∷ [] }
host_type hosts.Abort = record { params = []; results = [] }

abbrev pub HostTyped : Option Host → FuncType → Type 0
HostTyped None t = Unit {0}
HostTyped (Some h) t = t ≡ host_type h

-- the body leaves the function's result
pub record FuncTyped (o : Outline) (address : ℕ) (f : FuncInst) : Type 0 where
  pub instance : f.instance < length o.instances
  pub host : HostTyped f.host f.ty
  pub results : f.ty.results ≡ types (result_of f)
  pub body : Typed (context_at o address) f.body (result_of f ∷ []) 0 (result_of f)

-- an entry is a function of the type that stands beside it
abbrev pub EntryTyped : Outline → Option Entry → Type 0
EntryTyped o None = Unit {0}
EntryTyped o (Some e) = (f : FuncInst) × (slice_get o.funcs e.func.address ≡ Some f) × (f.ty ≡ e.sig)

pub record StoreTyped (o : Outline) : Type 0 where
  pub funcs : (address : ℕ) (f : FuncInst) → slice_get o.funcs address ≡ Some f → FuncTyped o address f
  pub instances : (number : ℕ) (i : Instance) → slice_get o.instances number ≡ Some i → InstanceTyped o i
  pub tables : (address : ℕ) (table : Table) → slice_get o.tables address ≡ Some table → All (EntryTyped o) table.entries

-- ---- well-typed threads (A.5.3): values and frames, and what is left to do

abbrev pub types_of : List Value → List ValType
types_of = map type_of

abbrev pub FrameTyped : Outline → Frame → Type 0
FrameTyped o fr = types_of fr.locals ≡ (context_at o fr.function).locals

-- the labels that lie ahead, the call's own end the last one
abbrev pub labels_of : List Item → List (Option ValType)
labels_of [] = []
labels_of (Do i ∷ w) = labels_of w
labels_of (Label k h g ∷ w) = k ∷ labels_of w
labels_of (Activation k h caller ∷ w) = k ∷ []

-- Among these labels the instruction of the function turns operands of the types before into those after.
abbrev pub InstrTypedAt : Outline → ℕ → List (Option ValType) → Instr → List ValType → List ValType → Type 0
InstrTypedAt o f labels i t1 t2 = InstrTyped (Typed (context_at o f) (body_of o.funcs f)) (context_at o f) labels i t1 t2

-- In the function f the work takes operands of the types ts, over operands of the types below, which the end of the
-- innermost block or call keeps. With nothing left the frame is nobody's.
abbrev pub WorkTyped : Outline → ℕ → List Item → (ts below : List ValType) → Type 0
WorkTyped o f [] ts below = (context_at o f).returns ≡ None
WorkTyped o f (Do i ∷ w) ts below = (t : List ValType) × InstrTypedAt o f (labels_of w) i ts t × WorkTyped o f w t below
WorkTyped o f (Label k h None ∷ w) ts below =
    (mine : List ValType) × (rest : List ValType) × (below ≡ mine ++ rest) × (h ≡ length below)
    -- at the end of the block, and after a branch to it
    × WorkTyped o f w (ts ++ mine) rest × WorkTyped o f w (types k ++ mine) rest
WorkTyped o f (Label k h (Some i) ∷ w) ts below =
    (mine : List ValType) × (rest : List ValType) × (below ≡ mine ++ rest) × (h ≡ length below) × WorkTyped o f w (ts ++ mine) rest
    × ((t : List ValType) × InstrTypedAt o f (labels_of w) i (types k ++ mine) t × WorkTyped o f w t rest)
WorkTyped o f (Activation k h caller ∷ w) ts below =
    (mine : List ValType) × (rest : List ValType) × (below ≡ mine ++ rest) × (h ≡ length below) × (ts ≡ types k)
    × ((context_at o f).returns ≡ Some k) × FrameTyped o caller × WorkTyped o caller.function w (types k ++ mine) rest

pub record ThreadTyped (o : Outline) (t : Thread) : Type 0 where
  pub ts : List ValType
  pub below : List ValType
  pub operands : types_of t.operands ≡ ts ++ below
  pub frame : FrameTyped o t.frame
  pub work : WorkTyped o t.frame.function t.work ts below

-- no end is in front
abbrev pub IsExited : List Item → Type 0
IsExited [] = Unit {0}
IsExited (Do i ∷ w) = Unit {0}
IsExited _ = ⊥

-- a task is well typed where its thread is, and blocks and calls at their ends are left
pub record TaskTyped (o : Outline) (t : Thread) : Type 0 where
  pub thread : ThreadTyped o t
  pub exited : IsExited t.work
