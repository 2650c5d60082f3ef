-- The store of several modules (WebAssembly 1.0, 4.5.4), or the first fault. Module by module: its imports, then what of its
-- own is too large, then elements and data that reach past the end. They are written when all modules are there.
use Rattle.std.specs.Prelude.{◌≡◌, ℕ, zero, suc, false, ◌+◌, if◌then◌else◌, List, [], ◌∷◌, ◌++◌, get_or, length, map, nat_le, replicate, slice_get, Option, Some, None, option_and_then, Result, Ok, Err}
use Rattle.ms_host.specs.declared.host.Host.{Host as HostFunc}
use Rattle.ms_host.specs.declared.host.Host.TheVariants as hosts
use Rattle.ms_linear.specs.declared.global.GlobalInst.{GlobalInst}
use Rattle.ms_linear.specs.declared.table.Entry.{Entry}
use Rattle.ms_linear.specs.declared.value.Value.{Value}
use Rattle.ms_linear.specs.declared.value.Value.TheVariants as values
use Rattle.ms_linear.specs.Memory.{Memory as Linear, most_pages}
use Rattle.ms_linear.specs.Table.{Table as TableInst, most_entries}
use Rattle.ms_module.specs.declared.instr.Instr.{Instr}
use Rattle.ms_module.specs.declared.instr.Instr.TheVariants.{Call, LocalGet}
use Rattle.ms_module.specs.declared.module.Element.{Element}
use Rattle.ms_module.specs.declared.module.Fill.{Fill}
use Rattle.ms_module.specs.declared.module.Func.{Func as ModuleFunc}
use Rattle.ms_module.specs.declared.module.Global.{Global as ModuleGlobal}
use Rattle.ms_module.specs.declared.module.Module.{Module}
use Rattle.ms_tagged.specs.Bytes.{Data}
use Rattle.ms_task.specs.declared.func.FuncInst.{FuncInst}
use Rattle.ms_types.specs.declared.types.FuncType.{FuncType}
use Rattle.ms_types.specs.declared.types.Limits.{Limits}
use Rattle.ms_machine.specs.declared.externs.Extern.{Extern}
use Rattle.ms_machine.specs.declared.externs.Extern.TheVariants.{Host, Func, Table, Memory, Global}
use Rattle.ms_machine.specs.declared.externs.Why.TheVariants.{Fit, TooLarge}
use Rattle.ms_machine.specs.declared.store.Instance.{Instance}
use Rattle.ms_machine.specs.Constants.{constant_of, index_of}
use Rattle.ms_machine.specs.Externs.{Fault, Made, externs, fault_at}
use Rattle.ms_machine.specs.Store.{Store, at}
use Rattle.ms_machine.specs.Typing.{host_type}
use Rattle.ms_machine.specs.Writing.{element_in, empty_table, entry_for, fill_in, zeroed}

-- ---- a function of the host that is imported: its body is the one call of it, by its own index

abbrev pub host_body : HostFunc → ℕ → List Instr
host_body hosts.Putchar x = LocalGet 0 ∷ Call x ∷ []
host_body _ x = Call x ∷ []

abbrev pub host_func : HostFunc → (instance : ℕ) → (x : ℕ) → FuncInst
host_func h instance x = record { instance = instance; ty = host_type h; host = Some h; locals = []; body = host_body h x ∷ [] }

-- those among what is imported, from the index x on
abbrev pub host_funcs : (instance : ℕ) → (x : ℕ) → List Extern → List FuncInst
host_funcs instance x [] = []
host_funcs instance x (Host h ∷ es) = host_func h instance x ∷ host_funcs instance (suc x) es
host_funcs instance x (Func a ∷ es) = host_funcs instance (suc x) es
host_funcs instance x (_ ∷ es) = host_funcs instance x es

-- ---- the addresses that are imported, by kind (4.5.3)

-- a function of the host gets the next address
abbrev pub funcs_in : (next : ℕ) → List Extern → List ℕ
funcs_in next [] = []
funcs_in next (Host h ∷ es) = next ∷ funcs_in (suc next) es
funcs_in next (Func a ∷ es) = a ∷ funcs_in next es
funcs_in next (_ ∷ es) = funcs_in next es

abbrev pub table_in : List Extern → Option ℕ
table_in [] = None
table_in (Table a ∷ es) = Some a
table_in (_ ∷ es) = table_in es

abbrev pub memory_in : List Extern → Option ℕ
memory_in [] = None
memory_in (Memory a ∷ es) = Some a
memory_in (_ ∷ es) = memory_in es

abbrev pub globals_in : List Extern → List ℕ
globals_in [] = []
globals_in (Global a ∷ es) = a ∷ globals_in es
globals_in (_ ∷ es) = globals_in es

-- ---- what a module adds: functions of the host, then its own functions, tables, memories and globals

-- the numbers from one on, so many
abbrev pub numbers : (from count : ℕ) → List ℕ
numbers from zero = []
numbers from (suc count) = from ∷ numbers (suc from) count

-- in a valid module each function has a type
abbrev pub no_type : FuncType
no_type = record { params = []; results = [] }

abbrev pub own_func : Module → (instance : ℕ) → ModuleFunc → FuncInst
own_func m instance f = record { instance = instance; ty = get_or m.sigs f.sig no_type; host = None; locals = f.locals; body = f.body }

abbrev pub value_at : List GlobalInst → ℕ → Value
value_at globals a = (get_or globals a (record { value = values.I32 0; mutable = false })).value

-- the values that a constant expression may name, by the addresses of its globals
abbrev pub values_at : List GlobalInst → List ℕ → List Value
values_at globals = map (value_at globals)

abbrev pub own_global : List Value → ModuleGlobal → GlobalInst
own_global imported g = record { value = constant_of imported g.init; mutable = g.ty.mutable }

-- what is imported, else the module's own, which has the next address
abbrev pub or_own : {A : Type 0} → Option ℕ → (next : ℕ) → List A → Option ℕ
or_own (Some a) next own = Some a
or_own None next [] = None
or_own None next (x ∷ xs) = Some next

abbrev pub funcs_before : Made → List Extern → List FuncInst
funcs_before made es = made.funcs ++ host_funcs (length made.instances) 0 es

abbrev pub instance_in : Made → Module → List Extern → Instance
instance_in made m es = record {
  types = m.sigs;
  funcs = funcs_in (length made.funcs) es ++ numbers (length (funcs_before made es)) (length m.funcs);
  table = or_own (table_in es) (length made.tables) m.tables;
  memory = or_own (memory_in es) (length made.memories) m.memories;
  globals = globals_in es ++ numbers (length made.globals) (length m.globals);
  exports = m.exports;
  start = m.start;
}

abbrev pub with_module : Made → (name : List ℕ) → Module → List Extern → Made
with_module made name m es = record {
  names = made.names ++ name ∷ [];
  funcs = funcs_before made es ++ map (own_func m (length made.instances)) m.funcs;
  instances = made.instances ++ instance_in made m es ∷ [];
  tables = made.tables ++ map empty_table m.tables;
  memories = made.memories ++ map zeroed m.memories;
  globals = made.globals ++ map (own_global (values_at made.globals (globals_in es))) m.globals;
  elements = made.elements ++ m.elements ∷ [];
  fills = made.fills ++ m.fills ∷ [];
}

-- ---- what doesn't fit

abbrev pub or_next : Option Fault → Option Fault → Option Fault
or_next None next = next
or_next (Some fault) next = Some fault

-- by the least sizes of the module's own table and memory, which are items 0 and 1
abbrev pub sizes_fit : (number item most : ℕ) → List Limits → Option Fault
sizes_fit number item most [] = None
sizes_fit number item most (l ∷ ls) = if nat_le l.min most then sizes_fit number item most ls else Some (fault_at number item TooLarge)

abbrev pub too_large : (number : ℕ) → (tables memories : List Limits) → Option Fault
too_large number tables memories = or_next (sizes_fit number 0 most_entries tables) (sizes_fit number 1 most_pages memories)

abbrev pub entries_of : Option TableInst → ℕ
entries_of None = 0
entries_of (Some t) = length t.entries

abbrev pub bytes_of : Option Linear → ℕ
bytes_of None = 0
bytes_of (Some m) = length m.bytes

abbrev pub reach : (number item at count end : ℕ) → Option Fault → Option Fault
reach number item at count end next = if nat_le (at + count) end then next else Some (fault_at number item Fit)

-- elements are numbered from 0, and data goes on behind them
abbrev pub elements_fit : (number : ℕ) → List Value → (size item : ℕ) → List Element → Option Fault
elements_fit number globals size item [] = None
elements_fit number globals size item (e ∷ es) =
    reach number item (index_of (constant_of globals e.offset)) (length e.funcs) size (elements_fit number globals size (suc item) es)

abbrev pub fills_fit : (number : ℕ) → List Value → (size item : ℕ) → List Fill → Option Fault
fills_fit number globals size item [] = None
fills_fit number globals size item (f ∷ fs) =
    reach number item (index_of (constant_of globals f.offset)) (length f.bytes) size (fills_fit number globals size (suc item) fs)

-- nothing has run, so that the sizes are the least ones, which the defining modules give
abbrev pub outside : (number : ℕ) → List GlobalInst → List TableInst → List Linear → Instance → List Element → List Fill → Option Fault
outside number globals tables memories i elements fills =
    or_next (elements_fit number (values_at globals i.globals) (entries_of (at tables i.table)) 0 elements)
    (fills_fit number (values_at globals i.globals) (bytes_of (at memories i.memory)) (length elements) fills)

-- ---- one module more, and all modules

abbrev pub unless : Option Fault → Made → Result Made Fault
unless None made = Ok made
unless (Some fault) made = Err fault

-- with what the imports are given
abbrev pub if_inside : Made → (name : List ℕ) → Module → List Extern → Result Made Fault
if_inside made name m es =
    let next = with_module made name m es in
    unless (outside (length made.instances) next.globals next.tables next.memories (instance_in made m es) m.elements m.fills) next

abbrev pub if_small : Option Fault → Result Made Fault → Result Made Fault
if_small None next = next
if_small (Some fault) next = Err fault

abbrev pub with_externs : Made → (name : List ℕ) → Module → Result (List Extern) Fault → Result Made Fault
with_externs made name m (Err fault) = Err fault
with_externs made name m (Ok es) = if_small (too_large (length made.instances) m.tables m.memories) (if_inside made name m es)

abbrev pub one_more : Made → (name : List ℕ) → Module → Result Made Fault
one_more made name m = with_externs made name m (externs made m.sigs 0 m.imports)

abbrev pub and_then : Result Made Fault → (Made → Result Made Fault) → Result Made Fault
and_then (Err fault) go = Err fault
and_then (Ok made) go = go made

abbrev pub all_more : List (List ℕ × Module) → Made → Result Made Fault
all_more [] made = Ok made
all_more (m ∷ ms) made = and_then (one_more made m.0 m.1) (all_more ms)

abbrev pub nothing_made : Made
nothing_made = record { names = []; funcs = []; instances = []; tables = []; memories = []; globals = []; elements = []; fills = [] }

-- ---- elements, which are written into their table in order

abbrev pub entry_in : List FuncInst → Option ℕ → Option Entry
entry_in funcs None = None
entry_in funcs (Some a) = entry_for funcs a

abbrev pub put_element : List FuncInst → List GlobalInst → Instance → Element → Option ℕ → List TableInst → List TableInst
put_element funcs globals i e None tables = tables
put_element funcs globals i e (Some a) tables =
    element_in tables a (slice_get tables a) (index_of (constant_of (values_at globals i.globals) e.offset)) (map (λ f. entry_in funcs (slice_get i.funcs f)) e.funcs)

abbrev pub put_elements : List FuncInst → List GlobalInst → Instance → List Element → List TableInst → List TableInst
put_elements funcs globals i [] tables = tables
put_elements funcs globals i (e ∷ es) tables = put_elements funcs globals i es (put_element funcs globals i e i.table tables)

-- those of each instance
abbrev pub put_all_elements : List FuncInst → List GlobalInst → List Instance → List (List Element) → List TableInst → List TableInst
put_all_elements funcs globals (i ∷ is) (es ∷ ess) tables = put_all_elements funcs globals is ess (put_elements funcs globals i es tables)
put_all_elements funcs globals _ _ tables = tables

-- ---- data, which is written into its memory in order

abbrev pub put_fill : List GlobalInst → Instance → Fill → Option ℕ → List Linear → List Linear
put_fill globals i f None memories = memories
put_fill globals i f (Some a) memories =
    fill_in memories a (slice_get memories a) (index_of (constant_of (values_at globals i.globals) f.offset)) f.bytes

abbrev pub put_fills : List GlobalInst → Instance → List Fill → List Linear → List Linear
put_fills globals i [] memories = memories
put_fills globals i (f ∷ fs) memories = put_fills globals i fs (put_fill globals i f i.memory memories)

-- that of each instance
abbrev pub put_all_fills : List GlobalInst → List Instance → List (List Fill) → List Linear → List Linear
put_all_fills globals (i ∷ is) (fs ∷ fss) memories = put_all_fills globals is fss (put_fills globals i fs memories)
put_all_fills globals _ _ memories = memories

-- ---- the store, with an empty segment memory of so many bytes

abbrev pub store_of : (capacity : ℕ) → Made → Store
store_of capacity made = record {
  funcs = made.funcs;
  instances = made.instances;
  tables = put_all_elements made.funcs made.globals made.instances made.elements made.tables;
  memories = put_all_fills made.globals made.instances made.fills made.memories;
  globals = made.globals;
  segments = record { bytes = replicate capacity (Data 0); live = []; made = 0; accesses = 0 };
}

abbrev pub stored : (capacity : ℕ) → Result Made Fault → Result Store Fault
stored capacity (Ok made) = Ok (store_of capacity made)
stored capacity (Err fault) = Err fault

-- the modules have their names beside them
abbrev pub linked : List (List ℕ × Module) → (capacity : ℕ) → Result Store Fault
linked ms capacity = stored capacity (all_more ms nothing_made)

-- ---- the start chain: the addresses of the start functions, in the order of the modules

abbrev pub with_start : Option ℕ → List ℕ → List ℕ
with_start None rest = rest
with_start (Some a) rest = a ∷ rest

abbrev pub start_of : Instance → Option ℕ
start_of i = option_and_then (slice_get i.funcs) i.start

abbrev pub start_chain : List Instance → List ℕ
start_chain [] = []
start_chain (i ∷ is) = with_start (start_of i) (start_chain is)

-- the start function of an instance, if it has one, is there, and takes and gives nothing (3.4.7)
abbrev pub StartTyped : List FuncInst → Instance → Option ℕ → Type 0
StartTyped funcs i None = Unit {0}
StartTyped funcs i (Some x) =
    (a : ℕ) × (f : FuncInst) × (slice_get i.funcs x ≡ Some a) × (slice_get funcs a ≡ Some f) × (f.ty.params ≡ []) × (f.ty.results ≡ [])

abbrev pub StartsTyped : Store → Type 0
StartsTyped s = (number : ℕ) (i : Instance) → slice_get s.instances number ≡ Some i → StartTyped s.funcs i i.start
