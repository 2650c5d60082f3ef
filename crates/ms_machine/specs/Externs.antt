-- What an import is given (WebAssembly 1.0, 4.5.4): where it is looked for, and whether it is of the kind and the type that
-- are wanted (3.5).
use Rattle.std.specs.Prelude.{ℕ, suc, Bool, true, false, ◌&&◌, if◌then◌else◌, List, [], ◌∷◌, codes, find, length, nat_le, position, slice_get, Option, Some, None, option_and_then, option_map, Result, Ok, Err}
use Rattle.std.specs.Str.{bytes_eq}
use Rattle.ms_host.specs.declared.host.Host.{Host as HostFunc}
use Rattle.ms_host.specs.declared.host.Host.TheVariants as hosts
use Rattle.ms_linear.specs.declared.global.GlobalInst.{GlobalInst}
use Rattle.ms_linear.specs.Memory.{Memory as Linear, pages}
use Rattle.ms_linear.specs.Table.{Table as TableInst, same_sig, same_type}
use Rattle.ms_linear.specs.Values.{global_type_of}
use Rattle.ms_module.specs.declared.module.Element.{Element}
use Rattle.ms_module.specs.declared.module.Export.{Export}
use Rattle.ms_module.specs.declared.module.ExportDesc.{ExportDesc}
use Rattle.ms_module.specs.declared.module.ExportDesc.TheVariants as exports
use Rattle.ms_module.specs.declared.module.Fill.{Fill}
use Rattle.ms_module.specs.declared.module.Import.{Import}
use Rattle.ms_module.specs.declared.module.ImportDesc.{ImportDesc}
use Rattle.ms_module.specs.declared.module.ImportDesc.TheVariants as imports
use Rattle.ms_task.specs.declared.func.FuncInst.{FuncInst}
use Rattle.ms_types.specs.declared.types.FuncType.{FuncType}
use Rattle.ms_types.specs.declared.types.GlobalType.{GlobalType}
use Rattle.ms_types.specs.declared.types.Limits.{Limits}
use Rattle.ms_machine.specs.declared.externs.Extern.{Extern}
use Rattle.ms_machine.specs.declared.externs.Extern.TheVariants.{Host, Func, Table, Memory, Global}
use Rattle.ms_machine.specs.declared.externs.Why.{Why}
use Rattle.ms_machine.specs.declared.externs.Why.TheVariants as whys
use Rattle.ms_machine.specs.declared.store.Instance.{Instance}
use Rattle.ms_machine.specs.Step.{host_in}
use Rattle.ms_machine.specs.Typing.{host_type}

-- The modules that were linked so far: their names and what the store has of them; and, a module each, the elements and the
-- data that are written when all modules are there.
pub record Made : Type 0 where
  pub names : List (List ℕ)
  pub funcs : List FuncInst
  pub instances : List Instance
  pub tables : List TableInst
  pub memories : List Linear
  pub globals : List GlobalInst
  pub elements : List (List Element)
  pub fills : List (List Fill)

-- the first thing that refuses all: an item of a module, both by their numbers, and why
pub record Fault : Type 0 where
  pub «module» : ℕ
  pub item : ℕ
  pub why : Why

-- ---- what an instance exports by a name (4.2.11)

abbrev pub at_index : Instance → ExportDesc → Option Extern
at_index i (exports.Func x) = option_map Func (slice_get i.funcs x)
at_index i (exports.Table x) = option_map Table i.table
at_index i (exports.Memory x) = option_map Memory i.memory
at_index i (exports.Global x) = option_map Global (slice_get i.globals x)

abbrev pub exported : List ℕ → Instance → Option Extern
exported name i = option_and_then (λ (e : Export). at_index i e.desc) (find (λ (e : Export). bytes_eq name e.name) i.exports)

-- ---- where an import is looked for

abbrev pub found_or : Why → Option Extern → Result Extern Why
found_or why None = Err why
found_or why (Some e) = Ok e

-- `env` is the host
abbrev pub env_name : List ℕ
env_name = codes "env"

abbrev pub host_named : List ℕ → Option Extern
host_named name =
    if bytes_eq name (codes "putchar") then Some (Host hosts.Putchar) else if bytes_eq name (codes "getchar") then Some (Host hosts.Getchar) else if bytes_eq name (codes "abort") then Some (Host hosts.Abort) else None

-- `c` is the latest module that exports the name as a function
abbrev pub c_name : List ℕ
c_name = codes "c"

abbrev pub if_func : Option Extern → Option Extern
if_func (Some (Func a)) = Some (Func a)
if_func _ = None

abbrev pub or_this : Option Extern → Option Extern → Option Extern
or_this (Some e) this = Some e
or_this None this = this

abbrev pub latest_func : List ℕ → List Instance → Option Extern
latest_func name [] = None
latest_func name (i ∷ is) = or_this (latest_func name is) (if_func (exported name i))

-- a search for `c` finds functions alone
abbrev pub in_c : ImportDesc → List ℕ → List Instance → Result Extern Why
in_c (imports.Func sig) name instances = found_or whys.NoExport (latest_func name instances)
in_c _ name instances = Err whys.NoExport

-- any other name is that of a module before
abbrev pub instance_named : Made → List ℕ → Option Instance
instance_named m name = option_and_then (slice_get m.instances) (position (bytes_eq name) m.names)

abbrev pub in_module : List ℕ → Option Instance → Result Extern Why
in_module name None = Err whys.NoModule
in_module name (Some i) = found_or whys.NoExport (exported name i)

abbrev pub found : Made → Import → Result Extern Why
found m i =
    if bytes_eq i.«module» env_name then found_or whys.NoExport (host_named i.name)
    else if bytes_eq i.«module» c_name then in_c i.desc i.name m.instances
    else in_module i.name (instance_named m i.«module»)

-- A function of the host that a module exports again is the host's for who imports it.
abbrev pub host_or : ℕ → Option HostFunc → Extern
host_or a (Some h) = Host h
host_or a None = Func a

abbrev pub of_host : List FuncInst → Extern → Extern
of_host funcs (Func a) = host_or a (host_in (slice_get funcs a))
of_host funcs e = e

-- ---- whether it is of the kind and the type that are wanted (3.5)

abbrev pub if_same : Bool → Extern → Result Extern Why
if_same true e = Ok e
if_same false e = Err whys.Signature

abbrev pub max_within : Option ℕ → Option ℕ → Bool
max_within max None = true
max_within None (Some most) = false
max_within (Some max) (Some most) = nat_le max most

-- limits are subsumed by what is given: it is as large, and grows no further (3.5.1)
abbrev pub subsumes : (size : ℕ) → (max : Option ℕ) → (wanted : Limits) → Bool
subsumes size max wanted = nat_le wanted.min size && max_within max wanted.max

abbrev pub same_bool : Bool → Bool → Bool
same_bool true b = b
same_bool false true = false
same_bool false false = true

abbrev pub same_global : GlobalType → GlobalType → Bool
same_global a b = same_type a.ty b.ty && same_bool a.mutable b.mutable

abbrev pub type_is : FuncType → Option FuncType → Bool
type_is t None = false
type_is t (Some wanted) = same_sig t wanted

abbrev pub func_is : Option FuncInst → Option FuncType → Bool
func_is None wanted = false
func_is (Some f) wanted = type_is f.ty wanted

-- nothing has run, so that a table and a memory have the least sizes that their own modules give
abbrev pub table_is : Option TableInst → Limits → Bool
table_is None l = false
table_is (Some t) l = subsumes (length t.entries) t.max l

abbrev pub memory_is : Option Linear → Limits → Bool
memory_is None l = false
memory_is (Some m) l = subsumes (pages m) m.max l

abbrev pub global_is : Option GlobalInst → GlobalType → Bool
global_is None t = false
global_is (Some g) t = same_global (global_type_of g) t

abbrev pub matched : Made → List FuncType → ImportDesc → Extern → Result Extern Why
matched m sigs (imports.Func x) (Host h) = if_same (type_is (host_type h) (slice_get sigs x)) (Host h)
matched m sigs (imports.Func x) (Func a) = if_same (func_is (slice_get m.funcs a) (slice_get sigs x)) (Func a)
matched m sigs (imports.Table l) (Table a) = if_same (table_is (slice_get m.tables a) l) (Table a)
matched m sigs (imports.Memory l) (Memory a) = if_same (memory_is (slice_get m.memories a) l) (Memory a)
matched m sigs (imports.Global t) (Global a) = if_same (global_is (slice_get m.globals a) t) (Global a)
matched m sigs _ _ = Err whys.Kind

abbrev pub matched_in : Made → List FuncType → ImportDesc → Result Extern Why → Result Extern Why
matched_in m sigs desc (Ok e) = matched m sigs desc (of_host m.funcs e)
matched_in m sigs desc (Err why) = Err why

abbrev pub resolved : Made → List FuncType → Import → Result Extern Why
resolved m sigs i = matched_in m sigs i.desc (found m i)

-- ---- all imports of the next module, in order

-- of the module of this number
abbrev pub fault_at : (number item : ℕ) → Why → Fault
fault_at number item why = record { «module» = number; item = item; why = why }

abbrev pub with_rest : Extern → Result (List Extern) Fault → Result (List Extern) Fault
with_rest e (Ok es) = Ok (e ∷ es)
with_rest e (Err fault) = Err fault

abbrev pub and_rest : (number item : ℕ) → Result Extern Why → Result (List Extern) Fault → Result (List Extern) Fault
and_rest number item (Ok e) rest = with_rest e rest
and_rest number item (Err why) rest = Err (fault_at number item why)

-- what they are given, or the first that is given nothing; they are numbered from this one on
abbrev pub externs : Made → List FuncType → (item : ℕ) → List Import → Result (List Extern) Fault
externs m sigs item [] = Ok []
externs m sigs item (i ∷ is) = and_rest (length m.instances) item (resolved m sigs i) (externs m sigs (suc item) is)
