-- Which functions the tasks of a crew run (exports that are invoked, WebAssembly 1.0, 4.5.5), and the crew of a store.
use Rattle.std.specs.Prelude.{◌≡◌, ◌&&◌, ℕ, suc, Bool, true, false, List, [], ◌∷◌, map, Option, Some, None, Result, Ok, Err, find, option_and_then, slice_get, if◌then◌else◌}
use Rattle.std.specs.Str.{bytes_eq}
use Rattle.ms_module.specs.declared.module.Export.{Export}
use Rattle.ms_module.specs.declared.module.ExportDesc.{ExportDesc}
use Rattle.ms_module.specs.declared.module.ExportDesc.TheVariants as exports
use Rattle.ms_types.specs.declared.types.FuncType.{FuncType}
use Rattle.ms_types.specs.declared.types.ValType.{ValType}
use Rattle.ms_types.specs.declared.types.ValType.TheVariants.{I32, I64}
use Rattle.ms_task.specs.Thread.{Thread}
use Rattle.ms_task.specs.declared.func.FuncInst.{FuncInst}
use Rattle.ms_machine.specs.Crews.{Crew}
use Rattle.ms_machine.specs.Linked.{start_chain}
use Rattle.ms_machine.specs.Running.{func_thread}
use Rattle.ms_machine.specs.Store.{Store}
use Rattle.ms_machine.specs.declared.store.Instance.{Instance}

-- ---- the function of a task: exported by a module, without parameters, with no result or one number

abbrev pub is_task_result : List ValType → Bool
is_task_result [] = true
is_task_result (I32 ∷ []) = true
is_task_result (I64 ∷ []) = true
is_task_result _ = false

abbrev pub takes_nothing : List ValType → Bool
takes_nothing [] = true
takes_nothing _ = false

abbrev pub is_task_type : FuncType → Bool
is_task_type t = takes_nothing t.params && is_task_result t.results

-- the address, where a function of a task's type stands there
abbrev pub of_task_type : List FuncInst → ℕ → Option ℕ
of_task_type funcs address = option_and_then (λ (f : FuncInst). if is_task_type f.ty then Some address else None) (slice_get funcs address)

abbrev pub exported_func : Instance → ExportDesc → Option ℕ
exported_func i (exports.Func x) = slice_get i.funcs x
exported_func i _ = None

abbrev pub exported_task : List FuncInst → Instance → Export → Option ℕ
exported_task funcs i e = option_and_then (of_task_type funcs) (exported_func i e.desc)

abbrev pub task_of_instance : List FuncInst → (name : List ℕ) → Instance → Option ℕ
task_of_instance funcs name i = option_and_then (exported_task funcs i) (find (λ e. bytes_eq name e.name) i.exports)

-- the function that the module of this number exports by this name
abbrev pub task_address : Store → (number : ℕ) → (name : List ℕ) → Option ℕ
task_address s number name = option_and_then (task_of_instance s.funcs name) (slice_get s.instances number)

-- ---- the crew of a store

abbrev pub and_thread : Option Thread → (number : ℕ) → Result (List Thread) ℕ → Result (List Thread) ℕ
and_thread None number rest = Err number
and_thread (Some t) number (Ok ts) = Ok (t ∷ ts)
and_thread (Some t) number (Err other) = Err other

abbrev pub thread_at : Store → Option ℕ → Option Thread
thread_at s None = None
thread_at s (Some address) = Some (func_thread s address)

-- the threads of these tasks, or the number of the first one without a function; the first one has this number
abbrev pub threads_from : Store → List (ℕ × List ℕ) → (number : ℕ) → Result (List Thread) ℕ
threads_from s [] number = Ok []
threads_from s (t ∷ ts) number = and_thread (thread_at s (task_address s t.0 t.1)) number (threads_from s ts (suc number))

-- the start functions in the order of the modules
abbrev pub crew_of : Store → List Thread → Crew
crew_of s tasks = record { store = s; chain = map (func_thread s) (start_chain s.instances); tasks = tasks }

-- the crew of a store and of these tasks: for each the number of its module, and the name of an export
abbrev pub IsCrewOf : Store → (tasks : List (ℕ × List ℕ)) → Crew → Type 0
IsCrewOf s tasks c = (ts : List Thread) × (threads_from s tasks 0 ≡ Ok ts) × (c ≡ crew_of s ts)

-- the addresses of the functions that these tasks name
abbrev pub AreAddresses : Store → (tasks : List (ℕ × List ℕ)) → (addresses : List ℕ) → Type 0
AreAddresses s tasks addresses = map Some addresses ≡ map (λ t. task_address s t.0 t.1) tasks
