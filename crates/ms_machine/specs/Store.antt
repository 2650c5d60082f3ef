-- The store (WebAssembly 1.0, 4.2.3), with the segment memory, and what an instance's indices name in it.
use Rattle.std.specs.Prelude.{ℕ, List, slice_get, Option, Some, None}
use Rattle.ms_linear.specs.declared.global.GlobalInst.{GlobalInst}
use Rattle.ms_linear.specs.Memory.{Memory as Linear}
use Rattle.ms_linear.specs.Table.{Table}
use Rattle.ms_segment.specs.Memory.{Memory}
use Rattle.ms_task.specs.declared.func.FuncInst.{FuncInst}
use Rattle.ms_task.specs.Thread.{Frame}
use Rattle.ms_types.specs.declared.types.FuncType.{FuncType}
use Rattle.ms_machine.specs.declared.store.Instance.{Instance}

pub record Store : Type 0 where
  pub funcs : List FuncInst
  pub instances : List Instance
  pub tables : List Table
  pub memories : List Linear
  pub globals : List GlobalInst
  pub segments : Memory

abbrev pub with_memories : Store → List Linear → Store
with_memories s memories = record { funcs = s.funcs; instances = s.instances; tables = s.tables; memories = memories; globals = s.globals; segments = s.segments }

abbrev pub with_globals : Store → List GlobalInst → Store
with_globals s globals = record { funcs = s.funcs; instances = s.instances; tables = s.tables; memories = s.memories; globals = globals; segments = s.segments }

abbrev pub with_segments : Store → Memory → Store
with_segments s segments = record { funcs = s.funcs; instances = s.instances; tables = s.tables; memories = s.memories; globals = s.globals; segments = segments }

-- ---- what stands at an address, if there is one

abbrev pub at : {A : Type 0} → List A → Option ℕ → Option A
at xs None = None
at xs (Some address) = slice_get xs address

-- ---- the instance of a function, and the addresses that it knows

abbrev pub number_of_instance : Option FuncInst → Option ℕ
number_of_instance None = None
number_of_instance (Some f) = Some f.instance

abbrev pub instance_of : Store → Frame → Option Instance
instance_of s fr = at s.instances (number_of_instance (slice_get s.funcs fr.function))

abbrev pub func_address : Option Instance → ℕ → Option ℕ
func_address None x = None
func_address (Some i) x = slice_get i.funcs x

abbrev pub global_address : Option Instance → ℕ → Option ℕ
global_address None x = None
global_address (Some i) x = slice_get i.globals x

abbrev pub memory_address : Option Instance → Option ℕ
memory_address None = None
memory_address (Some i) = i.memory

abbrev pub table_address : Option Instance → Option ℕ
table_address None = None
table_address (Some i) = i.table

abbrev pub type_at : Option Instance → ℕ → Option FuncType
type_at None x = None
type_at (Some i) x = slice_get i.types x
