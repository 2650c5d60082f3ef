-- What holds of the modules that were linked so far, where they are well typed.
use Rattle.std.specs.Prelude.{◌≡◌, ◌≤◌, ◌<◌, ℕ, ◌+◌, List, All, length, map, slice_get, Option, Some, None}
use Rattle.std.specs.List.{AllZip}
use Rattle.ms_linear.specs.declared.global.GlobalInst.{GlobalInst}
use Rattle.ms_linear.specs.declared.table.Entry.{Entry}
use Rattle.ms_linear.specs.declared.value.Value.{Value}
use Rattle.ms_linear.specs.Memory.{Memory as Linear}
use Rattle.ms_linear.specs.Table.{Table as TableInst}
use Rattle.ms_linear.specs.Values.{global_type_of}
use Rattle.ms_module.specs.declared.module.Element.{Element}
use Rattle.ms_module.specs.declared.module.Fill.{Fill}
use Rattle.ms_task.specs.declared.func.FuncInst.{FuncInst}
use Rattle.ms_machine.specs.declared.store.Instance.{Instance}
use Rattle.ms_machine.specs.Externs.{Made}
use Rattle.ms_machine.specs.Linked.{StartTyped, values_at}
use Rattle.ms_machine.specs.Constants.{constant_of, index_of}
use Rattle.ms_machine.specs.Store.{at}
use Rattle.ms_machine.specs.Typing.{FuncTyped, InstanceTyped, Outline}

-- what typing sees of it
abbrev pub outline : Made → Outline
outline m = record { funcs = m.funcs; instances = m.instances; tables = m.tables; memories = length m.memories; globals = map global_type_of m.globals }

abbrev pub entry_count : TableInst → ℕ
entry_count t = length t.entries

abbrev pub byte_count : Linear → ℕ
byte_count m = length m.bytes

-- the elements lie in their table, which is that of the instance, and name its functions
pub record ElementFits (sizes : List ℕ) (values : List Value) (i : Instance) (e : Element) : Type 0 where
  pub size : ℕ
  pub size_is : at sizes i.table ≡ Some size
  pub room : index_of (constant_of values e.offset) + length e.funcs ≤ size
  pub there : All (λ f. f < length i.funcs) e.funcs

-- the data lies in its memory, which is that of the instance
pub record FillFits (sizes : List ℕ) (values : List Value) (i : Instance) (f : Fill) : Type 0 where
  pub size : ℕ
  pub size_is : at sizes i.memory ≡ Some size
  pub room : index_of (constant_of values f.offset) + length f.bytes ≤ size

-- the same, in the form in which they are written
pub record ElementsThere (sizes : List ℕ) (count : ℕ) (globals : List GlobalInst) (i : Instance) (es : List Element) : Type 0 where
  pub fit : All (ElementFits sizes (values_at globals i.globals) i) es
  pub funcs : All (λ a. a < count) i.funcs

abbrev pub FillsThere : List ℕ → List GlobalInst → Instance → List Fill → Type 0
FillsThere sizes globals i fs = All (FillFits sizes (values_at globals i.globals) i) fs

abbrev pub ElementsFit : Made → Instance → List Element → Type 0
ElementsFit m i es = All (ElementFits (map entry_count m.tables) (values_at m.globals i.globals) i) es

abbrev pub FillsFit : Made → Instance → List Fill → Type 0
FillsFit m i fs = All (FillFits (map byte_count m.memories) (values_at m.globals i.globals) i) fs

abbrev pub IsNoEntry : Option Entry → Type 0
IsNoEntry None = Unit {0}
IsNoEntry (Some e) = ⊥

abbrev pub IsEmpty : TableInst → Type 0
IsEmpty t = All IsNoEntry t.entries

pub record MadeTyped (m : Made) : Type 0 where
  pub names : length m.names ≡ length m.instances
  pub funcs : (a : ℕ) (f : FuncInst) → slice_get m.funcs a ≡ Some f → FuncTyped (outline m) a f
  pub instances : (n : ℕ) (i : Instance) → slice_get m.instances n ≡ Some i → InstanceTyped (outline m) i
  pub starts : (n : ℕ) (i : Instance) → slice_get m.instances n ≡ Some i → StartTyped m.funcs i i.start
  pub tables : All IsEmpty m.tables
  pub elements : AllZip (ElementsFit m) m.instances m.elements
  pub fills : AllZip (FillsFit m) m.instances m.fills
