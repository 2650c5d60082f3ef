-- Tables and linear memories at the beginning, and elements and data that are written into them (WebAssembly 1.0, 4.5.4).
use Rattle.std.specs.Prelude.{ℕ, ◌+◌, ◌*◌, List, ◌++◌, drop, length, replicate, slice_get, slice_set, take, Option, Some, None}
use Rattle.ms_linear.specs.declared.table.Entry.{Entry}
use Rattle.ms_linear.specs.Memory.{Memory as Linear}
use Rattle.ms_linear.specs.Table.{Table}
use Rattle.ms_task.specs.declared.func.FuncInst.{FuncInst}
use Rattle.ms_types.specs.declared.types.Limits.{Limits}
use Rattle.ms_types.specs.Page.{page}

-- these items stand from a place on, and all others are as before
abbrev pub written : {A : Type 0} → ℕ → List A → List A → List A
written at new old = take at old ++ new ++ drop (at + length new) old

-- ---- tables, and their elements

abbrev pub empty_table : Limits → Table
empty_table limits = record { entries = replicate limits.min None; max = limits.max }

-- the entry of the function of an address: the function, and its type
abbrev pub entry_at : List FuncInst → ℕ → Option FuncInst → Option Entry
entry_at funcs f None = None
entry_at funcs f (Some g) = Some (record { func = record { address = f }; sig = g.ty })

abbrev pub entry_for : List FuncInst → ℕ → Option Entry
entry_for funcs f = entry_at funcs f (slice_get funcs f)

abbrev pub with_entries : Table → ℕ → List (Option Entry) → Table
with_entries t at entries = record { entries = written at entries t.entries; max = t.max }

-- in the table of an address
abbrev pub element_in : List Table → ℕ → Option Table → ℕ → List (Option Entry) → List Table
element_in tables a None at entries = tables
element_in tables a (Some t) at entries = slice_set tables a (with_entries t at entries)

-- ---- linear memories, and their data

abbrev pub zeroed : Limits → Linear
zeroed limits = record { bytes = replicate (limits.min * page) 0; max = limits.max }

abbrev pub with_data : Linear → ℕ → List ℕ → Linear
with_data m at bytes = record { bytes = written at bytes m.bytes; max = m.max }

-- in the linear memory of an address
abbrev pub fill_in : List Linear → ℕ → Option Linear → ℕ → List ℕ → List Linear
fill_in memories a None at bytes = memories
fill_in memories a (Some m) at bytes = slice_set memories a (with_data m at bytes)
