-- How instructions are written (WebAssembly 1.0, 5.4): an opcode of the table of instructions (`Instructions` of `ms_module`), by
-- the keyword of its row, and the operands. A body is its items from left to right, and an `end` (5.4.6).
use Rattle.std.specs.Prelude.{ℕ, List, [], ◌∷◌, ◌++◌, codes}
use Rattle.std.specs.List.{flat_map}
use Rattle.ms_handle.specs.declared.handle.Kind.{Kind}
use Rattle.ms_handle.specs.declared.handle.Kind.TheVariants.{Heap, Frame}
use Rattle.ms_module.specs.declared.access.MemArg.{MemArg}
use Rattle.ms_module.specs.declared.access.Linear.{Linear}
use Rattle.ms_module.specs.declared.access.Linear.TheVariants as linear
use Rattle.ms_module.specs.declared.access.Segment.{Segment}
use Rattle.ms_module.specs.declared.access.Segment.TheVariants as segment
use Rattle.ms_module.specs.declared.numeric.Numeric.{Numeric}
use Rattle.ms_module.specs.declared.instr.Instr.{Instr}
use Rattle.ms_module.specs.declared.instr.Instr.TheVariants as instr
use Rattle.ms_module.specs.Instructions.{else_code, end_code, load_rows, numeric_rows, opening_rows, operand_rows, prefix, segment_load_rows, segment_rows, segment_store_rows, store_rows}
use Rattle.ms_leb.specs.Shortest.{shortest_signed}
use Rattle.ms_flat.specs.Flat.{Item, Plain, Begin, Else, End, flat}
use Rattle.ms_flat.specs.Keywords.{code_of, instr_word, linear_word, load_word, numeric_word, opening_word, segment_word, store_word}
use Rattle.ms_bin_write.specs.Parts.{number_bytes, vec_bytes}
use Rattle.ms_bin_write.specs.Types.{block_type_code}

-- ---- opcodes

unfoldable pub linear_code : Linear → ℕ
linear_code (linear.Load op arg) = code_of load_rows (load_word (codes "load") op)
linear_code (linear.Store op arg) = code_of store_rows (store_word (codes "store") op)
linear_code i = code_of operand_rows (linear_word i)

-- behind the prefix
unfoldable pub segment_code : Segment → ℕ
segment_code (segment.Load op) = code_of segment_load_rows (load_word (codes "segload") op)
segment_code (segment.Store op) = code_of segment_store_rows (store_word (codes "segstore") op)
segment_code i = code_of segment_rows (segment_word i)

unfoldable pub numeric_code : Numeric → ℕ
numeric_code i = code_of numeric_rows (numeric_word i)

unfoldable pub opcode : Instr → ℕ
opcode (instr.Numeric i) = numeric_code i
opcode (instr.Linear i) = linear_code i
opcode (instr.Segment i) = prefix
opcode i = code_of operand_rows (instr_word i)

-- ---- operands

abbrev pub mem_arg_bytes : MemArg → List ℕ
mem_arg_bytes arg = number_bytes arg.align ++ number_bytes arg.offset

-- the size of the memory has the byte 00
abbrev pub linear_operands : Linear → List ℕ
linear_operands (linear.Load op arg) = mem_arg_bytes arg
linear_operands (linear.Store op arg) = mem_arg_bytes arg
linear_operands _ = 0x00 ∷ []

-- 0 for `heap`, 1 for `frame`
abbrev pub kind_code : Kind → ℕ
kind_code Heap = 0x00
kind_code Frame = 0x01

abbrev pub segment_operands : Segment → List ℕ
segment_operands (segment.New kind) = kind_code kind ∷ []
segment_operands (segment.Free kind) = kind_code kind ∷ []
segment_operands (segment.Add scale) = number_bytes scale
segment_operands _ = []

abbrev pub operands : Instr → List ℕ
operands (instr.Br l) = number_bytes l
operands (instr.BrIf l) = number_bytes l
operands (instr.BrTable targets) = vec_bytes number_bytes targets.labels ++ number_bytes targets.default
operands (instr.Call x) = number_bytes x
operands (instr.CallIndirect x) = number_bytes x ++ 0x00 ∷ []
operands (instr.LocalGet x) = number_bytes x
operands (instr.LocalSet x) = number_bytes x
operands (instr.LocalTee x) = number_bytes x
operands (instr.GlobalGet x) = number_bytes x
operands (instr.GlobalSet x) = number_bytes x
operands (instr.I32Const n) = shortest_signed n
operands (instr.I64Const n) = shortest_signed n
operands (instr.Linear i) = linear_operands i
operands (instr.Segment i) = segment_code i ∷ segment_operands i
operands _ = []

-- ---- bodies

abbrev pub item_bytes : Item → List ℕ
item_bytes (Plain i) = opcode i ∷ operands i
item_bytes (Begin opening ty) = code_of opening_rows (opening_word opening) ∷ block_type_code ty ∷ []
item_bytes Else = else_code ∷ []
item_bytes End = end_code ∷ []

unfoldable pub body_bytes : List (List Instr) → List ℕ
body_bytes ss = flat_map item_bytes (flat ss) ++ end_code ∷ []
