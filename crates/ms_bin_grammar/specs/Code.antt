-- How instructions are spelled (WebAssembly 1.0, 5.4), but for blocks: an opcode and what stands behind it. The opcodes stand
-- in the table of instructions (`Instructions` of `ms_module`).
use Rattle.std.specs.Prelude.{ℕ, List, [], ◌∷◌, nat_le}
use Rattle.ms_bytes.specs.Do.{◌>>=◌}
use Rattle.ms_bytes.specs.Parts.{pure}
use Rattle.ms_bytes.specs.Tests.{marks, only}
use Rattle.ms_bytes.specs.Codes.{Case, Coded, Is}
use Rattle.ms_bytes.specs.Choice.{among, no_other, paired, table}
use Rattle.ms_handle.specs.declared.handle.Kind.{Kind}
use Rattle.ms_handle.specs.declared.handle.Kind.TheVariants.{Heap, Frame}
use Rattle.ms_module.specs.declared.access.LoadOp.{LoadOp}
use Rattle.ms_module.specs.declared.access.StoreOp.{StoreOp}
use Rattle.ms_module.specs.declared.access.MemArg.{MemArg}
use Rattle.ms_module.specs.declared.access.Linear.TheVariants as linear
use Rattle.ms_module.specs.declared.access.Segment.TheVariants as segment
use Rattle.ms_module.specs.declared.br_table.Targets.{Targets}
use Rattle.ms_module.specs.declared.instr.Instr.{Instr}
use Rattle.ms_module.specs.declared.instr.Instr.TheVariants as instr
use Rattle.ms_module.specs.Instructions.{Bare, Form, Func, Global, Int32, Int64, KindOf, Label, Labels, Local, Memory, Row, Scale, Type_, by_code, is_float, load_rows, numeric_rows, operand_rows, prefix, segment_load_rows, segment_rows, segment_store_rows, store_rows}
use Rattle.ms_bin_grammar.specs.declared.fault.ReadFault.{ReadFault}
use Rattle.ms_bin_grammar.specs.declared.fault.ReadFault.TheVariants.{Malformed}
use Rattle.ms_bin_grammar.specs.Faults.{Binary, malformed, wrong}
use Rattle.ms_bin_grammar.specs.Numbers.{number, signed, vec}
use Rattle.ms_bin_grammar.specs.Types.{one_of}

-- the labels of a `br_table`, and the default one
unfoldable pub br_table : Binary Targets
br_table = do
  labels ← vec number
  default ← number
  pure (record { labels = labels; default = default })

-- 0 for `heap`, 1 for `frame`
unfoldable pub kind : Binary Kind
kind = one_of ((0x00, Is (pure Heap)) ∷ (0x01, Is (pure Frame)) ∷ [])

-- what stands behind an opcode
abbrev pub form : Form → Binary Instr
form (Bare i) = pure i
form (Label f) = number >>= λ l. pure (f l)
form (Func f) = number >>= λ x. pure (f x)
form (Type_ f) = number >>= λ x. marks malformed (0x00 ∷ []) >>= λ reserved. pure (f x)
form (Local f) = number >>= λ x. pure (f x)
form (Global f) = number >>= λ x. pure (f x)
form (Labels f) = br_table >>= λ targets. pure (f targets)
form (Memory i) = marks malformed (0x00 ∷ []) >>= λ reserved. pure i
form (Int32 f) = signed 32 >>= λ n. pure (f n)
form (Int64 f) = signed 64 >>= λ n. pure (f n)
form (KindOf f) = kind >>= λ k. pure (f k)
form (Scale f) = number >>= λ n. pure (f n)

-- rows of the table, each with what stands behind its code
abbrev pub cases : List (Row Form) → List (ℕ × Case ReadFault Instr)
cases [] = []
cases (r ∷ rs) = (r.code, Is (form r.item)) ∷ cases rs

-- ---- the linear memory (5.4.4): an access has its alignment, a power of two of at most 31, and its offset

unfoldable pub mem_arg : Binary MemArg
mem_arg = do
  align ← only (λ n text. nat_le n 31) malformed number
  offset ← number
  pure (record { align = align; offset = offset })

unfoldable pub load : LoadOp → Binary Instr
load op = mem_arg >>= λ arg. pure (instr.Linear (linear.Load op arg))

unfoldable pub store : StoreOp → Binary Instr
store op = mem_arg >>= λ arg. pure (instr.Linear (linear.Store op arg))

-- ---- handles and segments, by the second byte; the two bytes are one item

unfoldable pub segment_accesses : Coded ReadFault Instr
segment_accesses =
    table (by_code segment_load_rows) (λ op. pure (instr.Segment (segment.Load op)))
    (table (by_code segment_store_rows) (λ op. pure (instr.Segment (segment.Store op)))
    (no_other (λ at code. Malformed at)))

unfoldable pub segments : Coded ReadFault Instr
segments = among (cases segment_rows) segment_accesses

-- ---- all of them

-- an instruction whose opcode has no operand but an access
unfoldable pub operations : Coded ReadFault Instr
operations =
    table (by_code numeric_rows) (λ i. pure (instr.Numeric i))
    (table (by_code load_rows) load
    (table (by_code store_rows) store
    (paired Malformed prefix segments
    (no_other (λ at code. wrong (is_float code) at)))))

-- an instruction that is no block, by its opcode
unfoldable pub plain : Coded ReadFault Instr
plain = among (cases operand_rows) operations
