-- How instructions are written (WebAssembly 1.0, 6.5): the keyword of the table of instructions (`Instructions` of `ms_module`,
-- by `Keywords` of `ms_flat`), and each operand behind a space.
use Rattle.std.specs.Prelude.{ℕ, ℤ, ◌==◌, ◌^◌, List, [], ◌∷◌, ◌++◌, Option, Some, None, codes, decimal, if◌then◌else◌}
use Rattle.std.specs.Fmt.{signed_decimal}
use Rattle.ms_handle.specs.declared.handle.Kind.{Kind}
use Rattle.ms_handle.specs.declared.handle.Kind.TheVariants.{Heap, Frame}
use Rattle.ms_types.specs.declared.types.ValType.{ValType}
use Rattle.ms_module.specs.Accesses.{load_bytes, store_bytes}
use Rattle.ms_module.specs.Instructions.{else_word, end_word}
use Rattle.ms_module.specs.Numbered.{IsPlain}
use Rattle.ms_module.specs.declared.access.MemArg.{MemArg}
use Rattle.ms_module.specs.declared.access.Linear.{Linear}
use Rattle.ms_module.specs.declared.access.Linear.TheVariants as linear
use Rattle.ms_module.specs.declared.access.Segment.{Segment}
use Rattle.ms_module.specs.declared.access.Segment.TheVariants as segment
use Rattle.ms_module.specs.declared.instr.Instr.{Instr}
use Rattle.ms_module.specs.declared.instr.Instr.TheVariants as instr
use Rattle.ms_text_grammar.specs.declared.word.Word.TheVariants as word
use Rattle.ms_text_grammar.specs.Keywords.{align_is, offset_is, spelling}
use Rattle.ms_flat.specs.Flat.{Item, Plain, Begin, Else, End, flat}
use Rattle.ms_flat.specs.Keywords.{instr_word, opening_word}
use Rattle.ms_text_write.specs.Parts.{behind, indexed, spaced}
use Rattle.ms_text_write.specs.Types.{group_text}

-- ---- operands

abbrev pub constant_text : ℤ → List ℕ
constant_text n = codes " " ++ signed_decimal n

abbrev pub number_text : ℕ → List ℕ
number_text n = codes " " ++ decimal n

-- left out at 0
abbrev pub offset_text : ℕ → List ℕ
offset_text n = if n == 0 then [] else codes " " ++ (offset_is ++ decimal n)

-- in bytes; left out where it is what the access reads or writes
abbrev pub align_text : ℕ → ℕ → List ℕ
align_text natural align = if 2 ^ align == natural then [] else codes " " ++ (align_is ++ decimal (2 ^ align))

unfoldable pub mem_arg_text : ℕ → MemArg → List ℕ
mem_arg_text natural arg = offset_text arg.offset ++ align_text natural arg.align

abbrev pub linear_operands : Linear → List ℕ
linear_operands (linear.Load op arg) = mem_arg_text (load_bytes op) arg
linear_operands (linear.Store op arg) = mem_arg_text (store_bytes op) arg
linear_operands _ = []

abbrev pub kind_word : Kind → List ℕ
kind_word Heap = spelling word.Heap
kind_word Frame = spelling word.Frame

abbrev pub segment_operands : Segment → List ℕ
segment_operands (segment.New kind) = codes " " ++ kind_word kind
segment_operands (segment.Free kind) = codes " " ++ kind_word kind
segment_operands (segment.Add scale) = number_text scale
segment_operands _ = []

abbrev pub operands : Instr → List ℕ
operands (instr.Br l) = number_text l
operands (instr.BrIf l) = number_text l
operands (instr.BrTable targets) = spaced decimal targets.labels ++ number_text targets.default
operands (instr.Call x) = number_text x
operands (instr.CallIndirect x) = codes " " ++ indexed word.Type x
operands (instr.LocalGet x) = number_text x
operands (instr.LocalSet x) = number_text x
operands (instr.LocalTee x) = number_text x
operands (instr.GlobalGet x) = number_text x
operands (instr.GlobalSet x) = number_text x
operands (instr.I32Const n) = constant_text n
operands (instr.I64Const n) = constant_text n
operands (instr.Linear i) = linear_operands i
operands (instr.Segment i) = segment_operands i
operands _ = []

-- ---- bodies

-- `(result ..)` where there is one
abbrev pub block_type_text : Option ValType → List ℕ
block_type_text None = []
block_type_text (Some ty) = group_text word.Result (ty ∷ [])

unfoldable pub item_text : Item → List ℕ
item_text (Plain i) = instr_word i ++ operands i
item_text (Begin opening ty) = opening_word opening ++ block_type_text ty
item_text Else = else_word
item_text End = end_word

-- the items of a body from left to right, each behind a lead
unfoldable pub body_text : List ℕ → List (List Instr) → List ℕ
body_text lead ss = behind lead item_text (flat ss)

-- Its operands are in their ranges.
abbrev pub ItemIsPlain : Item → Type 0
ItemIsPlain (Plain i) = IsPlain i
ItemIsPlain _ = Unit {0}

abbrev pub AllPlain : List Item → Type 0
AllPlain [] = Unit {0}
AllPlain (x ∷ xs) = ItemIsPlain x × AllPlain xs
