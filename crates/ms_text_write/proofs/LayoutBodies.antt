-- Lexing instructions and bodies as they are written.
use Rattle.std.proofs.Common.{ℕ, ◌==◌, ◌^◌, Bool, true, false, List, [], ◌∷◌, ◌++◌, Option, Some, None, append_assoc, if◌then◌else◌}
use Rattle.std.specs.Prelude.{codes, decimal}
use Rattle.ms_types.specs.declared.types.ValType.{ValType}
use Rattle.ms_module.specs.Accesses.{load_bytes, store_bytes}
use Rattle.ms_module.specs.Instructions.{else_word, end_word}
use Rattle.ms_module.specs.declared.access.MemArg.{MemArg}
use Rattle.ms_module.specs.declared.access.Linear.{Linear}
use Rattle.ms_module.specs.declared.access.Linear.TheVariants as linear
use Rattle.ms_module.specs.declared.access.Segment.{Segment}
use Rattle.ms_module.specs.declared.access.Segment.TheVariants as segment
use Rattle.ms_module.specs.declared.instr.Instr.{Instr}
use Rattle.ms_module.specs.declared.instr.Instr.TheVariants as instr
use Rattle.ms_text_grammar.specs.declared.word.Word.TheVariants as word
use Rattle.ms_text_grammar.specs.Keywords.{align_is, offset_is}
use Rattle.ms_flat.specs.Flat.{Item, Plain, Begin, Else, End, flat}
use Rattle.ms_flat.specs.Keywords.{instr_word, opening_word}
use Rattle.ms_text_write.specs.Instrs.{align_text, block_type_text, body_text, item_text, kind_word, linear_operands, mem_arg_text, offset_text, operands, segment_operands}
use Rattle.ms_text_write.proofs.Pieces.{Piece, align_pieces, block_type_pieces, body_pieces, item_pieces, keyword, linear_pieces, mem_arg_pieces, offset_pieces, operand_pieces, segment_pieces}
use Rattle.ms_text_write.proofs.LayoutSteps.{At, Past, space}
use Rattle.ms_text_write.proofs.LayoutWords.{align_token, else_token, end_token, instr_token, kind_token, offset_token, opening_token}
use Rattle.ms_text_write.proofs.LayoutParts.{constant_at, each_past, group_past, indexed_at, keyword_at, number_at, numbers_past}

-- a keyword behind a space, where it is not left out
unless : {source rest : List ℕ} {ps : List Piece} (left_out : Bool) (front : List ℕ) (n : ℕ) → At source ((front ++ decimal n) ++ rest) (keyword (front ++ decimal n) ∷ ps) → Past source rest ps
    → Past source ((if left_out then [] else codes " " ++ (front ++ decimal n)) ++ rest) ((if left_out then [] else keyword (front ++ decimal n) ∷ []) ++ ps)
unless true front n at past = past
unless false front n at past = space at

offset_past : {source rest : List ℕ} {ps : List Piece} (n : ℕ) → Past source rest ps → Past source (offset_text n ++ rest) (offset_pieces n ++ ps)
offset_past n past = unless (n == 0) offset_is n (keyword_at (offset_is ++ decimal n) (offset_token n) past) past

align_past : {source rest : List ℕ} {ps : List Piece} (natural align : ℕ) → Past source rest ps → Past source (align_text natural align ++ rest) (align_pieces natural align ++ ps)
align_past natural align past = unless (2 ^ align == natural) align_is (2 ^ align) (keyword_at (align_is ++ decimal (2 ^ align)) (align_token (2 ^ align)) past) past

mem_arg_past : {source rest : List ℕ} {ps : List Piece} (natural : ℕ) (arg : MemArg) → Past source rest ps → Past source (mem_arg_text natural arg ++ rest) (mem_arg_pieces natural arg ++ ps)
unfolding mem_arg_text mem_arg_pieces
mem_arg_past natural arg past = simp append_assoc (offset_past arg.offset (align_past natural arg.align past))

linear_past : {source rest : List ℕ} {ps : List Piece} (i : Linear) → Past source rest ps → Past source (linear_operands i ++ rest) (linear_pieces i ++ ps)
linear_past (linear.Load op arg) past = mem_arg_past (load_bytes op) arg past
linear_past (linear.Store op arg) past = mem_arg_past (store_bytes op) arg past
linear_past i past = past

segment_past : {source rest : List ℕ} {ps : List Piece} (i : Segment) → Past source rest ps → Past source (segment_operands i ++ rest) (segment_pieces i ++ ps)
segment_past (segment.New kind) past = space (keyword_at (kind_word kind) (kind_token kind) past)
segment_past (segment.Free kind) past = space (keyword_at (kind_word kind) (kind_token kind) past)
segment_past (segment.Add scale) past = space (number_at scale past)
segment_past i past = past

operands_past : {source rest : List ℕ} {ps : List Piece} (i : Instr) → Past source rest ps → Past source (operands i ++ rest) (operand_pieces i ++ ps)
operands_past (instr.Br l) past = space (number_at l past)
operands_past (instr.BrIf l) past = space (number_at l past)
operands_past (instr.BrTable targets) past = simp append_assoc (numbers_past targets.labels (space (number_at targets.default past)))
operands_past (instr.Call x) past = space (number_at x past)
operands_past (instr.CallIndirect x) past = space (indexed_at word.Type x past)
operands_past (instr.LocalGet x) past = space (number_at x past)
operands_past (instr.LocalSet x) past = space (number_at x past)
operands_past (instr.LocalTee x) past = space (number_at x past)
operands_past (instr.GlobalGet x) past = space (number_at x past)
operands_past (instr.GlobalSet x) past = space (number_at x past)
operands_past (instr.I32Const n) past = space (constant_at n past)
operands_past (instr.I64Const n) past = space (constant_at n past)
operands_past (instr.Linear i) past = linear_past i past
operands_past (instr.Segment i) past = segment_past i past
operands_past i past = past

block_type_past : {source rest : List ℕ} {ps : List Piece} (ty : Option ValType) → Past source rest ps → Past source (block_type_text ty ++ rest) (block_type_pieces ty ++ ps)
block_type_past None past = past
block_type_past (Some ty) past = group_past word.Result (ty ∷ []) past

item_at : {source rest : List ℕ} {ps : List Piece} (item : Item) → Past source rest ps → At source (item_text item ++ rest) (item_pieces item ++ ps)
unfolding item_text item_pieces
item_at (Plain i) past = simp append_assoc (keyword_at (instr_word i) (instr_token i) (operands_past i past))
item_at (Begin opening ty) past = simp append_assoc (keyword_at (opening_word opening) (opening_token opening) (block_type_past ty past))
item_at Else past = keyword_at else_word else_token past
item_at End past = keyword_at end_word end_token past

-- the items of a body, each behind a lead
pub body_past : {source rest : List ℕ} {ps : List Piece} (front : List ℕ) (ss : List (List Instr))
    → ((s : List ℕ) (qs : List Piece) → At source s qs → Past source (front ++ s) qs)
    → Past source rest ps → Past source (body_text front ss ++ rest) (body_pieces ss ++ ps)
unfolding body_text body_pieces
body_past {source} front ss leads past = each_past source front item_text leads item_pieces (λ x. Unit {0}) (λ x u s qs p. item_at x p) (flat ss) (λ k d h. tt) past
