-- The tokens of a text as it is written, without their places: of each its kind and its text. Between two tokens the writer puts
-- white space or nothing (`Shown` has it).
use Rattle.std.specs.Prelude.{◌≡◌, ◌==◌, ◌^◌, ℕ, ℤ, Bool, true, false, List, [], ◌∷◌, ◌++◌, map, Option, Some, None, codes, decimal, if◌then◌else◌}
use Rattle.std.specs.List.{flat_map}
use Rattle.std.specs.Fmt.{signed_decimal}
use Rattle.ms_types.specs.declared.types.ValType.{ValType}
use Rattle.ms_types.specs.declared.types.FuncType.{FuncType}
use Rattle.ms_types.specs.declared.types.GlobalType.{GlobalType}
use Rattle.ms_types.specs.declared.types.Limits.{Limits}
use Rattle.ms_module.specs.Accesses.{load_bytes, store_bytes}
use Rattle.ms_module.specs.Instructions.{else_word, end_word}
use Rattle.ms_module.specs.declared.access.MemArg.{MemArg}
use Rattle.ms_module.specs.declared.access.Linear.{Linear}
use Rattle.ms_module.specs.declared.access.Linear.TheVariants as linear
use Rattle.ms_module.specs.declared.access.Segment.{Segment}
use Rattle.ms_module.specs.declared.access.Segment.TheVariants as segment
use Rattle.ms_module.specs.declared.instr.Instr.{Instr}
use Rattle.ms_module.specs.declared.instr.Instr.TheVariants as instr
use Rattle.ms_module.specs.declared.module.ImportDesc.{ImportDesc}
use Rattle.ms_module.specs.declared.module.ImportDesc.TheVariants as imported
use Rattle.ms_module.specs.declared.module.Import.{Import}
use Rattle.ms_module.specs.declared.module.Func.{Func}
use Rattle.ms_module.specs.declared.module.Global.{Global}
use Rattle.ms_module.specs.declared.module.ExportDesc.{ExportDesc}
use Rattle.ms_module.specs.declared.module.ExportDesc.TheVariants as exported
use Rattle.ms_module.specs.declared.module.Export.{Export}
use Rattle.ms_module.specs.declared.module.Element.{Element}
use Rattle.ms_module.specs.declared.module.Fill.{Fill}
use Rattle.ms_module.specs.declared.module.Module.{Module}
use Rattle.ms_text_lex.specs.declared.token.Kind.{Kind}
use Rattle.ms_text_lex.specs.declared.token.Kind.TheVariants.{Close, Keyword, Number, Open, Text}
use Rattle.ms_text_lex.specs.declared.token.Token.{Token}
use Rattle.ms_text_lex.specs.Tokens.{text_of}
use Rattle.ms_text_grammar.specs.declared.word.Word.{Word}
use Rattle.ms_text_grammar.specs.declared.word.Word.TheVariants as word
use Rattle.ms_text_grammar.specs.Keywords.{align_is, offset_is, spelling}
use Rattle.ms_flat.specs.Flat.{Item, Plain, Begin, Else, End, flat}
use Rattle.ms_flat.specs.Keywords.{instr_word, opening_word, value_word}
use Rattle.ms_text_write.specs.Instrs.{kind_word}
use Rattle.ms_text_write.specs.Parts.{string_text}

pub record Piece : Type 0 where
  pub kind : Kind
  pub text : List ℕ

-- The tokens of a source are these, in their order.
pub data Shows (source : List ℕ) : List Token → List Piece → Type 0 where
  none : Shows source [] []
  more : (t : Token) (ts : List Token) (p : Piece) (ps : List Piece) → t.kind ≡ p.kind → text_of source t ≡ p.text → Shows source ts ps → Shows source (t ∷ ts) (p ∷ ps)

-- ---- single tokens

abbrev pub left : Piece
left = record { kind = Open; text = codes "(" }

abbrev pub right : Piece
right = record { kind = Close; text = codes ")" }

abbrev pub keyword : List ℕ → Piece
keyword text = record { kind = Keyword; text = text }

abbrev pub the : Word → Piece
the w = keyword (spelling w)

abbrev pub number : ℕ → Piece
number n = record { kind = Number; text = decimal n }

abbrev pub constant : ℤ → Piece
constant z = record { kind = Number; text = signed_decimal z }

abbrev pub string : List ℕ → Piece
string bs = record { kind = Text; text = string_text bs }

-- ---- types

-- a word and an index in parentheses
abbrev pub indexed_pieces : Word → ℕ → List Piece
indexed_pieces w x = left ∷ the w ∷ number x ∷ right ∷ []

abbrev pub value_pieces : List ValType → List Piece
value_pieces tys = map (λ ty. keyword (value_word ty)) tys

abbrev pub group_pieces : Word → List ValType → List Piece
group_pieces w [] = []
group_pieces w (ty ∷ tys) = left ∷ the w ∷ (value_pieces (ty ∷ tys) ++ right ∷ [])

unfoldable pub func_type_pieces : FuncType → List Piece
func_type_pieces ft = left ∷ the word.Type ∷ left ∷ the word.Func ∷ (group_pieces word.Param ft.params ++ (group_pieces word.Result ft.results ++ right ∷ right ∷ []))

abbrev pub max_pieces : Option ℕ → List Piece
max_pieces None = []
max_pieces (Some max) = number max ∷ []

abbrev pub limits_pieces : Limits → List Piece
limits_pieces l = number l.min ∷ max_pieces l.max

unfoldable pub table_pieces : Limits → List Piece
table_pieces l = left ∷ the word.Table ∷ (limits_pieces l ++ the word.Funcref ∷ right ∷ [])

unfoldable pub memory_pieces : Limits → List Piece
memory_pieces l = left ∷ the word.Memory ∷ (limits_pieces l ++ right ∷ [])

abbrev pub mutable_pieces : Bool → Piece → List Piece
mutable_pieces false ty = ty ∷ []
mutable_pieces true ty = left ∷ the word.Mut ∷ ty ∷ right ∷ []

abbrev pub global_type_pieces : GlobalType → List Piece
global_type_pieces g = mutable_pieces g.mutable (keyword (value_word g.ty))

-- ---- instructions

abbrev pub offset_pieces : ℕ → List Piece
offset_pieces n = if n == 0 then [] else keyword (offset_is ++ decimal n) ∷ []

abbrev pub align_pieces : ℕ → ℕ → List Piece
align_pieces natural align = if 2 ^ align == natural then [] else keyword (align_is ++ decimal (2 ^ align)) ∷ []

unfoldable pub mem_arg_pieces : ℕ → MemArg → List Piece
mem_arg_pieces natural arg = offset_pieces arg.offset ++ align_pieces natural arg.align

abbrev pub linear_pieces : Linear → List Piece
linear_pieces (linear.Load op arg) = mem_arg_pieces (load_bytes op) arg
linear_pieces (linear.Store op arg) = mem_arg_pieces (store_bytes op) arg
linear_pieces _ = []

abbrev pub segment_pieces : Segment → List Piece
segment_pieces (segment.New kind) = keyword (kind_word kind) ∷ []
segment_pieces (segment.Free kind) = keyword (kind_word kind) ∷ []
segment_pieces (segment.Add scale) = number scale ∷ []
segment_pieces _ = []

abbrev pub operand_pieces : Instr → List Piece
operand_pieces (instr.Br l) = number l ∷ []
operand_pieces (instr.BrIf l) = number l ∷ []
operand_pieces (instr.BrTable targets) = map number targets.labels ++ number targets.default ∷ []
operand_pieces (instr.Call x) = number x ∷ []
operand_pieces (instr.CallIndirect x) = indexed_pieces word.Type x
operand_pieces (instr.LocalGet x) = number x ∷ []
operand_pieces (instr.LocalSet x) = number x ∷ []
operand_pieces (instr.LocalTee x) = number x ∷ []
operand_pieces (instr.GlobalGet x) = number x ∷ []
operand_pieces (instr.GlobalSet x) = number x ∷ []
operand_pieces (instr.I32Const n) = constant n ∷ []
operand_pieces (instr.I64Const n) = constant n ∷ []
operand_pieces (instr.Linear i) = linear_pieces i
operand_pieces (instr.Segment i) = segment_pieces i
operand_pieces _ = []

abbrev pub block_type_pieces : Option ValType → List Piece
block_type_pieces None = []
block_type_pieces (Some ty) = group_pieces word.Result (ty ∷ [])

unfoldable pub item_pieces : Item → List Piece
item_pieces (Plain i) = keyword (instr_word i) ∷ operand_pieces i
item_pieces (Begin opening ty) = keyword (opening_word opening) ∷ block_type_pieces ty
item_pieces Else = keyword else_word ∷ []
item_pieces End = keyword end_word ∷ []

unfoldable pub body_pieces : List (List Instr) → List Piece
body_pieces ss = flat_map item_pieces (flat ss)

-- ---- fields

unfoldable pub import_desc_pieces : ImportDesc → List Piece
import_desc_pieces (imported.Func x) = left ∷ the word.Func ∷ (indexed_pieces word.Type x ++ right ∷ [])
import_desc_pieces (imported.Table l) = table_pieces l
import_desc_pieces (imported.Memory l) = memory_pieces l
import_desc_pieces (imported.Global g) = left ∷ the word.Global ∷ (global_type_pieces g ++ right ∷ [])

unfoldable pub import_pieces : Import → List Piece
import_pieces i = left ∷ the word.Import ∷ string i.«module» ∷ string i.name ∷ (import_desc_pieces i.desc ++ right ∷ [])

abbrev pub export_desc_pieces : ExportDesc → List Piece
export_desc_pieces (exported.Func x) = indexed_pieces word.Func x
export_desc_pieces (exported.Table x) = indexed_pieces word.Table x
export_desc_pieces (exported.Memory x) = indexed_pieces word.Memory x
export_desc_pieces (exported.Global x) = indexed_pieces word.Global x

unfoldable pub export_pieces : Export → List Piece
export_pieces e = left ∷ the word.Export ∷ string e.name ∷ (export_desc_pieces e.desc ++ right ∷ [])

unfoldable pub func_pieces : Func → List Piece
func_pieces f = left ∷ the word.Func ∷ (indexed_pieces word.Type f.sig ++ (group_pieces word.Local f.locals ++ (body_pieces f.body ++ right ∷ [])))

unfoldable pub global_pieces : Global → List Piece
global_pieces g = left ∷ the word.Global ∷ (global_type_pieces g.ty ++ (body_pieces g.init ++ right ∷ []))

unfoldable pub place_pieces : ℕ → List (List Instr) → List Piece
place_pieces x ss = number x ∷ left ∷ the word.Offset ∷ (body_pieces ss ++ right ∷ [])

unfoldable pub element_pieces : Element → List Piece
element_pieces e = left ∷ the word.Elem ∷ (place_pieces e.table e.offset ++ (map number e.funcs ++ right ∷ []))

unfoldable pub fill_pieces : Fill → List Piece
fill_pieces f = left ∷ the word.Data ∷ (place_pieces f.memory f.offset ++ string f.bytes ∷ right ∷ [])

abbrev pub start_pieces : Option ℕ → List Piece
start_pieces None = []
start_pieces (Some x) = indexed_pieces word.Start x

-- ---- modules

unfoldable pub parts_pieces : Module → List Piece
parts_pieces m =
    flat_map func_type_pieces m.sigs
    ++ (flat_map import_pieces m.imports
    ++ (flat_map func_pieces m.funcs
    ++ (flat_map table_pieces m.tables
    ++ (flat_map memory_pieces m.memories ++ flat_map global_pieces m.globals))))

unfoldable pub uses_pieces : Module → List Piece
uses_pieces m = flat_map export_pieces m.exports ++ (start_pieces m.start ++ (flat_map element_pieces m.elements ++ flat_map fill_pieces m.fills))

abbrev pub module_pieces : Module → List Piece
module_pieces m = left ∷ the word.Module ∷ (parts_pieces m ++ (uses_pieces m ++ right ∷ []))
