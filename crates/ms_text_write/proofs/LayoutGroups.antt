-- No parenthesis of a module is too deep, and no type use writes a type: for each part by its pieces.
use Rattle.std.proofs.Common.{◌≡◌, ℕ, suc, ◌+◌, ◌<◌, ◌≤◌, ◌==◌, ◌^◌, ◌||◌, Bool, true, false, List, [], ◌∷◌, ◌++◌, map, Option, Some, None, refl, arith, append_assoc, if◌then◌else◌}
use Rattle.std.specs.Prelude.{decimal}
use Rattle.std.specs.List.{flat_map}
use Rattle.std.specs.Fmt.{signed_decimal}
use Rattle.std.specs.Str.{bytes_eq}
use Rattle.ms_types.specs.declared.types.ValType.{ValType}
use Rattle.ms_types.specs.declared.types.FuncType.{FuncType}
use Rattle.ms_types.specs.declared.types.GlobalType.{GlobalType}
use Rattle.ms_types.specs.declared.types.Limits.{Limits}
use Rattle.ms_module.specs.Accesses.{load_bytes, store_bytes}
use Rattle.ms_module.specs.Instructions.{else_word, end_word}
use Rattle.ms_module.specs.declared.access.MemArg.{MemArg}
use Rattle.ms_module.specs.declared.access.Linear.{Linear}
use Rattle.ms_module.specs.declared.access.Linear.TheVariants as linear
use Rattle.ms_module.specs.declared.access.Segment.{Segment}
use Rattle.ms_module.specs.declared.access.Segment.TheVariants as segment
use Rattle.ms_module.specs.declared.instr.Instr.{Instr}
use Rattle.ms_module.specs.declared.instr.Instr.TheVariants as instr
use Rattle.ms_module.specs.declared.module.ImportDesc.{ImportDesc}
use Rattle.ms_module.specs.declared.module.ImportDesc.TheVariants as imported
use Rattle.ms_module.specs.declared.module.Import.{Import}
use Rattle.ms_module.specs.declared.module.Func.{Func}
use Rattle.ms_module.specs.declared.module.Global.{Global}
use Rattle.ms_module.specs.declared.module.ExportDesc.{ExportDesc}
use Rattle.ms_module.specs.declared.module.ExportDesc.TheVariants as exported
use Rattle.ms_module.specs.declared.module.Export.{Export}
use Rattle.ms_module.specs.declared.module.Element.{Element}
use Rattle.ms_module.specs.declared.module.Fill.{Fill}
use Rattle.ms_module.specs.declared.module.Module.{Module}
use Rattle.ms_text_lex.specs.declared.token.Kind.TheVariants.{Keyword, Number, Text}
use Rattle.ms_text_lex.specs.declared.token.Token.{Token}
use Rattle.ms_text_grammar.specs.declared.word.Word.{Word}
use Rattle.ms_text_grammar.specs.declared.word.Word.TheVariants as word
use Rattle.ms_text_write.specs.refinement.Limits.{most_parens}
use Rattle.ms_text_grammar.specs.Keywords.{align_is, offset_is, spelling}
use Rattle.ms_text_grammar.specs.Scans.{mismatch, too_deep, fields_in}
use Rattle.ms_flat.specs.Flat.{Item, Plain, Begin, Else, End, flat}
use Rattle.ms_flat.specs.Keywords.{instr_word, opening_word, value_word}
use Rattle.ms_text_write.specs.Instrs.{kind_word}
use Rattle.ms_text_write.specs.Parts.{string_text}
use Rattle.ms_text_write.proofs.Pieces.{Piece, Shows, block_type_pieces, body_pieces, element_pieces, export_desc_pieces, export_pieces, fill_pieces, func_pieces, func_type_pieces, global_pieces, global_type_pieces, group_pieces, import_desc_pieces, import_pieces, indexed_pieces, item_pieces, keyword, left, linear_pieces, max_pieces, mem_arg_pieces, memory_pieces, module_pieces, mutable_pieces, number, operand_pieces, parts_pieces, place_pieces, segment_pieces, start_pieces, string, table_pieces, the, uses_pieces, value_pieces}
use Rattle.ms_text_write.proofs.LayoutHeld.{Free, Held, closed, ended, leaf, opened_free, opened_held, type_begun, type_named}

-- ---- single tokens

word_free : {d : ℕ} {qs : List Piece} (text : List ℕ) → Held d qs → Free d (keyword text ∷ qs)
word_free text h = leaf Keyword text refl refl h

number_free : {d : ℕ} {qs : List Piece} (n : ℕ) → Held d qs → Free d (number n ∷ qs)
number_free n h = leaf Number (decimal n) refl refl h

string_free : {d : ℕ} {qs : List Piece} (bs : List ℕ) → Held d qs → Free d (string bs ∷ qs)
string_free bs h = leaf Text (string_text bs) refl refl h

-- ---- several

each_free : {A : Type 0} (d : ℕ) (pieces : A → List Piece) → ((x : A) (qs : List Piece) → Free d qs → Free d (pieces x ++ qs)) → (xs : List A) (qs : List Piece) → Free d qs
    → Free d (flat_map pieces xs ++ qs)
each_free d pieces one [] qs free = free
each_free d pieces one (x ∷ xs) qs free = rw append_assoc (one x (flat_map pieces xs ++ qs) (each_free d pieces one xs qs free))

types_free : {d : ℕ} {qs : List Piece} (tys : List ValType) → Free d qs → Free d (value_pieces tys ++ qs)
types_free [] free = free
types_free (ty ∷ tys) free = word_free (value_word ty) (types_free tys free).held

numbers_free : {d : ℕ} {qs : List Piece} (ns : List ℕ) → Free d qs → Free d (map number ns ++ qs)
numbers_free [] free = free
numbers_free (n ∷ ns) free = number_free n (numbers_free ns free).held

-- ---- parts in parentheses

-- whether a word begins a type, parameters or results
abbrev begins_type : Word → Bool
begins_type w = bytes_eq (spelling w) (spelling word.Type) || (bytes_eq (spelling w) (spelling word.Param) || bytes_eq (spelling w) (spelling word.Result))

none_of : (a b c : Bool) → (a || (b || c)) ≡ false → (a ≡ false) × (b ≡ false) × (c ≡ false)
none_of true b c e = absurd (cc)
none_of false true c e = absurd (cc)
none_of false false c e = (refl, refl, e)

other_free : {d : ℕ} {qs : List Piece} (w : Word) → begins_type w ≡ false → d < most_parens → Held (suc d) qs → Free d (left ∷ the w ∷ qs)
other_free w other room h =
    let o = none_of (bytes_eq (spelling w) (spelling word.Type)) (bytes_eq (spelling w) (spelling word.Param)) (bytes_eq (spelling w) (spelling word.Result)) other in
    opened_free w o.0 o.1 o.2 room h

indexed_free : {d : ℕ} {qs : List Piece} (w : Word) (x : ℕ) → begins_type w ≡ false → d < most_parens → Free d qs → Free d (indexed_pieces w x ++ qs)
indexed_free w x other room free = other_free w other room (number_free x (closed free.held).held).held

group_held : {d : ℕ} {qs : List Piece} (w : Word) (tys : List ValType) → bytes_eq (spelling w) (spelling word.Type) ≡ false → d < most_parens → Held d qs
    → Held d (group_pieces w tys ++ qs)
group_held w [] o room h = h
group_held w (ty ∷ tys) o room h = rw append_assoc (opened_held w o room (types_free (ty ∷ tys) (closed h)).held)

locals_free : {d : ℕ} {qs : List Piece} (tys : List ValType) → d < most_parens → Free d qs → Free d (group_pieces word.Local tys ++ qs)
locals_free [] room free = free
locals_free (ty ∷ tys) room free = rw append_assoc (other_free word.Local refl room (types_free (ty ∷ tys) (closed free.held)).held)

-- ---- types

func_type_free : {d : ℕ} {qs : List Piece} (ft : FuncType) → d + 3 ≤ most_parens → Free d qs → Free d (func_type_pieces ft ++ qs)
unfolding func_type_pieces
func_type_free ft room free =
    simp append_assoc (type_begun word.Func refl (omega arith)
    (group_held word.Param ft.params refl (omega arith) (group_held word.Result ft.results refl (omega arith) (closed (closed free.held).held).held)))

max_free : {d : ℕ} {qs : List Piece} (max : Option ℕ) → Free d qs → Free d (max_pieces max ++ qs)
max_free None free = free
max_free (Some n) free = number_free n free.held

table_free : {d : ℕ} {qs : List Piece} (l : Limits) → d < most_parens → Free d qs → Free d (table_pieces l ++ qs)
unfolding table_pieces
table_free l room free =
    simp append_assoc (other_free word.Table refl room (number_free l.min (max_free l.max (word_free (spelling word.Funcref) (closed free.held).held)).held).held)

memory_free : {d : ℕ} {qs : List Piece} (l : Limits) → d < most_parens → Free d qs → Free d (memory_pieces l ++ qs)
unfolding memory_pieces
memory_free l room free = simp append_assoc (other_free word.Memory refl room (number_free l.min (max_free l.max (closed free.held)).held).held)

mutable_free : {d : ℕ} {qs : List Piece} (mutable : Bool) (ty : ValType) → d < most_parens → Free d qs → Free d (mutable_pieces mutable (keyword (value_word ty)) ++ qs)
mutable_free false ty room free = word_free (value_word ty) free.held
mutable_free true ty room free = other_free word.Mut refl room (word_free (value_word ty) (closed free.held).held).held

global_type_free : {d : ℕ} {qs : List Piece} (g : GlobalType) → d < most_parens → Free d qs → Free d (global_type_pieces g ++ qs)
global_type_free g room free = mutable_free g.mutable g.ty room free

-- ---- instructions

unless_free : {d : ℕ} {qs : List Piece} (left_out : Bool) (text : List ℕ) → Free d qs → Free d ((if left_out then [] else keyword text ∷ []) ++ qs)
unless_free true text free = free
unless_free false text free = word_free text free.held

mem_arg_free : {d : ℕ} {qs : List Piece} (natural : ℕ) (arg : MemArg) → Free d qs → Free d (mem_arg_pieces natural arg ++ qs)
unfolding mem_arg_pieces
mem_arg_free natural arg free =
    simp append_assoc
    (unless_free (arg.offset == 0) (offset_is ++ decimal arg.offset) (unless_free (2 ^ arg.align == natural) (align_is ++ decimal (2 ^ arg.align)) free))

linear_free : {d : ℕ} {qs : List Piece} (i : Linear) → Free d qs → Free d (linear_pieces i ++ qs)
linear_free (linear.Load op arg) free = mem_arg_free (load_bytes op) arg free
linear_free (linear.Store op arg) free = mem_arg_free (store_bytes op) arg free
linear_free i free = free

segment_free : {d : ℕ} {qs : List Piece} (i : Segment) → Free d qs → Free d (segment_pieces i ++ qs)
segment_free (segment.New kind) free = word_free (kind_word kind) free.held
segment_free (segment.Free kind) free = word_free (kind_word kind) free.held
segment_free (segment.Add scale) free = number_free scale free.held
segment_free i free = free

operands_free : {d : ℕ} {qs : List Piece} (i : Instr) → d < most_parens → Free d qs → Free d (operand_pieces i ++ qs)
operands_free (instr.Br l) room free = number_free l free.held
operands_free (instr.BrIf l) room free = number_free l free.held
operands_free (instr.BrTable targets) room free = simp append_assoc (numbers_free targets.labels (number_free targets.default free.held))
operands_free (instr.Call x) room free = number_free x free.held
operands_free (instr.CallIndirect x) room free = type_named x room free
operands_free (instr.LocalGet x) room free = number_free x free.held
operands_free (instr.LocalSet x) room free = number_free x free.held
operands_free (instr.LocalTee x) room free = number_free x free.held
operands_free (instr.GlobalGet x) room free = number_free x free.held
operands_free (instr.GlobalSet x) room free = number_free x free.held
operands_free (instr.I32Const n) room free = leaf Number (signed_decimal n) refl refl free.held
operands_free (instr.I64Const n) room free = leaf Number (signed_decimal n) refl refl free.held
operands_free (instr.Linear i) room free = linear_free i free
operands_free (instr.Segment i) room free = segment_free i free
operands_free i room free = free

block_type_held : {d : ℕ} {qs : List Piece} (ty : Option ValType) → d < most_parens → Held d qs → Held d (block_type_pieces ty ++ qs)
block_type_held None room h = h
block_type_held (Some ty) room h = group_held word.Result (ty ∷ []) refl room h

item_free : {d : ℕ} {qs : List Piece} (item : Item) → d < most_parens → Free d qs → Free d (item_pieces item ++ qs)
unfolding item_pieces
item_free (Plain i) room free = word_free (instr_word i) (operands_free i room free).held
item_free (Begin opening ty) room free = word_free (opening_word opening) (block_type_held ty room free.held)
item_free Else room free = word_free else_word free.held
item_free End room free = word_free end_word free.held

body_free : {d : ℕ} {qs : List Piece} (ss : List (List Instr)) → d < most_parens → Free d qs → Free d (body_pieces ss ++ qs)
unfolding body_pieces
body_free {d} {qs} ss room free = each_free d item_pieces (λ x ps f. item_free x room f) (flat ss) qs free

-- ---- fields

import_desc_free : {d : ℕ} {qs : List Piece} (i : ImportDesc) → d + 2 ≤ most_parens → Free d qs → Free d (import_desc_pieces i ++ qs)
unfolding import_desc_pieces
import_desc_free (imported.Func x) room free = other_free word.Func refl (omega arith) (type_named x (omega arith) (closed free.held)).held
import_desc_free (imported.Table l) room free = table_free l (omega arith) free
import_desc_free (imported.Memory l) room free = memory_free l (omega arith) free
import_desc_free (imported.Global g) room free = simp append_assoc (other_free word.Global refl (omega arith) (global_type_free g (omega arith) (closed free.held)).held)

import_free : {d : ℕ} {qs : List Piece} (i : Import) → d + 3 ≤ most_parens → Free d qs → Free d (import_pieces i ++ qs)
unfolding import_pieces
import_free i room free =
    simp append_assoc (other_free word.Import refl (omega arith)
    (string_free i.«module» (string_free i.name (import_desc_free i.desc (omega arith) (closed free.held)).held).held).held)

export_desc_free : {d : ℕ} {qs : List Piece} (e : ExportDesc) → d < most_parens → Free d qs → Free d (export_desc_pieces e ++ qs)
export_desc_free (exported.Func x) room free = indexed_free word.Func x refl room free
export_desc_free (exported.Table x) room free = indexed_free word.Table x refl room free
export_desc_free (exported.Memory x) room free = indexed_free word.Memory x refl room free
export_desc_free (exported.Global x) room free = indexed_free word.Global x refl room free

export_free : {d : ℕ} {qs : List Piece} (e : Export) → d + 2 ≤ most_parens → Free d qs → Free d (export_pieces e ++ qs)
unfolding export_pieces
export_free e room free = simp append_assoc (other_free word.Export refl (omega arith) (string_free e.name (export_desc_free e.desc (omega arith) (closed free.held)).held).held)

func_free : {d : ℕ} {qs : List Piece} (f : Func) → d + 2 ≤ most_parens → Free d qs → Free d (func_pieces f ++ qs)
unfolding func_pieces
func_free f room free =
    simp append_assoc
    (other_free word.Func refl (omega arith) (type_named f.sig (omega arith) (locals_free f.locals (omega arith) (body_free f.body (omega arith) (closed free.held)))).held)

global_free : {d : ℕ} {qs : List Piece} (g : Global) → d + 2 ≤ most_parens → Free d qs → Free d (global_pieces g ++ qs)
unfolding global_pieces
global_free g room free = simp append_assoc (other_free word.Global refl (omega arith) (global_type_free g.ty (omega arith) (body_free g.init (omega arith) (closed free.held))).held)

place_free : {d : ℕ} {qs : List Piece} (x : ℕ) (ss : List (List Instr)) → d + 2 ≤ most_parens → Free d qs → Free d (place_pieces x ss ++ qs)
unfolding place_pieces
place_free x ss room free = simp append_assoc (number_free x (other_free word.Offset refl (omega arith) (body_free ss (omega arith) (closed free.held)).held).held)

element_free : {d : ℕ} {qs : List Piece} (e : Element) → d + 3 ≤ most_parens → Free d qs → Free d (element_pieces e ++ qs)
unfolding element_pieces
element_free e room free = simp append_assoc (other_free word.Elem refl (omega arith) (place_free e.table e.offset (omega arith) (numbers_free e.funcs (closed free.held))).held)

fill_free : {d : ℕ} {qs : List Piece} (f : Fill) → d + 3 ≤ most_parens → Free d qs → Free d (fill_pieces f ++ qs)
unfolding fill_pieces
fill_free f room free = simp append_assoc (other_free word.Data refl (omega arith) (place_free f.memory f.offset (omega arith) (string_free f.bytes (closed free.held).held)).held)

start_free : {d : ℕ} {qs : List Piece} (start : Option ℕ) → d < most_parens → Free d qs → Free d (start_pieces start ++ qs)
start_free None room free = free
start_free (Some x) room free = indexed_free word.Start x refl room free

-- ---- all of a module

parts_free : {d : ℕ} {qs : List Piece} (m : Module) → d + 3 ≤ most_parens → Free d qs → Free d (parts_pieces m ++ qs)
unfolding parts_pieces
parts_free {d} {qs} m room free =
    let globals = each_free d global_pieces (λ x ps f. global_free x (omega arith) f) m.globals qs free in
    let memories = each_free d memory_pieces (λ x ps f. memory_free x (omega arith) f) m.memories _ globals in
    let tables = each_free d table_pieces (λ x ps f. table_free x (omega arith) f) m.tables _ memories in
    let funcs = each_free d func_pieces (λ x ps f. func_free x (omega arith) f) m.funcs _ tables in
    let imports = each_free d import_pieces (λ x ps f. import_free x (omega arith) f) m.imports _ funcs in
    simp append_assoc (each_free d func_type_pieces (λ x ps f. func_type_free x (omega arith) f) m.sigs _ imports)

uses_free : {d : ℕ} {qs : List Piece} (m : Module) → d + 3 ≤ most_parens → Free d qs → Free d (uses_pieces m ++ qs)
unfolding uses_pieces
uses_free {d} {qs} m room free =
    let fills = each_free d fill_pieces (λ x ps f. fill_free x (omega arith) f) m.fills qs free in
    let elements = each_free d element_pieces (λ x ps f. element_free x (omega arith) f) m.elements _ fills in
    simp append_assoc (each_free d export_pieces (λ x ps f. export_free x (omega arith) f) m.exports _ (start_free m.start (omega arith) elements))

all_free : (m : Module) → Free 0 (module_pieces m)
all_free m = other_free word.Module refl (omega arith) (parts_free m (omega arith) (uses_free m (omega arith) (closed (ended 0)))).held

pub shallow : (source : List ℕ) (tokens : List Token) (m : Module) → Shows source tokens (module_pieces m) → too_deep most_parens 0 tokens ≡ None
shallow source tokens m s = (all_free m).held.shallow source tokens s

pub agrees : (source : List ℕ) (tokens : List Token) (m : Module) → Shows source tokens (module_pieces m) → mismatch source tokens ≡ None
agrees source tokens m s = (all_free m).held.calm source tokens s (fields_in source tokens)
