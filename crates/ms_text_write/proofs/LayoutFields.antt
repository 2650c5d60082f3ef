-- Lexing the fields of a module as they are written.
use Rattle.std.proofs.Common.{ℕ, List, ◌++◌, append_assoc}
use Rattle.std.specs.Prelude.{codes}
use Rattle.ms_module.specs.declared.instr.Instr.{Instr}
use Rattle.ms_module.specs.declared.module.ImportDesc.{ImportDesc}
use Rattle.ms_module.specs.declared.module.ImportDesc.TheVariants as imported
use Rattle.ms_module.specs.declared.module.Import.{Import}
use Rattle.ms_module.specs.declared.module.Func.{Func}
use Rattle.ms_module.specs.declared.module.Global.{Global}
use Rattle.ms_module.specs.declared.module.ExportDesc.{ExportDesc}
use Rattle.ms_module.specs.declared.module.ExportDesc.TheVariants as exported
use Rattle.ms_module.specs.declared.module.Export.{Export}
use Rattle.ms_module.specs.declared.module.Element.{Element}
use Rattle.ms_module.specs.declared.module.Fill.{Fill}
use Rattle.ms_text_grammar.specs.declared.word.Word.TheVariants as word
use Rattle.ms_text_write.specs.Shown.{element_text, export_desc_text, export_text, fill_text, func_text, global_text, import_desc_text, import_text, init_text, place_text}
use Rattle.ms_text_write.proofs.Pieces.{Piece, body_pieces, element_pieces, export_desc_pieces, export_pieces, fill_pieces, func_pieces, global_pieces, import_desc_pieces, import_pieces, place_pieces}
use Rattle.ms_text_write.proofs.Showable.{AreBytes, HasNames}
use Rattle.ms_text_write.proofs.LayoutSteps.{At, Past, close, deep_line, space}
use Rattle.ms_text_write.proofs.LayoutStrings.{string_at}
use Rattle.ms_text_write.proofs.LayoutParts.{global_type_at, group_past, indexed_at, memory_at, number_at, numbers_past, opened_at, table_at}
use Rattle.ms_text_write.proofs.LayoutBodies.{body_past}

-- ---- imports and exports

import_desc_at : {source rest : List ℕ} {ps : List Piece} (d : ImportDesc) → Past source rest ps → At source (import_desc_text d ++ rest) (import_desc_pieces d ++ ps)
unfolding import_desc_text import_desc_pieces
import_desc_at (imported.Func x) past = simp append_assoc (opened_at word.Func (space (indexed_at word.Type x (close past))))
import_desc_at (imported.Table l) past = table_at l past
import_desc_at (imported.Memory l) past = memory_at l past
import_desc_at (imported.Global g) past = simp append_assoc (opened_at word.Global (space (global_type_at g (close past))))

pub import_at : {source rest : List ℕ} {ps : List Piece} (i : Import) → HasNames i → Past source rest ps → At source (import_text i ++ rest) (import_pieces i ++ ps)
unfolding import_text import_pieces
import_at i names past =
    simp append_assoc (opened_at word.Import (space (string_at i.«module» names.from (space (string_at i.name names.known_as (space (import_desc_at i.desc (close past))))))))

export_desc_at : {source rest : List ℕ} {ps : List Piece} (d : ExportDesc) → Past source rest ps → At source (export_desc_text d ++ rest) (export_desc_pieces d ++ ps)
export_desc_at (exported.Func x) past = indexed_at word.Func x past
export_desc_at (exported.Table x) past = indexed_at word.Table x past
export_desc_at (exported.Memory x) past = indexed_at word.Memory x past
export_desc_at (exported.Global x) past = indexed_at word.Global x past

pub export_at : {source rest : List ℕ} {ps : List Piece} (e : Export) → AreBytes e.name → Past source rest ps → At source (export_text e ++ rest) (export_pieces e ++ ps)
unfolding export_text export_pieces
export_at e name past = simp append_assoc (opened_at word.Export (space (string_at e.name name (space (export_desc_at e.desc (close past))))))

-- ---- functions and globals

pub func_at : {source rest : List ℕ} {ps : List Piece} (f : Func) → Past source rest ps → At source (func_text f ++ rest) (func_pieces f ++ ps)
unfolding func_text func_pieces
func_at f past =
    simp append_assoc (opened_at word.Func (space (indexed_at word.Type f.sig (group_past word.Local f.locals
    (body_past (codes "\n    ") f.body (λ s qs at. deep_line at) (close past))))))

init_past : {source rest : List ℕ} {ps : List Piece} (ss : List (List Instr)) → Past source rest ps → Past source (init_text ss ++ rest) (body_pieces ss ++ ps)
init_past ss past = body_past (codes " ") ss (λ s qs at. space at) past

pub global_at : {source rest : List ℕ} {ps : List Piece} (g : Global) → Past source rest ps → At source (global_text g ++ rest) (global_pieces g ++ ps)
unfolding global_text global_pieces
global_at g past = simp append_assoc (opened_at word.Global (space (global_type_at g.ty (init_past g.init (close past)))))

-- ---- what tables and memories begin with

place_past : {source rest : List ℕ} {ps : List Piece} (x : ℕ) (ss : List (List Instr)) → Past source rest ps → Past source (place_text x ss ++ rest) (place_pieces x ss ++ ps)
unfolding place_text place_pieces
place_past x ss past = simp append_assoc (space (number_at x (space (opened_at word.Offset (init_past ss (close past))))))

pub element_at : {source rest : List ℕ} {ps : List Piece} (e : Element) → Past source rest ps → At source (element_text e ++ rest) (element_pieces e ++ ps)
unfolding element_text element_pieces
element_at e past = simp append_assoc (opened_at word.Elem (place_past e.table e.offset (numbers_past e.funcs (close past))))

pub fill_at : {source rest : List ℕ} {ps : List Piece} (f : Fill) → AreBytes f.bytes → Past source rest ps → At source (fill_text f ++ rest) (fill_pieces f ++ ps)
unfolding fill_text fill_pieces
fill_at f bytes past = simp append_assoc (opened_at word.Data (place_past f.memory f.offset (space (string_at f.bytes bytes (close past)))))
