-- A module that bytes spell can be said in a text.
use Rattle.std.proofs.Common.{ℕ, List, [], ◌∷◌, sym, subst}
use Rattle.std.specs.Prelude.{All}
use Rattle.std.proofs.lemmas.List.Elements.{All-head, All-nil, All-tail, All-weaker}
use Rattle.ms_bytes.specs.Choice.{among, no_other}
use Rattle.ms_module.specs.declared.module.Global.{Global}
use Rattle.ms_module.specs.declared.module.Module.{Module}
use Rattle.ms_module.specs.Building.{IsNumbered}
use Rattle.ms_bin_grammar.specs.declared.fault.ReadFault.TheVariants.{Malformed}
use Rattle.ms_bin_grammar.specs.declared.sections.Sections.{Sections}
use Rattle.ms_bin_grammar.specs.Bounds.{usual}
use Rattle.ms_text_grammar.specs.Bounds as text
use Rattle.ms_bin_grammar.specs.Faults.{malformed}
use Rattle.ms_bin_grammar.specs.Numbers.{number, vec}
use Rattle.ms_bin_grammar.specs.Types.{func_type, limits, table_type}
use Rattle.ms_bin_grammar.specs.Module.{SpellsWithin, custom, element, export, fill, funcs, global, has_more, import, module_format, module_of, nothing_yet, section, section_rows}
use Rattle.ms_text_write.proofs.Sayable.{Narrow, Sayable, SayableBody, SayableElement, SayableExport, SayableFill, SayableFunc, SayableImport, SayableLimits, SayableMax}
use Rattle.ms_text_write.proofs.Showable.{AreBytes, CanBeShown, HasNames}
use Rattle.ms_text_write.proofs.ModuleSaid.{Bodies, EachOf}
use Rattle.ms_text_write.proofs.BinaryParts.{AllCoded, AllSpelled, RowsHold, among_holds, behind_sized, coded_holds, ends, marks_hold, number_holds, runs_hold, sized_holds, vec_holds}
use Rattle.ms_text_write.proofs.BinaryFields.{element_holds, export_holds, fill_holds, funcs_hold, global_holds, import_holds, limits_hold, table_type_holds}

-- ---- sections

-- what the sections so far say
record SaySo (so_far : Sections) : Type 0 where
  indices : All Narrow so_far.indices
  imports : All (λ i. SayableImport i) so_far.imports
  funcs : All (λ f. SayableFunc text.usual f) so_far.funcs
  tables : All (λ l. SayableLimits l) so_far.tables
  memories : All (λ l. SayableLimits l) so_far.memories
  globals : All (λ (g : Global). SayableBody usual.blocks g.init) so_far.globals
  exports : All (λ e. SayableExport e) so_far.exports
  start : SayableMax so_far.start
  elements : All (λ e. SayableElement text.usual e) so_far.elements
  fills : All (λ f. SayableFill text.usual f) so_far.fills

says : {x : Sections} → All Narrow x.indices → All (λ i. SayableImport i) x.imports → All (λ f. SayableFunc text.usual f) x.funcs → All (λ l. SayableLimits l) x.tables → All (λ l. SayableLimits l) x.memories
    → All (λ (g : Global). SayableBody usual.blocks g.init) x.globals → All (λ e. SayableExport e) x.exports → SayableMax x.start → All (λ e. SayableElement text.usual e) x.elements → All (λ f. SayableFill text.usual f) x.fills → SaySo x
says indices imports funcs tables memories globals exports start elements fills = record {
  indices = indices;
  imports = imports;
  funcs = funcs;
  tables = tables;
  memories = memories;
  globals = globals;
  exports = exports;
  start = start;
  elements = elements;
  fills = fills;
}

nothing_so : SaySo nothing_yet
nothing_so = record {
  indices = All-nil Narrow;
  imports = All-nil (λ i. SayableImport i);
  funcs = All-nil (λ f. SayableFunc text.usual f);
  tables = All-nil (λ l. SayableLimits l);
  memories = All-nil (λ l. SayableLimits l);
  globals = All-nil (λ (g : Global). SayableBody usual.blocks g.init);
  exports = All-nil (λ e. SayableExport e);
  start = tt;
  elements = All-nil (λ e. SayableElement text.usual e);
  fills = All-nil (λ f. SayableFill text.usual f);
}

abbrev Says : Sections → Type 0
Says so_far = SaySo so_far

-- a row
infixr 5 ◌&◌
◌&◌ : {X Y : Type 0} → X → Y → X × Y
x & y = (x, y)

rows_hold : (so_far : Sections) → SaySo so_far → RowsHold Says (section_rows usual so_far)
unfolding section_rows
rows_hold so_far so =
    (λ s x t bs h. ends Says h.3 so (behind_sized custom s h.0 h.1 bs h.2))
    & (λ s x t bs h. let k = h.1 in ends Says k.3 (says so.indices so.imports so.funcs so.tables so.memories so.globals so.exports so.start so.elements so.fills) (behind_sized (vec func_type) s k.0 k.1 bs k.2))
    & (λ s x t bs h.
    let k = h.1 in
    let g = sized_holds (vec import) (λ is. All (λ i. SayableImport i) is) (vec_holds import (λ i. SayableImport i) import_holds) s k.0 k.1 bs k.2 in
    ends Says k.3 (says so.indices g.0 so.funcs so.tables so.memories so.globals so.exports so.start so.elements so.fills) g.1)
    & (λ s x t bs h.
    let k = h.1 in
    let g = sized_holds (vec number) (λ is. All Narrow is) (vec_holds number Narrow number_holds) s k.0 k.1 bs k.2 in
    ends Says k.3 (says g.0 so.imports so.funcs so.tables so.memories so.globals so.exports so.start so.elements so.fills) g.1)
    & (λ s x t bs h.
    let k = h.1 in
    let g = sized_holds (vec table_type) (λ ls. All (λ l. SayableLimits l) ls) (vec_holds table_type (λ l. SayableLimits l) table_type_holds) s k.0 k.1 bs k.2 in
    ends Says k.3 (says so.indices so.imports so.funcs g.0 so.memories so.globals so.exports so.start so.elements so.fills) g.1)
    & (λ s x t bs h.
    let k = h.1 in
    let g = sized_holds (vec limits) (λ ls. All (λ l. SayableLimits l) ls) (vec_holds limits (λ l. SayableLimits l) limits_hold) s k.0 k.1 bs k.2 in
    ends Says k.3 (says so.indices so.imports so.funcs so.tables g.0 so.globals so.exports so.start so.elements so.fills) g.1)
    & (λ s x t bs h.
    let k = h.1 in
    let g = sized_holds (vec (global usual)) (λ gs. All (λ (g : Global). SayableBody usual.blocks g.init) gs) (vec_holds (global usual) (λ g. SayableBody usual.blocks g.init) global_holds) s k.0 k.1 bs k.2 in
    ends Says k.3 (says so.indices so.imports so.funcs so.tables so.memories g.0 so.exports so.start so.elements so.fills) g.1)
    & (λ s x t bs h.
    let k = h.1 in
    let g = sized_holds (vec export) (λ es. All (λ e. SayableExport e) es) (vec_holds export (λ e. SayableExport e) export_holds) s k.0 k.1 bs k.2 in
    ends Says k.3 (says so.indices so.imports so.funcs so.tables so.memories so.globals g.0 so.start so.elements so.fills) g.1)
    & (λ s x t bs h.
    let k = h.1 in
    let g = sized_holds number Narrow number_holds s k.0 k.1 bs k.2 in
    ends Says k.3 (says so.indices so.imports so.funcs so.tables so.memories so.globals so.exports g.0 so.elements so.fills) g.1)
    & (λ s x t bs h.
    let k = h.1 in
    let g = sized_holds (vec (element usual)) (λ es. All (λ e. SayableElement text.usual e) es) (vec_holds (element usual) (λ e. SayableElement text.usual e) element_holds) s k.0 k.1 bs k.2 in
    ends Says k.3 (says so.indices so.imports so.funcs so.tables so.memories so.globals so.exports so.start g.0 so.fills) g.1)
    & (λ s x t bs h.
    let k = h.1 in
    let g = sized_holds (funcs usual so_far.indices) (λ fs. All (λ f. SayableFunc text.usual f) fs) (funcs_hold so_far.indices so.indices) s k.0 k.1 bs k.2 in
    ends Says k.3 (says so.indices so.imports g.0 so.tables so.memories so.globals so.exports so.start so.elements so.fills) g.1)
    & (λ s x t bs h.
    let k = h.1 in
    let g = sized_holds (vec (fill usual)) (λ fs. All (λ f. SayableFill text.usual f) fs) (vec_holds (fill usual) (λ f. SayableFill text.usual f) fill_holds) s k.0 k.1 bs k.2 in
    ends Says k.3 (says so.indices so.imports so.funcs so.tables so.memories so.globals so.exports so.start so.elements g.0) g.1)
    & tt

section_holds : (so_far : Sections) → SaySo so_far → AllSpelled (section usual so_far) Says
unfolding section
section_holds so_far so s x t bs h =
    let others : AllCoded (no_other (λ at code. Malformed at)) Says = λ code s' x' t' bs' h'. absurd h' in
    coded_holds Says malformed (among (section_rows usual so_far) (no_other (λ at code. Malformed at)))
    (among_holds Says (section_rows usual so_far) (no_other (λ at code. Malformed at)) (rows_hold so_far so) others) s x t bs h

-- ---- modules

says_module : (so_far : Sections) → SaySo so_far → Sayable text.usual (module_of so_far)
says_module so_far so = record {
  imports = so.imports;
  funcs = so.funcs;
  tables = so.tables;
  memories = so.memories;
  globals = so.globals;
  exports = so.exports;
  start = so.start;
  elements = so.elements;
  fills = so.fills;
}

pub sayable : (bytes : List ℕ) (m : Module) → AreBytes bytes → SpellsWithin usual bytes m → Sayable text.usual m
unfolding module_format
sayable bytes m bs h =
    let magic = marks_hold (0x00 ∷ 0x61 ∷ 0x73 ∷ 0x6D ∷ []) bytes h.1 bs h.2 in
    let version = marks_hold (0x01 ∷ 0x00 ∷ 0x00 ∷ 0x00 ∷ []) h.1 h.3.1 magic h.3.2 in
    let k = h.3.3 in
    let last = runs_hold (section usual) Says section_holds has_more k.2 nothing_so version in
    subst (λ (n : Module). Sayable text.usual n) (sym k.3.3.0) (says_module k.0 last.0)

-- ---- what else holds of a module that can be said

pub can_be_shown : (m : Module) → Sayable text.usual m → CanBeShown m
can_be_shown m say = record {
  imports = All-weaker (λ i. SayableImport i) (λ i. HasNames i) (λ i h. record { from = h.from.0; known_as = h.known_as.0 }) m.imports say.imports;
  exports = All-weaker (λ e. SayableExport e) (λ e. AreBytes e.name) (λ e h. h.name.0) m.exports say.exports;
  fills = All-weaker (λ f. SayableFill text.usual f) (λ f. AreBytes f.bytes) (λ f h. h.bytes) m.fills say.fills;
}

each_of : {A : Type 0} (P Q : A → Type 0) → ((x : A) → P x → Q x) → (xs : List A) → All P xs → EachOf Q xs
each_of P Q f [] h = tt
each_of P Q f (x ∷ xs) h = (f x (All-head P x xs h), each_of P Q f xs (All-tail P x xs h))

pub bodies : (m : Module) → Sayable text.usual m → Bodies m
bodies m say = record {
  funcs = each_of (λ f. SayableFunc text.usual f) (λ f. IsNumbered f.body) (λ f h. h.body.numbered) m.funcs say.funcs;
  globals = each_of (λ (g : Global). SayableBody usual.blocks g.init) (λ g. IsNumbered g.init) (λ g h. h.numbered) m.globals say.globals;
  elements = each_of (λ e. SayableElement text.usual e) (λ e. IsNumbered e.offset) (λ e h. h.offset.numbered) m.elements say.elements;
  fills = each_of (λ f. SayableFill text.usual f) (λ f. IsNumbered f.offset) (λ f h. h.offset.numbered) m.fills say.fills;
}
