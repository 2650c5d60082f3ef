-- A module is spelled as it is written.
use Rattle.std.proofs.Common.{◌≡◌, ℕ, ◌<◌, ◌≤◌, ◌^◌, true, eqb, not, List, [], ◌∷◌, ◌++◌, length, inl, inr, refl, sym, subst, arith}
use Rattle.std.specs.Prelude.{Option, Some, None}
use Rattle.std.proofs.lemmas.Bool.{eq-eqb, lt-ltb}
use Rattle.std.proofs.lemmas.Bool.Decides.{nat_tests}
use Rattle.std.proofs.lemmas.List.{append-nil, length-append, length-map}
use Rattle.ms_bytes.specs.Runs.{Runs, goes, rests}
use Rattle.ms_types.specs.declared.types.FuncType.{FuncType}
use Rattle.ms_types.specs.declared.types.Limits.{Limits}
use Rattle.ms_module.specs.declared.module.Import.{Import}
use Rattle.ms_module.specs.declared.module.Func.{Func}
use Rattle.ms_module.specs.declared.module.Global.{Global}
use Rattle.ms_module.specs.declared.module.Export.{Export}
use Rattle.ms_module.specs.declared.module.Element.{Element}
use Rattle.ms_module.specs.declared.module.Fill.{Fill}
use Rattle.ms_module.specs.declared.module.Module.{Module}
use Rattle.ms_bin_grammar.specs.declared.sections.Sections.{Sections}
use Rattle.ms_bin_grammar.specs.Bounds.{Bounds}
use Rattle.ms_bin_grammar.specs.Faults.{Binary}
use Rattle.ms_bin_grammar.specs.Numbers.{number, vec}
use Rattle.ms_bin_grammar.specs.Sizes.{sized}
use Rattle.ms_bin_grammar.specs.Types.{func_type, limits, table_type}
use Rattle.ms_bin_grammar.specs.Module.{SpellsWithin, element, export, fill, funcs, global, has_more, import, module_format, section, section_rows}
use Rattle.ms_bin_write.specs.Parts.{number_bytes, sized_bytes, vec_bytes}
use Rattle.ms_bin_write.specs.Types.{func_type_bytes, limits_by, limits_bytes, table_bytes}
use Rattle.ms_flat.specs.refinement.Ranges.{AllFit, LimitsFit, NumberFits, NumberFitsIf}
use Rattle.ms_bin_write.specs.refinement.Ranges.{ExportFits, ImportFits}
use Rattle.ms_bin_write.specs.Written.{element_bytes, export_bytes, export_desc_bytes, fill_bytes, func_bytes, global_bytes, import_bytes, import_desc_bytes, part_bytes, sections_bytes, sigs_of, start_bytes, written}
use Rattle.ms_bin_write.specs.Instrs.{body_bytes}
use Rattle.ms_bin_write.proofs.Counts.{number_any, number_len, sized_some}
use Rattle.ms_bin_write.proofs.Spelled.{Anything, all_anything, func_type_law, limits_law, number_law, sized_law, table_law, vec_law}
use Rattle.ms_bin_write.proofs.SpelledParts.{ElementKeeps, FillKeeps, FuncKeeps, GlobalKeeps, element_law, export_law, fill_law, funcs_law, global_law, import_law, indices_law}

-- what the sections so far say
abbrev pub so_far : ℕ → List FuncType → List Import → List ℕ → List Limits → List Limits → List Global → List Export → Option ℕ → List Element → List Func → List Fill → Sections
so_far last sigs imports indices tables memories globals exports start elements funcs fills = record {
  last = last;
  sigs = sigs;
  imports = imports;
  indices = indices;
  tables = tables;
  memories = memories;
  globals = globals;
  exports = exports;
  start = start;
  elements = elements;
  funcs = funcs;
  fills = fills;
}

-- the whole content of a section
whole : {A : Type 0} (f : Binary A) (text : List ℕ) (x : A) → ((t : List ℕ) → f.spelled (text ++ t) x t) → length text < 2 ^ 32 → (t : List ℕ) → (sized f).spelled (sized_bytes text ++ t) x t
whole f text x law small t = sized_law f text x small (subst (λ (s : List ℕ). f.spelled s x []) (append-nil text) (law [])) t

-- ---- what a module must keep

pub record Keeps (bounds : Bounds) (m : Module) : Type 0 where
  pub sigs : length (vec_bytes func_type_bytes m.sigs) < 2 ^ 32
  pub imports : AllFit ImportFits m.imports × (length (vec_bytes import_bytes m.imports) < 2 ^ 32)
  pub indices : AllFit NumberFits (sigs_of m.funcs) × (length (vec_bytes number_bytes (sigs_of m.funcs)) < 2 ^ 32)
  pub tables : AllFit LimitsFit m.tables × (length (vec_bytes table_bytes m.tables) < 2 ^ 32)
  pub memories : AllFit LimitsFit m.memories × (length (vec_bytes limits_bytes m.memories) < 2 ^ 32)
  pub globals : AllFit (GlobalKeeps bounds) m.globals × (length (vec_bytes global_bytes m.globals) < 2 ^ 32)
  pub exports : AllFit ExportFits m.exports × (length (vec_bytes export_bytes m.exports) < 2 ^ 32)
  pub start : NumberFitsIf m.start
  pub elements : AllFit (ElementKeeps bounds) m.elements × (length (vec_bytes element_bytes m.elements) < 2 ^ 32)
  pub funcs : AllFit (FuncKeeps bounds) m.funcs × (length (vec_bytes func_bytes m.funcs) < 2 ^ 32)
  pub fills : AllFit (FillKeeps bounds) m.fills × (length (vec_bytes fill_bytes m.fills) < 2 ^ 32)

more : (b : ℕ) (s : List ℕ) → not (eqb (length (b ∷ s)) 0) ≡ true
more b s = go (length (b ∷ s)) (omega arith) where
  go : (n : ℕ) → 0 < n → not (eqb n 0) ≡ true
  go n lt = grind (arith, nat_tests)

-- ---- each item has a byte

func_type_some : (ft : FuncType) → Anything ft → 1 ≤ length (func_type_bytes ft)
func_type_some ft h = omega arith

import_some : (i : Import) → ImportFits i → 1 ≤ length (import_bytes i)
import_some i h = omega (arith, length-append (sized_bytes i.«module») (sized_bytes i.name ++ import_desc_bytes i.desc), sized_some i.«module»)

limits_some : (l : Limits) → LimitsFit l → 1 ≤ length (limits_bytes l)
limits_some l h = go l.min l.max where
  go : (min : ℕ) (max : Option ℕ) → 1 ≤ length (limits_by min max)
  go min None = omega arith
  go min (Some max) = omega arith

table_some : (l : Limits) → LimitsFit l → 1 ≤ length (table_bytes l)
table_some l h = omega arith

export_some : (e : Export) → ExportFits e → 1 ≤ length (export_bytes e)
export_some e h = omega (arith, length-append (sized_bytes e.name) (export_desc_bytes e.desc), sized_some e.name)

global_some : (bounds : Bounds) (g : Global) → GlobalKeeps bounds g → 1 ≤ length (global_bytes g)
global_some bounds g h = omega arith

element_some : (bounds : Bounds) (e : Element) → ElementKeeps bounds e → 1 ≤ length (element_bytes e)
element_some bounds e h = omega (arith, length-append (number_bytes e.table) (body_bytes e.offset ++ vec_bytes number_bytes e.funcs), number_any e.table)

fill_some : (bounds : Bounds) (f : Fill) → FillKeeps bounds f → 1 ≤ length (fill_bytes f)
fill_some bounds f h = omega (arith, length-append (number_bytes f.memory) (body_bytes f.offset ++ sized_bytes f.bytes), number_any f.memory)

module _ (bounds : Bounds) (m : Module) where
  -- all sections, the last of which has some number
  abbrev all_so_far : ℕ → Sections
  all_so_far l = so_far l m.sigs m.imports (sigs_of m.funcs) m.tables m.memories m.globals m.exports m.start m.elements m.funcs m.fills

  abbrev Reads : Sections → List ℕ → Type 0
  Reads st s = (l : ℕ) × Runs has_more (section bounds) st s (all_so_far l) []

  -- a section, or none
  part : {A : Type 0} (id : ℕ) (text : A → List ℕ) (set : ℕ → List A → Sections) (l : ℕ) (xs : List A) (rest : List ℕ) → l ≤ id
      → (section bounds (set l [])).spelled (id ∷ (sized_bytes (vec_bytes text xs) ++ rest)) (set id xs) rest
      → ((n : ℕ) → n ≤ id → Reads (set n xs) rest) → Reads (set l []) (part_bytes id text xs ++ rest)
  part id text set l [] rest le law next = next l le
  part id text set l (x ∷ xs) rest le law next =
      let n = next id (omega arith) in
      (n.0, goes (set id (x ∷ xs)) (more id (sized_bytes (vec_bytes text (x ∷ xs)) ++ rest)) law n.1)

  start_part : (set : ℕ → Option ℕ → Sections) (l : ℕ) (x : Option ℕ) (rest : List ℕ) → l ≤ 8
      → ((i : ℕ) → x ≡ Some i → (section bounds (set l None)).spelled (8 ∷ (sized_bytes (number_bytes i) ++ rest)) (set 8 x) rest)
      → ((n : ℕ) → n ≤ 8 → Reads (set n x) rest) → Reads (set l None) (start_bytes x ++ rest)
  start_part set l None rest le law next = next l le
  start_part set l (Some i) rest le law next =
      let n = next 8 (omega arith) in
      (n.0, goes (set 8 (Some i)) (more 8 (sized_bytes (number_bytes i) ++ rest)) (law i refl) n.1)

  module _ (k : Keeps bounds m) where
    -- each section

    sigs_section_law : (l : ℕ) (rest : List ℕ) → l ≤ 0 → (section bounds (so_far l [] [] [] [] [] [] [] None [] [] [])).spelled (1 ∷ (sized_bytes (vec_bytes func_type_bytes m.sigs) ++ rest)) (so_far 1 m.sigs [] [] [] [] [] [] None [] [] []) rest
    unfolding section section_rows
    sigs_section_law l rest le = (
      1,
      sized_bytes (vec_bytes func_type_bytes m.sigs) ++ rest,
      refl,
      inr ((λ e. omega arith), inl (refl, (lt-ltb l 1 (omega arith), (m.sigs, rest, whole (vec func_type) (vec_bytes func_type_bytes m.sigs) m.sigs (vec_law func_type func_type_bytes Anything func_type_law func_type_some m.sigs (all_anything m.sigs) k.sigs) k.sigs rest, (refl, refl))))),
    )

    imports_section_law : (l : ℕ) (rest : List ℕ) → l ≤ 1 → (section bounds (so_far l m.sigs [] [] [] [] [] [] None [] [] [])).spelled (2 ∷ (sized_bytes (vec_bytes import_bytes m.imports) ++ rest)) (so_far 2 m.sigs m.imports [] [] [] [] [] None [] [] []) rest
    unfolding section section_rows
    imports_section_law l rest le = (
      2,
      sized_bytes (vec_bytes import_bytes m.imports) ++ rest,
      refl,
      inr ((λ e. omega arith), inr ((λ e. omega arith), inl (refl, (lt-ltb l 2 (omega arith), (m.imports, rest, whole (vec import) (vec_bytes import_bytes m.imports) m.imports (vec_law import import_bytes ImportFits import_law import_some m.imports k.imports.0 k.imports.1) k.imports.1 rest, (refl, refl)))))),
    )

    indices_section_law : (l : ℕ) (rest : List ℕ) → l ≤ 2 → (section bounds (so_far l m.sigs m.imports [] [] [] [] [] None [] [] [])).spelled (3 ∷ (sized_bytes (vec_bytes number_bytes (sigs_of m.funcs)) ++ rest)) (so_far 3 m.sigs m.imports (sigs_of m.funcs) [] [] [] [] None [] [] []) rest
    unfolding section section_rows
    indices_section_law l rest le = (
      3,
      sized_bytes (vec_bytes number_bytes (sigs_of m.funcs)) ++ rest,
      refl,
      inr ((λ e. omega arith), inr ((λ e. omega arith), inr ((λ e. omega arith), inl (refl, (lt-ltb l 3 (omega arith), ((sigs_of m.funcs), rest, whole (vec number) (vec_bytes number_bytes (sigs_of m.funcs)) (sigs_of m.funcs) (indices_law (sigs_of m.funcs) k.indices.0 k.indices.1) k.indices.1 rest, (refl, refl))))))),
    )

    tables_section_law : (l : ℕ) (rest : List ℕ) → l ≤ 3 → (section bounds (so_far l m.sigs m.imports (sigs_of m.funcs) [] [] [] [] None [] [] [])).spelled (4 ∷ (sized_bytes (vec_bytes table_bytes m.tables) ++ rest)) (so_far 4 m.sigs m.imports (sigs_of m.funcs) m.tables [] [] [] None [] [] []) rest
    unfolding section section_rows
    tables_section_law l rest le = (
      4,
      sized_bytes (vec_bytes table_bytes m.tables) ++ rest,
      refl,
      inr ((λ e. omega arith), inr ((λ e. omega arith), inr ((λ e. omega arith), inr ((λ e. omega arith), inl (refl, (lt-ltb l 4 (omega arith), (m.tables, rest, whole (vec table_type) (vec_bytes table_bytes m.tables) m.tables (vec_law table_type table_bytes LimitsFit table_law table_some m.tables k.tables.0 k.tables.1) k.tables.1 rest, (refl, refl)))))))),
    )

    memories_section_law : (l : ℕ) (rest : List ℕ) → l ≤ 4 → (section bounds (so_far l m.sigs m.imports (sigs_of m.funcs) m.tables [] [] [] None [] [] [])).spelled (5 ∷ (sized_bytes (vec_bytes limits_bytes m.memories) ++ rest)) (so_far 5 m.sigs m.imports (sigs_of m.funcs) m.tables m.memories [] [] None [] [] []) rest
    unfolding section section_rows
    memories_section_law l rest le = (
      5,
      sized_bytes (vec_bytes limits_bytes m.memories) ++ rest,
      refl,
      inr ((λ e. omega arith), inr ((λ e. omega arith), inr ((λ e. omega arith), inr ((λ e. omega arith), inr ((λ e. omega arith), inl (refl, (lt-ltb l 5 (omega arith), (m.memories, rest, whole (vec limits) (vec_bytes limits_bytes m.memories) m.memories (vec_law limits limits_bytes LimitsFit limits_law limits_some m.memories k.memories.0 k.memories.1) k.memories.1 rest, (refl, refl))))))))),
    )

    globals_section_law : (l : ℕ) (rest : List ℕ) → l ≤ 5 → (section bounds (so_far l m.sigs m.imports (sigs_of m.funcs) m.tables m.memories [] [] None [] [] [])).spelled (6 ∷ (sized_bytes (vec_bytes global_bytes m.globals) ++ rest)) (so_far 6 m.sigs m.imports (sigs_of m.funcs) m.tables m.memories m.globals [] None [] [] []) rest
    unfolding section section_rows
    globals_section_law l rest le = (
      6,
      sized_bytes (vec_bytes global_bytes m.globals) ++ rest,
      refl,
      inr ((λ e. omega arith), inr ((λ e. omega arith), inr ((λ e. omega arith), inr ((λ e. omega arith), inr ((λ e. omega arith), inr ((λ e. omega arith), inl (refl, (lt-ltb l 6 (omega arith), (m.globals, rest, whole (vec (global bounds)) (vec_bytes global_bytes m.globals) m.globals (vec_law (global bounds) global_bytes (GlobalKeeps bounds) (global_law bounds) (global_some bounds) m.globals k.globals.0 k.globals.1) k.globals.1 rest, (refl, refl)))))))))),
    )

    exports_section_law : (l : ℕ) (rest : List ℕ) → l ≤ 6 → (section bounds (so_far l m.sigs m.imports (sigs_of m.funcs) m.tables m.memories m.globals [] None [] [] [])).spelled (7 ∷ (sized_bytes (vec_bytes export_bytes m.exports) ++ rest)) (so_far 7 m.sigs m.imports (sigs_of m.funcs) m.tables m.memories m.globals m.exports None [] [] []) rest
    unfolding section section_rows
    exports_section_law l rest le = (
      7,
      sized_bytes (vec_bytes export_bytes m.exports) ++ rest,
      refl,
      inr ((λ e. omega arith), inr ((λ e. omega arith), inr ((λ e. omega arith), inr ((λ e. omega arith), inr ((λ e. omega arith), inr ((λ e. omega arith), inr ((λ e. omega arith), inl (refl, (lt-ltb l 7 (omega arith), (m.exports, rest, whole (vec export) (vec_bytes export_bytes m.exports) m.exports (vec_law export export_bytes ExportFits export_law export_some m.exports k.exports.0 k.exports.1) k.exports.1 rest, (refl, refl))))))))))),
    )

    start_law : (l i : ℕ) (rest : List ℕ) → l ≤ 7 → m.start ≡ Some i → (section bounds (so_far l m.sigs m.imports (sigs_of m.funcs) m.tables m.memories m.globals m.exports None [] [] [])).spelled (8 ∷ (sized_bytes (number_bytes i) ++ rest)) (so_far 8 m.sigs m.imports (sigs_of m.funcs) m.tables m.memories m.globals m.exports m.start [] [] []) rest
    unfolding section section_rows
    start_law l i rest le e =
        let fits : i < 2 ^ 32 = subst (λ (o : Option ℕ). NumberFitsIf o) e k.start in
        rw e (
          8,
          sized_bytes (number_bytes i) ++ rest,
          refl,
          inr ((λ e. omega arith), inr ((λ e. omega arith), inr ((λ e. omega arith), inr ((λ e. omega arith), inr ((λ e. omega arith), inr ((λ e. omega arith), inr ((λ e. omega arith), inr ((λ e. omega arith), inl (refl, (lt-ltb l 8 (omega arith), (i, rest, whole number (number_bytes i) i (λ t. number_law i t fits) (number_len i fits) rest, (refl, refl)))))))))))),
        )

    elements_section_law : (l : ℕ) (rest : List ℕ) → l ≤ 8 → (section bounds (so_far l m.sigs m.imports (sigs_of m.funcs) m.tables m.memories m.globals m.exports m.start [] [] [])).spelled (9 ∷ (sized_bytes (vec_bytes element_bytes m.elements) ++ rest)) (so_far 9 m.sigs m.imports (sigs_of m.funcs) m.tables m.memories m.globals m.exports m.start m.elements [] []) rest
    unfolding section section_rows
    elements_section_law l rest le = (
      9,
      sized_bytes (vec_bytes element_bytes m.elements) ++ rest,
      refl,
      inr ((λ e. omega arith), inr ((λ e. omega arith), inr ((λ e. omega arith), inr ((λ e. omega arith), inr ((λ e. omega arith), inr ((λ e. omega arith), inr ((λ e. omega arith), inr ((λ e. omega arith), inr ((λ e. omega arith), inl (refl, (lt-ltb l 9 (omega arith), (m.elements, rest, whole (vec (element bounds)) (vec_bytes element_bytes m.elements) m.elements (vec_law (element bounds) element_bytes (ElementKeeps bounds) (element_law bounds) (element_some bounds) m.elements k.elements.0 k.elements.1) k.elements.1 rest, (refl, refl))))))))))))),
    )

    funcs_section_law : (l : ℕ) (rest : List ℕ) → l ≤ 9 → (section bounds (so_far l m.sigs m.imports (sigs_of m.funcs) m.tables m.memories m.globals m.exports m.start m.elements [] [])).spelled (10 ∷ (sized_bytes (vec_bytes func_bytes m.funcs) ++ rest)) (so_far 10 m.sigs m.imports (sigs_of m.funcs) m.tables m.memories m.globals m.exports m.start m.elements m.funcs []) rest
    unfolding section section_rows
    funcs_section_law l rest le = (
      10,
      sized_bytes (vec_bytes func_bytes m.funcs) ++ rest,
      refl,
      inr ((λ e. omega arith), inr ((λ e. omega arith), inr ((λ e. omega arith), inr ((λ e. omega arith), inr ((λ e. omega arith), inr ((λ e. omega arith), inr ((λ e. omega arith), inr ((λ e. omega arith), inr ((λ e. omega arith), inr ((λ e. omega arith), inl (refl, (lt-ltb l 10 (omega arith), (m.funcs, rest, whole (funcs bounds (sigs_of m.funcs)) (vec_bytes func_bytes m.funcs) m.funcs (funcs_law bounds m.funcs k.funcs.0 k.funcs.1) k.funcs.1 rest, (refl, refl)))))))))))))),
    )

    fills_section_law : (l : ℕ) (rest : List ℕ) → l ≤ 10 → (section bounds (so_far l m.sigs m.imports (sigs_of m.funcs) m.tables m.memories m.globals m.exports m.start m.elements m.funcs [])).spelled (11 ∷ (sized_bytes (vec_bytes fill_bytes m.fills) ++ rest)) (so_far 11 m.sigs m.imports (sigs_of m.funcs) m.tables m.memories m.globals m.exports m.start m.elements m.funcs m.fills) rest
    unfolding section section_rows
    fills_section_law l rest le = (
      11,
      sized_bytes (vec_bytes fill_bytes m.fills) ++ rest,
      refl,
      inr ((λ e. omega arith), inr ((λ e. omega arith), inr ((λ e. omega arith), inr ((λ e. omega arith), inr ((λ e. omega arith), inr ((λ e. omega arith), inr ((λ e. omega arith), inr ((λ e. omega arith), inr ((λ e. omega arith), inr ((λ e. omega arith), inr ((λ e. omega arith), inl (refl, (lt-ltb l 11 (omega arith), (m.fills, rest, whole (vec (fill bounds)) (vec_bytes fill_bytes m.fills) m.fills (vec_law (fill bounds) fill_bytes (FillKeeps bounds) (fill_law bounds) (fill_some bounds) m.fills k.fills.0 k.fills.1) k.fills.1 rest, (refl, refl))))))))))))))),
    )

    -- from each section on
    from_12 : (l : ℕ) → l ≤ 11 → Reads (all_so_far l) []
    from_12 l le = (l, rests refl)

    from_11 : (l : ℕ) → l ≤ 10 → Reads (so_far l m.sigs m.imports (sigs_of m.funcs) m.tables m.memories m.globals m.exports m.start m.elements m.funcs []) (part_bytes 11 fill_bytes m.fills)
    from_11 l le =
        subst (λ (s : List ℕ). Reads (so_far l m.sigs m.imports (sigs_of m.funcs) m.tables m.memories m.globals m.exports m.start m.elements m.funcs []) s) (append-nil (part_bytes 11 fill_bytes m.fills))
        (part 11 fill_bytes (λ n xs. so_far n m.sigs m.imports (sigs_of m.funcs) m.tables m.memories m.globals m.exports m.start m.elements m.funcs xs) l m.fills [] (omega arith) (fills_section_law l [] le) (λ n lt. from_12 n lt))

    from_10 : (l : ℕ) → l ≤ 9 → Reads (so_far l m.sigs m.imports (sigs_of m.funcs) m.tables m.memories m.globals m.exports m.start m.elements [] []) (part_bytes 10 func_bytes m.funcs ++ (part_bytes 11 fill_bytes m.fills))
    from_10 l le =
        part 10 func_bytes (λ n xs. so_far n m.sigs m.imports (sigs_of m.funcs) m.tables m.memories m.globals m.exports m.start m.elements xs []) l m.funcs (part_bytes 11 fill_bytes m.fills) (omega arith) (funcs_section_law l (part_bytes 11 fill_bytes m.fills) le) (λ n lt. from_11 n lt)

    from_9 : (l : ℕ) → l ≤ 8 → Reads (so_far l m.sigs m.imports (sigs_of m.funcs) m.tables m.memories m.globals m.exports m.start [] [] []) (part_bytes 9 element_bytes m.elements ++ (part_bytes 10 func_bytes m.funcs ++ (part_bytes 11 fill_bytes m.fills)))
    from_9 l le =
        part 9 element_bytes (λ n xs. so_far n m.sigs m.imports (sigs_of m.funcs) m.tables m.memories m.globals m.exports m.start xs [] []) l m.elements (part_bytes 10 func_bytes m.funcs ++ (part_bytes 11 fill_bytes m.fills)) (omega arith) (elements_section_law l (part_bytes 10 func_bytes m.funcs ++ (part_bytes 11 fill_bytes m.fills)) le) (λ n lt. from_10 n lt)

    from_8 : (l : ℕ) → l ≤ 7 → Reads (so_far l m.sigs m.imports (sigs_of m.funcs) m.tables m.memories m.globals m.exports None [] [] []) (start_bytes m.start ++ (part_bytes 9 element_bytes m.elements ++ (part_bytes 10 func_bytes m.funcs ++ (part_bytes 11 fill_bytes m.fills))))
    from_8 l le =
        start_part (λ n x. so_far n m.sigs m.imports (sigs_of m.funcs) m.tables m.memories m.globals m.exports x [] [] []) l m.start (part_bytes 9 element_bytes m.elements ++ (part_bytes 10 func_bytes m.funcs ++ (part_bytes 11 fill_bytes m.fills))) (omega arith) (λ i e. start_law l i (part_bytes 9 element_bytes m.elements ++ (part_bytes 10 func_bytes m.funcs ++ (part_bytes 11 fill_bytes m.fills))) le e) (λ n lt. from_9 n lt)

    from_7 : (l : ℕ) → l ≤ 6 → Reads (so_far l m.sigs m.imports (sigs_of m.funcs) m.tables m.memories m.globals [] None [] [] []) (part_bytes 7 export_bytes m.exports ++ (start_bytes m.start ++ (part_bytes 9 element_bytes m.elements ++ (part_bytes 10 func_bytes m.funcs ++ (part_bytes 11 fill_bytes m.fills)))))
    from_7 l le =
        part 7 export_bytes (λ n xs. so_far n m.sigs m.imports (sigs_of m.funcs) m.tables m.memories m.globals xs None [] [] []) l m.exports (start_bytes m.start ++ (part_bytes 9 element_bytes m.elements ++ (part_bytes 10 func_bytes m.funcs ++ (part_bytes 11 fill_bytes m.fills)))) (omega arith) (exports_section_law l (start_bytes m.start ++ (part_bytes 9 element_bytes m.elements ++ (part_bytes 10 func_bytes m.funcs ++ (part_bytes 11 fill_bytes m.fills)))) le) (λ n lt. from_8 n lt)

    from_6 : (l : ℕ) → l ≤ 5 → Reads (so_far l m.sigs m.imports (sigs_of m.funcs) m.tables m.memories [] [] None [] [] []) (part_bytes 6 global_bytes m.globals ++ (part_bytes 7 export_bytes m.exports ++ (start_bytes m.start ++ (part_bytes 9 element_bytes m.elements ++ (part_bytes 10 func_bytes m.funcs ++ (part_bytes 11 fill_bytes m.fills))))))
    from_6 l le =
        part 6 global_bytes (λ n xs. so_far n m.sigs m.imports (sigs_of m.funcs) m.tables m.memories xs [] None [] [] []) l m.globals (part_bytes 7 export_bytes m.exports ++ (start_bytes m.start ++ (part_bytes 9 element_bytes m.elements ++ (part_bytes 10 func_bytes m.funcs ++ (part_bytes 11 fill_bytes m.fills))))) (omega arith) (globals_section_law l (part_bytes 7 export_bytes m.exports ++ (start_bytes m.start ++ (part_bytes 9 element_bytes m.elements ++ (part_bytes 10 func_bytes m.funcs ++ (part_bytes 11 fill_bytes m.fills))))) le) (λ n lt. from_7 n lt)

    from_5 : (l : ℕ) → l ≤ 4 → Reads (so_far l m.sigs m.imports (sigs_of m.funcs) m.tables [] [] [] None [] [] []) (part_bytes 5 limits_bytes m.memories ++ (part_bytes 6 global_bytes m.globals ++ (part_bytes 7 export_bytes m.exports ++ (start_bytes m.start ++ (part_bytes 9 element_bytes m.elements ++ (part_bytes 10 func_bytes m.funcs ++ (part_bytes 11 fill_bytes m.fills)))))))
    from_5 l le =
        part 5 limits_bytes (λ n xs. so_far n m.sigs m.imports (sigs_of m.funcs) m.tables xs [] [] None [] [] []) l m.memories (part_bytes 6 global_bytes m.globals ++ (part_bytes 7 export_bytes m.exports ++ (start_bytes m.start ++ (part_bytes 9 element_bytes m.elements ++ (part_bytes 10 func_bytes m.funcs ++ (part_bytes 11 fill_bytes m.fills)))))) (omega arith) (memories_section_law l (part_bytes 6 global_bytes m.globals ++ (part_bytes 7 export_bytes m.exports ++ (start_bytes m.start ++ (part_bytes 9 element_bytes m.elements ++ (part_bytes 10 func_bytes m.funcs ++ (part_bytes 11 fill_bytes m.fills)))))) le) (λ n lt. from_6 n lt)

    from_4 : (l : ℕ) → l ≤ 3 → Reads (so_far l m.sigs m.imports (sigs_of m.funcs) [] [] [] [] None [] [] []) (part_bytes 4 table_bytes m.tables ++ (part_bytes 5 limits_bytes m.memories ++ (part_bytes 6 global_bytes m.globals ++ (part_bytes 7 export_bytes m.exports ++ (start_bytes m.start ++ (part_bytes 9 element_bytes m.elements ++ (part_bytes 10 func_bytes m.funcs ++ (part_bytes 11 fill_bytes m.fills))))))))
    from_4 l le =
        part 4 table_bytes (λ n xs. so_far n m.sigs m.imports (sigs_of m.funcs) xs [] [] [] None [] [] []) l m.tables (part_bytes 5 limits_bytes m.memories ++ (part_bytes 6 global_bytes m.globals ++ (part_bytes 7 export_bytes m.exports ++ (start_bytes m.start ++ (part_bytes 9 element_bytes m.elements ++ (part_bytes 10 func_bytes m.funcs ++ (part_bytes 11 fill_bytes m.fills))))))) (omega arith) (tables_section_law l (part_bytes 5 limits_bytes m.memories ++ (part_bytes 6 global_bytes m.globals ++ (part_bytes 7 export_bytes m.exports ++ (start_bytes m.start ++ (part_bytes 9 element_bytes m.elements ++ (part_bytes 10 func_bytes m.funcs ++ (part_bytes 11 fill_bytes m.fills))))))) le) (λ n lt. from_5 n lt)

    from_3 : (l : ℕ) → l ≤ 2 → Reads (so_far l m.sigs m.imports [] [] [] [] [] None [] [] []) (part_bytes 3 number_bytes (sigs_of m.funcs) ++ (part_bytes 4 table_bytes m.tables ++ (part_bytes 5 limits_bytes m.memories ++ (part_bytes 6 global_bytes m.globals ++ (part_bytes 7 export_bytes m.exports ++ (start_bytes m.start ++ (part_bytes 9 element_bytes m.elements ++ (part_bytes 10 func_bytes m.funcs ++ (part_bytes 11 fill_bytes m.fills)))))))))
    from_3 l le =
        part 3 number_bytes (λ n xs. so_far n m.sigs m.imports xs [] [] [] [] None [] [] []) l (sigs_of m.funcs) (part_bytes 4 table_bytes m.tables ++ (part_bytes 5 limits_bytes m.memories ++ (part_bytes 6 global_bytes m.globals ++ (part_bytes 7 export_bytes m.exports ++ (start_bytes m.start ++ (part_bytes 9 element_bytes m.elements ++ (part_bytes 10 func_bytes m.funcs ++ (part_bytes 11 fill_bytes m.fills)))))))) (omega arith) (indices_section_law l (part_bytes 4 table_bytes m.tables ++ (part_bytes 5 limits_bytes m.memories ++ (part_bytes 6 global_bytes m.globals ++ (part_bytes 7 export_bytes m.exports ++ (start_bytes m.start ++ (part_bytes 9 element_bytes m.elements ++ (part_bytes 10 func_bytes m.funcs ++ (part_bytes 11 fill_bytes m.fills)))))))) le) (λ n lt. from_4 n lt)

    from_2 : (l : ℕ) → l ≤ 1 → Reads (so_far l m.sigs [] [] [] [] [] [] None [] [] []) (part_bytes 2 import_bytes m.imports ++ (part_bytes 3 number_bytes (sigs_of m.funcs) ++ (part_bytes 4 table_bytes m.tables ++ (part_bytes 5 limits_bytes m.memories ++ (part_bytes 6 global_bytes m.globals ++ (part_bytes 7 export_bytes m.exports ++ (start_bytes m.start ++ (part_bytes 9 element_bytes m.elements ++ (part_bytes 10 func_bytes m.funcs ++ (part_bytes 11 fill_bytes m.fills))))))))))
    from_2 l le =
        part 2 import_bytes (λ n xs. so_far n m.sigs xs [] [] [] [] [] None [] [] []) l m.imports (part_bytes 3 number_bytes (sigs_of m.funcs) ++ (part_bytes 4 table_bytes m.tables ++ (part_bytes 5 limits_bytes m.memories ++ (part_bytes 6 global_bytes m.globals ++ (part_bytes 7 export_bytes m.exports ++ (start_bytes m.start ++ (part_bytes 9 element_bytes m.elements ++ (part_bytes 10 func_bytes m.funcs ++ (part_bytes 11 fill_bytes m.fills))))))))) (omega arith) (imports_section_law l (part_bytes 3 number_bytes (sigs_of m.funcs) ++ (part_bytes 4 table_bytes m.tables ++ (part_bytes 5 limits_bytes m.memories ++ (part_bytes 6 global_bytes m.globals ++ (part_bytes 7 export_bytes m.exports ++ (start_bytes m.start ++ (part_bytes 9 element_bytes m.elements ++ (part_bytes 10 func_bytes m.funcs ++ (part_bytes 11 fill_bytes m.fills))))))))) le) (λ n lt. from_3 n lt)

    from_1 : (l : ℕ) → l ≤ 0 → Reads (so_far l [] [] [] [] [] [] [] None [] [] []) (part_bytes 1 func_type_bytes m.sigs ++ (part_bytes 2 import_bytes m.imports ++ (part_bytes 3 number_bytes (sigs_of m.funcs) ++ (part_bytes 4 table_bytes m.tables ++ (part_bytes 5 limits_bytes m.memories ++ (part_bytes 6 global_bytes m.globals ++ (part_bytes 7 export_bytes m.exports ++ (start_bytes m.start ++ (part_bytes 9 element_bytes m.elements ++ (part_bytes 10 func_bytes m.funcs ++ (part_bytes 11 fill_bytes m.fills)))))))))))
    from_1 l le =
        part 1 func_type_bytes (λ n xs. so_far n xs [] [] [] [] [] [] None [] [] []) l m.sigs (part_bytes 2 import_bytes m.imports ++ (part_bytes 3 number_bytes (sigs_of m.funcs) ++ (part_bytes 4 table_bytes m.tables ++ (part_bytes 5 limits_bytes m.memories ++ (part_bytes 6 global_bytes m.globals ++ (part_bytes 7 export_bytes m.exports ++ (start_bytes m.start ++ (part_bytes 9 element_bytes m.elements ++ (part_bytes 10 func_bytes m.funcs ++ (part_bytes 11 fill_bytes m.fills)))))))))) (omega arith) (sigs_section_law l (part_bytes 2 import_bytes m.imports ++ (part_bytes 3 number_bytes (sigs_of m.funcs) ++ (part_bytes 4 table_bytes m.tables ++ (part_bytes 5 limits_bytes m.memories ++ (part_bytes 6 global_bytes m.globals ++ (part_bytes 7 export_bytes m.exports ++ (start_bytes m.start ++ (part_bytes 9 element_bytes m.elements ++ (part_bytes 10 func_bytes m.funcs ++ (part_bytes 11 fill_bytes m.fills)))))))))) le) (λ n lt. from_2 n lt)

    pub module_spelled : SpellsWithin bounds (written m) m
    unfolding module_format sections_bytes
    module_spelled =
        let r = from_1 0 (omega arith) in
        let sections = sections_bytes m in (
          tt,
          0x01 ∷ 0x00 ∷ 0x00 ∷ 0x00 ∷ sections,
          refl,
          (
            tt,
            sections,
            refl,
            (all_so_far r.0, [], r.1, (tt, [], (eq-eqb (length m.funcs) (length (sigs_of m.funcs)) (sym (length-map m.funcs (λ f. f.sig))), refl), (refl, refl))),
          ),
        )
