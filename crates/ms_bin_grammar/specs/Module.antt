-- How modules are spelled (WebAssembly 1.0, 5.5).
use Rattle.std.specs.Prelude.{◌≡◌, ◌==◌, ◌+◌, ◌<◌, ◌^◌, ℕ, Bool, List, [], ◌∷◌, ◌++◌, length, replicate, nat_le, nat_lt, not, Some, None, Err}
use Rattle.std.proofs.Common.{arith}
use Rattle.ms_bytes.specs.Do.{◌>>=◌}
use Rattle.ms_bytes.specs.Parts.{pure}
use Rattle.ms_bytes.specs.Tests.{check, marks, only, rest}
use Rattle.ms_bytes.specs.Runs.{TakesItem}
use Rattle.ms_bytes.specs.RunLaws.{takes_least}
use Rattle.ms_bytes.specs.Repetition.{each, repeat, run}
use Rattle.ms_bytes.specs.Codes.{Case, Is, IsIf}
use Rattle.ms_types.specs.declared.types.ValType.{ValType}
use Rattle.ms_module.specs.declared.module.ImportDesc.{ImportDesc}
use Rattle.ms_module.specs.declared.module.ImportDesc.TheVariants as imported
use Rattle.ms_module.specs.declared.module.Import.{Import}
use Rattle.ms_module.specs.declared.module.Func.{Func}
use Rattle.ms_module.specs.declared.module.Global.{Global}
use Rattle.ms_module.specs.declared.module.ExportDesc.{ExportDesc}
use Rattle.ms_module.specs.declared.module.ExportDesc.TheVariants as exported
use Rattle.ms_module.specs.declared.module.Export.{Export}
use Rattle.ms_module.specs.declared.module.Element.{Element}
use Rattle.ms_module.specs.declared.module.Fill.{Fill}
use Rattle.ms_module.specs.declared.module.Module.{Module}
use Rattle.ms_bin_grammar.specs.declared.fault.Counted.TheVariants.{Locals}
use Rattle.ms_bin_grammar.specs.declared.fault.ReadFault.{ReadFault}
use Rattle.ms_bin_grammar.specs.declared.fault.ReadFault.TheVariants.{Limit, Malformed}
use Rattle.ms_bin_grammar.specs.declared.sections.Sections.{Sections}
use Rattle.ms_bin_grammar.specs.Faults.{Binary, malformed}
use Rattle.ms_bin_grammar.specs.Numbers.{number, vec}
use Rattle.ms_bin_grammar.specs.Bounds.{Bounds, usual}
use Rattle.ms_bin_grammar.specs.Sizes.{bytes, name, sized}
use Rattle.ms_bin_grammar.specs.Types.{func_type, global_type, limits, one_of, table_type, val_type}
use Rattle.ms_bin_grammar.specs.Body.{body}
use Rattle.ms_bytes.specs.Spot.{place_of}

-- ---- imports (5.5.5)

unfoldable pub import_desc : Binary ImportDesc
import_desc = one_of ((
  0x00,
  Is (do
    sig ← number
    pure (imported.Func sig)),
) ∷ (
  0x01,
  Is (do
    size ← table_type
    pure (imported.Table size)),
) ∷ (
  0x02,
  Is (do
    size ← limits
    pure (imported.Memory size)),
) ∷ (
  0x03,
  Is (do
    ty ← global_type
    pure (imported.Global ty)),
) ∷ [])

unfoldable pub import : Binary Import
import = do
  source ← name
  known_as ← name
  desc ← import_desc
  pure (record { «module» = source; name = known_as; desc = desc })

-- ---- globals (5.5.9)

unfoldable pub global : Bounds → Binary Global
global bounds = do
  ty ← global_type
  init ← body bounds.blocks
  pure (record { ty = ty; init = init })

-- ---- exports (5.5.10)

unfoldable pub export_desc : Binary ExportDesc
export_desc = one_of ((
  0x00,
  Is (do
    i ← number
    pure (exported.Func i)),
) ∷ (
  0x01,
  Is (do
    i ← number
    pure (exported.Table i)),
) ∷ (
  0x02,
  Is (do
    i ← number
    pure (exported.Memory i)),
) ∷ (
  0x03,
  Is (do
    i ← number
    pure (exported.Global i)),
) ∷ [])

unfoldable pub export : Binary Export
export = do
  known_as ← name
  desc ← export_desc
  pure (record { name = known_as; desc = desc })

-- ---- entries of tables and bytes of memories (5.5.12 and 5.5.14)

unfoldable pub element : Bounds → Binary Element
element bounds = do
  table ← number
  offset ← body bounds.blocks
  funcs ← vec number
  pure (record { table = table; offset = offset; funcs = funcs })

unfoldable pub fill : Bounds → Binary Fill
fill bounds = do
  memory ← number
  offset ← body bounds.blocks
  count ← number
  content ← bytes count
  pure (record { memory = memory; offset = offset; bytes = content })

-- ---- functions (5.5.13): the types are in one section, the locals and bodies in another

-- so many more locals of one type
unfoldable pub more_locals : Bounds → List ValType → Binary (List ValType)
more_locals bounds before = do
  count ← only (λ n text. nat_le (length before + n) bounds.locals) (λ end s. Limit Locals (place_of end s)) number
  ty ← val_type
  pure (before ++ replicate count ty)

unfoldable pub locals : Bounds → Binary (List ValType)
locals bounds = do
  count ← number
  repeat (more_locals bounds) count []

-- the locals and the body of a function whose type has this index
unfoldable pub func : Bounds → ℕ → Binary Func
func bounds sig = do
  declared ← locals bounds
  instrs ← body bounds.blocks
  pure (record { sig = sig; locals = declared; body = instrs })

-- as many functions as types
unfoldable pub funcs : Bounds → List ℕ → Binary (List Func)
funcs bounds sigs = do
  count ← only (λ n text. n == length sigs) malformed number
  each (λ sig. sized (func bounds sig)) sigs

-- ---- custom sections (5.5.3): a name and any bytes

unfoldable pub custom : Binary (Unit {0})
custom = do
  known_as ← name
  any ← rest
  pure tt

-- ---- sections (5.5.2)

-- no section so far
abbrev pub nothing_yet : Sections
nothing_yet = record {
  last = 0;
  sigs = [];
  imports = [];
  indices = [];
  tables = [];
  memories = [];
  globals = [];
  exports = [];
  start = None;
  elements = [];
  funcs = [];
  fills = [];
}

-- Each section but the custom ones comes at most once, and their numbers rise.
unfoldable pub section_rows : Bounds → Sections → List (ℕ × Case ReadFault Sections)
section_rows bounds so_far = (
  0,
  Is (do
    dropped ← sized custom
    pure so_far),
) ∷ (
  1,
  IsIf (nat_lt so_far.last 1) Malformed (do
    sigs ← sized (vec func_type)
    pure (record so_far { last = 1; sigs = sigs })),
) ∷ (
  2,
  IsIf (nat_lt so_far.last 2) Malformed (do
    imports ← sized (vec import)
    pure (record so_far { last = 2; imports = imports })),
) ∷ (
  3,
  IsIf (nat_lt so_far.last 3) Malformed (do
    indices ← sized (vec number)
    pure (record so_far { last = 3; indices = indices })),
) ∷ (
  4,
  IsIf (nat_lt so_far.last 4) Malformed (do
    tables ← sized (vec table_type)
    pure (record so_far { last = 4; tables = tables })),
) ∷ (
  5,
  IsIf (nat_lt so_far.last 5) Malformed (do
    memories ← sized (vec limits)
    pure (record so_far { last = 5; memories = memories })),
) ∷ (
  6,
  IsIf (nat_lt so_far.last 6) Malformed (do
    globals ← sized (vec (global bounds))
    pure (record so_far { last = 6; globals = globals })),
) ∷ (
  7,
  IsIf (nat_lt so_far.last 7) Malformed (do
    exports ← sized (vec export)
    pure (record so_far { last = 7; exports = exports })),
) ∷ (
  8,
  IsIf (nat_lt so_far.last 8) Malformed (do
    start ← sized number
    pure (record so_far { last = 8; start = Some start })),
) ∷ (
  9,
  IsIf (nat_lt so_far.last 9) Malformed (do
    elements ← sized (vec (element bounds))
    pure (record so_far { last = 9; elements = elements })),
) ∷ (
  10,
  IsIf (nat_lt so_far.last 10) Malformed (do
    funcs ← sized (funcs bounds so_far.indices)
    pure (record so_far { last = 10; funcs = funcs })),
) ∷ (
  11,
  IsIf (nat_lt so_far.last 11) Malformed (do
    fills ← sized (vec (fill bounds))
    pure (record so_far { last = 11; fills = fills })),
) ∷ []

-- whether anything is left
abbrev pub has_more : Sections → List ℕ → Bool
has_more so_far s = not (length s == 0)

unfoldable pub section : Bounds → Sections → Binary Sections
section bounds so_far = one_of (section_rows bounds so_far)

pub section_takes_byte : (bounds : Bounds) → TakesItem has_more (section bounds)
unfolding section
section_takes_byte bounds = takes_least has_more (section bounds) (λ so_far. omega arith)

abbrev pub module_of : Sections → Module
module_of so_far = record {
  sigs = so_far.sigs;
  imports = so_far.imports;
  funcs = so_far.funcs;
  tables = so_far.tables;
  memories = so_far.memories;
  globals = so_far.globals;
  exports = so_far.exports;
  elements = so_far.elements;
  fills = so_far.fills;
  start = so_far.start;
}

-- ---- modules (5.5.15): two markers and the sections. A missing code section counts as one of no functions.

unfoldable pub module_format : Bounds → Binary Module
module_format bounds = do
  magic ← marks malformed (0x00 ∷ 0x61 ∷ 0x73 ∷ 0x6D ∷ [])
  version ← marks malformed (0x01 ∷ 0x00 ∷ 0x00 ∷ 0x00 ∷ [])
  last ← run malformed has_more (section bounds) (section_takes_byte bounds) nothing_yet
  counted ← check malformed (length last.funcs == length last.indices)
  pure (module_of last)

-- These bytes are a spelling of this module, which keeps the bounds.
abbrev pub SpellsWithin : Bounds → List ℕ → Module → Type 0
SpellsWithin bounds bytes m = (module_format bounds).spelled bytes m []

-- These bytes are a spelling of this module. A function declares fewer than 2^32 locals (5.5.13).
abbrev pub Spells : List ℕ → Module → Type 0
Spells bytes m = (bounds : Bounds) × (bounds.locals < 2 ^ 32) × SpellsWithin bounds bytes m

-- Read from left to right by the same grammar, these bytes have their first fault there: the first item that is none of
-- those that may stand there, or the first that passes a usual bound.
abbrev pub Stops : List ℕ → ReadFault → Type 0
Stops bytes fault = (module_format usual).read (length bytes) bytes ≡ Err fault
