-- What holds of the parts of a module that a program holds: names are UTF-8, numbers within their types. The private functions of
-- this crate say so of what they write.
use Rattle.std.specs.Prelude.{◌≡◌, ◌<◌, ◌^◌, true, List, ℕ, length, map}
use Rattle.std.specs.Str.{is_utf8}
use Rattle.ms_module.specs.declared.module.Import.{Import}
use Rattle.ms_module.specs.declared.module.Func.{Func}
use Rattle.ms_module.specs.declared.module.Export.{Export}
use Rattle.ms_module.specs.declared.module.Fill.{Fill}
use Rattle.ms_module.specs.declared.module.Module.{Module}
use Rattle.ms_flat.specs.refinement.Ranges.{AllFit, CodeFits, ElementFits, ExportDescFits, GlobalFits, ImportDescFits, LimitsFit, NumberFits, NumberFitsIf}

abbrev pub NameFits : List ℕ → Type 0
NameFits name = is_utf8 name ≡ true

abbrev pub ImportFits : Import → Type 0
ImportFits i = NameFits i.«module» × NameFits i.name × ImportDescFits i.desc

abbrev pub ExportFits : Export → Type 0
ExportFits e = NameFits e.name × ExportDescFits e.desc

abbrev pub FillFits : Fill → Type 0
FillFits f = (f.memory < 2 ^ 32) × CodeFits f.offset

abbrev pub FuncFits : Func → Type 0
FuncFits f = (length f.locals < 2 ^ 32) × CodeFits f.body

pub record ModuleFits (m : Module) : Type 0 where
  pub imports : AllFit ImportFits m.imports
  pub indices : AllFit NumberFits (map (λ f. f.sig) m.funcs)
  pub tables : AllFit LimitsFit m.tables
  pub memories : AllFit LimitsFit m.memories
  pub globals : AllFit GlobalFits m.globals
  pub exports : AllFit ExportFits m.exports
  pub start : NumberFitsIf m.start
  pub elements : AllFit ElementFits m.elements
  pub funcs : AllFit FuncFits m.funcs
  pub fills : AllFit FillFits m.fills
