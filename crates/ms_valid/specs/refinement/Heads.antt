-- The rules of a module's parts, by its context.
use Rattle.std.specs.Prelude.{◌≡◌, ◌≤◌, ◌<◌, ℕ, List, [], length, slice_get, Option, Some, None, All}
use Rattle.ms_types.specs.declared.types.ValType.TheVariants.{I32}
use Rattle.ms_types.specs.declared.types.FuncType.{FuncType}
use Rattle.ms_types.specs.declared.types.GlobalType.{GlobalType}
use Rattle.ms_module.specs.declared.module.ExportDesc.{ExportDesc}
use Rattle.ms_module.specs.declared.module.ExportDesc.TheVariants as exports
use Rattle.ms_module.specs.declared.module.Element.{Element}
use Rattle.ms_module.specs.declared.module.Fill.{Fill}
use Rattle.ms_module.specs.declared.module.Global.{Global}
use Rattle.ms_module.specs.declared.module.Module.{Module}
use Rattle.ms_rules.specs.Context.{Context, imported_globals}
use Rattle.ms_rules.specs.Modules.{ImportTyped, IsConstant, MemoryTyped, SigTyped, TableTyped}

-- of a global, where its first value may read these globals
unfoldable pub GlobalIn : List GlobalType → Global → Type 0
GlobalIn globals g = IsConstant globals g.ty.ty g.init

unfoldable pub ElementIn : Context → Element → Type 0
ElementIn c e = (e.table < length c.tables) × IsConstant c.globals I32 e.offset × All (λ f. f < length c.funcs) e.funcs

unfoldable pub FillIn : Context → Fill → Type 0
FillIn c f = (f.memory < length c.memories) × IsConstant c.globals I32 f.offset

abbrev pub StartIn : Context → Option ℕ → Type 0
StartIn c None = Unit {0}
StartIn c (Some f) = (t : FuncType) × (slice_get c.funcs f ≡ Some (Some t)) × (t.params ≡ []) × (t.results ≡ [])

abbrev pub ExportIn : Context → ExportDesc → Type 0
ExportIn c (exports.Func i) = i < length c.funcs
ExportIn c (exports.Table i) = i < length c.tables
ExportIn c (exports.Memory i) = i < length c.memories
ExportIn c (exports.Global i) = i < length c.globals

-- ---- the rules of a module but for those on the names of exports and on bodies, in three groups

unfoldable pub DeclarationsTyped : Module → Type 0
DeclarationsTyped m =
    All SigTyped m.sigs × All (λ i. ImportTyped m i.desc) m.imports × All (λ f. f.sig < length m.sigs) m.funcs
    × All TableTyped m.tables × All MemoryTyped m.memories

unfoldable pub ExpressionsTyped : Context → Module → Type 0
ExpressionsTyped c m = All (GlobalIn (imported_globals m.imports)) m.globals × All (ElementIn c) m.elements × All (FillIn c) m.fills

unfoldable pub IndicesTyped : Context → Module → Type 0
IndicesTyped c m = StartIn c m.start × All (λ e. ExportIn c e.desc) m.exports × (length c.tables ≤ 1) × (length c.memories ≤ 1)

pub record PartsTyped (c : Context) (m : Module) : Type 0 where
  pub declarations : DeclarationsTyped m
  pub expressions : ExpressionsTyped c m
  pub indices : IndicesTyped c m
