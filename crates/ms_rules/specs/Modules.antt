-- Well-typed modules (WebAssembly 1.0, 3.2 and 3.4).
use Rattle.std.specs.Prelude.{◌≡◌, ◌≢◌, ◌≤◌, ◌<◌, ◌+◌, ◌^◌, ℕ, false, List, [], ◌∷◌, ◌++◌, length, map, slice_get, Option, Some, None, All}
use Rattle.ms_types.specs.declared.types.ValType.{ValType}
use Rattle.ms_types.specs.declared.types.ValType.TheVariants.{I32, I64, Handle}
use Rattle.ms_types.specs.declared.types.FuncType.{FuncType}
use Rattle.ms_types.specs.declared.types.GlobalType.{GlobalType}
use Rattle.ms_types.specs.declared.types.Limits.{Limits}
use Rattle.ms_module.specs.declared.access.Segment.TheVariants.{Null}
use Rattle.ms_module.specs.declared.instr.Instr.{Instr}
use Rattle.ms_module.specs.declared.instr.Instr.TheVariants.{GlobalGet, I32Const, I64Const, Segment}
use Rattle.ms_module.specs.declared.module.ImportDesc.{ImportDesc}
use Rattle.ms_module.specs.declared.module.ImportDesc.TheVariants as imports
use Rattle.ms_module.specs.declared.module.ExportDesc.{ExportDesc}
use Rattle.ms_module.specs.declared.module.ExportDesc.TheVariants as exports
use Rattle.ms_module.specs.declared.module.Func.{Func}
use Rattle.ms_module.specs.declared.module.Global.{Global}
use Rattle.ms_module.specs.declared.module.Element.{Element}
use Rattle.ms_module.specs.declared.module.Fill.{Fill}
use Rattle.ms_module.specs.declared.module.Module.{Module}
use Rattle.ms_rules.specs.Context.{Context, all_globals, all_memories, all_tables, context_of, imported_funcs, imported_globals, inside, sigs_of_funcs}
use Rattle.ms_rules.specs.Typing.{Typed, types}

-- ---- types (3.2)

abbrev pub MaxTyped : ℕ → ℕ → Option ℕ → Type 0
MaxTyped range min None = Unit {0}
MaxTyped range min (Some max) = (max ≤ range) × (min ≤ max)

-- limits within a range
abbrev pub LimitsTyped : ℕ → Limits → Type 0
LimitsTyped range l = (l.min ≤ range) × MaxTyped range l.min l.max

abbrev pub TableTyped : Limits → Type 0
TableTyped = LimitsTyped (2 ^ 32)

abbrev pub MemoryTyped : Limits → Type 0
MemoryTyped = LimitsTyped (2 ^ 16)

abbrev pub SigTyped : FuncType → Type 0
SigTyped t = length t.results ≤ 1

-- ---- constant expressions (3.3.7): one constant, the null handle, or an immutable global of these

abbrev pub ConstantTyped : List GlobalType → ValType → Instr → Type 0
ConstantTyped globals t (I32Const n) = t ≡ I32
ConstantTyped globals t (I64Const n) = t ≡ I64
ConstantTyped globals t (Segment Null) = t ≡ Handle
ConstantTyped globals t (GlobalGet x) = (g : GlobalType) × (slice_get globals x ≡ Some g) × (g.mutable ≡ false) × (t ≡ g.ty)
ConstantTyped globals t _ = ⊥

abbrev pub IsConstant : List GlobalType → ValType → List (List Instr) → Type 0
IsConstant globals t code = (i : Instr) × (code ≡ (i ∷ []) ∷ []) × ConstantTyped globals t i

-- ---- the parts of a module (3.4)

abbrev pub ImportTyped : Module → ImportDesc → Type 0
ImportTyped m (imports.Func sig) = sig < length m.sigs
ImportTyped m (imports.Table limits) = TableTyped limits
ImportTyped m (imports.Memory limits) = MemoryTyped limits
ImportTyped m (imports.Global ty) = Unit {0}

abbrev pub GlobalTyped : Module → Global → Type 0
GlobalTyped m g = IsConstant (imported_globals m.imports) g.ty.ty g.init

abbrev pub ElementTyped : Module → Element → Type 0
ElementTyped m e = (e.table < length (all_tables m)) × IsConstant (all_globals m) I32 e.offset × All (λ f. f < length (sigs_of_funcs m)) e.funcs

abbrev pub FillTyped : Module → Fill → Type 0
FillTyped m f = (f.memory < length (all_memories m)) × IsConstant (all_globals m) I32 f.offset

abbrev pub StartTyped : Module → Option ℕ → Type 0
StartTyped m None = Unit {0}
StartTyped m (Some f) = (t : FuncType) × (slice_get (context_of m).funcs f ≡ Some (Some t)) × (t.params ≡ []) × (t.results ≡ [])

abbrev pub ExportTyped : Module → ExportDesc → Type 0
ExportTyped m (exports.Func i) = i < length (sigs_of_funcs m)
ExportTyped m (exports.Table i) = i < length (all_tables m)
ExportTyped m (exports.Memory i) = i < length (all_memories m)
ExportTyped m (exports.Global i) = i < length (all_globals m)

abbrev pub IsNotAmong : List ℕ → List (List ℕ) → Type 0
IsNotAmong name [] = Unit {0}
IsNotAmong name (x ∷ xs) = (name ≢ x) × IsNotAmong name xs

abbrev pub AreDistinct : List (List ℕ) → Type 0
AreDistinct [] = Unit {0}
AreDistinct (x ∷ xs) = IsNotAmong x xs × AreDistinct xs

-- Every rule but those on the bodies of functions.
pub record Head (m : Module) : Type 0 where
  pub sigs : All SigTyped m.sigs
  pub imports : All (λ i. ImportTyped m i.desc) m.imports
  pub funcs : All (λ f. f.sig < length m.sigs) m.funcs
  pub tables : All TableTyped m.tables
  pub memories : All MemoryTyped m.memories
  pub globals : All (GlobalTyped m) m.globals
  pub elements : All (ElementTyped m) m.elements
  pub fills : All (FillTyped m) m.fills
  pub start : StartTyped m m.start
  pub exports : All (λ e. ExportTyped m e.desc) m.exports
  pub names : AreDistinct (map (λ e. e.name) m.exports)
  pub one_table : length (all_tables m) ≤ 1
  pub one_memory : length (all_memories m) ≤ 1

-- The body of a function leaves its result (3.4.1).
abbrev pub FuncTyped : Context → Func → Type 0
FuncTyped c f =
    (t : FuncType) × (k : Option ValType) × (slice_get c.sigs f.sig ≡ Some t) × (t.results ≡ types k)
    × Typed (inside c (t.params ++ f.locals) k) f.body (k ∷ []) 0 k

pub record WellTyped (m : Module) : Type 0 where
  pub head : Head m
  pub funcs : All (FuncTyped (context_of m)) m.funcs

-- ---- what is wrong with a module

-- The function of this index, behind the imported ones, is the first whose body is not typed.
pub record IsFirstUntyped (m : Module) (index : ℕ) : Type 0 where
  pub number : ℕ
  pub index_is : index ≡ length (imported_funcs m.imports) + number
  pub func : Func
  pub func_is : slice_get m.funcs number ≡ Some func
  pub untyped : FuncTyped (context_of m) func → ⊥
  pub least : (n : ℕ) (f : Func) → n < number → slice_get m.funcs n ≡ Some f → FuncTyped (context_of m) f
