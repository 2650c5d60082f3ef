-- What the instructions of a body refer to (WebAssembly 1.0, 3.1).
use Rattle.std.specs.Prelude.{ℕ, List, [], ◌∷◌, ◌++◌, Option, Some, None, map, slice_get}
use Rattle.ms_types.specs.declared.types.ValType.{ValType}
use Rattle.ms_types.specs.declared.types.FuncType.{FuncType}
use Rattle.ms_types.specs.declared.types.GlobalType.{GlobalType}
use Rattle.ms_types.specs.declared.types.Limits.{Limits}
use Rattle.ms_module.specs.declared.module.ImportDesc.{ImportDesc}
use Rattle.ms_module.specs.declared.module.ImportDesc.TheVariants.{Func, Table, Memory, Global}
use Rattle.ms_module.specs.declared.module.Import.{Import}
use Rattle.ms_module.specs.declared.module.Module.{Module}

pub record Context : Type 0 where
  pub sigs : List FuncType
  -- None where a function's type is none of these
  pub funcs : List (Option FuncType)
  pub tables : List Limits
  pub memories : List Limits
  pub globals : List GlobalType
  pub locals : List ValType
  -- what `return` takes; None where there is nowhere to return to
  pub returns : Option (Option ValType)

-- ---- a module's index spaces (2.5.1): what is imported, then its own

abbrev pub with_func : ImportDesc → List ℕ → List ℕ
with_func (Func sig) rest = sig ∷ rest
with_func _ rest = rest

abbrev pub imported_funcs : List Import → List ℕ
imported_funcs [] = []
imported_funcs (i ∷ is) = with_func i.desc (imported_funcs is)

abbrev pub with_table : ImportDesc → List Limits → List Limits
with_table (Table limits) rest = limits ∷ rest
with_table _ rest = rest

abbrev pub imported_tables : List Import → List Limits
imported_tables [] = []
imported_tables (i ∷ is) = with_table i.desc (imported_tables is)

abbrev pub with_memory : ImportDesc → List Limits → List Limits
with_memory (Memory limits) rest = limits ∷ rest
with_memory _ rest = rest

abbrev pub imported_memories : List Import → List Limits
imported_memories [] = []
imported_memories (i ∷ is) = with_memory i.desc (imported_memories is)

abbrev pub with_global : ImportDesc → List GlobalType → List GlobalType
with_global (Global ty) rest = ty ∷ rest
with_global _ rest = rest

abbrev pub imported_globals : List Import → List GlobalType
imported_globals [] = []
imported_globals (i ∷ is) = with_global i.desc (imported_globals is)

-- the types of all functions, by their indices
abbrev pub sigs_of_funcs : Module → List ℕ
sigs_of_funcs m = imported_funcs m.imports ++ map (λ f. f.sig) m.funcs

abbrev pub all_tables : Module → List Limits
all_tables m = imported_tables m.imports ++ m.tables

abbrev pub all_memories : Module → List Limits
all_memories m = imported_memories m.imports ++ m.memories

abbrev pub all_globals : Module → List GlobalType
all_globals m = imported_globals m.imports ++ map (λ g. g.ty) m.globals

-- the context of a module (3.4.10)
abbrev pub context_of : Module → Context
context_of m = record {
  sigs = m.sigs;
  funcs = map (λ i. slice_get m.sigs i) (sigs_of_funcs m);
  tables = all_tables m;
  memories = all_memories m;
  globals = all_globals m;
  locals = [];
  returns = None;
}

-- the same inside a function (3.4.1)
abbrev pub inside : Context → List ValType → Option ValType → Context
inside c locals k = record {
  sigs = c.sigs;
  funcs = c.funcs;
  tables = c.tables;
  memories = c.memories;
  globals = c.globals;
  locals = locals;
  returns = Some k;
}
