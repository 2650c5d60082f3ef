-- What the module of a unit makes known to other modules and takes from them, in the unit's terms (WebAssembly 1.0, 2.5.10 and
-- 2.5.11).
use Rattle.std.specs.Prelude.{◌≡◌, ℕ, ◌+◌, true, List, [], ◌∷◌, codes, length, slice_get, Some, None, All}
use Rattle.std.specs.List.{list_any}
use Rattle.ms_types.specs.declared.types.FuncType.{FuncType}
use Rattle.ms_types.specs.declared.types.ValType.TheVariants as vals
use Rattle.ms_module.specs.declared.module.Export.{Export}
use Rattle.ms_module.specs.declared.module.ExportDesc.TheVariants as exports
use Rattle.ms_module.specs.declared.module.Func.{Func}
use Rattle.ms_module.specs.declared.module.Import.{Import}
use Rattle.ms_module.specs.declared.module.ImportDesc.{ImportDesc}
use Rattle.ms_module.specs.declared.module.ImportDesc.TheVariants as imports
use Rattle.ms_module.specs.declared.module.Module.{Module}
use Rattle.ms_rules.specs.Context.{imported_funcs}
use Rattle.c_typed.specs.Tree.{Function, Stmt, Typed}
use Rattle.c_code.specs.Functions.{body, signature}
use Rattle.c_code.specs.Modules.{compiled, is_call_of, is_exported, target_of}
use Rattle.c_code.specs.Uses.{uses}

-- ---- functions of the unit

-- the function of this number is f, and this is its body
pub record Defines (u : Typed) (number : ℕ) (f : Function) (code : Stmt) : Type 0 where
  pub at : slice_get u.functions number ≡ Some f
  pub body_is : f.body ≡ Some code

-- the function of this number is f; the unit calls it or has it as a value, and doesn't define it
pub record Lacks (u : Typed) (number : ℕ) (f : Function) : Type 0 where
  pub at : slice_get u.functions number ≡ Some f
  pub body_is : f.body ≡ None
  pub used : list_any (is_call_of number) (uses u) ≡ true

-- Behind the imported functions, the function of this index in the module has the code of f, and the type of its type in C.
pub record IsCompiled (u : Typed) (index : ℕ) (f : Function) (code : Stmt) : Type 0 where
  pub number : ℕ
  pub func : Func
  pub index_is : index ≡ length (imported_funcs (compiled u).imports) + number
  pub at : slice_get (compiled u).funcs number ≡ Some func
  pub body_is : func.body ≡ body (target_of u f code) f code
  pub sig_is : slice_get (compiled u).sigs func.sig ≡ Some (signature f.ty)

-- ---- exports

-- f by its name
pub record IsExport (u : Typed) (e : Export) (f : Function) (code : Stmt) : Type 0 where
  pub name_is : e.name ≡ f.name
  pub index : ℕ
  pub desc_is : e.desc ≡ exports.Func index
  pub compiled_is : IsCompiled u index f code

-- a function that the unit defines, and that is made known: each is, but a `main` that gives a pointer to a function
pub record IsMadeKnown (u : Typed) (e : Export) : Type 0 where
  pub number : ℕ
  pub function : Function
  pub code : Stmt
  pub defined : Defines u number function code
  pub exported : is_exported u function ≡ true
  pub is : IsExport u e function code

pub record MakesKnown (u : Typed) : Type 0 where
  -- nothing but the functions that the unit defines
  pub only : All (IsMadeKnown u) (compiled u).exports
  -- all of them
  pub all : (number : ℕ) (f : Function) (code : Stmt) → Defines u number f code → is_exported u f ≡ true
      → (e : Export) × (i : ℕ) × (slice_get (compiled u).exports i ≡ Some e) × IsExport u e f code

-- ---- imports

abbrev pub IsFunctionOf : Module → ImportDesc → FuncType → Type 0
IsFunctionOf m (imports.Func sig) t = slice_get m.sigs sig ≡ Some t
IsFunctionOf m _ t = ⊥

-- a function of this type, by the name of its module and its own
pub record IsImport (m : Module) (i : Import) (from name : List ℕ) (t : FuncType) : Type 0 where
  pub from_is : i.«module» ≡ from
  pub name_is : i.name ≡ name
  pub function_is : IsFunctionOf m i.desc t

abbrev pub IsPutchar : Typed → Import → Type 0
IsPutchar u i = let m = compiled u in
    IsImport m i (codes "env") (codes "putchar") (record { params = vals.I32 ∷ []; results = vals.I32 ∷ [] })

abbrev pub IsGetchar : Typed → Import → Type 0
IsGetchar u i = let m = compiled u in
    IsImport m i (codes "env") (codes "getchar") (record { params = []; results = vals.I32 ∷ [] })

abbrev pub IsAbort : Typed → Import → Type 0
IsAbort u i = let m = compiled u in IsImport m i (codes "env") (codes "abort") (record { params = []; results = [] })

-- f by its name, from the module `c`
abbrev pub IsFromC : Typed → Import → Function → Type 0
IsFromC u i f = IsImport (compiled u) i (codes "c") f.name (signature f.ty)

-- one of the host's functions, or a function that the unit uses and doesn't define
pub data IsTaken (u : Typed) (i : Import) : Type 0 where
  putchar : IsPutchar u i → IsTaken u i
  getchar : IsGetchar u i → IsTaken u i
  abort : IsAbort u i → IsTaken u i
  from_c : (number : ℕ) (f : Function) → Lacks u number f → IsFromC u i f → IsTaken u i

-- an import of the module
abbrev pub Imports : Typed → (Import → Type 0) → Type 0
Imports u P = (i : Import) × (n : ℕ) × (slice_get (compiled u).imports n ≡ Some i) × P i

pub record Takes (u : Typed) : Type 0 where
  pub only : All (IsTaken u) (compiled u).imports
  pub putchar : Imports u (IsPutchar u)
  pub getchar : Imports u (IsGetchar u)
  pub abort : Imports u (IsAbort u)
  pub all : (number : ℕ) (f : Function) → Lacks u number f → Imports u (λ i. IsFromC u i f)
