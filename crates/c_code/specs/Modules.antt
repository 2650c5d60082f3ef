-- The module of a unit of C (C11, 6.9; WebAssembly 1.0, 2.5): `compiled`, at the end.
use Rattle.std.specs.Prelude.{ℕ, zero, suc, ◌+◌, max, Bool, true, false, not, ◌||◌, ◌&&◌, ◌==◌, ℤ, pos, List, [], ◌∷◌, ◌++◌, codes, length, map, position, Option, Some, None, is_none, is_some, if◌then◌else◌, get_or, slice_get}
use Rattle.std.specs.List.{filter, list_any}
use Rattle.std.specs.Str.{bytes_eq}
use Rattle.ms_types.specs.declared.types.FuncType.{FuncType}
use Rattle.ms_types.specs.declared.types.GlobalType.{GlobalType}
use Rattle.ms_types.specs.declared.types.Limits.{Limits}
use Rattle.ms_types.specs.declared.types.ValType.{ValType}
use Rattle.ms_types.specs.declared.types.ValType.TheVariants as vals
use Rattle.ms_linear.specs.Table.{same_sig}
use Rattle.ms_module.specs.declared.access.Segment.TheVariants as segment
use Rattle.ms_module.specs.declared.instr.Instr.{Instr}
use Rattle.ms_module.specs.declared.instr.Instr.TheVariants.{I32Const, I64Const, Segment}
use Rattle.ms_module.specs.declared.module.Element.{Element}
use Rattle.ms_module.specs.declared.module.Export.{Export}
use Rattle.ms_module.specs.declared.module.ExportDesc.TheVariants as exports
use Rattle.ms_module.specs.declared.module.Func.{Func}
use Rattle.ms_module.specs.declared.module.Global.{Global as GlobalEntry}
use Rattle.ms_module.specs.declared.module.Import.{Import}
use Rattle.ms_module.specs.declared.module.ImportDesc.TheVariants as imports
use Rattle.ms_module.specs.declared.module.Module.{Module}
use Rattle.c_types.specs.Types.{Ty, void, function, pointer, is_function}
use Rattle.c_typed.specs.declared.ops.Variable.{Variable}
use Rattle.c_typed.specs.declared.ops.Variable.TheVariants.{Local, Global}
use Rattle.c_typed.specs.Objects.{is_object}
use Rattle.c_typed.specs.Tree.{Stmt, Function, Made, global, text, Typed}
use Rattle.c_typed.specs.Units.{literals_in, numbers}
use Rattle.c_meaning.specs.Units.{is_global_object}
use Rattle.ms_emit.specs.Codes.{inner, one}
use Rattle.c_code.specs.Functions.{body, held_as, listed, locals, params_in, result_in, signature, start}
use Rattle.c_code.specs.Operations.{constant, i32, zero_of}
use Rattle.c_code.specs.Targets.{Target}
use Rattle.c_code.specs.Uses.{Use, calls, copies, names, through, uses, waits_stmt}

-- ---- functions, by their numbers in the unit

abbrev pub function_at : Typed → ℕ → Option Function
function_at u n = slice_get u.functions n

abbrev pub is_defined : Option Function → Bool
is_defined None = false
is_defined (Some f) = is_some f.body

abbrev pub is_defined_at : Typed → ℕ → Bool
is_defined_at u n = is_defined (function_at u n)

abbrev pub all_functions : Typed → List ℕ
all_functions u = numbers (length u.functions)

abbrev pub is_call_of : ℕ → Use → Bool
is_call_of n (calls m) = m == n
is_call_of n (names m) = m == n
is_call_of n _ = false

abbrev pub is_name_of : ℕ → Use → Bool
is_name_of n (names m) = m == n
is_name_of n _ = false

-- those that are used and not defined: they are imported from `c`
abbrev pub imported : Typed → List ℕ
imported u = filter (λ n. not (is_defined_at u n) && list_any (is_call_of n) (uses u)) (all_functions u)

abbrev pub defined : Typed → List ℕ
defined u = filter (is_defined_at u) (all_functions u)

-- those that are values: they have an entry in the table
abbrev pub named : Typed → List ℕ
named u = filter (λ n. list_any (is_name_of n) (uses u)) (all_functions u)

-- where a number stands in a list of them
abbrev pub rank_in : List ℕ → ℕ → ℕ
rank_in ms n = or_length (position (λ m. m == n) ms) where
  or_length : Option ℕ → ℕ
  or_length None = 0
  or_length (Some i) = i

-- ---- indices: three functions of the host, then what is imported from `c`, then what is defined, and then the start function

abbrev pub index_of : Typed → ℕ → ℕ
index_of u n = if is_defined_at u n then 3 + length (imported u) + rank_in (defined u) n else 3 + rank_in (imported u) n

-- entry 0 of the table stays empty: a call of the null pointer finds nothing there
abbrev pub entry_of : Typed → ℕ → ℕ
entry_of u n = suc (rank_in (named u) n)

-- ---- types of functions: three of the host, then one for each function, and then those of the calls through pointers

abbrev pub through_in : List Use → List FuncType
through_in [] = []
through_in (through t ∷ xs) = signature t ∷ through_in xs
through_in (x ∷ xs) = through_in xs

-- each once, in the order in which they come first
abbrev pub distinct_behind : List FuncType → List FuncType → List FuncType
distinct_behind seen [] = seen
distinct_behind seen (t ∷ ts) = distinct_behind (if list_any (same_sig t) seen then seen else seen ++ t ∷ []) ts

abbrev pub sigs_through : Typed → List FuncType
sigs_through u = distinct_behind [] (through_in (uses u))

abbrev pub place_of : FuncType → List FuncType → ℕ
place_of t ts = or_first (position (same_sig t) ts) where
  or_first : Option ℕ → ℕ
  or_first None = 0
  or_first (Some i) = i

abbrev pub sig_of : Typed → Ty → ℕ
sig_of u t = 3 + length u.functions + place_of (signature t) (sigs_through u)

abbrev pub host_sigs : List FuncType
host_sigs =
    record { params = vals.I32 ∷ []; results = vals.I32 ∷ [] } ∷ record { params = []; results = vals.I32 ∷ [] } ∷ record { params = []; results = [] } ∷ []

-- ---- what code refers to

-- of a function with these slots, of which the first k are its parameters
module _ (u : Typed) where
  abbrev pub is_object_in : (body : Stmt) → List Ty → Variable → Bool
  is_object_in s slots (Local n) = is_object s n (get_or slots n void)
  is_object_in s slots (Global n) = is_global_object u n (get_or u.globals n void)

  abbrev pub target : (is_object : Variable → Bool) → (first scratch : ℕ) → Target
  target p first scratch = record {
    structs = u.structs;
    index = index_of u;
    entry = entry_of u;
    sig = sig_of u;
    globals = length u.globals;
    is_object = p;
    first = first;
    scratch = scratch;
  }

  -- where a parameter is an object, the slots stand behind the parameters
  abbrev pub first_of : (is_object : Variable → Bool) → (params : ℕ) → ℕ
  first_of p k = if list_any (λ n. p (Local n)) (numbers k) then k else 0

  abbrev pub target_of : Function → Stmt → Target
  target_of f s =
      let p = is_object_in s f.slots in
      let first = first_of p (length (params_in f.ty)) in target p first (first + length f.slots)

  abbrev pub no_slots : Variable → Bool
  no_slots (Local n) = false
  no_slots (Global n) = is_global_object u n (get_or u.globals n void)

  abbrev pub start_target : Target
  start_target = target no_slots 0 0

  -- ---- functions

  abbrev pub func_of : (number : ℕ) → Function → Option Stmt → List Func
  func_of n f None = []
  func_of n f (Some s) =
      let t = target_of f s in
      record { sig = 3 + n; locals = locals t (length (params_in f.ty)) f.slots (waits_stmt s); body = body t f s } ∷ []

  abbrev pub funcs_from : (number : ℕ) → List Function → List Func
  funcs_from n [] = []
  funcs_from n (f ∷ fs) = func_of n f f.body ++ funcs_from (suc n) fs

  abbrev pub waits_values : List Stmt → ℕ
  waits_values [] = 0
  waits_values (s ∷ ss) = max (waits_stmt s) (waits_values ss)

  abbrev pub waits_made : List Made → ℕ
  waits_made [] = 0
  waits_made (global n ss ∷ ms) = max (waits_values ss) (waits_made ms)
  waits_made (text bytes ∷ ms) = waits_made ms

  abbrev pub start_func : Func
  start_func = record { sig = 2; locals = locals start_target 0 [] (waits_made u.made); body = start start_target u.globals u.made }

  -- ---- imports and exports

  abbrev pub import_of : (module' name : List ℕ) → (sig : ℕ) → Import
  import_of m name sig = record { «module» = m; name = name; desc = imports.Func sig }

  abbrev pub name_in : Option Function → List ℕ
  name_in None = []
  name_in (Some f) = f.name

  abbrev pub import_from_c : ℕ → Import
  import_from_c n = import_of (codes "c") (name_in (function_at u n)) (3 + n)

  -- a `main` that gives a pointer to a function is no task (5.1.2.2.1)
  abbrev pub gives_function : Ty → Bool
  gives_function (function (pointer t) ps) = is_function t
  gives_function t = false

  abbrev pub is_exported : Function → Bool
  is_exported f = not (bytes_eq (codes "main") f.name && gives_function f.ty)

  abbrev pub export_of : ℕ → Option Function → List Export
  export_of n None = []
  export_of n (Some f) = if is_exported f then record { name = f.name; desc = exports.Func (index_of u n) } ∷ [] else []

  abbrev pub exports_of : List ℕ → List Export
  exports_of [] = []
  exports_of (n ∷ ns) = export_of n (function_at u n) ++ exports_of ns

  -- ---- globals: the variables, and then the handles of the literals

  abbrev pub first_of_type : ValType → Instr
  first_of_type vals.I32 = I32Const (pos 0)
  first_of_type vals.I64 = I64Const (pos 0)
  first_of_type vals.Handle = Segment segment.Null

  abbrev pub global_of : ValType → GlobalEntry
  global_of v = record { ty = record { ty = v; mutable = true }; init = (first_of_type v ∷ []) ∷ [] }

  abbrev pub globals_from : (n : ℕ) → List Ty → List GlobalEntry
  globals_from n [] = []
  globals_from n (t ∷ ts) = global_of (held_as (no_slots (Global n)) t) ∷ globals_from (suc n) ts

  abbrev pub literal_globals : ℕ → List GlobalEntry
  literal_globals zero = []
  literal_globals (suc n) = global_of vals.Handle ∷ literal_globals n

  -- ---- the module

  abbrev pub compiled : Module
  compiled = record {
    sigs = host_sigs ++ (map (λ f. signature f.ty) u.functions ++ sigs_through u);
    imports =
        import_of (codes "env") (codes "putchar") 0 ∷ import_of (codes "env") (codes "getchar") 1 ∷ import_of (codes "env") (codes "abort") 2
        ∷ map import_from_c (imported u);
    funcs = funcs_from 0 u.functions ++ start_func ∷ [];
    tables = record { min = suc (length (named u)); max = Some (suc (length (named u))) } ∷ [];
    memories = [];
    globals = globals_from 0 u.globals ++ literal_globals (literals_in u.made);
    exports = exports_of (defined u);
    elements = record { table = 0; offset = (I32Const (pos 1) ∷ []) ∷ []; funcs = map (index_of u) (named u) } ∷ [];
    fills = [];
    start = Some (3 + length (imported u) + length (defined u));
  }
