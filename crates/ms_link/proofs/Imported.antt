-- What is imported, by kind: the addresses name what the module's index spaces say.
use Rattle.std.proofs.Common.{◌≡◌, ◌≤◌, ◌<◌, ℕ, zero, suc, ◌+◌, List, [], ◌∷◌, All, length, map, slice_get, Option, Some, None, refl, sym, ap, ◌∙◌, arith}
use Rattle.std.proofs.lemmas.List.Elements.{All-cons, All-nil}
use Rattle.std.proofs.lemmas.Option.{get_or_from_slice_get, slice_get_within}
use Rattle.ms_host.specs.declared.host.Host.{Host as HostFunc}
use Rattle.ms_linear.specs.declared.global.GlobalInst.{GlobalInst}
use Rattle.ms_linear.specs.Values.{global_type_of, type_of}
use Rattle.ms_module.specs.declared.module.Import.{Import}
use Rattle.ms_module.specs.declared.module.ImportDesc.{ImportDesc}
use Rattle.ms_module.specs.declared.module.ImportDesc.TheVariants as imports
use Rattle.ms_rules.specs.Context.{imported_funcs, imported_globals, imported_memories, imported_tables, with_func, with_global, with_memory, with_table}
use Rattle.ms_task.specs.declared.func.FuncInst.{FuncInst}
use Rattle.ms_types.specs.declared.types.FuncType.{FuncType}
use Rattle.ms_types.specs.declared.types.GlobalType.{GlobalType}
use Rattle.ms_types.specs.declared.types.Limits.{Limits}
use Rattle.ms_machine.specs.declared.externs.Extern.{Extern}
use Rattle.ms_machine.specs.declared.externs.Extern.TheVariants.{Host, Func, Table, Memory, Global}
use Rattle.ms_machine.specs.Externs.{Made}
use Rattle.ms_machine.specs.Linked.{funcs_in, globals_in, host_func, host_funcs, memory_in, table_in, value_at, values_at}
use Rattle.ms_machine.specs.Typing.{func_type, global_type}
use Rattle.ms_link.proofs.Given.{AreGiven, IsGiven}
use Rattle.ms_link.proofs.Standing.{GoesOn, StandsFrom, get_on}

-- ---- functions

module _ (made : Made) (sigs : List FuncType) (number : ℕ) (all : List FuncInst) (on : GoesOn made.funcs all) where
  abbrev Named : (n : ℕ) → List Import → List Extern → Type 0
  Named n is es = map (λ a. func_type (slice_get all a)) (funcs_in n es) ≡ map (λ x. slice_get sigs x) (imported_funcs is)

  func_named : (x n : ℕ) (i : Import) (is : List Import) (e : Extern) (es : List Extern) → IsGiven made sigs i.desc e → StandsFrom all n (host_funcs number x (e ∷ es))
      → ((y m : ℕ) → StandsFrom all m (host_funcs number y es) → Named m is es) → Named n (i ∷ is) (e ∷ es)
  func_named x n i is e es given stands later = by i.desc e given stands where
    by : (d : ImportDesc) (e : Extern) → IsGiven made sigs d e → StandsFrom all n (host_funcs number x (e ∷ es))
        → map (λ a. func_type (slice_get all a)) (funcs_in n (e ∷ es)) ≡ map (λ x. slice_get sigs x) (with_func d (imported_funcs is))
    by (imports.Func s) (Host h) given stands =
        let head : func_type (slice_get all n) ≡ slice_get sigs s = ap func_type stands.0 ∙ sym given in
        ap (λ o. o ∷ map (λ a. func_type (slice_get all a)) (funcs_in (suc n) es)) head
        ∙ ap (λ l. slice_get sigs s ∷ l) (later (suc x) (suc n) stands.1)
    by (imports.Func s) (Func a) given stands =
        let head : func_type (slice_get all a) ≡ slice_get sigs s = ap func_type (get_on made.funcs all a given.0 on given.1) ∙ sym given.2 in
        ap (λ o. o ∷ map (λ a. func_type (slice_get all a)) (funcs_in n es)) head
        ∙ ap (λ l. slice_get sigs s ∷ l) (later (suc x) n stands)
    by (imports.Table l) (Table a) given stands = later x n stands
    by (imports.Memory l) (Memory a) given stands = later x n stands
    by (imports.Global t) (Global a) given stands = later x n stands
    by _ _ given stands = absurd given

  pub funcs_named : (x n : ℕ) (is : List Import) (es : List Extern) → AreGiven made sigs is es → StandsFrom all n (host_funcs number x es) → Named n is es
  funcs_named x n [] [] given stands = refl
  funcs_named x n [] (e ∷ es) given stands = absurd given
  funcs_named x n (i ∷ is) [] given stands = absurd given
  funcs_named x n (i ∷ is) (e ∷ es) given stands = func_named x n i is e es given.0 stands (λ y m s. funcs_named y m is es given.1 s)

  abbrev Below : (n : ℕ) → List Extern → Type 0
  Below n es = All (λ a. a < length all) (funcs_in n es)

  func_below : (x n : ℕ) (i : Import) (e : Extern) (es : List Extern) → IsGiven made sigs i.desc e → StandsFrom all n (host_funcs number x (e ∷ es))
      → ((y m : ℕ) → StandsFrom all m (host_funcs number y es) → Below m es) → Below n (e ∷ es)
  func_below x n i e es given stands later = by i.desc e given stands where
    by : (d : ImportDesc) (e : Extern) → IsGiven made sigs d e → StandsFrom all n (host_funcs number x (e ∷ es)) → Below n (e ∷ es)
    by (imports.Func s) (Host h) given stands =
        All-cons (λ a. a < length all) n (funcs_in (suc n) es) (slice_get_within all n (host_func h number x) stands.0) (later (suc x) (suc n) stands.1)
    by (imports.Func s) (Func a) given stands =
        All-cons (λ a. a < length all) a (funcs_in n es) (slice_get_within all a given.0 (get_on made.funcs all a given.0 on given.1)) (later (suc x) n stands)
    by (imports.Table l) (Table a) given stands = later x n stands
    by (imports.Memory l) (Memory a) given stands = later x n stands
    by (imports.Global t) (Global a) given stands = later x n stands
    by _ _ given stands = absurd given

  pub funcs_below : (x n : ℕ) (is : List Import) (es : List Extern) → AreGiven made sigs is es → StandsFrom all n (host_funcs number x es) → Below n es
  funcs_below x n [] [] given stands = All-nil (λ a. a < length all)
  funcs_below x n [] (e ∷ es) given stands = absurd given
  funcs_below x n (i ∷ is) [] given stands = absurd given
  funcs_below x n (i ∷ is) (e ∷ es) given stands = func_below x n i e es given.0 stands (λ y m s. funcs_below y m is es given.1 s)

-- ---- a function of the host, by its place among those that are added

pub record HostAt (number n x k : ℕ) (es : List Extern) (f : FuncInst) : Type 0 where
  pub host : HostFunc
  pub index : ℕ
  pub func : f ≡ host_func host number (x + index)
  pub address : slice_get (funcs_in n es) index ≡ Some (n + k)

pub host_at : (number x n : ℕ) (es : List Extern) (k : ℕ) (f : FuncInst) → slice_get (host_funcs number x es) k ≡ Some f → HostAt number n x k es f
host_at number x n [] k f e = cc
host_at number x n (Host h ∷ es) zero f e =
    let same : x ≡ x + 0 = omega arith in
    let first : n ≡ n + 0 = omega arith in
    let is : host_func h number x ≡ f = cc in
    record { host = h; index = 0; func = sym is ∙ ap (host_func h number) same; address = ap Some first }
host_at number x n (Host h ∷ es) (suc k) f e =
    let later = host_at number (suc x) (suc n) es k f e in
    let same : suc x + later.index ≡ x + suc later.index = omega arith in
    let place : suc n + k ≡ n + suc k = omega arith in
    record { host = later.host; index = suc later.index; func = later.func ∙ ap (host_func later.host number) same; address = later.address ∙ ap Some place }
host_at number x n (Func a ∷ es) k f e =
    let later = host_at number (suc x) n es k f e in
    let same : suc x + later.index ≡ x + suc later.index = omega arith in
    record { host = later.host; index = suc later.index; func = later.func ∙ ap (host_func later.host number) same; address = later.address }
host_at number x n (Table a ∷ es) k f e =
    let later = host_at number x n es k f e in record { host = later.host; index = later.index; func = later.func; address = later.address }
host_at number x n (Memory a ∷ es) k f e =
    let later = host_at number x n es k f e in record { host = later.host; index = later.index; func = later.func; address = later.address }
host_at number x n (Global a ∷ es) k f e =
    let later = host_at number x n es k f e in record { host = later.host; index = later.index; func = later.func; address = later.address }

-- ---- tables and memories, of which there is one at the most

-- none is imported, or one is there
abbrev pub Counts : {A : Type 0} → List A → Option ℕ → List Limits → Type 0
Counts all None ls = ls ≡ []
Counts {A} all (Some a) ls = (x : A) × (slice_get all a ≡ Some x) × (1 ≤ length ls)

module _ (made : Made) (sigs : List FuncType) where
  table_counts : (d : ImportDesc) (e : Extern) (es : List Extern) (ls : List Limits) → IsGiven made sigs d e → Counts made.tables (table_in es) ls → Counts made.tables (table_in (e ∷ es)) (with_table d ls)
  table_counts (imports.Table l) (Table a) es ls given later = (given.0, given.1, omega arith)
  table_counts (imports.Func s) (Host h) es ls given later = later
  table_counts (imports.Func s) (Func a) es ls given later = later
  table_counts (imports.Memory l) (Memory a) es ls given later = later
  table_counts (imports.Global t) (Global a) es ls given later = later
  table_counts _ _ es ls given later = absurd given

  pub tables_count : (is : List Import) (es : List Extern) → AreGiven made sigs is es → Counts made.tables (table_in es) (imported_tables is)
  tables_count [] [] given = refl
  tables_count [] (e ∷ es) given = absurd given
  tables_count (i ∷ is) [] given = absurd given
  tables_count (i ∷ is) (e ∷ es) given = table_counts i.desc e es (imported_tables is) given.0 (tables_count is es given.1)

  memory_counts : (d : ImportDesc) (e : Extern) (es : List Extern) (ls : List Limits) → IsGiven made sigs d e → Counts made.memories (memory_in es) ls → Counts made.memories (memory_in (e ∷ es)) (with_memory d ls)
  memory_counts (imports.Memory l) (Memory a) es ls given later = (given.0, given.1, omega arith)
  memory_counts (imports.Func s) (Host h) es ls given later = later
  memory_counts (imports.Func s) (Func a) es ls given later = later
  memory_counts (imports.Table l) (Table a) es ls given later = later
  memory_counts (imports.Global t) (Global a) es ls given later = later
  memory_counts _ _ es ls given later = absurd given

  pub memories_count : (is : List Import) (es : List Extern) → AreGiven made sigs is es → Counts made.memories (memory_in es) (imported_memories is)
  memories_count [] [] given = refl
  memories_count [] (e ∷ es) given = absurd given
  memories_count (i ∷ is) [] given = absurd given
  memories_count (i ∷ is) (e ∷ es) given = memory_counts i.desc e es (imported_memories is) given.0 (memories_count is es given.1)

  -- ---- globals: addresses, types, and values of these types

  abbrev pub GlobalsGiven : List GlobalType → List ℕ → Type 0
  GlobalsGiven [] [] = Unit {0}
  GlobalsGiven (t ∷ ts) (a ∷ ns) = ((g : GlobalInst) × (slice_get made.globals a ≡ Some g) × (global_type_of g ≡ t)) × GlobalsGiven ts ns
  GlobalsGiven _ _ = ⊥

  global_given : (d : ImportDesc) (e : Extern) (es : List Extern) (ts : List GlobalType) → IsGiven made sigs d e → GlobalsGiven ts (globals_in es) → GlobalsGiven (with_global d ts) (globals_in (e ∷ es))
  global_given (imports.Global t) (Global a) es ts given later = (given, later)
  global_given (imports.Func s) (Host h) es ts given later = later
  global_given (imports.Func s) (Func a) es ts given later = later
  global_given (imports.Table l) (Table a) es ts given later = later
  global_given (imports.Memory l) (Memory a) es ts given later = later
  global_given _ _ es ts given later = absurd given

  pub globals_given : (is : List Import) (es : List Extern) → AreGiven made sigs is es → GlobalsGiven (imported_globals is) (globals_in es)
  globals_given [] [] given = tt
  globals_given [] (e ∷ es) given = absurd given
  globals_given (i ∷ is) [] given = absurd given
  globals_given (i ∷ is) (e ∷ es) given = global_given i.desc e es (imported_globals is) given.0 (globals_given is es given.1)

  pub globals_below : (ts : List GlobalType) (ns : List ℕ) → GlobalsGiven ts ns → All (λ a. a < length made.globals) ns
  globals_below [] [] given = All-nil (λ a. a < length made.globals)
  globals_below [] (a ∷ ns) given = absurd given
  globals_below (t ∷ ts) [] given = absurd given
  globals_below (t ∷ ts) (a ∷ ns) given =
      All-cons (λ a. a < length made.globals) a ns (slice_get_within made.globals a given.0.0 given.0.1) (globals_below ts ns given.1)

  -- in any list of types in which those of the globals stand
  pub globals_named : (all : List GlobalType) → ((a : ℕ) (g : GlobalInst) → slice_get made.globals a ≡ Some g → slice_get all a ≡ Some (global_type_of g))
      → (ts : List GlobalType) (ns : List ℕ) → GlobalsGiven ts ns → map (λ a. global_type (slice_get all a)) ns ≡ ts
  globals_named all there [] [] given = refl
  globals_named all there [] (a ∷ ns) given = absurd given
  globals_named all there (t ∷ ts) [] given = absurd given
  globals_named all there (t ∷ ts) (a ∷ ns) given =
      ap (λ o. global_type o ∷ map (λ a. global_type (slice_get all a)) ns) (there a given.0.0 given.0.1)
      ∙ ap (λ u. u ∷ map (λ a. global_type (slice_get all a)) ns) given.0.2
      ∙ ap (λ l. t ∷ l) (globals_named all there ts ns given.1)

  pub values_typed : (ts : List GlobalType) (ns : List ℕ) → GlobalsGiven ts ns → map type_of (values_at made.globals ns) ≡ map (λ (t : GlobalType). t.ty) ts
  values_typed [] [] given = refl
  values_typed [] (a ∷ ns) given = absurd given
  values_typed (t ∷ ts) [] given = absurd given
  values_typed (t ∷ ts) (a ∷ ns) given =
      let g = given.0.0 in
      let is = get_or_from_slice_get made.globals a g _ given.0.1 in
      let typed : type_of (value_at made.globals a) ≡ t.ty = ap (λ (h : GlobalInst). type_of h.value) is ∙ ap (λ (u : GlobalType). u.ty) given.0.2 in
      ap (λ u. u ∷ map type_of (values_at made.globals ns)) typed ∙ ap (λ l. t.ty ∷ l) (values_typed ts ns given.1)
