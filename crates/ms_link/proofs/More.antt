-- One module more keeps what was typed, and is typed itself.
use Rattle.std.proofs.Common.{◌≡◌, ◌≤◌, ◌<◌, ◌⊎◌, inl, inr, ℕ, zero, suc, ◌+◌, List, [], ◌∷◌, ◌++◌, All, get_or, length, map, slice_get, Option, Some, None, refl, sym, ap, ◌∙◌, subst, arith}
use Rattle.std.proofs.lemmas.List.{append-nil, length-append, length-map, map-append, map-id}
use Rattle.std.proofs.lemmas.List.Elements.{All-append, All-head, All-tail, All-weaker}
use Rattle.std.proofs.lemmas.Option.{get_or_from_slice_get, slice_get_within}
use Rattle.std.proofs.lemmas.Simd.{map-map}
use Rattle.ms_host.specs.declared.host.Host.{Host as HostFunc}
use Rattle.ms_host.specs.declared.host.Host.TheVariants as hosts
use Rattle.ms_linear.specs.declared.global.GlobalInst.{GlobalInst}
use Rattle.ms_linear.specs.declared.value.Value.{Value}
use Rattle.ms_linear.specs.Values.{global_type_of, type_of}
use Rattle.ms_module.specs.declared.access.Segment.TheVariants.{Null}
use Rattle.ms_module.specs.declared.instr.Instr.{Instr}
use Rattle.ms_module.specs.declared.instr.Instr.TheVariants.{GlobalGet, I32Const, I64Const, Segment}
use Rattle.ms_module.specs.declared.module.Func.{Func}
use Rattle.ms_module.specs.declared.module.Global.{Global}
use Rattle.ms_module.specs.declared.module.Module.{Module}
use Rattle.ms_rules.specs.Context.{Context, context_of, imported_funcs, imported_globals, imported_memories, imported_tables, inside}
use Rattle.ms_rules.specs.Modules.{ConstantTyped, FuncTyped as DeclaredTyped, IsConstant, StartTyped as StartDeclared, WellTyped}
use Rattle.ms_rules.specs.Typing.{Typed, types}
use Rattle.ms_rules.proofs.Contexts.{Alike, inside_alike, typed_alike}
use Rattle.ms_task.specs.declared.func.FuncInst.{FuncInst}
use Rattle.ms_task.specs.Thread.{result_of}
use Rattle.ms_types.specs.declared.types.FuncType.{FuncType}
use Rattle.ms_types.specs.declared.types.GlobalType.{GlobalType}
use Rattle.ms_types.specs.declared.types.Limits.{Limits}
use Rattle.ms_types.specs.declared.types.ValType.{ValType}
use Rattle.ms_types.specs.declared.types.ValType.TheVariants as kinds
use Rattle.ms_machine.specs.declared.externs.Extern.{Extern}
use Rattle.ms_machine.specs.declared.store.Instance.{Instance}
use Rattle.ms_machine.specs.Externs.{Made}
use Rattle.ms_machine.specs.Linked.{StartTyped, funcs_before, funcs_in, globals_in, host_body, host_func, host_funcs, instance_in, memory_in, no_type, numbers, or_own, own_func, own_global, table_in, values_at, with_module}
use Rattle.ms_machine.specs.Constants.{constant, constant_of, value_or_zero}
use Rattle.ms_machine.specs.Writing.{empty_table, zeroed}
use Rattle.ms_machine.specs.Typing.{FuncTyped, InstanceTyped, IsBelow, Outline, any_size, context_at, context_in, func_type, global_type, host_type}
use Rattle.ms_machine.proofs.TypedCalls.{result_is}
use Rattle.ms_machine.proofs.TypedValues.{all_at, get_mapped}
use Rattle.ms_link.proofs.Given.{AreGiven}
use Rattle.ms_link.proofs.Imported.{Counts, funcs_below, funcs_named, globals_below, globals_given, globals_named, host_at, memories_count, tables_count, values_typed}
use Rattle.ms_link.proofs.Kept.{Extends, context_is, func_kept, instance_kept}
use Rattle.ms_link.proofs.Signatures.{sigs_are}
use Rattle.ms_link.proofs.Standing.{GoesOn, StandsFrom, appended, appended_map, appended_twice, get_on, get_only, get_parts, get_standing, map_numbers, mapped_at, numbers_standing, stands_last, stands_map, stands_middle}
use Rattle.ms_link.specs.refinement.Fitting.{MadeTyped, outline}

-- ---- of a table or a memory there is one at the most: the imported one or the module's own

pub own_size : {A : Type 0} (all : List A) (o : Option ℕ) (n : ℕ) (ls own : List Limits) → Counts all o ls → length (ls ++ own) ≤ 1 → length (ls ++ own) ≡ length (any_size (or_own o n own))
own_size all (Some a) n ls own c le = omega (arith, le, c.2, length-append ls own)
own_size all None n ls own c le = ap (λ l. length (l ++ own)) c ∙ few own (subst (λ l. length (l ++ own) ≤ 1) c le) where
  few : (own : List Limits) → length own ≤ 1 → length own ≡ length (any_size (or_own None n own))
  few [] le = refl
  few (l ∷ own) le = omega (arith, le)

pub own_there : {A : Type 0} (make : Limits → A) (all : List A) (o : Option ℕ) (ls own : List Limits) → Counts all o ls → 0 < length (ls ++ own)
    → (a : ℕ) × (x : A) × (or_own o (length all) own ≡ Some a) × (slice_get (all ++ map make own) a ≡ Some x)
own_there make all (Some a) ls own c lt = (a, c.0, refl, get_on all (all ++ map make own) a c.0 (appended all (map make own)) c.1)
own_there {A} make all None ls own c lt = first own (subst (λ l. 0 < length (l ++ own)) c lt) where
  first : (own : List Limits) → 0 < length own → (a : ℕ) × (x : A) × (or_own None (length all) own ≡ Some a) × (slice_get (all ++ map make own) a ≡ Some x)
  first [] lt = absurd (omega (arith, lt))
  first (l ∷ own) lt = (length all, make l, refl, (stands_last all (map make (l ∷ own))).0)

own_below : {A : Type 0} (make : Limits → A) (all : List A) (o : Option ℕ) (ls own : List Limits) → Counts all o ls → IsBelow (length (all ++ map make own)) (or_own o (length all) own)
own_below make all (Some a) ls own c =
    slice_get_within (all ++ map make own) a c.0 (get_on all (all ++ map make own) a c.0 (appended all (map make own)) c.1)
own_below make all None ls [] c = tt
own_below make all None ls (l ∷ own) c = slice_get_within (all ++ map make (l ∷ own)) (length all) (make l) (stands_last all (map make (l ∷ own))).0

-- ---- constant expressions over globals of known types

constant_typed : (ts : List GlobalType) (vs : List Value) → map type_of vs ≡ map (λ (t : GlobalType). t.ty) ts → (t : ValType) (i : Instr) → ConstantTyped ts t i → type_of (constant vs i) ≡ t
constant_typed ts vs same t (I32Const n) h = sym h
constant_typed ts vs same t (I64Const n) h = sym h
constant_typed ts vs same t (Segment Null) h = sym h
constant_typed ts vs same t (GlobalGet x) h =
    let there : slice_get (map type_of vs) x ≡ Some h.0.ty = ap (λ l. slice_get l x) same ∙ mapped_at (λ (t : GlobalType). t.ty) ts x h.0 h.1 in
    let v = get_mapped type_of vs x h.0.ty there in
    ap (λ o. type_of (value_or_zero o)) v.1 ∙ v.2 ∙ sym h.3
constant_typed ts vs same t _ h = absurd h

init_typed : (ts : List GlobalType) (vs : List Value) → map type_of vs ≡ map (λ (t : GlobalType). t.ty) ts → (t : ValType) (code : List (List Instr)) → IsConstant ts t code → type_of (constant_of vs code) ≡ t
init_typed ts vs same t code h = ap (λ c. type_of (constant_of vs c)) h.1 ∙ constant_typed ts vs same t h.0 h.2

globals_typed : (ts : List GlobalType) (vs : List Value) → map type_of vs ≡ map (λ (t : GlobalType). t.ty) ts → (gs : List Global) → All (λ g. IsConstant ts g.ty.ty g.init) gs
    → map global_type_of (map (own_global vs) gs) ≡ map (λ g. g.ty) gs
globals_typed ts vs same [] h = refl
globals_typed ts vs same (g ∷ gs) h =
    let typed = init_typed ts vs same g.ty.ty g.init (All-head (λ g. IsConstant ts g.ty.ty g.init) g gs h) in
    ap (λ (t : ValType). record { ty = t; mutable = g.ty.mutable } ∷ map global_type_of (map (own_global vs) gs)) typed
    ∙ ap (λ l. g.ty ∷ l) (globals_typed ts vs same gs (All-tail (λ g. IsConstant ts g.ty.ty g.init) g gs h))

-- ---- a function of the host calls itself by its index

host_typed : (c : Context) (h : HostFunc) (x : ℕ) → slice_get c.funcs x ≡ Some (Some (host_type h)) → c.locals ≡ (host_type h).params → Typed c (host_body h x ∷ []) (slice_get (host_type h).results 0 ∷ []) 0 (slice_get (host_type h).results 0)
host_typed c hosts.Putchar x named locals =
    let t = host_type hosts.Putchar in
    let first : slice_get c.locals 0 ≡ Some kinds.I32 = ap (λ l. slice_get l 0) locals in
    (1, (t.params, (kinds.I32, first, refl), (t.results, (t, named, (slice_get t.results 0, [], refl, refl, refl)), refl)))
host_typed c hosts.Getchar x named locals =
    let t = host_type hosts.Getchar in
    (1, (t.results, (t, named, (slice_get t.results 0, [], refl, refl, refl)), refl))
host_typed c hosts.Abort x named locals =
    let t = host_type hosts.Abort in
    (1, (t.results, (t, named, (slice_get t.results 0, [], refl, refl, refl)), refl))

func_of_type : (o : Option FuncInst) (t : FuncType) → func_type o ≡ Some t → (f : FuncInst) × (o ≡ Some f) × (f.ty ≡ t)
func_of_type None t e = cc
func_of_type (Some f) t e = (f, refl, cc)

-- ---- the next module

module _ (made : Made) (typed : MadeTyped made) (name : List ℕ) (m : Module) (well : WellTyped m) (es : List Extern) (given : AreGiven made m.sigs m.imports es) where
  abbrev pub next : Made
  next = with_module made name m es

  abbrev pub own : Instance
  own = instance_in made m es

  abbrev number : ℕ
  number = length made.instances

  abbrev here : Outline
  here = outline next

  abbrev hosts_in : List FuncInst
  hosts_in = host_funcs number 0 es

  abbrev owns : List FuncInst
  owns = map (own_func m number) m.funcs

  abbrev imported : List Value
  imported = values_at made.globals (globals_in es)

  pub on : GoesOn made.funcs next.funcs
  on = appended_twice made.funcs hosts_in owns

  hosts_stand : StandsFrom next.funcs (length made.funcs) hosts_in
  hosts_stand = stands_middle made.funcs hosts_in owns

  owns_stand : StandsFrom next.funcs (length (funcs_before made es)) owns
  owns_stand = stands_last (funcs_before made es) owns

  more : Extends (outline made) here
  more = record {
    funcs = on;
    instances = appended made.instances (own ∷ []);
    globals = appended_map global_type_of made.globals (map (own_global imported) m.globals);
    funcs_more = omega (arith, length-append made.funcs hosts_in, length-append (funcs_before made es) owns);
    instances_more = omega (arith, length-append made.instances (own ∷ []));
    tables_more = omega (arith, length-append made.tables (map empty_table m.tables));
    memories_more = omega (arith, length-append made.memories (map zeroed m.memories));
    globals_more = omega (arith, length-map made.globals global_type_of, length-map next.globals global_type_of, length-append made.globals (map (own_global imported) m.globals));
  }

  pub own_is : slice_get next.instances number ≡ Some own
  own_is = (stands_last made.instances (own ∷ [])).0

  -- ---- its context

  abbrev pub named : ℕ → Option FuncType
  named a = func_type (slice_get next.funcs a)

  own_funcs_named : map named (numbers (length (funcs_before made es)) (length m.funcs)) ≡ map (λ f. Some (get_or m.sigs f.sig no_type)) m.funcs
  own_funcs_named =
      ap (λ n. map named (numbers (length (funcs_before made es)) n)) (sym (length-map m.funcs (own_func m number)))
      ∙ map_numbers func_type next.funcs (length (funcs_before made es)) owns owns_stand
      ∙ map-map (λ f. func_type (Some f)) (own_func m number) m.funcs

  pub funcs_are : (context_of m).funcs ≡ (context_in here (Some own)).funcs
  funcs_are =
      map-append (λ i. slice_get m.sigs i) (imported_funcs m.imports) (map (λ f. f.sig) m.funcs)
      ∙ ap (λ l. l ++ map (λ i. slice_get m.sigs i) (map (λ f. f.sig) m.funcs)) (sym (funcs_named made m.sigs number next.funcs on 0 (length made.funcs) m.imports es given hosts_stand))
      ∙ ap (λ l. map named (funcs_in (length made.funcs) es) ++ l) (sym (sigs_are m.sigs m.funcs well.head.funcs) ∙ sym own_funcs_named)
      ∙ sym (map-append named (funcs_in (length made.funcs) es) (numbers (length (funcs_before made es)) (length m.funcs)))

  abbrev typed_as : ℕ → GlobalType
  typed_as a = global_type (slice_get here.globals a)

  own_globals_typed : map global_type_of (map (own_global imported) m.globals) ≡ map (λ g. g.ty) m.globals
  own_globals_typed =
      globals_typed (imported_globals m.imports) imported (values_typed made m.sigs (imported_globals m.imports) (globals_in es) (globals_given made m.sigs m.imports es given)) m.globals well.head.globals

  globals_stand : StandsFrom here.globals (length made.globals) (map global_type_of (map (own_global imported) m.globals))
  globals_stand = stands_map global_type_of next.globals (length made.globals) (map (own_global imported) m.globals) (stands_last made.globals (map (own_global imported) m.globals))

  global_there : (a : ℕ) (g : GlobalInst) → slice_get made.globals a ≡ Some g → slice_get here.globals a ≡ Some (global_type_of g)
  global_there a g found = mapped_at global_type_of next.globals a g (get_on made.globals next.globals a g (appended made.globals (map (own_global imported) m.globals)) found)

  own_globals_named : map typed_as (numbers (length made.globals) (length m.globals)) ≡ map (λ g. g.ty) m.globals
  own_globals_named =
      let news = map (own_global imported) m.globals in
      ap (λ n. map typed_as (numbers (length made.globals) n)) (sym (length-map news global_type_of ∙ length-map m.globals (own_global imported)))
      ∙ map_numbers global_type here.globals (length made.globals) (map global_type_of news) globals_stand
      ∙ map-id (map global_type_of news) ∙ own_globals_typed

  globals_are : (context_of m).globals ≡ (context_in here (Some own)).globals
  globals_are =
      ap (λ l. l ++ map (λ g. g.ty) m.globals) (sym (globals_named made m.sigs here.globals global_there (imported_globals m.imports) (globals_in es) (globals_given made m.sigs m.imports es given)))
      ∙ ap (λ l. map typed_as (globals_in es) ++ l) (sym own_globals_named)
      ∙ sym (map-append typed_as (globals_in es) (numbers (length made.globals) (length m.globals)))

  alike : Alike (context_of m) (context_in here (Some own))
  alike = record {
    sigs = refl;
    funcs = funcs_are;
    tables = own_size made.tables (table_in es) (length made.tables) (imported_tables m.imports) m.tables (tables_count made m.sigs m.imports es given) well.head.one_table;
    memories = own_size made.memories (memory_in es) (length made.memories) (imported_memories m.imports) m.memories (memories_count made m.sigs m.imports es given) well.head.one_memory;
    globals = globals_are;
    locals = refl;
    returns = refl;
  }

  -- ---- its functions

  host_func_typed : (k : ℕ) (f : FuncInst) → slice_get hosts_in k ≡ Some f → FuncTyped here (length made.funcs + k) f
  host_func_typed k f found =
      let at = host_at number 0 (length made.funcs) es k f found in
      let h = at.host in
      let a = length made.funcs + k in
      let same : 0 + at.index ≡ at.index = omega arith in
      let is : f ≡ host_func h number at.index = at.func ∙ ap (host_func h number) same in
      let there : slice_get next.funcs a ≡ Some (host_func h number at.index) = get_standing next.funcs (length made.funcs) hosts_in k f hosts_stand found ∙ ap Some is in
      let placed : slice_get own.funcs at.index ≡ Some a =
      get_on (funcs_in (length made.funcs) es) own.funcs at.index a (appended (funcs_in (length made.funcs) es) (numbers (length (funcs_before made es)) (length m.funcs))) at.address in
      let c = context_at here a in
      let context = context_is here a (host_func h number at.index) own there own_is in
      let called : slice_get (context_in here (Some own)).funcs at.index ≡ Some (Some (host_type h)) = mapped_at named own.funcs at.index a placed ∙ ap (λ o. Some (func_type o)) there in
      let body = host_typed c h at.index (ap (λ (d : Context). slice_get d.funcs at.index) context ∙ called) (ap (λ (d : Context). d.locals) context ∙ append-nil (host_type h).params) in
      subst (FuncTyped here a) (sym is) (record {
        instance = omega (arith, length-append made.instances (own ∷ []));
        host = refl;
        results = host_results h;
        body = body;
      }) where
        host_results : (h : HostFunc) → (host_type h).results ≡ types (slice_get (host_type h).results 0)
        host_results hosts.Putchar = refl
        host_results hosts.Getchar = refl
        host_results hosts.Abort = refl

  declared_typed : (a : ℕ) (g : Func) → slice_get next.funcs a ≡ Some (own_func m number g) → DeclaredTyped (context_of m) g → FuncTyped here a (own_func m number g)
  declared_typed a g found h =
      let f = own_func m number g in
      let ty : f.ty ≡ h.0 = get_or_from_slice_get m.sigs g.sig h.0 no_type h.2 in
      let results : f.ty.results ≡ types h.1 = ap (λ (t : FuncType). t.results) ty ∙ h.3 in
      let k : result_of f ≡ h.1 = result_is f h.1 results in
      let c = context_in here (Some own) in
      let locals = h.0.params ++ g.locals in
      let body = typed_alike (inside (context_of m) locals h.1) (inside c locals h.1) (inside_alike (context_of m) c alike locals h.1) g.body (h.1 ∷ []) 0 h.1 h.4 in
      let mine = subst (λ (t : FuncType). Typed (inside c (t.params ++ g.locals) h.1) g.body (h.1 ∷ []) 0 h.1) (sym ty) body in
      let left = subst (λ (x : Option ValType). Typed (inside c (f.ty.params ++ g.locals) x) g.body (x ∷ []) 0 x) (sym k) mine in
      record {
        instance = omega (arith, length-append made.instances (own ∷ []));
        host = tt;
        results = results ∙ ap types (sym k);
        body = subst (λ (d : Context). Typed d g.body (result_of f ∷ []) 0 (result_of f)) (sym (context_is here a f own found own_is)) left;
      }

  own_func_typed : (j : ℕ) (f : FuncInst) → slice_get owns j ≡ Some f → FuncTyped here (length (funcs_before made es) + j) f
  own_func_typed j f found =
      let g = get_mapped (own_func m number) m.funcs j f found in
      let a = length (funcs_before made es) + j in
      let there = get_standing next.funcs (length (funcs_before made es)) owns j f owns_stand found in
      subst (FuncTyped here a) g.2 (declared_typed a g.0 (there ∙ ap Some (sym g.2)) (all_at (DeclaredTyped (context_of m)) m.funcs j g.0 well.funcs g.1))

  old_func_typed : (a : ℕ) (f : FuncInst) → slice_get made.funcs a ≡ Some f → FuncTyped here a f
  old_func_typed a f found =
      let h = typed.funcs a f found in
      let i = at_number made.instances f.instance h.instance in
      func_kept (outline made) here more a f i.0 found i.1 (typed.instances f.instance i.0 i.1) h where
        at_number : (is : List Instance) (n : ℕ) → n < length is → (i : Instance) × (slice_get is n ≡ Some i)
        at_number [] n lt = absurd (omega (arith, lt))
        at_number (i ∷ is) zero lt = (i, refl)
        at_number (i ∷ is) (suc n) lt = at_number is n (omega (arith, lt))

  pub next_funcs : (a : ℕ) (f : FuncInst) → slice_get next.funcs a ≡ Some f → FuncTyped here a f
  next_funcs a f found = late (get_parts (funcs_before made es) owns a f found) where
    late : (slice_get (funcs_before made es) a ≡ Some f) ⊎ ((j : ℕ) × (a ≡ length (funcs_before made es) + j) × (slice_get owns j ≡ Some f)) → FuncTyped here a f
    late (inr (j, is, e)) = subst (λ b. FuncTyped here b f) (sym is) (own_func_typed j f e)
    late (inl e) = early (get_parts made.funcs hosts_in a f e) where
      early : (slice_get made.funcs a ≡ Some f) ⊎ ((j : ℕ) × (a ≡ length made.funcs + j) × (slice_get hosts_in j ≡ Some f)) → FuncTyped here a f
      early (inl e) = old_func_typed a f e
      early (inr (j, is, e)) = subst (λ b. FuncTyped here b f) (sym is) (host_func_typed j f e)

  -- ---- its instance

  own_typed : InstanceTyped here own
  own_typed = record {
    funcs = All-append (λ a. a < length next.funcs) (funcs_in (length made.funcs) es) (numbers (length (funcs_before made es)) (length m.funcs))
        (funcs_below made m.sigs number next.funcs on 0 (length made.funcs) m.imports es given hosts_stand)
        (subst (λ n. All (λ a. a < length next.funcs) (numbers (length (funcs_before made es)) n)) (length-map m.funcs (own_func m number)) (numbers_standing next.funcs (length (funcs_before made es)) owns owns_stand));
    table = own_below empty_table made.tables (table_in es) (imported_tables m.imports) m.tables (tables_count made m.sigs m.imports es given);
    memory = own_below zeroed made.memories (memory_in es) (imported_memories m.imports) m.memories (memories_count made m.sigs m.imports es given);
    globals = All-append (λ a. a < length here.globals) (globals_in es) (numbers (length made.globals) (length m.globals))
        (All-weaker (λ a. a < length made.globals) (λ a. a < length here.globals)
        (λ a lt. omega (arith, lt, length-map next.globals global_type_of, length-append made.globals (map (own_global imported) m.globals)))
        (globals_in es) (globals_below made m.sigs (imported_globals m.imports) (globals_in es) (globals_given made m.sigs m.imports es given)))
        (subst (λ n. All (λ a. a < length here.globals) (numbers (length made.globals) n)) (length-map (map (own_global imported) m.globals) global_type_of ∙ length-map m.globals (own_global imported))
        (numbers_standing here.globals (length made.globals) (map global_type_of (map (own_global imported) m.globals)) globals_stand));
  }

  pub next_instances : (n : ℕ) (i : Instance) → slice_get next.instances n ≡ Some i → InstanceTyped here i
  next_instances n i found = by (get_parts made.instances (own ∷ []) n i found) where
    by : (slice_get made.instances n ≡ Some i) ⊎ ((j : ℕ) × (n ≡ length made.instances + j) × (slice_get (own ∷ []) j ≡ Some i)) → InstanceTyped here i
    by (inl e) = instance_kept (outline made) here more i (typed.instances n i e)
    by (inr (j, is, e)) = subst (InstanceTyped here) (get_only own j i e).1 own_typed

  -- ---- its start function

  pub start_typed : (o : Option ℕ) → m.start ≡ o → StartTyped next.funcs own o
  start_typed None is = tt
  start_typed (Some x) is =
      let h = subst (λ o. StartDeclared m o) is well.head.start in
      let there : slice_get (context_in here (Some own)).funcs x ≡ Some (Some h.0) = ap (λ l. slice_get l x) (sym funcs_are) ∙ h.1 in
      let a = get_mapped named own.funcs x (Some h.0) there in
      let f = func_of_type (slice_get next.funcs a.0) h.0 a.2 in
      (a.0, f.0, a.1, f.1, ap (λ (t : FuncType). t.params) f.2 ∙ h.2, ap (λ (t : FuncType). t.results) f.2 ∙ h.3)
