-- Linking a unit that was compiled alone gives a store that has its functions, if each that it uses is defined.
use Rattle.std.proofs.Common.{◌≡◌, ℕ, zero, suc, ◌+◌, ◌<◌, ◌≤◌, List, [], ◌∷◌, ◌++◌, length, map, Bool, true, false, Option, Some, None, Ok, Err, refl, sym, ap, ◌∙◌, arith, subst}
use Rattle.std.specs.Prelude.{Result, cond, drop, filter, get_or, is_some, nat_le, nat_lt, not, option_map, replicate, slice_get, take, ◌==◌}
use Rattle.std.specs.List.{list_any, position_or_len}
use Rattle.std.proofs.lemmas.List.{length-map, length-replicate}
use Rattle.std.proofs.lemmas.Option.{get_or_from_slice_get, slice_get-map, slice_get_within}
use Rattle.ms_host.specs.declared.host.Host.TheVariants as hosts
use Rattle.ms_linear.specs.declared.global.GlobalInst.{GlobalInst}
use Rattle.ms_linear.specs.declared.table.Entry.{Entry}
use Rattle.ms_linear.specs.Table.{Table, most_entries}
use Rattle.ms_module.specs.declared.module.Func.{Func as ModuleFunc}
use Rattle.ms_module.specs.declared.module.Global.{Global as ModuleGlobal}
use Rattle.ms_types.specs.declared.types.Limits.{Limits}
use Rattle.ms_types.specs.declared.types.ValType.{ValType}
use Rattle.ms_types.specs.declared.types.ValType.TheVariants as vals
use Rattle.ms_machine.specs.Externs.{Fault, Made, externs, fault_at, with_rest}
use Rattle.ms_machine.specs.Linked as linking
use Rattle.ms_machine.specs.Linked.{with_start, all_more, and_then, if_small, globals_in, instance_in, linked, no_type, nothing_made, or_next, outside, own_func, own_global, sizes_fit, store_of, stored, too_large, unless, values_at, with_externs, with_module, entry_in}
use Rattle.ms_machine.specs.Store.{Store}
use Rattle.ms_machine.specs.declared.store.Instance.{Instance}
use Rattle.ms_machine.specs.Writing.{empty_table, with_entries}
use Rattle.ms_machine.specs.Writing.{entry_at as entry_at_of}
use Rattle.ms_types.specs.declared.types.FuncType.{FuncType}
use Rattle.ms_machine.specs.declared.externs.Extern.{Extern}
use Rattle.ms_machine.specs.declared.externs.Extern.TheVariants.{Host}
use Rattle.ms_machine.specs.declared.externs.Why.TheVariants.{Fit, TooLarge}
use Rattle.ms_task.specs.declared.func.FuncInst.{FuncInst}
use Rattle.c_types.specs.Types.{Ty, function, no_types}
use Rattle.c_typed.specs.declared.ops.Variable.TheVariants.{Global}
use Rattle.c_typed.specs.Tree.{Function, Stmt, Typed}
use Rattle.c_typed.specs.Units.{IsWellTyped, literals_in}
use Rattle.c_meaning.specs.Units.{main_number}
use Rattle.c_code.specs.Functions.{body, held_as, locals, params_in, signature}
use Rattle.c_code.specs.Limits as limits
use Rattle.c_code.specs.Limits.{first_true, has_many_slots, is_long_copy, limit_of, most_named}
use Rattle.c_code.specs.Modules.{compiled, defined, func_of, funcs_from, global_of, globals_from, import_from_c, imported, index_of, is_defined, is_defined_at, literal_globals, named, no_slots, rank_in, sigs_through, start_func, target_of, entry_of}
use Rattle.c_runs.proofs.Fits.{IsMost}
use Rattle.c_code.specs.Uses.{uses, waits_stmt}
use Rattle.c_typing.proofs.Indices.{rank_is}
use Rattle.c_runs.specs.Correct.{Behaves, gives_integer}
use Rattle.c_runs.specs.Placed.{IsFunctionAt, IsPlaced, begun_as, first_globals, start_index}
use Rattle.c_runs.proofs.Numbers.{from, is_below, numbers_are, or_zero, other, same, slice_left}
use Rattle.c_runs.proofs.Placed.{same_one}
use Rattle.ms_relate.proofs.Growing.{related_new}
use Rattle.c_runs.proofs.Top.{compiled_behaves}

-- ---- functions that are defined, from the k-th on: each has its rank among them, behind the three of the host, as its index

abbrev defined_from : (k : ℕ) → List Function → List ℕ
defined_from k [] = []
defined_from k (f ∷ fs) = cond (is_some f.body) (k ∷ defined_from (suc k) fs) (defined_from (suc k) fs)

-- where a number stands among them
abbrev place_in : (k : ℕ) → List Function → (n : ℕ) → ℕ
place_in k fs n = position_or_len (λ m. m == n) (defined_from k fs)

module _ (u : Typed) where
  filtered : (k : ℕ) (fs : List Function) → ((i : ℕ) → slice_get fs i ≡ slice_get u.functions (k + i)) → filter (is_defined_at u) (from k (length fs)) ≡ defined_from k fs
  filtered k [] h = refl
  filtered k (f ∷ fs) h =
      let rest = filter (is_defined_at u) (from (suc k) (length fs)) in
      ap (λ (o : Option Function). cond (is_defined o) (k ∷ rest) rest) (ap (slice_get u.functions) (let z : k ≡ k + 0 = omega arith in z) ∙ sym (h 0))
      ∙ ap (λ (l : List ℕ). cond (is_some f.body) (k ∷ l) l)
      (filtered (suc k) fs (λ i. h (suc i) ∙ ap (slice_get u.functions) (let z : k + suc i ≡ suc k + i = omega arith in z)))

  pub defined_are : defined u ≡ defined_from 0 u.functions
  defined_are =
      ap (filter (is_defined_at u)) (numbers_are (length u.functions))
      ∙ filtered 0 u.functions (λ i. ap (slice_get u.functions) (let z : i ≡ 0 + i = omega arith in z))

-- ---- the functions of the module, in order

module _ (u : Typed) where
  abbrev code_of : ℕ → Function → Stmt → ModuleFunc
  code_of n f b = record {
    sig = 3 + n;
    locals = locals (target_of u f b) (length (params_in f.ty)) f.slots (waits_stmt b);
    body = body (target_of u f b) f b;
  }

  pub own_funcs : (k : ℕ) (fs : List Function) → length (funcs_from u k fs) ≡ length (defined_from k fs)
  own_funcs k [] = refl
  own_funcs k (f ∷ fs) = by f.body (own_funcs (suc k) fs) where
    by : (o : Option Stmt) → length (funcs_from u (suc k) fs) ≡ length (defined_from (suc k) fs)
        → length (func_of u k f o ++ funcs_from u (suc k) fs) ≡ length (cond (is_some o) (k ∷ defined_from (suc k) fs) (defined_from (suc k) fs))
    by None h = h
    by (Some b) h = ap suc h

  code_at : (k : ℕ) (fs : List Function) (i n : ℕ) (f : Function) (b : Stmt) → n ≡ k + i → slice_get fs i ≡ Some f → f.body ≡ Some b
      → slice_get (funcs_from u k fs) (place_in k fs n) ≡ Some (code_of n f b)
  code_at k [] i n f b q e h = absurd cc
  code_at k (g ∷ fs) zero n f b q e h =
      let there : k ≡ n = omega (arith, q) in
      let one = same_one g f e in
      let more = defined_from (suc k) fs in
      subst (λ (o : Option Stmt). slice_get (func_of u k g o ++ funcs_from u (suc k) fs) (position_or_len (λ m. m == n) (cond (is_some o) (k ∷ more) more)) ≡ Some (code_of n f b))
      (sym (ap (λ (x : Function). x.body) one ∙ h))
      (ap (λ (c : Bool). slice_get (code_of k g b ∷ funcs_from u (suc k) fs) (cond (not c) (1 + position_or_len (λ m. m == n) more) 0)) (same k n there)
      ∙ ap (λ (x : Function). Some (code_of k x b)) one ∙ ap (λ (m : ℕ). Some (code_of m f b)) there)
  code_at k (g ∷ fs) (suc i) n f b q e h = by g.body (code_at (suc k) fs i n f b (omega (arith, q)) e h) where
    by : (o : Option Stmt) → slice_get (funcs_from u (suc k) fs) (place_in (suc k) fs n) ≡ Some (code_of n f b)
        → slice_get (func_of u k g o ++ funcs_from u (suc k) fs) (position_or_len (λ m. m == n) (cond (is_some o) (k ∷ defined_from (suc k) fs) (defined_from (suc k) fs))) ≡ Some (code_of n f b)
    by None r = r
    by (Some c) r =
        let j = place_in (suc k) fs n in
        let z : 1 + j ≡ suc j = omega arith in
        ap (λ (t : Bool). slice_get (code_of k g c ∷ funcs_from u (suc k) fs) (cond (not t) (1 + j) 0)) (other k n (omega (arith, q)))
        ∙ ap (λ (m : ℕ). slice_get (code_of k g c ∷ funcs_from u (suc k) fs) m) z ∙ r

  module _ (none : imported u ≡ []) (n : ℕ) (f : Function) (b : Stmt) (e : slice_get u.functions n ≡ Some f) (h : f.body ≡ Some b) where
    abbrev place : ℕ
    place = place_in 0 u.functions n

    code_is : slice_get (funcs_from u 0 u.functions) place ≡ Some (code_of n f b)
    code_is = code_at 0 u.functions n n f b (let z : n ≡ 0 + n = omega arith in z) e h

    index_is : index_of u n ≡ suc (suc (suc place))
    index_is =
        let few = slice_get_within (funcs_from u 0 u.functions) place (code_of n f b) code_is in
        let all = own_funcs 0 u.functions in
        ap (λ (o : Option Function). cond (is_defined o) (3 + length (imported u) + rank_in (defined u) n) (3 + rank_in (imported u) n)) e
        ∙ ap (λ (o : Option Stmt). cond (is_some o) (3 + length (imported u) + rank_in (defined u) n) (3 + rank_in (imported u) n)) h
        ∙ ap (λ (l : List ℕ). 3 + length l + rank_in (defined u) n) none
        ∙ ap (λ (l : List ℕ). 3 + 0 + rank_in l n) (defined_are u)
        ∙ ap (λ (c : Bool). 3 + 0 + or_zero (cond c (Some place) None)) (is_below place (length (defined_from 0 u.functions)) (omega (arith, few, all)))
        ∙ (let z : 3 + 0 + place ≡ suc (suc (suc place)) = omega arith in z)

  sig_at : (n : ℕ) (f : Function) → slice_get u.functions n ≡ Some f → get_or (compiled u).sigs (3 + n) no_type ≡ signature f.ty
  sig_at n f e =
      let z : 3 + n ≡ suc (suc (suc n)) = omega arith in
      get_or_from_slice_get (compiled u).sigs (3 + n) (signature f.ty) no_type
      (ap (slice_get (compiled u).sigs) z
      ∙ slice_left (map (λ (g : Function). signature g.ty) u.functions) (sigs_through u) n (signature f.ty)
      (slice_get-map (λ (g : Function). signature g.ty) u.functions n ∙ ap (option_map (λ (g : Function). signature g.ty)) e))

-- ---- the store

abbrev pub three_hosts : List Extern
three_hosts = Host hosts.Putchar ∷ Host hosts.Getchar ∷ Host hosts.Abort ∷ []

abbrev behind_three : Result (List Extern) Fault → Result (List Extern) Fault
behind_three r = with_rest (Host hosts.Putchar) (with_rest (Host hosts.Getchar) (with_rest (Host hosts.Abort) r))

number_at : (first count x : ℕ) → x < count → slice_get (linking.numbers first count) x ≡ Some (first + x)
number_at k zero x lt = absurd (omega (arith, lt))
number_at k (suc n) zero lt = let z : k ≡ k + 0 = omega arith in ap Some z
number_at k (suc n) (suc x) lt =
    let z : suc k + x ≡ k + suc x = omega arith in number_at (suc k) n x (omega (arith, lt)) ∙ ap Some z

-- an address is an index
pub address_at : (fs : List ModuleFunc) (g : ModuleFunc → FuncInst) (x : ℕ) → x < suc (suc (suc (length (map g fs))))
    → slice_get (0 ∷ 1 ∷ 2 ∷ linking.numbers 3 (length fs)) x ≡ Some x
address_at fs g zero lt = refl
address_at fs g (suc zero) lt = refl
address_at fs g (suc (suc zero)) lt = refl
address_at fs g (suc (suc (suc x))) lt =
    let l = length-map fs g in
    let z : 3 + x ≡ suc (suc (suc x)) = omega arith in
    number_at 3 (length fs) x (omega (arith, l, lt)) ∙ ap Some z

-- where nothing is at fault, what was made is stored
is_stored : (c : ℕ) (s : Store) (a b : Option Fault) (made : Made)
    → stored c (and_then (if_small a (unless b made)) (all_more [])) ≡ Ok s → store_of c made ≡ s
is_stored c s None None made e = ap (λ (r : Result Store Fault). or r) e where
  or : Result Store Fault → Store
  or (Ok t) = t
  or (Err f) = s
is_stored c s None (Some f) made e = absurd cc
is_stored c s (Some f) b made e = absurd cc

at_end : {A : Type 0} (xs : List A) (y : A) → slice_get (xs ++ y ∷ []) (length xs) ≡ Some y
at_end [] y = refl
at_end (x ∷ xs) y = at_end xs y

abbrev no_entry : Option Entry
no_entry = None

module _ (u : Typed) (name : List ℕ) (c : ℕ) (none : imported u ≡ []) where
  abbrev pub made : Made
  made = with_module nothing_made name (compiled u) three_hosts

  abbrev pub st : Store
  st = store_of c made

  imports_are : externs nothing_made (compiled u).sigs 0 (compiled u).imports ≡ Ok three_hosts
  imports_are =
      ap (λ (ns : List ℕ). behind_three (externs nothing_made (compiled u).sigs 3 (map (import_from_c u) ns)))
      none

  function_at : (n : ℕ) (f : Function) (b : Stmt) → slice_get u.functions n ≡ Some f → f.body ≡ Some b
      → IsFunctionAt u st n f b
  function_at n f b e h =
      let k = place_in 0 u.functions n in
      record {
        inst = own_func (compiled u) 0 (code_of u n f b);
        is_at = ap (slice_get st.funcs) (index_is u none n f b e h)
            ∙ slice_get-map (own_func (compiled u) 0) (compiled u).funcs k
            ∙ ap (option_map (own_func (compiled u) 0))
            (slice_left (funcs_from u 0 u.functions) (start_func u ∷ []) k (code_of u n f b) (code_is u none n f b e h));
        no_host = refl;
        at_home = refl;
        type_is = sig_at u n f e;
        locals_are = refl;
        body_is = refl;
      }

  -- ---- the start function, behind all others

  start_index_is : start_index u ≡ suc (suc (suc (length (funcs_from u 0 u.functions))))
  start_index_is =
      let a = ap (λ (l : List ℕ). length l) none in
      let b = ap (λ (l : List ℕ). length l) (defined_are u) in
      let d = own_funcs u 0 u.functions in
      omega (arith, a, b, d)

  abbrev start_inst : FuncInst
  start_inst = own_func (compiled u) 0 (start_func u)

  start_there : slice_get st.funcs (start_index u) ≡ Some start_inst
  start_there =
      let k = length (funcs_from u 0 u.functions) in
      ap (slice_get st.funcs) start_index_is ∙ slice_get-map (own_func (compiled u) 0) (compiled u).funcs k
      ∙ ap (option_map (own_func (compiled u) 0)) (at_end (funcs_from u 0 u.functions) (start_func u))

  -- ---- the globals

  abbrev own : ModuleGlobal → GlobalInst
  own = own_global (values_at [] (globals_in three_hosts))

  own_begins : (v : ValType) → own (global_of u v) ≡ begun_as (global_of u v)
  own_begins vals.I32 = refl
  own_begins vals.I64 = refl
  own_begins vals.Handle = refl

  literals_begin : (n : ℕ) → map own (literal_globals u n) ≡ map begun_as (literal_globals u n)
  literals_begin zero = refl
  literals_begin (suc n) = ap (λ (l : List GlobalInst). begun_as (global_of u vals.Handle) ∷ l) (literals_begin n)

  all_begin : (n : ℕ) (ts : List Ty) → map own (globals_from u n ts ++ literal_globals u (literals_in u.made)) ≡ map begun_as (globals_from u n ts ++ literal_globals u (literals_in u.made))
  all_begin n [] = literals_begin (literals_in u.made)
  all_begin n (t ∷ ts) =
      let v = held_as (no_slots u (Global n)) t in
      ap (λ (g : GlobalInst). g ∷ map own (globals_from u (suc n) ts ++ literal_globals u (literals_in u.made))) (own_begins v)
      ∙ ap (λ (l : List GlobalInst). begun_as (global_of u v) ∷ l) (all_begin (suc n) ts)

  globals_begin : st.globals ≡ first_globals u
  globals_begin = all_begin 0 u.globals

  global_address : (x : ℕ) → x < length st.globals → slice_get (instance_in nothing_made (compiled u) three_hosts).globals x ≡ Some x
  global_address x lt =
      let l = length-map (compiled u).globals own in
      let z : 0 + x ≡ x = omega arith in
      number_at 0 (length (compiled u).globals) x (omega (arith, l, lt)) ∙ ap Some z

  -- ---- the table: behind the first entry, which is empty, those that are values

  abbrev inst : Instance
  inst = instance_in nothing_made (compiled u) three_hosts

  abbrev written_entries : List (Option Entry)
  written_entries = map (λ (x : ℕ). entry_in st.funcs (slice_get inst.funcs x)) (map (index_of u) (named u))

  abbrev the_table : Table
  the_table = with_entries (empty_table (record { min = suc (length (named u)); max = Some (suc (length (named u))) })) 1 written_entries

  taken_none : {A : Type 0} (xs : List A) → take 0 xs ≡ []
  taken_none [] = refl
  taken_none (x ∷ xs) = refl

  entry_at : (n : ℕ) (f : Function) (b : Stmt) → slice_get u.functions n ≡ Some f → f.body ≡ Some b → list_any (λ m. m == n) (named u) ≡ true
      → slice_get the_table.entries (entry_of u n) ≡ Some (Some (record { func = record { address = index_of u n }; sig = signature f.ty }))
  entry_at n f b e h among =
      let r = rank_in (named u) n in
      let at = function_at n f b e h in
      let old = replicate (length (named u)) no_entry in
      let rest = drop (1 + length written_entries) (no_entry ∷ old) in
      let own : entry_in st.funcs (slice_get inst.funcs (index_of u n)) ≡ Some (record { func = record { address = index_of u n }; sig = signature f.ty }) =
      ap (entry_in st.funcs) (address_at (compiled u).funcs (own_func (compiled u) 0) (index_of u n) (slice_get_within st.funcs (index_of u n) at.inst at.is_at))
      ∙ ap (entry_at_of st.funcs (index_of u n)) at.is_at ∙ ap (λ (t : FuncType). Some (record { func = record { address = index_of u n }; sig = t })) at.type_is in
      ap (λ (l : List (Option Entry)). slice_get (l ++ (written_entries ++ rest)) r) (taken_none old)
      ∙ slice_left written_entries rest r (Some (record { func = record { address = index_of u n }; sig = signature f.ty }))
      (slice_get-map (λ (x : ℕ). entry_in st.funcs (slice_get inst.funcs x)) (map (index_of u) (named u)) r
      ∙ ap (option_map (λ (x : ℕ). entry_in st.funcs (slice_get inst.funcs x))) (slice_get-map (index_of u) (named u) r ∙ ap (option_map (index_of u)) (rank_is (named u) n among))
      ∙ ap Some own)

  pub placed : length (named u) < 4294967295 → IsPlaced u st
  placed few = record {
    none_imported = none;
    inst = instance_in nothing_made (compiled u) three_hosts;
    alone = refl;
    all = address_at (compiled u).funcs (own_func (compiled u) 0);
    globals = globals_begin;
    shared = global_address;
    start = record {
      inst = start_inst;
      is_at = start_there;
      at_home = refl;
      locals_are = refl;
      body_is = refl;
    };
    begins = ap (λ (o : Option ℕ). with_start o []) (address_at (compiled u).funcs (own_func (compiled u) 0) (start_index u) (slice_get_within st.funcs (start_index u) start_inst start_there));
    three = omega arith;
    putchar = refl;
    getchar = refl;
    abort = refl;
    functions = function_at;
    few = few;
    types = refl;
    has_table = refl;
    table = the_table;
    tables = refl;
    empty = refl;
    entries = entry_at;
    segments = (related_new [] (λ t n. n) c).placed;
  }

  pub is_made : (s : Store) → linked ((name, compiled u) ∷ []) c ≡ Ok s → st ≡ s
  is_made s e =
      is_stored c s (too_large 0 (compiled u).tables (compiled u).memories)
      (outside 0 made.globals made.tables made.memories (instance_in nothing_made (compiled u) three_hosts)
      (compiled u).elements (compiled u).fills)
      made
      (sym (ap (λ (r : Result (List Extern) Fault). stored c (and_then (with_externs nothing_made name (compiled u) r) (all_more [])))
      imports_are) ∙ e)

-- ---- linking succeeds: of a unit that passes no limit, the table isn't too large, and the elements fit into it

last_limit : (a b d : Bool)
    → first_true a limits.locals (first_true b limits.copy (first_true d limits.functions None)) ≡ None → d ≡ false
last_limit false false false e = refl
last_limit false false true e = absurd cc
last_limit false true d e = absurd cc
last_limit true b d e = absurd cc

not_above : (m n : ℕ) → nat_lt m n ≡ false → n ≤ m
not_above m n e = grind (arith, e)

is_within : (m n : ℕ) → m ≤ n → nat_le m n ≡ true
is_within m n le = grind (arith, le)

fits_most : (l : Limits) (most : ℕ) → l.min ≤ most → sizes_fit 0 0 most (l ∷ []) ≡ None
fits_most l most le = ap (λ (b : Bool). cond b None (Some (fault_at 0 0 TooLarge))) (is_within l.min most le)

module _ (u : Typed) (name : List ℕ) (c : ℕ) (none : imported u ≡ []) (limited : limit_of u ≡ None) where
  few_named : length (named u) ≤ most_named
  few_named =
      not_above most_named (length (named u))
      (last_limit (list_any has_many_slots u.functions) (list_any (is_long_copy u.structs) (uses u))
      (nat_lt most_named (length (named u))) limited)

  abbrev table_limits : Limits
  table_limits = record { min = suc (length (named u)); max = Some (suc (length (named u))) }

  abbrev size_fault : Option Fault
  size_fault = too_large 0 (compiled u).tables (compiled u).memories

  is_small : size_fault ≡ None
  is_small =
      ap (λ (o : Option Fault). or_next o None) (fits_most table_limits most_entries (let f = few_named in omega (arith, f)))

  abbrev all_made : Made
  all_made = made u name c none

  abbrev fit_fault : Option Fault
  fit_fault = outside 0 all_made.globals all_made.tables all_made.memories
      (instance_in nothing_made (compiled u) three_hosts) (compiled u).elements (compiled u).fills

  is_inside : fit_fault ≡ None
  is_inside =
      let a = length-map (named u) (index_of u) in
      let r = length-replicate (suc (length (named u))) no_entry in
      ap (λ (b : Bool). or_next (cond b None (Some (fault_at 0 0 Fit))) None)
      (is_within (1 + length (map (index_of u) (named u))) (length (replicate (suc (length (named u))) no_entry))
      (omega (arith, a, r)))

  links : linked ((name, compiled u) ∷ []) c ≡ Ok (store_of c all_made)
  links =
      ap (λ (r : Result (List Extern) Fault). stored c (and_then (with_externs nothing_made name (compiled u) r) (all_more [])))
      (imports_are u name c none)
      ∙ ap (λ (a : Option Fault). stored c (and_then (if_small a (unless fit_fault all_made)) (all_more []))) is_small
      ∙ ap (λ (b : Option Fault). stored c (and_then (unless b all_made) (all_more []))) is_inside

-- ---- where it is linked alone, nothing is imported from `c`

pub none_imported : (u : Typed) (name : List ℕ) (c : ℕ) (s : Store) → linked ((name, compiled u) ∷ []) c ≡ Ok s → imported u ≡ []
none_imported u name c s e = by (imported u) e where
  by : (ns : List ℕ)
      → stored c (and_then (with_externs nothing_made name (compiled u) (behind_three (externs nothing_made (compiled u).sigs 3 (map (import_from_c u) ns)))) (all_more [])) ≡ Ok s
      → ns ≡ []
  by [] e = refl
  by (n ∷ ns) e = absurd cc

-- ---- the table isn't too large

small_made : (c : ℕ) (s : Store) (a b : Option Fault) (made : Made) → stored c (and_then (if_small a (unless b made)) (all_more [])) ≡ Ok s → a ≡ None
small_made c s None b made e = refl
small_made c s (Some f) b made e = absurd cc

is_at_most : (m n : ℕ) → nat_le m n ≡ true → m ≤ n
is_at_most m n e = grind (arith, e)

below_most : (k : ℕ) (f : Fault) → or_next (cond (nat_le k most_entries) None (Some f)) None ≡ None → k ≤ most_entries
below_most k f e = by (nat_le k most_entries) refl e where
  by : (b : Bool) → nat_le k most_entries ≡ b → or_next (cond b None (Some f)) None ≡ None → k ≤ most_entries
  by true q e' = is_at_most k most_entries q
  by false q e' = absurd cc

pub few_named_in : (u : Typed) (name : List ℕ) (c : ℕ) (s : Store) → linked ((name, compiled u) ∷ []) c ≡ Ok s → length (named u) < 4294967295
few_named_in u name c s e =
    let none = none_imported u name c s e in
    let made' = made u name c none in
    let a = too_large 0 (compiled u).tables (compiled u).memories in
    let b = outside 0 made'.globals made'.tables made'.memories (instance_in nothing_made (compiled u) three_hosts) (compiled u).elements (compiled u).fills in
    let small = small_made c s a b made'
    (sym (ap (λ (r : Result (List Extern) Fault). stored c (and_then (with_externs nothing_made name (compiled u) r) (all_more []))) (imports_are u name c none)) ∙ e) in
    let le = below_most (suc (length (named u))) (fault_at 0 0 TooLarge) small in
    omega (arith, le)

-- ---- the laws

pub compiled_links : (u : Typed) (name : List ℕ) (c : ℕ) → imported u ≡ [] → limit_of u ≡ None → (s : Store) × (linked ((name, compiled u) ∷ []) c ≡ Ok s)
compiled_links u name c none limited = (store_of c (made u name c none), links u name c none limited)

pub compiled_is_placed : (u : Typed) (name : List ℕ) (c : ℕ) (s : Store) → linked ((name, compiled u) ∷ []) c ≡ Ok s → IsPlaced u s
compiled_is_placed u name c s e =
    let none = none_imported u name c s e in
    subst (λ (t : Store). IsPlaced u t) (is_made u name c none s e) (placed u name c none (few_named_in u name c s e))

pub linked_behaves : (u : Typed) (name : List ℕ) (c : ℕ) (s : Store) (n : ℕ) (f : Function) (b : Stmt) (t : Ty)
    → IsWellTyped u → IsMost u → main_number u ≡ Some n
    → slice_get u.functions n ≡ Some f → f.body ≡ Some b → f.ty ≡ function t no_types → gives_integer t ≡ true
    → linked ((name, compiled u) ∷ []) c ≡ Ok s → Behaves u s (index_of u n)
linked_behaves u name c s n f b t well most is_main at has_body ty numeric e =
    compiled_behaves u s n f b t well most is_main at has_body ty numeric (compiled_is_placed u name c s e)
