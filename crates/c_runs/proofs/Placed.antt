-- What a call needs of each function, from what a store has of the unit.
use Rattle.std.proofs.Common.{◌≡◌, ◌≢◌, ℕ, zero, suc, ◌+◌, ◌<◌, ◌≤◌, List, [], ◌∷◌, length, map, max, Bool, true, false, cond, is_some, Option, Some, None, refl, sym, ap, ◌∙◌, arith, subst, ◌++◌, append_assoc, Ok, Err}
use Rattle.std.specs.Prelude.{get_or, not, replicate, slice_get, ◌&&◌, ◌||◌, filter, ◌==◌}
use Rattle.std.specs.List.{All, list_any}
use Rattle.std.proofs.lemmas.Option.{slice_get_within}
use Rattle.std.proofs.lemmas.List.{length-map, length-replicate}
use Rattle.std.proofs.lemmas.List.Elements.{All-head, All-tail}
use Rattle.ms_types.specs.declared.types.FuncType.{FuncType}
use Rattle.ms_types.specs.declared.types.ValType.{ValType}
use Rattle.ms_linear.specs.Table.{target_in, target_of as target_at}
use Rattle.ms_linear.specs.declared.table.CallTrap.TheVariants.{Signature}
use Rattle.ms_linear.proofs.Targets.{same_sig-refl}
use Rattle.ms_machine.specs.Store.{Store}
use Rattle.ms_module.specs.declared.instr.Instr.{Instr}
use Rattle.ms_module.specs.Numbered.{sequence_at}
use Rattle.ms_task.specs.declared.func.FuncInst.{FuncInst}
use Rattle.ms_task.specs.Thread.{body_in, body_of, sequence}
use Rattle.ms_linear.specs.declared.value.Value.TheVariants.{I32}
use Rattle.c_meaning.specs.Units as file
use Rattle.c_meaning.specs.Units.{in_made}
use Rattle.c_typed.specs.declared.ops.Variable.{Variable}
use Rattle.c_typed.specs.declared.ops.Variable.TheVariants.{Local, Global}
use Rattle.c_types.specs.Types.{Ty, void, integer, pointer, function, Tys, no_types}
use Rattle.c_typed.specs.Objects.{is_whole}
use Rattle.c_typed.specs.Tree.{Function, Stmt, Typed}
use Rattle.c_typed.specs.Units.{IsBody, IsFunction, IsWellTyped, list_of}
use Rattle.c_typed.specs.refinement.Types.{IsObject, IsType, IsValue}
use Rattle.c_typing.proofs.Frames.{sound_with}
use Rattle.c_typing.proofs.Indices.{sig_through}
use Rattle.c_typing.proofs.Lists.{equal_is}
use Rattle.c_typing.proofs.Names.{Each, each_back, each_front}
use Rattle.ms_emit.specs.Codes.{total}
use Rattle.c_code.specs.Functions.{body, held_as, listed, locals, params_in, result_in, signature}
use Rattle.c_code.specs.Modules.{index_of, is_call_of, is_defined, is_defined_at, is_name_of, target_of, all_functions, named, rank_in}
use Rattle.c_code.specs.Operations.{val_of}
use Rattle.c_runs.proofs.Fits.{IsMost, body_fits_in}
use Rattle.c_code.specs.Uses as uses
use Rattle.c_code.specs.Uses.{waits_stmt}
use Rattle.c_runs.specs.Crews.{then_steps}
use Rattle.c_runs.specs.Threads.{Paused, Ran, over, ran}
use Rattle.ms_machine.specs.Crews.{Input, by_work}
use Rattle.ms_machine.specs.Store.{number_of_instance}
use Rattle.ms_task.specs.Thread.{Item, Thread}
use Rattle.ms_linear.specs.declared.value.Value.{Value}
use Rattle.ms_linear.specs.declared.global.GlobalInst.{GlobalInst}
use Rattle.std.proofs.Common.{length-append}
use Rattle.c_code.specs.Functions.{start}
use Rattle.c_code.specs.Modules.{globals_from, literal_globals, start_target}
use Rattle.c_typed.specs.Units.{literals_in}
use Rattle.c_runs.proofs.Starting.{HasStart}
use Rattle.c_runs.specs.Placed.{IsPlaced, begun_as, start_index, instructions_in, longest_in, longest_of}
use Rattle.c_runs.proofs.Goes.{Mem, Site}
use Rattle.c_runs.proofs.Operations.{Linked}
use Rattle.c_runs.proofs.Related.{HasAll}
use Rattle.c_runs.proofs.Bodies.{IsResult, is_pointer, is_void}
use Rattle.c_runs.proofs.Callees.{Compiled, slots_of}
use Rattle.c_meaning.specs.Units.{is_global_object}
use Rattle.c_code.specs.Targets.{Target}
use Rattle.c_runs.proofs.Globals.{NamesOf, all_reached, file_slots}
use Rattle.c_runs.proofs.Filing.{names_of}
use Rattle.c_runs.proofs.Numbers.{never_passes}
use Rattle.c_runs.proofs.Ready.{AreCallable, IsCallable, any_left, any_right, in_stmt_of, left_of, right_of, IsKnown, same_number}
use Rattle.c_runs.proofs.Scalars.{AreData, IsVariable, parameters_data, variable_type}
use Rattle.c_runs.proofs.Entries.{IsTable, IsEntry}

-- ---- one of a list

pub same_one : {A : Type 0} (x y : A) → Some x ≡ Some y → x ≡ y
same_one {A = A} x y e = ap (λ (o : Option A). or o) e where
  or : Option A → A
  or None = x
  or (Some z) = z

pub all_at : {A : Type 0} (P : A → Type 0) (xs : List A) (n : ℕ) (x : A) → slice_get xs n ≡ Some x → All P xs → P x
all_at P [] n x e h = absurd cc
all_at P (y ∷ xs) zero x e h = subst P (same_one y x e) (All-head P y xs h)
all_at P (y ∷ xs) (suc n) x e h = all_at P xs n x e (All-tail P y xs h)

get_mapped : (fs : List Function) (n : ℕ) (t : Ty) → slice_get (map (λ (g : Function). g.ty) fs) n ≡ Some t → (f : Function) × (slice_get fs n ≡ Some f) × (f.ty ≡ t)
get_mapped [] n t e = absurd cc
get_mapped (f ∷ fs) zero t e = (f, refl, same_one f.ty t e)
get_mapped (f ∷ fs) (suc n) t e = get_mapped fs n t e

pub defined_by : (o : Option Stmt) → is_some o ≡ true → (b : Stmt) × (o ≡ Some b)
defined_by None e = absurd cc
defined_by (Some b) e = (b, refl)

-- ---- what a body uses is used

used_at : (m : ℕ) (fs : List Function) (n : ℕ) (f : Function) (b : Stmt) → slice_get fs n ≡ Some f → f.body ≡ Some b
    → list_any (is_call_of m) (uses.in_stmt b) ≡ true → list_any (is_call_of m) (uses.in_functions fs) ≡ true
used_at m [] n f b e h used = absurd cc
used_at m (g ∷ fs) zero f b e h used =
    any_left (is_call_of m) (uses.in_body g.body) (uses.in_functions fs)
    (ap (λ (o : Option Stmt). list_any (is_call_of m) (uses.in_body o)) (ap (λ (x : Function). x.body) (same_one g f e) ∙ h) ∙ used)
used_at m (g ∷ fs) (suc n) f b e h used = any_right (is_call_of m) (uses.in_body g.body) (uses.in_functions fs) (used_at m fs n f b e h used)

-- a variable at file scope whose address a body takes
taken_at : (x : ℕ) (fs : List Function) (n : ℕ) (f : Function) (b : Stmt) → slice_get fs n ≡ Some f → f.body ≡ Some b → in_stmt_of b (Global x) ≡ true → file.in_functions x fs ≡ true
taken_at x [] n f b at has e = absurd cc
taken_at x (g ∷ fs) zero f b at has e =
    left_of (file.in_body x g.body) (file.in_functions x fs) (ap (λ (o : Option Stmt). file.in_body x o) (ap (λ (h : Function). h.body) (same_one g f at) ∙ has) ∙ e)
taken_at x (g ∷ fs) (suc n) f b at has e = right_of (file.in_body x g.body) (file.in_functions x fs) (taken_at x fs n f b at has e)

-- what holds of all uses holds of those of a body
known_at : (P : uses.Use → Type 0) (fs : List Function) (n : ℕ) (f : Function) (b : Stmt) → slice_get fs n ≡ Some f → f.body ≡ Some b → Each P (uses.in_functions fs) → Each P (uses.in_stmt b)
known_at P [] n f b e h all = absurd cc
known_at P (g ∷ fs) zero f b e h all =
    subst (λ (o : Option Stmt). Each P (uses.in_body o)) (ap (λ (x : Function). x.body) (same_one g f e) ∙ h) (each_front P (uses.in_body g.body) (uses.in_functions fs) all)
known_at P (g ∷ fs) (suc n) f b e h all = known_at P fs n f b e h (each_back P (uses.in_body g.body) (uses.in_functions fs) all)

-- each use is known to the unit
known_use : (u : Typed) (pre rest : List uses.Use) (x : uses.Use) → uses.uses u ≡ pre ++ x ∷ rest → IsKnown true u x
known_use u pre rest (uses.names n) e = ap (list_any (is_name_of n)) e ∙ any_right (is_name_of n) pre (uses.names n ∷ rest) (same_number n (list_any (is_name_of n) rest))
known_use u pre rest (uses.calls n) e = refl
known_use u pre rest (uses.through t) e = (refl, sig_through u t pre rest e)
known_use u pre rest (uses.copies n) e = tt

all_known : (u : Typed) (pre rest : List uses.Use) → uses.uses u ≡ pre ++ rest → Each (IsKnown true u) rest
all_known u pre [] e = tt
all_known u pre (x ∷ rest) e = (known_use u pre rest x e, all_known u (pre ++ x ∷ []) rest (e ∙ sym (append_assoc pre (x ∷ []) rest)))

-- a name is a use of the function
name_is_call : (n : ℕ) (us : List uses.Use) → list_any (is_name_of n) us ≡ true → list_any (is_call_of n) us ≡ true
name_is_call n [] e = absurd cc
name_is_call n (uses.names m ∷ us) e = by (m == n) e (name_is_call n us) where
  by : (b : Bool) → (b || list_any (is_name_of n) us) ≡ true → (list_any (is_name_of n) us ≡ true → list_any (is_call_of n) us ≡ true) → (b || list_any (is_call_of n) us) ≡ true
  by true e h = refl
  by false e h = h e
name_is_call n (uses.calls m ∷ us) e = right_of (m == n) (list_any (is_call_of n) us) (name_is_call n us e)
name_is_call n (uses.through t ∷ us) e = name_is_call n us e
name_is_call n (uses.copies m ∷ us) e = name_is_call n us e

-- what is among those that pass passes
passes : (p : ℕ → Bool) (n : ℕ) (xs : List ℕ) → list_any (λ m. m == n) (filter p xs) ≡ true → p n ≡ true
passes p n [] e = absurd cc
passes p n (x ∷ xs) e = by (p x) refl e (passes p n xs) where
  of_first : (b : Bool) → (x == n) ≡ b → p x ≡ true → (b || list_any (λ m. m == n) (filter p xs)) ≡ true → (list_any (λ m. m == n) (filter p xs) ≡ true → p n ≡ true) → p n ≡ true
  of_first true q h e' rest = ap p (sym (equal_is x n q)) ∙ h
  of_first false q h e' rest = rest e'

  by : (b : Bool) → p x ≡ b → list_any (λ m. m == n) (cond b (x ∷ filter p xs) (filter p xs)) ≡ true → (list_any (λ m. m == n) (filter p xs) ≡ true → p n ≡ true) → p n ≡ true
  by true q e' rest = of_first (x == n) refl q e' rest
  by false q e' rest = rest e'

defined_or : (d used : Bool) → (not d && used) ≡ false → used ≡ true → d ≡ true
defined_or true used e h = refl
defined_or false true e h = absurd cc
defined_or false false e h = absurd cc

-- ---- how many instructions a body has at most

on_left : (m n : ℕ) → m ≤ max m n
on_left m n = omega arith

on_right : (k m n : ℕ) → k ≤ n → k ≤ max m n
on_right k m n le = omega (arith, le)

pub small_in : (u : Typed) (fs : List Function) (n : ℕ) (f : Function) (b : Stmt) → slice_get fs n ≡ Some f → f.body ≡ Some b
    → total (body (target_of u f b) f b) ≤ longest_in u fs
small_in u [] n f b e h = absurd cc
small_in u (g ∷ fs) zero f b e h =
    subst (λ (x : Function). total (body (target_of u f b) f b) ≤ longest_in u (x ∷ fs)) (sym (same_one g f e))
    (subst (λ (o : Option Stmt). total (body (target_of u f b) f b) ≤ max (instructions_in u f o) (longest_in u fs)) (sym h)
    (on_left (total (body (target_of u f b) f b)) (longest_in u fs)))
small_in u (g ∷ fs) (suc n) f b e h =
    on_right (total (body (target_of u f b) f b)) (instructions_in u g g.body) (longest_in u fs) (small_in u fs n f b e h)

-- ---- the sequences of a body

pub seq_is : (funcs : List FuncInst) (fn k : ℕ) → sequence funcs fn k ≡ sequence_at (body_of funcs fn) k
unfolding sequence
seq_is funcs fn k = refl

has_from : (funcs : List FuncInst) (fn n : ℕ) (ss : List (List Instr)) → ((k : ℕ) → sequence funcs fn (n + k) ≡ sequence_at ss k) → HasAll funcs fn n ss
has_from funcs fn n [] h = tt
has_from funcs fn n (is ∷ ss) h =
    let z : n + 0 ≡ n = omega arith in
    (subst (λ (k : ℕ). sequence funcs fn k ≡ is) z (h 0), has_from funcs fn (suc n) ss (λ k. let q : suc n + k ≡ n + suc k = omega arith in ap (sequence funcs fn) q ∙ h (suc k)))

has_all : (funcs : List FuncInst) (fn : ℕ) (ss : List (List Instr)) → body_of funcs fn ≡ ss → HasAll funcs fn 0 ss
has_all funcs fn ss e = has_from funcs fn 0 ss (λ k. let z : 0 + k ≡ k = omega arith in ap (sequence funcs fn) z ∙ seq_is funcs fn k ∙ ap (λ (s : List (List Instr)). sequence_at s k) e)

-- ---- types of functions

abbrev types_in : Ty → Tys
types_in (function r ps) = ps
types_in t = no_types

first_listed : (o : Option ValType) → slice_get (listed o) 0 ≡ o
first_listed None = refl
first_listed (Some v) = refl

not_empty : (ts : List Ty) → 0 < length ts → ts ≢ []
not_empty [] lt e = absurd (omega (arith, lt))
not_empty (t ∷ ts) lt e = absurd cc

result_kind : (t : Ty) → IsValue t → IsResult t
result_kind void h = is_void refl
result_kind (integer u) h = Rattle.c_runs.proofs.Bodies.is_integer u refl
result_kind (pointer s) h = is_pointer s refl
result_kind _ h = absurd h

-- ---- the site of a store

abbrev pub site_of : Typed → Store → Site
site_of u s = record { funcs = s.funcs; instances = s.instances; tables = s.tables; memories = s.memories; shared = length s.globals; last = over; still = λ t v input. refl; most = longest_of u }

abbrev pub mem_of : Store → Mem
mem_of s = record { globals = s.globals; segments = s.segments; homes = []; temps = [] }

-- by itself a thread tells of nothing at once
pub still_steps : (t : Thread) (s : Store) (v : Option Value) (input : Input) → (then_steps t 0 s v input).events ≡ []
still_steps t s v input = by t.work where
  by : (r : List Item) → (by_work r (over 0 s (slice_get t.operands 0) input) (ran Paused)).events ≡ []
  by [] = refl
  by (i ∷ r) = refl

module _ (u : Typed) (s : Store) (well : IsWellTyped u) (most : IsMost u) (placed : IsPlaced u s) where
  pub linked : Linked (site_of u s)
  linked = record { inst = placed.inst; alone = placed.alone; all = placed.all; shared = placed.shared; three = placed.three; putchar = placed.putchar; getchar = placed.getchar; abort = placed.abort }

  -- a function that is a value is defined
  named_callable : (n : ℕ) → list_any (λ m. m == n) (named u) ≡ true → IsCallable u n
  named_callable n e lt =
      defined_or (is_defined_at u n) (list_any (is_call_of n) (uses.uses u))
      (never_passes (λ k. not (is_defined_at u k) && list_any (is_call_of k) (uses.uses u)) (length u.functions) placed.none_imported n lt)
      (name_is_call n (uses.uses u) (passes (λ k. list_any (is_name_of k) (uses.uses u)) n (all_functions u) e))

  table_entries : (n : ℕ) (t : Ty) → IsEntry u t n → target_at placed.table.entries (suc (rank_in (named u) n)) (signature t) ≡ Ok (record { address = index_of u n })
  table_entries n t e =
      let f = get_mapped u.functions n t e.typed in
      let b = defined_by f.0.body (ap is_defined (sym f.1) ∙ named_callable n e.among (slice_get_within u.functions n f.0 f.1)) in
      ap (target_in (signature t)) (placed.entries n f.0 b.0 f.1 b.1 e.among)
      ∙ ap (λ (q : Ty). target_in (signature t) (Some (Some (record { func = record { address = index_of u n }; sig = signature q })))) f.2
      ∙ ap (λ (x : Bool). cond x (Ok (record { address = index_of u n })) (Err Signature)) (same_sig-refl (signature t))

  pub table : IsTable (site_of u s) u
  table = record {
    few = placed.few;
    inst = placed.inst;
    alone = placed.alone;
    has_table = placed.has_table;
    types = placed.types;
    table = placed.table;
    tables = placed.tables;
    empty = placed.empty;
    entries = table_entries;
    callable = named_callable;
  }

  -- ---- the start function, where another site has the same functions and table

  globals_long : (n : ℕ) (ts : List Ty) → length (globals_from u n ts) ≡ length ts
  globals_long n [] = refl
  globals_long n (x ∷ xs) = ap suc (globals_long (suc n) xs)

  literals_long : (n : ℕ) → length (literal_globals u n) ≡ n
  literals_long zero = refl
  literals_long (suc n) = ap suc (literals_long n)

  room : length s.globals ≡ length u.globals + literals_in u.made
  room =
      ap (λ (l : List GlobalInst). length l) placed.globals ∙ length-map (globals_from u 0 u.globals ++ literal_globals u (literals_in u.made)) begun_as
      ∙ length-append (globals_from u 0 u.globals) (literal_globals u (literals_in u.made))
      ∙ (let a = globals_long 0 u.globals in let b = literals_long (literals_in u.made) in omega (arith, a, b))

  abbrev pub ahead_of : Thread → Site
  ahead_of t = record (site_of u s) { last = then_steps t; still = still_steps t }

  pub linked_ahead : (t : Thread) → Linked (ahead_of t)
  linked_ahead t = record { inst = placed.inst; alone = placed.alone; all = placed.all; shared = placed.shared; three = placed.three; putchar = placed.putchar; getchar = placed.getchar; abort = placed.abort }

  -- whatever goes on behind it
  pub has_start : (last : ℕ → Store → Option Value → Input → Ran) (still : (s' : Store) (v : Option Value) (input : Input) → (last 0 s' v input).events ≡ [])
      → HasStart (record (site_of u s) { last = last; still = still }) u
  has_start last still = record {
    at_home = ap number_of_instance placed.start.is_at ∙ ap Some placed.start.at_home;
    code = has_all s.funcs (start_index u) (start (start_target u) u.globals u.made) (ap body_in placed.start.is_at ∙ placed.start.body_is);
    room = room;
    table = record {
      few = placed.few;
      inst = placed.inst;
      alone = placed.alone;
      has_table = placed.has_table;
      types = placed.types;
      table = placed.table;
      tables = placed.tables;
      empty = placed.empty;
      entries = table_entries;
      callable = named_callable;
    };
  }

  pub file_types : (x : ℕ) (t : Ty) → slice_get u.globals x ≡ Some t → IsVariable t
  file_types x t e = variable_type u.structs t (all_at (IsObject u.structs) u.globals x t e well.globals)

  -- what code may name at file scope
  pub names_at : (tg : Target) → tg.globals ≡ length u.globals → ((x : ℕ) → tg.is_object (Global x) ≡ is_global_object u x (get_or u.globals x void)) → NamesOf u.structs (file_slots u) (all_reached u) tg u.globals (literals_in u.made)
  names_at tg behind object_is = names_of u well file_types tg behind object_is (λ x q e. all_at (IsObject u.structs) u.globals x q e well.globals)

  -- a variable whose address a body takes is an object
  objects_taken : (f : Function) (n : ℕ) (b : Stmt) → slice_get u.functions n ≡ Some f → f.body ≡ Some b → (x : Variable) → in_stmt_of b x ≡ true → (target_of u f b).is_object x ≡ true
  objects_taken f n b at has (Local x) e = right_of (is_whole (get_or f.slots x void)) (in_stmt_of b (Local x)) e
  objects_taken f n b at has (Global x) e =
      right_of (is_whole (get_or u.globals x void)) (in_made x u.made || file.in_functions x u.functions) (right_of (in_made x u.made) (file.in_functions x u.functions) (taken_at x u.functions n f b at has e))

  -- what stands at file scope uses what is defined
  pub made_callable : AreCallable u (uses.in_made u.made)
  made_callable m used lt =
      defined_or (is_defined_at u m) (list_any (is_call_of m) (uses.uses u))
      (never_passes (λ k. not (is_defined_at u k) && list_any (is_call_of k) (uses.uses u)) (length u.functions) placed.none_imported m lt)
      (any_left (is_call_of m) (uses.in_made u.made) (uses.in_functions u.functions) used)

  pub made_known : Each (IsKnown true u) (uses.in_made u.made)
  made_known = each_front (IsKnown true u) (uses.in_made u.made) (uses.in_functions u.functions) (all_known u [] (uses.uses u) refl)

  module _ (n : ℕ) (t : Ty) (ps : Tys) (e : slice_get (map (λ (g : Function). g.ty) u.functions) n ≡ Some (function t ps)) where
    found : (f : Function) × (slice_get u.functions n ≡ Some f) × (f.ty ≡ function t ps)
    found = get_mapped u.functions n (function t ps) e

    type_here : IsType u.structs (function t ps)
    type_here = subst (IsType u.structs) found.2 (all_at (IsFunction u) u.functions n found.0 found.1 well.functions).3

    pub params_are : AreData ps
    params_are = parameters_data u.structs ps type_here.2

    callable : (b : Stmt) → found.0.body ≡ Some b → AreCallable u (uses.in_stmt b)
    callable b e' m used lt =
        defined_or (is_defined_at u m) (list_any (is_call_of m) (uses.uses u))
        (never_passes (λ k. not (is_defined_at u k) && list_any (is_call_of k) (uses.uses u)) (length u.functions) placed.none_imported m lt)
        (any_right (is_call_of m) (uses.in_made u.made) (uses.in_functions u.functions) (used_at m u.functions n found.0 b found.1 e' used))

    known : (b : Stmt) → found.0.body ≡ Some b → Each (IsKnown true u) (uses.in_stmt b)
    known b e' =
        known_at (IsKnown true u) u.functions n found.0 b found.1 e'
        (each_back (IsKnown true u) (uses.in_made u.made) (uses.in_functions u.functions) (all_known u [] (uses.uses u) refl))

    pub compiled : IsCallable u n → Compiled (site_of u s) u n t ps
    compiled is_callable =
        let f = found.0 in
        let ty_is = found.2 in
        let b = defined_by f.body (ap is_defined (sym found.1) ∙ is_callable (slice_get_within u.functions n f found.1)) in
        let at = placed.functions n f b.0 found.1 b.1 in
        let here = all_at (IsFunction u) u.functions n f found.1 well.functions in
        let r_is : here.0 ≡ t = ap result_in (sym here.2 ∙ ty_is) in
        let ps_is : here.1 ≡ ps = ap types_in (sym here.2 ∙ ty_is) in
        let bd : IsBody u t ps f.slots (Some b.0) =
        subst (λ (r : Ty). IsBody u r ps f.slots (Some b.0)) r_is (subst (λ (qs : Tys). IsBody u here.0 qs f.slots (Some b.0)) ps_is (subst (λ (o : Option Stmt). IsBody u here.0 here.1 f.slots o) b.1 here.4)) in
        let as_many : length (params_in f.ty) ≡ length (list_of ps) = ap (λ (ty : Ty). length (params_in ty)) ty_is in
        record {
          inst = at.inst;
          is_at = at.is_at;
          no_host = at.no_host;
          at_home = at.at_home;
          takes = ap (λ (ty : FuncType). length ty.params) at.type_is ∙ length-map (params_in f.ty) (held_as false) ∙ as_many;
          gives_one = ap (λ (ty : FuncType). slice_get ty.results 0) at.type_is ∙ ap (λ (ty : Ty). slice_get (listed (val_of (result_in ty))) 0) ty_is ∙ first_listed (val_of t);
          function_is = f;
          named = found.1;
          typed = ty_is;
          stmt_is = b.0;
          has_body = b.1;
          locals_are = at.locals_are ∙ ap (λ (k : ℕ). locals (target_of u f b.0) k f.slots (waits_stmt b.0)) as_many;
          code = has_all s.funcs (index_of u n) (body (target_of u f b.0) f b.0) (ap body_in at.is_at ∙ at.body_is);
          small = small_in u u.functions n f b.0 found.1 b.1;
          others = bd.0.0;
          begins = bd.0.1;
          well = bd.2;
          slots_are = slots_of u.structs f.slots bd.1;
          ready = record { fits = body_fits_in u most n f b.0 found.1 b.1; callable = callable b.0 b.1; known = known b.0 b.1; objects = objects_taken f n b.0 found.1 b.1 };
          result = result_kind t type_here.0;
          table = table;
          args = replicate (target_of u f b.0).first (I32 0);
          first_is = sym (length-replicate (target_of u f b.0).first (I32 0));
          laid_out = well.laid_out;
          has_members = λ n l e. not_empty l.members (well.structs n l e).0;
          sizes = λ x s' e'. (all_at (IsObject u.structs) f.slots x s' e' bd.1).1;
          sound = sound_with u well f.slots bd.1;
          names = names_at (target_of u f b.0) refl (λ x. refl);
        }
