-- The crew of a linked store is divided, where a set of instances that shares nothing with the others has one task's and no other's.
use Rattle.std.proofs.Common.{◌≡◌, ◌≢◌, ◌<◌, ◌≤◌, ℕ, zero, suc, Bool, true, false, List, [], ◌∷◌, length, map, slice_get, Option, Some, None, option_and_then, option_map, Result, Ok, Err, refl, sym, ap, ◌∙◌, subst, arith}
use Rattle.ms_linear.specs.declared.global.GlobalInst.{GlobalInst}
use Rattle.ms_linear.specs.declared.value.Value.{Value}
use Rattle.ms_linear.specs.declared.value.Value.TheVariants as values
use Rattle.ms_linear.specs.Values.{default_of}
use Rattle.ms_handle.specs.declared.handle.Handle.TheVariants as handles
use Rattle.ms_segment.specs.Memory.{Memory, live_of}
use Rattle.ms_task.specs.Control.{nobody, exited as exited_thread, started}
use Rattle.ms_task.specs.declared.func.FuncInst.{FuncInst}
use Rattle.ms_task.specs.Thread.{Activation, Thread, result_of, sequence}
use Rattle.ms_types.specs.declared.types.ValType.{ValType}
use Rattle.ms_types.specs.declared.types.ValType.TheVariants as types
use Rattle.ms_machine.specs.Crews.{Crew, End, Input, OutOfBudget, Results, Run, Start, Stuck, Task, Trap, begun, run_of}
use Rattle.std.specs.List.{All}
use Rattle.ms_machine.specs.Linked.{StartsTyped, start_chain}
use Rattle.ms_machine.specs.Typing.{StoreTyped, outline_of}
use Rattle.ms_machine.specs.refinement.Holding.{EachGlobal, Fits, StoreFits, ThreadFits}
use Rattle.ms_machine.specs.Running as running
use Rattle.ms_machine.specs.Running.{func_thread}
use Rattle.ms_machine.specs.Store.{Store}
use Rattle.ms_machine.proofs.HeldFits.{starts_fit}
use Rattle.ms_machine.proofs.HeldValues.{each_default, holds, kept_dos}
use Rattle.ms_tasks.specs.Joined.{IsApart, instance_of}
use Rattle.ms_tasks.specs.Tasks.{AreAddresses, IsCrewOf, and_thread, crew_of, task_address, thread_at, threads_from}
use Rattle.ms_tasks.specs.refinement.Ready.{IsReady}
use Rattle.ms_tasks.proofs.Safe.{run_ready}
use Rattle.ms_apart.specs.refinement.Apart.{Divided, EachThread, FunctionOn, OnASide, Owned, SegmentOn, Separated, Sides, ThreadOn, ValueOn}
use Rattle.ms_apart.specs.Runs.{IsCut, IsQuiet, OwnAlike}
use Rattle.ms_tasks.specs.Alone.{alone}
use Rattle.ms_apart.proofs.Functions.{dos_functions}
use Rattle.ms_apart.proofs.Lists.{get_mapped, nothing_past, same_Some, something_below}
use Rattle.ms_apart.proofs.Quiet.{quiet_calm}
use Rattle.ms_apart.proofs.Ranks.{Any, Told}
use Rattle.ms_apart.proofs.Results.{Yields, all_of, chain_yields, run_yields, state_stays, task_yields}
use Rattle.ms_apart.proofs.Runs.{IsStopped, RunAlike}
use Rattle.ms_apart.proofs.Sides.{is_sided, sides_of}
use Rattle.ms_apart.proofs.Starts.{all_alike, each_ahead}
use Rattle.ms_apart.proofs.Stepping.{exit_on}
use Rattle.ms_apart.proofs.Tables.{IsLinked}

none_some : {X : Type 0} (o : Option X) (x : X) → o ≡ None → o ≡ Some x → ⊥
none_some o x e f = cc

-- ---- the thread of a function, before its first instruction

module _ (sides : Sides) (own : Owned) (side : Bool) (s : Store) where
  default_on : (ty : ValType) → ValueOn own side (default_of ty)
  default_on types.I32 = tt
  default_on types.I64 = tt
  default_on types.Handle = tt

  started_on : (a : ℕ) (g : FuncInst) → slice_get s.funcs a ≡ Some g → sides.instances g.instance ≡ side → ThreadOn sides own side s (exited_thread (started s.funcs a g))
  started_on a g found is =
      let P = FunctionOn sides s.funcs side in
      let V = ValueOn own side in
      let t = started s.funcs a g in
      exit_on sides own side s t (record {
        function = λ f e. ap (λ (h : FuncInst). sides.instances h.instance) (same_Some (slice_get s.funcs a) f g e found) ∙ is;
        callers = dos_functions P (sequence s.funcs a 0) (Activation (result_of g) 0 (nobody s.funcs) ∷ []) ((λ f e. absurd (none_some (slice_get s.funcs (length s.funcs)) f (nothing_past s.funcs (length s.funcs) (omega arith)) e)), tt);
        values = holds V t.frame t.operands t.work tt (each_default V default_on g.locals) (kept_dos V (sequence s.funcs a 0) (Activation (result_of g) 0 (nobody s.funcs) ∷ []) (tt, tt));
      })

  -- where the function is of the side, if there is one
  thread_on : (a : ℕ) → ((g : FuncInst) → slice_get s.funcs a ≡ Some g → sides.instances g.instance ≡ side) → ThreadOn sides own side s (func_thread s a) × ThreadFits s (func_thread s a)
  thread_on a alike = by (slice_get s.funcs a) refl where
    by : (o : Option FuncInst) → slice_get s.funcs a ≡ o → ThreadOn sides own side s (running.start_of s a o) × ThreadFits s (running.start_of s a o)
    by None is = (
      record { function = λ f e. absurd (none_some (slice_get s.funcs a) f is e); callers = tt; values = record { operands = tt; locals = tt; kept = tt } },
      record { operands = tt; locals = tt; kept = tt },
    )
    by (Some g) is = (started_on a g is (alike g is), starts_fit s a g)

chain_on : (sides : Sides) (own : Owned) (s : Store) (chain : List ℕ) → EachThread (OnASide sides own s) (map (func_thread s) chain)
chain_on sides own s [] = tt
chain_on sides own s (a ∷ rest) = (by (slice_get s.funcs a) refl, chain_on sides own s rest) where
  by : (o : Option FuncInst) → slice_get s.funcs a ≡ o → OnASide sides own s (func_thread s a)
  by None is = let x = thread_on sides own true s a (λ g e. absurd (none_some (slice_get s.funcs a) g is e)) in (true, x.0, x.1)
  by (Some g) is =
      let x = thread_on sides own (sides.instances g.instance) s a (λ h e. ap (λ (f : FuncInst). sides.instances f.instance) (same_Some (slice_get s.funcs a) h g e is)) in
      (sides.instances g.instance, x.0, x.1)

-- ---- nothing is owned before anything is made

abbrev pub nothing_owned : Owned
nothing_owned i = false

value_on : (b : Bool) (m : Memory) → m.made ≡ 0 → (v : Value) → Fits m v → ValueOn nothing_owned b v
value_on b m none (values.I32 n) fits = tt
value_on b m none (values.I64 n) fits = tt
value_on b m none (values.Handle handles.Null) fits = tt
value_on b m none (values.Handle handles.Broken) fits = tt
value_on b m none (values.Handle (handles.Good sealed id base size offset)) fits = absurd (let low = fits.0 in let high = fits.1 in omega (arith, low, high, none))

global_on : (b : Bool) (m : Memory) → m.made ≡ 0 → (gs : List GlobalInst) → EachGlobal (Fits m) gs → (a : ℕ) (g : GlobalInst) → slice_get gs a ≡ Some g → ValueOn nothing_owned b g.value
global_on b m none [] fits zero g at = absurd cc
global_on b m none [] fits (suc a) g at = absurd cc
global_on b m none (h ∷ gs) fits zero g at = subst (λ (x : GlobalInst). ValueOn nothing_owned b x.value) (same_Some (Some h) h g refl at) (value_on b m none h.value fits.0)
global_on b m none (h ∷ gs) fits (suc a) g at = global_on b m none gs fits.1 a g at

separated : (sides : Sides) (s : Store) → IsLinked s → StoreFits s → Separated sides nothing_owned s
separated sides s linked fits =
    record {
      globals = λ a g at. global_on (sides.globals a) s.segments linked.none_made s.globals fits.globals a g at;
      segments = λ id. subst (SegmentOn nothing_owned s.segments false) (sym (linked.none_live id)) tt;
    }

-- ---- which function a task runs

record Origin (s : Store) (tasks : List (ℕ × List ℕ)) (k : ℕ) (u : Thread) : Type 0 where
  pub address : ℕ
  pub named : slice_get (map (λ t. task_address s t.0 t.1) tasks) k ≡ Some (Some address)
  pub runs : u ≡ func_thread s address

origin : (s : Store) (tasks : List (ℕ × List ℕ)) (number : ℕ) (ts : List Thread) → threads_from s tasks number ≡ Ok ts → (k : ℕ) (u : Thread) → slice_get ts k ≡ Some u → Origin s tasks k u
origin s [] number ts is k u at = let same : ts ≡ [] = cc in absurd (by k (subst (λ (us : List Thread). slice_get us k ≡ Some u) same at)) where
  by : (k : ℕ) → slice_get [] k ≡ Some u → ⊥
  by zero e = cc
  by (suc k) e = cc
origin s (t ∷ tasks) number ts is k u at = by (task_address s t.0 t.1) refl (threads_from s tasks (suc number)) refl is k at (λ us e j v v_at. origin s tasks (suc number) us e j v v_at) where
  by : (o : Option ℕ) → task_address s t.0 t.1 ≡ o → (r : Result (List Thread) ℕ) → threads_from s tasks (suc number) ≡ r → and_thread (thread_at s o) number r ≡ Ok ts → (k : ℕ) → slice_get ts k ≡ Some u
      → ((us : List Thread) → threads_from s tasks (suc number) ≡ Ok us → (j : ℕ) (v : Thread) → slice_get us j ≡ Some v → Origin s tasks j v) → Origin s (t ∷ tasks) k u
  by None e (Ok us) f g k at rest = absurd cc
  by None e (Err other) f g k at rest = absurd cc
  by (Some a) e (Err other) f g k at rest = absurd cc
  by (Some a) e (Ok us) f g zero at rest =
      let same : ts ≡ func_thread s a ∷ us = cc in
      let there : slice_get (func_thread s a ∷ us) zero ≡ Some u = subst (λ (vs : List Thread). slice_get vs zero ≡ Some u) same at in
      record { address = a; named = ap Some e; runs = sym (same_Some (Some (func_thread s a)) (func_thread s a) u refl there) }
  by (Some a) e (Ok us) f g (suc k) at rest =
      let same : ts ≡ func_thread s a ∷ us = cc in
      let later = rest us f k u (subst (λ (vs : List Thread). slice_get vs (suc k) ≡ Some u) same at) in
      record { address = later.address; named = later.named; runs = later.runs }

some_Some : (o : Option ℕ) (a : ℕ) → option_map Some o ≡ Some (Some a) → o ≡ Some a
some_Some None a e = absurd cc
some_Some (Some b) a e = cc

-- ---- the crew

module _ (s : Store) (tasks : List (ℕ × List ℕ)) (addresses : List ℕ) (ts : List Thread) (are : AreAddresses s tasks addresses) (is : threads_from s tasks 0 ≡ Ok ts) (linked : IsLinked s) (fits : StoreFits s) (n : ℕ) (apart : IsApart s addresses n) where
  abbrev its_sides : Sides
  its_sides = sides_of apart.set s

  task_on : (b : Bool) (k : ℕ) (u : Thread) → slice_get ts k ≡ Some u → ((m : ℕ) → instance_of s addresses k ≡ Some m → apart.set m ≡ b) → ThreadOn its_sides nothing_owned b s u × ThreadFits s u
  task_on b k u at side =
      let o = origin s tasks 0 ts is k u at in
      let its : slice_get addresses k ≡ Some o.address = some_Some (slice_get addresses k) o.address (sym (get_mapped Some addresses k) ∙ (ap (λ xs. slice_get xs k) are ∙ o.named)) in
      subst (λ (v : Thread). ThreadOn its_sides nothing_owned b s v × ThreadFits s v) (sym o.runs)
      (thread_on its_sides nothing_owned b s o.address
      (λ g found. side g.instance (ap (λ a. option_map (λ (f : FuncInst). f.instance) (option_and_then (slice_get s.funcs) a)) its ∙ ap (option_map (λ (f : FuncInst). f.instance)) found)))

  pub divided : (absent : ℕ) → n < length ts → length ts ≤ absent → (task : Thread) × Divided its_sides n absent nothing_owned (begun (crew_of s ts)) task
  divided absent low past =
      let mine = something_below ts n low in
      let on = task_on true n mine.0 mine.1 apart.own in (
        mine.0,
        record {
          sided = is_sided apart.set s apart.closed linked;
          separated = separated its_sides s linked fits;
          fits = fits;
          low = λ i e. absurd (let h : false ≡ true = e in cc);
          chain = each_ahead (OnASide its_sides nothing_owned s) (map (func_thread s) (start_chain s.instances)) (chain_on its_sides nothing_owned s (start_chain s.instances));
          mine = mine.1;
          on = on.0;
          task_fits = on.1;
          others = λ k u other at. task_on false k u at (λ m e. apart.others k m other e);
          missing = nothing_past ts absent past;
          apart = λ e. omega (arith, e, low, past);
        },
      )

-- ---- the law

nothing_told : (s : Store) → IsLinked s → Told Any s.segments []
nothing_told s linked = record { low = tt; starts = λ id l p live. absurd (none_some (live_of s.segments id) l (linked.none_live id) live) }

unstopped : (n : ℕ) (end : End) → end ≢ Stuck → (IsCut n end → ⊥) → IsStopped n end → ⊥
unstopped n (Trap (Task k) how) unstuck uncut stopped = uncut stopped
unstopped n (Trap Start how) unstuck uncut stopped = stopped
unstopped n Stuck unstuck uncut stopped = unstuck refl
unstopped n (Results vs) unstuck uncut stopped = stopped
unstopped n OutOfBudget unstuck uncut stopped = stopped

own_alike : (n : ℕ) (a b : Run) → a.end ≢ Stuck → All Yields a.crew.tasks → RunAlike n [] [] a b → OwnAlike n a b
own_alike n a b unstuck yields x = record { rest = x.rest; puts = x.puts; later = x.later; events = x.events; whole = λ uncut. let y = x.whole (unstopped n a.end unstuck uncut) in (y.0, y.1, y.2.1 ∙ state_stays y.2.0 n a yields) }

-- each thread of the crew leaves a number, or nothing
crew_yields : (s : Store) (tasks : List (ℕ × List ℕ)) (ts : List Thread) → StoreTyped (outline_of s) → threads_from s tasks 0 ≡ Ok ts → All Yields ts
crew_yields s tasks ts store is = all_of Yields ts (λ k u at. let o = origin s tasks 0 ts is k u at in subst Yields (sym o.runs) (by (slice_get tasks k) o.address (sym (get_mapped (λ t. task_address s t.0 t.1) tasks k) ∙ o.named))) where
  by : (item : Option (ℕ × List ℕ)) (a : ℕ) → option_map (λ t. task_address s t.0 t.1) item ≡ Some (Some a) → Yields (func_thread s a)
  by None a e = absurd cc
  by (Some t) a e = task_yields s store t.0 t.1 a (inner (task_address s t.0 t.1) a e) where
    inner : (o : Option ℕ) (a : ℕ) → Some o ≡ Some (Some a) → o ≡ Some a
    inner o a e = cc

abbrev Claim : (n absent : ℕ) → List ℕ → Input → Crew → Type 0
Claim n absent entries input c = IsReady c → n < length c.tasks → length c.tasks ≤ absent → IsQuiet n (run_of entries c input).deeds → IsQuiet n (run_of (alone n absent entries) c input).deeds → OwnAlike n (run_of entries c input) (run_of (alone n absent entries) c input)

pub tasks_alike : (s : Store) (tasks : List (ℕ × List ℕ)) (addresses : List ℕ) (c : Crew) (n absent : ℕ) (entries : List ℕ) (input : Input) → IsLinked s → StartsTyped s → IsCrewOf s tasks c → AreAddresses s tasks addresses → IsReady c → IsApart s addresses n → n < length c.tasks → length c.tasks ≤ absent
    → IsQuiet n (run_of entries c input).deeds → IsQuiet n (run_of (alone n absent entries) c input).deeds → OwnAlike n (run_of entries c input) (run_of (alone n absent entries) c input)
tasks_alike s tasks addresses c n absent entries input linked starts crew are ready apart low past quiet quiet' =
    subst (Claim n absent entries input) (sym crew.2) (λ ready low past quiet quiet'.
    let made = begun (crew_of s crew.0) in
    let d = divided s tasks addresses crew.0 are crew.1 linked ready.store_fits n apart absent low past in
    own_alike n (run_of entries (crew_of s crew.0) input) (run_of (alone n absent entries) (crew_of s crew.0) input) (run_ready entries (crew_of s crew.0) input ready).1 (run_yields entries (crew_of s crew.0) input ready (chain_yields s ready.store s.instances starts) (crew_yields s tasks crew.0 ready.store crew.1))
    (all_alike n (sides_of apart.set s) absent entries nothing_owned made d.0 input [] d.1 (nothing_told s linked) (quiet_calm n entries made input quiet) (quiet_calm n (alone n absent entries) made input quiet'))) ready low past quiet quiet'
