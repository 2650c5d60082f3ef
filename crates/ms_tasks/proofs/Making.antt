-- A new crew: its start functions and tasks are well typed, their handles fit, and it is safe.
use Rattle.std.proofs.Common.{◌≡◌, ◌+◌, ◌&&◌, ℕ, suc, Bool, true, false, cond, List, [], ◌∷◌, ◌++◌, drop, map, slice_get, Option, Some, None, Result, Ok, Err, find, option_and_then, refl, sym, ap, subst, ◌∙◌, append-nil, append_assoc, arith}
use Rattle.std.specs.Str.{bytes_eq}
use Rattle.std.specs.List.{All}
use Rattle.std.proofs.lemmas.List.{map_push}
use Rattle.std.proofs.lemmas.List.Elements.{All-cons, All-head, All-nil, All-tail, All-weaker}
use Rattle.ms_event.specs.declared.event.Event.{Event}
use Rattle.ms_module.specs.declared.module.Export.{Export}
use Rattle.ms_types.specs.declared.types.FuncType.{FuncType}
use Rattle.ms_types.specs.declared.types.ValType.{ValType}
use Rattle.ms_task.specs.Control.{exited, started}
use Rattle.ms_task.specs.Thread.{Thread}
use Rattle.ms_task.specs.refinement.View.{thread_of}
use Rattle.ms_task.specs.declared.task.Task.{Task as CodeTask}
use Rattle.ms_task.specs.declared.func.FuncInst.{FuncInst}
use Rattle.ms_machine.specs.Crews.{ahead}
use Rattle.ms_machine.specs.refinement.Holding.{StoreFits, ThreadFits}
use Rattle.ms_machine.specs.Linked.{StartTyped, StartsTyped, start_chain, with_start}
use Rattle.ms_machine.specs.Running.{func_thread}
use Rattle.ms_machine.specs.Running as running
use Rattle.ms_machine.specs.refinement.Safety.{Sound}
use Rattle.ms_machine.specs.Store.{Store}
use Rattle.ms_machine.specs.Typing.{StoreTyped, TaskTyped, outline_of}
use Rattle.ms_machine.specs.declared.store.Instance.{Instance}
use Rattle.ms_machine.proofs.HeldFits.{starts_fit}
use Rattle.ms_machine.proofs.SafeStarts.{sound_start}
use Rattle.ms_machine.proofs.TypedSteps.{starts_well}
use Rattle.ms_tasks.proofs.Chaining.{drop_at}
use Rattle.ms_tasks.proofs.Keeping.{ahead_all}
use Rattle.ms_tasks.specs.refinement.Ready.{IsReady, threads_of}
use Rattle.ms_tasks.specs.Tasks.{and_thread, crew_of, exported_func, exported_task, is_task_result, is_task_type, of_task_type, takes_nothing, task_address, task_of_instance, thread_at, threads_from}

-- ---- a function that may be started: it is there, without parameters

abbrev pub CanStart : Store → ℕ → Type 0
CanStart s address = (g : FuncInst) × (slice_get s.funcs address ≡ Some g) × (g.ty.params ≡ [])

pub thread_is : (s : Store) (address : ℕ) (g : FuncInst) → slice_get s.funcs address ≡ Some g → func_thread s address ≡ exited (started s.funcs address g)
thread_is s address g found = ap (running.start_of s address) found

-- all of a list of threads of such functions
abbrev pub IsStarted : Store → Thread → Type 0
IsStarted s t = (address : ℕ) × CanStart s address × (t ≡ func_thread s address)

pub started_typed : (s : Store) (t : Thread) → StoreTyped (outline_of s) → IsStarted s t → TaskTyped (outline_of s) t
started_typed s t store (address, (g, found, alone), is) =
    subst (TaskTyped (outline_of s)) (sym (is ∙ thread_is s address g found)) (starts_well s address g store found alone)

pub started_fits : (s : Store) (t : Thread) → IsStarted s t → ThreadFits s t
started_fits s t (address, (g, found, alone), is) = subst (ThreadFits s) (sym (is ∙ thread_is s address g found)) (starts_fit s address g)

pub sound_started : (es : List Event) (s : Store) (ts others : List Thread) → All (IsStarted s) ts → Sound es s others → Sound es s (ts ++ others)
sound_started es s [] others all sound = sound
sound_started es s (t ∷ ts) others all sound = one (All-head (IsStarted s) t ts all) (sound_started es s ts others (All-tail (IsStarted s) t ts all) sound) where
  one : IsStarted s t → Sound es s (ts ++ others) → Sound es s (t ∷ (ts ++ others))
  one (address, (g, found, alone), is) rest = subst (λ (x : Thread). Sound es s (x ∷ (ts ++ others))) (sym (is ∙ thread_is s address g found)) (sound_start es s (ts ++ others) address g rest)

-- ---- the functions of tasks

no_params : (t : FuncType) → is_task_type t ≡ true → t.params ≡ []
no_params t is = by t.params refl is where
  by : (ps : List ValType) → t.params ≡ ps → (takes_nothing ps && is_task_result t.results) ≡ true → t.params ≡ []
  by [] e is = e
  by (p ∷ ps) e is = cc

pub task_found : (s : Store) (number : ℕ) (name : List ℕ) (address : ℕ) → task_address s number name ≡ Some address → CanStart s address
task_found s number name address is = in_store (slice_get s.instances number) is where
  with_type : (a : ℕ) (f : FuncInst) → slice_get s.funcs a ≡ Some f → (b : Bool) → is_task_type f.ty ≡ b → cond b (Some a) None ≡ Some address → CanStart s address
  with_type a f found true e is = let same : a ≡ address = cc in subst (CanStart s) same (f, found, no_params f.ty e)
  with_type a f found false e is = cc

  of_func : (a : ℕ) (o : Option FuncInst) → slice_get s.funcs a ≡ o → option_and_then (λ (f : FuncInst). cond (is_task_type f.ty) (Some a) None) o ≡ Some address → CanStart s address
  of_func a None found is = cc
  of_func a (Some f) found is = with_type a f found (is_task_type f.ty) refl is

  of_index : (o : Option ℕ) → option_and_then (of_task_type s.funcs) o ≡ Some address → CanStart s address
  of_index None is = cc
  of_index (Some a) is = of_func a (slice_get s.funcs a) refl is

  of_export : (i : Instance) (o : Option Export) → option_and_then (exported_task s.funcs i) o ≡ Some address → CanStart s address
  of_export i None is = cc
  of_export i (Some e) is = of_index (exported_func i e.desc) is

  in_store : (o : Option Instance) → option_and_then (task_of_instance s.funcs name) o ≡ Some address → CanStart s address
  in_store None is = cc
  in_store (Some i) is = of_export i (find (λ e. bytes_eq name e.name) i.exports) is

pub tasks_started : (s : Store) (tasks : List (ℕ × List ℕ)) (n : ℕ) (ts : List Thread) → threads_from s tasks n ≡ Ok ts → All (IsStarted s) ts
tasks_started s [] n ts is = let same : [] ≡ ts = cc in subst (All (IsStarted s)) same (All-nil (IsStarted s))
tasks_started s (t ∷ more) n ts is = by (task_address s t.0 t.1) refl (threads_from s more (suc n)) refl is (λ us e. tasks_started s more (suc n) us e) where
  by : (o : Option ℕ) → task_address s t.0 t.1 ≡ o → (r : Result (List Thread) ℕ) → threads_from s more (suc n) ≡ r → and_thread (thread_at s o) n r ≡ Ok ts → ((us : List Thread) → threads_from s more (suc n) ≡ Ok us → All (IsStarted s) us) → All (IsStarted s) ts
  by None e r f is rest = cc
  by (Some a) e (Ok us) f is rest =
      let same : func_thread s a ∷ us ≡ ts = cc in
      subst (All (IsStarted s)) same (All-cons (IsStarted s) (func_thread s a) us (a, task_found s t.0 t.1 a e, refl) (rest us f))
  by (Some a) e (Err other) f is rest = cc

-- ---- the start functions

with_started : (s : Store) (i : Instance) (rest : List ℕ) → All (IsStarted s) (map (func_thread s) rest) → (o : Option ℕ) → StartTyped s.funcs i o → All (IsStarted s) (map (func_thread s) (with_start (option_and_then (slice_get i.funcs) o) rest))
with_started s i rest all None typed = all
with_started s i rest all (Some x) (a, f, at, found, alone, none) =
    subst (λ (o : Option ℕ). All (IsStarted s) (map (func_thread s) (with_start o rest))) (sym at)
    (All-cons (IsStarted s) (func_thread s a) (map (func_thread s) rest) (a, (f, found, alone), refl) all)

pub chain_started : (s : Store) (instances : List Instance) → ((number : ℕ) (i : Instance) → slice_get instances number ≡ Some i → StartTyped s.funcs i i.start) → All (IsStarted s) (map (func_thread s) (start_chain instances))
chain_started s [] typed = All-nil (IsStarted s)
chain_started s (i ∷ more) typed = with_started s i (start_chain more) (chain_started s more (λ number j found. typed (suc number) j found)) i.start (typed 0 i refl)

-- ---- the crew

pub crew_ready : (s : Store) (tasks : List (ℕ × List ℕ)) (ts : List Thread) → StoreTyped (outline_of s) → StoreFits s → StartsTyped s → threads_from s tasks 0 ≡ Ok ts → IsReady (crew_of s ts)
crew_ready s tasks ts store fits starts is =
    let chain = map (func_thread s) (start_chain s.instances) in
    let chain_all = chain_started s s.instances starts in
    let tasks_all = tasks_started s tasks 0 ts is in
    record {
      store = store;
      chain = All-weaker (IsStarted s) (TaskTyped (outline_of s)) (λ t started. started_typed s t store started) chain chain_all;
      tasks = All-weaker (IsStarted s) (TaskTyped (outline_of s)) (λ t started. started_typed s t store started) ts tasks_all;
      store_fits = fits;
      chain_fits = All-weaker (IsStarted s) (ThreadFits s) (λ t started. started_fits s t started) chain chain_all;
      tasks_fit = All-weaker (IsStarted s) (ThreadFits s) (λ t started. started_fits s t started) ts tasks_all;
    }

pub crew_sound : (s : Store) (tasks : List (ℕ × List ℕ)) (ts : List Thread) → StartsTyped s → threads_from s tasks 0 ≡ Ok ts → (es : List Event) → Sound es s [] → Sound es s (threads_of (crew_of s ts))
crew_sound s tasks ts starts is es sound =
    let chain = map (func_thread s) (start_chain s.instances) in
    let chain_all = ahead_all (IsStarted s) chain (chain_started s s.instances starts) in
    let tasks_sound = subst (Sound es s) (append-nil ts) (sound_started es s ts [] (tasks_started s tasks 0 ts is) sound) in
    sound_started es s (ahead chain) ts chain_all tasks_sound

-- ---- as the code makes them, one after the other

abbrev pub joined : List Thread → Result (List Thread) ℕ → Result (List Thread) ℕ
joined ts (Ok us) = Ok (ts ++ us)
joined ts (Err n) = Err n

pub tasks_grow : (s : Store) (all : Result (List Thread) ℕ) (rest : List Thread) (tasks : List (ℕ × List ℕ)) (k : ℕ) (item : ℕ × List ℕ) (a : ℕ) (t : Thread) → slice_get tasks k ≡ Some item → task_address s item.0 item.1 ≡ Some a → t ≡ func_thread s a → joined rest (threads_from s (drop k tasks) k) ≡ all → joined (rest ++ t ∷ []) (threads_from s (drop (k + 1) tasks) (k + 1)) ≡ all
tasks_grow s all rest tasks k item a t found at thread is =
    let e : suc k ≡ k + 1 = omega arith in
    let step : threads_from s (drop k tasks) k ≡ and_thread (Some (func_thread s a)) k (threads_from s (drop (suc k) tasks) (suc k)) =
    ap (λ xs. threads_from s xs k) (drop_at tasks k item found) ∙ ap (λ o. and_thread (thread_at s o) k (threads_from s (drop (suc k) tasks) (suc k))) at in
    ap (λ n. joined (rest ++ t ∷ []) (threads_from s (drop n tasks) n)) (sym e) ∙ (by (threads_from s (drop (suc k) tasks) (suc k)) ∙ (ap (joined rest) (sym step) ∙ is))
  where
    by : (r : Result (List Thread) ℕ) → joined (rest ++ t ∷ []) r ≡ joined rest (and_thread (Some (func_thread s a)) k r)
    by (Ok us) = ap Ok (append_assoc rest (t ∷ []) us ∙ ap (λ (u : Thread). rest ++ u ∷ us) thread)
    by (Err n) = refl

-- its function's address is one more
pub addresses_grow : {A : Type 0} (f : A → Option ℕ) (addresses : List ℕ) (tasks : List A) (k : ℕ) (item : A) (a : ℕ) → slice_get tasks k ≡ Some item → f item ≡ Some a → map Some addresses ++ map f (drop k tasks) ≡ map f tasks
    → map Some (addresses ++ a ∷ []) ++ map f (drop (k + 1) tasks) ≡ map f tasks
addresses_grow f addresses tasks k item a found at is =
    let e : suc k ≡ k + 1 = omega arith in
    let rest = drop (suc k) tasks in
    ap (λ n. map Some (addresses ++ a ∷ []) ++ map f (drop n tasks)) (sym e)
    ∙ (ap (λ os. os ++ map f rest) (map_push Some addresses a)
    ∙ (append_assoc (map Some addresses) (Some a ∷ []) (map f rest)
    ∙ (ap (λ o. map Some addresses ++ o ∷ map f rest) (sym at)
    ∙ (ap (λ xs. map Some addresses ++ map f xs) (sym (drop_at tasks k item found)) ∙ is))))

-- a task is started
pub begun_thread : (s : Store) (task : CodeTask) (address : ℕ) → CanStart s address → ((g : FuncInst) → slice_get s.funcs address ≡ Some g → thread_of s.funcs task ≡ exited (started s.funcs address g)) → thread_of s.funcs task ≡ func_thread s address
begun_thread s task address (g, found, alone) starts = starts g found ∙ sym (thread_is s address g found)
