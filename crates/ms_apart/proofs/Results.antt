-- What a task leaves is a number, or nothing: how it stands has no name in it.
use Rattle.std.proofs.Common.{◌≡◌, ◌==◌, ◌&&◌, ℕ, zero, suc, Bool, true, false, cond, List, [], ◌∷◌, length, map, slice_get, Option, Some, None, find, option_and_then, option_map, refl, sym, ap, subst, arith}
use Rattle.std.specs.List.{All}
use Rattle.std.specs.Str.{bytes_eq}
use Rattle.std.proofs.lemmas.List.Elements.{All-cons, All-nil}
use Rattle.std.proofs.lemmas.Option.{slice_get_past}
use Rattle.ms_event.specs.declared.event.Event.{Event}
use Rattle.ms_linear.specs.declared.value.Value.{Value}
use Rattle.ms_linear.specs.declared.value.Value.TheVariants as values
use Rattle.ms_module.specs.declared.module.Export.{Export}
use Rattle.ms_rules.specs.Typing.{types}
use Rattle.ms_task.specs.Control.{nobody, started}
use Rattle.ms_task.specs.declared.func.FuncInst.{FuncInst}
use Rattle.ms_task.specs.Thread.{Activation, Item, Thread, result_of, sequence}
use Rattle.ms_types.specs.declared.types.ValType.{ValType}
use Rattle.ms_types.specs.declared.types.ValType.TheVariants as kinds
use Rattle.ms_machine.specs.Crews.{Crew, End, Input, OutOfBudget, Results, Run, Start, Stuck, Task, Trap, begun, run_of}
use Rattle.ms_machine.specs.Linked.{StartTyped, start_chain, with_start}
use Rattle.ms_machine.specs.Moves.{first_of}
use Rattle.ms_machine.specs.Running.{func_thread}
use Rattle.ms_machine.specs.Store.{Store}
use Rattle.ms_machine.specs.Typing.{Outline, StoreTyped, TaskTyped, WorkTyped, outline_of, types_of}
use Rattle.ms_machine.specs.declared.store.Instance.{Instance}
use Rattle.ms_machine.specs.refinement.Holding.{ThreadFits}
use Rattle.ms_machine.proofs.HeldFits.{thread_fits_grows}
use Rattle.ms_machine.proofs.Moving.{move_keeps, move_stays_typed, move_unstuck}
use Rattle.ms_machine.proofs.TypedBlocks.{opened}
use Rattle.ms_machine.proofs.TypedCalls.{body_typed, no_locals, no_returns, returns_of}
use Rattle.ms_machine.proofs.TypedWork.{sequence_typed}
use Rattle.ms_tasks.specs.States.{by_thread, if_trapped, in_crew, state_of}
use Rattle.ms_tasks.specs.Tasks.{exported_func, exported_task, is_task_result, is_task_type, of_task_type, takes_nothing, task_address, task_of_instance}
use Rattle.ms_tasks.specs.declared.state.TaskState.{TaskState}
use Rattle.ms_tasks.specs.declared.state.TaskState.TheVariants.{Ended, Trapped}
use Rattle.ms_tasks.specs.refinement.Ready.{IsReady}
use Rattle.ms_tasks.proofs.Keeping.{NeverSticks, StepKeeps, ahead_all, ahead_going, all_get, entries_keep}
use Rattle.ms_tasks.proofs.Making.{thread_is}
use Rattle.ms_tasks.proofs.Safe.{StoreReady}
use Rattle.ms_apart.specs.refinement.Renaming.{Renaming, rename, rename_state}
use Rattle.ms_apart.proofs.Rooted.{MoveSound, ThreadSound, exit_sound, rooted_dos, sound_of, step_sound}

-- a number or nothing
abbrev pub IsNumber : Option ValType → Type 0
IsNumber None = Unit {0}
IsNumber (Some kinds.I32) = Unit {0}
IsNumber (Some kinds.I64) = Unit {0}
IsNumber (Some kinds.Handle) = ⊥

-- a thread that leaves that
pub record Yields (t : Thread) : Type 0 where
  pub k : Option ValType
  pub number : IsNumber k
  pub sound : ThreadSound k t

-- ---- along a run

abbrev ThreadYields : List Event → Store → Thread → Type 0
ThreadYields es s t = (TaskTyped (outline_of s) t × ThreadFits s t) × Yields t

yields_keep : StepKeeps StoreReady ThreadYields
yields_keep es s s' t t' input took put event store thread going is =
    let got = first_of input in
    let typed = move_stays_typed s s' t t' got took put event is store.0 thread.0.0 going in
    let fits = move_keeps s s' t t' got took put event store.1 thread.0.1 is in
    let y = thread.1 in
    let after : Yields t' = record { k = y.k; number = y.number; sound = subst (MoveSound y.k) is (step_sound y.k s store.0 got t thread.0.0 going y.sound) } in
    ((subst StoreTyped (sym typed.0) store.0, fits.0), ((typed.1, fits.1), after), λ u other. ((subst (λ (o : Outline). TaskTyped o u) (sym typed.0) other.0.0, thread_fits_grows s s' u fits.3 other.0.1), other.1))

yields_unstuck : NeverSticks StoreReady ThreadYields
yields_unstuck es s t input store thread going is = move_unstuck s t (first_of input) store.0 thread.0.0 going is

pub run_yields : (ks : List ℕ) (c : Crew) (input : Input) → IsReady c → All Yields c.chain → All Yields c.tasks → All Yields (run_of ks c input).crew.tasks
run_yields ks c input ready chain tasks =
    let o = outline_of c.store in
    let chains : All (ThreadYields [] c.store) c.chain = λ k d lt. ((ready.chain k d lt, ready.chain_fits k d lt), chain k d lt) in
    let all : All (ThreadYields [] c.store) c.tasks = λ k d lt. ((ready.tasks k d lt, ready.tasks_fit k d lt), tasks k d lt) in
    let kept = entries_keep StoreReady ThreadYields yields_keep yields_unstuck ks [] (begun c) input ((ready.store, ready.store_fits), ahead_all (ThreadYields [] c.store) c.chain chains, all, ahead_going c.chain) in
    λ k d lt. (kept.0.2 k d lt).1

-- ---- at the start

pub started_yields : (s : Store) (a : ℕ) (g : FuncInst) → StoreTyped (outline_of s) → slice_get s.funcs a ≡ Some g → IsNumber (result_of g) → Yields (func_thread s a)
started_yields s a g store found number =
    let o = outline_of s in
    let k = result_of g in
    let none : slice_get o.funcs (length o.funcs) ≡ None = slice_get_past o.funcs (length o.funcs) (omega arith) in
    let last : List Item = Activation k 0 (nobody o.funcs) ∷ [] in
    let t = started s.funcs a g in
    let work : WorkTyped o a t.work [] [] = sequence_typed o a (sequence o.funcs a 0) last (k ∷ []) [] (types k) [] refl (opened o a (k ∷ []) 0 k (body_typed o store a g found))
    ([], [], refl, refl, refl, returns_of o a g found, sym (no_locals o (length o.funcs) none), no_returns o (length o.funcs) none) in
    subst Yields (sym (thread_is s a g found))
    (record { k = k; number = number; sound = exit_sound k o t.frame t.operands t.work [] [] refl work (sound_of k t.operands t.work (rooted_dos k (sequence s.funcs a 0) last (refl, refl))) })

-- a task's function
abbrev IsTask : Store → ℕ → Type 0
IsTask s address = (g : FuncInst) × (slice_get s.funcs address ≡ Some g) × (is_task_type g.ty ≡ true)

task_typed : (s : Store) (number : ℕ) (name : List ℕ) (address : ℕ) → task_address s number name ≡ Some address → IsTask s address
task_typed s number name address is = in_store (slice_get s.instances number) is where
  with_type : (a : ℕ) (f : FuncInst) → slice_get s.funcs a ≡ Some f → (b : Bool) → is_task_type f.ty ≡ b → cond b (Some a) None ≡ Some address → IsTask s address
  with_type a f found true e is = let same : a ≡ address = cc in subst (IsTask s) same (f, found, e)
  with_type a f found false e is = absurd cc

  of_func : (a : ℕ) (o : Option FuncInst) → slice_get s.funcs a ≡ o → option_and_then (λ (f : FuncInst). cond (is_task_type f.ty) (Some a) None) o ≡ Some address → IsTask s address
  of_func a None found is = absurd cc
  of_func a (Some f) found is = with_type a f found (is_task_type f.ty) refl is

  of_index : (o : Option ℕ) → option_and_then (of_task_type s.funcs) o ≡ Some address → IsTask s address
  of_index None is = absurd cc
  of_index (Some a) is = of_func a (slice_get s.funcs a) refl is

  of_export : (i : Instance) (o : Option Export) → option_and_then (exported_task s.funcs i) o ≡ Some address → IsTask s address
  of_export i None is = absurd cc
  of_export i (Some e) is = of_index (exported_func i e.desc) is

  in_store : (o : Option Instance) → option_and_then (task_of_instance s.funcs name) o ≡ Some address → IsTask s address
  in_store None is = absurd cc
  in_store (Some i) is = of_export i (find (λ e. bytes_eq name e.name) i.exports) is

number_typed : (ps rs : List ValType) → (takes_nothing ps && is_task_result rs) ≡ true → IsNumber (slice_get rs 0)
number_typed (p ∷ ps) rs e = absurd cc
number_typed [] [] e = tt
number_typed [] (kinds.I32 ∷ rs) e = tt
number_typed [] (kinds.I64 ∷ rs) e = tt
number_typed [] (kinds.Handle ∷ []) e = absurd cc
number_typed [] (kinds.Handle ∷ r ∷ rs) e = absurd cc

pub task_yields : (s : Store) → StoreTyped (outline_of s) → (number : ℕ) (name : List ℕ) (address : ℕ) → task_address s number name ≡ Some address → Yields (func_thread s address)
task_yields s store number name address is =
    let x = task_typed s number name address is in
    started_yields s address x.0 store x.1 (number_typed x.0.ty.params x.0.ty.results x.2)

with_yields : (s : Store) → StoreTyped (outline_of s) → (i : Instance) (rest : List ℕ) → All Yields (map (func_thread s) rest) → (o : Option ℕ) → StartTyped s.funcs i o → All Yields (map (func_thread s) (with_start (option_and_then (slice_get i.funcs) o) rest))
with_yields s store i rest all None typed = all
with_yields s store i rest all (Some x) (a, f, at, found, alone, none) =
    subst (λ (o : Option ℕ). All Yields (map (func_thread s) (with_start o rest))) (sym at)
    (All-cons Yields (func_thread s a) (map (func_thread s) rest) (started_yields s a f store found (subst (λ (rs : List ValType). IsNumber (slice_get rs 0)) (sym none) tt)) all)

pub chain_yields : (s : Store) → StoreTyped (outline_of s) → (instances : List Instance) → ((number : ℕ) (i : Instance) → slice_get instances number ≡ Some i → StartTyped s.funcs i i.start) → All Yields (map (func_thread s) (start_chain instances))
chain_yields s store [] typed = All-nil Yields
chain_yields s store (i ∷ more) typed = with_yields s store i (start_chain more) (chain_yields s store more (λ number j found. typed (suc number) j found)) i.start (typed 0 i refl)

pub all_of : (P : Thread → Type 0) (ts : List Thread) → ((k : ℕ) (u : Thread) → slice_get ts k ≡ Some u → P u) → All P ts
all_of P [] f = All-nil P
all_of P (t ∷ ts) f = All-cons P t ts (f zero t refl) (all_of P ts (λ k u e. f (suc k) u e))

-- ---- how a task stands

module _ (r : Renaming) where
  value_stays : (k : Option ValType) (vs : List Value) → IsNumber k → types_of vs ≡ types k → option_map (rename r) (slice_get vs 0) ≡ slice_get vs 0
  value_stays k [] number e = refl
  value_stays k (values.I32 n ∷ vs) number e = refl
  value_stays k (values.I64 n ∷ vs) number e = refl
  value_stays None (values.Handle h ∷ vs) number e = absurd cc
  value_stays (Some kinds.I32) (values.Handle h ∷ vs) number e = absurd cc
  value_stays (Some kinds.I64) (values.Handle h ∷ vs) number e = absurd cc
  value_stays (Some kinds.Handle) (values.Handle h ∷ vs) number e = absurd number

  thread_stays : (t : Thread) → Yields t → rename_state r (by_thread t.work t.operands) ≡ by_thread t.work t.operands
  thread_stays t y = by t.work y.sound where
    by : (w : List Item) → Rattle.ms_apart.proofs.Rooted.Sound y.k t.operands w → rename_state r (by_thread w t.operands) ≡ by_thread w t.operands
    by [] x = ap Ended (value_stays y.k t.operands y.number x)
    by (i ∷ w) x = refl

  crew_stays : (o : Option Thread) → ((t : Thread) → o ≡ Some t → Yields t) → rename_state r (in_crew o) ≡ in_crew o
  crew_stays None f = refl
  crew_stays (Some t) f = thread_stays t (f t refl)

  trapped_stays : (n : ℕ) (end : End) (x : TaskState) → rename_state r x ≡ x → rename_state r (if_trapped n end x) ≡ if_trapped n end x
  trapped_stays n (Trap Start how) x e = e
  trapped_stays n (Trap (Task k) how) x e = by (k == n) where
    by : (b : Bool) → rename_state r (cond b (Trapped how) x) ≡ cond b (Trapped how) x
    by true = refl
    by false = e
  trapped_stays n (Results vs) x e = e
  trapped_stays n OutOfBudget x e = e
  trapped_stays n Stuck x e = e

  pub state_stays : (n : ℕ) (a : Run) → All Yields a.crew.tasks → rename_state r (state_of n a) ≡ state_of n a
  state_stays n a all = trapped_stays n a.end (in_crew (slice_get a.crew.tasks n)) (crew_stays (slice_get a.crew.tasks n) (λ t at. all_get Yields a.crew.tasks n t all at))
