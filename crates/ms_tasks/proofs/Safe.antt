-- A run of a crew is never stuck, and its events are a trace that the colour monitor accepts, whatever the schedule.
use Rattle.std.proofs.Common.{◌≡◌, ◌≢◌, ℕ, List, [], ◌∷◌, ◌++◌, length, refl, sym, subst, ◌∙◌}
use Rattle.std.specs.List.{All}
use Rattle.std.proofs.lemmas.List.Elements.{All-append, All-cons, All-head, All-nil, All-tail}
use Rattle.ms_event.specs.declared.event.Event.{Event}
use Rattle.ms_event.specs.Monitor.{Accepts, after_all, nothing_yet}
use Rattle.ms_task.specs.Thread.{Thread}
use Rattle.ms_machine.specs.Crews.{Crew, Input, Run, Stuck, ahead, begun, events_of, run_of}
use Rattle.ms_machine.specs.refinement.Holding.{StoreFits, ThreadFits, ThreadHolds}
use Rattle.ms_machine.specs.Moves.{first_of}
use Rattle.ms_machine.specs.Running.{with_event}
use Rattle.ms_machine.specs.refinement.Safety.{Knows, Sound}
use Rattle.ms_machine.specs.Store.{Store}
use Rattle.ms_machine.specs.Typing.{Outline, StoreTyped, TaskTyped, outline_of}
use Rattle.ms_machine.proofs.HeldFits.{thread_fits_grows}
use Rattle.ms_machine.proofs.Moving.{move_keeps, move_stays_typed, move_unstuck}
use Rattle.ms_machine.proofs.SafeMoves.{sound_move}
use Rattle.ms_machine.proofs.SafeStarts.{with_thread}
use Rattle.ms_tasks.specs.refinement.Ready.{IsReady, threads_of}
use Rattle.ms_tasks.proofs.Keeping.{NeverSticks, StepKeeps, ahead_all, ahead_going, entries_keep}

-- ---- well typed, and handles that fit

abbrev pub StoreReady : List Event → Store → Type 0
StoreReady es s = StoreTyped (outline_of s) × StoreFits s

abbrev pub ThreadReady : List Event → Store → Thread → Type 0
ThreadReady es s t = TaskTyped (outline_of s) t × ThreadFits s t

ready_keeps : StepKeeps StoreReady ThreadReady
ready_keeps es s s' t t' input took put event store thread going is =
    let got = first_of input in
    let typed = move_stays_typed s s' t t' got took put event is store.0 thread.0 going in
    let fits = move_keeps s s' t t' got took put event store.1 thread.1 is in
    ((subst StoreTyped (sym typed.0) store.0, fits.0), (typed.1, fits.1), λ u other. (subst (λ (o : Outline). TaskTyped o u) (sym typed.0) other.0, thread_fits_grows s s' u fits.3 other.1))

ready_unstuck : NeverSticks StoreReady ThreadReady
ready_unstuck es s t input store thread going is = move_unstuck s t (first_of input) store.0 thread.0 going is

-- ---- and known to the monitor

abbrev pub StoreSafe : ℕ → List Event → Store → Type 0
StoreSafe n es s = StoreReady es s × Sound es s [] × (length s.segments.bytes ≡ n)

abbrev pub ThreadSafe : List Event → Store → Thread → Type 0
ThreadSafe es s t = ThreadReady es s t × ThreadHolds (Knows (after_all nothing_yet es)) t

safe_keeps : (n : ℕ) → StepKeeps (StoreSafe n) ThreadSafe
safe_keeps n es s s' t t' input took put event store thread going is =
    let ready = ready_keeps es s s' t t' input took put event store.0 thread.0 going is in
    let H = ThreadHolds (Knows (after_all nothing_yet (es ++ with_event event []))) in
    let both = λ (us : List Thread) (known : Sound es s us). sound_move s s' t t' us es (first_of input) took put event store.0.1 thread.0.1 (with_thread es s t us known thread.1) is in
    let mine = (both [] store.1).0 in
    let capacity = (both [] store.1).1 in (
      (ready.0, record { accepted = mine.accepted; sizes = mine.sizes; monitored = mine.monitored; globals = mine.globals; threads = All-nil H }, capacity ∙ store.2),
      (ready.1, All-head H t' [] mine.threads),
      λ u other. (ready.2 u other.0, let theirs = (both (u ∷ []) (with_thread es s u [] store.1 other.1)).0 in All-head H u [] (All-tail H t' (u ∷ []) theirs.threads)),
    )

safe_unstuck : (n : ℕ) → NeverSticks (StoreSafe n) ThreadSafe
safe_unstuck n es s t input store thread going is = ready_unstuck es s t input store.0 thread.0 going is

-- ---- a crew

both_all : (P Q : Thread → Type 0) (ts : List Thread) → All P ts → All Q ts → All (λ t. P t × Q t) ts
both_all P Q ts p q k d lt = (p k d lt, q k d lt)

pub run_ready : (ks : List ℕ) (c : Crew) (input : Input) → IsReady c → IsReady (run_of ks c input).crew × ((run_of ks c input).end ≢ Stuck)
run_ready ks c input ready =
    let o = outline_of c.store in
    let chain = ahead_all (λ t. TaskTyped o t × ThreadFits c.store t) c.chain (both_all (TaskTyped o) (ThreadFits c.store) c.chain ready.chain ready.chain_fits) in
    let tasks = both_all (TaskTyped o) (ThreadFits c.store) c.tasks ready.tasks ready.tasks_fit in
    let kept = entries_keep StoreReady ThreadReady ready_keeps ready_unstuck ks [] (begun c) input ((ready.store, ready.store_fits), chain, tasks, ahead_going c.chain) in (
      record {
        store = kept.0.0.0;
        chain = λ k d lt. (kept.0.1 k d lt).0;
        tasks = λ k d lt. (kept.0.2 k d lt).0;
        store_fits = kept.0.0.1;
        chain_fits = λ k d lt. (kept.0.1 k d lt).1;
        tasks_fit = λ k d lt. (kept.0.2 k d lt).1;
      },
      kept.1,
    )

front_all : (P : Thread → Type 0) (xs ys : List Thread) → All P (xs ++ ys) → All P xs
front_all P [] ys all = All-nil P
front_all P (x ∷ xs) ys all = let rest = front_all P xs ys (All-tail P x (xs ++ ys) all) in All-cons P x xs (All-head P x (xs ++ ys) all) rest

back_all : (P : Thread → Type 0) (xs ys : List Thread) → All P (xs ++ ys) → All P ys
back_all P [] ys all = all
back_all P (x ∷ xs) ys all = back_all P xs ys (All-tail P x (xs ++ ys) all)

-- sound after these events, with so many bytes
abbrev pub RunSafe : ℕ → List Event → Run → Type 0
RunSafe n es r = Sound (es ++ events_of r.deeds) r.crew.store (threads_of r.crew) × (length r.crew.store.segments.bytes ≡ n)

pub run_safe : (ks : List ℕ) (c : Crew) (input : Input) (es : List Event) → IsReady c → Sound es c.store (threads_of c) → RunSafe (length c.store.segments.bytes) es (run_of ks c input)
run_safe ks c input es ready sound =
    let o = outline_of c.store in
    let n = length c.store.segments.bytes in
    let H = ThreadHolds (Knows (after_all nothing_yet es)) in
    let R = λ (t : Thread). TaskTyped o t × ThreadFits c.store t in
    let r = run_of ks c input in
    let alone : Sound es c.store [] = record { accepted = sound.accepted; sizes = sound.sizes; monitored = sound.monitored; globals = sound.globals; threads = All-nil H } in
    let typed = ahead_all R c.chain (both_all (TaskTyped o) (ThreadFits c.store) c.chain ready.chain ready.chain_fits) in
    let chain = both_all (ThreadReady es c.store) H (ahead c.chain) typed (front_all H (ahead c.chain) c.tasks sound.threads) in
    let tasks = both_all (ThreadReady es c.store) H c.tasks (both_all (TaskTyped o) (ThreadFits c.store) c.tasks ready.tasks ready.tasks_fit) (back_all H (ahead c.chain) c.tasks sound.threads) in
    let kept = (entries_keep (StoreSafe n) ThreadSafe (safe_keeps n) (safe_unstuck n) ks es (begun c) input (((ready.store, ready.store_fits), alone, refl), chain, tasks, ahead_going c.chain)).0 in
    let state = after_all nothing_yet (es ++ events_of r.deeds) in
    let mine = kept.0.1 in
    let K = ThreadHolds (Knows state) in (
      record {
        accepted = mine.accepted;
        sizes = mine.sizes;
        monitored = mine.monitored;
        globals = mine.globals;
        threads = All-append K (ahead r.crew.chain) r.crew.tasks (ahead_all K r.crew.chain (λ k d lt. (kept.1 k d lt).1)) (λ k d lt. (kept.2 k d lt).1);
      },
      kept.0.2,
    )

pub run_accepted : (ks : List ℕ) (c : Crew) (input : Input) → IsReady c → Sound [] c.store (threads_of c) → Accepts (length c.store.segments.bytes) (events_of (run_of ks c input).deeds)
run_accepted ks c input ready sound =
    let safe = run_safe ks c input [] ready sound in
    subst (λ n. Accepts n (events_of (run_of ks c input).deeds)) safe.1 safe.0.accepted
