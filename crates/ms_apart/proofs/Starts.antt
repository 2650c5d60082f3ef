-- The start chain, which both runs share: each start function is of one side, and owns what it makes for that side.
use Rattle.std.proofs.Common.{◌≡◌, ◌==◌, ℕ, ◌+◌, ◌≤◌, inl, inr, Bool, true, false, cond, List, [], ◌∷◌, append-nil, map, slice_get, option_map, Option, Some, None, refl, sym, ap, ◌∙◌, subst, arith}
use Rattle.std.proofs.lemmas.Bool.{cases_Bool, cases_eq}
use Rattle.ms_event.specs.declared.event.Event.{Event}
use Rattle.ms_event.specs.declared.event.Event.TheVariants as events
use Rattle.ms_handle.specs.declared.handle.Handle.{Handle}
use Rattle.ms_handle.specs.declared.handle.Handle.TheVariants as handles
use Rattle.ms_linear.specs.declared.global.GlobalInst.{GlobalInst}
use Rattle.ms_linear.specs.declared.value.Value.{Value}
use Rattle.ms_linear.specs.declared.value.Value.TheVariants as values
use Rattle.ms_live.specs.declared.gaps.Live.{Live}
use Rattle.ms_segment.specs.Memory.{Memory, live_of}
use Rattle.ms_tagged.specs.Bytes.{Byte, Data, Piece}
use Rattle.ms_task.specs.Thread.{Activation, Do, Item, Label, Thread, thread}
use Rattle.ms_machine.specs.Crews.{Crew, Input, Results, Run, Start, ahead, behind, by_work, deed, ends, is_over, moved, results, run_entries, turn, with_start}
use Rattle.ms_machine.specs.refinement.Holding.{ThreadFits}
use Rattle.ms_machine.specs.Moves as moves
use Rattle.ms_machine.specs.Moves.{Goes, Move, first_of, move_for, move_of, rest_of}
use Rattle.ms_machine.specs.Store.{Store}
use Rattle.ms_machine.proofs.HeldFits.{thread_fits_grows}
use Rattle.ms_machine.proofs.Moving.{Keeps, move_keeps}
use Rattle.ms_apart.specs.refinement.Renaming.{rename, rename_all, rename_byte, rename_global, rename_handle, rename_state, rename_thread, rename_work}
use Rattle.ms_apart.specs.refinement.Apart.{Alike, Divided, EachThread, IsOld, IsSided, MemoryAlike, OnASide, Owned, SegmentAlike, Separated, Sides, Stepped, ThreadOn, contents, makes, owned_after, plain}
use Rattle.ms_tasks.specs.States.{state_of}
use Rattle.ms_tasks.specs.declared.state.TaskState.{TaskState}
use Rattle.ms_tasks.specs.declared.state.TaskState.TheVariants.{Ended, Trapped, Unended}
use Rattle.ms_apart.specs.Runs.{own_of}
use Rattle.ms_apart.specs.refinement.Calm.{Calm, CalmEntry, CalmStart}
use Rattle.ms_tasks.specs.Alone.{alone}
use Rattle.ms_apart.proofs.Moves.{MoveOn, move_on_side}
use Rattle.ms_apart.proofs.Pairs.{After, Paired, after_step, own_after}
use Rattle.ms_apart.specs.Ranks.{Place, shown}
use Rattle.ms_apart.proofs.Ranks.{Any, Told, counted_same, grown_by, told_step}
use Rattle.ms_apart.proofs.Runs.{RunAlike, runs_alike}
use Rattle.ms_apart.proofs.Steady.{all_owned, any_step, one_side}

-- ---- each identity under its own name

abbrev same_name : ℕ → ℕ
same_name i = i

handle_same : (h : Handle) → rename_handle same_name h ≡ h
handle_same handles.Null = refl
handle_same handles.Broken = refl
handle_same (handles.Good sealed id base size offset) = refl

value_same : (v : Value) → rename same_name v ≡ v
value_same (values.I32 n) = refl
value_same (values.I64 n) = refl
value_same (values.Handle h) = ap values.Handle (handle_same h)

values_same : (vs : List Value) → rename_all same_name vs ≡ vs
values_same [] = refl
values_same (v ∷ vs) = ap (λ u. u ∷ rename_all same_name vs) (value_same v) ∙ ap (λ us. v ∷ us) (values_same vs)

work_same : (w : List Item) → rename_work same_name w ≡ w
work_same [] = refl
work_same (Do i ∷ w) = ap (λ u. Do i ∷ u) (work_same w)
work_same (Label k h g ∷ w) = ap (λ u. Label k h g ∷ u) (work_same w)
work_same (Activation k h caller ∷ w) = ap (λ ls. Activation k h (record { function = caller.function; locals = ls }) ∷ rename_work same_name w) (values_same caller.locals) ∙ ap (λ u. Activation k h caller ∷ u) (work_same w)

thread_same : (t : Thread) → rename_thread same_name t ≡ t
thread_same t =
    ap (λ ls. thread (record { function = t.frame.function; locals = ls }) (rename_all same_name t.operands) (rename_work same_name t.work)) (values_same t.frame.locals)
    ∙ (ap (λ us. thread t.frame us (rename_work same_name t.work)) (values_same t.operands) ∙ ap (λ w. thread t.frame t.operands w) (work_same t.work))

bytes_same : (xs : List Byte) → map (rename_byte same_name) xs ≡ xs
bytes_same [] = refl
bytes_same (Data n ∷ xs) = ap (λ ys. Data n ∷ ys) (bytes_same xs)
bytes_same (Piece h i ∷ xs) = ap (λ g. Piece g i ∷ map (rename_byte same_name) xs) (handle_same h) ∙ ap (λ ys. Piece h i ∷ ys) (bytes_same xs)

global_same : (o : Option GlobalInst) → o ≡ option_map (rename_global same_name) o
global_same None = refl
global_same (Some g) = ap (λ v. Some (record { value = v; mutable = g.mutable })) (sym (value_same g.value))

state_same : (x : TaskState) → x ≡ rename_state same_name x
state_same Unended = refl
state_same (Ended None) = refl
state_same (Ended (Some v)) = ap (λ u. Ended (Some u)) (sym (value_same v))
state_same (Trapped trap) = refl

segment_same : (m : Memory) (o : Option Live) → SegmentAlike same_name m m o o
segment_same m None = tt
segment_same m (Some s) = (refl, refl, sym (bytes_same (contents m s)))

-- a store is like itself
store_same : (sides : Sides) (own : Owned) (s : Store) → ((i : ℕ) → own i ≡ true → i ≤ s.segments.made) → Alike sides own same_name s s
store_same sides own s low =
    record {
      funcs = refl;
      instances = refl;
      tables = refl;
      memories = λ a mine. refl;
      globals = λ a mine. global_same (slice_get s.globals a);
      segments = record { made = λ i mine. (low i mine, low i mine); different = λ i j mine mine' e. e; segments = λ i mine. segment_same s.segments (live_of s.segments i) };
    }

-- ---- a crew whose start functions are each of a side

each_weaker : (P Q : Thread → Type 0) → ((u : Thread) → P u → Q u) → (ts : List Thread) → EachThread P ts → EachThread Q ts
each_weaker P Q f [] x = tt
each_weaker P Q f (t ∷ ts) x = (f t x.0, each_weaker P Q f ts x.1)

pub each_ahead : (P : Thread → Type 0) (ts : List Thread) → EachThread P ts → EachThread P (ahead ts)
each_ahead P [] x = tt
each_ahead P (t ∷ ts) x = by t.work (each_ahead P ts x.1) where
  by : (w : List Item) → EachThread P (ahead ts) → EachThread P (by_work w (ahead ts) (t ∷ ts))
  by [] y = y
  by (i ∷ w) y = x

-- where the start chain has ended, the crew is paired with itself
paired : (sides : Sides) (n absent : ℕ) (own : Owned) (c : Crew) (task : Thread) → Divided sides n absent own c task → c.chain ≡ [] → Paired sides n absent own same_name c c task
paired sides n absent own c task d chain =
    record {
      chain = chain;
      chain' = chain;
      sided = d.sided;
      alike = store_same sides own c.store d.low;
      separated = d.separated;
      fits = d.fits;
      fits' = d.fits;
      mine = d.mine;
      mine' = d.mine ∙ ap Some (sym (thread_same task));
      on = d.on;
      task_fits = d.task_fits;
      task_fits' = subst (ThreadFits c.store) (sym (thread_same task)) d.task_fits;
      others = d.others;
      missing = d.missing;
      apart = d.apart;
    }

-- ---- a step of a start function

module _ (sides : Sides) (n absent : ℕ) (own : Owned) (c : Crew) (task : Thread) (d : Divided sides n absent own c task) where
  divided_after : (own1 : Owned) (side : Bool) (t : Thread) (ts : List Thread) (s1 : Store) (t1 : Thread) → c.chain ≡ t ∷ ts → After sides own own1 side c.store s1 t1 → Keeps c.store s1 t1 → ((i : ℕ) → own1 i ≡ true → i ≤ s1.segments.made) → Divided sides n absent own1 (with_start c ts s1 t1) task
  divided_after own1 side t ts s1 t1 is after keeps low =
      let all : EachThread (OnASide sides own c.store) (t ∷ ts) = subst (EachThread (OnASide sides own c.store)) is d.chain in
      let rest : EachThread (OnASide sides own1 s1) ts = each_weaker (OnASide sides own c.store) (OnASide sides own1 s1) (λ u x. (x.0, after.others x.0 u x.2 x.1, thread_fits_grows c.store s1 u keeps.3 x.2)) ts all.1 in
      record {
        sided = after.sided;
        separated = after.separated;
        fits = keeps.0;
        low = low;
        chain = each_ahead (OnASide sides own1 s1) (t1 ∷ ts) ((side, after.on, keeps.1), rest);
        mine = d.mine;
        on = after.others true task d.task_fits d.on;
        task_fits = thread_fits_grows c.store s1 task keeps.3 d.task_fits;
        others = λ k u other at. let x = d.others k u other at in (after.others false u x.1 x.0, thread_fits_grows c.store s1 u keeps.3 x.1);
        missing = d.missing;
        apart = d.apart;
      }

  -- the identities that are made rise
  grows : (own2 : Owned) (side : Bool) (s1 : Store) (t1 : Thread) (event : Option Event) → Stepped sides own side c.store s1 t1 event → (i : ℕ) → own i ≡ true → i ≤ s1.segments.made
  grows own2 side s1 t1 event (plain _ _ _ old step on) i mine = by s1 step where
    by : (s2 : Store) → Rattle.ms_apart.specs.refinement.Apart.StoreStep sides own side c.store s2 → i ≤ s2.segments.made
    by s2 Rattle.ms_apart.specs.refinement.Apart.kept = d.low i mine
    by s2 (Rattle.ms_apart.specs.refinement.Apart.global a g v p q o) = d.low i mine
    by s2 (Rattle.ms_apart.specs.refinement.Apart.memory a m p) = d.low i mine
    by s2 (Rattle.ms_apart.specs.refinement.Apart.segments m p) = in_memory m p where
      in_memory : (m : Memory) → Rattle.ms_apart.specs.refinement.Apart.MemoryStep own side c.store.segments m → i ≤ m.made
      in_memory m Rattle.ms_apart.specs.refinement.Apart.same = d.low i mine
      in_memory m Rattle.ms_apart.specs.refinement.Apart.counted = d.low i mine
      in_memory m (Rattle.ms_apart.specs.refinement.Apart.ended j p) = d.low i mine
      in_memory m (Rattle.ms_apart.specs.refinement.Apart.written j k s new p q r o) = d.low i mine
  grows own2 side s1 t1 event (makes size base kind _ placed on) i mine = let low = d.low i mine in omega (arith, low)

  own_low : (s1 : Store) (t1 : Thread) (event : Option Event) → Stepped sides own true c.store s1 t1 event → (i : ℕ) → owned_after event own i ≡ true → i ≤ s1.segments.made
  own_low s1 t1 event (plain _ _ _ old step on) i mine = grows own true s1 t1 event (plain s1 t1 event old step on) i (by event old mine) where
    by : (e : Option Event) → IsOld e → owned_after e own i ≡ true → own i ≡ true
    by None x y = y
    by (Some (events.Alloc id addr size)) x y = absurd x
    by (Some (events.Refused size)) x y = y
    by (Some (events.Seal id lo hi)) x y = y
    by (Some (events.Slice sealed id lo hi lo2 hi2)) x y = y
    by (Some (events.Read sealed id lo hi addr width)) x y = y
    by (Some (events.Write id lo hi addr width)) x y = y
    by (Some (events.Free id)) x y = y
  own_low s1 t1 event (makes size base kind _ placed on) i mine =
      elim (cases_eq i (c.store.segments.made + 1)) [
        | inl e ↦ omega (arith, e)
        | inr other ↦ let low = d.low i (sym (ap (λ b. cond b true (own i)) (Rattle.std.proofs.lemmas.Bool.ne_eqb i (c.store.segments.made + 1) other)) ∙ mine) in omega (arith, low)
      ]

  not_new : own (c.store.segments.made + 1) ≡ false
  not_new =
      elim (cases_Bool (own (c.store.segments.made + 1))) [
        | inl mine ↦ absurd (let low = d.low (c.store.segments.made + 1) mine in omega (arith, low))
        | inr other ↦ other
      ]

  -- a step of the first start function leaves a crew that is divided
  pub start_divides : (t : Thread) (ts : List Thread) (got : Option ℕ) (s1 : Store) (t1 : Thread) (took : Bool) (put : Option ℕ) (event : Option Event) → c.chain ≡ t ∷ ts → move_for c.store t got ≡ Goes s1 t1 took put event → (own1 : Owned) × Divided sides n absent own1 (with_start c ts s1 t1) task
  start_divides t ts got s1 t1 took put event is goes = by all.0.0 all.0.1 where
    all : EachThread (OnASide sides own c.store) (t ∷ ts)
    all = subst (EachThread (OnASide sides own c.store)) is d.chain

    keeps : Keeps c.store s1 t1
    keeps = move_keeps c.store s1 t t1 got took put event d.fits all.0.2 goes

    by : (b : Bool) → ThreadOn sides own b c.store t → (own1 : Owned) × Divided sides n absent own1 (with_start c ts s1 t1) task
    by true on =
        let stepped : Stepped sides own true c.store s1 t1 event = subst (MoveOn sides own true c.store d.sided d.separated d.fits.segments) goes (move_on_side sides own true c.store d.sided d.separated d.fits.segments t got on all.0.2) in
        (owned_after event own, divided_after (owned_after event own) true t ts s1 t1 is (own_after sides own c.store s1 t1 event d.sided d.separated d.fits stepped) keeps (own_low s1 t1 event stepped))
    by false on =
        let stepped : Stepped sides own false c.store s1 t1 event = subst (MoveOn sides own false c.store d.sided d.separated d.fits.segments) goes (move_on_side sides own false c.store d.sided d.separated d.fits.segments t got on all.0.2) in
        (own, divided_after own false t ts s1 t1 is (after_step sides own own false c.store s1 t1 event d.sided d.separated d.fits stepped (λ old. refl) (λ i low. refl) (λ size base e. not_new)) keeps (grows own false s1 t1 event stepped))

-- ---- the runs

module _ (n : ℕ) where
  self_alike : (ps : List Place) (a : Run) → RunAlike n ps ps a a
  self_alike ps a =
      record {
        rest = [];
        puts = sym (append-nil (own_of n a.deeds.puts));
        later = [];
        events = sym (append-nil (shown n ps a.deeds.events));
        whole = λ unstopped. (refl, refl, (same_name, state_same (state_of n a)));
      }

  start_alike : (ps : List Place) (took : Bool) (put : Option ℕ) (event : Option Event) (a b : Run) → RunAlike n (grown_by event ps) (grown_by event ps) a b → RunAlike n ps ps (behind (deed Start took put event) a) (behind (deed Start took put event) b)
  start_alike ps took None None a b x = record { rest = x.rest; puts = x.puts; later = x.later; events = x.events; whole = x.whole }
  start_alike ps took (Some byte) None a b x = record { rest = x.rest; puts = x.puts; later = x.later; events = x.events; whole = x.whole }
  start_alike ps took None (Some e) a b x = record { rest = x.rest; puts = x.puts; later = x.later; events = x.events; whole = x.whole }
  start_alike ps took (Some byte) (Some e) a b x = record { rest = x.rest; puts = x.puts; later = x.later; events = x.events; whole = x.whole }

  module _ (sides : Sides) (absent : ℕ) where
    abbrev AllAlike : List ℕ → Type 0
    AllAlike ks = (own : Owned) (c : Crew) (task : Thread) (input : Input) (ps : List Place) → Divided sides n absent own c task → Told Any c.store.segments ps → Calm n ks c input → Calm n (alone n absent ks) c input → RunAlike n ps ps (run_entries ks c input) (run_entries (alone n absent ks) c input)

    over_is : (k : ℕ) (ks : List ℕ) (c : Crew) (input : Input) (t : Thread) (ts : List Thread) → c.chain ≡ t ∷ ts → run_entries (k ∷ ks) c input ≡ moved Start (move_of c.store t input) c input (with_start c ts) (run_entries ks)
    over_is k ks c input t ts is = ap (λ ch. cond (is_over ch c.tasks) (ends (Results (results c.tasks)) c input) (turn ch k c input (run_entries ks))) is

    start_turn : (ks : List ℕ) → AllAlike ks → (own : Owned) (c : Crew) (task : Thread) (input : Input) (ps : List Place) → Divided sides n absent own c task → Told Any c.store.segments ps → (t : Thread) (ts : List Thread) → c.chain ≡ t ∷ ts → (m : Move) → move_of c.store t input ≡ m
        → CalmStart m c ts input (Calm n ks) → CalmStart m c ts input (Calm n (alone n absent ks)) → RunAlike n ps ps (moved Start m c input (with_start c ts) (run_entries ks)) (moved Start m c input (with_start c ts) (run_entries (alone n absent ks)))
    start_turn ks goes own c task input ps d told t ts is (Goes s1 t1 took put event) e calm calm' =
        let next = start_divides sides n absent own c task d t ts (first_of input) s1 t1 took put event is e in
        let all : EachThread (OnASide sides own c.store) (t ∷ ts) = subst (EachThread (OnASide sides own c.store)) is d.chain in
        let step = any_step c.store s1 t t1 (first_of input) took put event d.fits all.0.2 e in
        let tells = told_step Any Any ps one_side all_owned true c.store d.fits.segments told s1 t1 event step (λ old id p. tt) (λ size base f id other p. tt) in
        start_alike ps took put event _ _ (goes next.0 (with_start c ts s1 t1) task (rest_of took input) (grown_by event ps) next.1 tells calm calm')
    start_turn ks goes own c task input ps d told t ts is (moves.Trap trap) e calm calm' = self_alike ps _
    start_turn ks goes own c task input ps d told t ts is moves.Stuck e calm calm' = self_alike ps _

    -- The task's own in a run, start chain and all, and in the run alone.
    pub all_alike : (ks : List ℕ) → AllAlike ks
    all_alike [] own c task input ps d told calm calm' = self_alike ps (run_entries [] c input)
    all_alike (k ∷ ks) own c task input ps d told calm calm' = by (all_alike ks) c.chain refl where
      head : ℕ
      head = cond (k == n) k absent

      by : AllAlike ks → (chain : List Thread) → c.chain ≡ chain → RunAlike n ps ps (run_entries (k ∷ ks) c input) (run_entries (alone n absent (k ∷ ks)) c input)
      by goes [] is =
          runs_alike n sides absent (k ∷ ks) own same_name c c task input ps ps (paired sides n absent own c task d is) (counted_same own c.store.segments ps told) calm calm'
      by goes (t ∷ ts) is =
          subst (λ a. RunAlike n ps ps a (run_entries (alone n absent (k ∷ ks)) c input)) (sym (over_is k ks c input t ts is))
          (subst (λ b. RunAlike n ps ps (moved Start (move_of c.store t input) c input (with_start c ts) (run_entries ks)) b) (sym (over_is head (alone n absent ks) c input t ts is))
          (start_turn ks goes own c task input ps d told t ts is (move_of c.store t input) refl (subst (λ ch. CalmEntry n k ch c input (Calm n ks)) is calm) (subst (λ ch. CalmEntry n head ch c input (Calm n (alone n absent ks))) is calm')))
