-- The run of a unit that was compiled against its meaning: the start function, and then `main`.
use Rattle.std.proofs.Common.{◌≡◌, ◌≢◌, ℕ, zero, suc, ◌+◌, ◌*◌, ◌<◌, ◌≤◌, ⊎_elim, List, [], ◌∷◌, ◌++◌, length, map, Bool, is_some, true, replicate, Option, Some, None, refl, sym, ap, ◌∙◌, arith, subst}
use Rattle.std.specs.Prelude.{option_and_then, slice_get}
use Rattle.std.proofs.lemmas.Bool.{cases_lt}
use Rattle.std.proofs.lemmas.List.{length-map, length-replicate}
use Rattle.ms_event.specs.Monitor.{grants, sizes_of}
use Rattle.ms_host.specs.declared.trap.TrapKind.{TrapKind}
use Rattle.ms_linear.specs.Values.{default_of}
use Rattle.ms_machine.specs.Crews as crews
use Rattle.ms_machine.specs.Crews.{Input, Run, Start, Task, Whose, ahead, bytes_of, events_of, run_entries}
use Rattle.ms_machine.specs.Running.{AreBytes, func_thread, start_of}
use Rattle.ms_machine.specs.Store.{Store}
use Rattle.ms_task.specs.Control.{exit_ended, nobody}
use Rattle.ms_task.specs.declared.func.FuncInst.{FuncInst}
use Rattle.ms_task.specs.Thread.{Activation, Item, Thread, result_of, sequence}
use Rattle.ms_types.specs.declared.types.ValType.{ValType}
use Rattle.ms_types.specs.declared.types.ValType.TheVariants as vals
use Rattle.c_types.specs.Types.{Ty, function, no_types}
use Rattle.c_typed.specs.Tree.{Function, Stmt, Typed}
use Rattle.c_typed.specs.Units.{IsWellTyped, literals_in}
use Rattle.c_meaning.specs.Functions as meaning
use Rattle.c_meaning.specs.Units.{before_main, closed, first_world, main_number, means, run_main}
use Rattle.c_meaning.specs.World as world
use Rattle.c_meaning.specs.World.{End, World, Result, gives, ends}
use Rattle.c_code.specs.Functions.{scratch_locals}
use Rattle.c_code.specs.Modules.{index_of, is_defined, is_defined_at, start_target, waits_made}
use Rattle.c_runs.proofs.Constants.{are_given, are_made}
use Rattle.c_runs.proofs.Fits.{IsMost, start_fits, values_at}
use Rattle.c_runs.specs.Correct.{Behaves, IsPrefix, MeansRun, Reports, gives_integer, main_result, meant, meant_first, result_in, run_at, whose_of}
use Rattle.c_runs.specs.Crews.{Extends, Shows, reported, steps_behind, then_steps, whose_at}
use Rattle.c_runs.specs.Ends.{stop_of}
use Rattle.c_runs.specs.Placed.{IsPlaced, longest_of, start_index, started_of}
use Rattle.c_runs.specs.Threads as threads
use Rattle.c_runs.specs.Threads.{Ended, Trapped, Paused, Stuck, Ran, Stop, steps}
use Rattle.c_runs.proofs.Behind.{StartEnds, behind_start, start_ends}
use Rattle.ms_relate.specs.refinement.Relation.{Related}
use Rattle.c_runs.proofs.Files.{Filed}
use Rattle.c_runs.proofs.Callees.{Compiled}
use Rattle.c_runs.proofs.Entries.{places_of}
use Rattle.c_runs.proofs.Filing.{first_filed}
use Rattle.c_runs.proofs.Globals.{NamesOf, all_reached, file_slots}
use Rattle.c_runs.proofs.Giving.{AllGiven}
use Rattle.c_runs.proofs.Goes.{Mem, Site, store}
use Rattle.c_runs.proofs.Grants.{Agrees, Fit, fit_front, grants_append}
use Rattle.c_runs.proofs.Longer.{foretells, longer, longer_behind, shows_behind}
use Rattle.c_runs.proofs.Mains.{Bundle, StopsFirst, main_bundle}
use Rattle.c_runs.proofs.Operations.{Linked}
use Rattle.c_runs.proofs.Outcomes.{Known, agrees, bound_law, end_law, output_law, prefix_law, sizes_law}
use Rattle.c_runs.proofs.Placed as stands
use Rattle.c_runs.proofs.Placed.{ahead_of, has_start, linked_ahead, site_of, still_steps}
use Rattle.c_runs.proofs.Related.{front}
use Rattle.c_runs.proofs.Starting.{AreMade, HasStart}
use Rattle.c_runs.proofs.Went.{known_of}

-- ---- what is known of the steps says what a run does

-- it has ended so
paused_as : (whose : Whose) (st : Stop) (end : crews.End) → reported whose st end → end ≡ crews.OutOfBudget → st ≡ Paused
paused_as whose (Ended v) end h e = absurd (let q = sym h ∙ e in cc)
paused_as whose (Trapped k) end h e = absurd (let q = sym h ∙ e in cc)
paused_as whose Paused end h e = refl
paused_as whose Stuck end h e = absurd (let q = sym h ∙ e in cc)

-- whose it is counts for a trap alone
reported_as : (whose whose' : Whose) (st : Stop) (end : crews.End) → ((k : TrapKind) → st ≡ Trapped k → whose ≡ whose') → reported whose st end → reported whose' st end
reported_as whose whose' (Ended v) end same h = h
reported_as whose whose' (Trapped k) end same h = subst (λ (w : Whose). end ≡ crews.Trap w k) (same k refl) h
reported_as whose whose' Paused end same h = h
reported_as whose whose' Stuck end same h = h

-- ---- whose a trap is, from the start function's own steps, of which it is known how they end

module _ (R : ℕ → Ran) (longer_by : (n m : ℕ) → n ≤ m → Extends (R n) (R m)) where
  -- two numbers of steps at which they are over
  both_over : (n m : ℕ) → (R n).stop ≢ Paused → (R m).stop ≢ Paused → (R n).stop ≡ (R m).stop
  both_over n m a b = ⊎_elim
      (λ lt. ap (λ (r : Ran). r.stop) (sym ((longer_by n m (omega (arith, lt))).over a)))
      (λ le. ap (λ (r : Ran). r.stop) ((longer_by m n (omega (arith, le))).over b))
      (cases_lt n m)

  whose_is : (b : ℕ) (first : Result (Unit {0})) (k : TrapKind) → StartEnds threads.over R first → (R b).stop ≢ Paused → ((e : End) (w : World) → first ≡ ends e w → stop_of e ≡ Trapped k) → whose_at (R b).stop ≡ whose_of first
  whose_is b (gives z w) k h over so = by (R b).stop refl where
    ended : (q : Stop) → (R b).stop ≡ q → q ≢ Paused → Ended None ≡ q
    ended q e d = sym h.3 ∙ both_over h.0 b (λ p. let x : Ended None ≡ Paused = sym h.3 ∙ p in cc) (λ p. d (sym e ∙ p)) ∙ e

    by : (q : Stop) → (R b).stop ≡ q → whose_at (R b).stop ≡ Task 0
    by (Ended v) e = ap whose_at e
    by (Trapped j) e = absurd (let x = ended (Trapped j) e (λ p. cc) in cc)
    by Paused e = absurd (over e)
    by Stuck e = absurd (let x = ended Stuck e (λ p. cc) in cc)
  whose_is b (ends e0 w) k h over so = by (R b).stop refl where
    trapped : (R h.0).stop ≡ Trapped k
    trapped = h.1 ∙ so e0 w refl

    by : (q : Stop) → (R b).stop ≡ q → whose_at (R b).stop ≡ Start
    by (Ended v) e = absurd (let x = sym e ∙ both_over b h.0 over (λ p. let y = sym trapped ∙ p in cc) ∙ trapped in cc)
    by (Trapped j) e = ap whose_at e
    by Paused e = ap whose_at e
    by Stuck e = ap whose_at e

abbrev room_for : Typed → ℕ → ℕ
room_for u fuel = started_of u + longest_of u * (fuel + 1)

module _ (u : Typed) (t : Ty) (result_is : main_result u ≡ t) (input : Input) (b : ℕ) (run : Run) (R : ℕ → Ran) (whose : Whose) (shown : Shows run whose (R b)) (longer_by : (n m : ℕ) → n ≤ m → Extends (R n) (R m)) where
  abbrev g : List Bool
  g = grants (R b).events

  -- what comes of what is done before `main`
  abbrev first : ℕ → Result (Unit {0})
  first fuel = before_main u (first_world u input g fuel)

  module _ (have : (fuel : ℕ) → Bundle t (first fuel) R (room_for u fuel) fuel (first_world u input g fuel) (means u input g fuel).0 (means u input g fuel).1) (same_whose : (k : TrapKind) → (R b).stop ≡ Trapped k → StopsFirst t (first b) (R b).stop → whose ≡ whose_of (first b)) where
    grants_is : grants (events_of run.deeds) ≡ g
    grants_is = ap grants shown.events

    meant_is : (fuel : ℕ) → means u input g fuel ≡ meant u input run fuel
    meant_is fuel = ap (λ (q : List Bool). means u input q fuel) (sym grants_is)

    over_is : run.end ≢ crews.OutOfBudget → (R b).stop ≢ Paused
    over_is d q = d (subst (λ (st : Stop). reported whose st run.end) q shown.ends)

    paused_is : run.end ≡ crews.OutOfBudget → (R b).stop ≡ Paused
    paused_is e = paused_as whose (R b).stop run.end shown.ends e

    abbrev known : (fuel : ℕ) → Known R g (have fuel).st (means u input g fuel).0 (means u input g fuel).1
    known fuel = known_of R (room_for u fuel) fuel (have fuel).st (means u input g fuel).0 (first_world u input g fuel) (means u input g fuel).1 refl refl (have fuel).went

    sizes_are : sizes_of (events_of run.deeds) ≡ (meant u input run b).1.sizes
    sizes_are = let h = have b in ap sizes_of shown.events ∙ sizes_law R longer_by b (room_for u b) b h.st (means u input g b).0 (means u input g b).1 (known b) h.went.how refl ∙ ap (λ (q : End × World). q.1.sizes) (meant_is b)

    output_is : run.end ≢ crews.OutOfBudget → bytes_of run.deeds ≡ (meant u input run b).1.output
    output_is d = let h = have b in shown.bytes ∙ output_law R longer_by b (room_for u b) b h.st (means u input g b).0 (means u input g b).1 (known b) h.went.how refl (over_is d) ∙ ap (λ (q : End × World). q.1.output) (meant_is b)

    end_is : run.end ≢ crews.OutOfBudget → Reports (main_result u) (whose_of (meant_first u input run b)) (meant u input run b).0 run.end
    end_is d =
        let h = have b in
        let stop_is = end_law R longer_by b (room_for u b) b h.st (means u input g b).0 (means u input g b).1 (known b) h.went.how refl (over_is d) in
        subst (λ (q : Ty). Reports q (whose_of (meant_first u input run b)) (meant u input run b).0 run.end) (sym result_is)
        (subst (λ (q : List Bool). Reports t (whose_of (before_main u (first_world u input q b))) (means u input q b).0 run.end) (sym grants_is)
        (h.reports run.end
        (subst (λ (st : Stop). reported (whose_of (first b)) st run.end) stop_is
        (reported_as whose (whose_of (first b)) (R b).stop run.end (λ k e. same_whose k e (subst (StopsFirst t (first b)) (sym stop_is) h.begins)) shown.ends))))

    prints_is : run.end ≡ crews.OutOfBudget → IsPrefix (bytes_of run.deeds) (meant u input run b).1.output
    prints_is e =
        let h = have b in
        let q = prefix_law R longer_by b (room_for u b) b h.st (means u input g b).0 (means u input g b).1 (known b) h.went.how refl (paused_is e) in
        (q.0, ap (λ (x : End × World). x.1.output) (sym (meant_is b)) ∙ q.1 ∙ ap (λ (l : List ℕ). l ++ q.0) (sym shown.bytes))

    bound_is : (fuel : ℕ) → room_for u fuel ≤ b → run.end ≡ crews.OutOfBudget → (meant u input run fuel).0 ≡ world.out_of_fuel
    bound_is fuel le e =
        let h = have fuel in
        ap (λ (x : End × World). x.0) (sym (meant_is fuel)) ∙ bound_law R longer_by b (room_for u fuel) fuel h.st (means u input g fuel).0 (means u input g fuel).1 (known fuel) h.went.how le (paused_is e)

    defined_is : (fuel : ℕ) → (meant u input run fuel).0 ≢ world.lost
    defined_is fuel = subst (λ (q : End × World). q.0 ≢ world.lost) (meant_is fuel) (have fuel).defined

    pub means_run : MeansRun u input b run
    means_run = record { sizes = sizes_are; output = output_is; end = end_is; prints = prints_is; defined = defined_is; bound = bound_is }

-- ---- of a store

module _ (u : Typed) (s : Store) (well : IsWellTyped u) (most : IsMost u) (placed : IsPlaced u s) (f : ℕ) (t : Ty) (p : Compiled (site_of u s) u f t no_types) (is_main : main_number u ≡ Some f) (numeric : gives_integer t ≡ true) where
  abbrev main_thread : Thread
  main_thread = func_thread s (index_of u f)

  abbrev start_thread : Thread
  start_thread = func_thread s (start_index u)

  abbrev S : Site
  S = ahead_of u s well most placed main_thread

  abbrev L : Linked S
  L = linked_ahead u s well most placed main_thread

  started : HasStart S u
  started = has_start u s well most placed (then_steps main_thread) (still_steps main_thread)

  abbrev inst : FuncInst
  inst = placed.start.inst

  abbrev marked : List Item
  marked = Activation (result_of inst) 0 (nobody s.funcs) ∷ []

  abbrev ran_by : Input → ℕ → Ran
  ran_by input n = steps_behind start_thread main_thread n s input

  names : NamesOf u.structs (file_slots u) (all_reached u) (start_target u) u.globals (literals_in u.made)
  names = stands.names_at u s well most placed (start_target u) refl (λ x. refl)

  long_temps : length (map default_of inst.locals) ≡ 4 + waits_made u u.made
  long_temps = length-map inst.locals default_of ∙ ap (λ (l : List ValType). length l) placed.start.locals_are ∙ long (waits_made u u.made) where
    long : (n : ℕ) → length (scratch_locals (start_target u) n) ≡ 4 + n
    long n = let e = length-replicate n vals.I32 in omega (arith, e)

  start_is : start_thread ≡ exit_ended (record { function = start_index u; locals = map default_of inst.locals }) [] (front (sequence s.funcs (start_index u) 0) marked)
  start_is = ap (λ (o : Option FuncInst). start_of s (start_index u) o) placed.start.is_at

  made : AreMade u u.made
  made = are_made u well (values_at u most) (start_fits u most)

  given : (S' : Site) (L' : Linked S') (fuel : ℕ) (p' : HasStart S' u) → AllGiven S' L' u well (suc fuel) p' u.made
  given S' L' fuel p' = are_given u well S' L' (suc fuel) p' (values_at u most) (stands.made_callable u s well most placed) (stands.made_known u s well most placed) (start_fits u most)

  -- its own steps alone
  abbrev S0 : Site
  S0 = site_of u s

  abbrev L0 : Linked S0
  L0 = stands.linked u s well most placed

  alone : HasStart S0 u
  alone = has_start u s well most placed threads.over (λ s' v input'. refl)

  module _ (input : Input) (are_bytes : AreBytes input) (g : List Bool) (fuel : ℕ) where
    -- `main`, from where the start function has ended
    next : (w : World) (m : Mem) → w.depth ≡ 0 → w.fuel < suc fuel → AreBytes w.input → Related u.structs (places_of u) m.homes w.objects m.segments → Filed u.structs (places_of u) (file_slots u) (all_reached u) (length s.globals) m.homes w.globals w.literals m.globals
        → Agrees threads.over (store (site_of u s) m) main_thread w.input w.grants
        → Bundle t (gives tt w) (λ k. steps k (store (site_of u s) m) main_thread w.input) (longest_of u * (w.fuel + 1)) w.fuel w (closed u (run_main u (suc fuel) (main_number u) w)).0 (closed u (run_main u (suc fuel) (main_number u) w)).1
    next w m deep less bytes related file fits = main_bundle u s well most placed f t p is_main numeric fuel w m deep less bytes related file fits

    pub bundle : Agrees (then_steps main_thread) s start_thread input g → Bundle t (before_main u (first_world u input g fuel)) (ran_by input) (room_for u fuel) fuel (first_world u input g fuel) (means u input g fuel).0 (means u input g fuel).1
    bundle ag =
        behind_start S L u well fuel started names made (given S L fuel started) input are_bytes g s.globals s.segments (map default_of inst.locals) long_temps placed.segments
        (first_filed u well (stands.file_types u s well most placed) (places_of u) [] s.globals placed.globals)
        (result_of inst) (nobody s.funcs) t next start_thread start_is ag

    ends_alone : Agrees threads.over s start_thread input g → StartEnds threads.over (λ n. steps n s start_thread input) (before_main u (first_world u input g fuel))
    ends_alone ag =
        start_ends S0 L0 u well fuel alone names made (given S0 L0 fuel alone) input are_bytes g s.globals s.segments (map default_of inst.locals) long_temps placed.segments
        (first_filed u well (stands.file_types u s well most placed) (places_of u) [] s.globals placed.globals)
        (result_of inst) (nobody s.funcs) start_thread start_is ag

  -- ---- the theorem

  result_is : main_result u ≡ t
  result_is =
      ap (λ (o : Option ℕ). result_in (option_and_then (slice_get u.functions) o)) is_main ∙ ap result_in p.named
      ∙ ap (λ (ty : Ty). meaning.result_of ty) p.typed

  abbrev alone_by : Input → ℕ → Ran
  alone_by input n = steps n s start_thread input

  shown : (input : Input) (b : ℕ) → Shows (run_at s (index_of u f) input b) (whose_at (alone_by input b).stop) (ran_by input b)
  shown input b =
      subst (λ (l : List ℕ). Shows (run_entries (replicate b 0) (record { store = s; chain = ahead (map (func_thread s) l); tasks = main_thread ∷ [] }) input) (whose_at (alone_by input b).stop) (ran_by input b)) (sym placed.begins)
      (shows_behind start_thread main_thread b s input)

  longer_by : (input : Input) (n m : ℕ) → n ≤ m → Extends (ran_by input n) (ran_by input m)
  longer_by input n m le = longer_behind start_thread main_thread n m le s input

  alone_longer : (input : Input) (n m : ℕ) → n ≤ m → Extends (alone_by input n) (alone_by input m)
  alone_longer input n m le = longer n m le s start_thread input

  -- its own steps ask for no more
  alone_agrees : (input : Input) (b : ℕ) → Agrees threads.over s start_thread input (grants (ran_by input b).events)
  alone_agrees input b n =
      let h = foretells start_thread main_thread n s input in
      fit_front (grants (alone_by input n).events) (grants h.later) (grants (ran_by input b).events)
      (subst (λ (l : List Bool). Fit l (grants (ran_by input b).events)) (ap grants h.events ∙ grants_append (alone_by input n).events h.later) (agrees (ran_by input) (longer_by input) b n))

  same_whose : (input : Input) → AreBytes input → (b : ℕ) (k : TrapKind) → (ran_by input b).stop ≡ Trapped k
      → StopsFirst t (before_main u (first_world u input (grants (ran_by input b).events) b)) (ran_by input b).stop → whose_at (alone_by input b).stop ≡ whose_of (before_main u (first_world u input (grants (ran_by input b).events) b))
  same_whose input ok b k e begins =
      whose_is (alone_by input) (alone_longer input) b (before_main u (first_world u input (grants (ran_by input b).events) b)) k (ends_alone input ok (grants (ran_by input b).events) b (alone_agrees input b))
      (λ p. let x = sym e ∙ (foretells start_thread main_thread b s input).waits p in cc)
      (λ e0 w is. sym (subst (λ (x : Result (Unit {0})). StopsFirst t x (ran_by input b).stop) is begins) ∙ e)

  pub behaves : Behaves u s (index_of u f)
  behaves input ok b =
      means_run u t result_is input b (run_at s (index_of u f) input b) (ran_by input) (whose_at (alone_by input b).stop) (shown input b) (longer_by input)
      (λ fuel. bundle input ok (grants (ran_by input b).events) fuel (agrees (ran_by input) (longer_by input) b)) (same_whose input ok b)

-- ---- a unit that a store has

pub compiled_behaves : (u : Typed) (s : Store) (n : ℕ) (f : Function) (b : Stmt) (t : Ty) → IsWellTyped u → IsMost u
    → main_number u ≡ Some n → slice_get u.functions n ≡ Some f → f.body ≡ Some b
    → f.ty ≡ function t no_types → gives_integer t ≡ true → IsPlaced u s → Behaves u s (index_of u n)
compiled_behaves u s n f b t well most is_main at has_body ty_is numeric placed =
    let all = stands.compiled u s well most placed in
    let there : is_defined_at u n ≡ true = ap is_defined at ∙ ap (λ (o : Option Stmt). is_some o) has_body in
    behaves u s well most placed n t (all n t no_types (typed_at u.functions n at) (λ lt. there)) is_main numeric
  where
    typed_at : (fs : List Function) (k : ℕ) → slice_get fs k ≡ Some f → slice_get (map (λ (g : Function). g.ty) fs) k ≡ Some (function t no_types)
    typed_at [] k e = absurd cc
    typed_at (h ∷ fs) zero e = ap (λ (o : Option Function). ty_or o) e ∙ ap Some ty_is where
      ty_or : Option Function → Option Ty
      ty_or None = None
      ty_or (Some x) = Some x.ty
    typed_at (h ∷ fs) (suc k) e = typed_at fs k e
