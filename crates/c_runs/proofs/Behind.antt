-- A run behind the start function, from what is known of the one and of the other; what runs there is any.
use Rattle.std.proofs.Common.{◌≡◌, ℕ, zero, suc, ◌+◌, ◌*◌, ◌<◌, List, [], ◌∷◌, ◌++◌, length, Bool, Option, None, refl, sym, ap, ◌∙◌, arith, subst}
use Rattle.std.proofs.Math.Nat.{mul-suc}
use Rattle.ms_event.specs.Monitor.{grants}
use Rattle.ms_linear.specs.declared.global.GlobalInst.{GlobalInst}
use Rattle.ms_linear.specs.declared.value.Value.{Value as Word}
use Rattle.ms_machine.specs.Crews.{Input}
use Rattle.ms_machine.specs.Running.{AreBytes}
use Rattle.ms_machine.specs.Store.{Store}
use Rattle.ms_relate.specs.refinement.Relation.{Related}
use Rattle.ms_segment.specs.Memory.{Memory, Placed}
use Rattle.ms_task.specs.Control.{exit_ended}
use Rattle.ms_task.specs.Thread.{Activation, Frame, Item, Thread, sequence}
use Rattle.ms_types.specs.declared.types.ValType.{ValType}
use Rattle.c_types.specs.Types.{Ty}
use Rattle.c_typed.specs.Tree.{Typed}
use Rattle.c_typed.specs.Units.{IsWellTyped, literals_in}
use Rattle.c_meaning.specs.Units.{before_main, closed, first_world, give_each, main_number, make_each, means, run_main}
use Rattle.c_meaning.specs.Values.{Value}
use Rattle.c_meaning.specs.World.{End, World, Result, gives, ends, after}
use Rattle.c_code.specs.Modules.{start_target, waits_made}
use Rattle.c_runs.specs.Ends.{stop_of}
use Rattle.c_runs.specs.Placed.{start_index, started_of}
use Rattle.c_runs.specs.Threads.{Ran, behind, steps_to}
use Rattle.c_runs.proofs.Begun.{started_runs}
use Rattle.c_runs.proofs.Entries.{places_of}
use Rattle.c_runs.proofs.Files.{Filed, Reached}
use Rattle.c_runs.proofs.Giving.{AllGiven}
use Rattle.c_runs.proofs.Globals.{NamesOf, all_reached, file_slots}
use Rattle.c_runs.proofs.Goes.{Mem, RunsTo, Runs, Site, after_after, store}
use Rattle.c_runs.proofs.Grants.{Agrees, Fit, fit_behind, grants_append}
use Rattle.c_runs.proofs.Lasting.{lasts_same}
use Rattle.c_runs.proofs.Mains.{Bundle, ended_so}
use Rattle.c_runs.proofs.Operations.{Linked}
use Rattle.c_runs.proofs.Related.{Env, Kept, Now, extends_same, front}
use Rattle.c_runs.proofs.Starting.{AreMade, Es, Good, HasStart, To}
use Rattle.c_runs.proofs.Went.{went_behind}

one_more : (most n : ℕ) → most * (n + 1) ≡ most * n + most
one_more most n = ap (λ (i : ℕ). most * i) (let q : n + 1 ≡ suc n = omega arith in q) ∙ mul-suc most n

-- ---- one run behind another, which has ended with nothing

module _ (u : Typed) (t : Ty) (S : Site) (size : ℕ) (w0 : World) (m0 : Mem) (start : Thread) (to : Unit {0} → World → Mem → Thread) (Left : Unit {0} → World → Mem → Type 0) (go : Unit {0} → World → Result (Option Value))
    (over : (z : Unit {0}) (w : World) (m : Mem) (k : ℕ) (s : Store) (input : Input) → steps_to S.last k s (to z w m) input ≡ S.last k s None input)
    (next : (z : Unit {0}) (w : World) (m : Mem) → Left z w m → ((k : ℕ) → Fit (grants (S.last k (store S m) None w.input).events) w.grants)
    → Bundle t (gives tt w) (λ k. S.last k (store S m) None w.input) (S.most * (w.fuel + 1)) w.fuel w (closed u (go z w)).0 (closed u (go z w)).1) where
  abbrev R : ℕ → Ran
  R n = steps_to S.last n (store S m0) start w0.input

  abbrev most : ℕ
  most = size + S.most * (w0.fuel + 1)

  pub joined : (x : Result (Unit {0})) → RunsTo S size m0 start w0 to Left x → Agrees S.last (store S m0) start w0.input w0.grants → Bundle t x R most w0.fuel w0 (closed u (after x go)).0 (closed u (after x go)).1
  joined (ends e w1) h ag = ended_so t (ends e w1) S most size w0 w1 m0 start e refl h (let a = h.greatest in let more = one_more S.most w0.fuel in omega (arith, a, more))
  joined (gives z w1) r ag =
      let m1 = r.0 in
      let h = r.2 in
      let R1 : ℕ → Ran = λ k. S.last k (store S m1) None w1.input in
      let by : (k : ℕ) → R (h.cost + k) ≡ behind h.puts h.events (R1 k) = λ k. h.by k ∙ ap (behind h.puts h.events) (over z w1 m1 k (store S m1) w1.input) in
      let agreed : (k : ℕ) → Fit (grants (R1 k).events) w1.grants =
      λ k.
      fit_behind (grants h.events) (grants (R1 k).events) w1.grants
      (subst (λ (x : List Bool). Fit (grants h.events ++ grants (R1 k).events) x) h.tells.grants
      (subst (λ (x : List Bool). Fit x w0.grants) (ap (λ (q : Ran). grants q.events) (by k) ∙ grants_append h.events (R1 k).events) (ag (h.cost + k)))) in
      let b = next z w1 m1 r.1 agreed in
      let a = h.greatest in
      let here = one_more S.most w1.fuel in
      let all = one_more S.most w0.fuel in
      record {
        st = b.st;
        went = went_behind R R1 h.cost h.puts h.events by most (S.most * (w1.fuel + 1)) w0.fuel w1.fuel (omega (arith, a, here, all)) h.least b.st (closed u (go z w1)).0 w0 w1 (closed u (go z w1)).1 h.tells b.went;
        reports = b.reports;
        begins = tt;
        defined = b.defined;
      }

-- ---- behind the start function

-- so many of its own steps end it, or stop it as the meaning ends
abbrev pub StartEnds : (last : ℕ → Store → Option Word → Input → Ran) (R : ℕ → Ran) → Result (Unit {0}) → Type 0
StartEnds last R (gives z w) = (c : ℕ) × (s : Store) × (i : Input) × ((R c).stop ≡ (last 0 s None i).stop)
StartEnds last R (ends e w) = (c : ℕ) × ((R c).stop ≡ stop_of e)

abbrev pub nothing : Reached
nothing = record { named = []; texts = 0; sealed = 0 }

module _ (S : Site) (L : Linked S) (u : Typed) (well : IsWellTyped u) (fuel : ℕ) (p : HasStart S u) (names : NamesOf u.structs (file_slots u) (all_reached u) (start_target u) u.globals (literals_in u.made)) (are_made : AreMade u u.made)
    (are_given : AllGiven S L u well (suc fuel) p u.made) (input : Input) (are_bytes : AreBytes input) (g : List Bool) (gs : List GlobalInst) (sg : Memory) (ts : List Word) (long : length ts ≡ 4 + waits_made u u.made) (apart : Placed sg)
    (file : Filed u.structs (places_of u) (file_slots u) nothing S.shared [] (first_world u input g fuel).globals [] gs) where
  abbrev pub first_mem : Mem
  first_mem = record { globals = gs; segments = sg; homes = []; temps = ts }

  abbrev w0 : World
  w0 = first_world u input g fuel

  abbrev E0 : Env
  E0 = Es S L u well (suc fuel) p nothing

  abbrev now : Now
  now = record { below = suc fuel; waits = 0; temps = ts; homes = []; objects = []; visible = [] }

  kept : Kept E0 now w0 first_mem
  kept = record {
    held = tt;
    deep = refl;
    less = omega arith;
    bytes = are_bytes;
    temps = record { long = long; stay = λ j l. refl };
    grown = extends_same [];
    related = record {
      long = refl;
      each = λ n o h at at'. absurd cc;
      rising = λ i j a b less at at'. absurd cc;
      made = λ n h at. absurd cc;
      placed = apart;
    };
    open' = λ x r seen at. absurd cc;
    apart = λ x y n e. absurd cc;
    own = λ x n e. absurd cc;
    lasts = lasts_same [];
    file = file;
  }

  abbrev go_on : Unit {0} → World → Result (Option Value)
  go_on z = run_main u (suc fuel) (main_number u)

  means_is : means u input g fuel ≡ closed u (after (before_main u w0) go_on)
  means_is = ap (λ (x : Result (Option Value)). closed u x) (sym (after_after (make_each u u.made w0) (λ z. give_each u 0 u.made) go_on))

  module _ (res : Option ValType) (nobody : Frame) where
    abbrev marked : List Item
    marked = Activation res 0 nobody ∷ []

    abbrev pub begun : Thread
    begun = exit_ended (record { function = start_index u; locals = ts }) [] (front (sequence S.funcs (start_index u) 0) marked)

    abbrev to : Unit {0} → World → Mem → Thread
    to = To S L u well (suc fuel) p (all_reached u) [] marked

    abbrev Left : Unit {0} → World → Mem → Type 0
    Left = Good S L u well (suc fuel) p (all_reached u) now

    runs : Runs S (started_of u) first_mem begun w0 to Left (before_main u w0)
    runs = started_runs S L u well (suc fuel) p names are_made are_given now (omega arith) (omega arith) marked refl w0 first_mem kept

    over : (z : Unit {0}) (w : World) (m : Mem) (k : ℕ) (s : Store) (i : Input) → steps_to S.last k s (to z w m) i ≡ S.last k s None i
    over z w m zero s i = refl
    over z w m (suc k) s i = refl

    -- how its own steps end, of a thread that is the start function's
    pub start_ends : (start : Thread) → start ≡ begun → Agrees S.last (store S first_mem) start input g → StartEnds S.last (λ n. steps_to S.last n (store S first_mem) start input) (before_main u w0)
    start_ends start e =
        subst (λ (t0 : Thread). Agrees S.last (store S first_mem) t0 input g → StartEnds S.last (λ n. steps_to S.last n (store S first_mem) t0 input) (before_main u w0)) (sym e) (λ ag. by (before_main u w0) (runs ag))
      where
        by : (x : Result (Unit {0})) → RunsTo S (started_of u) first_mem begun w0 to Left x → StartEnds S.last (λ n. steps_to S.last n (store S first_mem) begun input) x
        by (gives z w) r =
            let h = r.2 in
            (h.cost + 0, store S r.0, w.input, ap (λ (q : Ran). q.stop) (h.by 0 ∙ ap (behind h.puts h.events) (over z w r.0 0 (store S r.0) w.input)))
        by (ends e' w) r = (r.cost, ap (λ (q : Ran). q.stop) r.so)

    module _ (t : Ty)
        (next : (w : World) (m : Mem) → w.depth ≡ 0 → w.fuel < suc fuel → AreBytes w.input → Related u.structs (places_of u) m.homes w.objects m.segments → Filed u.structs (places_of u) (file_slots u) (all_reached u) S.shared m.homes w.globals w.literals m.globals
        → ((k : ℕ) → Fit (grants (S.last k (store S m) None w.input).events) w.grants)
        → Bundle t (gives tt w) (λ k. S.last k (store S m) None w.input) (S.most * (w.fuel + 1)) w.fuel w (closed u (run_main u (suc fuel) (main_number u) w)).0 (closed u (run_main u (suc fuel) (main_number u) w)).1) where
      next_kept : (z : Unit {0}) (w : World) (m : Mem) → Left z w m → ((k : ℕ) → Fit (grants (S.last k (store S m) None w.input).events) w.grants)
          → Bundle t (gives tt w) (λ k. S.last k (store S m) None w.input) (S.most * (w.fuel + 1)) w.fuel w (closed u (go_on z w)).0 (closed u (go_on z w)).1
      next_kept z w m k fits = next w m k.deep k.less k.bytes k.related k.file fits

      of_begun : Agrees S.last (store S first_mem) begun input g → Bundle t (before_main u w0) (λ n. steps_to S.last n (store S first_mem) begun input) (started_of u + S.most * (fuel + 1)) fuel w0 (means u input g fuel).0 (means u input g fuel).1
      of_begun ag =
          subst (λ (q : End × World). Bundle t (before_main u w0) (λ n. steps_to S.last n (store S first_mem) begun input) (started_of u + S.most * (fuel + 1)) fuel w0 q.0 q.1) (sym means_is)
          (joined u t S (started_of u) w0 first_mem begun to Left go_on over next_kept (before_main u w0) (runs ag) ag)

      -- of a thread that is the start function's
      pub behind_start : (start : Thread) → start ≡ begun → Agrees S.last (store S first_mem) start input g
          → Bundle t (before_main u w0) (λ n. steps_to S.last n (store S first_mem) start input) (started_of u + S.most * (fuel + 1)) fuel w0 (means u input g fuel).0 (means u input g fuel).1
      behind_start start e =
          subst (λ (t0 : Thread). Agrees S.last (store S first_mem) t0 input g → Bundle t (before_main u w0) (λ n. steps_to S.last n (store S first_mem) t0 input) (started_of u + S.most * (fuel + 1)) fuel w0 (means u input g fuel).0 (means u input g fuel).1) (sym e) of_begun
