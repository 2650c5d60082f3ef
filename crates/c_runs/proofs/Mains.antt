-- The run of `main` against its meaning, from whatever world stands before it.
use Rattle.std.proofs.Common.{◌≡◌, ◌≢◌, ℕ, suc, ◌+◌, ◌*◌, ◌<◌, ◌≤◌, List, [], ◌∷◌, ◌++◌, map, true, Option, Some, refl, sym, ap, ◌∙◌, arith, subst}
use Rattle.std.specs.Prelude.{slice_get}
use Rattle.std.proofs.Math.Nat.{mul-suc}
use Rattle.ms_linear.specs.Values.{default_of}
use Rattle.ms_linear.specs.declared.value.Value.{Value as Word}
use Rattle.ms_machine.specs.Crews as crews
use Rattle.ms_machine.specs.Running.{AreBytes, func_thread, start_of}
use Rattle.ms_machine.specs.Store.{Store}
use Rattle.ms_task.specs.Control.{exit_ended, nobody}
use Rattle.ms_task.specs.declared.func.FuncInst.{FuncInst}
use Rattle.ms_task.specs.Thread.{Activation, Frame, Thread, result_of, sequence}
use Rattle.c_types.specs.Types.{Ty, void, integer, function, Tys, no_types}
use Rattle.c_typed.specs.Tree.{Function, Stmt, Typed}
use Rattle.c_typed.specs.Units.{IsWellTyped}
use Rattle.c_meaning.specs.Functions as meaning
use Rattle.c_meaning.specs.Functions.{back_to, calls_at, called, of_defined, with_body}
use Rattle.c_meaning.specs.Units.{as_result, closed, main_number, run_main}
use Rattle.c_meaning.specs.Values.{Value}
use Rattle.c_meaning.specs.World as world
use Rattle.c_meaning.specs.World.{End, World, Result, gives, ends, Does, after, ◌>>=◌, ◌>>◌, pure}
use Rattle.c_code.specs.Modules.{index_of}
use Rattle.c_runs.proofs.Fits.{IsMost}
use Rattle.c_runs.proofs.Scalars.{AreData}
use Rattle.c_runs.specs.Correct.{Reports, gives_integer, whose_of}
use Rattle.c_runs.specs.Crews.{reported}
use Rattle.c_runs.specs.Ends.{stop_of}
use Rattle.c_runs.specs.Placed.{IsPlaced}
use Rattle.c_runs.specs.Threads.{Ended, Ran, Stop, behind, ran, steps, steps_to}
use Rattle.c_runs.specs.Threads as threads
use Rattle.c_runs.specs.Words.{pushed}
use Rattle.c_runs.proofs.Callees.{Compiled, E, Left, begun_with, does, start_now}
use Rattle.c_runs.proofs.Calls.{Callees, Entered, calls_run, enters}
use Rattle.c_runs.proofs.Entries.{places_of}
use Rattle.c_runs.proofs.Files.{Filed}
use Rattle.c_runs.proofs.Globals.{all_reached, file_slots}
use Rattle.c_runs.proofs.Goes.{Asks, IsEnd, Mem, Runs, RunsTo, Site, Stops, counted, store, weaker}
use Rattle.c_runs.proofs.Grants.{Agrees}
use Rattle.c_runs.proofs.Operations.{Linked}
use Rattle.c_runs.proofs.Outcomes.{How, asking, over, spent}
use Rattle.c_runs.proofs.Placed as stands
use Rattle.c_runs.proofs.Placed.{site_of}
use Rattle.c_runs.proofs.Ready.{IsCallable}
use Rattle.c_runs.proofs.Related.{Env, IsValue, Now, front, pushes}
use Rattle.c_runs.proofs.Went.{Went}
use Rattle.ms_relate.specs.refinement.Homes.{Home}
use Rattle.ms_relate.specs.refinement.Relation.{Related}

-- ---- an end

module _ (t : Ty) where
  -- where the meaning ends before `main`, it stops so
  abbrev pub StopsFirst : Result (Unit {0}) → Stop → Type 0
  StopsFirst (gives z w) st = Unit {0}
  StopsFirst (ends e w) st = st ≡ stop_of e

  -- what is known of a run that ends so, by what comes of what is done before `main`
  pub record Bundle (first : Result (Unit {0})) (R : ℕ → Ran) (most fuel : ℕ) (w : World) (e : End) (w1 : World) : Type 0 where
    pub st : Stop
    pub went : Went R most fuel st e w w1
    pub reports : (end : crews.End) → reported (whose_of first) st end → Reports t (whose_of first) e end
    pub begins : StopsFirst first st
    pub defined : e ≢ world.lost

  pub ended_so : (first : Result (Unit {0})) (S : Site) (most size : ℕ) (w w1 : World) (m : Mem) (start : Thread) (e : End) → StopsFirst first (stop_of e) → (h : Stops S size w w1 m start e) → counted e h.cost ≤ most
      → Bundle first (λ n. steps_to S.last n (store S m) start w.input) most w.fuel w e w1
  ended_so first S most size w w1 m start e so h le = record {
    st = stop_of e;
    begins = so;
    went = record { puts = h.puts; events = h.events; cost = h.cost; so = h.so; tells = h.tells; how = how_of e h.is le h.asks };
    reports = reports_of e h.is;
    defined = λ q. subst (λ (x : End). IsEnd S x w1) q h.is;
  } where
    how_of : (e : End) → IsEnd S e w1 → counted e h.cost ≤ most → Asks S e h.cost m start w h.events → How (λ n. steps_to S.last n (store S m) start w.input) most w.fuel (stop_of e) e w1 h.cost h.events
    how_of (world.result v) is le asks = absurd is
    how_of (world.unsafe u) is le asks = over (λ q. absurd cc) le
    how_of world.zero_divide is le asks = over (λ q. absurd cc) le
    how_of world.overflow is le asks = over (λ q. absurd cc) le
    how_of world.abort is le asks = over (λ q. absurd cc) le
    how_of world.null_call is le asks = over (λ q. absurd cc) le
    how_of world.deep is le asks = over (λ q. absurd cc) le
    how_of world.exhausted is le asks = over (λ q. absurd cc) le
    how_of world.ungranted is le asks = asking refl refl is asks le
    how_of world.out_of_fuel is le asks = spent refl refl (let l = h.least in omega (arith, l, is))
    how_of world.lost is le asks = absurd is

    reports_of : (e : End) → IsEnd S e w1 → (end : crews.End) → reported (whose_of first) (stop_of e) end → Reports t (whose_of first) e end
    reports_of (world.result v) is end q = absurd is
    reports_of (world.unsafe u) is end q = q
    reports_of world.zero_divide is end q = q
    reports_of world.overflow is end q = q
    reports_of world.abort is end q = q
    reports_of world.null_call is end q = q
    reports_of world.deep is end q = q
    reports_of world.exhausted is end q = q
    reports_of world.ungranted is end q = q
    reports_of world.out_of_fuel is end q = q
    reports_of world.lost is end q = absurd is

-- ---- `main`, from any world

module _ (u : Typed) (s : Store) (well : IsWellTyped u) (most : IsMost u) (placed : IsPlaced u s) (f : ℕ) (t : Ty) (p : Compiled (site_of u s) u f t no_types) (is_main : main_number u ≡ Some f) (numeric : gives_integer t ≡ true) where
  abbrev S : Site
  S = site_of u s

  L : Linked S
  L = stands.linked u s well most placed

  all : (g : ℕ) (r : Ty) (ps : Tys) → slice_get (map (λ (h : Function). h.ty) u.functions) g ≡ Some (function r ps) → IsCallable u g → Compiled S u g r ps
  all = stands.compiled u s well most placed

  par_ints : (g : ℕ) (r : Ty) (ps : Tys) → slice_get (map (λ (h : Function). h.ty) u.functions) g ≡ Some (function r ps) → AreData ps
  par_ints = stands.params_are u s well most placed

  abbrev main_thread : Thread
  main_thread = func_thread s (index_of u f)

  -- the most steps of `main` with so much fuel
  abbrev room_for : ℕ → ℕ
  room_for fuel = S.most * (fuel + 1)

  module _ (fuel : ℕ) (w : World) (m : Mem) where
    callees : (q : Compiled S u f t no_types) → Callees S L u all par_ints (suc fuel) f 1 t no_types q
    callees q = calls_run S L u all par_ints (suc fuel) f 1 t no_types q

    entered : Entered S L u all par_ints (suc fuel) f 1 t no_types p callees tt m.homes [] tt
    entered = enters S L u all par_ints (suc fuel) f 1 t no_types p callees tt m.homes [] tt

    abbrev size : ℕ
    size = entered.0

    abbrev nobody' : Frame
    nobody' = nobody S.funcs

    abbrev ws : World
    ws = begun_with S L u (suc fuel) f 1 t no_types p [] w

    abbrev first_thread : Thread
    first_thread = exit_ended (record { function = index_of u f; locals = [] ++ map default_of p.inst.locals }) [] (front (sequence S.funcs (index_of u f) 0) (Activation (result_of p.inst) 0 nobody' ∷ []))

    start_is : main_thread ≡ first_thread
    start_is = ap (λ (o : Option FuncInst). start_of s (index_of u f) o) p.is_at

    abbrev body : World → Result Value
    body = does S L u (suc fuel) f 1 t no_types p []

    abbrev Em : Env
    Em = E S L u (suc fuel) f 1 t no_types p

    abbrev now : Now
    now = start_now S L u (suc fuel) f 1 t no_types p (suc fuel) m.homes w.objects

    abbrev to_end : Value → World → Mem → Thread
    to_end v w1 m1 = exit_ended nobody' (pushes Em t m1.homes v []) []

    abbrev AtEnd : Value → World → Mem → Type 0
    AtEnd v w1 m1 = IsValue Em t m1.homes v × (w1.fuel < suc fuel) × AreBytes w1.input

    -- of a type without a pointer
    pushed_end : (hs : List Home) (v : Value) → pushes Em t hs v [] ≡ pushed t v []
    pushed_end hs v = go t numeric where
      go : (r : Ty) → gives_integer r ≡ true → pushes Em r hs v [] ≡ pushed r v []
      go void q = refl
      go (integer i) q = refl
      go _ q = absurd cc

    abbrev ran_main : ℕ → Ran
    ran_main n = steps n (store S m) main_thread w.input

    abbrev ending : Result Value → End × World
    ending x = closed u (after (back_to w x) (λ v. pure (as_result u t v)))

    main_is : closed u (run_main u (suc fuel) (main_number u) w) ≡ ending (body ws)
    main_is =
        let go : Function → Stmt → Does (Option Value) = λ h b. called u (calls_at u (suc fuel)) (suc (suc fuel)) [] h b >>= (λ v. pure (as_result u (meaning.result_of h.ty) v)) in
        ap (λ (o : Option ℕ). closed u (run_main u (suc fuel) o w)) is_main
        ∙ ap (λ (o : Option Function). closed u (of_defined u o go w)) p.named ∙ ap (λ (b : Option Stmt). closed u (with_body u p.function_is b go w)) p.has_body
        ∙ ap (λ (ty : Ty). closed u (after (back_to w (body ws)) (λ v. pure (as_result u (meaning.result_of ty) v)))) p.typed

    bounded : (cost f' : ℕ) → cost + S.most * f' ≤ size + S.most * w.fuel → cost ≤ room_for w.fuel
    bounded cost f' h =
        let small = entered.1 in
        let more : S.most * (w.fuel + 1) ≡ S.most * w.fuel + S.most = ap (λ (n : ℕ). S.most * n) (let q : w.fuel + 1 ≡ suc w.fuel = omega arith in q) ∙ mul-suc S.most w.fuel in
        omega (arith, h, small, more)

    -- behind the start function
    abbrev first : Result (Unit {0})
    first = gives tt w

    reports_value : (v : Value) (end : crews.End) → end ≡ crews.Results (slice_get (pushed t v []) 0 ∷ []) → Reports t (whose_of first) (world.result (as_result u t v)) end
    reports_value v end e = go t numeric e where
      go : (r : Ty) → gives_integer r ≡ true → end ≡ crews.Results (slice_get (pushed r v []) 0 ∷ []) → Reports r (whose_of first) (world.result (as_result u r v)) end
      go void q e' = e'
      go (integer i) q e' = e'
      go _ q e' = absurd cc

    bundle_of : (x : Result Value) → RunsTo S size m main_thread w to_end AtEnd x → Bundle t first ran_main (room_for w.fuel) w.fuel w (ending x).0 (ending x).1
    bundle_of (gives v w1) r =
        let h = r.2 in
        let none_more : h.cost + 0 ≡ h.cost = omega arith in
        record {
          st = Ended (slice_get (pushed t v []) 0);
          went = record {
            puts = h.puts;
            events = h.events;
            cost = h.cost;
            so = ap (λ (n : ℕ). ran_main n) (sym none_more) ∙ h.by 0 ∙ ap (λ (us : List Word). behind h.puts h.events (ran (Ended (slice_get us 0)))) (pushed_end r.0.homes v);
            tells = record { output = h.tells.output; sizes = h.tells.sizes; grants = h.tells.grants };
            how = over (λ q. absurd cc) (bounded h.cost w1.fuel h.greatest);
          };
          reports = reports_value v;
          begins = tt;
          defined = λ q. absurd cc;
        }
    bundle_of (ends e w1) r = ended_so t first S (room_for w.fuel) size w w1 m main_thread e tt r (bounded (counted e r.cost) w1.fuel r.greatest)

    pub main_bundle : w.depth ≡ 0 → w.fuel < suc fuel → AreBytes w.input → Related u.structs (places_of u) m.homes w.objects m.segments → Filed u.structs (places_of u) (file_slots u) (all_reached u) S.shared m.homes w.globals w.literals m.globals
        → Agrees threads.over (store S m) main_thread w.input w.grants → Bundle t first ran_main (room_for w.fuel) w.fuel w (closed u (run_main u (suc fuel) (main_number u) w)).0 (closed u (run_main u (suc fuel) (main_number u) w)).1
    main_bundle depth less bytes related file ag =
        subst (λ (q : End × World). Bundle t first ran_main (room_for w.fuel) w.fuel w q.0 q.1) (sym main_is)
        (bundle_of (body ws)
        (subst (λ (t0 : Thread). Runs S size m t0 w to_end AtEnd (body ws)) (sym start_is)
        (weaker S size m first_thread w to_end (Left S L u (suc fuel) f 1 t no_types p now) AtEnd (body ws) (λ v w1 m1 q. (q.0, q.1, q.2))
        (entered.2 nobody' [] [] refl (suc fuel) (omega arith) w m refl (ap suc depth) less bytes related file)) ag))
