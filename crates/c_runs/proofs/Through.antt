-- Calls through pointers: the function waits in a local while the arguments are evaluated, and then the table leads to it.
use Rattle.std.proofs.Common.{◌≡◌, ℕ, suc, ◌+◌, ◌<◌, ◌≤◌, List, [], ◌∷◌, ◌++◌, length, true, false, Option, Some, refl, sym, ap, ◌∙◌, arith, subst}
use Rattle.std.specs.Prelude.{Result, slice_get, slice_set}
use Rattle.ms_host.specs.declared.trap.TrapKind.TheVariants as traps
use Rattle.ms_linear.specs.Table.{Table, target_in, target_of}
use Rattle.ms_linear.specs.declared.table.CallTrap.{CallTrap}
use Rattle.ms_linear.specs.declared.table.Entry.{Entry}
use Rattle.ms_linear.specs.declared.table.FuncRef.{FuncRef}
use Rattle.ms_linear.specs.declared.value.Value.{Value as Word}
use Rattle.ms_linear.specs.declared.value.Value.TheVariants.{I32}
use Rattle.ms_machine.specs.Step as step
use Rattle.ms_machine.specs.Step.{act, call_target}
use Rattle.ms_machine.specs.Store.{at, table_address, type_at}
use Rattle.ms_machine.specs.declared.store.Instance.{Instance}
use Rattle.ms_module.specs.declared.instr.Instr.{Instr}
use Rattle.ms_module.specs.declared.instr.Instr.TheVariants.{CallIndirect, LocalGet, LocalSet}
use Rattle.ms_task.specs.Thread.{Do, Item, Thread, thread}
use Rattle.ms_types.specs.declared.types.FuncType.{FuncType}
use Rattle.c_types.specs.Types.{Ty, function, pointer, is_function, Tys}
use Rattle.c_meaning.specs.Values.{Value}
use Rattle.c_meaning.specs.World.{null_call, World, Does, after, ◌>>=◌}
use Rattle.c_meaning.specs.Expressions.{call_value}
use Rattle.ms_emit.specs.Codes.{Code, plain, one, ◌⨾◌, size_of}
use Rattle.c_code.specs.Functions.{signature}
use Rattle.c_code.specs.Modules.{compiled, rank_in, named, sig_of}
use Rattle.c_code.specs.Targets.{waiting}
use Rattle.ms_relate.specs.refinement.Homes as homes
use Rattle.ms_relate.specs.refinement.Homes.{Home, is_named, is_no_function}
use Rattle.c_runs.proofs.Entries.{IsEntry, small_entry, types_of}
use Rattle.c_runs.proofs.Functions.{entry, function_word}
use Rattle.c_runs.proofs.Goes as goes
use Rattle.c_runs.proofs.Goes.{Mem, behind_goes, bind, resize, Runs, weaker}
use Rattle.c_runs.proofs.Held.{length_set, set_elsewhere, set_there}
use Rattle.c_runs.proofs.Related.{AreOf, Env, IsValue, Kept, Now, beside, extends_none, extends_same, frame_of, front, front_append, has_back, has_front, kept_temps, piled, pushes, with_homes}
use Rattle.c_runs.proofs.Ops.{GoodIn, OpIn, Stack, ToIn, at_work, kept_from, kept_here, op_then_in, op_trap_in, same, size_joined}
use Rattle.c_runs.proofs.Nodes.{Leaves}
use Rattle.c_runs.proofs.Operations.{AtHome, Reaches}
use Rattle.c_runs.proofs.Cells.{gets}
use Rattle.c_runs.proofs.Ready.{IsCallable}
use Rattle.c_runs.proofs.Switches.{set_goes, waiting_is, with_temp}

module _ (E : Env) (home : AtHome E) (F : Ty) (sig : slice_get (compiled E.unit).sigs (sig_of E.unit F) ≡ Some (signature F)) where
  -- ---- the machine looks at the table

  looks : (m : Mem) (w : World) (j : ℕ) (vs : List Word) (r : List Item)
      → act (goes.store E.site m) (CallIndirect (E.target.sig F)) (thread (frame_of E m w) (I32 j ∷ vs) r) ≡ call_target (goes.store E.site m) (thread (frame_of E m w) vs r) (target_of E.table.table.entries j (signature F))
  looks m w j vs r =
      let s = goes.store E.site m in
      let t : Thread = thread (frame_of E m w) (I32 j ∷ vs) r in
      let x = E.target.sig F in
      let T = E.table in
      ap (λ (o : Option ℕ). step.call_through s t (at E.site.tables (table_address (at E.site.instances o))) (type_at (at E.site.instances o) x) (I32 j ∷ vs)) home
      ∙ ap (λ (is : List Instance). step.call_through s t (at E.site.tables (table_address (slice_get is 0))) (type_at (slice_get is 0) x) (I32 j ∷ vs)) T.alone
      ∙ ap (λ (a : Option ℕ). step.call_through s t (at E.site.tables a) (slice_get T.inst.types x) (I32 j ∷ vs)) T.has_table
      ∙ ap (λ (ts : List Table). step.call_through s t (slice_get ts 0) (slice_get T.inst.types x) (I32 j ∷ vs)) T.tables
      ∙ ap (λ (o : Option FuncType). step.call_through s t (Some T.table) o (I32 j ∷ vs))
      (ap (λ (f : Ty → ℕ). slice_get T.inst.types (f F)) E.sigs_are ∙ ap (λ (ts : List FuncType). slice_get ts (sig_of E.unit F)) T.types ∙ sig)

  -- null has the entry that is empty
  stops_at_null : (m : Mem) (w : World) (vs : List Word) (r : List Item) → act (goes.store E.site m) (CallIndirect (E.target.sig F)) (thread (frame_of E m w) (I32 0 ∷ vs) r) ≡ step.Trap traps.Element
  stops_at_null m w vs r = looks m w 0 vs r ∙ ap (λ (o : Option (Option Entry)). call_target (goes.store E.site m) (thread (frame_of E m w) vs r) (target_in (signature F) o)) E.table.empty

  reaches : (n j : ℕ) → IsEntry E.unit F n → j ≡ suc (rank_in (named E.unit) n) → Reaches E (CallIndirect (E.target.sig F)) (λ vs. I32 j ∷ vs) (E.target.index n)
  reaches n j e is lt m w vs r =
      let s = goes.store E.site m in
      let t : Thread = thread (frame_of E m w) vs r in
      looks m w j vs r ∙ ap (λ (i : ℕ). call_target s t (target_of E.table.table.entries i (signature F))) is ∙ ap (λ (q : Result FuncRef CallTrap). call_target s t q) (E.table.entries n F e)
      ∙ ap (λ (f : ℕ → ℕ). step.called s (f n) t (step.host_in (slice_get E.site.funcs (f n)))) (sym E.indices_are)

  -- ---- the call

  module _ (t : Ty) (ps : Tys) (F_is : F ≡ function t ps) (d : ℕ) (before : E.pending ≤ d) (room : suc d ≤ E.waits)
      (calls_run : (n : ℕ) → slice_get (types_of E.unit) n ≡ Some (function t ps) → IsCallable E.unit n → (i : Instr) (above : Stack) → Reaches E i above (E.target.index n) → (hs : List Home) (us : List Value) → AreOf E ps hs us
      → OpIn (beside (suc d) E) hs (one i) (λ vs. above (piled E ps hs us vs)) (pushes E t) (IsValue E t) (E.calls n us)) where
    abbrev Ed : Env
    Ed = beside (suc d) E

    abbrev P : Ty
    P = pointer F

    abbrev W : ℕ
    W = waiting E.target d

    abbrev I : Instr
    I = CallIndirect (E.target.sig F)

    is : is_function F ≡ true
    is = ap is_function F_is

    abbrev tail : Code
    tail = plain (LocalGet W ∷ I ∷ [])

    -- ---- what the local leads to

    called_by : (gs : List Home) (v : Value) → homes.IsOf E.unit.structs E.places gs P v → (hs : List Home) (us : List Value) → AreOf E ps hs us
        → OpIn Ed hs (one I) (λ vs. I32 (entry E F v) ∷ piled E ps hs us vs) (pushes E t) (IsValue E t) (call_value E.unit E.calls v us)
    called_by gs v (is_no_function e) hs us ok =
        op_trap_in Ed hs I (λ vs. I32 0 ∷ piled E ps hs us vs) (pushes E t) (IsValue E t) traps.Element null_call (λ w. tt) refl (λ m q w. tt) (λ m w vs r. stops_at_null m w (piled E ps hs us vs) r)
    called_by gs v (is_named {n = f} e lt) hs us ok =
        let place = ap (λ (p : Ty → ℕ → ℕ). p P f) E.places_are in
        let own = small_entry E.unit F f (omega (arith, lt, place)) in
        let j = suc (E.places P f) in
        calls_run f (own.typed ∙ ap Some F_is) (E.table.callable f own.among) I (λ vs. I32 j ∷ vs) (reaches f j own (ap suc (place ∙ own.place))) hs us ok
    called_by gs v (homes.is_null e) hs us ok = absurd (let z : true ≡ false = sym is ∙ e in cc)
    called_by gs v (homes.is_invalid e) hs us ok = absurd (let z : true ≡ false = sym is ∙ e in cc)
    called_by gs v (homes.is_pointer h s e at' span shape near) hs us ok = absurd (let z : true ≡ false = sym is ∙ e in cc)

    -- ---- the pointer waits

    -- what was kept before is kept
    kept_back : (now : Now) (w : World) (m : Mem) (q : Word) → now.waits ≤ d → Kept E now w m → (w1 : World) (m1 : Mem) → Kept E (record now { waits = suc d; temps = slice_set m.temps (4 + d) q }) w1 m1 → Kept E now w1 m1
    kept_back now w m q le k w1 m1 k1 =
        kept_temps E (record now { waits = suc d; temps = slice_set m.temps (4 + d) q }) now.waits now.temps w1.objects w1 m1 m1.temps
        (record { long = k1.temps.long; stay = λ i lt. k1.temps.stay i (omega (arith, lt, le)) ∙ set_elsewhere m.temps (4 + d) (4 + i) q (λ e. omega (arith, e, lt, le)) ∙ k.temps.stay i lt }) k1

    module _ (cs : Code) (y : Does (List Value)) (args_run : OpIn Ed [] cs same (λ hs us vs. piled E ps hs us vs) (λ hs us. AreOf E ps hs us) y) where
      waits_run : (gs : List Home) (v : Value) → IsValue E P gs v → OpIn E gs (one (LocalSet W) ⨾ (cs ⨾ tail)) (pushes E P gs v) (pushes E t) (IsValue E t) (y >>= call_value E.unit E.calls v)
      waits_run gs v ok n has now le vs r dep w m k =
          let j = entry E F v in
          let ca = one (LocalSet W) n in
          let n1 = n + length ca.seqs in
          let cc = cs n1 in
          let n2 = n1 + length cc.seqs in
          let ct = (cs ⨾ tail) n1 in
          let i = 4 + d in
          let long = k.temps.long in
          let few = le.few in
          let inside : i < length m.temps = omega (arith, long, room) in
          let m1 = with_temp E m i (I32 j) in
          let now1 : Now = record now { waits = suc d; temps = m1.temps } in
          let k1 : Kept E now1 w m1 = kept_temps E now (suc d) m1.temps w.objects w m m1.temps (record { long = length_set m.temps i (I32 j) ∙ long; stay = λ h lt. refl }) k in
          let hasT = has_back E.site.funcs E.fn n ca.seqs ct.seqs has in
          let behind = front (LocalGet W ∷ I ∷ []) r in
          let R = front cc.instrs behind in
          let to = ToIn E (pushes E t) vs r in
          let Good = GoodIn E (IsValue E t) now in
          let sizes = size_joined ca ct in
          let sizes' = size_joined cc (tail n2) in
          let whole = (one (LocalSet W) ⨾ (cs ⨾ tail)) n in
          let end = after (y w) (call_value E.unit E.calls v) in
          subst (λ (us : List Word). Runs E.site (size_of whole) m (at_work E m w us (Do (LocalSet W) ∷ front (cc.instrs ++ (LocalGet W ∷ I ∷ [])) r)) w to Good end) (ap (λ (q : Word). q ∷ vs) (sym (function_word E F is gs v)))
          (subst (λ (q : List Item). Runs E.site (size_of whole) m (at_work E m w (I32 j ∷ vs) (Do (LocalSet W) ∷ q)) w to Good end) (sym (front_append cc.instrs (LocalGet W ∷ I ∷ []) r))
          (resize E.site (1 + (size_of cc + (1 + 1))) (size_of whole) m (at_work E m w (I32 j ∷ vs) (Do (LocalSet W) ∷ R)) w to Good end (omega (arith, sizes, sizes'))
          (behind_goes E.site 1 (size_of cc + (1 + 1)) w w m m1 (at_work E m w (I32 j ∷ vs) (Do (LocalSet W) ∷ R)) (at_work E m1 w vs R) to Good end
          (set_goes E w m k.held W i (waiting_is E d) inside (I32 j) vs R)
          (bind E.site (size_of cc) (1 + 1) m1 (at_work E m1 w vs R) w (ToIn Ed (λ hs us ws. piled E ps hs us ws) vs behind) (GoodIn Ed (λ hs us. AreOf E ps hs us) now1) to Good (y w) (call_value E.unit E.calls v)
          (args_run n1 (has_front E.site.funcs E.fn n1 cc.seqs [] hasT) now1 (record { below = le.below; grown = extends_none now1.homes; seen = le.seen; few = omega arith }) vs behind dep w m1 k1)
          (λ us w2 m2 g.
          let there = g.1.temps.stay d (omega arith) ∙ set_there m.temps i (I32 j) inside in
          let top = piled E ps m2.homes us vs in
          let now2 = with_homes m2.homes now1 in
          let last = call_value E.unit E.calls v us w2 in
          behind_goes E.site 1 1 w2 w2 m2 m2 (at_work E m2 w2 top (Do (LocalGet W) ∷ Do I ∷ r)) (at_work E m2 w2 (I32 j ∷ top) (Do I ∷ r)) to Good last
          (gets E W i (waiting_is E d) now1 w2 m2 g.1 (I32 j) there top (Do I ∷ r))
          (weaker E.site 1 m2 (at_work E m2 w2 (I32 j ∷ top) (Do I ∷ r)) w2 to (GoodIn Ed (IsValue E t) now2) Good last
          (λ z w3 m3 p. (p.0, kept_back now w m (I32 j) (omega (arith, few, before)) k w3 m3 (kept_from Ed now1 m2.homes w3.objects w3 m3 g.1.grown p.1)))
          (called_by gs v ok m2.homes us g.0 0 tt now2 (record { below = le.below; grown = extends_same m2.homes; seen = le.seen; few = omega arith }) vs r dep w2 m2 (kept_here Ed now1 w2.objects w2 m2 g.1))))))))

      pub through_runs : (c : Code) (x : Does Value) → Leaves E c P x → Leaves E (c ⨾ one (LocalSet W) ⨾ cs ⨾ tail) t (x >>= (λ v. y >>= call_value E.unit E.calls v))
      through_runs c x h =
          op_then_in E [] c (one (LocalSet W) ⨾ (cs ⨾ tail)) same (pushes E P) (pushes E t) (IsValue E P) (IsValue E t) x (λ v. y >>= call_value E.unit E.calls v) h
          (λ gs grown v ok. waits_run gs v ok)
