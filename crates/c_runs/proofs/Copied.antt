-- The body of a function of which a parameter is an object: its parameters are copied to slots of their own, behind the arguments, and
-- their objects are freed last.
use Rattle.std.proofs.Common.{◌≡◌, ℕ, suc, ◌+◌, ◌<◌, ◌≤◌, List, [], ◌∷◌, ◌++◌, length, append-nil, map, drop, Bool, true, false, Option, Some, None, refl, sym, ap, ◌∙◌, arith, subst}
use Rattle.std.specs.Prelude.{slice_get, ◌==◌, if◌then◌else◌}
use Rattle.ms_types.specs.declared.types.ValType.{ValType}
use Rattle.ms_linear.specs.declared.value.Value.{Value as Word}
use Rattle.ms_linear.specs.Values.{default_of}
use Rattle.ms_machine.specs.Running.{AreBytes}
use Rattle.ms_module.specs.declared.instr.Instr.{Instr}
use Rattle.ms_task.specs.Control.{exit_ended}
use Rattle.ms_task.specs.Thread.{Activation, Frame, Item, Thread, result_of}
use Rattle.c_types.specs.Types.{Ty, function, Tys, scalar_of}
use Rattle.c_typed.specs.declared.ops.Variable.{Variable}
use Rattle.c_typed.specs.Tree.{Typed}
use Rattle.c_typed.specs.refinement.Expressions.{is_visible}
use Rattle.c_typed.specs.Statements.{no_jumps}
use Rattle.c_typed.specs.Units.{list_of, numbers}
use Rattle.c_meaning.specs.Values.{Value}
use Rattle.c_meaning.specs.World.{World, Held, Result, Does, after, ◌>>=◌, ◌>>◌, pure}
use Rattle.c_meaning.specs.Functions as meaning
use Rattle.c_meaning.specs.Functions.{calls_at, first_locals, given, make_params, numbers_from}
use Rattle.c_meaning.specs.Statements.{Flow, next, broken, continued, returned, leave}
use Rattle.ms_emit.specs.Codes.{Code, Coded, no_code, ◌⨾◌, inner, size_of, total}
use Rattle.c_code.specs.Functions as code
use Rattle.c_code.specs.Functions.{body, params_from, params_in, result, result_in, scratch_locals, slots_from}
use Rattle.c_code.specs.Modules.{index_of}
use Rattle.c_code.specs.Statements as scheme
use Rattle.c_code.specs.Statements.{Exits, at_body, freed, objects_in}
use Rattle.c_code.specs.Uses.{waits_stmt}
use Rattle.ms_relate.specs.refinement.Homes.{Home}
use Rattle.ms_relate.specs.refinement.Relation.{Related}
use Rattle.c_runs.proofs.Goes as goes
use Rattle.c_runs.proofs.Goes.{Site, Mem, Runs, after_after, behind_goes, bind, resize, tells_nothing, weaker}
use Rattle.c_runs.proofs.Held.{words}
use Rattle.c_runs.proofs.Ending.{Differ, Disjoint}
use Rattle.c_runs.proofs.Lasting.{lasts_same}
use Rattle.c_runs.proofs.Related.{AreOf, Env, FiledIn, FiledIn, HasAll, Kept, Now, depth_front, extends_same, frame_of, front, front_append, has_back, has_front, pushes, seeing}
use Rattle.c_runs.proofs.Ops.{at_work, same, size_joined}
use Rattle.c_runs.proofs.Operations.{Linked}
use Rattle.c_runs.proofs.Updates.{code_assoc}
use Rattle.c_runs.proofs.Exprs.{AreScalars, CallsRun}
use Rattle.c_runs.proofs.Flows.{FlowAt, FlowRuns, GoodFlow, Off, to_flow, way}
use Rattle.c_runs.proofs.Scopes.{IsOff, block_behind, with_off}
use Rattle.c_runs.proofs.Stmts.{IsOut, no_off, off_none, stmt_runs, take_zero}
use Rattle.c_runs.proofs.Bodies.{at_top, body_runs}
use Rattle.c_runs.proofs.Entering.{arg_words, callee, first_apart, first_own, firsts}
use Rattle.c_runs.proofs.Params.{AreArgs, SameBut, copies, copies_all, copies_same, first_filled, runs_same, same_after}
use Rattle.c_runs.proofs.Callees.{Compiled, E, Enters, K, Left, begun_with, firsts_held, flow, does, home, kinds, length_temps, locals_as, long, map_append, seen_number, slot_there, slots, slots_data, temps, tg, words_of}

-- ways that differ in what a break or a continue leaves, where none may stand
same_way : (E : Env) (off off' : Off) (c : Code) (x : Does Flow) → off.returned ≡ off'.returned → FlowRuns E (way no_jumps 0 None off) 0 0 c same x → FlowRuns E (way no_jumps 0 None off') 0 0 c same x
same_way E off off' c x e h n has small now le vs r br cr rr caller a dep w m k =
    weaker E.site (size_of (c n)) m (at_work E m w vs (front (c n).instrs r)) w (to_flow E vs r br cr rr caller) (GoodFlow E (way no_jumps 0 None off) now) (GoodFlow E (way no_jumps 0 None off') now) (x w) good
    (h n has small now le vs r br cr rr caller (record { breaks = a.breaks; continues = a.continues; returns = a.returns }) dep w m k)
  where
    good : (f : Flow) (w1 : World) (m1 : Mem) → GoodFlow E (way no_jumps 0 None off) now f w1 m1 → GoodFlow E (way no_jumps 0 None off') now f w1 m1
    good next w1 m1 g = g
    good broken w1 m1 g = absurd (let q = g.0.0 in cc)
    good continued w1 m1 g = absurd (let q = g.0 in cc)
    good (returned v) w1 m1 g = (g.0, subst (λ (js : List ℕ). Rattle.c_runs.proofs.Related.KeptAs E now (Rattle.c_runs.proofs.Held.ending w1.locals js w1.objects) w1 m1) e g.1)

module _ (S : Site) (L : Linked S) (unit : Typed) (i f d : ℕ) (t : Ty) (ps : Tys) (p : Compiled S unit f t ps) where
  abbrev Ec : Env
  Ec = E S L unit i f d t ps p

  abbrev ks : List Ty
  ks = slots S L unit i f d t ps p

  abbrev n_params : ℕ
  n_params = length (list_of ps)

  abbrev ns : List ℕ
  ns = numbers n_params

  abbrev target : Rattle.c_code.specs.Targets.Target
  target = tg S L unit i f d t ps p

  abbrev vs_of : List Variable
  vs_of = objects_in target ks ns

  abbrev P : Code
  P = params_from target 0 (list_of ps)

  abbrev B : Code
  B = scheme.stmt target ks 0 (at_body vs_of) p.stmt_is

  abbrev F : Code
  F = freed target vs_of

  abbrev R : Code
  R = result target (scalar_of t)

  abbrev whole : Code
  whole = P ⨾ (B ⨾ F)

  abbrev pub D : Coded
  D = (whole ⨾ R) 1

  abbrev first_temps : List Word
  first_temps = temps S L unit i f d t ps p

  -- the variables at first: all begin with zeros
  abbrev empty : World → World
  empty w = record w { locals = firsts ks; depth = suc w.depth }

  abbrev now_of : (below : ℕ) → List Home → List Rattle.c_meaning.specs.Objects.Object → Now
  now_of below hs os = record { below = below; waits = 0; temps = first_temps; homes = hs; objects = os; visible = [] }

  module _ (behind : (target.first == 0) ≡ false) where
    code_is : body target p.function_is p.stmt_is ≡ inner D
    code_is =
        let coded : (us : List Ty) → Ty → Coded = λ us r. let vs = objects_in target ks (numbers (length us)) in (code.params target us ⨾ scheme.stmt target ks 0 (at_body vs) p.stmt_is ⨾ freed target vs ⨾ result target (scalar_of r)) 1 in
        ap (λ (ty : Ty). inner (coded (params_in ty) (result_in ty))) p.typed
        ∙ ap (λ (b : Bool). inner (((if b then no_code else P) ⨾ B ⨾ F ⨾ R) 1)) behind
        ∙ ap (λ (c : Code). inner (c 1)) (sym (code_assoc P (B ⨾ F) R ∙ ap (λ (c : Code). P ⨾ c) (code_assoc B F R)))

    has : HasAll S.funcs (index_of unit f) 0 (inner D)
    has = subst (λ (ss : List (List Instr)). HasAll S.funcs (index_of unit f) 0 ss) code_is p.code

    pub copied_fits : size_of D ≤ S.most
    copied_fits = subst (λ (ss : List (List Instr)). total ss ≤ S.most) code_is p.small

    declared_are : (hs : List Home) → map default_of p.inst.locals ≡ words Ec.places (kinds S L unit i f d t ps p) hs (firsts ks) ++ first_temps
    declared_are hs =
        ap (map default_of) p.locals_are
        ∙ ap (λ (b : Bool). map default_of ((if b then drop n_params (slots_from target 0 ks) else slots_from target 0 ks) ++ scratch_locals target (waits_stmt p.stmt_is))) behind
        ∙ map_append default_of (slots_from target 0 ks) (scratch_locals target (waits_stmt p.stmt_is))
        ∙ ap (λ (l : List Word). l ++ first_temps) (words_of target p.stmt_is Ec.places hs 0 ks (locals_as S L unit i f d t ps p))

    module _ (hs : List Home) (us : List Value) (ok : AreOf Ec ps hs us) (args_are : p.args ≡ arg_words Ec hs ps us) where
      frame_is : (vs : List Word) (caller : Frame) (r : List Item) (w : World) (m : Mem) → m.homes ≡ hs → callee Ec hs S.funcs (index_of unit f) p.inst ps us vs caller r p.is_at p.takes ok ≡ frame_of Ec (record m { temps = first_temps }) (empty w)
      frame_is vs caller r w m e =
          ap (λ (ls : List Word). record { function = index_of unit f; locals = arg_words Ec hs ps us ++ ls }) (declared_are hs)
          ∙ ap (λ (front : List Word). record { function = index_of unit f; locals = front ++ (words Ec.places (kinds S L unit i f d t ps p) hs (firsts ks) ++ first_temps) }) (sym args_are)
          ∙ ap (λ (gs : List Home). record { function = index_of unit f; locals = p.args ++ (words Ec.places (kinds S L unit i f d t ps p) gs (firsts ks) ++ first_temps) }) (sym e)

      start_kept : (below : ℕ) (w : World) (m : Mem) → suc w.depth ≡ d → w.fuel < below → AreBytes w.input → Related Ec.unit.structs Ec.places m.homes w.objects m.segments → FiledIn Ec w m
          → Kept Ec (now_of below m.homes w.objects) (empty w) (record m { temps = first_temps })
      start_kept below w m dep lt bytes related file = record {
        held = firsts_held Ec m.homes p.stmt_is 0 ks (λ x s e. (locals_as S L unit i f d t ps p x s e).0);
        deep = dep;
        less = lt;
        bytes = bytes;
        temps = record { long = length_temps S L unit i f d t ps p; stay = λ j l. refl };
        grown = extends_same m.homes;
        related = related;
        open' = λ x s seen at. absurd cc;
        apart = first_apart [] ks;
        own = first_own (length w.objects) [] ks;
        lasts = lasts_same w.objects;
        file = file;
      }

    -- ---- the parameters' block

    within : (x : ℕ) → is_visible ns x ≡ true → x < length ks
    within x e = let a = seen_number n_params x e in let b = long S L unit i f d t ps p in omega (arith, a, b)

    apart : Disjoint [] ns
    apart x e = absurd cc

    abbrev off_body : Off
    off_body = record { broken = []; continued = []; returned = ns ++ [] }

    module _ (differ : Differ ns) where
      off_is : IsOff Ec ns (ns ++ [])
      off_is = subst (IsOff Ec ns) (sym (append-nil ns)) (record { differ = differ; among = λ x e. (within x e, e) })

      out : IsOut Ec ns 0 None (at_body vs_of) off_body
      out = record {
        objects = ap (objects_in target ks) (sym (append-nil ns));
        by_break = take_zero vs_of;
        by_continue = take_zero vs_of;
        leaving = refl;
        around = λ q e. absurd cc;
        returned' = off_is;
        broken' = off_none Ec ns;
        continued' = off_none Ec ns;
      }

      module _ (callees_run : CallsRun Ec L (home S L unit i f d t ps p) (K S L unit i f d t ps p) refl)
          (ints : (g : ℕ) (s : Ty) (qs : Tys) → slice_get (K S L unit i f d t ps p).functions g ≡ Some (function s qs) → AreScalars Ec L (home S L unit i f d t ps p) (K S L unit i f d t ps p) refl qs) where
        abbrev Ein : Env
        Ein = seeing ns Ec

        abbrev flow_is : Does Flow
        flow_is = flow S L unit i f d t ps p

        abbrev leaves : Does (Unit {0})
        leaves = leave unit (calls_at unit i) (suc i) (kinds S L unit i f d t ps p) ns

        abbrev block_of : Does Flow
        block_of = flow_is >>= (λ g. leaves >> pure g)

        stmt_flow : FlowRuns Ein (way no_jumps 0 None (with_off ns no_off)) 0 0 B same flow_is
        stmt_flow =
            same_way Ein off_body (with_off ns no_off) B flow_is refl
            (stmt_runs Ec L (home S L unit i f d t ps p) (K S L unit i f d t ps p) refl callees_run ints (slots_data S L unit i f d t ps p) refl refl p.sound p.names (slot_there ks) (omega arith) ns 0 None (at_body vs_of) no_jumps off_body p.stmt_is out (omega arith) p.ready p.well)

        module _ (hs : List Home) (us : List Value) (args : AreArgs Ec hs 0 ps us) (numbered : numbers_from 0 us ≡ ns) where
          abbrev copy : Does (Unit {0})
          copy = copies unit (kinds S L unit i f d t ps p) 0 us

          arrives : (now : Now) → Rattle.c_runs.proofs.Related.Starts Ec hs now → FlowAt Ec at_top now 0 0 whole same (copy >> block_of)
          arrives now st n has' small le vs r br cr rr caller a dep w m k =
              let cp = P n in
              let n' = n + length cp.seqs in
              let cb = (B ⨾ F) n' in
              let to = to_flow Ec vs r br cr rr caller in
              let rest = front cb.instrs r in
              let sizes = size_joined cp cb in
              let n2 = n' in
              let sizes' = size_joined (B n2) (F (n2 + length (B n2).seqs)) in
              let opened = record now { visible = now.visible ++ ns } in
              subst (λ (s : ℕ). Runs S s m (at_work Ec m w vs (front (cp.instrs ++ cb.instrs) r)) w to (GoodFlow Ec at_top now) (after (copy w) (λ u. block_of))) sizes
              (subst (λ (q : List Item). Runs S (size_of cp + size_of cb) m (at_work Ec m w vs q) w to (GoodFlow Ec at_top now) (after (copy w) (λ u. block_of))) (sym (front_append cp.instrs cb.instrs r))
              (bind S (size_of cp) (size_of cb) m (at_work Ec m w vs (front cp.instrs rest)) w (λ u w1 m1. at_work Ec m1 w1 vs rest) (λ u w1 m1. Kept Ec opened w1 m1) to (GoodFlow Ec at_top now) (copy w) (λ u. block_of)
              (subst (λ (js : List ℕ). Runs S (size_of cp) m (at_work Ec m w vs (front cp.instrs rest)) w (λ u w1 m1. at_work Ec m1 w1 vs rest) (λ u w1 m1. Kept Ec (record now { visible = now.visible ++ js }) w1 m1) (copy w)) numbered
              (copies_all Ec hs 0 ps us args n (has_front S.funcs Ec.fn n cp.seqs cb.seqs has') now st vs rest (depth_front cb.instrs r ∙ dep) w m k))
              (λ u w1 m1 g.
              block_behind Ec ns differ within apart at_top 0 0 B flow_is n' (has_back S.funcs Ec.fn n cp.seqs cb.seqs has') now le vs r br cr rr caller a dep w1 m1
              (λ R' a' dep' has2.
              stmt_flow n' has2 (omega (arith, sizes, sizes', small)) opened (record { below = le.below; waits = le.waits; seen = ap (λ (js : List ℕ). js ++ ns) le.seen }) vs R' br cr rr caller
              (record { breaks = a'.breaks; continues = a'.continues; returns = a'.returns }) dep' w1 m1 g))))

          abbrev copied : Does Value
          copied = (copy >> block_of) >>= (λ g. pure (given t g))

          same_does : (w : World) → length us ≤ length ks → SameBut (copied (empty w)) (does S L unit i f d t ps p us (begun_with S L unit i f d t ps p us w))
          same_does w le =
              let rest : Unit {0} → World → Result Value = λ u. flow_is >>= (λ g. leave unit (calls_at unit i) (suc i) (kinds S L unit i f d t ps p) (numbers_from 0 us) >> pure (given (meaning.result_of p.function_is.ty) g)) in
              let x : Result (Unit {0}) = copy (empty w) in
              let y : World → Result (Unit {0}) = make_params unit (kinds S L unit i f d t ps p) 0 us in
              let left : after x rest ≡ copied (empty w) = sym (
              after_after x (λ u. block_of) (λ g. pure (given t g))
              ∙ ap (λ (h : Unit {0} → World → Result Value). after x h) (λ j u w1. (after_after (flow_is w1) (λ g. leaves >> pure g) (λ g. pure (given t g)) ∙ ap (λ (h : Flow → World → Result Value). after (flow_is w1) h) (λ j' g w2. after_after (leaves w2) (λ q. pure g) (λ g'. pure (given t g')) j')) j)
              ∙ ap (λ (js : List ℕ). after x (λ u. flow_is >>= (λ g. leave unit (calls_at unit i) (suc i) (kinds S L unit i f d t ps p) js >> pure (given t g)))) (sym numbered)
              ∙ ap (λ (ty : Ty). after x (λ u. flow_is >>= (λ g. leave unit (calls_at unit i) (suc i) (kinds S L unit i f d t ps p) (numbers_from 0 us) >> pure (given (meaning.result_of ty) g)))) (sym p.typed)) in
              subst (λ (z : Result Value). SameBut z (does S L unit i f d t ps p us (begun_with S L unit i f d t ps p us w))) left
              (same_after x (y (begun_with S L unit i f d t ps p us w)) rest
              (subst (λ (ls : List Held). SameBut x (y (record (empty w) { locals = ls }))) (sym (first_filled p.function_is us le)) (copies_same unit (kinds S L unit i f d t ps p) 0 us (empty w))))

          -- ---- from the start of the call to the caller

          pub copied_enters : (ok : AreOf Ec ps hs us) (args_are : p.args ≡ arg_words Ec hs ps us) → length us ≤ length ks → Enters S L unit i f d t ps p hs us ok (size_of D)
          copied_enters ok args_are le' caller vs r dep below le w m e deeper lt bytes related file =
              let m' : Mem = record m { temps = first_temps } in
              let ws = empty w in
              let now = now_of below m.homes w.objects in
              let marked = Activation (result_of p.inst) (length vs) caller ∷ r in
              let ts = at_work Ec m' ws vs (front D.instrs marked) in
              let to = λ (v : Value) (w1 : World) (m1 : Mem). exit_ended caller (pushes Ec t m1.homes v vs) r in
              let good = Left S L unit i f d t ps p now in
              let goal = does S L unit i f d t ps p us (begun_with S L unit i f d t ps p us w) in
              let grown = subst (λ (gs : List Home). Rattle.ms_relate.proofs.Growing.Extends hs gs) (sym e) (extends_same hs) in
              subst (λ (t1 : Thread). Runs S (size_of D) m t1 w to good goal)
              (sym (ap (λ (is : List Instr). exit_ended (callee Ec hs S.funcs (index_of unit f) p.inst ps us vs caller r p.is_at p.takes ok) vs (front is marked)) has.0
              ∙ ap (λ (fr' : Frame). exit_ended fr' vs (front D.instrs marked)) (frame_is hs us ok args_are vs caller r w m e)))
              (runs_same S (size_of D) m ts w to good (copied ws) goal (same_does w le')
              (resize S (0 + size_of D) (size_of D) m ts w to good (copied ws) (omega arith)
              (behind_goes S 0 (size_of D) w ws m m' ts ts to good (copied ws)
              (goes.shifts S w ws m first_temps ts refl refl (tells_nothing w ws refl refl refl))
              (subst (λ (o : Option ValType). Runs S (size_of D) m' (at_work Ec m' ws vs (front D.instrs (Activation o (length vs) caller ∷ r))) ws to good (copied ws)) (sym p.gives_one)
              (body_runs Ec p.result caller vs r dep whole (copy >> block_of) now (arrives now (record { below = le; grown = grown; seen = λ x s. absurd cc; few = omega arith })) 1 has.1 copied_fits (record { below = le; waits = refl; seen = refl }) ws m'
              (start_kept hs us ok args_are below w m deeper lt bytes related file))))))
