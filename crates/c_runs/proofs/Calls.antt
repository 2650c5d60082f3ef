-- Calls of defined functions do what is meant, by induction on the bound that stands above the fuel.
use Rattle.std.proofs.Common.{◌≡◌, ℕ, zero, suc, ◌+◌, ◌<◌, ◌≤◌, List, [], ◌∷◌, ◌++◌, length, map, Bool, true, false, Option, Some, refl, sym, ap, ◌∙◌, arith, subst}
use Rattle.std.specs.Prelude.{slice_get, ◌==◌, ◌||◌, nat_lt, if◌then◌else◌}
use Rattle.std.specs.List.{list_any}
use Rattle.std.proofs.lemmas.Bool.{ltb-true, ltb-false}
use Rattle.ms_linear.specs.declared.value.Value.{Value as Word}
use Rattle.ms_host.specs.declared.host.Host.{Host}
use Rattle.ms_host.specs.declared.trap.TrapKind.TheVariants as traps
use Rattle.ms_machine.specs.Running.{AreBytes}
use Rattle.ms_machine.specs.Step as step
use Rattle.ms_machine.specs.Step.{act, called, host_in}
use Rattle.ms_module.specs.declared.instr.Instr.{Instr}
use Rattle.ms_task.specs.Control.{call_on, deepest, exit_ended}
use Rattle.ms_task.specs.declared.func.FuncInst.{FuncInst}
use Rattle.ms_task.specs.Thread.{Activation, Do, Item, Thread, thread, depth_of, result_of, sequence}
use Rattle.c_types.specs.Types.{Ty, function, Tys, no_types, types}
use Rattle.c_typed.specs.declared.ops.Variable.TheVariants.{Local}
use Rattle.c_typed.specs.Objects.{is_object}
use Rattle.c_typed.specs.Tree.{Stmt, Function, Typed}
use Rattle.c_typed.specs.Units.{list_of, numbers}
use Rattle.c_meaning.specs.Values.{Value}
use Rattle.c_meaning.specs.World.{deep, Held, World, Result, gives, ends, Does, after, ◌>>◌, spend}
use Rattle.c_meaning.specs.Functions as meaning
use Rattle.c_meaning.specs.Functions.{back_to, calls_at, if_shallow, numbers_from, of_defined, with_body}
use Rattle.c_code.specs.Functions.{params_in}
use Rattle.c_code.specs.Modules.{index_of, target_of}
use Rattle.c_code.specs.Targets.{Target}
use Rattle.c_runs.proofs.Goes as goes
use Rattle.c_runs.proofs.Goes.{Site, Mem, Runs, Goes, spent, tells_nothing, trapped, unspent}
use Rattle.ms_relate.specs.refinement.Homes.{Home}
use Rattle.ms_relate.specs.refinement.Relation.{Related}
use Rattle.ms_relate.proofs.Growing.{Extends}
use Rattle.c_runs.proofs.Held.{AreApart, AreHeld, AreOpen, AreOwn, Lasts, held_still, words, words_still}
use Rattle.c_runs.proofs.Lasting.{lasts_trans, open_on}
use Rattle.c_runs.proofs.Related.{AreOf, Env, FiledIn, IsValue, Kept, Now, are_still, extends_trans, frame_of, front, piled, piled_still, pushes}
use Rattle.c_runs.proofs.Ops.{GoodIn, ToIn, at_work, Stack}
use Rattle.c_runs.proofs.Operations.{Linked, Reaches}
use Rattle.c_runs.proofs.Exprs.{AreScalars, CallsRun}
use Rattle.c_runs.proofs.Scalars.{AreData, data_scalar}
use Rattle.c_runs.proofs.Stmts.{neither}
use Rattle.c_runs.proofs.Entering.{arg_words, callee, deep_call, length_us, shallow_call}
use Rattle.c_runs.proofs.Ready.{IsCallable}
use Rattle.c_runs.proofs.Callees.{Compiled, get_within, E, Enters, K, begun_with, does, flat_enters, flat_fits, flat_of, home, in_front, long, object_is, slots, tg}
use Rattle.c_runs.proofs.Entering.{length_args}
use Rattle.c_runs.proofs.Copied.{copied_enters, copied_fits}
use Rattle.c_runs.proofs.Params.{AreScalarsOf, args_from, numbers_are, numbers_differ}
use Rattle.c_runs.proofs.Ending.{Differ}

-- ---- parameters that are objects

none_both : (P : ℕ → Bool) (xs : List ℕ) (k : ℕ) → list_any P (xs ++ k ∷ []) ≡ false → (list_any P xs ≡ false) × (P k ≡ false)
none_both P [] k e = (refl, (neither (P k) false e).0)
none_both P (y ∷ xs) k e =
    let q = neither (P y) (list_any P (xs ++ k ∷ [])) e in let r = none_both P xs k q.1 in (ap (λ (b : Bool). b || list_any P xs) q.0 ∙ r.0, r.1)

none_at : (P : ℕ → Bool) (k x : ℕ) → list_any P (numbers k) ≡ false → x < k → P x ≡ false
none_at P zero x e lt = absurd (omega (arith, lt))
none_at P (suc k) x e lt = by (nat_lt x k) refl (none_both P (numbers k) k e) (none_at P k x) where
  by : (b : Bool) → nat_lt x k ≡ b → (list_any P (numbers k) ≡ false) × (P k ≡ false) → (list_any P (numbers k) ≡ false → x < k → P x ≡ false) → P x ≡ false
  by true q r rest = rest r.0 (ltb-true x k q)
  by false q r rest = let le = ltb-false x k q in let same : x ≡ k = omega (arith, le, lt) in ap P same ∙ r.1

some_numbers : (P : ℕ → Bool) (k : ℕ) → list_any P (numbers k) ≡ true → (k == 0) ≡ false
some_numbers P zero e = absurd cc
some_numbers P (suc k) e = grind arith

all_scalars : (E : Env) (hs : List Home) (ps : Tys) → AreData ps → AreScalarsOf E hs ps
all_scalars E hs no_types e = tt
all_scalars E hs (types t ts) e = (data_scalar t e.0, all_scalars E hs ts e.1)

-- with these arguments in front
abbrev at_args : {S : Site} {unit : Typed} {f : ℕ} {t : Ty} {ps : Tys} (p : Compiled S unit f t ps) (front : List Word) → (target_of unit p.function_is p.stmt_is).first ≡ length front → Compiled S unit f t ps
at_args p front e = record {
  inst = p.inst;
  is_at = p.is_at;
  no_host = p.no_host;
  at_home = p.at_home;
  takes = p.takes;
  gives_one = p.gives_one;
  function_is = p.function_is;
  named = p.named;
  typed = p.typed;
  stmt_is = p.stmt_is;
  has_body = p.has_body;
  locals_are = p.locals_are;
  code = p.code;
  small = p.small;
  others = p.others;
  begins = p.begins;
  well = p.well;
  slots_are = p.slots_are;
  ready = p.ready;
  result = p.result;
  table = p.table;
  sizes = p.sizes;
  sound = p.sound;
  names = p.names;
  laid_out = p.laid_out;
  has_members = p.has_members;
  args = front;
  first_is = e;
}

-- ---- all calls, by the bound

module _ (S : Site) (L : Linked S) (unit : Typed) (all : (f : ℕ) (t : Ty) (ps : Tys) → slice_get (map (λ (g : Function). g.ty) unit.functions) f ≡ Some (function t ps) → IsCallable unit f → Compiled S unit f t ps)
    (par_ints : (f : ℕ) (t : Ty) (ps : Tys) → slice_get (map (λ (g : Function). g.ty) unit.functions) f ≡ Some (function t ps) → AreData ps) where
  module _ (i f d : ℕ) (t : Ty) (ps : Tys) (p : Compiled S unit f t ps) where
    are_ints : (qs : Tys) → AreData qs → AreScalars (E S L unit i f d t ps p) L (home S L unit i f d t ps p) (K S L unit i f d t ps p) refl qs
    are_ints no_types e = tt
    are_ints (types q qs) e = (data_scalar q e.0, are_ints qs e.1)

    pub ints_of : (g : ℕ) (s : Ty) (qs : Tys) → slice_get (map (λ (h : Function). h.ty) unit.functions) g ≡ Some (function s qs) → AreScalars (E S L unit i f d t ps p) L (home S L unit i f d t ps p) (K S L unit i f d t ps p) refl qs
    ints_of g s qs e = are_ints qs (par_ints g s qs e)

    abbrev pub Callees : Type 0
    Callees = CallsRun (E S L unit i f d t ps p) L (home S L unit i f d t ps p) (K S L unit i f d t ps p) refl

  -- a call that is entered, from its start to the caller
  module _ (i f d : ℕ) (t : Ty) (ps : Tys) (p : Compiled S unit f t ps) (callees : (q : Compiled S unit f t ps) → Callees i f d t ps q) (data_are : AreData ps) (hs : List Home) (us : List Value) (ok : AreOf (E S L unit i f d t ps p) ps hs us) where
    abbrev target : Target
    target = tg S L unit i f d t ps p

    abbrev n_params : ℕ
    n_params = length (list_of ps)

    abbrev is_param_object : ℕ → Bool
    is_param_object x = target.is_object (Local x)

    as_many : length (params_in p.function_is.ty) ≡ n_params
    as_many = ap (λ (ty : Ty). length (params_in ty)) p.typed

    abbrev first_of : Bool → ℕ
    first_of b = if b then length (params_in p.function_is.ty) else 0

    abbrev pub Entered : Type 0
    Entered = (size : ℕ) × (size ≤ S.most) × Enters S L unit i f d t ps p hs us ok size

    by_kind : (b : Bool) → list_any is_param_object (numbers (length (params_in p.function_is.ty))) ≡ b → Entered
    by_kind false q =
        let first_zero : target.first ≡ 0 = ap first_of q in
        let p' = at_args p [] first_zero in
        let none = flat_of p.stmt_is n_params 0 (slots S L unit i f d t ps p)
        (λ x s e lt. let z : 0 + x ≡ x = omega arith in subst (λ (n : ℕ). is_object p.stmt_is n s ≡ false) (sym z) (sym (object_is S L unit i f d t ps p x s e) ∙ none_at is_param_object n_params x (ap (λ (n : ℕ). list_any is_param_object (numbers n)) (sym as_many) ∙ q) (omega (arith, lt)))) in (
          _,
          flat_fits S L unit i f d t ps p' refl none (callees p') (ints_of i f d t ps p'),
          flat_enters S L unit i f d t ps p' refl none (callees p') (ints_of i f d t ps p') hs us ok,
        )
    by_kind true q =
        let args = arg_words (E S L unit i f d t ps p) hs ps us in
        let first_is : target.first ≡ length args = ap first_of q ∙ as_many ∙ sym (length_args (E S L unit i f d t ps p) hs ps us ok) in
        let p' = at_args p args first_is in
        let behind : (target.first == 0) ≡ false = ap (λ (b : Bool). first_of b == 0) q ∙ some_numbers is_param_object (length (params_in p.function_is.ty)) q in
        let count = length_us (E S L unit i f d t ps p) hs ps us ok in
        let numbered : numbers_from 0 us ≡ numbers n_params = numbers_are us ∙ ap numbers count in
        let given_args = args_from (E S L unit i f d t ps p') hs [] 0 ps us p.others refl refl (λ x s e. let z : x ≡ 0 + x = omega arith in ap (slice_get (slots S L unit i f d t ps p)) (sym z) ∙ in_front S L unit i f d t ps p x s e) ok (all_scalars (E S L unit i f d t ps p') hs ps data_are) in
        let differ = subst Differ numbered (numbers_differ 0 us) in
        let l = long S L unit i f d t ps p in (
          _,
          copied_fits S L unit i f d t ps p' behind,
          copied_enters S L unit i f d t ps p' behind differ (callees p') (ints_of i f d t ps p') hs us given_args numbered ok refl (omega (arith, count, l)),
        )

    pub enters : Entered
    enters = by_kind (list_any is_param_object (numbers (length (params_in p.function_is.ty)))) refl

  -- one call, where those of its body do what is meant
  module _ (i f0 d : ℕ) (t0 : Ty) (ps0 : Tys) (p0 : Compiled S unit f0 t0 ps0) (f : ℕ) (t : Ty) (ps : Tys) (p : Compiled S unit f t ps) (instr : Instr) (above : Stack) (reach : Reaches (E S L unit (suc i) f0 d t0 ps0 p0) instr above (index_of unit f)) (hs : List Home) (us : List Value) (ok : AreOf (E S L unit (suc i) f0 d t0 ps0 p0) ps hs us) (callees : (q : Compiled S unit f t ps) → Callees i f (suc d) t ps q) (data_are : AreData ps)
      (now : Now) (le : now.below ≤ suc i) (vs : List Word) (r : List Item) (dep : depth_of r ≡ d) (w : World) (m : Mem) (more : Extends hs m.homes) (k : Kept (E S L unit (suc i) f0 d t0 ps0 p0) now w m) where
    abbrev C : Env
    C = E S L unit (suc i) f0 d t0 ps0 p0

    abbrev Ee : Env
    Ee = E S L unit i f (suc d) t ps p

    abbrev Goal : ℕ → World → Result Value → Type 0
    Goal size w' x = Runs S size m (thread (frame_of C m w) (above (piled C ps hs us vs)) (Do instr ∷ r)) w' (ToIn C (pushes C t) vs r) (GoodIn C (IsValue C t) now) x

    call_moves : act (goes.store S m) instr (thread (frame_of C m w) (above (piled C ps hs us vs)) r) ≡ step.moved (goes.store S m) (call_on S.funcs (index_of unit f) (thread (frame_of C m w) (piled C ps hs us vs) r))
    call_moves =
        reach (get_within S.funcs (index_of unit f) p.inst p.is_at) m w (piled C ps hs us vs) r
        ∙ ap (λ (o : Option FuncInst). called (goes.store S m) (index_of unit f) (thread (frame_of C m w) (piled C ps hs us vs) r) (host_in o)) p.is_at
        ∙ ap (λ (h : Option Host). called (goes.store S m) (index_of unit f) (thread (frame_of C m w) (piled C ps hs us vs) r) h) p.no_host

    -- what the callee leaves
    abbrev Back : ℕ → Value → World → Mem → Type 0
    Back below v w1 m1 = IsValue C t m1.homes v × (w1.fuel < below) × AreBytes w1.input × Extends m.homes m1.homes × Related C.unit.structs C.places m1.homes w1.objects m1.segments × Lasts w.objects w1.objects × FiledIn C w1 m1

    -- back at the caller, whose variables and depth are as before
    back_runs : (size below : ℕ) (m' : Mem) (ts : Thread) (ws wn : World) → below ≤ now.below → wn.locals ≡ w.locals → wn.depth ≡ w.depth → (x : Result Value)
        → Runs S size m' ts ws (λ v w1 m1. exit_ended (frame_of C m w) (pushes C t m1.homes v vs) r) (Back below) x
        → Runs S size m' ts ws (ToIn C (pushes C t) vs r) (GoodIn C (IsValue C t) now) (back_to wn x)
    back_runs size below m' ts ws wn small el ed (ends e' w1) h = h
    back_runs size below m' ts ws wn small el ed (gives v w1) h = λ ag.
        let q = h ag in
        let w2 : World = record w1 { locals = wn.locals; depth = wn.depth } in
        let m1 : Mem = q.0 in
        let m2 : Mem = record m1 { temps = m.temps } in
        let left = q.1 in
        let top = pushes C t m1.homes v vs in
        let there : exit_ended (frame_of C m w) top r ≡ at_work C m2 w2 top r =
        ap (λ (ws' : List Word). exit_ended (record { function = C.fn; locals = C.args ++ (ws' ++ m.temps) }) top r) (sym (words_still C.unit.structs C.places m.homes m1.homes left.3 C.kinds w.locals k.held))
        ∙ ap (λ (ls : List Held). exit_ended (record { function = C.fn; locals = C.args ++ (words C.places C.kinds m1.homes ls ++ m.temps) }) top r) (sym el) in
        let none_more : size + 0 ≤ size = omega arith in (
          m2,
          (
            left.0,
            record {
              held = subst (λ (ls : List Held). AreHeld C.unit.structs C.places C.kinds m1.homes ls) (sym el) (held_still C.unit.structs C.places m.homes m1.homes left.3 C.kinds w.locals k.held);
              deep = ed ∙ k.deep;
              less = (let lt = left.1 in omega (arith, lt, small));
              bytes = left.2;
              temps = k.temps;
              grown = extends_trans now.homes m.homes m1.homes k.grown left.3;
              related = left.4;
              open' = subst (λ (ls : List Held). AreOpen C.kinds now.visible w1.objects ls) (sym el) (open_on C.kinds now.visible w.objects w1.objects w.locals left.5 k.open');
              apart = subst AreApart (sym el) k.apart;
              own = subst (AreOwn (length now.objects)) (sym el) k.own;
              lasts = lasts_trans now.objects w.objects w1.objects k.lasts left.5;
              file = left.6;
            },
          ),
          goes.sized S (size + 0) size ws w2 m' m2 ts (at_work C m2 w2 top r) none_more
              (goes.goes_on S size 0 ws w1 w2 m' m1 m2 ts (exit_ended (frame_of C m w) top r) (at_work C m2 w2 top r) q.2
              (subst (λ (t1 : Thread). Goes S 0 w1 w2 m1 (exit_ended (frame_of C m w) top r) m2 t1) there
              (goes.shifts S w1 w2 m1 m.temps (exit_ended (frame_of C m w) top r) refl refl (tells_nothing w1 w2 refl refl refl)))),
        )

    abbrev body_of : Does Value
    body_of = meaning.called unit (calls_at unit i) (suc i) us p.function_is p.stmt_is

    ok' : AreOf C ps m.homes us
    ok' = are_still C hs m.homes more ps us ok

    piled_same : piled C ps hs us vs ≡ piled C ps m.homes us vs
    piled_same = sym (piled_still C hs m.homes more ps us vs ok)

    by_fuel : depth_of r < deepest → (q : ℕ) → Kept C now (record w { fuel = q }) m → Goal 1 (record w { fuel = q }) (after (spend (record w { fuel = q })) (λ u. body_of))
    by_fuel lt zero k' = λ ag. unspent S 1 (record w { fuel = 0 }) m instr (frame_of C m w) (above (piled C ps hs us vs)) r refl
    by_fuel lt (suc q) k' =
        let fr = frame_of C m w in
        let wn : World = record w { fuel = q } in
        let en = enters i f (suc d) t ps p callees data_are m.homes us ok' in
        let size = en.0 in
        let small = en.1 in
        let marked = Activation (result_of p.inst) (length vs) fr ∷ r in
        let less = k'.less in
        let started = thread (callee C m.homes S.funcs (index_of unit f) p.inst ps us vs fr r p.is_at p.takes ok') vs (front (sequence S.funcs (index_of unit f) 0) marked) in
        spent S 1 size q (record w { fuel = suc q }) m instr fr (above (piled C ps hs us vs)) r started (ToIn C (pushes C t) vs r) (GoodIn C (IsValue C t) now) _
        (call_moves ∙ ap (λ (us' : List Word). step.moved (goes.store S m) (call_on S.funcs (index_of unit f) (thread fr us' r))) piled_same ∙ ap (step.moved (goes.store S m)) (shallow_call C m.homes S.funcs (index_of unit f) p.inst ps us vs fr r p.is_at p.takes ok' lt)) refl (omega (arith, small))
        (back_runs size (suc q) m (exit_ended (callee C m.homes S.funcs (index_of unit f) p.inst ps us vs fr r p.is_at p.takes ok') vs (front (sequence S.funcs (index_of unit f) 0) marked)) wn wn (omega (arith, less)) refl refl (does S L unit i f (suc d) t ps p us (begun_with S L unit i f (suc d) t ps p us wn))
        (en.2 fr vs r (ap suc dep) (suc q) (omega (arith, less, le)) wn m refl (ap suc k'.deep) (omega arith) k'.bytes k'.related k'.file))

    by_depth : (b : Bool) → nat_lt w.depth deepest ≡ b → Goal 1 w (if b then (spend >> body_of) w else ends deep w)
    by_depth true e' = by_fuel (let a = ltb-true _ _ e' in let b = k.deep in omega (arith, a, dep, b)) w.fuel k
    by_depth false e' =
        let ge = ltb-false w.depth deepest e' in
        let deep_is = k.deep in
        λ ag. trapped S w m instr (frame_of C m w) (above (piled C ps hs us vs)) r traps.Depth deep
        (call_moves ∙ ap (λ (us' : List Word). step.moved (goes.store S m) (call_on S.funcs (index_of unit f) (thread (frame_of C m w) us' r))) piled_same ∙ ap (step.moved (goes.store S m)) (deep_call C m.homes S.funcs (index_of unit f) p.inst ps us vs (frame_of C m w) r p.is_at p.takes ok' (omega (arith, ge, dep, deep_is)))) tt refl tt

    pub call_runs : Goal 1 w (calls_at unit (suc i) f us w)
    call_runs =
        let go : Function → Stmt → Does Value = λ g b. if_shallow (spend >> meaning.called unit (calls_at unit i) (suc i) us g b) in
        subst (λ (x : Result Value). Goal 1 w x) (sym (ap (λ (o : Option Function). of_defined unit o go w) p.named ∙ ap (λ (b : Option Stmt). with_body unit p.function_is b go w) p.has_body)) (by_depth (nat_lt w.depth deepest) refl)

  pub calls_run : (i f d : ℕ) (t : Ty) (ps : Tys) (p : Compiled S unit f t ps) → Callees i f d t ps p
  calls_run zero f0 d t0 ps0 p0 may q f t ps e b instr above reach hs us ok n has now le vs r dep w m k = absurd (let lt = k.less in let under = le.below in omega (arith, lt, under))
  calls_run (suc i) f0 d t0 ps0 p0 may q f t ps e b instr above reach hs us ok n has now le vs r dep w m k =
      let p = all f t ps e b in call_runs i f0 d t0 ps0 p0 f t ps p instr above reach hs us ok (λ q. calls_run i f (suc d) t ps q) (par_ints f t ps e) now le.below vs r dep w m (extends_trans hs now.homes m.homes le.grown k.grown) k
