-- Before `main`: the objects of variables at file scope and of string literals are made, in the order of their tokens. One that is
-- refused ends the program.
use Rattle.std.proofs.Common.{◌≡◌, ◌≢◌, ℕ, suc, ◌+◌, ◌*◌, ◌^◌, ◌<◌, ◌≤◌, List, [], ◌∷◌, ◌++◌, length, append-nil, append_assoc, Bool, true, false, Option, Some, None, refl, sym, ap, ◌∙◌, arith, subst}
use Rattle.std.specs.Prelude.{pos, cond, get_or, slice_get, slice_set}
use Rattle.std.proofs.lemmas.Option.{slice_get_within}
use Rattle.ms_handle.specs.declared.handle.Handle.{Handle as HandleOf}
use Rattle.ms_handle.specs.declared.handle.Handle.TheVariants as handles
use Rattle.ms_handle.specs.declared.handle.Kind.TheVariants as kinds
use Rattle.ms_host.specs.declared.trap.TrapKind.TheVariants as traps
use Rattle.ms_linear.specs.declared.global.GlobalInst.{GlobalInst}
use Rattle.ms_linear.specs.declared.value.Value.{Value as Word}
use Rattle.ms_linear.specs.declared.value.Value.TheVariants.{I32, Handle}
use Rattle.ms_machine.specs.Segments.{is_null}
use Rattle.ms_machine.specs.Step as step
use Rattle.ms_module.specs.declared.access.Segment.TheVariants as segment
use Rattle.ms_module.specs.declared.instr.Instr.{Instr}
use Rattle.ms_module.specs.declared.instr.Instr.TheVariants.{GlobalGet, GlobalSet, If, Segment, Unreachable}
use Rattle.ms_module.specs.declared.numeric.Width.TheVariants.{W32}
use Rattle.ms_num.specs.Integers.{truth, wrapped}
use Rattle.ms_task.specs.Thread.{Do, Frame, Item, Label, Thread, thread, sequence}
use Rattle.c_types.specs.declared.integers.IntType.TheVariants.{Char}
use Rattle.c_types.specs.Layout.{size as type_size}
use Rattle.c_types.specs.Types.{Ty, void, integer, array}
use Rattle.c_typed.specs.declared.ops.Variable.TheVariants.{Global}
use Rattle.c_typed.specs.Tree as tree
use Rattle.c_typed.specs.Tree.{Made as IsMade, Stmt, Typed}
use Rattle.c_typed.specs.Units.{IsWellTyped, literals_in, variables_in}
use Rattle.c_meaning.specs.Shapes.{Shape, shape, size}
use Rattle.c_meaning.specs.Objects.{frame, to_object}
use Rattle.c_meaning.specs.World.{exhausted, ungranted, Held, object, World, Result, gives, ends, Does, after, ◌>>=◌, pure, known}
use Rattle.c_meaning.specs.Accesses.{hold, make_frame}
use Rattle.c_meaning.specs.Units.{is_global_object, make_each, make_global, no_calls, remember, string}
use Rattle.ms_emit.specs.Codes.{Code, no_code, ◌⨾◌, size_of}
use Rattle.c_code.specs.Functions.{makes, start}
use Rattle.c_code.specs.Modules.{start_target, waits_made}
use Rattle.c_code.specs.Operations.{i32}
use Rattle.c_code.specs.Statements.{made}
use Rattle.c_code.specs.Targets.{Target}
use Rattle.c_numbers.proofs.Conversions.{constant_is}
use Rattle.ms_relate.specs.refinement.Homes.{handle}
use Rattle.ms_relate.proofs.Ending.{name_handle}
use Rattle.c_runs.specs.Placed.{start_index}
use Rattle.c_runs.proofs.Goes as goes
use Rattle.c_runs.proofs.Goes.{Goes, Mem, Runs, RunsTo, Site, Stops, Tells, agrees_after, bind, goes_on, here, one_here, resize_to, sized, stops_behind, tells_nothing, trapped}
use Rattle.c_runs.proofs.Held.{IsObjectAt, set_there}
use Rattle.c_runs.proofs.Entries.{IsTable, places_of}
use Rattle.c_runs.proofs.Files.{Filed, Reached, filed_named, filed_object, filed_text, global_of}
use Rattle.c_runs.proofs.Related.{Env, HasAll, IsSlot, Kept, Now, front, front_append, frame_of, has_back, has_front}
use Rattle.c_runs.proofs.Ops.{at_work, carried_is, size_joined}
use Rattle.c_runs.proofs.Operations.{AtHome, Linked}
use Rattle.c_runs.proofs.Makes.{get_is, once, wrapped_small}
use Rattle.c_runs.proofs.Creating.{Made, NewGoes, granted, made_world, new_goes, refused', refused_world, unasked}
use Rattle.c_runs.proofs.Globals.{file_slots, get_global, set_global}
use Rattle.c_runs.proofs.Filing.{file_kind, files_long}

-- what a store has of the start function
pub record HasStart (S : Site) (u : Typed) : Type 0 where
  pub at_home : Rattle.ms_machine.specs.Store.number_of_instance (slice_get S.funcs (start_index u)) ≡ Some 0
  pub code : HasAll S.funcs (start_index u) 0 (start (start_target u) u.globals u.made)
  pub room : S.shared ≡ length u.globals + literals_in u.made
  pub table : IsTable S u

pub not_empty : (ts : List Ty) → 0 < length ts → ts ≢ []
not_empty [] lt e = absurd (omega (arith, lt))
not_empty (t ∷ ts) lt e = absurd cc

pub none_there : {A B : Type 0} (x : ℕ) (a : A) → slice_get [] x ≡ Some a → B
none_there x a e = absurd cc

-- each variable has a type with a size, and each string is counted by an i32
abbrev pub AreMade : Typed → List IsMade → Type 0
AreMade u [] = Unit {0}
AreMade u (tree.global n ss ∷ ms) = ((t : Ty) × (slice_get u.globals n ≡ Some t) × IsSlot u.structs t) × AreMade u ms
AreMade u (tree.text bytes ∷ ms) = (length bytes < 4294967295) × AreMade u ms

module _ (S : Site) (L : Linked S) (u : Typed) (well : IsWellTyped u) (bound : ℕ) (p : HasStart S u) where
  abbrev pub tg : Target
  tg = start_target u

  -- the start function, where so much is made
  abbrev pub Es : Reached → Env
  Es q = record {
    site = S;
    unit = u;
    places = places_of u;
    places_are = refl;
    table = p.table;
    target = tg;
    structs_are = refl;
    entries_are = refl;
    indices_are = refl;
    sigs_are = refl;
    laid_out = well.laid_out;
    has_members = λ n l e. not_empty l.members (well.structs n l e).0;
    args = [];
    first_is = refl;
    calls = no_calls;
    may_call = false;
    bound = bound;
    turn_bound = bound;
    fn = start_index u;
    slots = [];
    kinds = [];
    as_long = refl;
    kinds_are = λ x t e. none_there x t e;
    objects_are = λ x t e. none_there x (t, true) e;
    files = file_slots u;
    reached = q;
    scratch_is = refl;
    waits = waits_made u u.made;
    pending = 0;
    result = void;
    depth = 1;
    level = 0;
    visible = [];
  }

  pub home : (q : Reached) → AtHome (Es q)
  home q = p.at_home

  abbrev pub To : Reached → List Word → List Item → Unit {0} → World → Mem → Thread
  To q vs r x w m = at_work (Es q) m w vs r

  abbrev pub Good : Reached → Now → Unit {0} → World → Mem → Type 0
  Good q now x w m = Kept (Es q) now w m

  abbrev pub setting : Mem → ℕ → Word → Mem
  setting m g v = record m { globals = slice_set m.globals g (global_of v) }

  -- other globals of other variables and literals
  pub refiled : (q q' : Reached) (now : Now) (w : World) (m : Mem) (xs : List Held) (ts : List ℕ) (gs : List GlobalInst) → Kept (Es q) now w m
      → Filed u.structs (places_of u) (file_slots u) q' S.shared m.homes xs ts gs → Kept (Es q') now (record w { globals = xs; literals = ts }) (record m { globals = gs })
  refiled q q' now w m xs ts gs k f = record {
    held = k.held;
    deep = k.deep;
    less = k.less;
    bytes = k.bytes;
    temps = k.temps;
    grown = k.grown;
    related = k.related;
    open' = k.open';
    apart = k.apart;
    own = k.own;
    lasts = k.lasts;
    file = f;
  }

  -- ---- one object

  -- the new object is that of a variable or of a literal
  pub record Becomes (q' : Reached) (now : Now) (g : ℕ) (f : ℕ → Does (Unit {0})) (w : World) (m : Mem) (n : ℕ) : Type 0 where
    pub next : World
    pub is : f n w ≡ gives tt next
    pub fuel : next.fuel ≡ w.fuel
    pub input : next.input ≡ w.input
    pub tells : Tells w next [] []
    pub keeps : Kept (Es q') now next (setting m g (Handle (handle m.homes (to_object n))))

  module _ (q q' : Reached) (now : Now) (g : ℕ) (room : g < S.shared) (t : Ty) (slot : IsSlot u.structs t) (f : ℕ → Does (Unit {0}))
      (becomes : (w1 : World) (m1 : Mem) (n : ℕ) → Kept (Es q) now w1 m1 → IsObjectAt u.structs t m1.homes n → Becomes q' now g f w1 m1 n) (j : ℕ) (vs : List Word) (r : List Item) where
    abbrev E : Env
    E = Es q

    abbrev s : Shape
    s = shape u.structs t

    abbrev c : Code
    c = made tg (Global g) (type_size u.structs t)

    abbrev J : ℕ
    J = ((j + 0) + 0) + 0

    abbrev r4 : List Item
    r4 = Do (If None J None) ∷ r

    abbrev r3 : List Item
    r3 = Do (Segment segment.IsNull) ∷ r4

    abbrev r2 : List Item
    r2 = Do (GlobalGet g) ∷ r3

    abbrev r1 : List Item
    r1 = Do (GlobalSet g) ∷ r2

    abbrev r0 : List Item
    r0 = Do (Segment (segment.New kinds.Frame)) ∷ r1

    abbrev bytes : ℕ
    bytes = type_size u.structs t

    size_word : I32 (wrapped 32 (pos bytes)) ≡ I32 (1 * size s)
    size_word = ap I32 (wrapped_small bytes (let a = slot.sized in let b = slot.small in omega (arith, a, b)) ∙ sym slot.sized ∙ once (size s))

    module _ (w : World) (m : Mem) (kept : Kept E now w m) where
      abbrev t0 : Thread
      t0 = at_work E m w vs (front (c j).instrs r)

      abbrev t1 : Thread
      t1 = at_work E m w (I32 (1 * size s) ∷ vs) r0

      first_goes : Goes S 1 w w m t0 m t1
      first_goes =
          subst (λ (v : Word). Goes S 1 w w m t0 m (at_work E m w (v ∷ vs) r0)) size_word
          (one_here S w m m (i32 bytes) (frame_of E m w) vs r0 (thread (frame_of E m w) (I32 (wrapped 32 (pos bytes)) ∷ vs) r0)
          (carried_is E (i32 bytes) m (frame_of E m w) vs (I32 (wrapped 32 (pos bytes)) ∷ vs) r0 (constant_is W32 (pos bytes) vs)))

      abbrev meant : Does (Unit {0})
      meant = make_frame u.structs t >>= f

      abbrev Goal : Result (Unit {0}) → Type 0
      Goal y = RunsTo S (size_of (c j)) m t0 w (To q' vs r) (Good q' now) y

      with_grants : (gs : List Bool) → w.grants ≡ gs → w ≡ record w { grants = gs }
      with_grants gs e = ap (λ (b : List Bool). record w { grants = b }) e

      -- the global is set, and its value is there
      sets : (w1 w2 : World) (m1 : Mem) (h : HandleOf) → Kept E now w1 m1 → w2.fuel ≡ w1.fuel → w2.input ≡ w1.input → Tells w1 w2 [] []
          → Goes S 2 w1 w2 m1 (at_work E m1 w1 (Handle h ∷ vs) r1) (setting m1 g (Handle h)) (at_work E (setting m1 g (Handle h)) w2 (Handle h ∷ vs) r3)
      sets w1 w2 m1 h k ef ei tells =
          let old = k.file.all_are g room in
          let long = k.file.long in
          let m2 = setting m1 g (Handle h) in
          let there = set_there m1.globals g (global_of (Handle h)) (omega (arith, long, room)) in
          goes_on S 1 1 w1 w2 w2 m1 m2 m2 (at_work E m1 w1 (Handle h ∷ vs) r1) (at_work E m2 w2 vs r2) (at_work E m2 w2 (Handle h ∷ vs) r3)
          (goes.one S w1 w2 m1 m2 (GlobalSet g) (frame_of E m1 w1) (Handle h ∷ vs) r2 (thread (frame_of E m1 w1) vs r2) ef ei tells (set_global E L (home q) w1 m1 g old.0 (Handle h) vs r2 room old.1))
          (one_here S w2 m2 m2 (GlobalGet g) (frame_of E m2 w2) vs r3 (thread (frame_of E m2 w2) (Handle h ∷ vs) r3) (get_global E L (home q) w2 m2 g (Handle h) vs r3 room there))

      module _ (gs : List Bool) (e : w.grants ≡ true ∷ gs) (M : Made E now frame s 1 slot.fits vs r1 w m kept gs) where
        abbrev v1 : World
        v1 = made_world E now frame s 1 slot.fits vs r1 w m kept gs

        abbrev num : ℕ
        num = length w.objects

        abbrev h : HandleOf
        h = handle M.mem.homes (to_object num)

        B : Becomes q' now g f v1 M.mem num
        B = becomes v1 M.mem num M.keeps (record { home = M.home; at = M.at; shape_is = M.shape_is; one = M.count_is })

        good : h ≡ handles.Good false M.home.id 0 (M.home.count * size M.home.shape) (pos 0)
        good = name_handle u.structs E.places M.mem.homes num M.home M.at

        made_goes : (w2 : World) (m2 : Mem) → m2 ≡ setting M.mem g (Handle h) → Goes S 2 v1 w2 M.mem (at_work E M.mem v1 (Handle h ∷ vs) r1) m2 (at_work E m2 w2 (Handle h ∷ vs) r3)
            → Goes S 6 w w2 m t0 m2 (at_work E m2 w2 vs r)
        made_goes w2 m2 is set =
            let f2 = frame_of E m2 w2 in
            goes_on S 1 5 w w w2 m m m2 t0 t1 (at_work E m2 w2 vs r) first_goes
            (goes_on S 1 4 w v1 w2 m M.mem m2 t1 (at_work E M.mem v1 (Handle h ∷ vs) r1) (at_work E m2 w2 vs r) M.goes
            (goes_on S 2 2 v1 w2 w2 M.mem m2 m2 (at_work E M.mem v1 (Handle h ∷ vs) r1) (at_work E m2 w2 (Handle h ∷ vs) r3) (at_work E m2 w2 vs r) set
            (goes_on S 1 1 w2 w2 w2 m2 m2 m2 (at_work E m2 w2 (Handle h ∷ vs) r3) (at_work E m2 w2 (I32 0 ∷ vs) r4) (at_work E m2 w2 vs r)
            (one_here S w2 m2 m2 (Segment segment.IsNull) f2 (Handle h ∷ vs) r4 (thread f2 (I32 0 ∷ vs) r4)
            (ap (λ (x : HandleOf). step.Next (goes.store S m2) (thread f2 (I32 (truth (is_null x)) ∷ vs) r4) None) good))
            (one_here S w2 m2 m2 (If None J None) f2 (I32 0 ∷ vs) r (thread f2 vs r) refl))))

        made_runs : Goal (meant w)
        made_runs =
            let m2 = setting M.mem g (Handle h) in
            subst Goal (sym (ap meant (with_grants (true ∷ gs) e))) (subst Goal (sym B.is) (
              m2,
              B.keeps,
              sized S 6 (size_of (c j)) w B.next m m2 t0 (at_work E m2 B.next vs r) (omega arith) (made_goes B.next m2 refl (sets v1 B.next M.mem h M.keeps B.fuel B.input B.tells)),
            ))

      module _ (at_arm : sequence S.funcs (start_index u) j ≡ Unreachable ∷ []) (gs : List Bool) (e : w.grants ≡ false ∷ gs) where
        abbrev u1 : World
        u1 = refused_world E now frame s 1 slot.fits vs r1 w m kept gs

        abbrev ru : List Item
        ru = Label None (length vs) None ∷ r

        abbrev none : Word
        none = Handle handles.Null

        abbrev m' : Mem
        m' = setting m g none

        abbrev g2 : Frame
        g2 = frame_of E m' u1

        arm : sequence S.funcs (start_index u) J ≡ Unreachable ∷ []
        arm = let z : J ≡ j = omega arith in ap (sequence S.funcs (start_index u)) z ∙ at_arm

        refused_kept : Kept E now u1 m
        refused_kept = record { held = kept.held; deep = kept.deep; less = kept.less; bytes = kept.bytes; temps = kept.temps; grown = kept.grown; related = kept.related; open' = kept.open'; apart = kept.apart; own = kept.own; lasts = kept.lasts; file = kept.file }

        refuses : Goes S 1 w u1 m t1 m (at_work E m u1 (none ∷ vs) r1) → Goal (meant w)
        refuses gn =
            subst Goal (sym (ap meant (with_grants (false ∷ gs) e)))
            (resize_to S (1 + (1 + (2 + (1 + (1 + 1))))) (size_of (c j)) m t0 w (To q' vs r) (Good q' now) (ends exhausted u1) (omega arith)
            (stops_behind S 1 (1 + (2 + (1 + (1 + 1)))) w w u1 m m t0 t1 exhausted first_goes
            (stops_behind S 1 (2 + (1 + (1 + 1))) w u1 u1 m m t1 (at_work E m u1 (none ∷ vs) r1) exhausted gn
            (stops_behind S 2 (1 + (1 + 1)) u1 u1 u1 m m' (at_work E m u1 (none ∷ vs) r1) (at_work E m' u1 (none ∷ vs) r3) exhausted (sets u1 u1 m handles.Null refused_kept refl refl (tells_nothing u1 u1 refl refl refl))
            (stops_behind S 1 (1 + 1) u1 u1 u1 m' m' (at_work E m' u1 (none ∷ vs) r3) (thread g2 (I32 1 ∷ vs) r4) exhausted
            (one_here S u1 m' m' (Segment segment.IsNull) g2 (none ∷ vs) r4 (thread g2 (I32 1 ∷ vs) r4) refl)
            (stops_behind S 1 1 u1 u1 u1 m' m' (thread g2 (I32 1 ∷ vs) r4) (thread g2 vs (Do Unreachable ∷ ru)) exhausted
            (one_here S u1 m' m' (If None J None) g2 (I32 1 ∷ vs) r (thread g2 vs (Do Unreachable ∷ ru)) (ap (λ (is : List Instr). step.Next (goes.store S m') (thread g2 vs (front is ru)) None) arm))
            (trapped S u1 m' Unreachable g2 vs ru traps.Unreachable exhausted refl tt refl tt)))))))

      pub one_made : HasAll S.funcs (start_index u) j (c j).seqs → Runs S (size_of (c j)) m t0 w (To q' vs r) (Good q' now) (meant w)
      one_made has ag = by (new_goes E now frame s 1 slot.fits vs r1 w m kept (agrees_after S 1 w w m m t0 t1 first_goes ag)) where
        by : NewGoes E now frame s 1 slot.fits vs r1 w m kept → Goal (meant w)
        by (granted gs e M) = made_runs gs e M
        by (refused' gs e gn) = refuses has.0 gs e gn
        by (unasked e st) =
            subst Goal (sym (ap meant (with_grants [] e)))
            (subst (λ (w0 : World). Stops S (size_of (c j)) w w0 m t0 ungranted) (with_grants [] e)
            (resize_to S (1 + 1) (size_of (c j)) m t0 w (To q' vs r) (Good q' now) (ends ungranted w) (omega arith) (stops_behind S 1 1 w w w m m t0 t1 ungranted first_goes st)))

  -- ---- all of them

  abbrev pub making : List ℕ → ℕ → Reached
  making ns k = record { named = ns; texts = k; sealed = 0 }

  text_slot : (n : ℕ) → suc n < 2 ^ 32 → IsSlot u.structs (array (integer Char) (suc n))
  text_slot n lt = record { is_data = refl; fits = (omega arith, omega arith); sized = refl; small = omega (arith, lt) }

  -- code that is joined: the first part, and then the second
  pub joins : {A B : Type 0} (a b : Code) (n : ℕ) (m : Mem) (w : World) (vs : List Word) (r : List Item) (q : Reached) (to1 : List Item → A → World → Mem → Thread) (Good1 : A → World → Mem → Type 0) (to2 : B → World → Mem → Thread) (Good2 : B → World → Mem → Type 0)
      (x : Result A) (f : A → World → Result B)
      → Runs S (size_of (a n)) m (at_work (Es q) m w vs (front (a n).instrs (front (b (n + length (a n).seqs)).instrs r))) w (to1 (front (b (n + length (a n).seqs)).instrs r)) Good1 x
      → ((y : A) (w1 : World) (m1 : Mem) → Good1 y w1 m1 → Runs S (size_of (b (n + length (a n).seqs))) m1 (to1 (front (b (n + length (a n).seqs)).instrs r) y w1 m1) w1 to2 Good2 (f y w1))
      → Runs S (size_of ((a ⨾ b) n)) m (at_work (Es q) m w vs (front ((a ⨾ b) n).instrs r)) w to2 Good2 (after x f)
  joins a b n m w vs r q to1 Good1 to2 Good2 x f h g =
      let xa = a n in
      let xb = b (n + length xa.seqs) in
      subst (λ (k : ℕ). Runs S k m (at_work (Es q) m w vs (front (xa.instrs ++ xb.instrs) r)) w to2 Good2 (after x f)) (size_joined xa xb)
      (subst (λ (l : List Item). Runs S (size_of xa + size_of xb) m (at_work (Es q) m w vs l) w to2 Good2 (after x f)) (sym (front_append xa.instrs xb.instrs r))
      (bind S (size_of xa) (size_of xb) m (at_work (Es q) m w vs (front xa.instrs (front xb.instrs r))) w (to1 (front xb.instrs r)) Good1 to2 Good2 x f h g))

  abbrev pub Makes : Reached → (size : ℕ) → Mem → World → List Word → List Instr → List Item → Reached → Now → Result (Unit {0}) → Type 0
  Makes q size m w vs is r q' now y = Runs S size m (at_work (Es q) m w vs (front is r)) w (To q' vs r) (Good q' now) y

  -- the object of a variable, if it is one
  variable_made : (ns : List ℕ) (k n : ℕ) (t : Ty) → slice_get u.globals n ≡ Some t → IsSlot u.structs t → (b : Bool) → is_global_object u n t ≡ b → (j : ℕ) (now : Now) (vs : List Word) (r : List Item) (w : World) (m : Mem) → Kept (Es (making ns k)) now w m
      → HasAll S.funcs (start_index u) j ((cond b (made tg (Global n) (type_size u.structs t)) no_code) j).seqs
      → Makes (making ns k) (size_of ((cond b (made tg (Global n) (type_size u.structs t)) no_code) j)) m w vs ((cond b (made tg (Global n) (type_size u.structs t)) no_code) j).instrs r (making (ns ++ n ∷ []) k) now
      ((cond b (make_frame u.structs t >>= (λ o. hold (Global n) (object o))) (pure tt)) w)
  variable_made ns k n t at slot true is j now vs r w m kept has =
      let z : 0 + n ≡ n = omega arith in
      let kind : slice_get (file_slots u) n ≡ Some (t, true) = file_kind u 0 u.globals n t at ∙ ap (λ (i : ℕ). Some (t, is_global_object u i t)) z ∙ ap (λ (b : Bool). Some (t, b)) is in
      let few = slice_get_within (file_slots u) n (t, true) kind in
      let long = files_long u 0 u.globals in
      let room = p.room in
      one_made (making ns k) (making (ns ++ n ∷ []) k) now n (omega (arith, few, long, room)) t slot (λ o. hold (Global n) (object o))
      (λ w1 m1 o k1 obj.
      record {
        next = record w1 { globals = slice_set w1.globals n (object o) };
        is = refl;
        fuel = refl;
        input = refl;
        tells = tells_nothing w1 (record w1 { globals = slice_set w1.globals n (object o) }) refl refl refl;
        keeps = refiled (making ns k) (making (ns ++ n ∷ []) k) now w1 m1 (slice_set w1.globals n (object o)) w1.literals (slice_set m1.globals n (global_of (Handle (handle m1.homes (to_object o))))) k1
            (filed_object u.structs (places_of u) (file_slots u) ns k 0 S.shared m1.homes w1.globals w1.literals m1.globals k1.file n t o kind obj);
      })
      j vs r w m kept has
  variable_made ns k n t at slot false is j now vs r w m kept has =
      let z : 0 + n ≡ n = omega arith in
      let kind : slice_get (file_slots u) n ≡ Some (t, false) = file_kind u 0 u.globals n t at ∙ ap (λ (i : ℕ). Some (t, is_global_object u i t)) z ∙ ap (λ (b : Bool). Some (t, b)) is in
      here S 0 w m (To (making (ns ++ n ∷ []) k) vs r) (Good (making (ns ++ n ∷ []) k) now) tt
      (refiled (making ns k) (making (ns ++ n ∷ []) k) now w m w.globals w.literals m.globals kept (filed_named u.structs (places_of u) (file_slots u) ns k 0 S.shared m.homes w.globals w.literals m.globals kept.file n t kind))

  -- the object of a literal
  text_made : (ns : List ℕ) (k : ℕ) (bytes : List ℕ) → length bytes < 4294967295 → k < literals_in u.made → (j : ℕ) (now : Now) (vs : List Word) (r : List Item) (w : World) (m : Mem) → Kept (Es (making ns k)) now w m
      → HasAll S.funcs (start_index u) j ((made tg (Global (length u.globals + k)) (type_size u.structs (string bytes))) j).seqs
      → Makes (making ns k) (size_of ((made tg (Global (length u.globals + k)) (type_size u.structs (string bytes))) j)) m w vs ((made tg (Global (length u.globals + k)) (type_size u.structs (string bytes))) j).instrs r (making ns (suc k)) now
      ((make_frame u.structs (string bytes) >>= remember u) w)
  text_made ns k bytes few less j now vs r w m kept has =
      let room = p.room in
      let long = files_long u 0 u.globals in
      let g = length u.globals + k in
      let same : length (file_slots u) + k ≡ g = omega (arith, long) in
      one_made (making ns k) (making ns (suc k)) now g (omega (arith, less, room)) (string bytes) (text_slot (length bytes) (omega (arith, few))) (remember u)
      (λ w1 m1 o k1 obj.
      record {
        next = record w1 { literals = w1.literals ++ o ∷ [] };
        is = refl;
        fuel = refl;
        input = refl;
        tells = tells_nothing w1 (record w1 { literals = w1.literals ++ o ∷ [] }) refl refl refl;
        keeps = refiled (making ns k) (making ns (suc k)) now w1 m1 w1.globals (w1.literals ++ o ∷ []) (slice_set m1.globals g (global_of (Handle (handle m1.homes (to_object o))))) k1
            (subst (λ (i : ℕ). Filed u.structs (places_of u) (file_slots u) (making ns (suc k)) S.shared m1.homes w1.globals (w1.literals ++ o ∷ []) (slice_set m1.globals i (global_of (Handle (handle m1.homes (to_object o)))))) same
            (filed_text u.structs (places_of u) (file_slots u) ns k 0 S.shared m1.homes w1.globals w1.literals m1.globals k1.file (suc (length bytes)) o (omega arith) (omega (arith, few)) obj (omega (arith, less, room, long))));
      })
      j vs r w m kept has

  pub all_made : (ms : List IsMade) (ns : List ℕ) (k : ℕ) → AreMade u ms → k + literals_in ms ≤ literals_in u.made → (j : ℕ) (now : Now) (vs : List Word) (r : List Item) (w : World) (m : Mem) → Kept (Es (making ns k)) now w m
      → HasAll S.funcs (start_index u) j (makes tg u.globals k ms j).seqs
      → Makes (making ns k) (size_of (makes tg u.globals k ms j)) m w vs (makes tg u.globals k ms j).instrs r (making (ns ++ variables_in ms) (k + literals_in ms)) now (make_each u ms w)
  all_made [] ns k all le j now vs r w m kept has =
      let z : k ≡ k + 0 = omega arith in
      subst (λ (l : List ℕ). Makes (making ns k) 0 m w vs [] r (making l (k + 0)) now (gives tt w)) (sym (append-nil ns))
      (subst (λ (i : ℕ). Makes (making ns k) 0 m w vs [] r (making ns i) now (gives tt w)) z
      (here S 0 w m (To (making ns k) vs r) (Good (making ns k) now) tt kept))
  all_made (tree.global n ss ∷ ms) ns k all le j now vs r w m kept has =
      let t = all.0.0 in
      let at = all.0.1 in
      let b = is_global_object u n (get_or u.globals n void) in
      let a = cond b (made tg (Global n) (type_size u.structs (get_or u.globals n void))) no_code in
      let c = makes tg u.globals k ms in
      let x = cond (is_global_object u n t) (make_frame u.structs t >>= (λ o. hold (Global n) (object o))) (pure tt) in
      let q' = making (ns ++ n ∷ []) k in
      let goal = λ (l : List ℕ) (y : Result (Unit {0})). Makes (making ns k) (size_of ((a ⨾ c) j)) m w vs ((a ⨾ c) j).instrs r (making l (k + literals_in ms)) now y in
      subst (λ (l : List ℕ). goal l (make_each u (tree.global n ss ∷ ms) w)) (append_assoc ns (n ∷ []) (variables_in ms))
      (subst (λ (y : Result (Unit {0})). goal ((ns ++ n ∷ []) ++ variables_in ms) y) (ap (λ (o : Option Ty). after (after (known o w) (make_global u n)) (λ z. make_each u ms)) (sym at))
      (joins a c j m w vs r (making ns k) (λ r'. To q' vs r') (Good q' now) (To (making ((ns ++ n ∷ []) ++ variables_in ms) (k + literals_in ms)) vs r) (Good (making ((ns ++ n ∷ []) ++ variables_in ms) (k + literals_in ms)) now) (x w) (λ z. make_each u ms)
      (variable_of ns k n t at all.0.2 j now vs (front (c (j + length (a j).seqs)).instrs r) w m kept (has_front S.funcs (start_index u) j (a j).seqs (c (j + length (a j).seqs)).seqs has))
      (λ z w1 m1 k1. all_made ms (ns ++ n ∷ []) k all.1 le (j + length (a j).seqs) now vs r w1 m1 k1 (has_back S.funcs (start_index u) j (a j).seqs (c (j + length (a j).seqs)).seqs has))))
    where
      -- the code asks for the type where the meaning has it
      variable_of : (ns : List ℕ) (k n : ℕ) (t : Ty) → slice_get u.globals n ≡ Some t → IsSlot u.structs t → (j : ℕ) (now : Now) (vs : List Word) (r : List Item) (w : World) (m : Mem) → Kept (Es (making ns k)) now w m
          → HasAll S.funcs (start_index u) j ((cond (is_global_object u n (get_or u.globals n void)) (made tg (Global n) (type_size u.structs (get_or u.globals n void))) no_code) j).seqs
          → Makes (making ns k) (size_of ((cond (is_global_object u n (get_or u.globals n void)) (made tg (Global n) (type_size u.structs (get_or u.globals n void))) no_code) j)) m w vs
          ((cond (is_global_object u n (get_or u.globals n void)) (made tg (Global n) (type_size u.structs (get_or u.globals n void))) no_code) j).instrs r (making (ns ++ n ∷ []) k) now
          ((cond (is_global_object u n t) (make_frame u.structs t >>= (λ o. hold (Global n) (object o))) (pure tt)) w)
      variable_of ns k n t at slot j now vs r w m kept =
          subst (λ (v : Ty). HasAll S.funcs (start_index u) j ((cond (is_global_object u n v) (made tg (Global n) (type_size u.structs v)) no_code) j).seqs
          → Makes (making ns k) (size_of ((cond (is_global_object u n v) (made tg (Global n) (type_size u.structs v)) no_code) j)) m w vs ((cond (is_global_object u n v) (made tg (Global n) (type_size u.structs v)) no_code) j).instrs r (making (ns ++ n ∷ []) k) now
          ((cond (is_global_object u n t) (make_frame u.structs t >>= (λ o. hold (Global n) (object o))) (pure tt)) w)) (sym (get_is u.globals n t at))
          (variable_made ns k n t at slot (is_global_object u n t) refl j now vs r w m kept)
  all_made (tree.text bytes ∷ ms) ns k all le j now vs r w m kept has =
      let a = made tg (Global (length u.globals + k)) (type_size u.structs (string bytes)) in
      let c = makes tg u.globals (suc k) ms in
      let q' = making ns (suc k) in
      let z : suc k + literals_in ms ≡ k + (literals_in ms + 1) = omega arith in
      subst (λ (i : ℕ). Makes (making ns k) (size_of ((a ⨾ c) j)) m w vs ((a ⨾ c) j).instrs r (making (ns ++ variables_in ms) i) now (make_each u (tree.text bytes ∷ ms) w)) z
      (joins a c j m w vs r (making ns k) (λ r'. To q' vs r') (Good q' now) (To (making (ns ++ variables_in ms) (suc k + literals_in ms)) vs r) (Good (making (ns ++ variables_in ms) (suc k + literals_in ms)) now) ((make_frame u.structs (string bytes) >>= remember u) w) (λ y. make_each u ms)
      (text_made ns k bytes all.0 (omega (arith, le)) j now vs (front (c (j + length (a j).seqs)).instrs r) w m kept (has_front S.funcs (start_index u) j (a j).seqs (c (j + length (a j).seqs)).seqs has))
      (λ y w1 m1 k1. all_made ms ns (suc k) all.1 (omega (arith, le)) (j + length (a j).seqs) now vs r w1 m1 k1 (has_back S.funcs (start_index u) j (a j).seqs (c (j + length (a j).seqs)).seqs has)))
