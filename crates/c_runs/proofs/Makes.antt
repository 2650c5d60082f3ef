-- The object of a variable is made where its block is entered; where it is refused the program ends.
use Rattle.std.proofs.Common.{◌≡◌, ℕ, zero, suc, ◌+◌, ◌*◌, ◌^◌, ◌<◌, ◌⊎◌, inl, inr, ⊎_elim, List, [], ◌∷◌, ◌++◌, length, Bool, true, false, Some, None, refl, sym, ap, ◌∙◌, arith, subst, T, eqb→eq}
use Rattle.std.specs.Prelude.{pos, get_or, slice_get, slice_set, ◌==◌, ◌||◌}
use Rattle.std.proofs.lemmas.Bool.{cases_eq}
use Rattle.std.proofs.lemmas.Option.{slice_get_within}
use Rattle.ms_handle.specs.declared.handle.Handle.{Handle as HandleOf}
use Rattle.ms_handle.specs.declared.handle.Handle.TheVariants as handles
use Rattle.ms_handle.specs.declared.handle.Kind.TheVariants as kinds
use Rattle.ms_host.specs.declared.trap.TrapKind.TheVariants as traps
use Rattle.ms_linear.specs.declared.value.Value.{Value as Word}
use Rattle.ms_linear.specs.declared.value.Value.TheVariants.{I32, Handle}
use Rattle.ms_machine.specs.Segments.{is_null}
use Rattle.ms_machine.specs.Step as step
use Rattle.ms_machine.specs.Step.{act}
use Rattle.ms_module.specs.declared.access.Segment.TheVariants as segment
use Rattle.ms_module.specs.declared.instr.Instr.{Instr}
use Rattle.ms_module.specs.declared.instr.Instr.TheVariants.{If, LocalTee, Segment, Unreachable}
use Rattle.ms_module.specs.declared.numeric.Width.TheVariants.{W32}
use Rattle.ms_num.specs.Integers.{truth, wrapped}
use Rattle.ms_task.specs.Thread.{Do, Frame, Item, Label, Thread, thread, sequence}
use Rattle.c_types.specs.Layout.{size as type_size}
use Rattle.c_types.specs.Types.{Ty, void}
use Rattle.c_typed.specs.declared.ops.Variable.TheVariants.{Local}
use Rattle.c_typed.specs.refinement.Expressions.{is_visible}
use Rattle.c_meaning.specs.Shapes.{Shape, shape, size}
use Rattle.c_meaning.specs.Values.{null}
use Rattle.c_meaning.specs.Objects.{frame, new_object, to_object}
use Rattle.c_meaning.specs.World.{exhausted, ungranted, Held, plain, object, World, Result, ends, Does, ◌>>=◌}
use Rattle.c_meaning.specs.Accesses.{hold, make_frame, with_held}
use Rattle.ms_emit.specs.Codes.{Code, size_of}
use Rattle.c_code.specs.Operations.{i32}
use Rattle.c_code.specs.Statements.{made}
use Rattle.c_numbers.proofs.Conversions.{constant_is}
use Rattle.ms_relate.specs.refinement.Homes.{Home, handle}
use Rattle.ms_relate.proofs.Ending.{name_handle}
use Rattle.ms_relate.proofs.Growing.{slice_get-push_new}
use Rattle.c_runs.proofs.Goes as goes
use Rattle.c_runs.proofs.Goes.{Goes, Mem, Runs, RunsTo, Stops, agrees_after, goes_on, one_here, resize_to, sized, stops_behind, tells_nothing, trapped}
use Rattle.c_runs.proofs.Held.{AreApart, AreHeld, AreOpen, AreOwn, IsHeld, Slot, held_set, length_held, lives_other, set_elsewhere, set_there, some_is}
use Rattle.c_runs.proofs.Ending.{visible_either}
use Rattle.c_runs.proofs.Related.{Env, HasAll, IsSlot, Kept, Now, frame_of, front}
use Rattle.c_runs.proofs.Ops.{at_work, carried_is}
use Rattle.c_runs.proofs.Nodes.{local_of_x, set_slot}
use Rattle.c_runs.proofs.Creating.{Made, NewGoes, granted, made_world, new_goes, refused', refused_world, unasked}

pub wrapped_small : (n : ℕ) → n < 2 ^ 32 → wrapped 32 (pos n) ≡ n
wrapped_small n lt = omega arith

pub once : (n : ℕ) → n ≡ 1 * n
once n = omega arith

pub only_one : (x i : ℕ) → is_visible (x ∷ []) i ≡ true → x ≡ i
only_one x i e = by (x == i) refl e where
  by : (b : Bool) → (x == i) ≡ b → (b || false) ≡ true → x ≡ i
  by true q h = eqb→eq x i (subst T (sym q) tt)
  by false q h = absurd cc

object_number : (m n : ℕ) → object m ≡ object n → m ≡ n
object_number m n e = ap (λ (h : Held). or h) e where
  or : Held → ℕ
  or (plain v) = m
  or (object k) = k

pub get_is : (ts : List Ty) (x : ℕ) (t : Ty) → slice_get ts x ≡ Some t → get_or ts x void ≡ t
get_is [] x t e = absurd cc
get_is (s ∷ ts) zero t e = some_is s t e
get_is (s ∷ ts) (suc x) t e = get_is ts x t e

module _ (E : Env) where
  -- each object of a variable was made before
  held_below : (ks : List Slot) (hs : List Home) (xs : List Held) (i j : ℕ) → AreHeld E.unit.structs E.places ks hs xs → slice_get xs i ≡ Some (object j) → j < length hs
  held_below [] hs [] i j a e = absurd cc
  held_below (k ∷ ks) hs (y ∷ xs) zero j a e = by k (subst (λ (h : Held). IsHeld E.unit.structs E.places k hs h) (some_is y (object j) e) a.0) where
    by : (k : Slot) → IsHeld E.unit.structs E.places k hs (object j) → j < length hs
    by (u, false) h = absurd h
    by (u, true) h = slice_get_within hs j h.home h.at
  held_below (k ∷ ks) hs (y ∷ xs) (suc i) j a e = held_below ks hs xs i j a.1 e
  held_below [] hs (y ∷ xs) i j a e = absurd a
  held_below (k ∷ ks) hs [] i j a e = absurd a

module _ (E : Env) (x : ℕ) (t : Ty) (at_x : slice_get E.kinds x ≡ Some (t, true)) (slot : IsSlot E.unit.structs t) (now : Now) (w : World) (m : Mem) (kept : Kept E now w m) (vs : List Word) where
  abbrev s : Shape
  s = shape E.unit.structs t

  abbrev num : ℕ
  num = length w.objects

  -- the variable may be named
  abbrev pub opened_now : Now
  opened_now = record now { visible = now.visible ++ x ∷ [] }

  below : (i j : ℕ) → slice_get w.locals i ≡ Some (object j) → j < num
  below i j e = let lt = held_below E E.kinds m.homes w.locals i j kept.held e in let long = kept.related.long in omega (arith, lt, long)

  in_locals : x < length w.locals
  in_locals = let a = length_held E.unit.structs E.places E.kinds m.homes w.locals kept.held in let b = slice_get_within E.kinds x (t, true) at_x in omega (arith, a, b)

  abbrev ys : List Held
  ys = slice_set w.locals x (object num)

  -- a variable's object is the new one, or one from before
  new_or_old : (i j : ℕ) → slice_get ys i ≡ Some (object j) → ((i ≡ x) × (num ≡ j)) ⊎ (slice_get w.locals i ≡ Some (object j))
  new_or_old i j e = ⊎_elim
      (λ same. inl (same, object_number num j (some_is (object num) (object j) (sym (ap (slice_get ys) same ∙ set_there w.locals x (object num) in_locals) ∙ e))))
      (λ other. inr (sym (set_elsewhere w.locals x i (object num) (λ q. other (sym q))) ∙ e))
      (cases_eq i x)

  made_apart : AreApart ys
  made_apart i j n e f = ⊎_elim
      (λ a. ⊎_elim (λ b. a.0 ∙ sym b.0) (λ b. absurd (let lt = below j n b in let q = a.1 in omega (arith, lt, q))) (new_or_old j n f))
      (λ a. ⊎_elim (λ b. absurd (let lt = below i n a in let q = b.1 in omega (arith, lt, q))) (λ b. kept.apart i j n a b) (new_or_old j n f))
      (new_or_old i n e)

  made_own : AreOwn (length now.objects) ys
  made_own i n e = ⊎_elim (λ a. let l = kept.lasts.longer in let q = a.1 in omega (arith, l, q)) (λ a. kept.own i n a) (new_or_old i n e)

  module _ (r : List Item) (gs : List Bool) (M : Made E now frame s 1 slot.fits vs r w m kept gs) where
    abbrev w1 : World
    w1 = made_world E now frame s 1 slot.fits vs r w m kept gs

    abbrev w2 : World
    w2 = with_held (Local x) (object num) w1

    made_open : AreOpen E.kinds opened_now.visible w1.objects ys
    made_open i u seen at = ⊎_elim
        (λ same. record {
          number = num;
          held = ap (slice_get ys) same ∙ set_there w.locals x (object num) in_locals;
          object_is = new_object frame s 1;
          at = slice_get-push_new w.objects (new_object frame s 1);
          alive = refl;
          is_frame = refl;
        })
        (λ other. lives_other w1.objects w.locals x i (object num) (λ q. other (sym q))
        (visible_either now.visible (x ∷ []) i seen (λ old. M.keeps.open' i u old at) (λ new. absurd (other (sym (only_one x i new))))))
        (cases_eq i x)

    pub made_kept : Kept E opened_now w2 M.mem
    made_kept = record {
      held = held_set E.unit.structs E.places E.kinds M.mem.homes w.locals x (t, true) (object num) at_x M.keeps.held (record { home = M.home; at = M.at; shape_is = M.shape_is; one = M.count_is });
      deep = M.keeps.deep;
      less = M.keeps.less;
      bytes = M.keeps.bytes;
      temps = M.keeps.temps;
      grown = M.keeps.grown;
      related = M.keeps.related;
      open' = made_open;
      apart = made_apart;
      own = made_own;
      lasts = M.keeps.lasts;
      file = M.keeps.file;
    }

  -- ---- the code

  module _ (j : ℕ) (r : List Item) where
    abbrev c : Code
    c = made E.target (Local x) (type_size E.unit.structs t)

    abbrev J : ℕ
    J = ((j + 0) + 0) + 0

    abbrev L : ℕ
    L = local_of_x E x (t, true) at_x

    abbrev r3 : List Item
    r3 = Do (If None J None) ∷ r

    abbrev r2 : List Item
    r2 = Do (Segment segment.IsNull) ∷ r3

    abbrev r1 : List Item
    r1 = Do (LocalTee L) ∷ r2

    abbrev bytes : ℕ
    bytes = type_size E.unit.structs t

    abbrev t0 : Thread
    t0 = at_work E m w vs (front (c j).instrs r)

    abbrev t1 : Thread
    t1 = at_work E m w (I32 (1 * size s) ∷ vs) (Do (Segment (segment.New kinds.Frame)) ∷ r1)

    size_word : I32 (wrapped 32 (pos bytes)) ≡ I32 (1 * size s)
    size_word = ap I32 (wrapped_small bytes (let a = slot.sized in let b = slot.small in omega (arith, a, b)) ∙ sym slot.sized ∙ once (size s))

    first_goes : Goes E.site 1 w w m t0 m t1
    first_goes =
        subst (λ (v : Word). Goes E.site 1 w w m t0 m (at_work E m w (v ∷ vs) (Do (Segment (segment.New kinds.Frame)) ∷ r1))) size_word
        (one_here E.site w m m (i32 bytes) (frame_of E m w) vs (Do (Segment (segment.New kinds.Frame)) ∷ r1) (thread (frame_of E m w) (I32 (wrapped 32 (pos bytes)) ∷ vs) (Do (Segment (segment.New kinds.Frame)) ∷ r1))
        (carried_is E (i32 bytes) m (frame_of E m w) vs (I32 (wrapped 32 (pos bytes)) ∷ vs) (Do (Segment (segment.New kinds.Frame)) ∷ r1) (constant_is W32 (pos bytes) vs)))

    abbrev to : Unit {0} → World → Mem → Thread
    to u w' m' = at_work E m' w' vs r

    abbrev Opened : Unit {0} → World → Mem → Type 0
    Opened u w' m' = Kept E opened_now w' m' × (m'.temps ≡ m.temps)

    abbrev meant : Does (Unit {0})
    meant = make_frame E.unit.structs t >>= (λ o. hold (Local x) (object o))

    abbrev Goal : Result (Unit {0}) → Type 0
    Goal y = RunsTo E.site (size_of (c j)) m t0 w to Opened y

    with_grants : (gs : List Bool) → w.grants ≡ gs → w ≡ record w { grants = gs }
    with_grants gs e = ap (λ (g : List Bool). record w { grants = g }) e

    module _ (gs : List Bool) (e : w.grants ≡ true ∷ gs) (M : Made E now frame s 1 slot.fits vs r1 w m kept gs) where
      abbrev v1 : World
      v1 = made_world E now frame s 1 slot.fits vs r1 w m kept gs

      abbrev v2 : World
      v2 = with_held (Local x) (object num) v1

      abbrev h : HandleOf
      h = handle M.mem.homes (to_object num)

      abbrev f2 : Frame
      f2 = frame_of E M.mem v2

      good : h ≡ handles.Good false M.home.id 0 (M.home.count * size M.home.shape) (pos 0)
      good = name_handle E.unit.structs E.places M.mem.homes num M.home M.at

      teed : Goes E.site 1 v1 v2 M.mem (at_work E M.mem v1 (Handle h ∷ vs) r1) M.mem (at_work E M.mem v2 (Handle h ∷ vs) r2)
      teed = goes.one E.site v1 v2 M.mem M.mem (LocalTee L) (frame_of E M.mem v1) (Handle h ∷ vs) r2 (thread f2 (Handle h ∷ vs) r2) refl refl (tells_nothing v1 v2 refl refl refl)
          (set_slot E x (t, true) at_x v1 M.mem M.keeps.held (object num) (Handle h ∷ vs) (Handle h ∷ vs) r2)

      tested : Goes E.site 1 v2 v2 M.mem (at_work E M.mem v2 (Handle h ∷ vs) r2) M.mem (at_work E M.mem v2 (I32 0 ∷ vs) r3)
      tested = one_here E.site v2 M.mem M.mem (Segment segment.IsNull) f2 (Handle h ∷ vs) r3 (thread f2 (I32 0 ∷ vs) r3)
          (ap (λ (q : HandleOf). step.Next (goes.store E.site M.mem) (thread f2 (I32 (truth (is_null q)) ∷ vs) r3) None) good)

      passed : Goes E.site 1 v2 v2 M.mem (at_work E M.mem v2 (I32 0 ∷ vs) r3) M.mem (at_work E M.mem v2 vs r)
      passed = one_here E.site v2 M.mem M.mem (If None J None) f2 (I32 0 ∷ vs) r (thread f2 vs r) refl

      made_runs : Goal (meant w)
      made_runs =
          subst Goal (sym (ap meant (with_grants (true ∷ gs) e))) (
            M.mem,
            (made_kept r1 gs M, M.same_temps),
            sized E.site (1 + (1 + (1 + (1 + 1)))) (size_of (c j)) w v2 m M.mem t0 (at_work E M.mem v2 vs r) (omega arith)
                (goes_on E.site 1 (1 + (1 + (1 + 1))) w w v2 m m M.mem t0 t1 (at_work E M.mem v2 vs r) first_goes
                (goes_on E.site 1 (1 + (1 + 1)) w v1 v2 m M.mem M.mem t1 (at_work E M.mem v1 (Handle h ∷ vs) r1) (at_work E M.mem v2 vs r) M.goes
                (goes_on E.site 1 (1 + 1) v1 v2 v2 M.mem M.mem M.mem (at_work E M.mem v1 (Handle h ∷ vs) r1) (at_work E M.mem v2 (Handle h ∷ vs) r2) (at_work E M.mem v2 vs r) teed
                (goes_on E.site 1 1 v2 v2 v2 M.mem M.mem M.mem (at_work E M.mem v2 (Handle h ∷ vs) r2) (at_work E M.mem v2 (I32 0 ∷ vs) r3) (at_work E M.mem v2 vs r) tested passed)))),
          )

    module _ (at_arm : sequence E.site.funcs E.fn j ≡ Unreachable ∷ []) (gs : List Bool) (e : w.grants ≡ false ∷ gs) where
      abbrev u1 : World
      u1 = refused_world E now frame s 1 slot.fits vs r1 w m kept gs

      -- the handle stands in the variable's local
      abbrev g2 : Frame
      g2 = frame_of E m (with_held (Local x) (plain null) u1)

      abbrev ru : List Item
      ru = Label None (length vs) None ∷ r

      abbrev none : Word
      none = Handle handles.Null

      arm : sequence E.site.funcs E.fn J ≡ Unreachable ∷ []
      arm = let z : J ≡ j = omega arith in ap (sequence E.site.funcs E.fn) z ∙ at_arm

      refuses : Goes E.site 1 w u1 m t1 m (at_work E m u1 (none ∷ vs) r1) → Goal (meant w)
      refuses g =
          subst Goal (sym (ap meant (with_grants (false ∷ gs) e)))
          (resize_to E.site (1 + (1 + (1 + (1 + (1 + 1))))) (size_of (c j)) m t0 w to Opened (ends exhausted u1) (omega arith)
          (stops_behind E.site 1 (1 + (1 + (1 + (1 + 1)))) w w u1 m m t0 t1 exhausted first_goes
          (stops_behind E.site 1 (1 + (1 + (1 + 1))) w u1 u1 m m t1 (at_work E m u1 (none ∷ vs) r1) exhausted g
          (stops_behind E.site 1 (1 + (1 + 1)) u1 u1 u1 m m (at_work E m u1 (none ∷ vs) r1) (thread g2 (none ∷ vs) r2) exhausted
          (goes.one E.site u1 u1 m m (LocalTee L) (frame_of E m u1) (none ∷ vs) r2 (thread g2 (none ∷ vs) r2) refl refl (tells_nothing u1 u1 refl refl refl)
          (set_slot E x (t, true) at_x u1 m kept.held (plain null) (none ∷ vs) (none ∷ vs) r2))
          (stops_behind E.site 1 (1 + 1) u1 u1 u1 m m (thread g2 (none ∷ vs) r2) (thread g2 (I32 1 ∷ vs) r3) exhausted
          (one_here E.site u1 m m (Segment segment.IsNull) g2 (none ∷ vs) r3 (thread g2 (I32 1 ∷ vs) r3) refl)
          (stops_behind E.site 1 1 u1 u1 u1 m m (thread g2 (I32 1 ∷ vs) r3) (thread g2 vs (Do Unreachable ∷ ru)) exhausted
          (one_here E.site u1 m m (If None J None) g2 (I32 1 ∷ vs) r (thread g2 vs (Do Unreachable ∷ ru)) (ap (λ (is : List Instr). step.Next (goes.store E.site m) (thread g2 vs (front is ru)) None) arm))
          (trapped E.site u1 m Unreachable g2 vs ru traps.Unreachable exhausted refl tt refl tt)))))))

    pub enters_object : HasAll E.site.funcs E.fn j (c j).seqs → Runs E.site (size_of (c j)) m t0 w to Opened (meant w)
    enters_object has ag = by (new_goes E now frame s 1 slot.fits vs r1 w m kept (agrees_after E.site 1 w w m m t0 t1 first_goes ag)) where
      by : NewGoes E now frame s 1 slot.fits vs r1 w m kept → Goal (meant w)
      by (granted gs e M) = made_runs gs e M
      by (refused' gs e g) = refuses has.0 gs e g
      by (unasked e st) =
          subst Goal (sym (ap meant (with_grants [] e)))
          (subst (λ (w0 : World). Stops E.site (size_of (c j)) w w0 m t0 ungranted) (with_grants [] e)
          (resize_to E.site (1 + 1) (size_of (c j)) m t0 w to Opened (ends ungranted w) (omega arith) (stops_behind E.site 1 1 w w w m m t0 t1 ungranted first_goes st)))
