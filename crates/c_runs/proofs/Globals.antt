-- Variables at file scope and string literals in code: they are read and written by their globals.
use Rattle.std.proofs.Common.{◌≡◌, ℕ, zero, suc, ◌+◌, ◌*◌, ◌^◌, ◌<◌, ◌≤◌, List, [], ◌∷◌, length, Bool, true, false, Option, Some, None, refl, sym, ap, ◌∙◌, arith, subst}
use Rattle.std.specs.Prelude.{pos, cond, slice_get, slice_set}
use Rattle.std.proofs.lemmas.Bool.{le-leb}
use Rattle.std.proofs.lemmas.Option.{slice_get_within}
use Rattle.ms_handle.specs.declared.handle.Handle.{Handle as HandleOf}
use Rattle.ms_handle.specs.declared.handle.Handle.TheVariants as handles
use Rattle.ms_handle.specs.Handle.{seal, slice}
use Rattle.ms_linear.specs.declared.global.GlobalInst.{GlobalInst}
use Rattle.ms_linear.specs.declared.value.Value.{Value as Word}
use Rattle.ms_linear.specs.declared.value.Value.TheVariants.{Handle}
use Rattle.ms_machine.specs.Segments.{seal_event}
use Rattle.ms_machine.specs.Step as step
use Rattle.ms_machine.specs.Step.{act}
use Rattle.ms_machine.specs.Store.{at as at_address, global_address}
use Rattle.ms_machine.specs.declared.store.Instance.{Instance}
use Rattle.ms_module.specs.declared.access.Segment.TheVariants as segment
use Rattle.ms_module.specs.declared.instr.Instr.TheVariants.{GlobalGet, GlobalSet, Segment}
use Rattle.ms_task.specs.Thread.{Do, Item, thread}
use Rattle.c_types.specs.declared.integers.IntType.TheVariants.{Char}
use Rattle.c_types.specs.Layout.{IsSmall, Table}
use Rattle.c_types.specs.Types.{Ty, integer, pointer, array}
use Rattle.c_typed.specs.declared.ops.Variable.TheVariants.{Global}
use Rattle.c_typed.specs.Tree as tree
use Rattle.c_typed.specs.Tree.{Typed, of}
use Rattle.c_typed.specs.Units.{literals_in, variables_in}
use Rattle.c_typed.specs.refinement.Expressions.{is_visible}
use Rattle.c_meaning.specs.Shapes.{Shape, shape, size}
use Rattle.c_meaning.specs.Values.{Value, inside, points}
use Rattle.c_meaning.specs.Objects as objects
use Rattle.c_meaning.specs.Objects.{Outcome, to_object, whole_of}
use Rattle.c_meaning.specs.World.{Held, plain, object, World, Result, gives, after, as_done, known, ◌>>◌, pure}
use Rattle.c_meaning.specs.Accesses.{hold, with_held}
use Rattle.c_meaning.specs.Expressions as meaning
use Rattle.c_meaning.specs.Expressions.{Spot, at, variable, expr, fetch, place, plain_value, spot_of, store}
use Rattle.c_meaning.specs.Units.{is_global_object}
use Rattle.ms_emit.specs.Codes.{plain as bare, one}
use Rattle.c_code.specs.Targets.{Target, get, set, tee}
use Rattle.ms_relate.specs.refinement.Homes.{Home, IsScalar, handle, handle_in, is_pointer}
use Rattle.ms_relate.specs.refinement.Laid.{Fits}
use Rattle.ms_relate.proofs.Acts.{act_gives}
use Rattle.ms_relate.proofs.Moving.{is_of_leads, leads_of}
use Rattle.ms_relate.proofs.Near.{first_near}
use Rattle.ms_relate.proofs.Parts.{inside_part, name_all}
use Rattle.c_runs.proofs.Goes as goes
use Rattle.c_runs.proofs.Goes.{Goes, Mem, RunsTo, goes_on, one as one_step, one_here, tells_nothing}
use Rattle.c_runs.proofs.Held.{Found, IsObjectAt, Slot, found, object_at, object_word, some_is, words}
use Rattle.c_runs.proofs.Files.{Filed, Reached, TextAt, filed_set, first_of, global_of, global_there}
use Rattle.c_runs.proofs.Values.{pushed_is, value_still, word_of, word_still}
use Rattle.c_runs.proofs.Related.{Env, IsSlot, IsValue, Kept, Now, Starts, extends_trans, frame_of, pushes}
use Rattle.c_runs.proofs.Ops.{GoodIn, OpIn, ToIn, at_work, same}
use Rattle.c_runs.proofs.Nodes.{Always, Leaves, PlainAt, Spot_of, gone}
use Rattle.c_runs.proofs.Operations.{AtHome, Linked}
use Rattle.c_runs.proofs.Steps.{IsQuiet, event_goes, quiet_tells}
use Rattle.c_runs.proofs.Scalars.{IsData}
use Rattle.c_runs.proofs.Cells.{LeadsTo, object_near, spot_pushed}
use Rattle.c_runs.proofs.Members.{IsAll, LeadsAll}

-- ---- the variables at file scope of a unit, and what is made before `main`

abbrev pub files_from : Typed → (n : ℕ) → List Ty → List Slot
files_from u n [] = []
files_from u n (t ∷ ts) = (t, is_global_object u n t) ∷ files_from u (suc n) ts

abbrev pub file_slots : Typed → List Slot
file_slots u = files_from u 0 u.globals

abbrev pub all_reached : Typed → Reached
all_reached u = record { named = variables_in u.made; texts = literals_in u.made; sealed = literals_in u.made }

-- what code may name at file scope: variables of these types, and so many literals
pub record NamesOf (structs : Table) (files : List Slot) (reached : Reached) (target : Target) (globals : List Ty) (literals : ℕ) : Type 0 where
  pub kinds : (x : ℕ) (t : Ty) → slice_get globals x ≡ Some t → slice_get files x ≡ Some (t, target.is_object (Global x))
  pub seen : (x : ℕ) (t : Ty) → slice_get globals x ≡ Some t → is_visible reached.named x ≡ true
  pub sizes : (x : ℕ) (t : Ty) → slice_get globals x ≡ Some t → IsSmall structs t
  pub data_are : (x : ℕ) (t : Ty) → slice_get globals x ≡ Some t → target.is_object (Global x) ≡ false → IsData t
  pub texts : literals ≤ reached.texts
  pub behind : target.globals ≡ length files

module _ (E : Env) (L : Linked E.site) (home : AtHome E) where
  -- ---- a global

  global_at : (w : World) (m : Mem) (x : ℕ) → x < E.site.shared → global_address (Rattle.ms_machine.specs.Store.instance_of (goes.store E.site m) (frame_of E m w)) x ≡ Some x
  global_at w m x lt =
      ap (λ (o : Option ℕ). global_address (at_address E.site.instances o) x) home
      ∙ ap (λ (is : List Instance). global_address (slice_get is 0) x) L.alone
      ∙ L.shared x lt

  pub get_global : (w : World) (m : Mem) (x : ℕ) (v : Word) (vs : List Word) (r : List Item) → x < E.site.shared → slice_get m.globals x ≡ Some (global_of v)
      → act (goes.store E.site m) (GlobalGet x) (thread (frame_of E m w) vs r) ≡ step.Next (goes.store E.site m) (thread (frame_of E m w) (v ∷ vs) r) None
  get_global w m x v vs r lt e =
      ap (λ (a : Option ℕ). step.pushed (goes.store E.site m) (thread (frame_of E m w) vs r) (step.value_in (at_address m.globals a))) (global_at w m x lt)
      ∙ ap (λ (g : Option GlobalInst). step.pushed (goes.store E.site m) (thread (frame_of E m w) vs r) (step.value_in g)) e

  abbrev pub with_global : Mem → ℕ → Word → Mem
  with_global m x v = record m { globals = slice_set m.globals x (global_of v) }

  pub set_global : (w : World) (m : Mem) (x : ℕ) (u v : Word) (vs : List Word) (r : List Item) → x < E.site.shared → slice_get m.globals x ≡ Some (global_of u)
      → act (goes.store E.site m) (GlobalSet x) (thread (frame_of E m w) (v ∷ vs) r) ≡ step.Next (goes.store E.site (with_global m x v)) (thread (frame_of E m w) vs r) None
  set_global w m x u v vs r lt e =
      let s = goes.store E.site m in
      let t = thread (frame_of E m w) (v ∷ vs) r in
      ap (λ (a : Option ℕ). step.set_global s t a v vs) (global_at w m x lt) ∙ ap (λ (g : Option GlobalInst). step.set_global_at s t x g v vs) e

  shared_is : (now : Now) (w : World) (m : Mem) → Kept E now w m → (x : ℕ) (g : GlobalInst) → slice_get m.globals x ≡ Some g → x < E.site.shared
  shared_is now w m k x g e = let a = slice_get_within m.globals x g e in let b = k.file.long in omega (arith, a, b)

  -- ---- a plain variable

  module _ (x : ℕ) (t : Ty) (scalar : IsScalar t) (at_x : slice_get E.files x ≡ Some (t, false)) where
    abbrev found_in : (now : Now) (w : World) (m : Mem) → Kept E now w m → Found E.unit.structs E.places E.files m.homes w.globals x t
    found_in now w m k = found E.unit.structs E.places E.files m.homes w.globals x t k.file.held at_x

    place_is : (now : Now) (w : World) (m : Mem) → Kept E now w m → Spot_of E (Global x) w ≡ gives (variable (Global x)) w
    place_is now w m k = let f = found_in now w m k in ap (λ (o : Option Held). after (known o w) (λ h. pure (spot_of (Global x) h))) f.is

    fetch_is : (now : Now) (w : World) (m : Mem) (k : Kept E now w m) → fetch (variable (Global x)) w ≡ gives (found_in now w m k).value w
    fetch_is now w m k = ap (λ (o : Option Held). after (known o w) plain_value) (found_in now w m k).is

    word_there : (now : Now) (w : World) (m : Mem) (k : Kept E now w m) → slice_get m.globals x ≡ Some (global_of (word_of E.places t m.homes (found_in now w m k).value))
    word_there now w m k = let f = found_in now w m k in k.file.words_are x (word_of E.places t m.homes f.value) f.word_is

    gets : (now : Now) (w : World) (m : Mem) (k : Kept E now w m) (vs : List Word) (r : List Item)
        → Goes E.site 1 w w m (at_work E m w vs (Do (GlobalGet x) ∷ r)) m (at_work E m w (word_of E.places t m.homes (found_in now w m k).value ∷ vs) r)
    gets now w m k vs r =
        let v = word_of E.places t m.homes (found_in now w m k).value in
        let e = word_there now w m k in
        one_here E.site w m m (GlobalGet x) (frame_of E m w) vs r (thread (frame_of E m w) (v ∷ vs) r) (get_global w m x v vs r (shared_is now w m k x (global_of v) e) e)

    fetch_runs : Leaves E (one (get E.target (Global x))) t (fetch (variable (Global x)))
    fetch_runs n has now le vs r dep w m k ag =
        let f = found_in now w m k in
        let start = at_work E m w vs (Do (GlobalGet x) ∷ r) in
        subst (λ (y : Result Value). RunsTo E.site 1 m start w (ToIn E (pushes E t) vs r) (GoodIn E (IsValue E t) now) y) (sym (fetch_is now w m k)) (
          m,
          (f.is_value, k),
          subst (λ (us : List Word). Goes E.site 1 w w m start m (at_work E m w us r)) (sym (pushed_is E.unit.structs E.places m.homes t f.value vs scalar)) (gets now w m k vs r),
        )

    fetch_twice_runs : OpIn E [] (bare (get E.target (Global x) ∷ get E.target (Global x) ∷ [])) same (λ hs v vs. pushes E t hs v (pushes E t hs v vs)) (IsValue E t) (fetch (variable (Global x)))
    fetch_twice_runs n has now le vs r dep w m k ag =
        let f = found_in now w m k in
        let v = word_of E.places t m.homes f.value in
        let is = pushed_is E.unit.structs E.places m.homes t f.value in
        let start = at_work E m w vs (Do (GlobalGet x) ∷ Do (GlobalGet x) ∷ r) in
        subst (λ (y : Result Value). RunsTo E.site 2 m start w (ToIn E (λ hs v us. pushes E t hs v (pushes E t hs v us)) vs r) (GoodIn E (IsValue E t) now) y) (sym (fetch_is now w m k)) (
          m,
          (f.is_value, k),
          subst (λ (us : List Word). Goes E.site 2 w w m start m (at_work E m w us r)) (sym (is (pushes E t m.homes f.value vs) scalar ∙ ap (λ (us : List Word). v ∷ us) (is vs scalar)))
              (goes_on E.site 1 1 w w w m m m start (at_work E m w (v ∷ vs) (Do (GlobalGet x) ∷ r)) (at_work E m w (v ∷ v ∷ vs) r) (gets now w m k vs (Do (GlobalGet x) ∷ r)) (gets now w m k (v ∷ vs) r)),
        )

    module _ (hs : List Home) (v : Value) (i : IsValue E t hs v) where
      abbrev written : World → World
      written w = with_held (Global x) (plain v) w

      abbrev top : Word
      top = word_of E.places t hs v

      abbrev after_set : Mem → Mem
      after_set m = with_global m x top

      still : (now : Now) (w : World) (m : Mem) → Starts E hs now → Kept E now w m → IsValue E t m.homes v
      still now w m le k = value_still E.unit.structs E.places hs m.homes (extends_trans hs now.homes m.homes le.grown k.grown) t v i

      same_word : (now : Now) (w : World) (m : Mem) → Starts E hs now → Kept E now w m → word_of E.places t m.homes v ≡ top
      same_word now w m le k = word_still E.unit.structs E.places hs m.homes (extends_trans hs now.homes m.homes le.grown k.grown) t v i

      kept_written : (now : Now) (w : World) (m : Mem) → Starts E hs now → Kept E now w m → Kept E now (written w) (after_set m)
      kept_written now w m le k = record {
        held = k.held;
        deep = k.deep;
        less = k.less;
        bytes = k.bytes;
        temps = k.temps;
        grown = k.grown;
        related = k.related;
        open' = k.open';
        apart = k.apart;
        own = k.own;
        lasts = k.lasts;
        file = subst (λ (u : Word). Filed E.unit.structs E.places E.files E.reached E.site.shared m.homes (slice_set w.globals x (plain v)) w.literals (slice_set m.globals x (global_of u))) (same_word now w m le k)
            (filed_set E.unit.structs E.places E.files E.reached E.site.shared m.homes w.globals w.literals m.globals k.file x t v at_x (still now w m le k));
      }

      sets_one : (now : Now) (w : World) (m : Mem) → Kept E now w m → (vs : List Word) (r : List Item)
          → Goes E.site 1 w (written w) m (at_work E m w (top ∷ vs) (Do (GlobalSet x) ∷ r)) (after_set m) (at_work E (after_set m) (written w) vs r)
      sets_one now w m k vs r =
          let old = global_there E.unit.structs E.places E.files E.reached E.site.shared m.homes w.globals w.literals m.globals k.file x (t, false) (plain v) at_x in
          one_step E.site w (written w) m (after_set m) (GlobalSet x) (frame_of E m w) (top ∷ vs) r (thread (frame_of E m w) vs r) refl refl (tells_nothing w (written w) refl refl refl)
          (set_global w m x old.0 top vs r (shared_is now w m k x (global_of old.0) old.1) old.1)

      set_runs : OpIn E hs (one (set E.target (Global x))) (λ vs. top ∷ vs) (λ gs. gone E) (λ gs. Always E) (hold (Global x) (plain v))
      set_runs n has now le vs r dep w m k ag = (after_set m, (tt, kept_written now w m le k), sets_one now w m k vs r)

      tee_runs : OpIn E hs (tee E.target (Global x)) (λ vs. top ∷ vs) (pushes E t) (IsValue E t) (store (variable (Global x)) v >> pure v)
      tee_runs n has now le vs r dep w m k ag =
          let k' = kept_written now w m le k in
          let m' = after_set m in
          let w' = written w in
          let start = at_work E m w (top ∷ vs) (Do (GlobalSet x) ∷ Do (GlobalGet x) ∷ r) in
          let f = found_in now w' m' k' in
          let there = held_there now w m k in
          let is : word_of E.places t m.homes f.value ≡ top = ap (word_of E.places t m.homes) (plain_is f.value v (some_is (plain f.value) (plain v) (sym f.is ∙ there))) ∙ same_word now w m le k in (
            m',
            (still now w m le k, k'),
            subst (λ (us : List Word). Goes E.site 2 w w' m start m' (at_work E m' w' us r)) (sym (pushed_is E.unit.structs E.places m.homes t v vs scalar ∙ ap (λ (u : Word). u ∷ vs) (same_word now w m le k)))
                (goes_on E.site 1 1 w w' w' m m' m' start (at_work E m' w' vs (Do (GlobalGet x) ∷ r)) (at_work E m' w' (top ∷ vs) r) (sets_one now w m k vs (Do (GlobalGet x) ∷ r))
                (subst (λ (u : Word). Goes E.site 1 w' w' m' (at_work E m' w' vs (Do (GlobalGet x) ∷ r)) m' (at_work E m' w' (u ∷ vs) r)) is (gets now w' m' k' vs r))),
          )
        where
          held_there : (now : Now) (w : World) (m : Mem) → Kept E now w m → slice_get (slice_set w.globals x (plain v)) x ≡ Some (plain v)
          held_there now w m k = let f = found_in now w m k in Rattle.c_runs.proofs.Held.set_there w.globals x (plain v) (slice_get_within w.globals x (plain f.value) f.is)

          plain_is : (a b : Value) → plain a ≡ plain b → a ≡ b
          plain_is a b e = ap (λ (h : Held). or h) e where
            or : Held → Value
            or (plain c) = c
            or (object k) = a

    pub global_plain : PlainAt E (Global x) t
    global_plain = record {
      scalar = scalar;
      is_here = λ now w m k. place_is now w m k;
      fetches = fetch_runs;
      fetches_twice = fetch_twice_runs;
      sets = λ hs v i. set_runs hs v i;
      tees = λ hs v i. tee_runs hs v i;
    }

  -- ---- an object's variable

  pub global_all : (x : ℕ) (t : Ty) → slice_get E.files x ≡ Some (t, true) → is_visible E.reached.named x ≡ true → IsSlot E.unit.structs t → LeadsAll E (one (get E.target (Global x))) t (place E.unit E.calls (of (Global x)))
  global_all x t at_x seen slot n has now le vs r dep w m k ag =
      let l = k.file.named x t seen at_x in
      let p = to_object l.0 in
      let o = object_at E.unit.structs E.places E.files m.homes w.globals x t l.0 k.file.held at_x l.1 in
      let is : place E.unit E.calls (of (Global x)) w ≡ gives (at p) w = ap (λ (h : Option Held). after (known h w) (λ q. pure (spot_of (Global x) q))) l.1 in
      let leads : LeadsTo E t m.homes p = is_pointer o.home (whole_of o.home.shape o.home.count) slot.is_data o.at refl o.shape_is (object_near E l.0 t m.homes slot o) in
      let all = subst (λ (s : Shape). slice (handle m.homes p) 0 (size s) ≡ handle m.homes p) o.shape_is (name_all E.unit.structs E.places m.homes l.0 o.home o.at o.one) in
      let H = Handle (handle m.homes p) in
      let e = k.file.words_are x H (object_word E.unit.structs E.places E.files m.homes w.globals x t l.0 at_x l.1) in
      subst (λ (y : Result Spot). RunsTo E.site 1 m (at_work E m w vs (Do (GlobalGet x) ∷ r)) w (ToIn E (spot_pushed E) vs r) (GoodIn E (IsAll E t) now) y) (sym is) (
        m,
        ((leads, all), k),
        one_here E.site w m m (GlobalGet x) (frame_of E m w) vs r (thread (frame_of E m w) (H ∷ vs) r) (get_global w m x H vs r (shared_is now w m k x (global_of H) e) e),
      )

  -- ---- a string literal (6.4.5): the array that its object is one of

  all_of : (b : Bool) (id l : ℕ) → slice (handles.Good b id 0 l (pos 0)) 0 l ≡ handles.Good b id 0 l (pos 0)
  all_of b id l = ap (λ (c : Bool). cond c (handles.Good b id 0 l (pos 0)) handles.Broken) (le-leb (0 + l) l (omega arith))

  text_handle : (hs : List Home) (n : ℕ) (b : Bool) (h : Home) → slice_get hs n ≡ Some h → handle hs (points (first_of b n)) ≡ handles.Good b h.id 0 (h.count * size h.shape) (pos 0)
  text_handle hs n b h there = ap (λ (o : Option Home). handle_in o (first_of b n)) there ∙ ap (λ (x : ℕ). handles.Good b h.id 0 (h.count * size h.shape) (pos x)) (omega arith)

  -- its handle is the whole of its array of one
  text_all : (hs : List Home) (n : ℕ) (b : Bool) (h : Home) → slice_get hs n ≡ Some h → h.count ≡ 1 → slice (handle hs (points (first_of b n))) 0 (size h.shape) ≡ handle hs (points (first_of b n))
  text_all hs n b h there alone =
      let length : h.count * size h.shape ≡ size h.shape = ap (λ (c : ℕ). c * size h.shape) alone ∙ omega arith in
      let good : handle hs (points (first_of b n)) ≡ handles.Good b h.id 0 (size h.shape) (pos 0) = text_handle hs n b h there ∙ ap (λ (l : ℕ). handles.Good b h.id 0 l (pos 0)) length in
      ap (λ (g : HandleOf). slice g 0 (size h.shape)) good ∙ all_of b h.id (size h.shape) ∙ sym good

  module _ (i : ℕ) (few : i < E.reached.texts) (behind : E.target.globals ≡ length E.files) where
    abbrev found_text : World → Option ℕ
    found_text w = slice_get w.literals i

    pub text_is : (now : Now) (w : World) (m : Mem) → Kept E now w m → (n : ℕ) × (slice_get w.literals i ≡ Some n)
    text_is now w m k = there w.literals i (let e = k.file.as_many in omega (arith, few, e)) where
      there : (ns : List ℕ) (j : ℕ) → j < length ns → (n : ℕ) × (slice_get ns j ≡ Some n)
      there [] j lt = absurd (omega (arith, lt))
      there (n ∷ ns) zero lt = (n, refl)
      there (n ∷ ns) (suc j) lt = there ns j (omega (arith, lt))

    abbrev pub at_text : (now : Now) (w : World) (m : Mem) (k : Kept E now w m) → TextAt E.unit.structs (length E.files) E.reached.sealed m.homes m.globals i (text_is now w m k).0
    at_text now w m k = let n = text_is now w m k in k.file.texts_are i n.0 n.1

    -- the pointer to its first char
    pub inside_text : (now : Now) (w : World) (m : Mem) (k : Kept E now w m) (b : Bool)
        → (v : Value) × (objects.further inside w.objects (points (first_of b (text_is now w m k).0)) ≡ objects.gives v) × IsValue E (pointer (integer Char)) m.homes v × (handle m.homes v ≡ handle m.homes (points (first_of b (text_is now w m k).0)))
    inside_text now w m k b =
        let n = text_is now w m k in
        let t = at_text now w m k in
        let o = t.object_is in
        let u = array (integer Char) t.count in
        let p = points (first_of b n.0) in
        let fits : Fits (shape E.unit.structs u) = (t.some, omega arith) in
        let small : size (shape E.unit.structs u) < 2 ^ 32 = let s = t.small in omega (arith, s) in
        let all : o.home.count * size o.home.shape ≡ 1 * size (shape E.unit.structs u) = ap (λ (c : ℕ). c * size o.home.shape) o.one ∙ ap (λ (s : Shape). 1 * size s) o.shape_is in
        let near = first_near n.0 [] b (whole_of o.home.shape o.home.count) (omega (arith, all, small)) (subst (λ (s : Shape). size s < 4294967296) (sym o.shape_is) small) in
        let leads : LeadsTo E u m.homes p = is_pointer o.home (whole_of o.home.shape o.home.count) refl o.at refl o.shape_is near in
        let g = inside_part E.unit.structs E.places m.homes w.objects m.segments (shape E.unit.structs (integer Char)) t.count p k.related (leads_of E.unit.structs E.places m.homes u p refl leads) in
        let whole = subst (λ (s : Shape). slice (handle m.homes p) 0 (size s) ≡ handle m.homes p) o.shape_is (text_all m.homes n.0 b o.home o.at o.one) in
        (g.0, g.1, is_of_leads E.unit.structs E.places m.homes (integer Char) g.0 refl g.2, g.3 ∙ whole)

    pub got : (now : Now) (w : World) (m : Mem) (k : Kept E now w m) (vs : List Word) (r : List Item)
        → Goes E.site 1 w w m (at_work E m w vs (Do (GlobalGet (E.target.globals + i)) ∷ r)) m (at_work E m w (Handle (handle m.homes (points (first_of (at_text now w m k).is_sealed (text_is now w m k).0))) ∷ vs) r)
    got now w m k vs r =
        let t = at_text now w m k in
        let H = Handle (handle m.homes (points (first_of t.is_sealed (text_is now w m k).0))) in
        let e : slice_get m.globals (E.target.globals + i) ≡ Some (global_of H) = ap (λ (a : ℕ). slice_get m.globals (a + i)) behind ∙ t.word_is in
        one_here E.site w m m (GlobalGet (E.target.globals + i)) (frame_of E m w) vs r (thread (frame_of E m w) (H ∷ vs) r) (get_global w m (E.target.globals + i) H vs r (shared_is now w m k (E.target.globals + i) (global_of H) e) e)

    pub sealed_once : (hs : List Home) (n : ℕ) (b : Bool) → seal (handle hs (points (first_of b n))) ≡ handle hs (points (first_of true n))
    sealed_once hs n b = by (slice_get hs n) where
      by : (o : Option Home) → seal (handle_in o (first_of b n)) ≡ handle_in o (first_of true n)
      by None = refl
      by (Some h) = refl

    quiet_seal : (h : HandleOf) → IsQuiet (seal_event h)
    quiet_seal handles.Null = tt
    quiet_seal handles.Broken = tt
    quiet_seal (handles.Good true id base length offset) = tt
    quiet_seal (handles.Good false id base length offset) = tt

    -- a handle is sealed
    pub seals : (w : World) (m : Mem) (h : HandleOf) (vs : List Word) (r : List Item)
        → Goes E.site 1 w w m (at_work E m w (Handle h ∷ vs) (Do (Segment segment.Seal) ∷ r)) m (at_work E m w (Handle (seal h) ∷ vs) r)
    seals w m h vs r =
        event_goes E.site w w m m (Segment segment.Seal) (frame_of E m w) (Handle h ∷ vs) r (thread (frame_of E m w) (Handle (seal h) ∷ vs) r) (seal_event h) refl refl
        (quiet_tells E.site w w (seal_event h) (quiet_seal h) refl refl refl)
        (act_gives (goes.store E.site m) (frame_of E m w) r segment.Seal (Handle h ∷ vs) (Handle (seal h) ∷ vs) m.segments (seal_event h) refl)

    pub literal_runs : Leaves E (bare (GlobalGet (E.target.globals + i) ∷ Segment segment.Seal ∷ [])) (pointer (integer Char)) (expr E.unit E.calls (tree.literal i))
    literal_runs n has now le vs r dep w m k ag =
        let o = text_is now w m k in
        let t = at_text now w m k in
        let x = inside_text now w m k true in
        let start = at_work E m w vs (Do (GlobalGet (E.target.globals + i)) ∷ Do (Segment segment.Seal) ∷ r) in
        let H = handle m.homes (points (first_of t.is_sealed o.0)) in
        let is : expr E.unit E.calls (tree.literal i) w ≡ gives x.0 w =
        ap (λ (q : Option ℕ). after (known q w) (λ j. meaning.further inside (meaning.sealed (to_object j)))) o.1 ∙ ap (λ (q : Outcome Value). as_done q w) x.1 in
        subst (λ (y : Result Value). RunsTo E.site 2 m start w (ToIn E (pushes E (pointer (integer Char))) vs r) (GoodIn E (IsValue E (pointer (integer Char))) now) y) (sym is) (
          m,
          (x.2, k),
          subst (λ (h : HandleOf). Goes E.site 2 w w m start m (at_work E m w (Handle h ∷ vs) r)) (sealed_once m.homes o.0 t.is_sealed ∙ sym x.3)
              (goes_on E.site 1 1 w w w m m m start (at_work E m w (Handle H ∷ vs) (Do (Segment segment.Seal) ∷ r)) (at_work E m w (Handle (seal H) ∷ vs) r) (got now w m k vs (Do (Segment segment.Seal) ∷ r)) (seals w m H vs r)),
        )
