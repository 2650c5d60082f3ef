-- Blocks of C: their variables are entered, and their objects freed in whatever way they are left.
use Rattle.std.proofs.Common.{◌≡◌, ℕ, zero, suc, ◌+◌, ◌<◌, ◌≤◌, List, [], ◌∷◌, ◌++◌, length, append_assoc, append-nil, Bool, true, false, Option, Some, refl, sym, ap, ◌∙◌, arith, subst}
use Rattle.std.specs.Prelude.{get_or, slice_get}
use Rattle.ms_linear.specs.declared.value.Value.{Value as Word}
use Rattle.ms_task.specs.Thread.{Frame, Item, Thread, depth_of}
use Rattle.c_types.specs.Layout.{Table, size}
use Rattle.c_types.specs.Types.{Ty, void, scalar_of}
use Rattle.c_typed.specs.declared.ops.Variable.TheVariants.{Local}
use Rattle.c_typed.specs.refinement.Expressions.{is_visible}
use Rattle.c_meaning.specs.Objects.{Object}
use Rattle.c_meaning.specs.Accesses.{hold}
use Rattle.c_meaning.specs.Values.{zero_value}
use Rattle.c_meaning.specs.World.{plain, World, Result, gives, Does, after, ◌>>=◌, ◌>>◌, pure, known}
use Rattle.c_meaning.specs.Statements.{Flow, next, broken, continued, returned, enter, enter_slot, leave}
use Rattle.ms_emit.specs.Codes.{Code, ◌⨾◌, size_of}
use Rattle.c_code.specs.Statements.{entered, enters, made, zeroed}
use Rattle.ms_relate.specs.refinement.Homes.{Home}
use Rattle.c_runs.proofs.Goes.{Goes, Mem, Runs, RunsTo, behind_goes, bind, goes_on, here, shifts, sized, tells_nothing, weaker}
use Rattle.c_runs.proofs.Held.{AreOpen, Slot, ending, found, other_kind}
use Rattle.c_runs.proofs.Ending.{Differ, Disjoint, ending_both, ending_lasts, ending_lives, leave_is, visible_either, visible_first, visible_left, visible_rest, visible_right}
use Rattle.c_runs.proofs.Related.{Env, HasAll, Kept, Starts, KeptAs, Now, depth_front, front, front_append, has_back, has_front, kept_seen, kept_temps, seeing, beside}
use Rattle.c_runs.proofs.Ops.{Op, at_work, same, size_joined}
use Rattle.c_runs.proofs.Nodes.{Always, gone}
use Rattle.c_runs.proofs.Flows.{Around, FlowIn, FlowOut, FlowRuns, GoodFlow, IsAt, Off, Way, after_flow, ahead, around_front, starts, to_flow, way}
use Rattle.c_runs.proofs.Switches.{HeldRuns}
use Rattle.c_runs.proofs.Makes.{enters_object, get_is, only_one}
use Rattle.c_runs.proofs.Blocks.{AreLeaving, IsLeaving, closing_all, frees, frees_go, object_leaving, plain_leaving}

-- these slots are the function's, and may be named
abbrev pub Among : Env → List ℕ → List ℕ → Type 0
Among E vs ns = (x : ℕ) → is_visible ns x ≡ true → (x < length E.slots) × (is_visible vs x ≡ true)

-- the slots of blocks that a way out leaves
pub record IsOff (E : Env) (vs ns : List ℕ) : Type 0 where
  pub differ : Differ ns
  pub among : Among E vs ns

-- with those of one more block
abbrev pub with_off : List ℕ → Off → Off
with_off ns off = record { broken = ns ++ off.broken; continued = ns ++ off.continued; returned = ns ++ off.returned }

slot_there : (ts : List Ty) (x : ℕ) → x < length ts → (t : Ty) × (slice_get ts x ≡ Some t)
slot_there [] x lt = absurd (omega (arith, lt))
slot_there (t ∷ ts) zero lt = (t, refl)
slot_there (t ∷ ts) (suc x) lt = slot_there ts x (omega (arith, lt))

module _ (E : Env) where
  -- ---- a way out, behind its frees

  leaving_at : (now : Now) (os : List Object) (w : World) (m : Mem) → KeptAs E now os w m → (x : ℕ) → x < length E.slots → is_visible now.visible x ≡ true → IsLeaving E w.objects w.locals x
  leaving_at now os w m k x lt seen =
      let s = slot_there E.slots x lt in
      by s.0 (E.target.is_object (Local x)) refl (E.kinds_are x s.0 s.1)
    where
      by : (t : Ty) (b : Bool) → E.target.is_object (Local x) ≡ b → slice_get E.kinds x ≡ Some (t, E.target.is_object (Local x)) → IsLeaving E w.objects w.locals x
      by t true e at = let at' = at ∙ ap (λ (c : Bool). Some (t, c)) e in object_leaving t e at' (k.open' x t seen at')
      by t false e at =
          let at' = at ∙ ap (λ (c : Bool). Some (t, c)) e in
          let f = found E.unit.structs E.places E.kinds m.homes w.locals x t k.held at' in
          plain_leaving f.value e f.is

  pub leaving_all : (now : Now) (os : List Object) (w : World) (m : Mem) (vs ns : List ℕ) → now.visible ≡ vs → Among E vs ns → KeptAs E now os w m → AreLeaving E w.objects w.locals ns
  leaving_all now os w m vs ns e among k x seen = let a = among x seen in leaving_at now os w m k x a.0 (ap (λ (us : List ℕ). is_visible us x) e ∙ a.1)

  pub frees_out : (l : Way) (hs : List Home) (f : Flow) (b c : ℕ) (tail : Code) (pre : List Word → List Word) → IsOff E E.visible (ahead l.off f) → FlowOut E l hs f b c tail pre → FlowIn E l hs b c (frees E (ahead l.off f) ⨾ tail) pre (pure f)
  frees_out l hs f b c tail pre off h n has small now le vs r br cr rr caller a dep w m more k =
      let is = ahead l.off f in
      let cf = frees E is n in
      let n' = n + length cf.seqs in
      let ct = tail n' in
      let to = to_flow E vs r br cr rr caller in
      let sizes = size_joined cf ct in
      let g = frees_go E is now w.objects w m k off.differ (leaving_all now w.objects w m E.visible is le.seen off.among k) in
      let m2 : Mem = record m { segments = g.0 } in
      subst (λ (s : ℕ). Runs E.site s m (at_work E m w (pre vs) (front (cf.instrs ++ ct.instrs) r)) w to (GoodFlow E l now) (gives f w)) sizes
      (subst (λ (q : List Item). Runs E.site (size_of cf + size_of ct) m (at_work E m w (pre vs) q) w to (GoodFlow E l now) (gives f w)) (sym (front_append cf.instrs ct.instrs r))
      (behind_goes E.site (size_of cf) (size_of ct) w w m m2 (at_work E m w (pre vs) (front cf.instrs (front ct.instrs r))) (at_work E m w (pre vs) (front ct.instrs r)) to (GoodFlow E l now) (gives f w) (g.2 n (pre vs) (front ct.instrs r))
      (h n' (has_back E.site.funcs E.fn n cf.seqs ct.seqs has) (omega (arith, sizes, small)) now le vs r br cr rr caller a dep w m2 more g.1)))

  -- ---- a block that is left

  -- the block's objects have ended, and its variables are named no more
  pub kept_left : (ns : List ℕ) (now : Now) (os : List Object) (w : World) (m : Mem) → Disjoint now.visible ns → KeptAs E (record now { visible = now.visible ++ ns }) os w m
      → KeptAs E now os (record w { objects = ending w.locals ns w.objects }) m
  kept_left ns now os w m apart k = record {
    held = k.held;
    deep = k.deep;
    less = k.less;
    bytes = k.bytes;
    temps = k.temps;
    grown = k.grown;
    related = k.related;
    open' = λ x t seen at. ending_lives w.locals k.apart ns w.objects x (apart x seen) (k.open' x t (visible_left now.visible ns x seen) at);
    apart = k.apart;
    own = k.own;
    lasts = ending_lasts w.locals now.objects k.own ns w.objects k.lasts;
    file = k.file;
  }

  module _ (ns : List ℕ) (differ : Differ ns) (among : (x : ℕ) → is_visible ns x ≡ true → x < length E.slots) (apart : Disjoint E.visible ns) where
    abbrev pub inner : Env
    inner = seeing (E.visible ++ ns) E

    abbrev pub opened : Now → Now
    opened now = record now { visible = now.visible ++ ns }

    abbrev pub leaves : Does (Unit {0})
    leaves = leave E.unit E.calls E.turn_bound E.kinds ns

    here_now : (now : Now) → now.visible ≡ E.visible → Disjoint now.visible ns
    here_now now e x seen = apart x (sym (ap (λ (us : List ℕ). is_visible us x) e) ∙ seen)

    inside : (now : Now) → now.visible ≡ E.visible → Among E (now.visible ++ ns) ns
    inside now e x seen = (among x seen, visible_right now.visible ns x seen)

    -- where the block is left so, its objects have ended
    module _ (l : Way) (now : Now) (at_now : now.visible ≡ E.visible) where
      abbrev li : Way
      li = record l { off = with_off ns l.off }

      abbrev left_world : World → World
      left_world w = record w { objects = ending w.locals ns w.objects }

      left_is : (q : Now) → q.visible ≡ now.visible ++ ns → (os : List Object) (w : World) (m : Mem) → KeptAs E q os w m → (f : Flow) → (leaves >> pure f) w ≡ gives f (left_world w)
      left_is q seen os w m k f =
          ap (λ (y : Result (Unit {0})). after y (λ u. pure f))
          (leave_is E.unit E.calls E.turn_bound E.kinds ns w k.apart differ
          (closing_all E w.objects w.locals ns (leaving_all q os w m (now.visible ++ ns) ns seen (inside now at_now) k)))

      stays_there : (w : World) (m : Mem) (t : Thread) → Goes E.site 0 w (left_world w) m t m t
      stays_there w m t = shifts E.site w (left_world w) m m.temps t refl refl (tells_nothing w (left_world w) refl refl refl)

      -- other than at its end: they have been freed
      jumps : (size : ℕ) (f : Flow) (is : List ℕ) (w : World) (m : Mem) (t : Thread) (to : Flow → World → Mem → Thread) → to f (left_world w) m ≡ t
          → ahead l.off f ≡ is → ahead li.off f ≡ ns ++ is → after_flow li f (opened now) ≡ opened (after_flow l f now)
          → GoodFlow inner li (opened now) f w m → Rattle.c_runs.proofs.Flows.IsFlow E l f m → Runs E.site size m t w to (GoodFlow E l now) ((leaves >> pure f) w)
      jumps size f is w m t to there e e' ea g ok ag =
          let os = ending w.locals is (ending w.locals ns w.objects) in
          let k0 : KeptAs E (after_flow li f (opened now)) (ending w.locals (ahead li.off f) w.objects) w m = g.1 in
          let k1 : KeptAs E (opened (after_flow l f now)) os w m = subst (λ (q : Now). KeptAs E q os w m) ea
          (subst (λ (qs : List Object). KeptAs E (after_flow li f (opened now)) qs w m) (ap (λ (js : List ℕ). ending w.locals js w.objects) e' ∙ ending_both w.locals ns is w.objects) k0) in
          let k2 = kept_left ns (after_flow l f now) os w m (here_now now at_now) k1 in
          subst (λ (y : Result Flow). RunsTo E.site size m t w to (GoodFlow E l now) y) (sym (left_is (opened (after_flow l f now)) refl os w m k1 f)) (
            m,
            (ok, subst (λ (js : List ℕ). KeptAs E (after_flow l f now) (ending w.locals js (ending w.locals ns w.objects)) (left_world w) m) (sym e) k2),
            subst (λ (t' : Thread). Goes E.site size w (left_world w) m t m t') (sym there) (sized E.site 0 size w (left_world w) m m t t (omega arith) (stays_there w m t)),
          )

      -- at its end they are freed
      ends_so : (n : ℕ) (vs : List Word) (r br cr rr : List Item) (caller : Frame) (w : World) (m : Mem) → GoodFlow inner li (opened now) next w m
          → Runs E.site (size_of (frees E ns n)) m (at_work E m w vs (front (frees E ns n).instrs r)) w (to_flow E vs r br cr rr caller) (GoodFlow E l now) ((leaves >> pure next) w)
      ends_so n vs r br cr rr caller w m g ag =
          let k : KeptAs E (opened now) w.objects w m = g.1 in
          let q = frees_go E ns (opened now) w.objects w m k differ (leaving_all (opened now) w.objects w m (now.visible ++ ns) ns refl (inside now at_now) k) in
          let m2 : Mem = record m { segments = q.0 } in
          let os = ending w.locals ns w.objects in
          subst (λ (y : Result Flow). RunsTo E.site (size_of (frees E ns n)) m (at_work E m w vs (front (frees E ns n).instrs r)) w (to_flow E vs r br cr rr caller) (GoodFlow E l now) y) (sym (left_is (opened now) refl w.objects w m k next)) (
            m2,
            (tt, kept_left ns now os w m2 (here_now now at_now) q.1),
            let z : size_of (frees E ns n) + 0 ≤ size_of (frees E ns n) = omega arith in
                sized E.site (size_of (frees E ns n) + 0) (size_of (frees E ns n)) w (left_world w) m m2 (at_work E m w vs (front (frees E ns n).instrs r)) (at_work E m2 (left_world w) vs r) z
                (goes_on E.site (size_of (frees E ns n)) 0 w w (left_world w) m m2 m2 (at_work E m w vs (front (frees E ns n).instrs r)) (at_work E m w vs r) (at_work E m2 (left_world w) vs r) (q.2 n vs r) (stays_there w m2 (at_work E m w vs r))),
          )

      -- behind what stands in the block
      pub left_so : (n : ℕ) (vs : List Word) (r br cr rr : List Item) (caller : Frame) (f : Flow) (w : World) (m : Mem) → GoodFlow inner li (opened now) f w m
          → Runs E.site (size_of (frees E ns n)) m (to_flow inner vs (front (frees E ns n).instrs r) br cr rr caller f w m) w (to_flow E vs r br cr rr caller) (GoodFlow E l now) ((leaves >> pure f) w)
      left_so n vs r br cr rr caller next w m g = ends_so n vs r br cr rr caller w m g
      left_so n vs r br cr rr caller broken w m g = jumps (size_of (frees E ns n)) broken l.off.broken w m (at_work E m w vs br) (to_flow E vs r br cr rr caller) refl refl refl refl g g.0
      left_so n vs r br cr rr caller continued w m g = jumps (size_of (frees E ns n)) continued l.off.continued w m (at_work E m w vs cr) (to_flow E vs r br cr rr caller) refl refl refl refl g g.0
      left_so n vs r br cr rr caller (returned v) w m g = jumps (size_of (frees E ns n)) (returned v) l.off.returned w m (to_flow E vs r br cr rr caller (returned v) w m) (to_flow E vs r br cr rr caller) refl refl refl refl g g.0

    -- code in the block, and then the frees
    pub block_behind : (l : Way) (b c : ℕ) (B : Code) (y : Does Flow) (n : ℕ) → HasAll E.site.funcs E.fn n ((B ⨾ frees E ns) n).seqs → (now : Now) → IsAt E l.depth now
        → (vs : List Word) (r br cr rr : List Item) (caller : Frame) → Around E vs r b c l br cr rr caller → depth_of r ≡ E.depth → (w : World) (m : Mem)
        → ((R : List Item) → Around E vs R b c l br cr rr caller → depth_of R ≡ E.depth → HasAll E.site.funcs E.fn n (B n).seqs
        → Runs E.site (size_of (B n)) m (at_work E m w vs (front (B n).instrs R)) w (to_flow inner vs R br cr rr caller) (GoodFlow inner (record l { off = with_off ns l.off }) (opened now)) (y w))
        → Runs E.site (size_of ((B ⨾ frees E ns) n)) m (at_work E m w vs (front ((B ⨾ frees E ns) n).instrs r)) w (to_flow E vs r br cr rr caller) (GoodFlow E l now) ((y >>= (λ f. leaves >> pure f)) w)
    block_behind l b c B y n has now le vs r br cr rr caller a dep w m h =
        let cb = B n in
        let n' = n + length cb.seqs in
        let cf = frees E ns n' in
        let R = front cf.instrs r in
        let to = to_flow E vs r br cr rr caller in
        let on = λ (f : Flow). leaves >> pure f in
        subst (λ (s : ℕ). Runs E.site s m (at_work E m w vs (front (cb.instrs ++ cf.instrs) r)) w to (GoodFlow E l now) (after (y w) on)) (size_joined cb cf)
        (subst (λ (q : List Item). Runs E.site (size_of cb + size_of cf) m (at_work E m w vs q) w to (GoodFlow E l now) (after (y w) on)) (sym (front_append cb.instrs cf.instrs r))
        (bind E.site (size_of cb) (size_of cf) m (at_work E m w vs (front cb.instrs R)) w (to_flow inner vs R br cr rr caller) (GoodFlow inner (record l { off = with_off ns l.off }) (opened now)) to (GoodFlow E l now) (y w) on
        (h R (around_front E cf.instrs vs r b c l br cr rr caller a) (depth_front cf.instrs r ∙ dep) (has_front E.site.funcs E.fn n cb.seqs cf.seqs has))
        (λ f w1 m1 g. left_so l now le.seen n' vs r br cr rr caller f w1 m1 g)))

-- ---- a block that is entered

-- a plain variable may be named, too
pub open_plain_too : (E : Env) (now : Now) (w : World) (x : ℕ) (t : Ty) → slice_get E.kinds x ≡ Some (t, false) → AreOpen E.kinds now.visible w.objects w.locals → AreOpen E.kinds (now.visible ++ x ∷ []) w.objects w.locals
open_plain_too E now w x t at h i u seen at' =
    visible_either now.visible (x ∷ []) i seen (λ old. h i u old at') (λ new. absurd (other_kind E.kinds x i t u at at' (only_one x i new)))

module _ (E : Env) (zeros : (d x : ℕ) (t : Ty) → slice_get E.kinds x ≡ Some (t, false) → Op (beside d E) (zeroed E.target (Local x) (scalar_of t)) same (gone E) (Always E) (hold (Local x) (plain (zero_value t)))) where
  abbrev Enters : Code → List ℕ → Does (Unit {0}) → Type 0
  Enters c ns x =
      (n : ℕ) → HasAll E.site.funcs E.fn n (c n).seqs → (now : Now) → Starts (beside now.waits E) [] now → (vs : List Word) (r : List Item) → depth_of r ≡ E.depth → (w : World) (m : Mem) → Kept E now w m
      → Runs E.site (size_of (c n)) m (at_work E m w vs (front (c n).instrs r)) w (λ u w1 m1. at_work E m1 w1 vs r) (λ u w1 m1. Kept E (record now { visible = now.visible ++ ns }) w1 m1) (x w)

  abbrev enters_slot : ℕ → Slot → Does (Unit {0})
  enters_slot x k = enter_slot E.unit E.calls E.turn_bound E.kinds x k

  enters_plain : (x : ℕ) (t : Ty) → slice_get E.kinds x ≡ Some (t, false) → Enters (entered E.target false (Local x) t) (x ∷ []) (enters_slot x (t, false))
  enters_plain x t at n has now le vs r dep w m k =
      weaker E.site (size_of (entered E.target false (Local x) t n)) m (at_work E m w vs (front (entered E.target false (Local x) t n).instrs r)) w (λ u w1 m1. at_work E m1 w1 vs r) (λ u w1 m1. Always E u × Kept E now w1 m1) (λ u w1 m1. Kept E (record now { visible = now.visible ++ x ∷ [] }) w1 m1) (enters_slot x (t, false) w)
      (λ u w1 m1 g. kept_seen E now (now.visible ++ x ∷ []) w1.objects w1 m1 (open_plain_too E now w1 x t at g.1.open') g.1)
      (zeros now.waits x t at n has now le vs r dep w m k)

  enters_made : (x : ℕ) (t : Ty) → slice_get E.kinds x ≡ Some (t, true) → Enters (made E.target (Local x) (size E.unit.structs t)) (x ∷ []) (enters_slot x (t, true))
  enters_made x t at n has now le vs r dep w m k =
      let c = made E.target (Local x) (size E.unit.structs t) in
      weaker E.site (size_of (c n)) m (at_work E m w vs (front (c n).instrs r)) w (λ u w1 m1. at_work E m1 w1 vs r) (λ u w1 m1. Kept E (record now { visible = now.visible ++ x ∷ [] }) w1 m1 × (m1.temps ≡ m.temps)) (λ u w1 m1. Kept E (record now { visible = now.visible ++ x ∷ [] }) w1 m1) (enters_slot x (t, true) w)
      (λ u w1 m1 g. g.0)
      (enters_object E x t at (E.objects_are x t at) now w m k vs n r has)

  enters_one : (x : ℕ) (t : Ty) → slice_get E.slots x ≡ Some t → Enters (entered E.target (E.target.is_object (Local x)) (Local x) (get_or E.slots x void)) (x ∷ []) (known (slice_get E.kinds x) >>= enters_slot x)
  enters_one x t e =
      subst (λ (s : Ty). Enters (entered E.target (E.target.is_object (Local x)) (Local x) s) (x ∷ []) (known (slice_get E.kinds x) >>= enters_slot x)) (sym (get_is E.slots x t e))
      (by (E.target.is_object (Local x)) refl)
    where
      known_as : (b : Bool) → E.target.is_object (Local x) ≡ b → slice_get E.kinds x ≡ Some (t, b)
      known_as b q = E.kinds_are x t e ∙ ap (λ (c : Bool). Some (t, c)) q

      by : (b : Bool) → E.target.is_object (Local x) ≡ b → Enters (entered E.target b (Local x) t) (x ∷ []) (known (slice_get E.kinds x) >>= enters_slot x)
      by true q = subst (λ (o : Option Slot). Enters (entered E.target true (Local x) t) (x ∷ []) (known o >>= enters_slot x)) (sym (known_as true q)) (subst (λ (ts : Table). Enters (made E.target (Local x) (size ts t)) (x ∷ []) (enters_slot x (t, true))) (sym E.structs_are) (enters_made x t (known_as true q)))
      by false q = subst (λ (o : Option Slot). Enters (entered E.target false (Local x) t) (x ∷ []) (known o >>= enters_slot x)) (sym (known_as false q)) (enters_plain x t (known_as false q))

  pub enters_all : (ns : List ℕ) → ((x : ℕ) → is_visible ns x ≡ true → x < length E.slots) → Enters (enters E.target E.slots ns) ns (enter E.unit E.calls E.turn_bound E.kinds ns)
  enters_all [] among n has now le vs r dep w m k =
      here E.site 0 w m (λ u w1 m1. at_work E m1 w1 vs r) (λ u w1 m1. Kept E (record now { visible = now.visible ++ [] }) w1 m1) (tt {0}) (subst (λ (us : List ℕ). Kept E (record now { visible = us }) w m) (sym (append-nil now.visible)) k)
  enters_all (x ∷ ns) among n has now le vs r dep w m k =
      let s = slot_there E.slots x (among x (visible_first x ns)) in
      let a = entered E.target (E.target.is_object (Local x)) (Local x) (get_or E.slots x void) in
      let b = enters E.target E.slots ns in
      let ca = a n in
      let n' = n + length ca.seqs in
      let cb = b n' in
      let to = λ (u : Unit {0}) (w1 : World) (m1 : Mem). at_work E m1 w1 vs r in
      let R = front cb.instrs r in
      let rest = λ (u : Unit {0}). enter E.unit E.calls E.turn_bound E.kinds ns in
      let one = known (slice_get E.kinds x) >>= enters_slot x in
      let all = λ (u : Unit {0}) (w1 : World) (m1 : Mem). Kept E (record now { visible = now.visible ++ (x ∷ ns) }) w1 m1 in
      let now1 = record now { visible = now.visible ++ x ∷ [] } in
      subst (λ (q : ℕ). Runs E.site q m (at_work E m w vs (front (ca.instrs ++ cb.instrs) r)) w to all (after (one w) rest)) (size_joined ca cb)
      (subst (λ (q : List Item). Runs E.site (size_of ca + size_of cb) m (at_work E m w vs q) w to all (after (one w) rest)) (sym (front_append ca.instrs cb.instrs r))
      (bind E.site (size_of ca) (size_of cb) m (at_work E m w vs (front ca.instrs R)) w (λ u w1 m1. at_work E m1 w1 vs R) (λ u w1 m1. Kept E now1 w1 m1) to all (one w) rest
      (enters_one x s.0 s.1 n (has_front E.site.funcs E.fn n ca.seqs cb.seqs has) now le vs R (depth_front cb.instrs r ∙ dep) w m k)
      (λ u w1 m1 g.
      subst (λ (us : List ℕ). Runs E.site (size_of cb) m1 (at_work E m1 w1 vs R) w1 to (λ u w2 m2. Kept E (record now { visible = us }) w2 m2) (rest u w1)) (append_assoc now.visible (x ∷ []) ns)
      (enters_all ns (λ y e. among y (visible_rest x y ns e)) n' (has_back E.site.funcs E.fn n ca.seqs cb.seqs has) now1
      (record { below = le.below; grown = le.grown; seen = λ y e. visible_left now.visible (x ∷ []) y (le.seen y e); few = le.few }) vs r dep w1 m1 g))))

  -- ---- a block, and a switch's

  module _ (ns : List ℕ) (differ : Differ ns) (among : (x : ℕ) → is_visible ns x ≡ true → x < length E.slots) (apart : Disjoint E.visible ns) where
    abbrev within_block : Env
    within_block = seeing (E.visible ++ ns) E

    abbrev whole : Code → Code
    whole B = enters E.target E.slots ns ⨾ (B ⨾ frees E ns)

    abbrev block_of : Does Flow → Does Flow
    block_of y = y >>= (λ f. leave E.unit E.calls E.turn_bound E.kinds ns >> pure f)

    abbrev in_it : Way → Way
    in_it l = record l { off = with_off ns l.off }

    -- with its variables entered
    abbrev opened_by : Now → Now
    opened_by now = record now { visible = now.visible ++ ns }

    entered_then : (l : Way) (b c : ℕ) (B : Code) (y : Does Flow) (n : ℕ) → HasAll E.site.funcs E.fn n (whole B n).seqs → (now now' : Now) → IsAt E l.depth now → Starts (beside now'.waits E) [] now' → (vs : List Word) (r br cr rr : List Item) (caller : Frame) → Around E vs r b c l br cr rr caller → depth_of r ≡ E.depth
        → (w : World) (m : Mem) → Kept E now' w m
        → ((n' : ℕ) (R : List Item) → Around E vs R b c l br cr rr caller → depth_of R ≡ E.depth → HasAll E.site.funcs E.fn n' (B n').seqs → size_of (B n') ≤ size_of (whole B n) → (w1 : World) (m1 : Mem) → Kept E (opened_by now') w1 m1
        → Runs E.site (size_of (B n')) m1 (at_work E m1 w1 vs (front (B n').instrs R)) w1 (to_flow within_block vs R br cr rr caller) (GoodFlow within_block (in_it l) (opened_by now)) (y w1))
        → Runs E.site (size_of (whole B n)) m (at_work E m w vs (front (whole B n).instrs r)) w (to_flow E vs r br cr rr caller) (GoodFlow E l now) ((enter E.unit E.calls E.turn_bound E.kinds ns >> block_of y) w)
    entered_then l b c B y n has now now' le st vs r br cr rr caller a dep w m k h =
        let ce = enters E.target E.slots ns n in
        let n' = n + length ce.seqs in
        let cb = (B ⨾ frees E ns) n' in
        let to = to_flow E vs r br cr rr caller in
        let R = front cb.instrs r in
        let sizes = size_joined ce cb in
        let sizes' = size_joined (B n') (frees E ns (n' + length (B n').seqs)) in
        let x = enter E.unit E.calls E.turn_bound E.kinds ns in
        subst (λ (s : ℕ). Runs E.site s m (at_work E m w vs (front (ce.instrs ++ cb.instrs) r)) w to (GoodFlow E l now) (after (x w) (λ u. block_of y))) sizes
        (subst (λ (q : List Item). Runs E.site (size_of ce + size_of cb) m (at_work E m w vs q) w to (GoodFlow E l now) (after (x w) (λ u. block_of y))) (sym (front_append ce.instrs cb.instrs r))
        (bind E.site (size_of ce) (size_of cb) m (at_work E m w vs (front ce.instrs R)) w (λ u w1 m1. at_work E m1 w1 vs R) (λ u w1 m1. Kept E (opened_by now') w1 m1) to (GoodFlow E l now) (x w) (λ u. block_of y)
        (enters_all ns among n (has_front E.site.funcs E.fn n ce.seqs cb.seqs has) now' st vs R (depth_front cb.instrs r ∙ dep) w m k)
        (λ u w1 m1 g.
        block_behind E ns differ among apart l b c B y n' (has_back E.site.funcs E.fn n ce.seqs cb.seqs has) now le vs r br cr rr caller a dep w1 m1
        (λ R' a' dep' has'. h n' R' a' dep' has' (omega (arith, sizes, sizes')) w1 m1 g))))

    pub scope_runs : (l : Way) (b c : ℕ) (B : Code) (y : Does Flow) → FlowRuns within_block (in_it l) b c B same y → FlowRuns E l b c (whole B) same (enter E.unit E.calls E.turn_bound E.kinds ns >> block_of y)
    scope_runs l b c B y h n has small now le vs r br cr rr caller a dep w m k =
        entered_then l b c B y n has now now le (starts E now.waits now (record { below = le.below; waits = refl; seen = le.seen })) vs r br cr rr caller a dep w m k
        (λ n' R a' dep' has' fits w1 m1 k1.
        h n' has' (omega (arith, small, fits)) (opened_by now) (record { below = le.below; waits = le.waits; seen = ap (λ (us : List ℕ). us ++ ns) le.seen }) vs R br cr rr caller
        (record { breaks = a'.breaks; continues = a'.continues; returns = a'.returns }) dep' w1 m1 k1)

    -- the number of a group waits
    pub held_scope : (g : ℕ) (l : Way) (b c : ℕ) (B : Code) (y : Does Flow) → HeldRuns within_block g (in_it l) b c B y → HeldRuns E g l b c (whole B) (enter E.unit E.calls E.turn_bound E.kinds ns >> block_of y)
    held_scope g l b c B y h n has small now le vs r br cr rr caller a dep w m k held =
        let d = l.depth in
        let waits = le.waits in
        let now' = record now { waits = suc d; temps = m.temps } in
        let k' = kept_temps E now (suc d) m.temps w.objects w m m.temps (record { long = k.temps.long; stay = λ j lt. refl }) k in
        entered_then l b c B y n has now now' le (starts E (suc d) now' (record { below = le.below; waits = refl; seen = le.seen })) vs r br cr rr caller a dep w m k'
        (λ n' R a' dep' has' fits w1 m1 k1.
        let back = kept_temps E (opened_by now') now.waits now.temps w1.objects w1 m1 m1.temps
        (record { long = k1.temps.long; stay = λ j lt. k1.temps.stay j (omega (arith, lt, waits)) ∙ k.temps.stay j lt }) k1 in
        h n' has' (omega (arith, small, fits)) (opened_by now) (record { below = le.below; waits = le.waits; seen = ap (λ (us : List ℕ). us ++ ns) le.seen }) vs R br cr rr caller
        (record { breaks = a'.breaks; continues = a'.continues; returns = a'.returns }) dep' w1 m1 back (k1.temps.stay d (omega arith) ∙ held))
