-- The objects of blocks: each is made where its block is entered, and freed where it is left.
use Rattle.std.proofs.Common.{◌≡◌, ℕ, ◌+◌, ◌*◌, List, [], ◌∷◌, ◌++◌, filter, map, Bool, true, false, Option, Some, Ok, refl, sym, ap, ◌∙◌, arith, subst, cond}
use Rattle.std.specs.Prelude.{pos, slice_get, slice_set}
use Rattle.ms_handle.specs.declared.handle.Handle.{Handle as HandleOf}
use Rattle.ms_handle.specs.declared.handle.Handle.TheVariants as handles
use Rattle.ms_handle.specs.declared.handle.Kind.TheVariants as kinds
use Rattle.ms_linear.specs.declared.value.Value.{Value as Word}
use Rattle.ms_linear.specs.declared.value.Value.TheVariants.{Handle}
use Rattle.ms_machine.specs.Segments.{changed}
use Rattle.ms_module.specs.declared.access.Segment.TheVariants as segment
use Rattle.ms_module.specs.declared.instr.Instr.{Instr}
use Rattle.ms_module.specs.declared.instr.Instr.TheVariants.{LocalGet, Segment}
use Rattle.ms_segment.specs.Calls as call
use Rattle.ms_segment.specs.Memory.{Memory}
use Rattle.ms_task.specs.Thread.{Do, Item, thread}
use Rattle.c_types.specs.Types.{Ty}
use Rattle.c_typed.specs.declared.ops.Variable.TheVariants.{Local}
use Rattle.c_typed.specs.refinement.Expressions.{is_visible}
use Rattle.c_meaning.specs.Shapes.{size}
use Rattle.c_meaning.specs.Values.{Value}
use Rattle.c_meaning.specs.Objects.{Object, ended, to_object}
use Rattle.c_meaning.specs.World.{Held, plain, object, World}
use Rattle.ms_emit.specs.Codes.{Code, plain as bare, ◌⨾◌, size_of}
use Rattle.c_code.specs.Statements.{freed, objects_in}
use Rattle.c_code.specs.Targets.{get}
use Rattle.ms_relate.specs.refinement.Homes.{handle}
use Rattle.ms_relate.specs.refinement.Relation.{Related}
use Rattle.ms_relate.proofs.Acts.{act_gives}
use Rattle.ms_relate.proofs.Ending.{frame_ends, name_handle}
use Rattle.c_runs.proofs.Goes as goes
use Rattle.c_runs.proofs.Goes.{Goes, Mem, goes_on, one_here, sized, stays}
use Rattle.c_runs.proofs.Held.{AreApart, Lives, end_at, end_held, ending, object_at, object_word, some_is}
use Rattle.c_runs.proofs.Ending.{AreClosing, Differ, IsClosing, closing_rest, object_closing, plain_closing, visible_first}
use Rattle.c_runs.proofs.Related.{Env, KeptAs, Now, frame_of, front}
use Rattle.c_runs.proofs.Ops.{at_work, size_joined}
use Rattle.c_runs.proofs.Nodes.{get_slot, local_of_x}
use Rattle.c_runs.proofs.Steps.{Quiet, event_goes, kept_segments, quiet_free, quiet_tells}

-- a slot of a block that is left: a plain variable, or an object that is alive
pub data IsLeaving (E : Env) (os : List Object) (xs : List Held) (x : ℕ) : Type 0 where
  plain_leaving : (v : Value) → E.target.is_object (Local x) ≡ false → slice_get xs x ≡ Some (plain v) → IsLeaving E os xs x
  object_leaving : (t : Ty) → E.target.is_object (Local x) ≡ true → slice_get E.kinds x ≡ Some (t, true) → Lives os xs x → IsLeaving E os xs x

abbrev pub AreLeaving : Env → List Object → List Held → List ℕ → Type 0
AreLeaving E os xs ns = (x : ℕ) → is_visible ns x ≡ true → IsLeaving E os xs x

module _ (E : Env) where
  closing_of : (os : List Object) (xs : List Held) (x : ℕ) → IsLeaving E os xs x → IsClosing os xs x
  closing_of os xs x (plain_leaving v o e) = plain_closing v e
  closing_of os xs x (object_leaving t o k l) = object_closing l

  pub closing_all : (os : List Object) (xs : List Held) (ns : List ℕ) → AreLeaving E os xs ns → AreClosing os xs ns
  closing_all os xs ns h x e = closing_of os xs x (h x e)

  leaving_rest : (os : List Object) (xs : List Held) (x : ℕ) (ns : List ℕ) → AreApart xs → Differ (x ∷ ns) → AreLeaving E os xs (x ∷ ns) → AreLeaving E (end_held (slice_get xs x) os) xs ns
  leaving_rest os xs x ns apart d h y e = by (h y (Rattle.c_runs.proofs.Ending.visible_rest x y ns e)) (closing_rest os xs x ns apart d (closing_all os xs (x ∷ ns) h) y e) where
    by : IsLeaving E os xs y → IsClosing (end_held (slice_get xs x) os) xs y → IsLeaving E (end_held (slice_get xs x) os) xs y
    by (plain_leaving v o q) c = plain_leaving v o q
    by (object_leaving t o k l) (object_closing l') = object_leaving t o k l'
    by (object_leaving t o k l) (plain_closing v q) = absurd (never (some_is (object l.number) (plain v) (sym l.held ∙ q))) where
      never : object l.number ≡ plain v → ⊥
      never p = absurd cc

  -- ---- one object is freed

  module _ (now : Now) (os : List Object) (w : World) (m : Mem) (k : KeptAs E now os w m) (x : ℕ) (t : Ty) (at_x : slice_get E.kinds x ≡ Some (t, true)) (l : Lives os w.locals x) where
    abbrev Freed : Type 0
    Freed = (seg : Memory) × KeptAs E now (end_held (slice_get w.locals x) os) w (record m { segments = seg })
        × ((vs : List Word) (r : List Item) → Goes E.site 2 w w m (at_work E m w vs (front (get E.target (Local x) ∷ Segment (segment.Free kinds.Frame) ∷ []) r)) (record m { segments = seg }) (at_work E m w vs r))

    pub frees_one : Freed
    frees_one =
        let n = l.number in
        let o = object_at E.unit.structs E.places E.kinds m.homes w.locals x t n k.held at_x l.held in
        let g = frame_ends E.unit.structs E.places m.homes os m.segments n l.object_is o.home k.related l.at o.at l.alive l.is_frame in
        let c = g.0 in
        let seg = c.memory in
        let m' : Mem = record m { segments = seg } in
        let h = handle m.homes (to_object n) in
        let good = handles.Good false o.home.id 0 (o.home.count * size o.home.shape) (pos 0) in
        let is : h ≡ good = name_handle E.unit.structs E.places m.homes n o.home o.at in
        let freed_is : call.free m.segments h kinds.Frame ≡ Ok c = ap (λ (q : HandleOf). call.free m.segments q kinds.Frame) is ∙ g.1 in
        let gone_is : slice_set os n (ended l.object_is) ≡ end_held (slice_get w.locals x) os =
        sym (ap (λ (q : Option Held). end_held q os) l.held ∙ ap (λ (q : Option Object). end_at q n os) l.at) in
        let related' : Related E.unit.structs E.places m.homes (end_held (slice_get w.locals x) os) seg = subst (λ (qs : List Object). Related E.unit.structs E.places m.homes qs seg) gone_is g.2 in (
          seg,
          kept_segments E now os (end_held (slice_get w.locals x) os) w m seg related' k,
          λ vs r.
              let i = Segment (segment.Free kinds.Frame) in
              let quiet = subst Quiet (ap (λ (q : _). changed vs q) freed_is) (quiet_free m.segments kinds.Frame h vs) in
              goes_on E.site 1 1 w w w m m m' (at_work E m w vs (front (get E.target (Local x) ∷ i ∷ []) r)) (at_work E m w (Handle h ∷ vs) (Do i ∷ r)) (at_work E m' w vs r)
              (one_here E.site w m m (LocalGet (local_of_x E x (t, true) at_x)) (frame_of E m w) vs (Do i ∷ r) (thread (frame_of E m w) (Handle h ∷ vs) (Do i ∷ r))
              (get_slot E x (t, true) at_x w m (Handle h) vs (Do i ∷ r) (object_word E.unit.structs E.places E.kinds m.homes w.locals x t n at_x l.held)))
              (event_goes E.site w w m m' i (frame_of E m w) (Handle h ∷ vs) r (thread (frame_of E m w) vs r) (Some c.event) refl refl
              (quiet_tells E.site w w (Some c.event) quiet refl refl refl)
              (act_gives (goes.store E.site m) (frame_of E m w) r (segment.Free kinds.Frame) (Handle h ∷ vs) vs seg (Some c.event) (ap (λ (q : _). changed vs q) freed_is))),
        )

  -- ---- those of a block

  abbrev pub frees : List ℕ → Code
  frees ns = freed E.target (objects_in E.target E.slots ns)

  abbrev AllFreed : Now → List Object → World → Mem → List ℕ → Type 0
  AllFreed now os w m ns = (seg : Memory) × KeptAs E now (ending w.locals ns os) w (record m { segments = seg })
      × ((n : ℕ) (vs : List Word) (r : List Item) → Goes E.site (size_of (frees ns n)) w w m (at_work E m w vs (front (frees ns n).instrs r)) (record m { segments = seg }) (at_work E m w vs r))

  abbrev two : ℕ → List Instr
  two x = get E.target (Local x) ∷ Segment (segment.Free kinds.Frame) ∷ []

  -- one behind the other, where the frame stays
  both_go : (w : World) (m : Mem) (x : ℕ) (rest : Code) (m1 m2 : Mem) (n : ℕ) (vs : List Word) (r : List Item) → ((vs : List Word) (r : List Item) → Goes E.site 2 w w m (at_work E m w vs (front (two x) r)) m1 (at_work E m w vs r))
      → ((n : ℕ) (vs : List Word) (r : List Item) → Goes E.site (size_of (rest n)) w w m1 (at_work E m w vs (front (rest n).instrs r)) m2 (at_work E m w vs r))
      → Goes E.site (size_of ((bare (two x) ⨾ rest) n)) w w m (at_work E m w vs (front ((bare (two x) ⨾ rest) n).instrs r)) m2 (at_work E m w vs r)
  both_go w m x rest m1 m2 n vs r g1 g2 =
      let c = rest (n + 0) in
      let sizes = size_joined (bare (two x) n) c in
      sized E.site (2 + size_of c) (size_of ((bare (two x) ⨾ rest) n)) w w m m2 (at_work E m w vs (front (two x ++ c.instrs) r)) (at_work E m w vs r) (omega (arith, sizes))
      (goes_on E.site 2 (size_of c) w w w m m1 m2 (at_work E m w vs (front (two x) (front c.instrs r))) (at_work E m w vs (front c.instrs r)) (at_work E m w vs r) (g1 vs (front c.instrs r)) (g2 (n + 0) vs r))

  pub frees_go : (ns : List ℕ) (now : Now) (os : List Object) (w : World) (m : Mem) → KeptAs E now os w m → Differ ns → AreLeaving E os w.locals ns → AllFreed now os w m ns
  frees_go [] now os w m k d h = (m.segments, k, λ n vs r. stays E.site w m (at_work E m w vs r))
  frees_go (x ∷ ns) now os w m k d h =
      by (h x (visible_first x ns))
      (λ seg k1. frees_go ns now (end_held (slice_get w.locals x) os) w (record m { segments = seg }) k1 d.1 (leaving_rest os w.locals x ns k.apart d h))
    where
      skipped : (v : Value) → slice_get w.locals x ≡ Some (plain v) → os ≡ end_held (slice_get w.locals x) os
      skipped v e = sym (ap (λ (q : Option Held). end_held q os) e)

      code_is : (b : Bool) → E.target.is_object (Local x) ≡ b → freed E.target (map Local (cond b (x ∷ filter (λ (y : ℕ). E.target.is_object (Local y)) ns) (filter (λ (y : ℕ). E.target.is_object (Local y)) ns))) ≡ frees (x ∷ ns)
      code_is b e = ap (λ (c : Bool). freed E.target (map Local (cond c (x ∷ filter (λ (y : ℕ). E.target.is_object (Local y)) ns) (filter (λ (y : ℕ). E.target.is_object (Local y)) ns)))) (sym e)

      by : IsLeaving E os w.locals x
          → ((seg : Memory) → KeptAs E now (end_held (slice_get w.locals x) os) w (record m { segments = seg }) → AllFreed now (end_held (slice_get w.locals x) os) w (record m { segments = seg }) ns)
          → AllFreed now os w m (x ∷ ns)
      by (plain_leaving v o e) further =
          let q = further m.segments (subst (λ (qs : List Object). KeptAs E now qs w m) (skipped v e) k) in
          (q.0, q.1, subst (λ (c : Code). (n : ℕ) (vs : List Word) (r : List Item) → Goes E.site (size_of (c n)) w w m (at_work E m w vs (front (c n).instrs r)) (record m { segments = q.0 }) (at_work E m w vs r)) (code_is false o) q.2)
      by (object_leaving t o at_x l) further =
          let p = frees_one now os w m k x t at_x l in
          let q = further p.0 p.1 in (
            q.0,
            q.1,
            subst (λ (c : Code). (n : ℕ) (vs : List Word) (r : List Item) → Goes E.site (size_of (c n)) w w m (at_work E m w vs (front (c n).instrs r)) (record m { segments = q.0 }) (at_work E m w vs r)) (code_is true o)
                (λ n vs r. both_go w m x (frees ns) (record m { segments = p.0 }) (record m { segments = q.0 }) n vs r p.2 q.2),
          )
