-- Members of structs, and arrays that decay: the handle of a part is a slice of the whole's (C11, 6.3.2.1 and 6.5.2.3). A variable and a
-- member are arrays of one, of which the handle leads to all.
use Rattle.std.proofs.Common.{◌≡◌, ◌≢◌, ℕ, ◌+◌, ◌*◌, ◌<◌, ◌≤◌, List, [], ◌∷◌, Bool, true, false, is_some, Option, Some, None, refl, sym, ap, ◌∙◌, arith, subst}
use Rattle.std.specs.Prelude.{get_or, pos, slice_get}
use Rattle.ms_handle.specs.declared.handle.Handle.{Handle as HandleOf}
use Rattle.ms_handle.specs.declared.handle.Handle.TheVariants as handles
use Rattle.ms_handle.specs.Handle.{slice}
use Rattle.ms_linear.specs.declared.value.Value.{Value as Word}
use Rattle.ms_linear.specs.declared.value.Value.TheVariants.{Handle, I32}
use Rattle.ms_machine.specs.Segments.{slice_event}
use Rattle.ms_module.specs.declared.access.Segment.TheVariants as segment
use Rattle.ms_module.specs.declared.instr.Instr.TheVariants.{Drop, Segment}
use Rattle.ms_module.specs.declared.numeric.Width.TheVariants.{W32}
use Rattle.ms_task.specs.Thread.{Do, Item, thread}
use Rattle.c_types.specs.Layout.{IsLaidOut, Layout, Table, layout_at, members_in, members_of, offset, size as type_size}
use Rattle.c_types.specs.Types.{Ty, void, struct, pointer, array, is_function}
use Rattle.c_typed.specs.declared.ops.Variable.TheVariants.{Local}
use Rattle.c_typed.specs.Tree.{of}
use Rattle.c_typed.specs.refinement.Expressions.{IsMember, is_visible}
use Rattle.c_meaning.specs.Shapes.{Part, Shape, part_of, shape, size}
use Rattle.c_meaning.specs.Values.{Value, inside, to_member}
use Rattle.c_meaning.specs.Objects.{Outcome, to_object, whole_of}
use Rattle.c_meaning.specs.World.{Held, World, Result, gives, Does, after, as_done, known, ◌>>=◌, ◌>>◌, pure}
use Rattle.c_meaning.specs.Expressions as meaning
use Rattle.c_meaning.specs.Expressions.{Spot, at, variable, place, spot_of}
use Rattle.ms_emit.specs.Codes.{Code, one, ◌⨾◌, size_of}
use Rattle.c_code.specs.Operations as code
use Rattle.c_code.specs.Operations.{i32}
use Rattle.c_code.specs.Targets.{get}
use Rattle.c_numbers.proofs.Conversions.{constant_is}
use Rattle.ms_relate.specs.refinement.Homes.{Home, handle, is_pointer}
use Rattle.ms_relate.proofs.Acts.{act_gives}
use Rattle.ms_relate.proofs.Growing.{handle_still, is_of_still}
use Rattle.ms_relate.proofs.Laid.{part_fits, size-positive}
use Rattle.ms_relate.proofs.Moving.{is_of_leads, leads_of}
use Rattle.ms_relate.proofs.Parts.{IsPart, array_slice, fits_size, inside_part, low, member_part, name_all}
use Rattle.ms_relate.proofs.Shapes.{part_is, shape_good}
use Rattle.c_typing.proofs.Sound.{sized_is}
use Rattle.c_runs.proofs.Goes as goes
use Rattle.c_runs.proofs.Goes.{Goes, Mem, Runs, RunsTo, bind, goes_on, here, one_here, weaker}
use Rattle.c_runs.proofs.Held.{object_at, object_word}
use Rattle.c_runs.proofs.Related.{Env, IsValue, Kept, Now, extends_trans, frame_of, front, pushes}
use Rattle.c_runs.proofs.Ops.{GoodIn, OpIn, Stack, ToIn, at_work, carried_is, op_after_in, op_assoc_in, op_then_in, same}
use Rattle.c_runs.proofs.Nodes.{Carries, Leaves, get_slot, local_of_x, remains}
use Rattle.c_runs.proofs.Steps.{IsQuiet, event_goes, quiet_tells}
use Rattle.c_runs.proofs.Makes.{get_is}
use Rattle.c_runs.proofs.Cells.{IsSpot, Leads, LeadsTo, object_near, pointer_word, spot_pushed}

-- ---- a member of a struct that is defined

pub record IsLaid (table : Table) (n k : ℕ) (t : Ty) : Type 0 where
  pub part : part_of (shape table (struct n)) k ≡ Some (record { offset = offset table (struct n) k; shape = shape table t })
  pub some : 0 < size (shape table t)
  pub within : offset table (struct n) k + size (shape table t) ≤ size (shape table (struct n))
  pub is_data : is_function t ≡ false
  -- its size, as code says it
  pub sized : type_size table (get_or (members_of table (struct n)) k void) ≡ size (shape table t)

pub laid_member : (table : Table) → IsLaidOut table → ((n : ℕ) (l : Layout) → layout_at table n ≡ Some l → l.members ≢ []) → (n k : ℕ) (t : Ty) → IsMember table n k t → IsLaid table n k t
laid_member table laid some n k t h = by (layout_at table n) refl h where
  by : (o : Option Layout) → layout_at table n ≡ o → slice_get (members_in o) k ≡ Some t → IsLaid table n k t
  by None e is = absurd cc
  by (Some l) e is =
      let whole = shape_good table laid some (struct n) (ap (λ (o : Option Layout). is_some o) e) in
      let p : Part = record { offset = offset table (struct n) k; shape = shape table t } in
      let part = part_is table laid some n k l t e is in
      let fit = part_fits (shape table (struct n)) k p whole.fits part in
      let has = fits_size table t fit.1 in
      record {
        part = part;
        some = size-positive (shape table t) fit.1;
        within = fit.0;
        is_data = sized_is table t has;
        sized = ap (λ (u : Ty). type_size table u) (get_is (members_of table (struct n)) k t h) ∙ sym (shape_good table laid some t has).sized;
      }

quiet_slice : (h g : HandleOf) → IsQuiet (slice_event h g)
quiet_slice handles.Null g = tt
quiet_slice handles.Broken g = tt
quiet_slice (handles.Good z id b l o) handles.Null = tt
quiet_slice (handles.Good z id b l o) handles.Broken = tt
quiet_slice (handles.Good z id b l o) (handles.Good z' id' b' l' o') = tt

module _ (E : Env) where
  -- a value is looked at in the world in which it is given
  op_look_now : {A B : Type 0} (hs : List Home) (c : Code) (pre : Stack) (mid : List Home → A → Stack) (post : List Home → B → Stack) (Ok1 : List Home → A → Type 0) (Ok2 : List Home → B → Type 0) (x : Does A) (f : A → Does B)
      → OpIn E hs c pre mid Ok1 x → ((now : Now) (w : World) (m : Mem) → Kept E now w m → (v : A) → Ok1 m.homes v → (b : B) × (f v w ≡ gives b w) × ((vs : List Word) → mid m.homes v vs ≡ post m.homes b vs) × Ok2 m.homes b) → OpIn E hs c pre post Ok2 (x >>= f)
  op_look_now {B = B} hs c pre mid post Ok1 Ok2 x f h g n has now le vs r dep w m k =
      let s = size_of (c n) in
      let e : s + 0 ≡ s = omega arith in
      subst (λ (q : ℕ). Runs E.site q m (at_work E m w (pre vs) (front (c n).instrs r)) w (ToIn E post vs r) (GoodIn E Ok2 now) (after (x w) f)) e
      (bind E.site s 0 m (at_work E m w (pre vs) (front (c n).instrs r)) w (ToIn E mid vs r) (GoodIn E Ok1 now) (ToIn E post vs r) (GoodIn E Ok2 now) (x w) f (h n has now le vs r dep w m k)
      (λ v w1 m1 p.
      let q = g now w1 m1 p.1 v p.0 in
      subst (λ (y : Result B). Runs E.site 0 m1 (ToIn E mid vs r v w1 m1) w1 (ToIn E post vs r) (GoodIn E Ok2 now) y) (sym q.1)
      (subst (λ (us : List Word). Runs E.site 0 m1 (at_work E m1 w1 us r) w1 (ToIn E post vs r) (GoodIn E Ok2 now) (gives q.0 w1)) (sym (q.2 vs))
      (here E.site 0 w1 m1 (ToIn E post vs r) (GoodIn E Ok2 now) q.0 (q.3, p.1)))))

  -- ---- what code leaves of a place

  -- a slice of its handle
  abbrev pub sliced : (from n : ℕ) → List Home → Spot → Stack
  sliced from n hs (at v) vs = Handle (slice (handle hs v) (low from) (low n)) ∷ vs
  sliced from n hs (variable x) vs = vs

  abbrev pub Slices : Code → Ty → (from n : ℕ) → Does Spot → Type 0
  Slices c t from n p = OpIn E [] c same (sliced from n) (IsSpot E t) p

  -- its handle, which leads to all of the place and to no more
  abbrev pub IsAll : Ty → List Home → Spot → Type 0
  IsAll t hs (at v) = LeadsTo E t hs v × (slice (handle hs v) 0 (size (shape E.unit.structs t)) ≡ handle hs v)
  IsAll t hs (variable x) = ⊥

  abbrev pub LeadsAll : Code → Ty → Does Spot → Type 0
  LeadsAll c t p = OpIn E [] c same (spot_pushed E) (IsAll t) p

  pub leads_all : (c : Code) (t : Ty) (p : Does Spot) → LeadsAll c t p → Leads E c t p
  leads_all c t p h n has now le vs r dep w m k =
      weaker E.site (size_of (c n)) m (at_work E m w vs (front (c n).instrs r)) w (ToIn E (spot_pushed E) vs r) (GoodIn E (IsAll t) now) (GoodIn E (IsSpot E t) now) (p w) (λ q w1 m1 g. (by m1.homes q g.0, g.1)) (h n has now le vs r dep w m k)
    where
      by : (hs : List Home) (q : Spot) → IsAll t hs q → IsSpot E t hs q
      by hs (at v) ok = ok.0
      by hs (variable x) ok = absurd ok

  -- ---- variables

  pub variable_all : (x : ℕ) (t : Ty) → slice_get E.kinds x ≡ Some (t, true) → is_visible E.visible x ≡ true → LeadsAll (one (get E.target (Local x))) t (place E.unit E.calls (of (Local x)))
  variable_all x t at_x seen n has now le vs r dep w m k ag =
      let l = k.open' x t (le.seen x seen) at_x in
      let p = to_object l.number in
      let o = object_at E.unit.structs E.places E.kinds m.homes w.locals x t l.number k.held at_x l.held in
      let slot = E.objects_are x t at_x in
      let is : place E.unit E.calls (of (Local x)) w ≡ gives (at p) w = ap (λ (h : Option Held). after (known h w) (λ q. pure (spot_of (Local x) q))) l.held in
      let i = Rattle.ms_module.specs.declared.instr.Instr.TheVariants.LocalGet (local_of_x E x (t, true) at_x) in
      let leads : LeadsTo E t m.homes p = is_pointer o.home (whole_of o.home.shape o.home.count) slot.is_data o.at refl o.shape_is (object_near E l.number t m.homes slot o) in
      let all = subst (λ (s : Shape). slice (handle m.homes p) 0 (size s) ≡ handle m.homes p) o.shape_is (name_all E.unit.structs E.places m.homes l.number o.home o.at o.one) in
      subst (λ (y : Result Spot). RunsTo E.site 1 m (at_work E m w vs (Do i ∷ r)) w (ToIn E (spot_pushed E) vs r) (GoodIn E (IsAll t) now) y) (sym is) (
        m,
        ((leads, all), k),
        one_here E.site w m m i (frame_of E m w) vs r (thread (frame_of E m w) (Handle (handle m.homes p) ∷ vs) r) (get_slot E x (t, true) at_x w m (Handle (handle m.homes p)) vs r (object_word E.unit.structs E.places E.kinds m.homes w.locals x t l.number at_x l.held)),
      )

  -- ---- a handle is sliced

  pub slice_goes : (from n : ℕ) (h : HandleOf) (vs : List Word) (r : List Item) (w : World) (m : Mem)
      → Goes E.site (1 + (1 + 1)) w w m (at_work E m w (Handle h ∷ vs) (Do (i32 from) ∷ Do (i32 n) ∷ Do (Segment segment.Slice) ∷ r)) m (at_work E m w (Handle (slice h (low from) (low n)) ∷ vs) r)
  slice_goes from n h vs r w m =
      let fr = frame_of E m w in
      let g = slice h (low from) (low n) in
      let r2 = Do (Segment segment.Slice) ∷ r in
      let r1 = Do (i32 n) ∷ r2 in
      let v0 = Handle h ∷ vs in
      let v1 = I32 (low from) ∷ v0 in
      let v2 = I32 (low n) ∷ v1 in
      goes_on E.site 1 (1 + 1) w w w m m m (at_work E m w v0 (Do (i32 from) ∷ r1)) (at_work E m w v1 r1) (at_work E m w (Handle g ∷ vs) r)
      (one_here E.site w m m (i32 from) fr v0 r1 (thread fr v1 r1) (carried_is E (i32 from) m fr v0 v1 r1 (constant_is W32 (pos from) v0)))
      (goes_on E.site 1 1 w w w m m m (at_work E m w v1 r1) (at_work E m w v2 r2) (at_work E m w (Handle g ∷ vs) r)
      (one_here E.site w m m (i32 n) fr v1 r2 (thread fr v2 r2) (carried_is E (i32 n) m fr v1 v2 r2 (constant_is W32 (pos n) v1)))
      (event_goes E.site w w m m (Segment segment.Slice) fr v2 r (thread fr (Handle g ∷ vs) r) (slice_event h g) refl refl
      (quiet_tells E.site w w (slice_event h g) (quiet_slice h g) refl refl refl)
      (act_gives (goes.store E.site m) fr r segment.Slice v2 (Handle g ∷ vs) m.segments (slice_event h g) refl)))

  pub slice_runs : (c : Code) (t : Ty) (from n : ℕ) (p : Does Spot) → Leads E c t p → Slices (c ⨾ code.slice from n) t from n p
  slice_runs c t from n p h = op_after_in E [] c (code.slice from n) same (spot_pushed E) (sliced from n) (IsSpot E t) (IsSpot E t) p h (λ gs grown q ok. by gs q ok) where
    step : (gs : List Home) (v : Value) → LeadsTo E t gs v → OpIn E gs (code.slice from n) (spot_pushed E gs (at v)) (sliced from n) (IsSpot E t) (pure (at v))
    step gs v ok j has now le vs r dep w m k ag =
        let more = extends_trans gs now.homes m.homes le.grown k.grown in
        let is = handle_still E.unit.structs E.places gs m.homes more (pointer t) v ok in
        let start = at_work E m w (Handle (handle gs v) ∷ vs) (Do (i32 from) ∷ Do (i32 n) ∷ Do (Segment segment.Slice) ∷ r) in (
          m,
          (is_of_still E.unit.structs E.places gs m.homes more (pointer t) v ok, k),
          subst (λ (h : HandleOf). Goes E.site (1 + (1 + 1)) w w m start m (at_work E m w (Handle (slice h (low from) (low n)) ∷ vs) r)) (sym is) (slice_goes from n (handle gs v) vs r w m),
        )

    by : (gs : List Home) (q : Spot) → IsSpot E t gs q → OpIn E gs (code.slice from n) (spot_pushed E gs q) (sliced from n) (IsSpot E t) (pure q)
    by gs (variable x) ok = absurd ok
    by gs (at v) ok = step gs v ok

  -- ---- members (6.5.2.3)

  abbrev pub member_spot : (k : ℕ) → Does Spot → Does Spot
  member_spot k p = meaning.pointer p >>= meaning.further (λ i. to_member i k) >>= (λ q. pure (at q))

  module _ (n k : ℕ) (t : Ty) (l : IsLaid E.unit.structs n k t) (c : Code) (p : Does Spot) where
    abbrev off : ℕ
    off = offset E.unit.structs (struct n) k

    abbrev part : Part
    part = record { offset = off; shape = shape E.unit.structs t }

    abbrev to_spot : Spot → Does Spot
    to_spot q = meaning.pointer_in q >>= (λ a. meaning.further (λ i. to_member i k) a >>= (λ b. pure (at b)))

    member_by : (from len : ℕ) (post : List Home → Spot → Stack) (Ok : List Home → Spot → Type 0) → Slices c (struct n) from len p
        → ((hs : List Home) (v w : Value) → IsPart hs (shape E.unit.structs t) off v w → LeadsTo E t hs w → ((vs : List Word) → sliced from len hs (at v) vs ≡ post hs (at w) vs) × Ok hs (at w)) → OpIn E [] c same post Ok (member_spot k p)
    member_by from len post Ok h f =
        op_assoc_in E [] c same post Ok (meaning.pointer p) (meaning.further (λ i. to_member i k)) (λ q. pure (at q))
        (op_assoc_in E [] c same post Ok p meaning.pointer_in (λ a. meaning.further (λ i. to_member i k) a >>= (λ q. pure (at q)))
        (op_look_now [] c same (sliced from len) post (IsSpot E (struct n)) Ok p to_spot h (λ now w m kept q ok. by now w m kept q ok)))
      where
        by : (now : Now) (w : World) (m : Mem) → Kept E now w m → (q : Spot) → IsSpot E (struct n) m.homes q → (b : Spot) × (to_spot q w ≡ gives b w) × ((vs : List Word) → sliced from len m.homes q vs ≡ post m.homes b vs) × Ok m.homes b
        by now w m kept (variable x) ok = absurd ok
        by now w m kept (at v) ok =
            let g = member_part E.unit.structs E.places m.homes w.objects m.segments (shape E.unit.structs (struct n)) k part v kept.related (leads_of E.unit.structs E.places m.homes (struct n) v refl ok) l.part l.some l.within in
            let q = f m.homes v g.0 g.2 (is_of_leads E.unit.structs E.places m.homes t g.0 l.is_data g.2.leads) in
            (at g.0, ap (λ (o : Outcome Value). after (as_done o w) (λ b. pure (at b))) g.1, q.0, q.1)

    pub member_all : Slices c (struct n) off (size (shape E.unit.structs t)) p → LeadsAll c t (member_spot k p)
    member_all h = member_by off (size (shape E.unit.structs t)) (spot_pushed E) (IsAll t) h (λ hs v w is leads. (λ vs. ap (λ (g : HandleOf). Handle g ∷ vs) (sym is.handle_is), (leads, is.all)))

    pub member_slices : (from len : ℕ) → 0 < len → from + len ≤ size (shape E.unit.structs t) → Slices c (struct n) (off + from) len p → Slices c t from len (member_spot k p)
    member_slices from len some within h = member_by (off + from) len (sliced from len) (IsSpot E t) h (λ hs v w is leads. (λ vs. ap (λ (g : HandleOf). Handle g ∷ vs) (sym (is.within from len some within)), leads))

  -- ---- arrays (6.3.2.1, paragraph 3)

  module _ (u : Ty) (n : ℕ) (data_is : is_function u ≡ false) (c : Code) (p : Does Spot) where
    abbrev decayed : Does Value
    decayed = meaning.pointer p >>= meaning.further inside

    abbrev to_first : Spot → Does Value
    to_first q = meaning.pointer_in q >>= meaning.further inside

    decay_by : (mid : List Home → Spot → Stack) (Ok : List Home → Spot → Type 0) → OpIn E [] c same mid Ok p
        → ((now : Now) (w : World) (m : Mem) → Kept E now w m → (q : Spot) → Ok m.homes q → (v : Value) × (q ≡ at v) × LeadsTo E (array u n) m.homes v × ((vs : List Word) → mid m.homes q vs ≡ Handle (slice (handle m.homes v) 0 (n * size (shape E.unit.structs u))) ∷ vs))
        → Leaves E c (pointer u) decayed
    decay_by mid Ok h f =
        op_assoc_in E [] c same (pushes E (pointer u)) (IsValue E (pointer u)) p meaning.pointer_in (meaning.further inside)
        (op_look_now [] c same mid (pushes E (pointer u)) Ok (IsValue E (pointer u)) p to_first h (λ now w m kept q ok. by now w m kept q ok))
      where
        by : (now : Now) (w : World) (m : Mem) → Kept E now w m → (q : Spot) → Ok m.homes q → (b : Value) × (to_first q w ≡ gives b w) × ((vs : List Word) → mid m.homes q vs ≡ pushes E (pointer u) m.homes b vs) × IsValue E (pointer u) m.homes b
        by now w m kept q ok =
            let x = f now w m kept q ok in
            let g = inside_part E.unit.structs E.places m.homes w.objects m.segments (shape E.unit.structs u) n x.0 kept.related (leads_of E.unit.structs E.places m.homes (array u n) x.0 refl x.2) in (
              g.0,
              ap (λ (s : Spot). to_first s w) x.1 ∙ ap (λ (o : Outcome Value). as_done o w) g.1,
              λ vs. x.3 vs ∙ ap (λ (k : HandleOf). Handle k ∷ vs) (sym g.3) ∙ ap (λ (y : Word). y ∷ vs) (sym (pointer_word E u m.homes g.0 data_is)),
              is_of_leads E.unit.structs E.places m.homes u g.0 data_is g.2,
            )

    -- of a variable or a member
    pub decay_all : LeadsAll c (array u n) p → Leaves E c (pointer u) decayed
    decay_all h = decay_by (spot_pushed E) (IsAll (array u n)) h (λ now w m kept q ok. by m.homes q ok) where
      by : (hs : List Home) (q : Spot) → IsAll (array u n) hs q → (v : Value) × (q ≡ at v) × LeadsTo E (array u n) hs v × ((vs : List Word) → spot_pushed E hs q vs ≡ Handle (slice (handle hs v) 0 (n * size (shape E.unit.structs u))) ∷ vs)
      by hs (at v) ok = (v, refl, ok.0, λ vs. ap (λ (k : HandleOf). Handle k ∷ vs) (sym ok.1))
      by hs (variable x) ok = absurd ok

    -- of what a pointer points to
    pub decay_slice : Slices c (array u n) 0 (n * type_size E.unit.structs u) p → Leaves E c (pointer u) decayed
    decay_slice h = decay_by (sliced 0 (n * type_size E.unit.structs u)) (IsSpot E (array u n)) h (λ now w m kept q ok. by now w m kept q ok) where
      by : (now : Now) (w : World) (m : Mem) → Kept E now w m → (q : Spot) → IsSpot E (array u n) m.homes q
          → (v : Value) × (q ≡ at v) × LeadsTo E (array u n) m.homes v × ((vs : List Word) → sliced 0 (n * type_size E.unit.structs u) m.homes q vs ≡ Handle (slice (handle m.homes v) 0 (n * size (shape E.unit.structs u))) ∷ vs)
      by now w m kept (at v) ok = (
        v,
        refl,
        ok,
        λ vs. ap (λ (k : HandleOf). Handle k ∷ vs) (array_slice E.unit.structs E.places m.homes w.objects m.segments u n v E.laid_out E.has_members kept.related (leads_of E.unit.structs E.places m.homes (array u n) v refl ok)),
      )
      by now w m kept (variable x) ok = absurd ok

  -- ---- a place that is evaluated for its effect (6.3.2.2)

  pub visit_runs : (kept : Bool) (c : Code) (t : Ty) (p : Does Spot) → Leads E c t p → Carries E kept (c ⨾ one Drop) void (p >> pure meaning.nothing_given)
  visit_runs kept c t p h = op_then_in E [] c (one Drop) same (spot_pushed E) (remains E kept void) (IsSpot E t) (IsValue E void) p (λ q. pure meaning.nothing_given) h (λ gs grown q ok. by kept gs q ok) where
    dropped : (gs : List Home) (v : Value) (vs : List Word) (r : List Item) (w : World) (m : Mem) → Goes E.site 1 w w m (at_work E m w (Handle (handle gs v) ∷ vs) (Do Drop ∷ r)) m (at_work E m w vs r)
    dropped gs v vs r w m = one_here E.site w m m Drop (frame_of E m w) (Handle (handle gs v) ∷ vs) r (thread (frame_of E m w) vs r) refl

    drops : (b : Bool) (gs : List Home) (v : Value) → OpIn E gs (one Drop) (spot_pushed E gs (at v)) (remains E b void) (IsValue E void) (pure meaning.nothing_given)
    drops true gs v n has now le vs r dep w m k ag = (m, (tt, k), dropped gs v vs r w m)
    drops false gs v n has now le vs r dep w m k ag = (m, (tt, k), dropped gs v vs r w m)

    by : (b : Bool) (gs : List Home) (q : Spot) → IsSpot E t gs q → OpIn E gs (one Drop) (spot_pushed E gs q) (remains E b void) (IsValue E void) (pure meaning.nothing_given)
    by b gs (variable x) ok = absurd ok
    by b gs (at v) ok = drops b gs v
