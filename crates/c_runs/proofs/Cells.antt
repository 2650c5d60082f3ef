-- Places that are no plain variables, of a type of one value: an object's variable, and where a pointer leads. They are read, assigned and
-- changed through their handle, by way of the scratch locals.
use Rattle.std.proofs.Common.{◌≡◌, ◌≢◌, ℕ, ◌+◌, ◌*◌, ◌<◌, List, [], ◌∷◌, length, Bool, true, false, Option, Some, None, refl, sym, ap, ◌∙◌, arith, subst}
use Rattle.std.specs.Prelude.{pos, slice_get, cond}
use Rattle.ms_linear.specs.declared.value.Value.{Value as Word}
use Rattle.ms_linear.specs.declared.value.Value.TheVariants.{Handle}
use Rattle.ms_handle.specs.declared.handle.Handle.{Handle as HandleOf}
use Rattle.ms_module.specs.declared.instr.Instr.TheVariants.{LocalGet, LocalTee}
use Rattle.ms_module.specs.declared.numeric.Width.{Width}
use Rattle.ms_module.specs.declared.numeric.Width.TheVariants.{W32, W64}
use Rattle.ms_task.specs.Thread.{Do, Item, thread}
use Rattle.c_types.specs.declared.types.Scalar.{Scalar}
use Rattle.c_types.specs.declared.types.Scalar.TheVariants as scalars
use Rattle.c_types.specs.Types.{Ty, pointer, is_function, scalar_of}
use Rattle.c_typed.specs.declared.ops.Variable.TheVariants.{Local}
use Rattle.c_typed.specs.Tree.{of}
use Rattle.c_typed.specs.refinement.Expressions.{is_visible}
use Rattle.c_meaning.specs.Shapes.{Shape, shape, size}
use Rattle.c_meaning.specs.Values.{Value}
use Rattle.c_meaning.specs.Objects.{read, to_object, whole_of, write}
use Rattle.c_meaning.specs.World.{Held, World, Result, gives, Does, after, ◌>>=◌, ◌>>◌, pure, alter, ask, known}
use Rattle.c_meaning.specs.Expressions as meaning
use Rattle.c_meaning.specs.Expressions.{Spot, at, variable, fetch, place, spot_of}
use Rattle.ms_emit.specs.Codes.{Code, plain, one, ◌⨾◌}
use Rattle.c_code.specs.Expressions.{ended}
use Rattle.c_code.specs.Operations.{load, store, width_of}
use Rattle.c_code.specs.Targets.{get, scratch_of, scratch_place}
use Rattle.ms_relate.specs.refinement.Homes as homes
use Rattle.ms_relate.specs.refinement.Homes.{Home, IsNear, IsScalar, handle, is_pointer}
use Rattle.ms_relate.proofs.Growing.{Extends, handle_still, is_of_still}
use Rattle.ms_relate.proofs.Near.{first_near}
use Rattle.c_runs.proofs.Goes.{Goes, Mem, Runs, RunsTo, behind_goes, bind, goes_on, one_here}
use Rattle.c_runs.proofs.Held.{IsObjectAt, object_at, object_word, set_elsewhere, set_there}
use Rattle.c_runs.proofs.Values.{pushed_is, value_still, word_of}
use Rattle.c_runs.proofs.Related.{Env, IsSlot, IsValue, Kept, Now, extends_trans, frame_of, pushes}
use Rattle.c_runs.proofs.Ops.{GoodIn, OpIn, Stack, ToIn, after_pure, at_work, op_any, op_look_in, op_over_in, op_then_in, same}
use Rattle.c_runs.proofs.Nodes.{Always, Leaves, get_slot, gone, local_of_x, remains}
use Rattle.c_runs.proofs.Steps.{SameIn, load_runs, op_load, op_store, store_runs}
use Rattle.c_runs.proofs.Switches.{IsTemp, get_temp, set_stays, set_temp, with_temp}

module _ (E : Env) where
  -- a pointer to values of the type
  abbrev pub LeadsTo : Ty → List Home → Value → Type 0
  LeadsTo t hs v = homes.IsOf E.unit.structs E.places hs (pointer t) v

  abbrev pub IsSpot : Ty → List Home → Spot → Type 0
  IsSpot t hs (at v) = LeadsTo t hs v
  IsSpot t hs (variable x) = ⊥

  abbrev pub spot_pushed : List Home → Spot → Stack
  spot_pushed hs (at v) vs = Handle (handle hs v) ∷ vs
  spot_pushed hs (variable x) vs = vs

  -- code leaves the handle of a place
  abbrev pub Leads : Code → Ty → Does Spot → Type 0
  Leads c t p = OpIn E [] c same spot_pushed (IsSpot t) p

  -- ---- places

  -- the first element of a variable's object
  pub object_near : (n : ℕ) (t : Ty) (hs : List Home) → IsSlot E.unit.structs t → (o : IsObjectAt E.unit.structs t hs n) → IsNear (record { object = n; path = []; index = pos 0; sealed = false }) (whole_of o.home.shape o.home.count)
  object_near n t hs slot o =
      let all : o.home.count * size o.home.shape ≡ 1 * size (shape E.unit.structs t) = ap (λ (k : ℕ). k * size o.home.shape) o.one ∙ ap (λ (s : Shape). 1 * size s) o.shape_is in
      let small = slot.small in
      first_near n [] false (whole_of o.home.shape o.home.count) (omega (arith, all, small)) (subst (λ (s : Shape). size s < 4294967296) (sym o.shape_is) small)

  pub variable_leads : (x : ℕ) (t : Ty) → slice_get E.kinds x ≡ Some (t, true) → is_visible E.visible x ≡ true → Leads (one (get E.target (Local x))) t (place E.unit E.calls (of (Local x)))
  variable_leads x t at_x seen n has now le vs r dep w m k ag =
      let l = k.open' x t (le.seen x seen) at_x in
      let p = to_object l.number in
      let o = object_at E.unit.structs E.places E.kinds m.homes w.locals x t l.number k.held at_x l.held in
      let slot = E.objects_are x t at_x in
      let is : place E.unit E.calls (of (Local x)) w ≡ gives (at p) w = ap (λ (h : Option Held). after (known h w) (λ q. pure (spot_of (Local x) q))) l.held in
      let i = LocalGet (local_of_x E x (t, true) at_x) in
      subst (λ (y : Result Spot). RunsTo E.site 1 m (at_work E m w vs (Do i ∷ r)) w (ToIn E spot_pushed vs r) (GoodIn E (IsSpot t) now) y) (sym is) (
        m,
        (is_pointer o.home (whole_of o.home.shape o.home.count) slot.is_data o.at refl o.shape_is (object_near l.number t m.homes slot o), k),
        one_here E.site w m m i (frame_of E m w) vs r (thread (frame_of E m w) (Handle (handle m.homes p) ∷ vs) r) (get_slot E x (t, true) at_x w m (Handle (handle m.homes p)) vs r (object_word E.unit.structs E.places E.kinds m.homes w.locals x t l.number at_x l.held)),
      )

  pub pointer_word : (t : Ty) (hs : List Home) (v : Value) → is_function t ≡ false → word_of E.places (pointer t) hs v ≡ Handle (handle hs v)
  pointer_word t hs v e = ap (λ (b : Bool). cond (cond b false true) (Handle (handle hs v)) (Rattle.ms_linear.specs.declared.value.Value.TheVariants.I32 (homes.word E.places (pointer t) v))) e

  pub deref_leads : (c : Code) (t : Ty) (x : Does Value) → is_function t ≡ false → Leaves E c (pointer t) x → Leads c t (x >>= (λ p. pure (at p)))
  deref_leads c t x dt h =
      op_look_in E [] c same (pushes E (pointer t)) spot_pushed (IsValue E (pointer t)) (IsSpot t) x (λ p. pure (at p)) h
      (λ gs grown v ok. (at v, refl, λ vs. ap (λ (u : Word). u ∷ vs) (pointer_word t gs v dt), ok))

  -- 6.5.3.2: the address of a place
  pub address_runs : (c : Code) (t : Ty) (x : Does Spot) → is_function t ≡ false → Leads c t x → Leaves E c (pointer t) (meaning.pointer x)
  address_runs c t x dt h =
      op_look_in E [] c same spot_pushed (pushes E (pointer t)) (IsSpot t) (IsValue E (pointer t)) x meaning.pointer_in h
      (λ gs grown q ok. by gs q ok)
    where
      by : (gs : List Home) (q : Spot) → IsSpot t gs q → (b : Value) × (meaning.pointer_in q ≡ pure b) × ((vs : List Word) → spot_pushed gs q vs ≡ pushes E (pointer t) gs b vs) × IsValue E (pointer t) gs b
      by gs (at v) ok = (v, refl, λ vs. ap (λ (u : Word). u ∷ vs) (sym (pointer_word t gs v dt)), ok)
      by gs (variable y) ok = absurd ok

  -- ---- scratch locals

  abbrev index_of_width : Width → ℕ
  index_of_width W32 = 0
  index_of_width W64 = 1

  abbrev index_of : Scalar → ℕ
  index_of (scalars.Int u) = index_of_width (width_of u)
  index_of scalars.Pointer = 2
  index_of scalars.Function = 0

  fewer : (s : Scalar) → index_of s < 3
  fewer (scalars.Int u) = by (width_of u) where
    by : (w : Width) → index_of_width w < 3
    by W32 = omega arith
    by W64 = omega arith
  fewer scalars.Pointer = omega arith
  fewer scalars.Function = omega arith

  few : (s : Scalar) → index_of s < 4
  few s = let lt = fewer s in omega (arith, lt)

  differs : (s : Scalar) → index_of s ≢ 3
  differs s e = let lt = fewer s in absurd (omega (arith, lt, e))

  is_scratch : (s : Scalar) → IsTemp E (scratch_of E.target s) (index_of s)
  is_scratch (scalars.Int u) = by (width_of u) where
    by : (w : Width) → IsTemp E (Rattle.c_code.specs.Targets.scratch_of_width E.target w) (index_of_width w)
    by W32 = let e = E.scratch_is in omega (arith, e)
    by W64 = let e = E.scratch_is in omega (arith, e)
  is_scratch scalars.Pointer = let e = E.scratch_is in omega (arith, e)
  is_scratch scalars.Function = let e = E.scratch_is in omega (arith, e)

  is_place : IsTemp E (scratch_place E.target) 3
  is_place = let e = E.scratch_is in omega (arith, e)

  -- what is on top is kept there, too
  module _ (x i : ℕ) (is : IsTemp E x i) (few' : i < 4) (now : Now) (w : World) (m : Mem) (k : Kept E now w m) where
    inside : i < length m.temps
    inside = let e = k.temps.long in omega (arith, e, few')

    pub tees : (v : Word) (vs : List Word) (r : List Item) → Goes E.site 1 w w m (at_work E m w (v ∷ vs) (Do (LocalTee x) ∷ r)) (with_temp E m i v) (at_work E (with_temp E m i v) w (v ∷ vs) r)
    tees v vs r = one_here E.site w m (with_temp E m i v) (LocalTee x) (frame_of E m w) (v ∷ vs) r (thread (frame_of E (with_temp E m i v) w) (v ∷ vs) r) (set_temp E w m k.held x i is inside v (v ∷ vs) (v ∷ vs) r)

    pub tees_kept : (v : Word) → Kept E now w (with_temp E m i v)
    tees_kept v = set_stays E now w.objects w m i v (λ h l e. omega (arith, l, e, few')) k

    pub tees_there : (v : Word) → slice_get (with_temp E m i v).temps i ≡ Some v
    tees_there v = set_there m.temps i v inside

  pub gets : (x i : ℕ) → IsTemp E x i → (now : Now) (w : World) (m : Mem) → Kept E now w m → (v : Word) → slice_get m.temps i ≡ Some v → (vs : List Word) (r : List Item)
      → Goes E.site 1 w w m (at_work E m w vs (Do (LocalGet x) ∷ r)) m (at_work E m w (v ∷ vs) r)
  gets x i is now w m k v e vs r = one_here E.site w m m (LocalGet x) (frame_of E m w) vs r (thread (frame_of E m w) (v ∷ vs) r) (get_temp E w m k.held x i is v e vs r)

  -- ---- reading and writing there

  module _ (t : Ty) (s : Scalar) (scalar : IsScalar t) (scalar_is : scalar_of t ≡ Some s) where
    pub read_there : (c : Code) (p : Does Spot) → Leads c t p → Leaves E (c ⨾ one (load s)) t (p >>= fetch)
    read_there c p h = op_then_in E [] c (one (load s)) same spot_pushed (pushes E t) (IsSpot t) (IsValue E t) p fetch h (λ gs grown q ok. by gs q ok) where
      by : (gs : List Home) (q : Spot) → IsSpot t gs q → OpIn E gs (one (load s)) (spot_pushed gs q) (pushes E t) (IsValue E t) (fetch q)
      by gs (at v) ok = op_load E t s scalar scalar_is gs v ok
      by gs (variable y) ok = absurd ok

    -- the value is written, and stays
    op_kept : (hs : List Home) (p v : Value) → LeadsTo t hs p → (ok : IsValue E t hs v)
        → OpIn E hs (plain (LocalTee (scratch_of E.target s) ∷ store s ∷ LocalGet (scratch_of E.target s) ∷ [])) (λ vs. word_of E.places t hs v ∷ Handle (handle hs p) ∷ vs) (pushes E t) (IsValue E t) (alter (λ os. write os p v) >> pure v)
    op_kept hs p v of_p ok n has now le vs r dep w m k =
        let x = scratch_of E.target s in
        let i = index_of s in
        let top = word_of E.places t hs v in
        let m1 = with_temp E m i top in
        let k1 = tees_kept x i (is_scratch s) (few s) now w m k top in
        let us = top ∷ Handle (handle hs p) ∷ vs in
        let y = alter (λ os. write os p v) w in
        behind_goes E.site 1 (1 + 1) w w m m1 (at_work E m w us (Do (LocalTee x) ∷ Do (store s) ∷ Do (LocalGet x) ∷ r)) (at_work E m1 w us (Do (store s) ∷ Do (LocalGet x) ∷ r)) (ToIn E (pushes E t) vs r) (GoodIn E (IsValue E t) now) (after y (λ u. pure v))
        (tees x i (is_scratch s) (few s) now w m k top (Handle (handle hs p) ∷ vs) (Do (store s) ∷ Do (LocalGet x) ∷ r))
        (bind E.site 1 1 m1 (at_work E m1 w us (Do (store s) ∷ Do (LocalGet x) ∷ r)) w (ToIn E (λ gs. gone E) vs (Do (LocalGet x) ∷ r)) (SameIn E m1 (λ gs. Always E) now) (ToIn E (pushes E t) vs r) (GoodIn E (IsValue E t) now) y (λ u. pure v)
        (λ ag. store_runs E t s scalar scalar_is hs p of_p v ok now le vs (Do (LocalGet x) ∷ r) w m1 k1)
        (λ u w2 m2 g ag.
        let k2 = g.0.1 in
        let more = extends_trans hs now.homes m2.homes le.grown k2.grown in
        let there = ap (λ (ts : List Word). slice_get ts i) g.1 ∙ tees_there x i (is_scratch s) (few s) now w m k top in (
          m2,
          (value_still E.unit.structs E.places hs m2.homes more t v ok, k2),
          subst (λ (qs : List Word). Goes E.site 1 w2 w2 m2 (at_work E m2 w2 vs (Do (LocalGet x) ∷ r)) m2 (at_work E m2 w2 qs r)) (ap (λ (q : Word). q ∷ vs) (sym (Rattle.c_runs.proofs.Values.word_still E.unit.structs E.places hs m2.homes more t v ok)) ∙ sym (pushed_is E.unit.structs E.places m2.homes t v vs scalar))
              (gets x i (is_scratch s) now w2 m2 k2 top there vs r),
        )))

    -- ---- assignments (6.5.16)

    -- the value on top is written there, and stays or is gone
    pub ends_there : (k : Bool) (hs : List Home) (p v : Value) → LeadsTo t hs p → IsValue E t hs v → (v' : Value) → (k ≡ true → v' ≡ v) → IsValue E t hs v'
        → OpIn E hs (ended E.target k None s) (λ vs. word_of E.places t hs v ∷ Handle (handle hs p) ∷ vs) (remains E k t) (IsValue E t) (alter (λ os. write os p v) >> pure v')
    ends_there true hs p v of_p ok v' same' ok' = subst (λ (z : Value). OpIn E hs (ended E.target true None s) (λ vs. word_of E.places t hs v ∷ Handle (handle hs p) ∷ vs) (remains E true t) (IsValue E t) (alter (λ os. write os p v) >> pure z)) (sym (same' refl)) (op_kept hs p v of_p ok)
    ends_there false hs p v of_p ok v' same' ok' =
        op_look_in E hs (one (store s)) (λ vs. word_of E.places t hs v ∷ Handle (handle hs p) ∷ vs) (λ gs. gone E) (λ gs. gone E) (λ gs. Always E) (IsValue E t) (alter (λ os. write os p v)) (λ u. pure v') (op_store E t s scalar scalar_is hs p of_p v ok)
        (λ gs grown u ok''. (v', refl, λ vs. refl, value_still E.unit.structs E.places hs gs grown t v' ok'))

    -- the operands as they are where more objects have homes
    pub over_handle : (gs hs : List Home) → Extends gs hs → (p v : Value) → LeadsTo t gs p → IsValue E t hs v → (vs : List Word)
        → word_of E.places t hs v ∷ Handle (handle hs p) ∷ vs ≡ pushes E t hs v (Handle (handle gs p) ∷ vs)
    over_handle gs hs grown p v of_p ok vs =
        ap (λ (h : HandleOf). word_of E.places t hs v ∷ Handle h ∷ vs) (handle_still E.unit.structs E.places gs hs grown (pointer t) p of_p)
        ∙ sym (pushed_is E.unit.structs E.places hs t v (Handle (handle gs p) ∷ vs) scalar)

    pub lead_still : (gs hs : List Home) → Extends gs hs → (p : Value) → LeadsTo t gs p → LeadsTo t hs p
    lead_still gs hs grown p of_p = is_of_still E.unit.structs E.places gs hs grown (pointer t) p of_p

    pub assign_there : (k : Bool) (c d : Code) (p : Does Spot) (y : Does Value) → Leads c t p → Leaves E d t y
        → OpIn E [] (c ⨾ (d ⨾ ended E.target k None s)) same (remains E k t) (IsValue E t) (p >>= (λ q. y >>= (λ v. meaning.store q v >> pure v)))
    assign_there k c d p y h hd = op_then_in E [] c (d ⨾ ended E.target k None s) same spot_pushed (remains E k t) (IsSpot t) (IsValue E t) p (λ q. y >>= (λ v. meaning.store q v >> pure v)) h (λ gs grown q ok. by gs q ok) where
      by : (gs : List Home) (q : Spot) → IsSpot t gs q → OpIn E gs (d ⨾ ended E.target k None s) (spot_pushed gs q) (remains E k t) (IsValue E t) (y >>= (λ v. meaning.store q v >> pure v))
      by gs (variable x) ok = absurd ok
      by gs (at pv) ok =
          let under : Stack = λ vs. Handle (handle gs pv) ∷ vs in
          op_then_in E gs d (ended E.target k None s) under (λ hs v vs. pushes E t hs v (under vs)) (remains E k t) (IsValue E t) (IsValue E t) y (λ v. meaning.store (at pv) v >> pure v)
          (op_over_in E gs d same under (pushes E t) (IsValue E t) y (op_any E gs d same (pushes E t) (IsValue E t) y hd))
          (λ hs grown v ok'.
          subst (λ (st : Stack). OpIn E hs (ended E.target k None s) st (remains E k t) (IsValue E t) (alter (λ os. write os pv v) >> pure v)) (λ j vs. over_handle gs hs grown pv v ok ok' vs j)
          (ends_there k hs pv v (lead_still gs hs grown pv ok) ok' v (λ e. refl) ok'))

    -- ---- the old value, over the handle

    -- a value that is read, and what is done with it where the locals behind the slots are known
    pub op_old : (gs : List Home) (p : Value) → LeadsTo t gs p
        → OpIn E gs (plain (LocalTee (scratch_place E.target) ∷ LocalGet (scratch_place E.target) ∷ load s ∷ [])) (λ vs. Handle (handle gs p) ∷ vs) (λ hs v vs. pushes E t hs v (Handle (handle gs p) ∷ vs)) (IsValue E t) (ask (λ os. read os p))
    op_old gs p of_p n has now le vs r dep w m k =
        let x = scratch_place E.target in
        let H = Handle (handle gs p) in
        let m1 = with_temp E m 3 H in
        let few' : 3 < 4 = omega arith in
        let k1 = tees_kept x 3 is_place few' now w m k H in
        let y = ask (λ os. read os p) w in
        behind_goes E.site (1 + 1) 1 w w m m1 (at_work E m w (H ∷ vs) (Do (LocalTee x) ∷ Do (LocalGet x) ∷ Do (load s) ∷ r)) (at_work E m1 w (H ∷ H ∷ vs) (Do (load s) ∷ r)) (ToIn E (λ hs v us. pushes E t hs v (H ∷ us)) vs r) (GoodIn E (IsValue E t) now) y
        (goes_on E.site 1 1 w w w m m1 m1 (at_work E m w (H ∷ vs) (Do (LocalTee x) ∷ Do (LocalGet x) ∷ Do (load s) ∷ r)) (at_work E m1 w (H ∷ vs) (Do (LocalGet x) ∷ Do (load s) ∷ r)) (at_work E m1 w (H ∷ H ∷ vs) (Do (load s) ∷ r))
        (tees x 3 is_place few' now w m k H vs (Do (LocalGet x) ∷ Do (load s) ∷ r))
        (gets x 3 is_place now w m1 k1 H (tees_there x 3 is_place few' now w m k H) (H ∷ vs) (Do (load s) ∷ r)))
        (op_load E t s scalar scalar_is gs p of_p n tt now le (H ∷ vs) r dep w m1 k1)

    -- and below it
    pub op_over_old : (gs : List Home) (p : Value) → LeadsTo t gs p
        → OpIn E gs (plain (LocalTee (scratch_place E.target) ∷ load s ∷ LocalTee (scratch_of E.target s) ∷ LocalGet (scratch_place E.target) ∷ LocalGet (scratch_of E.target s) ∷ [])) (λ vs. Handle (handle gs p) ∷ vs) (λ hs v vs. pushes E t hs v (Handle (handle gs p) ∷ pushes E t hs v vs)) (IsValue E t) (ask (λ os. read os p))
    op_over_old gs p of_p n has now le vs r dep w m k =
        let x = scratch_place E.target in
        let z = scratch_of E.target s in
        let i = index_of s in
        let H = Handle (handle gs p) in
        let m1 = with_temp E m 3 H in
        let few' : 3 < 4 = omega arith in
        let k1 = tees_kept x 3 is_place few' now w m k H in
        let y = ask (λ os. read os p) w in
        let r3 = Do (LocalGet z) ∷ r in
        let r2 = Do (LocalGet x) ∷ r3 in
        let r1 = Do (LocalTee z) ∷ r2 in
        let post = λ (hs : List Home) (v : Value) (us : List Word). pushes E t hs v (H ∷ pushes E t hs v us) in
        subst (λ (q : Result Value). Runs E.site (1 + (1 + 3)) m (at_work E m w (H ∷ vs) (Do (LocalTee x) ∷ Do (load s) ∷ r1)) w (ToIn E post vs r) (GoodIn E (IsValue E t) now) q) (after_pure E y)
        (behind_goes E.site 1 (1 + 3) w w m m1 (at_work E m w (H ∷ vs) (Do (LocalTee x) ∷ Do (load s) ∷ r1)) (at_work E m1 w (H ∷ vs) (Do (load s) ∷ r1)) (ToIn E post vs r) (GoodIn E (IsValue E t) now) (after y (λ v. gives v))
        (tees x 3 is_place few' now w m k H vs (Do (load s) ∷ r1))
        (bind E.site 1 3 m1 (at_work E m1 w (H ∷ vs) (Do (load s) ∷ r1)) w (ToIn E (pushes E t) vs r1) (SameIn E m1 (IsValue E t) now) (ToIn E post vs r) (GoodIn E (IsValue E t) now) y (λ v. gives v)
        (λ ag. load_runs E t s scalar scalar_is gs p of_p now le vs r1 w m1 k1)
        (λ v w2 m2 g ag.
        let k2 = g.0.1 in
        let top = word_of E.places t m2.homes v in
        let m3 = with_temp E m2 i top in
        let k3 = tees_kept z i (is_scratch s) (few s) now w2 m2 k2 top in
        let at_place : slice_get m3.temps 3 ≡ Some H = set_elsewhere m2.temps i 3 top (differs s) ∙ ap (λ (ts : List Word). slice_get ts 3) g.1 ∙ tees_there x 3 is_place few' now w m k H in
        let is = λ (us : List Word). pushed_is E.unit.structs E.places m2.homes t v us scalar in (
          m3,
          (g.0.0, k3),
          subst (λ (us : List Word). Goes E.site 3 w2 w2 m2 (at_work E m2 w2 us r1) m3 (at_work E m3 w2 (pushes E t m2.homes v (H ∷ pushes E t m2.homes v vs)) r)) (sym (is vs))
              (subst (λ (us : List Word). Goes E.site 3 w2 w2 m2 (at_work E m2 w2 (top ∷ vs) r1) m3 (at_work E m3 w2 us r)) (sym (is (H ∷ pushes E t m2.homes v vs) ∙ ap (λ (us : List Word). top ∷ H ∷ us) (is vs)))
              (goes_on E.site 1 2 w2 w2 w2 m2 m3 m3 (at_work E m2 w2 (top ∷ vs) r1) (at_work E m3 w2 (top ∷ vs) r2) (at_work E m3 w2 (top ∷ H ∷ top ∷ vs) r) (tees z i (is_scratch s) (few s) now w2 m2 k2 top vs r2)
              (goes_on E.site 1 1 w2 w2 w2 m3 m3 m3 (at_work E m3 w2 (top ∷ vs) r2) (at_work E m3 w2 (H ∷ top ∷ vs) r3) (at_work E m3 w2 (top ∷ H ∷ top ∷ vs) r)
              (gets x 3 is_place now w2 m3 k3 H at_place (top ∷ vs) r3)
              (gets z i (is_scratch s) now w2 m3 k3 top (tees_there z i (is_scratch s) (few s) now w2 m2 k2 top) (H ∷ top ∷ vs) r)))),
        ))))
