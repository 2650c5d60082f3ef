-- Steps on the segment memory, and what they tell: where the meaning reads, writes, makes or ends an object.
use Rattle.std.proofs.Common.{◌≡◌, ℕ, suc, ◌+◌, ◌*◌, List, [], ◌∷◌, ◌++◌, append-nil, Bool, true, false, Option, Some, None, Result, Ok, Err, refl, sym, ap, ◌∙◌, arith, subst}
use Rattle.std.specs.Prelude.{slice_get, ◌+ℤ◌, pos}
use Rattle.ms_event.specs.declared.event.Event.{Event}
use Rattle.ms_event.specs.declared.event.Event.TheVariants as events
use Rattle.ms_event.specs.Monitor.{grants, sizes_of}
use Rattle.ms_handle.specs.declared.handle.Handle.{Handle as HandleOf}
use Rattle.ms_handle.specs.declared.handle.Kind.{Kind as SegmentKind}
use Rattle.ms_host.specs.declared.trap.TrapKind.{TrapKind}
use Rattle.ms_linear.specs.declared.value.Value.{Value as Word}
use Rattle.ms_linear.specs.declared.value.Value.TheVariants.{I32, Handle}
use Rattle.ms_machine.specs.Segments.{Effect, Gives, changed, handle_read, number_read, number_stored, segment_on}
use Rattle.ms_machine.specs.Step as step
use Rattle.ms_machine.specs.Step.{act, in_segments}
use Rattle.ms_machine.specs.Crews.{Input}
use Rattle.ms_machine.specs.Running.{with_event}
use Rattle.ms_module.specs.Accesses.{load_bytes, store_bytes}
use Rattle.ms_module.specs.declared.access.LoadOp.{LoadOp}
use Rattle.ms_module.specs.declared.access.LoadOp.TheVariants as loads
use Rattle.ms_module.specs.declared.access.StoreOp.{StoreOp}
use Rattle.ms_module.specs.declared.access.StoreOp.TheVariants as stores
use Rattle.ms_module.specs.declared.access.Segment.TheVariants as segment
use Rattle.ms_module.specs.declared.instr.Instr.{Instr}
use Rattle.ms_module.specs.declared.instr.Instr.TheVariants.{Segment}
use Rattle.ms_operate.specs.Accesses.{number_of, width_of as operand_width}
use Rattle.ms_segment.specs.Calls as call
use Rattle.ms_segment.specs.Memory.{Access, Memory, access, as_number, freed, handle_access, loaded_at, once_more, read_event, writable}
use Rattle.ms_segment.specs.declared.trap.SegTrap.{SegTrap}
use Rattle.ms_task.specs.Control.{exited}
use Rattle.ms_task.specs.Thread.{Do, Frame, Item, Thread, thread}
use Rattle.ms_tagged.specs.Bytes.{number_at, range}
use Rattle.c_types.specs.declared.integers.IntType.{IntType}
use Rattle.c_types.specs.declared.integers.IntType.TheVariants.{Char, SignedChar, UnsignedChar, Short, UnsignedShort, Int, UnsignedInt, Long, UnsignedLong, LongLong, UnsignedLongLong}
use Rattle.c_types.specs.declared.types.Scalar.{Scalar}
use Rattle.c_types.specs.declared.types.Scalar.TheVariants as scalars
use Rattle.c_types.specs.Types.{Ty, void, integer, pointer, struct, array, function, is_function, scalar_of}
use Rattle.c_meaning.specs.Values.{Value}
use Rattle.c_meaning.specs.Objects as objects
use Rattle.c_meaning.specs.Objects.{Object, Outcome, Unsafe, read, write}
use Rattle.c_meaning.specs.World.{unsafe, World, Result as Done, gives, after, ask, alter, as_done}
use Rattle.c_code.specs.Operations as code
use Rattle.c_code.specs.Operations.{load, store}
use Rattle.ms_emit.specs.Codes.{one}
use Rattle.ms_relate.specs.refinement.Acts.{ChangeActs, LoadActs, Traps, apart_traps, bounds_traps, change_traps, changes', freed_traps, invalid_traps, kind_traps, load_instr, load_traps, loads', null_traps, readonly_traps, store_instr, whole_traps}
use Rattle.ms_relate.specs.refinement.Acts as acts
use Rattle.ms_relate.specs.refinement.Homes.{Home, IsScalar, handle}
use Rattle.ms_relate.specs.refinement.Laid.{is_handle}
use Rattle.ms_relate.specs.refinement.Relation.{Related}
use Rattle.ms_relate.proofs.Acts.{act_gives, act_traps, load_acts, store_acts}
use Rattle.ms_relate.proofs.Growing.{Extends, handle_still, related_once_more}
use Rattle.c_runs.specs.Threads.{Ran, Trapped, after_move, before, behind, steps_to}
use Rattle.c_runs.specs.Ends.{stop_of}
use Rattle.c_runs.proofs.Goes as goes
use Rattle.c_runs.proofs.Goes.{Goes, Mem, RunsTo, Site, Tells, given, trapped, weaker}
use Rattle.c_runs.proofs.Lasting.{lasts_trans, open_on, written_lasts}
use Rattle.c_runs.proofs.Values.{of_value, operand_is, pushed_is, to_value, value_still, word_of, word_still}
use Rattle.c_runs.proofs.Related.{Env, IsValue, Kept, KeptAs, Now, Starts, extends_trans, frame_of, front, pushes}
use Rattle.c_runs.proofs.Ops.{GoodIn, OpIn, ToIn, at_work}
use Rattle.c_runs.proofs.Nodes.{Always, gone}

-- ---- what an instruction tells

-- nothing was asked for
abbrev pub IsQuiet : Option Event → Type 0
IsQuiet None = Unit {0}
IsQuiet (Some (events.Alloc id addr size)) = ⊥
IsQuiet (Some (events.Refused size)) = ⊥
IsQuiet (Some e) = Unit {0}

quiet_grants : (e : Option Event) → IsQuiet e → grants (with_event e []) ≡ []
quiet_grants None q = refl
quiet_grants (Some (events.Alloc id addr size)) q = absurd q
quiet_grants (Some (events.Refused size)) q = absurd q
quiet_grants (Some (events.Slice a b c d e f)) q = refl
quiet_grants (Some (events.Read a b c d e f)) q = refl
quiet_grants (Some (events.Write a b c d e)) q = refl
quiet_grants (Some (events.Free a)) q = refl
quiet_grants (Some (events.Seal a b c)) q = refl

quiet_sizes : (e : Option Event) → IsQuiet e → sizes_of (with_event e []) ≡ []
quiet_sizes None q = refl
quiet_sizes (Some (events.Alloc id addr size)) q = absurd q
quiet_sizes (Some (events.Refused size)) q = absurd q
quiet_sizes (Some (events.Slice a b c d e f)) q = refl
quiet_sizes (Some (events.Read a b c d e f)) q = refl
quiet_sizes (Some (events.Write a b c d e)) q = refl
quiet_sizes (Some (events.Free a)) q = refl
quiet_sizes (Some (events.Seal a b c)) q = refl

abbrev pub Quiet : Effect → Type 0
Quiet (Gives vs m e) = IsQuiet e
Quiet _ = Unit {0}

pub quiet_load : (op : LoadOp) (m : Memory) (h : HandleOf) (rest : List Word) → Quiet (segment_on (segment.Load op) m (Handle h ∷ rest))
quiet_load op m h rest = by (access m h (load_bytes op)) where
  found : (a : Access) (n : Option ℕ) → Quiet (number_read op m rest (as_number n (read_event a (load_bytes op))))
  found a None = tt
  found a (Some n) = tt

  by : (r : Result Access SegTrap) → Quiet (number_read op m rest (loaded_at m (load_bytes op) r))
  by (Ok a) = found a (number_at (range a.address (load_bytes op) m.bytes))
  by (Err e) = tt

pub quiet_load_handle : (m : Memory) (h : HandleOf) (rest : List Word) → Quiet (segment_on segment.LoadHandle m (Handle h ∷ rest))
quiet_load_handle m h rest = by (handle_access m h) where
  by : (r : Result Access SegTrap) → Quiet (handle_read m rest (call.handle_loaded_at m r))
  by (Ok a) = tt
  by (Err e) = tt

pub quiet_store : (op : StoreOp) (m : Memory) (v : Word) (h : HandleOf) (rest : List Word) → Quiet (segment_on (segment.Store op) m (v ∷ Handle h ∷ rest))
quiet_store op m v h rest = by (number_of (operand_width op) v) where
  put : (n : ℕ) (r : Result Access SegTrap) → Quiet (changed rest (call.stored_at m (Rattle.ms_tagged.specs.Bytes.data_of (store_bytes op) n) (store_bytes op) r))
  put n (Ok a) = tt
  put n (Err e) = tt

  by : (o : Option ℕ) → Quiet (number_stored m rest h (store_bytes op) o)
  by None = tt
  by (Some n) = put n (writable (access m h (store_bytes op)))

pub quiet_store_handle : (m : Memory) (v h : HandleOf) (rest : List Word) → Quiet (segment_on segment.StoreHandle m (Handle v ∷ Handle h ∷ rest))
quiet_store_handle m v h rest = by (writable (handle_access m h)) where
  by : (r : Result Access SegTrap) → Quiet (changed rest (call.stored_at m (Rattle.ms_tagged.specs.Bytes.pieces v) 16 r))
  by (Ok a) = tt
  by (Err e) = tt

pub quiet_free : (m : Memory) (k : SegmentKind) (h : HandleOf) (rest : List Word) → Quiet (segment_on (segment.Free k) m (Handle h ∷ rest))
quiet_free m k h rest = by (freed m h k) where
  by : (r : Result ℕ SegTrap) → Quiet (changed rest (call.ended_at m r))
  by (Ok id) = tt
  by (Err e) = tt

-- ---- a step with an event

module _ (S : Site) where
  told : (e : Option Event) (r : Ran) → before None e r ≡ behind [] (with_event e []) r
  told None r = refl
  told (Some e) r = refl

  pub event_goes : (w w' : World) (m m' : Mem) (i : Instr) (fr : Frame) (vs : List Word) (r : List Item) (t' : Thread) (e : Option Event) → w'.fuel ≡ w.fuel → w'.input ≡ w.input → Tells w w' [] (with_event e [])
      → act (goes.store S m) i (thread fr vs r) ≡ step.Next (goes.store S m') t' e → Goes S 1 w w' m (thread fr vs (Do i ∷ r)) m' (exited t')
  event_goes w w' m m' i fr vs r t' e ef ei tells q = record {
    puts = [];
    events = with_event e [];
    tells = tells;
    cost = 1;
    least = omega (arith, ef);
    greatest = let z = ap (λ (n : ℕ). S.most * n) ef in omega (arith, z);
    by = λ k.
        let one : 1 + k ≡ suc k = omega arith in
        ap (λ (n : ℕ). steps_to S.last n (goes.store S m) (thread fr vs (Do i ∷ r)) (given w)) one
        ∙ ap (λ (o : step.Outcome). after_move (Rattle.ms_machine.specs.Moves.move_on (goes.store S m) (Rattle.ms_machine.specs.Moves.first_of (given w)) (step.exited o)) (given w) (steps_to S.last k)) q
        ∙ told e (steps_to S.last k (goes.store S m') (exited t') (given w))
        ∙ ap (λ (l : Input). behind [] (with_event e []) (steps_to S.last k (goes.store S m') (exited t') l)) (sym ei);
  }

  pub quiet_tells : (w w' : World) (e : Option Event) → IsQuiet e → w'.output ≡ w.output → w'.sizes ≡ w.sizes → w.grants ≡ w'.grants → Tells w w' [] (with_event e [])
  quiet_tells w w' e q eo es eg = record {
    output = eo ∙ sym (append-nil w.output);
    sizes = es ∙ sym (append-nil w.sizes) ∙ ap (λ (l : List ℕ). w.sizes ++ l) (sym (quiet_sizes e q));
    grants = eg ∙ ap (λ (l : List Bool). l ++ w'.grants) (sym (quiet_grants e q));
  }

-- ---- accesses

load_of_is : (u : IntType) → code.load_of u ≡ segment.Load (acts.load_of u)
load_of_is Char = refl
load_of_is SignedChar = refl
load_of_is UnsignedChar = refl
load_of_is Short = refl
load_of_is UnsignedShort = refl
load_of_is Int = refl
load_of_is UnsignedInt = refl
load_of_is Long = refl
load_of_is UnsignedLong = refl
load_of_is LongLong = refl
load_of_is UnsignedLongLong = refl

store_of_is : (u : IntType) → code.store_of u ≡ segment.Store (acts.store_of u)
store_of_is Char = refl
store_of_is SignedChar = refl
store_of_is UnsignedChar = refl
store_of_is Short = refl
store_of_is UnsignedShort = refl
store_of_is Int = refl
store_of_is UnsignedInt = refl
store_of_is Long = refl
store_of_is UnsignedLong = refl
store_of_is LongLong = refl
store_of_is UnsignedLongLong = refl

some_scalar : (s r : Scalar) → Some s ≡ Some r → s ≡ r
some_scalar s r e = ap (λ (o : Option Scalar). or o) e where
  or : Option Scalar → Scalar
  or None = s
  or (Some q) = q

pub load_is : (t : Ty) (s : Scalar) → scalar_of t ≡ Some s → load s ≡ Segment (load_instr t)
load_is (integer u) s e = ap load (sym (some_scalar (scalars.Int u) s e)) ∙ ap Segment (load_of_is u)
load_is (pointer u) s e = ap load (sym (some_scalar (scalar_by (is_function u)) s e)) ∙ by (is_function u) where
  scalar_by : Bool → Scalar
  scalar_by b = Rattle.std.specs.Prelude.cond b scalars.Function scalars.Pointer

  by : (b : Bool) → load (scalar_by b) ≡ Segment (Rattle.std.specs.Prelude.cond (Rattle.std.specs.Prelude.cond b false true) segment.LoadHandle (segment.Load loads.I32Load))
  by true = refl
  by false = refl
load_is void s e = absurd cc
load_is (struct n) s e = absurd cc
load_is (array t n) s e = absurd cc
load_is (function r ps) s e = absurd cc

pub store_is : (t : Ty) (s : Scalar) → scalar_of t ≡ Some s → store s ≡ Segment (store_instr t)
store_is (integer u) s e = ap store (sym (some_scalar (scalars.Int u) s e)) ∙ ap Segment (store_of_is u)
store_is (pointer u) s e = ap store (sym (some_scalar (scalar_by (is_function u)) s e)) ∙ by (is_function u) where
  scalar_by : Bool → Scalar
  scalar_by b = Rattle.std.specs.Prelude.cond b scalars.Function scalars.Pointer

  by : (b : Bool) → store (scalar_by b) ≡ Segment (Rattle.std.specs.Prelude.cond (Rattle.std.specs.Prelude.cond b false true) segment.StoreHandle (segment.Store stores.I32Store))
  by true = refl
  by false = refl
store_is void s e = absurd cc
store_is (struct n) s e = absurd cc
store_is (array t n) s e = absurd cc
store_is (function r ps) s e = absurd cc

pub quiet_read : (t : Ty) (m : Memory) (h : HandleOf) (rest : List Word) → IsScalar t → Quiet (segment_on (load_instr t) m (Handle h ∷ rest))
quiet_read (integer u) m h rest s = quiet_load (acts.load_of u) m h rest
quiet_read (pointer u) m h rest s = by (is_handle (pointer u)) where
  by : (b : Bool) → Quiet (segment_on (Rattle.std.specs.Prelude.cond b segment.LoadHandle (segment.Load loads.I32Load)) m (Handle h ∷ rest))
  by true = quiet_load_handle m h rest
  by false = quiet_load loads.I32Load m h rest
quiet_read void m h rest s = absurd s
quiet_read (struct n) m h rest s = absurd s
quiet_read (array t n) m h rest s = absurd s
quiet_read (function r ps) m h rest s = absurd s

pub quiet_write : (t : Ty) (places : Ty → ℕ → ℕ) (hs : List Home) (v : Value) (m : Memory) (h : HandleOf) (rest : List Word) → IsScalar t → Quiet (segment_on (store_instr t) m (acts.operand places hs t v ∷ Handle h ∷ rest))
quiet_write (integer u) places hs v m h rest s = quiet_store (acts.store_of u) m (acts.operand places hs (integer u) v) h rest
quiet_write (pointer u) places hs v m h rest s = by (is_handle (pointer u)) where
  by : (b : Bool) → Quiet (segment_on (Rattle.std.specs.Prelude.cond b segment.StoreHandle (segment.Store stores.I32Store)) m (Rattle.std.specs.Prelude.cond b (Handle (handle hs v)) (I32 (Rattle.ms_relate.specs.refinement.Homes.word places (pointer u) v)) ∷ Handle h ∷ rest))
  by true = quiet_store_handle m (handle hs v) h rest
  by false = quiet_store stores.I32Store m (I32 (Rattle.ms_relate.specs.refinement.Homes.word places (pointer u) v)) h rest
quiet_write void places hs v m h rest s = absurd s
quiet_write (struct n) places hs v m h rest s = absurd s
quiet_write (array t n) places hs v m h rest s = absurd s
quiet_write (function r ps) places hs v m h rest s = absurd s

pub trap_is : (u : Unsafe) (k : TrapKind) → Traps u k → stop_of (unsafe u) ≡ Trapped k
trap_is u k null_traps = refl
trap_is u k invalid_traps = refl
trap_is u k freed_traps = refl
trap_is u k bounds_traps = refl
trap_is u k whole_traps = refl
trap_is u k kind_traps = refl
trap_is u k readonly_traps = refl
trap_is u k apart_traps = refl

module _ (E : Env) where
  abbrev structs : Rattle.c_types.specs.Layout.Table
  structs = E.unit.structs

  -- with other segments of other objects
  pub kept_objects : (now : Now) (os qs : List Object) (w : World) (m : Mem) (seg : Memory) → Related structs E.places m.homes qs seg → Rattle.c_runs.proofs.Held.Lasts w.objects qs → KeptAs E now os w m → Kept E now (record w { objects = qs }) (record m { segments = seg })
  kept_objects now os qs w m seg related l k = record {
    held = k.held;
    deep = k.deep;
    less = k.less;
    bytes = k.bytes;
    temps = k.temps;
    grown = k.grown;
    related = related;
    open' = open_on E.kinds now.visible w.objects qs w.locals l k.open';
    apart = k.apart;
    own = k.own;
    lasts = lasts_trans now.objects w.objects qs k.lasts l;
    file = k.file;
  }

  -- with other segments of the same objects
  pub kept_segments : (now : Now) (os qs : List Object) (w : World) (m : Mem) (seg : Memory) → Related structs E.places m.homes qs seg → KeptAs E now os w m → KeptAs E now qs w (record m { segments = seg })
  kept_segments now os qs w m seg related k = record {
    held = k.held;
    deep = k.deep;
    less = k.less;
    bytes = k.bytes;
    temps = k.temps;
    grown = k.grown;
    related = related;
    open' = k.open';
    apart = k.apart;
    own = k.own;
    lasts = k.lasts;
    file = k.file;
  }

  -- and the locals behind the slots are as they were
  abbrev pub SameIn : {A : Type 0} → Mem → (List Home → A → Type 0) → Now → A → World → Mem → Type 0
  SameIn m P now a w1 m1 = GoodIn E P now a w1 m1 × (m1.temps ≡ m.temps)

  module _ (t : Ty) (s : Scalar) (scalar : IsScalar t) (scalar_is : scalar_of t ≡ Some s) (hs : List Home) (p : Value) (of_p : Rattle.ms_relate.specs.refinement.Homes.IsOf structs E.places hs (pointer t) p) where
    abbrev handle_p : Word
    handle_p = Handle (handle hs p)

    still_p : (now : Now) (w : World) (m : Mem) → Rattle.c_runs.proofs.Related.Starts E hs now → Kept E now w m → Extends hs m.homes
    still_p now w m le k = extends_trans hs now.homes m.homes le.grown k.grown

    same_p : (now : Now) (w : World) (m : Mem) → Rattle.c_runs.proofs.Related.Starts E hs now → Kept E now w m → handle m.homes p ≡ handle hs p
    same_p now w m le k = handle_still structs E.places hs m.homes (still_p now w m le k) (pointer t) p of_p

    there_p : (now : Now) (w : World) (m : Mem) → Rattle.c_runs.proofs.Related.Starts E hs now → Kept E now w m → Rattle.ms_relate.specs.refinement.Homes.IsOf structs E.places m.homes (pointer t) p
    there_p now w m le k = Rattle.ms_relate.proofs.Growing.is_of_still structs E.places hs m.homes (still_p now w m le k) (pointer t) p of_p

    -- the value there (6.3.2.1, paragraph 2)
    load_by : (now : Now) (vs : List Word) (r : List Item) (w : World) (m : Mem) → Kept E now w m → (o : Outcome Value) → LoadActs structs E.places m.homes t m.segments (λ rest. segment_on (load_instr t) m.segments (Handle (handle m.homes p) ∷ rest)) o
        → RunsTo E.site 1 m (at_work E m w (Handle (handle m.homes p) ∷ vs) (Do (Segment (load_instr t)) ∷ r)) w (ToIn E (pushes E t) vs r) (SameIn m (IsValue E t) now) (as_done o w)
    load_by now vs r w m k (objects.gives v) (loads' {e} of is) =
        let seg = once_more m.segments in
        let m' : Mem = record m { segments = seg } in
        let ok = to_value structs E.places m.homes t v scalar of in
        let quiet = subst Quiet (is vs) (quiet_read t m.segments (handle m.homes p) vs scalar) in (
          m',
          ((ok, kept_segments now w.objects w.objects w m seg (related_once_more structs E.places m.homes w.objects m.segments k.related) k), refl),
          subst (λ (us : List Word). Goes E.site 1 w w m (at_work E m w (Handle (handle m.homes p) ∷ vs) (Do (Segment (load_instr t)) ∷ r)) m' (at_work E m' w us r)) (ap (λ (x : Word). x ∷ vs) (sym (operand_is structs E.places m.homes t v scalar ok)) ∙ sym (pushed_is structs E.places m.homes t v vs scalar))
              (event_goes E.site w w m m' (Segment (load_instr t)) (frame_of E m w) (Handle (handle m.homes p) ∷ vs) r (thread (frame_of E m w) (acts.operand E.places m.homes t v ∷ vs) r) (Some e) refl refl
              (quiet_tells E.site w w (Some e) quiet refl refl refl)
              (act_gives (goes.store E.site m) (frame_of E m w) r (load_instr t) (Handle (handle m.homes p) ∷ vs) (acts.operand E.places m.homes t v ∷ vs) seg (Some e) (is vs))),
        )
    load_by now vs r w m k (objects.stops u) (load_traps {k = kind} traps is) =
        trapped E.site w m (Segment (load_instr t)) (frame_of E m w) (Handle (handle m.homes p) ∷ vs) r kind (unsafe u)
        (act_traps (goes.store E.site m) (frame_of E m w) r (load_instr t) (Handle (handle m.homes p) ∷ vs) kind (is vs)) tt (trap_is u kind traps) tt
    load_by now vs r w m k objects.lost x = elim x [ ]

    pub load_runs : (now : Now) → Starts E hs now → (vs : List Word) (r : List Item) (w : World) (m : Mem) → Kept E now w m → RunsTo E.site 1 m (at_work E m w (handle_p ∷ vs) (Do (load s) ∷ r)) w (ToIn E (pushes E t) vs r) (SameIn m (IsValue E t) now) (as_done (read w.objects p) w)
    load_runs now le vs r w m k =
        subst (λ (i : Instr). RunsTo E.site 1 m (at_work E m w (handle_p ∷ vs) (Do i ∷ r)) w (ToIn E (pushes E t) vs r) (SameIn m (IsValue E t) now) (as_done (read w.objects p) w)) (sym (load_is t s scalar_is))
        (subst (λ (h : HandleOf). RunsTo E.site 1 m (at_work E m w (Handle h ∷ vs) (Do (Segment (load_instr t)) ∷ r)) w (ToIn E (pushes E t) vs r) (SameIn m (IsValue E t) now) (as_done (read w.objects p) w)) (same_p now w m le k)
        (load_by now vs r w m k (read w.objects p) (load_acts structs E.places m.homes m.segments w.objects t p k.related scalar (there_p now w m le k))))

    pub op_load : OpIn E hs (one (load s)) (λ vs. handle_p ∷ vs) (pushes E t) (IsValue E t) (ask (λ os. read os p))
    op_load n has now le vs r dep w m k =
        weaker E.site 1 m (at_work E m w (handle_p ∷ vs) (Do (load s) ∷ r)) w (ToIn E (pushes E t) vs r) (SameIn m (IsValue E t) now) (GoodIn E (IsValue E t) now) (as_done (read w.objects p) w) (λ v w1 m1 g. g.0) (λ ag. load_runs now le vs r w m k)

    -- another value there (6.5.16)
    module _ (v : Value) (ok : IsValue E t hs v) where
      abbrev written : World → Done (Unit {0})
      written w = after (as_done (write w.objects p v) w) (λ qs w1. gives tt (record w1 { objects = qs }))

      store_by : (now : Now) (vs : List Word) (r : List Item) (w : World) (m : Mem) → Kept E now w m → (o : Outcome (List Object)) → write w.objects p v ≡ o
          → ChangeActs structs E.places m.homes (λ rest. segment_on (store_instr t) m.segments (acts.operand E.places m.homes t v ∷ Handle (handle m.homes p) ∷ rest)) o
          → RunsTo E.site 1 m (at_work E m w (acts.operand E.places m.homes t v ∷ Handle (handle m.homes p) ∷ vs) (Do (Segment (store_instr t)) ∷ r)) w (ToIn E (λ gs. gone E) vs r) (SameIn m (λ gs. Always E) now)
          (after (as_done o w) (λ qs w1. gives tt (record w1 { objects = qs })))
      store_by now vs r w m k (objects.gives qs) eq (changes' {m = seg} {e} related is) =
          let m' : Mem = record m { segments = seg } in
          let w' : World = record w { objects = qs } in
          let us = acts.operand E.places m.homes t v ∷ Handle (handle m.homes p) ∷ vs in
          let quiet = subst Quiet (is vs) (quiet_write t E.places m.homes v m.segments (handle m.homes p) vs scalar) in (
            m',
            ((tt, kept_objects now w.objects qs w m seg related (written_lasts w.objects qs p v eq) k), refl),
            event_goes E.site w w' m m' (Segment (store_instr t)) (frame_of E m w) us r (thread (frame_of E m w) vs r) (Some e) refl refl
                (quiet_tells E.site w w' (Some e) quiet refl refl refl)
                (act_gives (goes.store E.site m) (frame_of E m w) r (store_instr t) us vs seg (Some e) (is vs)),
          )
      store_by now vs r w m k (objects.stops u) eq (change_traps {k = kind} traps is) =
          trapped E.site w m (Segment (store_instr t)) (frame_of E m w) (acts.operand E.places m.homes t v ∷ Handle (handle m.homes p) ∷ vs) r kind (unsafe u)
          (act_traps (goes.store E.site m) (frame_of E m w) r (store_instr t) (acts.operand E.places m.homes t v ∷ Handle (handle m.homes p) ∷ vs) kind (is vs)) tt (trap_is u kind traps) tt
      store_by now vs r w m k objects.lost eq x = elim x [ ]

      abbrev below : List Word → List Word
      below vs = word_of E.places t hs v ∷ handle_p ∷ vs

      pub store_runs : (now : Now) → Starts E hs now → (vs : List Word) (r : List Item) (w : World) (m : Mem) → Kept E now w m → RunsTo E.site 1 m (at_work E m w (below vs) (Do (store s) ∷ r)) w (ToIn E (λ gs. gone E) vs r) (SameIn m (λ gs. Always E) now) (written w)
      store_runs now le vs r w m k =
          let more = still_p now w m le k in
          let ok' = value_still structs E.places hs m.homes more t v ok in
          subst (λ (i : Instr). RunsTo E.site 1 m (at_work E m w (below vs) (Do i ∷ r)) w (ToIn E (λ gs. gone E) vs r) (SameIn m (λ gs. Always E) now) (written w)) (sym (store_is t s scalar_is))
          (subst (λ (us : List Word). RunsTo E.site 1 m (at_work E m w us (Do (Segment (store_instr t)) ∷ r)) w (ToIn E (λ gs. gone E) vs r) (SameIn m (λ gs. Always E) now) (written w))
          (ap (λ (y : Word). y ∷ Handle (handle m.homes p) ∷ vs) (sym (operand_is structs E.places m.homes t v scalar ok') ∙ word_still structs E.places hs m.homes more t v ok) ∙ ap (λ (h : HandleOf). word_of E.places t hs v ∷ Handle h ∷ vs) (same_p now w m le k))
          (store_by now vs r w m k (write w.objects p v) refl (store_acts structs E.places m.homes m.segments w.objects t p v k.related scalar (there_p now w m le k) (of_value structs E.places m.homes t v scalar ok'))))

      pub op_store : OpIn E hs (one (store s)) below (λ gs. gone E) (λ gs. Always E) (alter (λ os. write os p v))
      op_store n has now le vs r dep w m k =
          weaker E.site 1 m (at_work E m w (below vs) (Do (store s) ∷ r)) w (ToIn E (λ gs. gone E) vs r) (SameIn m (λ gs. Always E) now) (GoodIn E (λ gs. Always E) now) (written w) (λ u w1 m1 g. g.0) (λ ag. store_runs now le vs r w m k)
