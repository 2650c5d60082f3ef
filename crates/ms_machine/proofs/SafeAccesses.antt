-- Reads and writes go through a known shade, to addresses that are painted inside of it.
use Rattle.std.proofs.Common.{◌≡◌, ◌==◌, ℕ, ℤ, pos, negsuc, ◌+◌, ◌%◌, ◌≤◌, inl, inr, Bool, true, false, cond, List, Option, Some, None, Result, Ok, Err, length, refl, sym, ap, subst, arith}
use Rattle.std.specs.Prelude.{nat_le}
use Rattle.std.specs.List.{Contains}
use Rattle.std.proofs.lemmas.Bool.{eqb-true, leb-true}
use Rattle.std.proofs.lemmas.List.Elements.{All-contains}
use Rattle.ms_event.specs.declared.event.Event.{Event}
use Rattle.ms_event.specs.Monitor.{MayAccess, State, shade_of}
use Rattle.ms_handle.specs.declared.handle.Handle.{Handle}
use Rattle.ms_handle.specs.declared.handle.Handle.TheVariants as handles
use Rattle.ms_live.specs.declared.gaps.Live.{Live}
use Rattle.ms_live.proofs.Found.{find-Some}
use Rattle.ms_segment.specs.Calls.{Change, handle_at, handle_loaded_at, load_handle, store, store_handle, stored_at}
use Rattle.ms_segment.specs.declared.trap.SegTrap.{SegTrap}
use Rattle.ms_segment.specs.declared.trap.SegTrap.TheVariants as traps
use Rattle.ms_segment.specs.Memory.{Access, IsFit, IsSound, Memory, access, accessed, accessed_if, aligned, as_number, handle_access, live_of, loaded, loaded_at, once_more, read_event, with_bytes, writable, write_event}
use Rattle.ms_segment.proofs.Finds.{Contains-drop, Contains-overwritten, Contains-take}
use Rattle.ms_segment.proofs.Functions.{IsHandleAt-handle_at}
use Rattle.ms_segment.proofs.Reach.{handle_access-within, handle_write-within, writable-Ok, write-within}
use Rattle.ms_segment.proofs.Sound.{IsData, All-data_of, piece_of}
use Rattle.ms_tagged.specs.Bytes.{Byte, IsHandleAt, Piece, cleared, data_of, number_at, pieces, range, torn, whole}
use Rattle.ms_tagged.proofs.Numbers.{length-data_of}
use Rattle.ms_tagged.proofs.Ranges.{length-overwritten, length-range}
use Rattle.ms_machine.specs.refinement.Safety.{IsMonitored, KnowsHandle}
use Rattle.ms_machine.proofs.SafePaints.{paint}
use Rattle.ms_machine.proofs.SafeStates.{Follows, grows-refl}

-- ---- where an access goes

-- the offset, counted from the bound's base, and the addresses from there on lie in the bound
abbrev IsSpot : Live → (sealed : Bool) (base size : ℕ) → ℤ → (width : ℕ) → Access → Type 0
IsSpot s sealed base size offset width a =
    (n : ℕ) × (offset ≡ pos n) × (n + width ≤ size) × (record { address = s.base + base + n; id = s.id; lo = base; hi = base + size; sealed = sealed } ≡ a)

tested_spot : (s : Live) (sealed : Bool) (base size n width : ℕ) (a : Access) (b : Bool) → nat_le (n + width) size ≡ b → cond b (Ok (record { address = s.base + base + n; id = s.id; lo = base; hi = base + size; sealed = sealed })) (Err traps.Bounds) ≡ Ok a → IsSpot s sealed base size (pos n) width a
tested_spot s sealed base size n width a true near is = (n, refl, leb-true (n + width) size near, cc)
tested_spot s sealed base size n width a false near is = absurd (cc)

accessed_spot : (s : Live) (sealed : Bool) (base size : ℕ) (offset : ℤ) (width : ℕ) (a : Access) → accessed s sealed base size offset width ≡ Ok a → IsSpot s sealed base size offset width a
accessed_spot s sealed base size (pos n) width a is = tested_spot s sealed base size n width a (nat_le (n + width) size) refl is
accessed_spot s sealed base size (negsuc n) width a is = absurd (cc)

live_spot : (o : Option Live) (sealed : Bool) (base size : ℕ) (offset : ℤ) (width : ℕ) (a : Access) → accessed_if o sealed base size offset width ≡ Ok a → (s : Live) × (o ≡ Some s) × IsSpot s sealed base size offset width a
live_spot None sealed base size offset width a is = absurd (cc)
live_spot (Some s) sealed base size offset width a is = (s, refl, accessed_spot s sealed base size offset width a is)

aligned_is : (b : Bool) (a c : Access) → cond b (Ok a) (Err traps.Misaligned) ≡ Ok c → a ≡ c
aligned_is true a c is = cc
aligned_is false a c is = absurd (cc)

aligned_access : (r : Result Access SegTrap) (a : Access) → aligned r ≡ Ok a → r ≡ Ok a
aligned_access (Ok c) a is = ap Ok (aligned_is (c.address % 16 == 0) c a is)
aligned_access (Err e) a is = absurd (cc)

-- ---- what is written

module _ (state : State) (m : Memory) (monitored : IsMonitored state m) where
  -- ---- what the monitor says of it

  spot_may : (s : Live) (sealed : Bool) (id base size width n : ℕ) → Contains m.live s → s.id ≡ id → base + size ≤ s.size → n + width ≤ size → Contains state.shades (shade_of sealed id base (base + size)) → MayAccess state (shade_of sealed s.id base (base + size)) (s.base + base + n) width
  spot_may s sealed id base size width n has is part near shade = (
    subst (λ c. Contains state.shades (shade_of sealed c base (base + size))) (sym is) shade,
    λ k below.
        (base + n + k, omega arith, omega arith, (monitored.painted (paint (s.base + base + n + k) s.id (base + n + k))).1 (s, has, refl, omega arith, omega arith)),
  )

  access_may : (h : Handle) (width : ℕ) (a : Access) → IsFit m h → KnowsHandle state h → access m h width ≡ Ok a → MayAccess state (shade_of a.sealed a.id a.lo a.hi) a.address width
  access_may handles.Null width a fit known is = absurd (cc)
  access_may handles.Broken width a fit known is = absurd (cc)
  access_may (handles.Good sealed id base size offset) width a fit known is =
      let spot = live_spot (live_of m id) sealed base size offset width a is in
      let s : Live = spot.0 in
      let there = find-Some (λ (t : Live). t.id == id) m.live s spot.1 in
      subst (λ (x : Access). MayAccess state (shade_of x.sealed x.id x.lo x.hi) x.address width) spot.2.3 (spot_may s sealed id base size width spot.2.0 there.0 (eqb-true s.id id there.1) (fit.3 s spot.1) spot.2.2 known.1)

  handle_access_may : (h : Handle) (a : Access) → IsFit m h → KnowsHandle state h → handle_access m h ≡ Ok a → MayAccess state (shade_of a.sealed a.id a.lo a.hi) a.address 16
  handle_access_may h a fit known is = access_may h 16 a fit known (aligned_access (access m h 16) a is)

  -- ---- reads

  read_follows : (a : Access) (width : ℕ) → MayAccess state (shade_of a.sealed a.id a.lo a.hi) a.address width → Follows state m (Some (read_event a width)) (once_more m)
  read_follows a width may = record {
    may = (may, tt);
    monitored = record { live = monitored.live; painted = monitored.painted; roots = monitored.roots; used = monitored.used; pieces = monitored.pieces };
    grows = grows-refl state;
    capacity = refl;
  }

  number_follows : (o : Option ℕ) (a : Access) (width : ℕ) (x : ℕ × Event) → MayAccess state (shade_of a.sealed a.id a.lo a.hi) a.address width → as_number o (read_event a width) ≡ Ok x → Follows state m (Some x.1) (once_more m)
  number_follows (Some n) a width x may is =
      let same : (n, read_event a width) ≡ x = cc in
      subst (λ (y : ℕ × Event). Follows state m (Some y.1) (once_more m)) same (read_follows a width may)
  number_follows None a width x may is = absurd (cc)

  loaded_at_follows : (r : Result Access SegTrap) (width : ℕ) (x : ℕ × Event) → ((a : Access) → r ≡ Ok a → MayAccess state (shade_of a.sealed a.id a.lo a.hi) a.address width) → loaded_at m width r ≡ Ok x → Follows state m (Some x.1) (once_more m)
  loaded_at_follows (Ok a) width x may is = number_follows (number_at (range a.address width m.bytes)) a width x (may a refl) is
  loaded_at_follows (Err e) width x may is = absurd (cc)

  -- of a number
  pub loaded_follows : (h : Handle) (width : ℕ) (x : ℕ × Event) → IsFit m h → KnowsHandle state h → loaded m h width ≡ Ok x → Follows state m (Some x.1) (once_more m)
  loaded_follows h width x fit known is = loaded_at_follows (access m h width) width x (λ a goes. access_may h width a fit known goes) is

  -- the handle that bytes of the memory are is known
  handle_known : (bytes : List Byte) (h : Handle) → ((b : Byte) → Contains bytes b → Contains m.bytes b) → IsHandleAt bytes h → KnowsHandle state h
  handle_known bytes h within (whole is) =
      monitored.pieces h 0 (within (Piece h 0) (subst (λ (b : List Byte). Contains b (Piece h 0)) (sym is) (0, omega arith, refl)))
  handle_known bytes h within (cleared is) = tt
  handle_known bytes h within (torn no_pieces no_zeros) = tt

  range_known : (address : ℕ) → address + 16 ≤ length m.bytes → KnowsHandle state (handle_at (range address 16 m.bytes))
  range_known address within =
      handle_known (range address 16 m.bytes) (handle_at (range address 16 m.bytes)) (λ b has. Contains-drop address m.bytes b (Contains-take 16 _ b has)) (IsHandleAt-handle_at (range address 16 m.bytes) (length-range address 16 m.bytes within))

  handle_loaded_at_follows : (r : Result Access SegTrap) (x : Handle × Event) → ((a : Access) → r ≡ Ok a → MayAccess state (shade_of a.sealed a.id a.lo a.hi) a.address 16 × (a.address + 16 ≤ length m.bytes)) → handle_loaded_at m r ≡ Ok x → Follows state m (Some x.1) (once_more m) × KnowsHandle state x.0
  handle_loaded_at_follows (Ok a) x goes is =
      let same : (handle_at (range a.address 16 m.bytes), read_event a 16) ≡ x = cc in
      subst (λ (y : Handle × Event). Follows state m (Some y.1) (once_more m) × KnowsHandle state y.0) same (read_follows a 16 (goes a refl).0, range_known a.address (goes a refl).1)
  handle_loaded_at_follows (Err e) x goes is = absurd (cc)

  -- of a handle, which is known then
  pub load_handle_follows : (h : Handle) (x : Handle × Event) → IsSound m → IsFit m h → KnowsHandle state h → load_handle m h ≡ Ok x → Follows state m (Some x.1) (once_more m) × KnowsHandle state x.0
  load_handle_follows h x sound fit known is =
      handle_loaded_at_follows (handle_access m h) x (λ a goes. (handle_access_may h a fit known goes, (handle_access-within m h a sound fit goes).0)) is

  -- ---- writes

  written_follows : (a : Access) (new : List Byte) (width : ℕ) → MayAccess state (shade_of false a.id a.lo a.hi) a.address width → a.address + length new ≤ length m.bytes → ((h : Handle) (i : ℕ) → Contains new (Piece h i) → KnowsHandle state h) → Follows state m (Some (write_event a width)) (with_bytes m a.address new)
  written_follows a new width may within known = record {
    may = (may, tt);
    monitored = record {
      live = monitored.live;
      painted = monitored.painted;
      roots = monitored.roots;
      used = monitored.used;
      pieces = λ h i has.
          elim (Contains-overwritten a.address new m.bytes (Piece h i) has) [ inl here ↦ known h i here | inr old ↦ monitored.pieces h i old ];
    };
    grows = grows-refl state;
    capacity = length-overwritten a.address new m.bytes within;
  }

  -- a write goes through no sealed handle, so that its shade is writable
  write_may : (r : Result Access SegTrap) (a : Access) (width : ℕ) → writable r ≡ Ok a → (r ≡ Ok a → MayAccess state (shade_of a.sealed a.id a.lo a.hi) a.address width) → MayAccess state (shade_of false a.id a.lo a.hi) a.address width
  write_may r a width is may =
      let through = writable-Ok r a is in
      subst (λ b. MayAccess state (shade_of b a.id a.lo a.hi) a.address width) through.1 (may through.0)

  stored_at_follows : (r : Result Access SegTrap) (new : List Byte) (width : ℕ) (c : Change) → ((a : Access) → r ≡ Ok a → MayAccess state (shade_of false a.id a.lo a.hi) a.address width × (a.address + length new ≤ length m.bytes)) → ((h : Handle) (i : ℕ) → Contains new (Piece h i) → KnowsHandle state h) → stored_at m new width r ≡ Ok c → Follows state m (Some c.event) c.memory
  stored_at_follows (Ok a) new width c goes known is =
      let same : record { event = write_event a width; memory = with_bytes m a.address new } ≡ c = cc in
      subst (λ (x : Change). Follows state m (Some x.event) x.memory) same (written_follows a new width (goes a refl).0 (goes a refl).1 known)
  stored_at_follows (Err e) new width c goes known is = absurd (cc)

  -- of a number
  pub store_follows : (h : Handle) (width value : ℕ) (c : Change) → IsSound m → IsFit m h → KnowsHandle state h → store m h width value ≡ Ok c → Follows state m (Some c.event) c.memory
  store_follows h width value c sound fit known is =
      stored_at_follows (writable (access m h width)) (data_of width value) width c (λ a goes. (write_may (access m h width) a width goes (access_may h width a fit known), omega (arith, length-data_of width value, write-within m h width a sound fit goes))) (λ g i has. absurd (All-contains IsData (data_of width value) (Piece g i) (All-data_of width value) has)) is

  -- of a handle that is known
  pub store_handle_follows : (h v : Handle) (c : Change) → IsSound m → IsFit m h → KnowsHandle state h → KnowsHandle state v → store_handle m h v ≡ Ok c → Follows state m (Some c.event) c.memory
  store_handle_follows h v c sound fit known value is =
      stored_at_follows (writable (handle_access m h)) (pieces v) 16 c (λ a goes. (write_may (handle_access m h) a 16 goes (handle_access_may h a fit known), (handle_write-within m h a sound fit goes).0)) (λ g i has. subst (KnowsHandle state) (sym (piece_of v g i has)) value) is
