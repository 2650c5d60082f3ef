-- What the functions of `Calls.antt` and the pure operations on handles keep: the memory stays sound, and handles go on fitting.
use Rattle.std.proofs.Common.{◌≡◌, ℕ, ◌+◌, ◌<◌, ◌≤◌, Bool, true, false, cond, inl, List, ℤ, pos, negsuc, ◌+ℤ◌, ◌*ℤ◌, ◌≤ℤ◌, Option, Some, None, Result, Ok, Err, int_le, length, refl, sym, ap, subst, arith}
use Rattle.std.specs.Prelude.{nat_le, nat_lt}
use Rattle.std.specs.Ordering.{int_eq}
use Rattle.std.proofs.lemmas.Bool.{and_parts, cond_both, leb-true, ltb-false, ltb-true}
use Rattle.std.proofs.lemmas.Int.{ints}
use Rattle.ms_event.specs.declared.event.Event.{Event}
use Rattle.ms_handle.specs.declared.handle.Handle.{Handle}
use Rattle.ms_handle.specs.declared.handle.Handle.TheVariants as handles
use Rattle.ms_handle.specs.declared.handle.Kind.{Kind}
use Rattle.ms_handle.specs.Handle.{HasBounds, add, farthest, is_near, moved, part, seal, slice}
use Rattle.ms_tagged.specs.Bytes.{Byte, IsHandleAt, data_of, pieces, range}
use Rattle.ms_tagged.proofs.Numbers.{length-data_of}
use Rattle.ms_tagged.proofs.Ranges.{length-range}
use Rattle.ms_segment.specs.declared.trap.SegTrap.{SegTrap}
use Rattle.ms_event.specs.Monitor.{most_live}
use Rattle.ms_segment.specs.Memory.{Access, IsFit, IsSound, Makes, Memory, access, freed, handle_access, made, read_event, with_bytes, writable}
use Rattle.ms_segment.specs.Parts.{IsPlaceIn, entered, with_ended}
use Rattle.ms_segment.specs.Calls.{Change, ended_at, free, handle_at, handle_loaded_at, load_handle, made_at, make, place_of, store, store_handle, stored_at}
use Rattle.ms_segment.proofs.Calls.{IsFit-read, IsPlaceIn-from_place, Makes-refused}
use Rattle.ms_segment.proofs.Fits.{HasBounds-from_fit, IsFit-add, IsFit-ended, IsFit-entered, IsFit-made, IsFit-slice, IsFit-written}
use Rattle.ms_segment.proofs.Functions.{IsHandleAt-handle_at}
use Rattle.ms_segment.proofs.Places.{IsPlace-place_of}
use Rattle.ms_segment.proofs.Reach.{handle_access-within, handle_write-within, write-within}
use Rattle.ms_segment.proofs.Sound.{IsSound-data, IsSound-ended, IsSound-entered, IsSound-pieces}
use Rattle.ms_segment.proofs.Placing.{place-within}

-- ---- making

-- the place that `make` takes is one in the memory
place_in : (m : Memory) (size : ℕ) → IsSound m → IsPlaceIn m size (cond (nat_lt (length m.live) most_live) (place_of m.live (length m.bytes) size) None)
place_in m size sound =
    cond_both (nat_lt (length m.live) most_live) (place_of m.live (length m.bytes) size) None (IsPlaceIn m size) (λ few. IsPlaceIn-from_place m size (place_of m.live (length m.bytes) size) (ltb-true (length m.live) most_live few) (IsPlace-place_of m.live (length m.bytes) size)) (λ all. inl (omega (arith, sound.few, ltb-false (length m.live) most_live all)))

made_at_makes : (m : Memory) (size : ℕ) (kind : Kind) (o : Option ℕ) → IsPlaceIn m size o → Makes m size kind (made_at m size kind o).handle (made_at m size kind o).event (made_at m size kind o).memory
made_at_makes m size kind None placed = Makes-refused m size kind placed
made_at_makes m size kind (Some base) placed = made placed.0 placed.1

-- the relation holds of it
pub make_makes : (m : Memory) (size : ℕ) (kind : Kind) → IsSound m → Makes m size kind (make m size kind).handle (make m size kind).event (make m size kind).memory
make_makes m size kind sound = made_at_makes m size kind _ (place_in m size sound)

made_at_fits : (m : Memory) (size : ℕ) (kind : Kind) (o : Option ℕ) → IsSound m → IsPlaceIn m size o → IsFit (made_at m size kind o).memory (made_at m size kind o).handle
made_at_fits m size kind None sound placed = tt
made_at_fits m size kind (Some base) sound placed =
    IsFit-made m (entered m base size kind) base size kind (handles.Good false (m.made + 1) 0 size (pos 0)) (omega (arith, sound.capacity, place-within m.live (length m.bytes) size base placed.1)) sound refl refl

-- the new handle fits
pub make_fits : (m : Memory) (size : ℕ) (kind : Kind) → IsSound m → IsFit (make m size kind).memory (make m size kind).handle
make_fits m size kind sound = made_at_fits m size kind _ sound (place_in m size sound)

made_at_keeps : (m : Memory) (size : ℕ) (kind : Kind) (o : Option ℕ) (x : Handle) → IsFit m x → IsFit (made_at m size kind o).memory x
made_at_keeps m size kind None x fit = fit
made_at_keeps m size kind (Some base) x fit = IsFit-entered m base size kind x fit

-- what fits goes on fitting
pub make_keeps : (m : Memory) (size : ℕ) (kind : Kind) (x : Handle) → IsFit m x → IsFit (make m size kind).memory x
make_keeps m size kind x fit = made_at_keeps m size kind _ x fit

made_at_sound : (m : Memory) (size : ℕ) (kind : Kind) (o : Option ℕ) → IsSound m → IsPlaceIn m size o → IsSound (made_at m size kind o).memory
made_at_sound m size kind None sound placed = sound
made_at_sound m size kind (Some base) sound placed = IsSound-entered m base size kind sound placed.0 placed.1

pub make_sound : (m : Memory) (size : ℕ) (kind : Kind) → IsSound m → IsSound (make m size kind).memory
make_sound m size kind sound = made_at_sound m size kind _ sound (place_in m size sound)

made_at_made : (m : Memory) (size : ℕ) (kind : Kind) (o : Option ℕ) → (m.made ≤ (made_at m size kind o).memory.made) × ((made_at m size kind o).memory.made ≤ m.made + 1)
made_at_made m size kind None = (omega arith, omega arith)
made_at_made m size kind (Some base) = (omega arith, omega arith)

-- at most one more identity
pub make_made : (m : Memory) (size : ℕ) (kind : Kind) → (m.made ≤ (make m size kind).memory.made) × ((make m size kind).memory.made ≤ m.made + 1)
make_made m size kind = made_at_made m size kind _

-- ---- freeing

-- what it leaves, where it isn't a trap
ended_at_leaves : (m : Memory) (r : Result ℕ SegTrap) (c : Change) → ended_at m r ≡ Ok c → (id : ℕ) × (with_ended m id ≡ c.memory)
ended_at_leaves m (Ok id) c is = (id, cc)
ended_at_leaves m (Err e) c is = absurd (cc)

pub free_keeps : (m : Memory) (h : Handle) (kind : Kind) (c : Change) (x : Handle) → free m h kind ≡ Ok c → IsFit m x → IsFit c.memory x
free_keeps m h kind c x is fit =
    let left = ended_at_leaves m (freed m h kind) c is in
    subst (λ (n : Memory). IsFit n x) left.1 (IsFit-ended m left.0 x fit)

pub free_sound : (m : Memory) (h : Handle) (kind : Kind) (c : Change) → IsSound m → free m h kind ≡ Ok c → IsSound c.memory
free_sound m h kind c sound is =
    let left = ended_at_leaves m (freed m h kind) c is in
    subst IsSound left.1 (IsSound-ended m left.0 sound)

pub free_made : (m : Memory) (h : Handle) (kind : Kind) (c : Change) → free m h kind ≡ Ok c → c.memory.made ≡ m.made
free_made m h kind c is =
    let left = ended_at_leaves m (freed m h kind) c is in
    sym (ap (λ (n : Memory). n.made) left.1)

-- ---- storing

stored_at_leaves : (m : Memory) (new : List Byte) (width : ℕ) (r : Result Access SegTrap) (c : Change) → stored_at m new width r ≡ Ok c → (a : Access) × (r ≡ Ok a) × (with_bytes m a.address new ≡ c.memory)
stored_at_leaves m new width (Ok a) c is = (a, refl, cc)
stored_at_leaves m new width (Err e) c is = absurd (cc)

stored_at_keeps : (m : Memory) (new : List Byte) (width : ℕ) (r : Result Access SegTrap) (c : Change) (x : Handle) → stored_at m new width r ≡ Ok c → IsFit m x → IsFit c.memory x
stored_at_keeps m new width r c x is fit =
    let left = stored_at_leaves m new width r c is in
    subst (λ (n : Memory). IsFit n x) left.2 (IsFit-written m left.0.address new x fit)

stored_at_made : (m : Memory) (new : List Byte) (width : ℕ) (r : Result Access SegTrap) (c : Change) → stored_at m new width r ≡ Ok c → c.memory.made ≡ m.made
stored_at_made m new width r c is =
    let left = stored_at_leaves m new width r c is in
    sym (ap (λ (n : Memory). n.made) left.2)

-- a number
pub store_keeps : (m : Memory) (h : Handle) (width value : ℕ) (c : Change) (x : Handle) → store m h width value ≡ Ok c → IsFit m x → IsFit c.memory x
store_keeps m h width value c x is fit = stored_at_keeps m (data_of width value) width (writable (access m h width)) c x is fit

pub store_sound : (m : Memory) (h : Handle) (width value : ℕ) (c : Change) → IsSound m → IsFit m h → store m h width value ≡ Ok c → IsSound c.memory
store_sound m h width value c sound fit is =
    let left = stored_at_leaves m (data_of width value) width (writable (access m h width)) c is in
    subst IsSound left.2 (IsSound-data m left.0.address width value sound (omega (arith, length-data_of width value, write-within m h width left.0 sound fit left.1)))

pub store_made : (m : Memory) (h : Handle) (width value : ℕ) (c : Change) → store m h width value ≡ Ok c → c.memory.made ≡ m.made
store_made m h width value c is = stored_at_made m (data_of width value) width (writable (access m h width)) c is

-- a handle
pub store_handle_keeps : (m : Memory) (h v : Handle) (c : Change) (x : Handle) → store_handle m h v ≡ Ok c → IsFit m x → IsFit c.memory x
store_handle_keeps m h v c x is fit = stored_at_keeps m (pieces v) 16 (writable (handle_access m h)) c x is fit

pub store_handle_sound : (m : Memory) (h v : Handle) (c : Change) → IsSound m → IsFit m h → IsFit m v → store_handle m h v ≡ Ok c → IsSound c.memory
store_handle_sound m h v c sound place value is =
    let left = stored_at_leaves m (pieces v) 16 (writable (handle_access m h)) c is in
    subst IsSound left.2 (IsSound-pieces m left.0.address v sound value (handle_write-within m h left.0 sound place left.1).0)

pub store_handle_made : (m : Memory) (h v : Handle) (c : Change) → store_handle m h v ≡ Ok c → c.memory.made ≡ m.made
store_handle_made m h v c is = stored_at_made m (pieces v) 16 (writable (handle_access m h)) c is

-- ---- loading a handle

handle_loaded_at_gives : (m : Memory) (r : Result Access SegTrap) (g : Handle) (e : Event) → handle_loaded_at m r ≡ Ok (g, e) → (a : Access) × (r ≡ Ok a) × (handle_at (range a.address 16 m.bytes) ≡ g)
handle_loaded_at_gives m (Ok a) g e is =
    let same : (handle_at (range a.address 16 m.bytes), read_event a 16) ≡ (g, e) = cc in (a, refl, ap (λ (p : Handle × Event). p.0) same)
handle_loaded_at_gives m (Err trap) g e is = absurd (cc)

-- the handle that is read fits
pub load_handle_fits : (m : Memory) (h g : Handle) (e : Event) → IsSound m → IsFit m h → load_handle m h ≡ Ok (g, e) → IsFit m g
load_handle_fits m h g e sound fit is =
    let gives = handle_loaded_at_gives m (handle_access m h) g e is in
    let bytes = range gives.0.address 16 m.bytes in
    let long : length bytes ≡ 16 = length-range gives.0.address 16 m.bytes (handle_access-within m h gives.0 sound fit gives.1).0 in
    IsFit-read m gives.0.address g sound (subst (IsHandleAt bytes) gives.2 (IsHandleAt-handle_at bytes long))

-- ---- operations on handles

le_from_test : (a b : ℤ) → int_le a b ≡ true → a ≤ℤ b
le_from_test a b e = grind (arith, ints)

bounds_near : (sealed : Bool) (id base size : ℕ) (to : ℤ) (b : Bool) → is_near to ≡ b → base + size < 4294967296 → HasBounds (cond b (handles.Good sealed id base size to) handles.Broken)
bounds_near sealed id base size to true near below =
    let parts = and_parts (int_le (negsuc 1099511627775) to) (int_le to farthest) near in
    (le_from_test (negsuc 1099511627775) to parts.0, le_from_test to farthest parts.1, below)
bounds_near sealed id base size to false near below = tt

bounds_moved : (h : Handle) (distance : ℤ) → HasBounds h → HasBounds (moved h distance)
bounds_moved handles.Null distance bounds = tt
bounds_moved handles.Broken distance bounds = tt
bounds_moved (handles.Good sealed id base size offset) distance bounds =
    bounds_near sealed id base size (offset +ℤ distance) (is_near (offset +ℤ distance)) refl bounds.2

bounds_added : (h : Handle) (distance : ℤ) (b : Bool) → HasBounds h → HasBounds (cond b h (moved h distance))
bounds_added h distance true bounds = bounds
bounds_added h distance false bounds = bounds_moved h distance bounds

-- a handle that is moved fits
pub add_fits : (m : Memory) (h : Handle) (delta : ℤ) (scale : ℕ) → IsFit m h → IsFit m (add h delta scale)
add_fits m h delta scale fit =
    IsFit-add m h delta scale fit (bounds_added h (delta *ℤ pos scale) (int_eq (delta *ℤ pos scale) (pos 0)) (HasBounds-from_fit m h fit))

bounds_within : (sealed : Bool) (id base size start len : ℕ) (b : Bool) → nat_le (start + len) size ≡ b → base + size < 4294967296 → HasBounds (cond b (handles.Good sealed id (base + start) len (pos 0)) handles.Broken)
bounds_within sealed id base size start len true within below =
    (omega (arith, ints), omega (arith, ints), omega (arith, leb-true (start + len) size within))
bounds_within sealed id base size start len false within below = tt

bounds_part : (sealed : Bool) (id base size : ℕ) (start : ℤ) (len : ℕ) → base + size < 4294967296 → HasBounds (part sealed id base size start len)
bounds_part sealed id base size (pos start) len below = bounds_within sealed id base size start len (nat_le (start + len) size) refl below
bounds_part sealed id base size (negsuc n) len below = tt

bounds_sliced : (h : Handle) (from len : ℕ) → HasBounds h → HasBounds (slice h from len)
bounds_sliced handles.Null from len bounds = tt
bounds_sliced handles.Broken from len bounds = tt
bounds_sliced (handles.Good sealed id base size offset) from len bounds = bounds_part sealed id base size (offset +ℤ pos from) len bounds.2

-- a handle that is sliced fits
pub slice_fits : (m : Memory) (h : Handle) (from len : ℕ) → IsFit m h → IsFit m (slice h from len)
slice_fits m h from len fit = IsFit-slice m h from len fit (bounds_sliced h from len (HasBounds-from_fit m h fit))

-- a handle that is sealed fits
pub seal_fits : (m : Memory) (h : Handle) → IsFit m h → IsFit m (seal h)
seal_fits m handles.Null fit = tt
seal_fits m handles.Broken fit = tt
seal_fits m (handles.Good sealed id base size offset) fit = fit
