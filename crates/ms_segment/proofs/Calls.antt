-- What the calls on the parts of the memory make of the whole.
use Rattle.std.proofs.Common.{◌≡◌, ℕ, ◌+◌, ◌<◌, inl, inr, List, [], ◌∷◌, ◌++◌, false, Option, Some, None, Result, Ok, Err, pos, length, replicate, refl, sym, ap, subst, ◌∙◌, arith}
use Rattle.std.specs.List.{Contains}
use Rattle.ms_event.specs.declared.event.Event.{Event}
use Rattle.ms_event.specs.declared.event.Event.TheVariants as events
use Rattle.ms_handle.specs.declared.handle.Handle.{Handle}
use Rattle.ms_handle.specs.declared.handle.Handle.TheVariants as handles
use Rattle.ms_handle.specs.declared.handle.Kind.{Kind}
use Rattle.ms_live.specs.declared.gaps.Live.{Live}
use Rattle.ms_live.specs.Place.{IsPlace, without}
use Rattle.ms_tagged.specs.Bytes.{Byte, Data, IsHandleAt, Piece, cleared, overwritten, range, torn, whole}
use Rattle.ms_segment.specs.declared.trap.SegTrap.{SegTrap}
use Rattle.ms_event.specs.Monitor.{most_live}
use Rattle.ms_segment.specs.Memory.{Access, Frees, IsFit, IsSound, LoadsHandle, Makes, Memory, Stores, ended, full, made, no_room, once_more, read, read_event, risen, stopped, stored, with_bytes, write_event}
use Rattle.ms_segment.specs.Parts.{IsPlaceIn, entered, with_ended}
use Rattle.ms_segment.proofs.Finds.{Contains-drop, Contains-take}

-- ---- the memory after a call on its parts

pub after-entered : (bytes bytes' : List Byte) (live live' : List Live) (count accesses base size : ℕ) (kind : Kind) (m : Memory) → record { bytes = bytes; live = live; made = count; accesses = accesses } ≡ m → bytes' ≡ overwritten base (replicate size (Data 0)) bytes → live' ≡ live ++ record { id = count + 1; base = base; size = size; kind = kind } ∷ [] → record { bytes = bytes'; live = live'; made = count + 1; accesses = accesses } ≡ entered m base size kind
after-entered bytes bytes' live live' count accesses base size kind m is written pushed =
    ap (λ (b : List Byte). record { bytes = b; live = live'; made = count + 1; accesses = accesses }) written ∙ (ap (λ (l : List Live). record { bytes = overwritten base (replicate size (Data 0)) bytes; live = l; made = count + 1; accesses = accesses }) pushed ∙ ap (λ (n : Memory). entered n base size kind) is)

pub after-ended : (bytes : List Byte) (live live' : List Live) (count accesses id : ℕ) (m : Memory) → record { bytes = bytes; live = live; made = count; accesses = accesses } ≡ m → live' ≡ without id live → record { bytes = bytes; live = live'; made = count; accesses = accesses } ≡ with_ended m id
after-ended bytes live live' count accesses id m is left =
    ap (λ (l : List Live). record { bytes = bytes; live = l; made = count; accesses = accesses }) left ∙ ap (λ (n : Memory). with_ended n id) is

pub after-written : (bytes bytes' : List Byte) (live : List Live) (count accesses accesses' address : ℕ) (new : List Byte) (m : Memory) → record { bytes = bytes; live = live; made = count; accesses = accesses } ≡ m → bytes' ≡ overwritten address new bytes → accesses' ≡ risen accesses → record { bytes = bytes'; live = live; made = count; accesses = accesses' } ≡ with_bytes m address new
after-written bytes bytes' live count accesses accesses' address new m is written rises =
    ap (λ (b : List Byte). record { bytes = b; live = live; made = count; accesses = accesses' }) written ∙ (ap (λ (a : ℕ). record { bytes = overwritten address new bytes; live = live; made = count; accesses = a }) rises ∙ ap (λ (n : Memory). with_bytes n address new) is)

pub after-read : (bytes : List Byte) (live : List Live) (count accesses accesses' : ℕ) (m : Memory) → record { bytes = bytes; live = live; made = count; accesses = accesses } ≡ m → accesses' ≡ risen accesses → record { bytes = bytes; live = live; made = count; accesses = accesses' } ≡ once_more m
after-read bytes live count accesses accesses' m is rises =
    ap (λ (a : ℕ). record { bytes = bytes; live = live; made = count; accesses = a }) rises ∙ ap once_more is

-- ---- places

-- between the parts and the whole
pub placed-in : (bytes : List Byte) (live : List Live) (count accesses addresses size : ℕ) (o : Option ℕ) (m : Memory) → record { bytes = bytes; live = live; made = count; accesses = accesses } ≡ m → addresses ≡ length bytes → IsPlace live addresses size o → IsPlace m.live (length m.bytes) size o
placed-in bytes live count accesses addresses size o m is as_many placed =
    subst (λ (n : Memory). IsPlace n.live (length n.bytes) size o) is (subst (λ (n : ℕ). IsPlace live n size o) as_many placed)

pub placed-of : (bytes : List Byte) (live : List Live) (count accesses addresses size : ℕ) (o : Option ℕ) (m : Memory) → record { bytes = bytes; live = live; made = count; accesses = accesses } ≡ m → addresses ≡ length bytes → IsPlace m.live (length m.bytes) size o → IsPlace live addresses size o
placed-of bytes live count accesses addresses size o m is as_many placed =
    subst (λ (n : ℕ). IsPlace live n size o) (sym as_many) (subst (λ (n : Memory). IsPlace n.live (length n.bytes) size o) (sym is) placed)

pub IsPlaceIn-from_place : (m : Memory) (size : ℕ) (o : Option ℕ) → length m.live < most_live → IsPlace m.live (length m.bytes) size o → IsPlaceIn m size o
IsPlaceIn-from_place m size None few placed = inr placed
IsPlaceIn-from_place m size (Some base) few placed = (few, placed)

-- ---- what the calls give

pub Makes-entered : (m after : Memory) (size base : ℕ) (kind : Kind) (h : Handle) (e : Event) → IsPlaceIn m size (Some base) → h ≡ handles.Good false (m.made + 1) 0 size (pos 0) → e ≡ events.Alloc (m.made + 1) base size → after ≡ entered m base size kind → Makes m size kind h e after
Makes-entered m after size base kind h e placed is_h is_e is_after =
    subst (λ (x : Handle). Makes m size kind x e after) (sym is_h) (subst (λ (x : Event). Makes m size kind (handles.Good false (m.made + 1) 0 size (pos 0)) x after) (sym is_e) (subst (λ (x : Memory). Makes m size kind (handles.Good false (m.made + 1) 0 size (pos 0)) (events.Alloc (m.made + 1) base size) x) (sym is_after) (made placed.0 placed.1)))

pub Makes-refused : (m : Memory) (size : ℕ) (kind : Kind) → IsPlaceIn m size None → Makes m size kind handles.Null (events.Refused size) m
Makes-refused m size kind none = elim none [ inl all ↦ full all | inr placed ↦ no_room placed ]

pub Frees-ended : (m after : Memory) (r : Result ℕ SegTrap) (id : ℕ) → r ≡ Ok id → after ≡ with_ended m id → Frees m r (Ok (events.Free id)) after
Frees-ended m after r id is is_after =
    subst (λ (x : Result ℕ SegTrap). Frees m x (Ok (events.Free id)) after) (sym is) (subst (λ (x : Memory). Frees m (Ok id) (Ok (events.Free id)) x) (sym is_after) ended)

pub Frees-stopped : (m : Memory) (r : Result ℕ SegTrap) (result : Result Event SegTrap) (e : SegTrap) → r ≡ Err e → result ≡ Err e → Frees m r result m
Frees-stopped m r result e is gives =
    subst (λ (x : Result ℕ SegTrap). Frees m x result m) (sym is) (subst (λ (x : Result Event SegTrap). Frees m (Err e) x m) (sym gives) stopped)

pub Stores-stored : (m after : Memory) (new : List Byte) (width : ℕ) (r : Result Access SegTrap) (a : Access) (e : Event) → r ≡ Ok a → e ≡ write_event a width → after ≡ with_bytes m a.address new → Stores m new width r (Ok e) after
Stores-stored m after new width r a e is is_e is_after =
    subst (λ (x : Result Access SegTrap). Stores m new width x (Ok e) after) (sym is) (subst (λ (x : Event). Stores m new width (Ok a) (Ok x) after) (sym is_e) (subst (λ (x : Memory). Stores m new width (Ok a) (Ok (write_event a width)) x) (sym is_after) stored))

pub Stores-stopped : (m : Memory) (new : List Byte) (width : ℕ) (r : Result Access SegTrap) (result : Result Event SegTrap) (e : SegTrap) → r ≡ Err e → result ≡ Err e → Stores m new width r result m
Stores-stopped m new width r result e is gives =
    subst (λ (x : Result Access SegTrap). Stores m new width x result m) (sym is) (subst (λ (x : Result Event SegTrap). Stores m new width (Err e) x m) (sym gives) stopped)

pub LoadsHandle-read : (m : Memory) (r : Result Access SegTrap) (a : Access) (h : Handle) (e : Event) → r ≡ Ok a → IsHandleAt (range a.address 16 m.bytes) h → e ≡ read_event a 16 → LoadsHandle m r (Ok (h, e))
LoadsHandle-read m r a h e is at is_e =
    subst (λ (x : Result Access SegTrap). LoadsHandle m x (Ok (h, e))) (sym is) (subst (λ (x : Event). LoadsHandle m (Ok a) (Ok (h, x))) (sym is_e) (read at))

pub LoadsHandle-stopped : (m : Memory) (r : Result Access SegTrap) (result : Result (Handle × Event) SegTrap) (e : SegTrap) → r ≡ Err e → result ≡ Err e → LoadsHandle m r result
LoadsHandle-stopped m r result e is gives =
    subst (λ (x : Result Access SegTrap). LoadsHandle m x result) (sym is) (subst (λ (x : Result (Handle × Event) SegTrap). LoadsHandle m (Err e) x) (sym gives) stopped)

-- ---- a handle that is read fits

pub IsFit-read : (m : Memory) (address : ℕ) (h : Handle) → IsSound m → IsHandleAt (range address 16 m.bytes) h → IsFit m h
IsFit-read m address h sound (whole is) =
    let has : Contains (range address 16 m.bytes) (Piece h 0) = subst (λ (b : List Byte). Contains b (Piece h 0)) (sym is) (0, omega arith, refl) in
    sound.kept h 0 (Contains-drop address m.bytes (Piece h 0) (Contains-take 16 _ (Piece h 0) has))
IsFit-read m address h sound (cleared is) = tt
IsFit-read m address h sound (torn no_pieces no_zeros) = tt
