-- Where an access goes: within the bytes.
use Rattle.std.proofs.Common.{◌≡◌, ◌==◌, ℕ, ℤ, pos, negsuc, ◌+◌, ◌%◌, ◌≤◌, Bool, true, false, cond, Option, Some, None, Result, Ok, Err, is_some, length, refl, ap, sym, ◌∙◌, subst, arith}
use Rattle.std.specs.Prelude.{nat_le}
use Rattle.std.proofs.lemmas.Bool.{leb-true, eqb-true}
use Rattle.std.proofs.lemmas.List.Elements.{All-contains}
use Rattle.ms_handle.specs.declared.handle.Handle.{Handle}
use Rattle.ms_handle.specs.declared.handle.Handle.TheVariants as handles
use Rattle.ms_handle.specs.declared.handle.Kind.{Kind}
use Rattle.ms_live.specs.declared.gaps.Live.{Live}
use Rattle.ms_live.specs.Place.{contains_id}
use Rattle.ms_live.proofs.Found.{find-Some, is_some-find}
use Rattle.ms_segment.specs.declared.trap.SegTrap.{SegTrap}
use Rattle.ms_segment.specs.declared.trap.SegTrap.TheVariants as traps
use Rattle.ms_segment.specs.Memory.{Access, IsFit, IsSound, IsWithin, Memory, Placed, access, accessed, accessed_if, aligned, ends_if, freed, handle_access, is_whole, live_of, same_kind, writable}

-- a live segment lies within the bytes
pub live-placed : (m : Memory) (id : ℕ) (s : Live) → Placed m → live_of m id ≡ Some s → s.base + s.size ≤ length m.bytes
live-placed m id s placed found =
    (All-contains (IsWithin (length m.bytes)) m.live s placed.within (find-Some (λ (t : Live). t.id == id) m.live s found).0).0

pub live-within : (m : Memory) (id : ℕ) (s : Live) → IsSound m → live_of m id ≡ Some s → s.base + s.size ≤ length m.bytes
live-within m id s sound found = live-placed m id s sound.placed found

test-within : (s : Live) (sealed : Bool) (base size offset width : ℕ) (a : Access) (b : Bool) → nat_le (offset + width) size ≡ b → cond b (Ok (record { address = s.base + base + offset; id = s.id; lo = base; hi = base + size; sealed = sealed })) (Err traps.Bounds) ≡ Ok a → base + size ≤ s.size → a.address + width ≤ s.base + s.size
test-within s sealed base size offset width a true near is part =
    let below : offset + width ≤ size = leb-true (offset + width) size near in
    let at : s.base + base + offset ≡ a.address = cc in
    omega arith
test-within s sealed base size offset width a false near is part = absurd (cc)

accessed-within : (s : Live) (sealed : Bool) (base size : ℕ) (offset : ℤ) (width : ℕ) (a : Access) → accessed s sealed base size offset width ≡ Ok a → base + size ≤ s.size → a.address + width ≤ s.base + s.size
accessed-within s sealed base size (pos offset) width a is part = test-within s sealed base size offset width a (nat_le (offset + width) size) refl is part
accessed-within s sealed base size (negsuc n) width a is part = absurd (cc)

accessed_if-within : (o : Option Live) (sealed : Bool) (base size : ℕ) (offset : ℤ) (width limit : ℕ) (a : Access) → accessed_if o sealed base size offset width ≡ Ok a → ((s : Live) → o ≡ Some s → base + size ≤ s.size) → ((s : Live) → o ≡ Some s → s.base + s.size ≤ limit) → a.address + width ≤ limit
accessed_if-within None sealed base size offset width limit a is part within = absurd (cc)
accessed_if-within (Some s) sealed base size offset width limit a is part within =
    let here = accessed-within s sealed base size offset width a is (part s refl) in
    let ends = within s refl in
    omega arith

-- an access through a handle that fits lies within the bytes
pub access-within : (m : Memory) (h : Handle) (width : ℕ) (a : Access) → IsSound m → IsFit m h → access m h width ≡ Ok a → a.address + width ≤ length m.bytes
access-within m handles.Null width a sound fit is = absurd (cc)
access-within m handles.Broken width a sound fit is = absurd (cc)
access-within m (handles.Good sealed id base size offset) width a sound fit is =
    accessed_if-within (live_of m id) sealed base size offset width (length m.bytes) a is fit.3 (λ s found. live-within m id s sound found)

-- ---- of a handle

aligned_test : (a b : Access) (t : Bool) → (a.address % 16 == 0) ≡ t → cond t (Ok a) (Err traps.Misaligned) ≡ Ok b → (a ≡ b) × (b.address % 16 ≡ 0)
aligned_test a b true at is = let same : a ≡ b = cc in (same, subst (λ (c : Access). c.address % 16 ≡ 0) same (eqb-true (a.address % 16) 0 at))
aligned_test a b false at is = absurd (cc)

aligned-Ok : (r : Result Access SegTrap) (b : Access) → aligned r ≡ Ok b → (r ≡ Ok b) × (b.address % 16 ≡ 0)
aligned-Ok (Ok a) b is = let test = aligned_test a b (a.address % 16 == 0) refl is in (ap Ok test.0, test.1)
aligned-Ok (Err e) b is = absurd (cc)

pub handle_access-within : (m : Memory) (h : Handle) (a : Access) → IsSound m → IsFit m h → handle_access m h ≡ Ok a → (a.address + 16 ≤ length m.bytes) × (a.address % 16 ≡ 0)
handle_access-within m h a sound fit is =
    let parts = aligned-Ok (access m h 16) a is in
    (access-within m h 16 a sound fit parts.0, parts.1)

-- ---- of a write

sealed_test : (a b : Access) (t : Bool) → a.sealed ≡ t → cond t (Err traps.Readonly) (Ok a) ≡ Ok b → (a ≡ b) × (b.sealed ≡ false)
sealed_test a b true at is = absurd (cc)
sealed_test a b false at is = let same : a ≡ b = cc in (same, subst (λ (c : Access). c.sealed ≡ false) same at)

-- it goes through no sealed handle
pub writable-Ok : (r : Result Access SegTrap) (b : Access) → writable r ≡ Ok b → (r ≡ Ok b) × (b.sealed ≡ false)
writable-Ok (Ok a) b is = let test = sealed_test a b a.sealed refl is in (ap Ok test.0, test.1)
writable-Ok (Err e) b is = absurd (cc)

pub write-within : (m : Memory) (h : Handle) (width : ℕ) (a : Access) → IsSound m → IsFit m h → writable (access m h width) ≡ Ok a → a.address + width ≤ length m.bytes
write-within m h width a sound fit is = access-within m h width a sound fit (writable-Ok (access m h width) a is).0

pub handle_write-within : (m : Memory) (h : Handle) (a : Access) → IsSound m → IsFit m h → writable (handle_access m h) ≡ Ok a → (a.address + 16 ≤ length m.bytes) × (a.address % 16 ≡ 0)
handle_write-within m h a sound fit is = handle_access-within m h a sound fit (writable-Ok (handle_access m h) a is).0

-- ---- the end of a segment

kind_test : (s : Live) (id : ℕ) (sealed t : Bool) → cond t (cond sealed (Err traps.Readonly) (Ok s.id)) (Err traps.Kind) ≡ Ok id → s.id ≡ id
kind_test s id true true is = absurd (cc)
kind_test s id false true is = cc
kind_test s id sealed false is = absurd (cc)

whole_test : (s : Live) (sealed : Bool) (id : ℕ) (kind : Kind) (t : Bool) → cond t (cond (same_kind s.kind kind) (cond sealed (Err traps.Readonly) (Ok s.id)) (Err traps.Kind)) (Err traps.Whole) ≡ Ok id → s.id ≡ id
whole_test s sealed id kind true is = kind_test s id sealed (same_kind s.kind kind) is
whole_test s sealed id kind false is = absurd (cc)

ended_if : (o : Option Live) (sealed : Bool) (base size : ℕ) (offset : ℤ) (kind : Kind) (id : ℕ) → ends_if o sealed base size offset kind ≡ Ok id → (s : Live) × (o ≡ Some s) × (s.id ≡ id)
ended_if None sealed base size offset kind id is = absurd (cc)
ended_if (Some s) sealed base size offset kind id is = (s, refl, whole_test s sealed id kind (is_whole base size offset s) is)

-- the segment that ends is live
pub freed-live : (m : Memory) (h : Handle) (kind : Kind) (id : ℕ) → freed m h kind ≡ Ok id → contains_id id m.live ≡ true
freed-live m handles.Null kind id is = absurd (cc)
freed-live m handles.Broken kind id is = absurd (cc)
freed-live m (handles.Good sealed named base size offset) kind id is =
    let end = ended_if (live_of m named) sealed base size offset kind id is in
    let same : named ≡ id = sym (eqb-true _ _ (find-Some (λ (t : Live). t.id == named) m.live end.0 end.1).1) ∙ end.2 in
    subst (λ n. contains_id n m.live ≡ true) same (sym (is_some-find (λ (t : Live). t.id == named) m.live) ∙ ap is_some end.1)
