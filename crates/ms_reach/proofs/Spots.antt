-- Handles that lead into a set of bytes only, and where accesses through them go.
use Rattle.std.proofs.Common.{◌≡◌, ◌==◌, ℕ, ℤ, pos, negsuc, ◌+◌, ◌*ℤ◌, ◌+ℤ◌, ◌%◌, ◌<◌, ◌≤◌, Bool, true, false, cond, Option, Some, None, Result, Ok, Err, refl, ap, arith}
use Rattle.std.specs.Prelude.{nat_le}
use Rattle.std.specs.Ordering.{int_eq}
use Rattle.std.proofs.lemmas.Bool.{leb-true}
use Rattle.ms_handle.specs.declared.handle.Handle.{Handle}
use Rattle.ms_handle.specs.declared.handle.Handle.TheVariants as handles
use Rattle.ms_handle.specs.Handle.{add, is_near, moved, part, slice}
use Rattle.ms_linear.specs.declared.value.Value.{Value}
use Rattle.ms_live.specs.declared.gaps.Live.{Live}
use Rattle.ms_segment.specs.declared.trap.SegTrap.{SegTrap}
use Rattle.ms_segment.specs.declared.trap.SegTrap.TheVariants as traps
use Rattle.ms_segment.specs.Memory.{Access, Memory, access, accessed, accessed_if, aligned, handle_access, live_of}
use Rattle.ms_reach.specs.Reach.{LeadsTo, ValueLeadsTo}

module _ (R : ℕ → Type 0) (m : Memory) where
  abbrev pub HandleIn : Handle → Type 0
  HandleIn h = (address : ℕ) → LeadsTo m h address → R address

  abbrev pub ValueIn : Value → Type 0
  ValueIn v = (address : ℕ) → ValueLeadsTo m v address → R address

  -- ---- where an access goes

  Goes : ℕ → Access → Type 0
  Goes width a = (k : ℕ) → a.address ≤ k → k < a.address + width → R k

  tested_in : (z : Bool) (s : Live) (base size n width : ℕ) (a : Access) (b : Bool) → nat_le (n + width) size ≡ b → cond b (Ok (record { address = s.base + base + n; id = s.id; lo = base; hi = base + size; sealed = z })) (Err traps.Bounds) ≡ Ok a → ((address : ℕ) → s.base + base ≤ address → address < s.base + base + size → R address) → Goes width a
  unfolding Goes
  tested_in z s base size n width a true near is within k from to =
      let room : n + width ≤ size = leb-true (n + width) size near in
      let at : s.base + base + n ≡ a.address = cc in
      within k (omega (arith, at)) (omega (arith, at, room))
  tested_in z s base size n width a false near is within k from to = absurd (cc)

  accessed_in : (z : Bool) (s : Live) (base size : ℕ) (offset : ℤ) (width : ℕ) (a : Access) → accessed s z base size offset width ≡ Ok a → ((address : ℕ) → s.base + base ≤ address → address < s.base + base + size → R address) → Goes width a
  accessed_in z s base size (pos n) width a is within = tested_in z s base size n width a (nat_le (n + width) size) refl is within
  accessed_in z s base size (negsuc n) width a is within = absurd (cc)

  live_in : (z : Bool) (o : Option Live) (base size : ℕ) (offset : ℤ) (width : ℕ) (a : Access) → accessed_if o z base size offset width ≡ Ok a → ((s : Live) → o ≡ Some s → (address : ℕ) → s.base + base ≤ address → address < s.base + base + size → R address) → Goes width a
  live_in z None base size offset width a is within = absurd (cc)
  live_in z (Some s) base size offset width a is within = accessed_in z s base size offset width a is (within s refl)

  pub access_in : (h : Handle) (width : ℕ) (a : Access) → HandleIn h → access m h width ≡ Ok a → (k : ℕ) → a.address ≤ k → k < a.address + width → R k
  unfolding Goes
  access_in handles.Null width a h is = absurd (cc)
  access_in handles.Broken width a h is = absurd (cc)
  access_in (handles.Good z id base size offset) width a h is = live_in z (live_of m id) base size offset width a is (λ s found address from to. h address (s, found, from, to))

  aligned_is : (b : Bool) (a c : Access) → cond b (Ok a) (Err traps.Misaligned) ≡ Ok c → a ≡ c
  aligned_is true a c is = cc
  aligned_is false a c is = absurd (cc)

  aligned_access : (r : Result Access SegTrap) (a : Access) → aligned r ≡ Ok a → r ≡ Ok a
  aligned_access (Ok c) a is = ap Ok (aligned_is (c.address % 16 == 0) c a is)
  aligned_access (Err e) a is = absurd (cc)

  pub handle_access_in : (h : Handle) (a : Access) → HandleIn h → handle_access m h ≡ Ok a → (k : ℕ) → a.address ≤ k → k < a.address + 16 → R k
  handle_access_in h a known is = access_in h 16 a known (aligned_access (access m h 16) a is)

  -- ---- handles that are made of one

  near_in : (z : Bool) (id base size : ℕ) (offset to : ℤ) (b : Bool) → HandleIn (handles.Good z id base size offset) → HandleIn (cond b (handles.Good z id base size to) handles.Broken)
  near_in z id base size offset to true h = h
  near_in z id base size offset to false h = λ address leads. absurd leads

  moved_in : (h : Handle) (distance : ℤ) → HandleIn h → HandleIn (moved h distance)
  moved_in handles.Null distance h = λ address leads. absurd leads
  moved_in handles.Broken distance h = λ address leads. absurd leads
  moved_in (handles.Good z id base size offset) distance h = near_in z id base size offset (offset +ℤ distance) (is_near (offset +ℤ distance)) h

  added_in : (h : Handle) (distance : ℤ) (b : Bool) → HandleIn h → HandleIn (cond b h (moved h distance))
  added_in h distance true known = known
  added_in h distance false known = moved_in h distance known

  pub add_in : (h : Handle) (delta : ℤ) (scale : ℕ) → HandleIn h → HandleIn (add h delta scale)
  add_in h delta scale known = added_in h (delta *ℤ pos scale) (int_eq (delta *ℤ pos scale) (pos 0)) known

  within_in : (z : Bool) (id base size start len : ℕ) (offset : ℤ) (b : Bool) → nat_le (start + len) size ≡ b → HandleIn (handles.Good z id base size offset) → HandleIn (cond b (handles.Good z id (base + start) len (pos 0)) handles.Broken)
  within_in z id base size start len offset true near known address leads =
      let room : start + len ≤ size = leb-true (start + len) size near in
      let from = leads.2 in
      let to = leads.3 in
      known address (leads.0, leads.1, omega (arith, from), omega (arith, to, room))
  within_in z id base size start len offset false near known address leads = absurd leads

  part_in : (z : Bool) (id base size : ℕ) (offset start : ℤ) (len : ℕ) → HandleIn (handles.Good z id base size offset) → HandleIn (part z id base size start len)
  part_in z id base size offset (pos start) len known = within_in z id base size start len offset (nat_le (start + len) size) refl known
  part_in z id base size offset (negsuc n) len known = λ address leads. absurd leads

  pub slice_in : (h : Handle) (from len : ℕ) → HandleIn h → HandleIn (slice h from len)
  slice_in handles.Null from len known = λ address leads. absurd leads
  slice_in handles.Broken from len known = λ address leads. absurd leads
  slice_in (handles.Good z id base size offset) from len known = part_in z id base size offset (offset +ℤ pos from) len known
