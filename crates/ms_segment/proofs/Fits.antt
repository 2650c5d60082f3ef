-- A handle that fits stays fit, whatever is done to the memory.
use Rattle.std.proofs.Common.{◌≡◌, ◌==◌, ℕ, ◌+◌, ◌<◌, ◌≤◌, Bool, true, false, not, inl, inr, List, [], ◌∷◌, ◌++◌, Some, ℤ, cond, pos, negsuc, ◌+ℤ◌, ◌*ℤ◌, refl, sym, ◌∙◌, ap, subst, arith}
use Rattle.std.specs.List.{find}
use Rattle.std.proofs.lemmas.Int.{ints}
use Rattle.std.proofs.lemmas.List.Elements.{All-contains, Contains-push_cases}
use Rattle.ms_live.proofs.Found.{find-Some}
use Rattle.std.proofs.lemmas.Bool.{cases_eq, eqb-true, eq-eqb, ne_eqb}
use Rattle.ms_handle.specs.declared.handle.Handle.{Handle}
use Rattle.ms_handle.specs.declared.handle.Handle.TheVariants as handles
use Rattle.ms_handle.specs.declared.handle.Kind.{Kind}
use Rattle.ms_handle.specs.Handle.{HasBounds, add, is_near, moved, part, slice}
use Rattle.std.specs.Ordering.{int_eq}
use Rattle.std.specs.Prelude.{nat_le}
use Rattle.std.proofs.lemmas.Bool.{leb-true}
use Rattle.ms_live.specs.declared.gaps.Live.{Live}
use Rattle.ms_live.specs.Place.{without}
use Rattle.ms_tagged.specs.Bytes.{Byte}
use Rattle.ms_segment.specs.Memory.{IsFit, IsSound, Memory, live_of, once_more, with_bytes}
use Rattle.ms_segment.specs.Parts.{entered}
use Rattle.ms_segment.proofs.Finds.{find-filter_gone, find-filter_kept, find-push_other}

-- a handle that fits has bounds
pub HasBounds-from_fit : (m : Memory) (h : Handle) → IsFit m h → HasBounds h
HasBounds-from_fit m handles.Null fit = tt
HasBounds-from_fit m handles.Broken fit = tt
HasBounds-from_fit m (handles.Good sealed id base size offset) fit = fit.2

-- after one more segment
pub IsFit-entered : (m : Memory) (base size : ℕ) (kind : Kind) (h : Handle) → IsFit m h → IsFit (entered m base size kind) h
IsFit-entered m base size kind handles.Null fit = tt
IsFit-entered m base size kind handles.Broken fit = tt
IsFit-entered m base size kind (handles.Good sealed id at len offset) fit =
    let other : ((m.made + 1) == id) ≡ false = ne_eqb (m.made + 1) id (λ e. omega arith) in
    let same : live_of (entered m base size kind) id ≡ live_of m id = find-push_other (λ (s : Live). s.id == id) m.live _ other in
    (fit.0, omega arith, fit.2, λ s found. fit.3 s (sym same ∙ found))

-- the segments but one, looked up by an identity
pub find-without : (ended id : ℕ) (live : List Live) (s : Live) → find (λ t. t.id == id) (without ended live) ≡ Some s → find (λ t. t.id == id) live ≡ Some s
find-without ended id live s found =
    elim (cases_eq ended id) [
      | inl same ↦ let none = find-filter_gone (λ (t : Live). t.id == id) (λ (t : Live). not (t.id == ended)) live (λ t is. ap not (eq-eqb t.id ended (eqb-true t.id id is ∙ sym same))) in absurd (cc)
      | inr other ↦ let kept = find-filter_kept (λ (t : Live). t.id == id) (λ (t : Live). not (t.id == ended)) live (λ t is. ap not (ne_eqb t.id ended (λ e. other (sym e ∙ eqb-true t.id id is)))) in sym kept ∙ found
    ]

-- after the end of a segment
pub IsFit-ended : (m : Memory) (ended : ℕ) (h : Handle) → IsFit m h → IsFit (record { bytes = m.bytes; live = without ended m.live; made = m.made; accesses = m.accesses }) h
IsFit-ended m ended handles.Null fit = tt
IsFit-ended m ended handles.Broken fit = tt
IsFit-ended m ended (handles.Good sealed id at len offset) fit =
    (fit.0, fit.1, fit.2, λ s found. fit.3 s (find-without ended id m.live s found))

-- after a write
pub IsFit-written : (m : Memory) (address : ℕ) (new : List Byte) (h : Handle) → IsFit m h → IsFit (with_bytes m address new) h
IsFit-written m address new handles.Null fit = tt
IsFit-written m address new handles.Broken fit = tt
IsFit-written m address new (handles.Good sealed id at len offset) fit = fit

-- after an access
pub IsFit-once_more : (m : Memory) (h : Handle) → IsFit m h → IsFit (once_more m) h
IsFit-once_more m handles.Null fit = tt
IsFit-once_more m handles.Broken fit = tt
IsFit-once_more m (handles.Good sealed id at len offset) fit = fit

-- the handle of a new segment
fit_new : (m : Memory) (base size : ℕ) (kind : Kind) → size < 4294967296 → IsSound m → IsFit (entered m base size kind) (handles.Good false (m.made + 1) 0 size (pos 0))
fit_new m base size kind below sound =
    let new : Live = record { id = m.made + 1; base = base; size = size; kind = kind } in (
      omega arith,
      omega arith,
      (omega (arith, ints), omega (arith, ints), omega arith),
      λ s found.
          let is = find-Some (λ (t : Live). t.id == m.made + 1) (m.live ++ new ∷ []) s found in
          elim (Contains-push_cases m.live new s is.0) [
            | inl old ↦ let id = All-contains (λ (t : Live). (1 ≤ t.id) × (t.id ≤ m.made)) m.live s sound.placed.ids old in let same : s.id ≡ m.made + 1 = eqb-true s.id (m.made + 1) is.1 in absurd (omega arith)
            | inr same ↦ let as_large : size ≡ s.size = ap (λ (t : Live). t.size) same in omega arith
          ],
    )

pub IsFit-made : (m after : Memory) (base size : ℕ) (kind : Kind) (h : Handle) → size < 4294967296 → IsSound m → h ≡ handles.Good false (m.made + 1) 0 size (pos 0) → after ≡ entered m base size kind → IsFit after h
IsFit-made m after base size kind h below sound is is_after =
    subst (λ (x : Handle). IsFit after x) (sym is) (subst (λ (x : Memory). IsFit x (handles.Good false (m.made + 1) 0 size (pos 0))) (sym is_after) (fit_new m base size kind below sound))

-- ---- handles made of a handle that fits

-- it is moved within its bound's segment
test_moved : (m : Memory) (sealed : Bool) (id base size : ℕ) (offset to : ℤ) (b : Bool) → IsFit m (handles.Good sealed id base size offset) → HasBounds (cond b (handles.Good sealed id base size to) handles.Broken) → IsFit m (cond b (handles.Good sealed id base size to) handles.Broken)
test_moved m sealed id base size offset to true fit bounds = (fit.0, fit.1, bounds, fit.3)
test_moved m sealed id base size offset to false fit bounds = tt

fit_moved : (m : Memory) (h : Handle) (distance : ℤ) → IsFit m h → HasBounds (moved h distance) → IsFit m (moved h distance)
fit_moved m handles.Null distance fit bounds = tt
fit_moved m handles.Broken distance fit bounds = tt
fit_moved m (handles.Good sealed id base size offset) distance fit bounds =
    test_moved m sealed id base size offset (offset +ℤ distance) (is_near (offset +ℤ distance)) fit bounds

test_added : (m : Memory) (h : Handle) (distance : ℤ) (b : Bool) → IsFit m h → HasBounds (cond b h (moved h distance)) → IsFit m (cond b h (moved h distance))
test_added m h distance true fit bounds = fit
test_added m h distance false fit bounds = fit_moved m h distance fit bounds

-- a handle that is moved fits
pub IsFit-add : (m : Memory) (h : Handle) (delta : ℤ) (scale : ℕ) → IsFit m h → HasBounds (add h delta scale) → IsFit m (add h delta scale)
IsFit-add m h delta scale fit bounds =
    test_added m h (delta *ℤ pos scale) (int_eq (delta *ℤ pos scale) (pos 0)) fit bounds

test_part : (m : Memory) (sealed : Bool) (id base size start len : ℕ) (offset : ℤ) (b : Bool) → nat_le (start + len) size ≡ b → IsFit m (handles.Good sealed id base size offset) → HasBounds (cond b (handles.Good sealed id (base + start) len (pos 0)) handles.Broken) → IsFit m (cond b (handles.Good sealed id (base + start) len (pos 0)) handles.Broken)
test_part m sealed id base size start len offset true within fit bounds =
    let below : start + len ≤ size = leb-true (start + len) size within in
    (fit.0, fit.1, bounds, λ s found. let room = fit.3 s found in omega arith)
test_part m sealed id base size start len offset false within fit bounds = tt

fit_part : (m : Memory) (sealed : Bool) (id base size : ℕ) (offset start : ℤ) (len : ℕ) → IsFit m (handles.Good sealed id base size offset) → HasBounds (part sealed id base size start len) → IsFit m (part sealed id base size start len)
fit_part m sealed id base size offset (pos start) len fit bounds =
    test_part m sealed id base size start len offset (nat_le (start + len) size) refl fit bounds
fit_part m sealed id base size offset (negsuc n) len fit bounds = tt

-- a handle that is sliced fits
pub IsFit-slice : (m : Memory) (h : Handle) (from len : ℕ) → IsFit m h → HasBounds (slice h from len) → IsFit m (slice h from len)
IsFit-slice m handles.Null from len fit bounds = tt
IsFit-slice m handles.Broken from len fit bounds = tt
IsFit-slice m (handles.Good sealed id base size offset) from len fit bounds =
    fit_part m sealed id base size offset (offset +ℤ pos from) len fit bounds
