-- Slices as code takes them, by numbers of 32 bits: the slice of a slice is one slice, and what a member or an array in an object is, is
-- a slice of itself.
use Rattle.std.proofs.Common.{◌≡◌, ◌≢◌, ℕ, ◌+◌, ◌*◌, ◌^◌, ◌<◌, ◌≤◌, Bool, true, false, ℤ, pos, negsuc, ◌+ℤ◌, List, [], Option, Some, None, refl, sym, ap, ◌∙◌, subst, arith}
use Rattle.std.specs.Prelude.{IsSome, nat_le, slice_get, if◌then◌else◌}
use Rattle.std.proofs.lemmas.Bool.{le-leb}
use Rattle.c_types.specs.Layout.{HasSize, IsLaidOut, Layout, Table, depth_in, layout_at, size as type_size}
use Rattle.c_types.specs.Types.{Ty, void, integer, struct, pointer, array, function}
use Rattle.c_meaning.specs.Shapes.{Shape, elements, Part, part_of, shape, size, struct_shape}
use Rattle.c_meaning.specs.Values.{Pointer, Value, invalid, inside, points, to_member}
use Rattle.c_meaning.specs.Objects.{Object, further, gives, index_in, whole_of}
use Rattle.ms_handle.specs.declared.handle.Handle.{Handle}
use Rattle.ms_handle.specs.declared.handle.Handle.TheVariants as handles
use Rattle.ms_handle.specs.Handle.{part, slice}
use Rattle.ms_num.specs.Integers.{wrapped}
use Rattle.ms_segment.specs.Memory.{Memory}
use Rattle.ms_relate.specs.refinement.Homes.{Home, handle, Leads, leads_null, leads_invalid, leads_to}
use Rattle.ms_relate.specs.refinement.Laid.{Fits}
use Rattle.ms_relate.specs.refinement.Relation.{Related}
use Rattle.ms_relate.proofs.Ending.{name_handle}
use Rattle.ms_relate.proofs.Laid.{path_within, size-positive}
use Rattle.ms_relate.proofs.Reading.{object_there}
use Rattle.ms_relate.proofs.Shapes.{shape_good}
use Rattle.ms_relate.proofs.Slicing.{elements_give, member_gives, sliced, slice_is}

-- a number as an i32 has it
abbrev pub low : ℕ → ℕ
low n = wrapped 32 (pos n)

low_is : (n : ℕ) → n < 2 ^ 32 → low n ≡ n
low_is n lt = omega arith

-- ---- slices of slices

-- of a handle whose offset is 0
within_slice : (z : Bool) (id base l from n : ℕ) → from + n ≤ l → slice (handles.Good z id base l (pos 0)) from n ≡ handles.Good z id (base + from) n (pos 0)
within_slice z id base l from n within =
    let at : base + (0 + from) ≡ base + from = omega arith in
    rw (le-leb (0 + from + n) l (omega (arith, within))) (ap (λ x. handles.Good z id x n (pos 0)) at)

all_of : (z : Bool) (id base l : ℕ) → slice (handles.Good z id base l (pos 0)) 0 l ≡ handles.Good z id base l (pos 0)
all_of z id base l = let at : base + 0 ≡ base = omega arith in within_slice z id base l 0 l (omega arith) ∙ ap (λ x. handles.Good z id x l (pos 0)) at

-- a slice is the whole of itself
pub slice_all : (h : Handle) (off l : ℕ) → slice (slice h off l) 0 l ≡ slice h off l
slice_all handles.Null off l = refl
slice_all handles.Broken off l = refl
slice_all (handles.Good z id base length offset) off l = by (offset +ℤ pos off) where
  chosen : (b : Bool) (start : ℕ) → slice (if b then handles.Good z id (base + start) l (pos 0) else handles.Broken) 0 l ≡ (if b then handles.Good z id (base + start) l (pos 0) else handles.Broken)
  chosen true start = all_of z id (base + start) l
  chosen false start = refl

  by : (x : ℤ) → slice (part z id base length x l) 0 l ≡ part z id base length x l
  by (pos start) = chosen (nat_le (start + l) length) start
  by (negsuc n) = refl

sliced_within : (z : Bool) (id place w off l from n : ℕ) (x : Option ℕ) → from + n ≤ l → slice (sliced z id place w off l x) from n ≡ sliced z id place w (off + from) n x
sliced_within z id place w off l from n None within = refl
sliced_within z id place w off l from n (Some k) within =
    let at : place + k * w + off + from ≡ place + k * w + (off + from) = omega arith in
    within_slice z id (place + k * w + off) l from n within ∙ ap (λ (y : ℕ). handles.Good z id y n (pos 0)) at

-- ---- the handles of pointers

-- a type whose shape fits has a size
pub fits_size : (table : Table) (t : Ty) → Fits (shape table t) → HasSize table t
fits_size table void fits = absurd (omega (arith, fits))
fits_size table (integer u) fits = tt
fits_size table (struct n) fits = by (layout_at table n) refl fits where
  by : (o : Option Layout) → layout_at table n ≡ o → Fits (struct_shape table (depth_in o) n) → IsSome o
  by None e fits = absurd (omega (arith, fits.0))
  by (Some l) e fits = refl
fits_size table (pointer u) fits = tt
fits_size table (array u n) fits = (fits.0, fits_size table u fits.1)
fits_size table (function r ps) fits = absurd (omega (arith, fits))

-- what a pointer to a member is beside one to its struct, by their handles: a slice, which is the whole of itself, and what is sliced
-- from it
pub record IsPart (homes : List Home) (u : Shape) (off : ℕ) (v w : Value) : Type 0 where
  pub leads : Leads homes u w
  pub handle_is : handle homes w ≡ slice (handle homes v) (low off) (low (size u))
  pub all : slice (handle homes w) 0 (size u) ≡ handle homes w
  pub within : (from n : ℕ) → 0 < n → from + n ≤ size u → slice (handle homes w) (low from) (low n) ≡ slice (handle homes v) (low (off + from)) (low n)

module _ (table : Table) (places : Ty → ℕ → ℕ) (homes : List Home) where
  -- where it leads to an object
  pub led : (objects : List Object) (m : Memory) (e : Shape) (p : Pointer) → Related table places homes objects m → Leads homes e (points p) → Fits e × (size e < 2 ^ 32)
  led objects m e p related (leads_to h s at span same near) =
      let o = object_there table places homes objects p.object h related.long at in
      let there = related.each p.object o.0 h o.1 at in
      let fit = path_within p.path (whole_of h.shape h.count) s there.fits span in
      subst (λ (x : Shape). Fits x × (size x < 2 ^ 32)) same (fit.2, near.small)

  pub low_slice : (objects : List Object) (m : Memory) (e : Shape) (v : Value) (from n : ℕ) → Related table places homes objects m → Leads homes e v → from + n ≤ size e → slice (handle homes v) (low from) (low n) ≡ slice (handle homes v) from n
  low_slice objects m e v from n related leads_null within = refl
  low_slice objects m e v from n related leads_invalid within = refl
  low_slice objects m e v from n related (leads_to {p} h s at span same near) within =
      let small = (led objects m e p related (leads_to h s at span same near)).1 in
      ap (λ (x : ℕ). slice (handle homes (points p)) x (low n)) (low_is from (omega (arith, small, within))) ∙ ap (λ (x : ℕ). slice (handle homes (points p)) from x) (low_is n (omega (arith, small, within)))

  slice_within : (e : Shape) (v : Value) (off l from n : ℕ) → Leads homes e v → 0 < n → from + n ≤ l → off + l ≤ size e → slice (slice (handle homes v) off l) from n ≡ slice (handle homes v) (off + from) n
  slice_within e v off l from n leads_null some within end = refl
  slice_within e v off l from n leads_invalid some within end = refl
  slice_within e v off l from n (leads_to {p} h s at span same near) some within end =
      let sized : size s.shape ≡ size e = ap (λ (x : Shape). size x) same in
      let x : Option ℕ = index_in s.count p.index in
      let one : slice (handle homes (points p)) off l ≡ sliced p.sealed h.id s.place (size s.shape) off l x = rw (at, span) (slice_is p.sealed h.id s.place s.count (size s.shape) off l p.index (omega (arith, some, within)) (omega (arith, end, sized))) in
      let two : slice (handle homes (points p)) (off + from) n ≡ sliced p.sealed h.id s.place (size s.shape) (off + from) n x = rw (at, span) (slice_is p.sealed h.id s.place s.count (size s.shape) (off + from) n p.index some (omega (arith, within, end, sized))) in
      ap (λ (g : Handle). slice g from n) one ∙ sliced_within p.sealed h.id s.place (size s.shape) off l from n x within ∙ sym two

  -- ---- members and arrays

  -- a member
  pub member_part : (objects : List Object) (m : Memory) (e : Shape) (k : ℕ) (p : Part) (v : Value) → Related table places homes objects m → Leads homes e v → part_of e k ≡ Some p → 0 < size p.shape → p.offset + size p.shape ≤ size e
      → (w : Value) × (further (λ i. to_member i k) objects v ≡ gives w) × IsPart homes p.shape p.offset v w
  member_part objects m e k p v related leads is some within =
      let g = member_gives table places homes objects m e k p v related leads is some within in (
        g.0,
        g.1,
        record {
          leads = g.2.leads;
          handle_is = g.2.handle_is ∙ sym (low_slice objects m e v p.offset (size p.shape) related leads within);
          all = ap (λ (h : Handle). slice h 0 (size p.shape)) g.2.handle_is ∙ slice_all (handle homes v) p.offset (size p.shape) ∙ sym g.2.handle_is;
          within = λ from n some' within'.
              low_slice objects m p.shape g.0 from n related g.2.leads within'
              ∙ ap (λ (h : Handle). slice h from n) g.2.handle_is
              ∙ slice_within e v p.offset (size p.shape) from n leads some' within' within
              ∙ sym (low_slice objects m e v (p.offset + from) n related leads (omega (arith, within, within')));
        },
      )

  -- the array that an element is
  pub inside_part : (objects : List Object) (m : Memory) (e : Shape) (n : ℕ) (v : Value) → Related table places homes objects m → Leads homes (elements e n) v
      → (w : Value) × (further inside objects v ≡ gives w) × Leads homes e w × (handle homes w ≡ slice (handle homes v) 0 (n * size e))
  inside_part objects m e n v related leads_null = (invalid, refl, leads_invalid, refl)
  inside_part objects m e n v related leads_invalid = (invalid, refl, leads_invalid, refl)
  inside_part objects m e n v related (leads_to {p} h s at span same near) =
      let leads : Leads homes (elements e n) (points p) = leads_to h s at span same near in
      let fits = (led objects m (elements e n) p related leads).0 in
      let g = elements_give table places homes objects m e n (points p) related leads (size-positive (elements e n) fits) in
      (g.0, g.1, g.2.leads, g.2.handle_is)

  -- the slice that code takes of an array by its type
  pub array_slice : (objects : List Object) (m : Memory) (u : Ty) (n : ℕ) (v : Value) → IsLaidOut table → ((k : ℕ) (l : Layout) → layout_at table k ≡ Some l → l.members ≢ []) → Related table places homes objects m → Leads homes (shape table (array u n)) v
      → slice (handle homes v) (low 0) (low (n * type_size table u)) ≡ slice (handle homes v) 0 (n * size (shape table u))
  array_slice objects m u n v laid some related leads_null = refl
  array_slice objects m u n v laid some related leads_invalid = refl
  array_slice objects m u n v laid some related (leads_to {p} h s at span same near) =
      let leads : Leads homes (shape table (array u n)) (points p) = leads_to h s at span same near in
      let fits = (led objects m (shape table (array u n)) p related leads).0 in
      let sized = (shape_good table laid some u (fits_size table (array u n) fits).1).sized in
      ap (λ (x : ℕ). slice (handle homes (points p)) (low 0) (low (n * x))) (sym sized) ∙ low_slice objects m (shape table (array u n)) (points p) 0 (n * size (shape table u)) related leads (omega arith)

  -- the handle that the name of a variable's object holds is the whole of its array of one
  pub name_all : (n : ℕ) (h : Home) → slice_get homes n ≡ Some h → h.count ≡ 1 → slice (handle homes (points (record { object = n; path = []; index = pos 0; sealed = false }))) 0 (size h.shape) ≡ handle homes (points (record { object = n; path = []; index = pos 0; sealed = false }))
  name_all n h at one =
      let is = name_handle table places homes n h at in
      let length : h.count * size h.shape ≡ size h.shape = ap (λ (c : ℕ). c * size h.shape) one ∙ omega arith in
      let good : handle homes (points (record { object = n; path = []; index = pos 0; sealed = false })) ≡ handles.Good false h.id 0 (size h.shape) (pos 0) = is ∙ ap (λ (l : ℕ). handles.Good false h.id 0 l (pos 0)) length in
      ap (λ (g : Handle). slice g 0 (size h.shape)) good ∙ all_of false h.id 0 (size h.shape) ∙ sym good
