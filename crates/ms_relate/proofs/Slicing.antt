-- Members and sub-arrays of what a pointer leads to are slices of its handle.
use Rattle.std.proofs.Common.{◌≡◌, ℕ, zero, suc, ◌+◌, ◌-◌, ◌*◌, ◌<◌, ◌≤◌, inl, inr, ℤ, pos, negsuc, ◌+ℤ◌, ◌*ℤ◌, List, [], ◌∷◌, ◌++◌, Option, Some, None, refl, sym, ap, ◌∙◌, arith}
use Rattle.std.specs.Prelude.{Bool, option_and_then, slice_get}
use Rattle.std.proofs.lemmas.Bool.{cases_lt, le-leb, lt-leb, lt-ltb, le-ltb}
use Rattle.std.proofs.lemmas.Int.{ints}
use Rattle.std.proofs.Math.Nat.{mul-le-mul_right}
use Rattle.c_types.specs.Layout.{Table}
use Rattle.c_types.specs.Types.{Ty}
use Rattle.c_meaning.specs.Shapes.{Shape, elements, Part, part_of, size}
use Rattle.c_meaning.specs.Values.{Pointer, Step, to_member, inside, Value, invalid, points}
use Rattle.c_meaning.specs.Objects.{Object, Span, further, gives, index_in, length_of, span_at, span_by, span_in, stepped, whole_of}
use Rattle.ms_handle.specs.declared.handle.Handle.{Handle}
use Rattle.ms_handle.specs.declared.handle.Handle.TheVariants as handles
use Rattle.ms_handle.specs.Handle.{part, slice}
use Rattle.ms_segment.specs.Memory.{Memory}
use Rattle.ms_relate.specs.refinement.Homes.{Home, handle, Leads, leads_null, leads_invalid, leads_to, span_of}
use Rattle.ms_relate.specs.refinement.Relation.{Related}
use Rattle.ms_relate.proofs.Accesses.{index_ends, index_in-within, negsuc-times}
use Rattle.ms_relate.proofs.Near.{zero_near}
use Rattle.ms_relate.proofs.Reading.{object_there}

-- ---- slices

-- the part of element k, of n bytes, that has this offset and length
abbrev pub sliced : (sealed : Bool) (id place n off l : ℕ) → Option ℕ → Handle
sliced z id place n off l None = handles.Broken
sliced z id place n off l (Some k) = handles.Good z id (place + k * n + off) l (pos 0)

negative : (j off : ℕ) → off ≤ j → negsuc j +ℤ pos off ≡ negsuc (j - off)
negative j off less = omega (arith, ints)

pub slice_is : (z : Bool) (id place c n off l : ℕ) (i : ℤ) → 0 < l → off + l ≤ n → slice (handles.Good z id place (c * n) (i *ℤ pos n)) off l ≡ sliced z id place n off l (index_in c i)
slice_is z id place c n off l (pos k) some within =
    elim (cases_lt k c) [
      | inl less ↦
          let room = index_ends k c n less in
          let at : place + (k * n + off) ≡ place + k * n + off = omega arith in
          rw (le-leb (k * n + off + l) (c * n) (omega (arith, room, within)), lt-ltb k c less) (ap (λ x. handles.Good z id x l (pos 0)) at)
      | inr past ↦
          let far : c * n ≤ k * n = mul-le-mul_right n past in
          rw (lt-leb (k * n + off + l) (c * n) (omega (arith, far, some)), le-ltb k c past) refl
    ]
slice_is z id place c n off l (negsuc k) some within =
    let j = negsuc-times k n (omega (arith, some, within)) in
    let least : 1 * n ≤ suc k * n = mul-le-mul_right n (let x : 1 ≤ suc k = omega arith in x) in
    ap (λ (x : ℤ). part z id place (c * n) x l) (ap (λ (x : ℤ). x +ℤ pos off) j.1 ∙ negative j.0 off (omega (arith, j.2, least, some, within)))

-- ---- one step more

pub span_at-append : (path : List Step) (step : Step) (s : Span) → span_at (path ++ step ∷ []) s ≡ option_and_then (λ t. span_by step t) (span_at path s)
span_at-append [] step s = last (span_by step s) where
  last : (o : Option Span) → option_and_then (λ t. Some t) o ≡ o
  last None = refl
  last (Some t) = refl
span_at-append (first ∷ path) step s = under (span_by first s) (λ t. span_at-append path step t) where
  under : (o : Option Span) → ((t : Span) → span_at (path ++ step ∷ []) t ≡ option_and_then (λ u. span_by step u) (span_at path t)) → option_and_then (λ t. span_at (path ++ step ∷ []) t) o ≡ option_and_then (λ u. span_by step u) (option_and_then (λ t. span_at path t) o)
  under None e = refl
  under (Some t) e = e t

zero_index_handle : (z : Bool) (id place l n : ℕ) → handles.Good z id place l (pos 0 *ℤ pos n) ≡ handles.Good z id place l (pos 0)
zero_index_handle z id place l n = ap (λ (x : ℕ). handles.Good z id place l (pos x)) (omega arith)

-- a part of an element ends where its array does, or before
part_low : (place n c k off l start len : ℕ) → start ≡ place + k * n + off → len ≡ l → k < c → off + l ≤ n → place + c * n < 4294967296 → start + len < 4294967296
part_low place n c k off l start len starts is less within low = let room = index_ends k c n less in omega (arith, starts, is, within, low, room)

-- of some elements one is no larger
one_of : (n w : ℕ) → 0 < n * w → w ≤ n * w
one_of zero w some = absurd (let e : 0 * w ≡ 0 = omega arith in omega (arith, some, e))
one_of (suc n) w some = let h : 1 * w ≤ suc n * w = mul-le-mul_right w (let g : 1 ≤ suc n = omega arith in g) in omega (arith, h)

-- what a step gives: a pointer that leads to a shape, whose handle is a slice
pub record Gives (homes : List Home) (u : Shape) (w : Value) (h : Handle) : Type 0 where
  pub leads : Leads homes u w
  pub handle_is : handle homes w ≡ h

module _ (table : Table) (places : Ty → ℕ → ℕ) (homes : List Home) where
  invalid_gives : (u : Shape) → Gives homes u invalid handles.Broken
  invalid_gives u = record { leads = leads_invalid; handle_is = refl }

  -- from the span of a pointer to that of the step, element by element
  stepped_gives : (f : ℕ → Step) (p : Pointer) (h : Home) (s : Span) (u : Shape) (off l : ℕ) (x : Option ℕ) → ((k : ℕ) → x ≡ Some k → (t : Span) × (span_by (f k) s ≡ Some t) × (t.shape ≡ u) × (t.place ≡ s.place + k * size s.shape + off) × (length_of t ≡ l) × (t.place + length_of t < 4294967296) × (size t.shape < 4294967296)) → slice_get homes p.object ≡ Some h → span_of h p.path ≡ Some s → Gives homes u (stepped f p x) (sliced p.sealed h.id s.place (size s.shape) off l x)
  stepped_gives f p h s u off l None each at span = invalid_gives u
  stepped_gives f p h s u off l (Some k) each at span =
      let t = each k refl in
      let there : span_of h (p.path ++ f k ∷ []) ≡ Some t.0 = span_at-append p.path (f k) (whole_of h.shape h.count) ∙ rw span t.1 in
      record {
        leads = leads_to h t.0 at there t.2 (record { near = zero_near (size t.0.shape); low = t.5; small = t.6 });
        handle_is = rw (at, there, zero_index_handle p.sealed h.id t.0.place (length_of t.0) (size t.0.shape)) (rw (t.3, t.4) refl);
      }

  further_gives : (objects : List Object) (m : Memory) (f : ℕ → Step) (e u : Shape) (off l : ℕ) (v : Value) → Related table places homes objects m → Leads homes e v → 0 < l → off + l ≤ size e
      → ((s : Span) (k : ℕ) → s.shape ≡ e → k < s.count → (x : Span) × (span_by (f k) s ≡ Some x) × (x.shape ≡ u) × (x.place ≡ s.place + k * size s.shape + off) × (length_of x ≡ l) × (size x.shape ≤ l))
      → (w : Value) × (further f objects v ≡ gives w) × Gives homes u w (slice (handle homes v) off l)
  further_gives objects m f e u off l v related leads_null some within each = (invalid, refl, invalid_gives u)
  further_gives objects m f e u off l v related leads_invalid some within each = (invalid, refl, invalid_gives u)
  further_gives objects m f e u off l v related (leads_to {p} h s at span same near) some within each =
      let o = object_there table places homes objects p.object h related.long at in
      let there = related.each p.object o.0 h o.1 at in
      let span' : span_in o.0 p.path ≡ Some s = rw (there.shape, there.count) span in
      let sized : size s.shape ≡ size e = ap (λ (x : Shape). size x) same in
      let is_from : slice (handle homes (points p)) off l ≡ sliced p.sealed h.id s.place (size s.shape) off l (index_in s.count p.index) = rw (at, span) (slice_is p.sealed h.id s.place s.count (size s.shape) off l p.index some (omega (arith, within, sized))) in
      let result = stepped_gives f p h s u off l (index_in s.count p.index) (λ k x.
      let less = index_in-within s.count p.index k x in
      let t = each s k same less in
      (t.0, t.1, t.2, t.3, t.4, part_low s.place (size s.shape) s.count k off l t.0.place (length_of t.0) t.3 t.4 less (omega (arith, within, sized)) near.low, (let least = t.5 in let small = near.small in omega (arith, least, within, sized, small)))) at span in
      (stepped f p (index_in s.count p.index), rw (o.1, span') refl, record { leads = result.leads; handle_is = result.handle_is ∙ sym is_from })

  -- a member
  pub member_gives : (objects : List Object) (m : Memory) (e : Shape) (k : ℕ) (p : Part) (v : Value) → Related table places homes objects m → Leads homes e v → part_of e k ≡ Some p → 0 < size p.shape → p.offset + size p.shape ≤ size e
      → (w : Value) × (further (λ i. to_member i k) objects v ≡ gives w) × Gives homes p.shape w (slice (handle homes v) p.offset (size p.shape))
  member_gives objects m e k p v related leads is some within =
      further_gives objects m (λ i. to_member i k) e p.shape p.offset (size p.shape) v related leads some within
      (λ s i at less. (record { place = s.place + i * size s.shape + p.offset; shape = p.shape; count = 1 }, rw (lt-ltb i s.count less, at, is) refl, refl, refl, omega arith, omega arith))

  -- an element that is an array
  pub elements_give : (objects : List Object) (m : Memory) (e : Shape) (n : ℕ) (v : Value) → Related table places homes objects m → Leads homes (elements e n) v → 0 < n * size e
      → (w : Value) × (further inside objects v ≡ gives w) × Gives homes e w (slice (handle homes v) 0 (n * size e))
  elements_give objects m e n v related leads some =
      further_gives objects m inside (elements e n) e 0 (n * size e) v related leads some (omega arith)
      (λ s i at less. (record { place = s.place + i * size s.shape; shape = e; count = n }, rw (lt-ltb i s.count less, at) refl, refl, omega arith, refl, one_of n (size e) some))
