-- Comparing pointers is comparing handles.
use Rattle.std.proofs.Common.{◌≡◌, ◌==◌, ℕ, inl, inr, true, false, ℤ, List, Some, Result, Ok, Err, refl, sym, ap, ◌∙◌, subst}
use Rattle.std.specs.Prelude.{slice_get}
use Rattle.std.proofs.lemmas.Bool.{cases_eq, eq-eqb, ne_eqb}
use Rattle.c_types.specs.Layout.{Table}
use Rattle.c_types.specs.Types.{Ty, pointer, is_function}
use Rattle.c_meaning.specs.Values.{Pointer, Value, points}
use Rattle.c_meaning.specs.Objects.{Object, Span, Outcome, apart, distance, gives, same_place, span_in, stops}
use Rattle.ms_handle.specs.declared.handle.Apart.{Apart}
use Rattle.ms_handle.specs.Handle.{difference, eq}
use Rattle.ms_segment.specs.Memory.{Memory}
use Rattle.ms_relate.specs.refinement.Homes.{Home, handle, IsOf, is_null, is_invalid, is_pointer, is_named, is_no_function, span_of}
use Rattle.ms_relate.specs.refinement.Relation.{IsAt, Related}
use Rattle.ms_relate.proofs.Reading.{object_there}
use Rattle.ms_relate.proofs.Writing.{other_identity, same_Some}

-- a difference of places, or pointers that aren't into one object
pub data Differs : Outcome ℤ → Result ℤ Apart → Type 0 where
  differs : {z : ℤ} → Differs (gives z) (Ok z)
  are_apart : Differs (stops apart) (Err (record {}))

module _ (table : Table) (places : Ty → ℕ → ℕ) (homes : List Home) where
  -- where a pointer is in its object
  pub place_is : (objects : List Object) (m : Memory) (o : Object) (h : Home) (p : Pointer) (s : Span) → IsAt table places homes m o h → span_of h p.path ≡ Some s → span_in o p.path ≡ Some s
  place_is objects m o h p s there span = rw (there.shape, there.count) span

  same_points : (objects : List Object) (m : Memory) (p q : Pointer) (h j : Home) (s r : Span) → Related table places homes objects m → slice_get homes p.object ≡ Some h → slice_get homes q.object ≡ Some j → span_of h p.path ≡ Some s → span_of j q.path ≡ Some r → same_place objects (points p) (points q) ≡ gives (eq (handle homes (points p)) (handle homes (points q)))
  same_points objects m p q h j s r related at at' span span' =
      elim (cases_eq p.object q.object) [
        | inl same ↦
            let o = object_there table places homes objects p.object h related.long at in
            let there = related.each p.object o.0 h o.1 at in
            let one : h ≡ j = same_Some (slice_get homes q.object) h j (subst (λ x. slice_get homes x ≡ Some h) same at) at' in
            let far : span_of h q.path ≡ Some r = rw one span' in
            let ids : (h.id == j.id) ≡ true = eq-eqb h.id j.id (ap (λ (x : Home). x.id) one) in
            rw (eq-eqb p.object q.object same, o.1, place_is objects m o.0 h p s there span, place_is objects m o.0 h q r there far, at, at', span, span', ids) refl
        | inr other ↦
            let ids : (h.id == j.id) ≡ false = ne_eqb h.id j.id (other_identity table places homes objects m p.object q.object h j related at at' other) in
            rw (ne_eqb p.object q.object other, at, at', span, span', ids) refl
      ]

  -- equality
  pub same_is : (objects : List Object) (m : Memory) (t u : Ty) (v w : Value) → Related table places homes objects m → is_function t ≡ false → is_function u ≡ false → IsOf table places homes (pointer t) v → IsOf table places homes (pointer u) w → same_place objects v w ≡ gives (eq (handle homes v) (handle homes w))
  same_is objects m t u v w related plain plain' (is_named f small) of = absurd (let x : true ≡ false = sym f ∙ plain in cc)
  same_is objects m t u v w related plain plain' (is_no_function f) of = absurd (let x : true ≡ false = sym f ∙ plain in cc)
  same_is objects m t u v w related plain plain' of (is_named f small) = absurd (let x : true ≡ false = sym f ∙ plain' in cc)
  same_is objects m t u v w related plain plain' of (is_no_function f) = absurd (let x : true ≡ false = sym f ∙ plain' in cc)
  same_is objects m t u v w related plain plain' (is_null f) (is_null g) = refl
  same_is objects m t u v w related plain plain' (is_null f) (is_invalid g) = refl
  same_is objects m t u v w related plain plain' (is_null f) (is_pointer {p = q} j r g at' span' k near') = rw (at', span') refl
  same_is objects m t u v w related plain plain' (is_invalid f) (is_null g) = refl
  same_is objects m t u v w related plain plain' (is_invalid f) (is_invalid g) = refl
  same_is objects m t u v w related plain plain' (is_invalid f) (is_pointer {p = q} j r g at' span' k near') = refl
  same_is objects m t u v w related plain plain' (is_pointer {p} h s f at span k near) (is_null g) = rw (at, span) refl
  same_is objects m t u v w related plain plain' (is_pointer {p} h s f at span k near) (is_invalid g) = rw (at, span) refl
  same_is objects m t u v w related plain plain' (is_pointer {p} h s f at span k near) (is_pointer {p = q} j r g at' span' k' near') = same_points objects m p q h j s r related at at' span span'

  differ_points : (objects : List Object) (m : Memory) (p q : Pointer) (h j : Home) (s r : Span) → Related table places homes objects m → slice_get homes p.object ≡ Some h → slice_get homes q.object ≡ Some j → span_of h p.path ≡ Some s → span_of j q.path ≡ Some r → Differs (distance objects (points p) (points q)) (difference (handle homes (points p)) (handle homes (points q)))
  differ_points objects m p q h j s r related at at' span span' =
      elim (cases_eq p.object q.object) [
        | inl same ↦
            let o = object_there table places homes objects p.object h related.long at in
            let there = related.each p.object o.0 h o.1 at in
            let one : h ≡ j = same_Some (slice_get homes q.object) h j (subst (λ x. slice_get homes x ≡ Some h) same at) at' in
            let far : span_of h q.path ≡ Some r = rw one span' in
            let ids : (h.id == j.id) ≡ true = eq-eqb h.id j.id (ap (λ (x : Home). x.id) one) in
            rw (eq-eqb p.object q.object same, o.1, place_is objects m o.0 h p s there span, place_is objects m o.0 h q r there far, at, at', span, span', ids) differs
        | inr other ↦
            let ids : (h.id == j.id) ≡ false = ne_eqb h.id j.id (other_identity table places homes objects m p.object q.object h j related at at' other) in
            rw (ne_eqb p.object q.object other, at, at', span, span', ids) are_apart
      ]

  -- difference
  pub differs_is : (objects : List Object) (m : Memory) (t u : Ty) (v w : Value) → Related table places homes objects m → is_function t ≡ false → is_function u ≡ false → IsOf table places homes (pointer t) v → IsOf table places homes (pointer u) w → Differs (distance objects v w) (difference (handle homes v) (handle homes w))
  differs_is objects m t u v w related plain plain' (is_named f small) of = absurd (let x : true ≡ false = sym f ∙ plain in cc)
  differs_is objects m t u v w related plain plain' (is_no_function f) of = absurd (let x : true ≡ false = sym f ∙ plain in cc)
  differs_is objects m t u v w related plain plain' of (is_named f small) = absurd (let x : true ≡ false = sym f ∙ plain' in cc)
  differs_is objects m t u v w related plain plain' of (is_no_function f) = absurd (let x : true ≡ false = sym f ∙ plain' in cc)
  differs_is objects m t u v w related plain plain' (is_null f) (is_null g) = are_apart
  differs_is objects m t u v w related plain plain' (is_null f) (is_invalid g) = are_apart
  differs_is objects m t u v w related plain plain' (is_null f) (is_pointer j r g at' span' k near') = are_apart
  differs_is objects m t u v w related plain plain' (is_invalid f) (is_null g) = are_apart
  differs_is objects m t u v w related plain plain' (is_invalid f) (is_invalid g) = are_apart
  differs_is objects m t u v w related plain plain' (is_invalid f) (is_pointer j r g at' span' k near') = are_apart
  differs_is objects m t u v w related plain plain' (is_pointer {p} h s f at span k near) (is_null g) = rw (at, span) are_apart
  differs_is objects m t u v w related plain plain' (is_pointer {p} h s f at span k near) (is_invalid g) = rw (at, span) are_apart
  differs_is objects m t u v w related plain plain' (is_pointer {p} h s f at span k near) (is_pointer {p = q} j r g at' span' k' near') = differ_points objects m p q h j s r related at at' span span'
