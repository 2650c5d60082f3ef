-- Arithmetic on pointers is that on handles.
use Rattle.std.proofs.Common.{◌≡◌, ℕ, suc, zero, ◌<◌, Bool, true, false, cond, ℤ, pos, ◌+ℤ◌, ◌*ℤ◌, List, refl, sym, ap, ◌∙◌, arith}
use Rattle.std.specs.Ordering.{int_eq}
use Rattle.std.proofs.Math.IntN.{*ℤ-zero, *ℤ_comm, suc_ℤ-*ℤ}
use Rattle.std.proofs.lemmas.Int.{ints}
use Rattle.c_types.specs.Layout.{Table}
use Rattle.c_types.specs.Types.{Ty, pointer, is_function}
use Rattle.c_meaning.specs.Shapes.{Shape, shape, size}
use Rattle.c_meaning.specs.Values.{Pointer, Value, null, invalid, points}
use Rattle.c_meaning.specs.Objects.{is_near, moved, moved_to, length_of}
use Rattle.ms_handle.specs.declared.handle.Handle.{Handle}
use Rattle.ms_handle.specs.declared.handle.Handle.TheVariants as handles
use Rattle.ms_handle.specs.Handle.{add, moved as moved_handle}
use Rattle.ms_relate.specs.refinement.Homes.{Home, handle, IsNear, IsOf, is_null, is_invalid, is_pointer, is_named, is_no_function, Leads, leads_null, leads_invalid, leads_to}
use Rattle.ms_relate.proofs.Ending.{zero_index}

times_suc : (x : ℤ) (n : ℕ) → x *ℤ pos (suc n) ≡ x *ℤ pos n +ℤ x
times_suc x n = *ℤ_comm x (pos (suc n)) ∙ (suc_ℤ-*ℤ (pos n) x ∙ ap (λ (y : ℤ). y +ℤ x) (*ℤ_comm (pos n) x))

pub times_sum : (a b : ℤ) (n : ℕ) → (a +ℤ b) *ℤ pos n ≡ a *ℤ pos n +ℤ b *ℤ pos n
times_sum a b zero = *ℤ-zero (a +ℤ b) ∙ (let ea : a *ℤ pos 0 ≡ pos 0 = *ℤ-zero a in let eb : b *ℤ pos 0 ≡ pos 0 = *ℤ-zero b in rw (ea, eb) refl)
times_sum a b (suc n) = rw (times_suc (a +ℤ b) n, times_suc a n, times_suc b n, times_sum a b n) (omega (arith, ints))

module _ (table : Table) (places : Ty → ℕ → ℕ) (homes : List Home) where
  same_cond : (b : Bool) (v w : Value) (g : Handle) → handle homes w ≡ g → handle homes (cond b v w) ≡ cond b (handle homes v) g
  same_cond true v w g e = refl
  same_cond false v w g e = e

  near_cond : (b : Bool) (v : Value) (g : Handle) → handle homes v ≡ g → handle homes (cond b v invalid) ≡ cond b g handles.Broken
  near_cond true v g e = e
  near_cond false v g e = refl

  -- a pointer to elements of a shape goes on by so many of them
  pub moved_leads : (e : Shape) (d : ℤ) (v : Value) → Leads homes e v → 0 < size e → handle homes (moved (size e) d v) ≡ add (handle homes v) d (size e)
  moved_leads e d v leads_null some = rw (zero_index d (size e) some) (same_cond (int_eq d (pos 0)) null invalid handles.Broken refl)
  moved_leads e d v leads_invalid some = rw (zero_index d (size e) some) (same_cond (int_eq d (pos 0)) invalid invalid handles.Broken refl)
  moved_leads e d v (leads_to {p} h s at span same near) some =
      let n : ℕ = size e in
      let sized : size s.shape ≡ n = ap (λ (x : Shape). size x) same in
      let sum = times_sum p.index d n in
      let to : Pointer = record { object = p.object; path = p.path; index = p.index +ℤ d; sealed = p.sealed } in
      let is_to : handle homes (points to) ≡ handles.Good p.sealed h.id s.place (length_of s) (p.index *ℤ pos n +ℤ d *ℤ pos n) = rw (at, span, sized, sum) refl in
      let is_from : handle homes (points p) ≡ handles.Good p.sealed h.id s.place (length_of s) (p.index *ℤ pos n) = rw (at, span, sized) refl in
      let moves : handle homes (moved_to n p (p.index +ℤ d)) ≡ moved_handle (handle homes (points p)) (d *ℤ pos n) = rw (is_from, sum) (near_cond (is_near (p.index *ℤ pos n +ℤ d *ℤ pos n)) (points to) (handles.Good p.sealed h.id s.place (length_of s) (p.index *ℤ pos n +ℤ d *ℤ pos n)) is_to) in
      rw (zero_index d n some) (same_cond (int_eq d (pos 0)) (points p) (moved_to n p (p.index +ℤ d)) (moved_handle (handle homes (points p)) (d *ℤ pos n)) moves)

  leads_cond : (e : Shape) (b : Bool) (v w : Value) → Leads homes e v → Leads homes e w → Leads homes e (cond b v w)
  leads_cond e true v w one other = one
  leads_cond e false v w one other = other

  -- and leads to such elements again
  pub moved_still_leads : (e : Shape) (d : ℤ) (v : Value) → Leads homes e v → Leads homes e (moved (size e) d v)
  moved_still_leads e d v leads_null = leads_cond e (int_eq d (pos 0)) null invalid leads_null leads_invalid
  moved_still_leads e d v leads_invalid = leads_cond e (int_eq d (pos 0)) invalid invalid leads_invalid leads_invalid
  moved_still_leads e d v (leads_to {p} h s at span same near) =
      leads_cond e (int_eq d (pos 0)) (points p) (moved_to (size e) p (p.index +ℤ d)) (leads_to h s at span same near) (if_near (is_near ((p.index +ℤ d) *ℤ pos (size e))) refl) where
        to : Pointer
        to = record { object = p.object; path = p.path; index = p.index +ℤ d; sealed = p.sealed }

        if_near : (b : Bool) → is_near ((p.index +ℤ d) *ℤ pos (size e)) ≡ b → Leads homes e (cond b (points to) invalid)
        if_near true q = leads_to h s at span same (record { near = ap (λ (x : Shape). is_near ((p.index +ℤ d) *ℤ pos (size x))) same ∙ q; low = near.low; small = near.small })
        if_near false q = leads_invalid

  -- ---- by types

  pub leads_of : (t : Ty) (v : Value) → is_function t ≡ false → IsOf table places homes (pointer t) v → Leads homes (shape table t) v
  leads_of t v plain (is_null f) = leads_null
  leads_of t v plain (is_invalid f) = leads_invalid
  leads_of t v plain (is_pointer h s f at span same near) = leads_to h s at span same near
  leads_of t v plain (is_named f small) = absurd (let x : true ≡ false = sym f ∙ plain in cc)
  leads_of t v plain (is_no_function f) = absurd (let x : true ≡ false = sym f ∙ plain in cc)

  pub is_of_leads : (t : Ty) (v : Value) → is_function t ≡ false → Leads homes (shape table t) v → IsOf table places homes (pointer t) v
  is_of_leads t v plain leads_null = is_null plain
  is_of_leads t v plain leads_invalid = is_invalid plain
  is_of_leads t v plain (leads_to h s at span same near) = is_pointer h s plain at span same near

  pub moved_is : (t : Ty) (d : ℤ) (v : Value) → IsOf table places homes (pointer t) v → is_function t ≡ false → 0 < size (shape table t) → handle homes (moved (size (shape table t)) d v) ≡ add (handle homes v) d (size (shape table t))
  moved_is t d v of plain some = moved_leads (shape table t) d v (leads_of t v plain of) some

  pub moved_is_of : (t : Ty) (d : ℤ) (v : Value) → IsOf table places homes (pointer t) v → is_function t ≡ false → IsOf table places homes (pointer t) (moved (size (shape table t)) d v)
  moved_is_of t d v of plain = is_of_leads t (moved (size (shape table t)) d v) plain (moved_still_leads (shape table t) d v (leads_of t v plain of))
