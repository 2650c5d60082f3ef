-- A struct assignment keeps the relation, whether its two sides overlap or not.
use Rattle.std.proofs.Common.{◌≡◌, ℕ, suc, zero, ◌+◌, ◌*◌, ◌<◌, ◌≤◌, Bool, true, false, cond, ℤ, pos, List, Option, Some, None, Result, Ok, Err, refl, sym, ap, ◌∙◌, subst, arith}
use Rattle.std.proofs.Math.Nat.{mul-le-mul_right}
use Rattle.c_types.specs.Layout.{Table}
use Rattle.c_types.specs.Types.{Ty, pointer, is_function}
use Rattle.c_meaning.specs.Shapes.{Shape, scalar, elements, record', Members, no_members, member, Part, nth_member, part_of, size, width}
use Rattle.c_meaning.specs.Values.{Value}
use Rattle.c_meaning.specs.Objects.{Object, Outcome, after, moved, read, write}
use Rattle.c_meaning.specs.Objects.{copy, copy_members, copy_value, each_from}
use Rattle.ms_relate.specs.refinement.Laid.{Fits, FitMembers, is_handle}
use Rattle.ms_relate.proofs.Laid.{member_fits, size-positive}
use Rattle.ms_event.specs.declared.event.Event.{Event}
use Rattle.ms_handle.specs.declared.handle.Handle.{Handle}
use Rattle.ms_handle.specs.Handle.{add, slice}
use Rattle.ms_segment.specs.Memory.{Memory, loaded, once_more}
use Rattle.ms_segment.specs.Calls.{Change, load_handle, store, store_handle}
use Rattle.ms_segment.specs.declared.trap.SegTrap.{SegTrap}
use Rattle.ms_relate.specs.refinement.Homes.{Home, handle, IsOf, IsScalar, Leads}
use Rattle.ms_relate.specs.refinement.Relation.{Related}
use Rattle.ms_relate.specs.refinement.Operations.{Reads, reads, stopped, ReadsPointer, reads_pointer, pointer_stopped, Changes, changes, change_stopped}
use Rattle.ms_relate.specs.refinement.Copies.{Scalars, MemberScalars, Copies, copied, copy_stopped, copy_members_on, copy_on, each_on, left, next}
use Rattle.ms_relate.proofs.Growing.{related_once_more}
use Rattle.ms_relate.proofs.Moving.{is_of_leads, moved_leads, moved_still_leads}
use Rattle.ms_relate.proofs.Reading.{no_function_scalar, read_number, read_pointer, scalar_shape}
use Rattle.ms_relate.proofs.Slicing.{elements_give, member_gives}
use Rattle.ms_relate.proofs.Writing.{write_number, write_pointer}

plain_scalar : (t : Ty) (b : Bool) → IsScalar t → is_function t ≡ b → is_function t ≡ false
plain_scalar t true is e = absurd (no_function_scalar t is e)
plain_scalar t false is e = e

module _ (table : Table) (places : Ty → ℕ → ℕ) (homes : List Home) where
  -- one behind the other
  pub copies_after : (o : Outcome (List Object)) (r : Result Memory SegTrap) (f : List Object → Outcome (List Object)) (g : Memory → Result Memory SegTrap) → Copies table places homes o r → ((objects : List Object) (m : Memory) → Related table places homes objects m → Copies table places homes (f objects) (g m)) → Copies table places homes (after o f) (next r g)
  copies_after o r f g (copied {objects} {m} related) rest = rest objects m related
  copies_after o r f g (copy_stopped ends) rest = copy_stopped ends

  changed : (o : Outcome (List Object)) (r : Result Change SegTrap) → Changes table places homes o r → Copies table places homes o (left r)
  changed o r (changes related) = copied related
  changed o r (change_stopped ends) = copy_stopped ends

  pointer_to : (t : Ty) (v : Value) → IsScalar t → Leads homes (scalar t) v → IsOf table places homes (pointer t) v
  pointer_to t v is leads =
      is_of_leads table places homes t v (plain_scalar t (is_function t) is refl) (subst (λ (s : Shape). Leads homes s v) (sym (scalar_shape table t is)) leads)

  number_copied : (objects : List Object) (m : Memory) (t : Ty) (a : Value) (o : Outcome Value) (r : Result (ℕ × Event) SegTrap) → Related table places homes objects m → IsScalar t → is_handle t ≡ false → IsOf table places homes (pointer t) a → Reads table places homes t o r → Copies table places homes (after o (λ v. write objects a v)) (next r (λ x. left (store (once_more m) (handle homes a) (width t) x.0)))
  number_copied objects m t a o r related is plain of (reads {v} value) = changed _ _ (write_number table places homes objects (once_more m) t a v (related_once_more table places homes objects m related) is plain of value)
  number_copied objects m t a o r related is plain of (stopped ends) = copy_stopped ends

  pointer_copied : (objects : List Object) (m : Memory) (t : Ty) (a : Value) (o : Outcome Value) (r : Result (Handle × Event) SegTrap) → Related table places homes objects m → IsScalar t → is_handle t ≡ true → IsOf table places homes (pointer t) a → ReadsPointer table places homes t o r → Copies table places homes (after o (λ v. write objects a v)) (next r (λ x. left (store_handle (once_more m) (handle homes a) x.0)))
  pointer_copied objects m t a o r related is has of (reads_pointer {v} value) = changed _ _ (write_pointer table places homes objects (once_more m) t a v (related_once_more table places homes objects m related) is has of value)
  pointer_copied objects m t a o r related is has of (pointer_stopped ends) = copy_stopped ends

  leaf_copies : (t : Ty) (b : Bool) (a c : Value) (objects : List Object) (m : Memory) → is_handle t ≡ b → Related table places homes objects m → IsScalar t → IsOf table places homes (pointer t) a → IsOf table places homes (pointer t) c → Copies table places homes (copy_value a c objects) (cond b (next (load_handle m (handle homes c)) (λ x. left (store_handle (once_more m) (handle homes a) x.0))) (next (loaded m (handle homes c) (width t)) (λ x. left (store (once_more m) (handle homes a) (width t) x.0))))
  leaf_copies t true a c objects m has related is of of' = pointer_copied objects m t a (read objects c) _ related is has of (read_pointer table places homes objects m t c related is has of')
  leaf_copies t false a c objects m plain related is of of' = number_copied objects m t a (read objects c) _ related is plain of (read_number table places homes objects m t c related is plain of')

  -- so many, one behind the other
  each_copies : (n i : ℕ) (f : ℕ → List Object → Outcome (List Object)) (g : ℕ → Memory → Result Memory SegTrap) (objects : List Object) (m : Memory) → ((k : ℕ) (os : List Object) (l : Memory) → Related table places homes os l → Copies table places homes (f k os) (g k l)) → Related table places homes objects m → Copies table places homes (each_from n i f objects) (each_on n i g m)
  each_copies zero i f g objects m each related = copied related
  each_copies (suc n) i f g objects m each related =
      copies_after (f i objects) (g i m) (λ os. each_from n (suc i) f os) (λ l. each_on n (suc i) g l) (each i objects m related) (λ os l more. each_copies n (suc i) f g os l each more)

  mutual
    pub copies : (s : Shape) (a c : Value) (objects : List Object) (m : Memory) → Scalars s → Fits s → Leads homes s a → Leads homes s c → Related table places homes objects m → Copies table places homes (copy s a c objects) (copy_on s (handle homes a) (handle homes c) m)
    copies (scalar t) a c objects m is fits to from related =
        leaf_copies t (is_handle t) a c objects m refl related is (pointer_to t a is to) (pointer_to t c is from)
    copies (elements s n) a c objects m is fits to from related =
        let some = size-positive s fits.1 in
        let room : 0 < n * size s = (let h : 1 * size s ≤ n * size s = mul-le-mul_right (size s) fits.0 in omega (arith, h, some)) in
        let p = elements_give table places homes objects m s n a related to room in
        let q = elements_give table places homes objects m s n c related from room in
        rw (p.1, q.1) (each_copies n 0 (λ i. copy s (moved (size s) (pos i) p.0) (moved (size s) (pos i) q.0)) (λ i. copy_on s (add (slice (handle homes a) 0 (n * size s)) (pos i) (size s)) (add (slice (handle homes c) 0 (n * size s)) (pos i) (size s))) objects m
        (λ i os l more.
        let here : handle homes (moved (size s) (pos i) p.0) ≡ add (slice (handle homes a) 0 (n * size s)) (pos i) (size s) = moved_leads table places homes s (pos i) p.0 p.2.leads some ∙ ap (λ (h : Handle). add h (pos i) (size s)) p.2.handle_is in
        let there : handle homes (moved (size s) (pos i) q.0) ≡ add (slice (handle homes c) 0 (n * size s)) (pos i) (size s) = moved_leads table places homes s (pos i) q.0 q.2.leads some ∙ ap (λ (h : Handle). add h (pos i) (size s)) q.2.handle_is in
        rw (← here, ← there) (copies s (moved (size s) (pos i) p.0) (moved (size s) (pos i) q.0) os l is fits.1 (moved_still_leads table places homes s (pos i) p.0 p.2.leads) (moved_still_leads table places homes s (pos i) q.0 q.2.leads) more))
        related)
    copies (record' k ms) a c objects m is fits to from related =
        members_copy ms k ms 0 0 a c objects m is fits.1 fits (λ j p at. rw Rattle.std.proofs.Common.add-zero at) to from related

    pub members_copy : (ms : Members) (k : ℕ) (all : Members) (number end : ℕ) (a c : Value) (objects : List Object) (m : Memory) → MemberScalars ms → FitMembers ms end k → Fits (record' k all) → ((j : ℕ) (p : Part) → nth_member ms j ≡ Some p → nth_member all (j + number) ≡ Some p) → Leads homes (record' k all) a → Leads homes (record' k all) c → Related table places homes objects m → Copies table places homes (copy_members ms number a c objects) (copy_members_on ms (handle homes a) (handle homes c) m)
    members_copy no_members k all number end a c objects m is fit fits known to from related = copied related
    members_copy (member o s ms) k all number end a c objects m is fit fits known to from related =
        let part : Part = record { offset = o; shape = s } in
        let at : part_of (record' k all) number ≡ Some part = rw Rattle.std.proofs.Common.zero-add at (known 0 part refl) in
        let some = size-positive s fit.2 in
        let within = member_fits all 0 k number part fits.1 at in
        let p = member_gives table places homes objects m (record' k all) number part a related to at some within.0 in
        let q = member_gives table places homes objects m (record' k all) number part c related from at some within.0 in
        rw (p.1, q.1, ← p.2.handle_is, ← q.2.handle_is)
        (copies_after (copy s p.0 q.0 objects) (copy_on s (handle homes p.0) (handle homes q.0) m) (λ os. copy_members ms (suc number) a c os) (λ l. copy_members_on ms (handle homes a) (handle homes c) l)
        (copies s p.0 q.0 objects m is.0 fit.2 p.2.leads q.2.leads related)
        (λ os l more. members_copy ms k all (suc number) (o + size s) a c os l is.1 fit.3 fits (λ j x here. let e : j + suc number ≡ suc j + number = omega arith in rw e (known (suc j) x here)) to from more))
