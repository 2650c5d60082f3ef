-- A new object: its segment's bytes 0 are the zeros of its shape, and all other objects are as before.
use Rattle.std.proofs.Common.{◌≡◌, ℕ, suc, zero, ◌+◌, ◌-◌, ◌*◌, ◌%◌, ◌<◌, ◌≤◌, inl, inr, Bool, true, false, cond, ℤ, pos, ◌*ℤ◌, List, [], ◌∷◌, ◌++◌, Option, Some, None, length, replicate, get_or, take, refl, sym, ap, ◌∙◌, subst, arith, length-append}
use Rattle.std.specs.Prelude.{nat_lt, slice_get}
use Rattle.std.specs.List.{All}
use Rattle.std.proofs.lemmas.List.{drop-replicate, length-replicate, take-replicate}
use Rattle.std.proofs.lemmas.List.Elements.{All-push, All-weaker}
use Rattle.std.proofs.lemmas.Option.{slice_get_within}
use Rattle.c_types.specs.Layout.{Table}
use Rattle.c_types.specs.Types.{Ty, void, integer, struct, pointer, array, function, is_function}
use Rattle.c_types.specs.declared.integers.IntType.{IntType}
use Rattle.c_types.specs.declared.integers.IntType.TheVariants.{Char, SignedChar, UnsignedChar, Short, UnsignedShort, Int, UnsignedInt, Long, UnsignedLong, LongLong, UnsignedLongLong}
use Rattle.c_meaning.specs.Shapes.{Shape, size, width}
use Rattle.c_meaning.specs.Values.{null, no_function, points, zero_value}
use Rattle.c_meaning.specs.Objects.{Kind, Object, new_object, whole_of}
use Rattle.ms_relate.specs.refinement.Laid.{Fits, is_handle}
use Rattle.ms_relate.proofs.Laid.{are_weaker, handle_width, span_zeros}
use Rattle.ms_handle.specs.declared.handle.Handle.TheVariants as handles
use Rattle.ms_live.specs.declared.gaps.Live.{Live}
use Rattle.ms_live.specs.Place.{IsPlace}
use Rattle.ms_tagged.specs.Bytes.{Byte, Data, data_of, overwritten, range, zeros}
use Rattle.ms_tagged.proofs.Ranges.{length-overwritten, range-overwritten_inside}
use Rattle.ms_segment.specs.Memory.{AreApart, IsWithin, Memory, Placed, live_of}
use Rattle.ms_segment.specs.Parts.{entered}
use Rattle.ms_segment.specs.Calls.{make, made_at, place_of}
use Rattle.ms_event.specs.Monitor.{most_live}
use Rattle.ms_segment.proofs.Places.{IsPlace-place_of}
use Rattle.std.proofs.lemmas.List.Quantifiers.{all_pairs_push}
use Rattle.ms_segment.proofs.Standing.{live_is, made_range, new_live, old_live}
use Rattle.ms_segment.proofs.Placing.{place-within}
use Rattle.ms_relate.specs.refinement.Homes.{Home, handle, IsIn, IsOf, is_number, is_null, is_no_function, Leads, leads_to, word}
use Rattle.ms_relate.specs.refinement.Relation.{ArePieces, cleared, IsAt, IsThere, Related, Spell, StandsAt, gone, kind_of, lives}
use Rattle.ms_relate.specs.refinement.Operations.{Creates, created, refused}
use Rattle.ms_relate.proofs.Growing.{Extends, push_cases, slice_get-push_new, slice_get-push_old, stands_grown}
use Rattle.ms_relate.proofs.Leaves.{stands_still}
use Rattle.ms_relate.proofs.Near.{first_near}

-- ---- one more object

abbrev one_more : List Object → Kind → Shape → ℕ → List Object
one_more objects k s n = objects ++ new_object k s n ∷ []

-- ---- zeros

zero_in : (t : IntType) → IsIn t (pos 0)
zero_in Char = refl
zero_in SignedChar = refl
zero_in UnsignedChar = refl
zero_in Short = refl
zero_in UnsignedShort = refl
zero_in Int = refl
zero_in UnsignedInt = refl
zero_in Long = refl
zero_in UnsignedLong = refl
zero_in LongLong = refl
zero_in UnsignedLongLong = refl

zero_word : (t : IntType) (places : Ty → ℕ → ℕ) → word places (integer t) (zero_value (integer t)) ≡ 0
zero_word Char places = refl
zero_word SignedChar places = refl
zero_word UnsignedChar places = refl
zero_word Short places = refl
zero_word UnsignedShort places = refl
zero_word Int places = refl
zero_word UnsignedInt places = refl
zero_word Long places = refl
zero_word UnsignedLong places = refl
zero_word LongLong places = refl
zero_word UnsignedLongLong places = refl

zero_data : (w : ℕ) → data_of w 0 ≡ replicate w (Data 0)
zero_data zero = refl
zero_data (suc w) = ap (λ bs. Data 0 ∷ bs) (zero_data w)

module _ (table : Table) (places : Ty → ℕ → ℕ) (homes : List Home) where
  null_is_of : (t : Ty) (b : Bool) → is_function t ≡ b → IsOf table places homes (pointer t) (cond b no_function null)
  null_is_of t true f = is_no_function f
  null_is_of t false f = is_null f

  pub zero_is_of : (t : Ty) → 0 < width t → IsOf table places homes t (zero_value t)
  zero_is_of (integer t) some = is_number (zero_in t)
  zero_is_of (pointer t) some = null_is_of t (is_function t) refl
  zero_is_of void some = absurd (omega (arith, some))
  zero_is_of (struct n) some = absurd (omega (arith, some))
  zero_is_of (array t n) some = absurd (omega (arith, some))
  zero_is_of (function r ps) some = absurd (omega (arith, some))

  null_word : (t : Ty) (b : Bool) → word places (pointer t) (cond b no_function null) ≡ 0
  null_word t true = refl
  null_word t false = refl

  null_pieces : (bytes : List Byte) (b : Bool) → bytes ≡ zeros → ArePieces bytes (handle homes (cond b no_function null))
  null_pieces bytes true are = cleared are
  null_pieces bytes false are = cleared are

  -- bytes 0 are zero
  pub zero_spelled : (t : Ty) → 0 < width t → Spell table places homes t (zero_value t) (replicate (width t) (Data 0))
  zero_spelled (integer t) some = record { data' = λ e. sym (zero_data (width (integer t))) ∙ ap (data_of (width (integer t))) (sym (zero_word t places)); pieces' = λ e. absurd (cc) }
  zero_spelled (pointer t) some =
      record {
        data' = λ e. sym (zero_data (width (pointer t))) ∙ ap (data_of (width (pointer t))) (sym (null_word t (is_function t)));
        pieces' = λ has. null_pieces (replicate (width (pointer t)) (Data 0)) (is_function t) (ap (λ n. replicate n (Data 0)) (handle_width (pointer t) has));
      }
  zero_spelled void some = absurd (omega (arith, some))
  zero_spelled (struct n) some = absurd (omega (arith, some))
  zero_spelled (array t n) some = absurd (omega (arith, some))
  zero_spelled (function r ps) some = absurd (omega (arith, some))

-- a part of bytes 0 that were written
cleared_range : (at w base n : ℕ) (old : List Byte) → base ≤ at → at + w ≤ base + n → base + n ≤ length old → range at w (overwritten base (replicate n (Data 0)) old) ≡ replicate w (Data 0)
cleared_range at w base n old low high within =
    range-overwritten_inside at w base (replicate n (Data 0)) old low (rw (length-replicate n (Data 0)) high) (omega arith) ∙ (ap (take w) (drop-replicate (at - base) n (Data 0)) ∙ take-replicate w (n - (at - base)) (Data 0) (omega arith))

-- ---- the new segment

zero_times : (w : ℕ) → pos 0 ≡ pos 0 *ℤ pos w
zero_times w = ap (λ (x : ℕ). pos x) (omega arith)

module _ (table : Table) (places : Ty → ℕ → ℕ) (homes : List Home) (objects : List Object) (m : Memory) (k : Kind) (s : Shape) (n base : ℕ) (related : Related table places homes objects m) (fits : Fits s) (placed : IsPlace m.live (length m.bytes) (n * size s) (Some base)) where
  abbrev home : Home
  home = record { id = m.made + 1; shape = s; count = n }

  abbrev grown : List Home
  grown = homes ++ home ∷ []

  abbrev now : Memory
  now = entered m base (n * size s) (kind_of k)

  grows : Extends homes grown
  grows i h at = slice_get-push_old homes home i h at

  old_there : (u : Object) (j : Home) (l : Option Live) → Fits j.shape → live_of m j.id ≡ l → IsThere table places homes m.bytes u j l → IsThere table places grown now.bytes u j l
  old_there u j None fits' live (gone dead) = gone dead
  old_there u j (Some g) fits' live (lives alive kind long many laid) =
      let is = live_is m j.id g live in
      lives alive kind long many (are_weaker (λ place. StandsAt table places homes m.bytes (g.base + place)) (λ place. StandsAt table places grown now.bytes (g.base + place)) 0 (j.count * size j.shape)
      (λ b t v low high stands. stands_still table places grown t v m.bytes now.bytes (g.base + b) (made_range m.live (n * size s) base g (g.base + b) (width t) m.bytes placed is.0 (omega arith) (omega (arith, high, long))) (stands_grown table places homes grown grows t v m.bytes (g.base + b) stands))
      u.trees j.shape 0 fits' (omega arith) (rw many (omega arith)) laid)

  old_at : (i : ℕ) (u : Object) (j : Home) → slice_get objects i ≡ Some u → slice_get homes i ≡ Some j → IsAt table places grown now u j
  old_at i u j at at' =
      let here = related.each i u j at at' in
      let known = related.made i j at' in
      let live : live_of now j.id ≡ live_of m j.id = old_live m (n * size s) base (kind_of k) j.id (λ e. omega (arith, e, known.1)) in
      record { shape = here.shape; count = here.count; fits = here.fits; state = rw live (old_there u j (live_of m j.id) here.fits refl here.state) }

  abbrev segment : Live
  segment = record { id = m.made + 1; base = base; size = n * size s; kind = kind_of k }

  new_stands : (b : ℕ) (t : Ty) → 0 ≤ b → b + width t ≤ n * size s → 0 < width t → (is_handle t ≡ true → b % 16 ≡ 0) → StandsAt table places grown now.bytes (base + b) t (zero_value t)
  new_stands b t low high some aligned =
      let bytes : range (base + b) (width t) now.bytes ≡ replicate (width t) (Data 0) = cleared_range (base + b) (width t) base (n * size s) m.bytes (omega arith) (omega (arith, high)) (place-within m.live (length m.bytes) (n * size s) base placed) in
      let multiple : base % 16 ≡ 0 = placed.0 in
      record {
        is_of = zero_is_of table places grown t some;
        aligned = λ has. omega (arith, multiple, aligned has);
        spelled = rw bytes (zero_spelled table places grown t some);
      }

  new_at : IsAt table places grown now (new_object k s n) home
  new_at =
      let zero' = span_zeros (λ place. StandsAt table places grown now.bytes (base + place)) 0 (n * size s) new_stands (whole_of s n) fits (omega arith) (omega arith) refl in
      let there : IsThere table places grown now.bytes (new_object k s n) home (Some segment) = lives refl refl refl zero'.0 zero'.1 in
      record { shape = refl; count = refl; fits = fits; state = rw (new_live m (n * size s) base (kind_of k) related.placed) there }

  each_made : (i : ℕ) (u : Object) (j : Home) → slice_get (one_more objects k s n) i ≡ Some u → slice_get grown i ≡ Some j → IsAt table places grown now u j
  each_made i u j at at' =
      elim (push_cases objects (new_object k s n) i u at) [
        | inl old ↦ elim (push_cases homes home i j at') [
          | inl old' ↦ old_at i u j old old'
          | inr new' ↦ absurd (omega (arith, slice_get_within objects i u old, new'.0, related.long))
        ]
        | inr new ↦ elim (push_cases homes home i j at') [
          | inl old' ↦ absurd (omega (arith, slice_get_within homes i j old', new.0, related.long))
          | inr new' ↦ subst (λ (x : Object). IsAt table places grown now x j) new.1 (subst (λ (x : Home). IsAt table places grown now (new_object k s n) x) new'.1 new_at)
        ]
      ]

  rising_made : (i j : ℕ) (g h : Home) → i < j → slice_get grown i ≡ Some g → slice_get grown j ≡ Some h → g.id < h.id
  rising_made i j g h less at at' =
      elim (push_cases homes home i g at) [
        | inl old ↦ elim (push_cases homes home j h at') [
          | inl old' ↦ related.rising i j g h less old old'
          | inr new' ↦ let is : m.made + 1 ≡ h.id = ap (λ (x : Home). x.id) new'.1 in omega (arith, is, (related.made i g old).1)
        ]
        | inr new ↦ elim (push_cases homes home j h at') [
          | inl old' ↦ absurd (omega (arith, slice_get_within homes j h old', new.0, less))
          | inr new' ↦ absurd (omega (arith, new.0, new'.0, less))
        ]
      ]

  made_made : (i : ℕ) (h : Home) → slice_get grown i ≡ Some h → (1 ≤ h.id) × (h.id ≤ m.made + 1)
  made_made i h at =
      elim (push_cases homes home i h at) [
        | inl old ↦ let known = related.made i h old in (known.0, omega (arith, known.1))
        | inr new ↦ let is : m.made + 1 ≡ h.id = ap (λ (x : Home). x.id) new.1 in (omega (arith, is), omega (arith, is))
      ]

  now_placed : Placed now
  now_placed =
      let old = related.placed in
      let inside : base + n * size s ≤ length m.bytes = place-within m.live (length m.bytes) (n * size s) base placed in
      let same : length now.bytes ≡ length m.bytes = length-overwritten base (replicate (n * size s) (Data 0)) m.bytes (omega (arith, inside, length-replicate (n * size s) (Data 0))) in
      record {
        within = subst (λ x. All (IsWithin x) now.live) (sym same) (All-push (IsWithin (length m.bytes)) m.live segment old.within (inside, placed.0));
        apart = all_pairs_push AreApart m.live segment old.apart (λ i d below address from to from' to'. let place : base + (address - base) ≡ address = omega arith in let out = (placed.1 (address - base) (omega arith)).1 i d below in let beyond : (get_or m.live i d).base + (get_or m.live i d).size ≤ base + (address - base) = out (omega arith) in omega (arith, beyond));
        ids = All-push (λ (x : Live). (1 ≤ x.id) × (x.id ≤ m.made + 1)) m.live segment (All-weaker (λ (x : Live). (1 ≤ x.id) × (x.id ≤ m.made)) (λ (x : Live). (1 ≤ x.id) × (x.id ≤ m.made + 1)) (λ x id. (id.0, omega (arith, id.1))) m.live old.ids) (omega arith, omega arith);
      }

  pub related_made : Related table places grown (one_more objects k s n) now
  related_made =
      record {
        long = length-append homes (home ∷ []) ∙ (ap (λ x. x + 1) related.long ∙ sym (length-append objects (new_object k s n ∷ [])));
        each = each_made;
        rising = rising_made;
        made = made_made;
        placed = now_placed;
      }

  new_handle : handles.Good false (m.made + 1) 0 (n * size s) (pos 0) ≡ handle grown (points (record { object = length objects; path = []; index = pos 0; sealed = false }))
  new_handle =
      let there : slice_get grown (length objects) ≡ Some home = rw (← related.long) (slice_get-push_new homes home) in
      rw there (ap (λ (i : ℤ). handles.Good false (m.made + 1) 0 (n * size s) i) (zero_times (size s)))

-- the new pointer leads to the new object
pub new_leads : (homes : List Home) (id : ℕ) (s : Shape) (n i : ℕ) → i ≡ length homes → n * size s < 4294967296 → size s < 4294967296 → Leads (homes ++ record { id = id; shape = s; count = n } ∷ []) s (points (record { object = i; path = []; index = pos 0; sealed = false }))
new_leads homes id s n i is low small = leads_to (record { id = id; shape = s; count = n }) (whole_of s n) (rw is (slice_get-push_new homes (record { id = id; shape = s; count = n }))) refl refl (first_near i [] false (whole_of s n) (omega (arith, low)) small)

made_at_creates : (table : Table) (places : Ty → ℕ → ℕ) (homes : List Home) (objects : List Object) (m : Memory) (k : Kind) (s : Shape) (n : ℕ) (o : Option ℕ) → Related table places homes objects m → Fits s → ((base : ℕ) → o ≡ Some base → IsPlace m.live (length m.bytes) (n * size s) (Some base)) → Creates table places homes objects m k s n (n * size s) (made_at m (n * size s) (kind_of k) o).handle (made_at m (n * size s) (kind_of k) o).event (made_at m (n * size s) (kind_of k) o).memory
made_at_creates table places homes objects m k s n None related fits placed = refused
made_at_creates table places homes objects m k s n (Some base) related fits placed =
    created (related_made table places homes objects m k s n base related fits (placed base refl)) (new_handle table places homes objects m k s n base related fits (placed base refl))

place_found : (m : Memory) (size base : ℕ) (b : Bool) → cond b (place_of m.live (length m.bytes) size) None ≡ Some base → IsPlace m.live (length m.bytes) size (Some base)
place_found m size base true is = subst (IsPlace m.live (length m.bytes) size) is (IsPlace-place_of m.live (length m.bytes) size)
place_found m size base false is = absurd (cc)

pub creates : (table : Table) (places : Ty → ℕ → ℕ) (homes : List Home) (objects : List Object) (m : Memory) (k : Kind) (s : Shape) (n : ℕ) → Related table places homes objects m → Fits s → Creates table places homes objects m k s n (n * size s) (make m (n * size s) (kind_of k)).handle (make m (n * size s) (kind_of k)).event (make m (n * size s) (kind_of k)).memory
creates table places homes objects m k s n related fits =
    made_at_creates table places homes objects m k s n _ related fits (λ base is. place_found m (n * size s) base (nat_lt (length m.live) most_live) is)
