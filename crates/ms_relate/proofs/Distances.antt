-- How far apart two pointers may be, and the farthest that one may be asked to go.
use Rattle.std.proofs.Common.{◌≡◌, ◌==◌, ℕ, suc, ◌+◌, ◌*◌, ◌<◌, Bool, true, false, cond, ℤ, pos, negsuc, ◌+ℤ◌, ◌-ℤ◌, ◌*ℤ◌, ◌≤ℤ◌, int_le, List, Option, Some, refl, sym, ap, ◌∙◌, arith}
use Rattle.std.specs.Prelude.{slice_get}
use Rattle.std.proofs.lemmas.Bool.{and_parts, eqb-true}
use Rattle.std.proofs.lemmas.Int.{ints}
use Rattle.c_types.specs.Layout.{Table}
use Rattle.c_types.specs.Types.{Ty, pointer, is_function}
use Rattle.c_meaning.specs.Shapes.{Shape, shape, size}
use Rattle.c_meaning.specs.Values.{Pointer, Value, invalid, points}
use Rattle.c_meaning.specs.Objects.{Object, Outcome, Span, apart, distance, distance_in, gives, is_near, moved, moved_to, place_in, span_in, stops}
use Rattle.ms_segment.specs.Memory.{Memory}
use Rattle.ms_relate.specs.refinement.Homes.{Home, IsNear, IsOf, is_null, is_invalid, is_pointer, is_named, is_no_function, span_of}
use Rattle.ms_relate.specs.refinement.Relation.{Related}
use Rattle.ms_relate.proofs.Accesses.{negsuc-times}
use Rattle.ms_relate.proofs.Comparing.{place_is}
use Rattle.ms_relate.proofs.Moving.{times_sum}
use Rattle.ms_relate.proofs.Reading.{object_there}

le_from_test : (a b : ℤ) → int_le a b ≡ true → a ≤ℤ b
le_from_test a b e = grind (arith, ints)

-- within 2^40 either way
near_bounds : (x : ℤ) → is_near x ≡ true → (negsuc 1099511627775 ≤ℤ x) × (x ≤ℤ pos 1099511627776)
near_bounds x near =
    let parts = and_parts (int_le (negsuc 1099511627775) x) (int_le x (pos 1099511627776)) near in
    (le_from_test (negsuc 1099511627775) x parts.0, le_from_test x (pos 1099511627776) parts.1)

-- less than 2^42 either way
pub record IsShort (z : ℤ) : Type 0 where
  pub least : negsuc 4398046511103 ≤ℤ z
  pub most : z ≤ℤ pos 4398046511104

-- ---- distances

between : (a b : ℕ) (x y z : ℤ) → a < 4294967296 → b < 4294967296 → is_near x ≡ true → is_near y ≡ true → (pos a +ℤ x) -ℤ (pos b +ℤ y) ≡ z → IsShort z
between a b x y z la lb nx ny is =
    let fx = near_bounds x nx in
    let fy = near_bounds y ny in
    record { least = omega (arith, ints, la, lb, fx.0, fx.1, fy.0, fy.1, is); most = omega (arith, ints, la, lb, fx.0, fx.1, fy.0, fy.1, is) }

given_same : (y z : ℤ) → gives y ≡ gives z → y ≡ z
given_same y z e = ap (λ (o : Outcome ℤ). number_in o) e where
  number_in : Outcome ℤ → ℤ
  number_in (gives x) = x
  number_in _ = z

module _ (table : Table) (places : Ty → ℕ → ℕ) (homes : List Home) where
  far_points : (objects : List Object) (m : Memory) (p q : Pointer) (h j : Home) (s r : Span) → Related table places homes objects m → slice_get homes p.object ≡ Some h → slice_get homes q.object ≡ Some j → span_of h p.path ≡ Some s → span_of j q.path ≡ Some r → IsNear p s → IsNear q r
      → (z : ℤ) (b : Bool) → (p.object == q.object) ≡ b → cond b (distance_in (slice_get objects p.object) p q) (stops apart) ≡ gives z → IsShort z
  far_points objects m p q h j s r related at at' span span' near near' z false other is = absurd cc
  far_points objects m p q h j s r related at at' span span' near near' z true same is =
      let o = object_there table places homes objects p.object h related.long at in
      let there = place_is table places homes objects m o.0 h p s (related.each p.object o.0 h o.1 at) span in
      let far_at : slice_get homes p.object ≡ Some j = ap (slice_get homes) (eqb-true p.object q.object same) ∙ at' in
      let there' = place_is table places homes objects m o.0 j q r (related.each p.object o.0 j o.1 far_at) span' in
      let measured : distance_in (slice_get objects p.object) p q ≡ gives ((pos s.place +ℤ p.index *ℤ pos (size s.shape)) -ℤ (pos r.place +ℤ q.index *ℤ pos (size r.shape))) =
      ap (λ (x : Option Object). distance_in x p q) o.1
      ∙ ap (λ (x : Option Span). gives (place_in x p.index -ℤ place_in (span_in o.0 q.path) q.index)) there
      ∙ ap (λ (x : Option Span). gives (place_in (Some s) p.index -ℤ place_in x q.index)) there' in
      let low = near.low in
      let low' = near'.low in
      between s.place r.place (p.index *ℤ pos (size s.shape)) (q.index *ℤ pos (size r.shape)) z (omega (arith, low)) (omega (arith, low')) near.near near'.near (given_same _ z (sym measured ∙ is))

  -- the distance of two pointers is less than 2^42 bytes
  pub distance_short : (objects : List Object) (m : Memory) (t u : Ty) (v w : Value) → Related table places homes objects m → is_function t ≡ false → is_function u ≡ false → IsOf table places homes (pointer t) v → IsOf table places homes (pointer u) w
      → (z : ℤ) → distance objects v w ≡ gives z → IsShort z
  distance_short objects m t u v w related plain plain' (is_named f small) of z is = absurd (let x : true ≡ false = sym f ∙ plain in cc)
  distance_short objects m t u v w related plain plain' (is_no_function f) of z is = absurd (let x : true ≡ false = sym f ∙ plain in cc)
  distance_short objects m t u v w related plain plain' of (is_named f small) z is = absurd (let x : true ≡ false = sym f ∙ plain' in cc)
  distance_short objects m t u v w related plain plain' of (is_no_function f) z is = absurd (let x : true ≡ false = sym f ∙ plain' in cc)
  distance_short objects m t u v w related plain plain' (is_null f) (is_null g) z is = absurd cc
  distance_short objects m t u v w related plain plain' (is_null f) (is_invalid g) z is = absurd cc
  distance_short objects m t u v w related plain plain' (is_null f) (is_pointer j r g at' span' k near') z is = absurd cc
  distance_short objects m t u v w related plain plain' (is_invalid f) (is_null g) z is = absurd cc
  distance_short objects m t u v w related plain plain' (is_invalid f) (is_invalid g) z is = absurd cc
  distance_short objects m t u v w related plain plain' (is_invalid f) (is_pointer j r g at' span' k near') z is = absurd cc
  distance_short objects m t u v w related plain plain' (is_pointer {p} h s f at span k near) (is_null g) z is = absurd cc
  distance_short objects m t u v w related plain plain' (is_pointer {p} h s f at span k near) (is_invalid g) z is = absurd cc
  distance_short objects m t u v w related plain plain' (is_pointer {p} h s f at span k near) (is_pointer {p = q} j r g at' span' k' near') z is =
      far_points objects m p q h j s r related at at' span span' near near' z (p.object == q.object) refl is

-- ---- the one number of 64 bits whose negation has more, and is the number itself in 64 bits: it is too far either way

near_not : (x : ℤ) (b : Bool) → is_near x ≡ b → ((negsuc 1099511627775 ≤ℤ x) → (x ≤ℤ pos 1099511627776) → ⊥) → is_near x ≡ false
near_not x true e far = absurd (let h = near_bounds x e in far h.0 h.1)
near_not x false e far = e

far_up : (x : ℤ) (n : ℕ) → 0 < n → is_near x ≡ true → is_near (x +ℤ pos 9223372036854775808 *ℤ pos n) ≡ false
far_up x n some near =
    let h = near_bounds x near in
    near_not (x +ℤ pos (9223372036854775808 * n)) _ refl (λ least most. omega (arith, ints, some, h.0, most))

far_down : (x : ℤ) (n : ℕ) → 0 < n → is_near x ≡ true → is_near (x +ℤ negsuc 9223372036854775807 *ℤ pos n) ≡ false
far_down x n some near =
    let h = near_bounds x near in
    let j = negsuc-times 9223372036854775807 n some in
    let long : suc j.0 ≡ 9223372036854775808 * n = j.2 in
    ap (λ (y : ℤ). is_near (x +ℤ y)) j.1 ∙ near_not (x +ℤ negsuc j.0) _ refl (λ least most. omega (arith, ints, some, h.1, least, long))

far_moved : (p : Pointer) (n : ℕ) (d : ℤ) → is_near (p.index *ℤ pos n +ℤ d *ℤ pos n) ≡ false → moved_to n p (p.index +ℤ d) ≡ invalid
far_moved p n d far = ap (λ (y : ℤ). cond (is_near y) (points (record p { index = p.index +ℤ d })) invalid) (times_sum p.index d n) ∙ ap (λ (b : Bool). cond b (points (record p { index = p.index +ℤ d })) invalid) far

module _ (table : Table) (places : Ty → ℕ → ℕ) (homes : List Home) where
  pub farthest_back : (t : Ty) (v : Value) → is_function t ≡ false → 0 < size (shape table t) → IsOf table places homes (pointer t) v → moved (size (shape table t)) (negsuc 9223372036854775807) v ≡ moved (size (shape table t)) (pos 9223372036854775808) v
  farthest_back t v plain some (is_null f) = refl
  farthest_back t v plain some (is_invalid f) = refl
  farthest_back t v plain some (is_pointer {p} h s f at span same near) =
      let n = size (shape table t) in
      let there : is_near (p.index *ℤ pos n) ≡ true = ap (λ (x : Shape). is_near (p.index *ℤ pos (size x))) (sym same) ∙ near.near in
      far_moved p n (negsuc 9223372036854775807) (far_down (p.index *ℤ pos n) n some there) ∙ sym (far_moved p n (pos 9223372036854775808) (far_up (p.index *ℤ pos n) n some there))
  farthest_back t v plain some (is_named f small) = absurd (let x : true ≡ false = sym f ∙ plain in cc)
  farthest_back t v plain some (is_no_function f) = absurd (let x : true ≡ false = sym f ∙ plain in cc)
