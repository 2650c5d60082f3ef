-- Where live segments stand: no two share an address, so what is written in one, or for a new one, leaves all others.
use Rattle.std.proofs.Common.{◌≡◌, ◌==◌, ℕ, zero, suc, ◌+◌, ◌-◌, ◌%◌, ◌<◌, ◌≤◌, ◌⊎◌, inl, inr, List, [], Some, length, get_or, replicate, take, refl, sym, ap, ◌∙◌, subst, arith, add-zero}
use Rattle.std.specs.List.{AllPairs, Contains}
use Rattle.std.proofs.lemmas.Bool.{cases_lt, cases_order, eq-eqb, eqb-true, ne_eqb}
use Rattle.std.proofs.lemmas.List.{append-nil, get_or_default, length-replicate, take-append-drop}
use Rattle.std.proofs.lemmas.List.Elements.{All-contains}
use Rattle.ms_handle.specs.declared.handle.Kind.{Kind}
use Rattle.ms_live.proofs.Found.{find-Some}
use Rattle.ms_live.specs.declared.gaps.Live.{Live}
use Rattle.ms_live.specs.Place.{IsFree, IsOutside, IsPlace}
use Rattle.ms_tagged.specs.Bytes.{Byte, Data, overwritten, range}
use Rattle.ms_tagged.proofs.Ranges.{range-overwritten_apart}
use Rattle.ms_segment.specs.Memory.{AreApart, IsWithin, Memory, Placed, live_of}
use Rattle.ms_segment.specs.Parts.{entered}
use Rattle.ms_segment.proofs.Finds.{find-none, find-push_new, find-push_other}
use Rattle.ms_segment.proofs.Placing.{place-within}

-- ---- one live segment

pub live_is : (m : Memory) (id : ℕ) (s : Live) → live_of m id ≡ Some s → Contains m.live s × (s.id ≡ id)
live_is m id s found =
    let is = find-Some (λ (t : Live). t.id == id) m.live s found in (is.0, eqb-true s.id id is.1)

-- it lies within the bytes, at a multiple of sixteen
pub live_inside : (m : Memory) (id : ℕ) (s : Live) → Placed m → live_of m id ≡ Some s → s.base + s.size ≤ length m.bytes
live_inside m id s placed found = (All-contains (IsWithin (length m.bytes)) m.live s placed.within (live_is m id s found).0).0

pub live_aligned : (m : Memory) (id : ℕ) (s : Live) → Placed m → live_of m id ≡ Some s → s.base % 16 ≡ 0
live_aligned m id s placed found = (All-contains (IsWithin (length m.bytes)) m.live s placed.within (live_is m id s found).0).1

-- ---- two

-- what holds of each pair in a list, in order, holds of two different elements in one order
either_order : {X : Type 0} (R : X → X → Type 0) (xs : List X) (x y : X) → AllPairs R xs → Contains xs x → Contains xs y → (x ≡ y → ⊥) → R x y ⊎ R y x
either_order R xs x y pairs hx hy other =
    elim (cases_order hx.0 hy.0) [
      | inl same ↦ absurd (other (sym hx.2 ∙ (get_or_default xs hx.0 x y hx.1 ∙ (ap (λ k. get_or xs k y) same ∙ hy.2))))
      | inr apart ↦ elim apart [
        | inl less ↦ inl (subst (λ z. R z y) (get_or_default xs hx.0 y x hx.1 ∙ hx.2) (subst (R (get_or xs hx.0 y)) hy.2 (pairs hx.0 hy.0 y less hy.1)))
        | inr more ↦ inr (subst (R y) hx.2 (subst (λ z. R z (get_or xs hx.0 x)) (get_or_default xs hy.0 x y hy.1 ∙ hy.2) (pairs hy.0 hx.0 x more hx.1)))
      ]
    ]

-- ranges in two segments
pub record RangesApart (s t : Live) : Type 0 where
  pub ranges : (x w y n : ℕ) → s.base ≤ x → x + w ≤ s.base + s.size → t.base ≤ y → y + n ≤ t.base + t.size → 0 < w → 0 < n → (x + w ≤ y) ⊎ (y + n ≤ x)

ranges_apart : (s t : Live) → AreApart s t → RangesApart s t
ranges_apart s t apart =
    record {
      ranges = λ x w y n low high low' high' some some'.
          elim (cases_lt y (x + w)) [
            | inr behind ↦ inl behind
            | inl before ↦ elim (cases_lt x (y + n)) [
              | inr behind ↦ inr behind
              | inl meets ↦ absurd (elim (cases_lt x y) [ inl less ↦ apart y (omega arith) (omega arith) (omega arith) (omega arith) | inr more ↦ apart x (omega arith) (omega arith) (omega arith) (omega arith) ])
            ]
          ];
    }

-- the segments of two identities
pub segments_apart : (m : Memory) (i j : ℕ) (s t : Live) → Placed m → live_of m i ≡ Some s → live_of m j ≡ Some t → (i ≡ j → ⊥) → RangesApart s t
segments_apart m i j s t placed found found' other =
    let is = live_is m i s found in
    let is' = live_is m j t found' in
    elim (either_order AreApart m.live s t placed.apart is.0 is'.0 (λ e. other (sym is.1 ∙ (ap (λ (x : Live). x.id) e ∙ is'.1)))) [
      | inl one ↦ ranges_apart s t one
      | inr two ↦ ranges_apart s t (λ a l h l' h'. two a l' h' l h)
    ]

-- ---- a new one

-- a range in a live segment is apart from a free one
free_apart : (live : List Live) (capacity n base : ℕ) (g : Live) (x w : ℕ) → IsFree live capacity n base → Contains live g → g.base ≤ x → x + w ≤ g.base + g.size → 0 < w → 0 < n → (x + w ≤ base) ⊎ (base + n ≤ x)
free_apart live capacity n base g x w free has low high some some' =
    elim (cases_lt base (x + w)) [
      | inr behind ↦ inl behind
      | inl before ↦ elim (cases_lt x (base + n)) [
        | inr behind ↦ inr behind
        | inl meets ↦ absurd (elim (cases_lt x base) [
          | inl less ↦ let out = All-contains (IsOutside (base + 0)) live g (free 0 (omega arith)).1 has in let past : g.base + g.size ≤ base + 0 = out (omega arith) in omega (arith, past)
          | inr more ↦ let place : base + (x - base) ≡ x = omega arith in let out = All-contains (IsOutside (base + (x - base))) live g (free (x - base) (omega arith)).1 has in let past : g.base + g.size ≤ base + (x - base) = out (omega arith) in omega (arith, past, place)
        ])
      ]
    ]

pub nothing_written : (base : ℕ) (old : List Byte) → overwritten base [] old ≡ old
nothing_written base old = rw (add-zero, append-nil (take base old)) (take-append-drop base old)

-- what stood in a live segment stands there still
pub made_range : (live : List Live) (n base : ℕ) (g : Live) (x w : ℕ) (old : List Byte) → IsPlace live (length old) n (Some base) → Contains live g → g.base ≤ x → x + w ≤ g.base + g.size → range x w (overwritten base (replicate n (Data 0)) old) ≡ range x w old
made_range live n base g x zero old placed has low high = refl
made_range live zero base g x (suc w) old placed has low high = ap (range x (suc w)) (nothing_written base old)
made_range live (suc n) base g x (suc w) old placed has low high =
    range-overwritten_apart x (suc w) base (replicate (suc n) (Data 0)) old (rw (length-replicate (suc n) (Data 0)) (free_apart live (length old) (suc n) base g x (suc w) placed.1 has low high (omega arith) (omega arith))) (omega (arith, place-within live (length old) (suc n) base placed))

-- the new one is live, and all others are as before
pub new_live : (m : Memory) (size base : ℕ) (kind : Kind) → Placed m → live_of (entered m base size kind) (m.made + 1) ≡ Some (record { id = m.made + 1; base = base; size = size; kind = kind })
new_live m size base kind placed =
    find-push_new (λ (x : Live). x.id == m.made + 1) m.live _ (find-none (λ (x : Live). x.id == m.made + 1) m.live (λ x has. let known = All-contains (λ (y : Live). (1 ≤ y.id) × (y.id ≤ m.made)) m.live x placed.ids has in ne_eqb x.id (m.made + 1) (λ e. omega (arith, e, known.1)))) (eq-eqb (m.made + 1) (m.made + 1) refl)

pub old_live : (m : Memory) (size base : ℕ) (kind : Kind) (i : ℕ) → (i ≡ m.made + 1 → ⊥) → live_of (entered m base size kind) i ≡ live_of m i
old_live m size base kind i other = find-push_other (λ (x : Live). x.id == i) m.live _ (ne_eqb (m.made + 1) i (λ e. other (sym e)))
