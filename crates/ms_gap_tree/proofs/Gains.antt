-- A tree with a slot more than another. What stands in the nodes on the way to it may have changed.
use Rattle.std.proofs.Common.{◌≡◌, ◌≢◌, ℕ, ◌+◌, ◌<◌, Bool, true, false, nat_eq, refl, arith, ap, sym, ◌∙◌, ◌||◌, inl, inr}
use Rattle.ms_gap_tree.specs.refinement.Tree.{Tree, Empty, Fork, has, size, IsApart, IsWithinArena}
use Rattle.ms_gap_tree.specs.declared.node.Item.{Item}
use Rattle.ms_gap_tree.proofs.Inserted.{contrary}
use Rattle.ms_gap_tree.proofs.Levels.{differ_test, or_false, or_joined, or_left, or_right, other_slot, same_test, test_differ}
use Rattle.ms_gap_tree.proofs.LowestLaw.{bool_cases, test_eq}

pub data Gains (slot : ℕ) : Tree → Tree → Type 0 where
  Last : (x : Item) → Gains slot Empty (Fork slot x Empty Empty)
  Left : (i : ℕ) (x y : Item) (l m r : Tree) → Gains slot l m → Gains slot (Fork i x l r) (Fork i y m r)
  Right : (i : ℕ) (x y : Item) (l r m : Tree) → Gains slot r m → Gains slot (Fork i x l r) (Fork i y l m)

-- ---- the slots

on_left : (e s a b : Bool) → (e || ((s || a) || b)) ≡ (s || (e || (a || b)))
on_left true true a b = refl
on_left true false a b = refl
on_left false true a b = refl
on_left false false a b = refl

on_right : (e s a b : Bool) → (e || (a || (s || b))) ≡ (s || (e || (a || b)))
on_right true true a b = refl
on_right true false a b = refl
on_right false true true b = refl
on_right false true false b = refl
on_right false false a b = refl

has_gains : (slot : ℕ) (a b : Tree) → Gains slot a b → (j : ℕ) → has j b ≡ (nat_eq j slot || has j a)
has_gains slot a b (Last x) j = refl
has_gains slot a b (Left i x y l m r g) j = ap (λ (t : Bool). nat_eq j i || (t || has j r)) (has_gains slot l m g j) ∙ on_left (nat_eq j i) (nat_eq j slot) (has j l) (has j r)
has_gains slot a b (Right i x y l r m g) j = ap (λ (t : Bool). nat_eq j i || (has j l || t)) (has_gains slot r m g j) ∙ on_right (nat_eq j i) (nat_eq j slot) (has j l) (has j r)

pub gained : (slot : ℕ) (a b : Tree) → Gains slot a b → has slot b ≡ true
gained slot a b g = has_gains slot a b g slot ∙ or_left (nat_eq slot slot) (has slot a) (same_test slot)

kept : (slot : ℕ) (a b : Tree) → Gains slot a b → (j : ℕ) → has j a ≡ true → has j b ≡ true
kept slot a b g j h = has_gains slot a b g j ∙ or_right (nat_eq j slot) (has j a) h

pub absent_gains : (slot : ℕ) (a b : Tree) → Gains slot a b → (j : ℕ) → has j a ≡ false → j ≢ slot → has j b ≡ false
absent_gains slot a b g j h n = has_gains slot a b g j ∙ or_joined (nat_eq j slot) (has j a) (differ_test j slot n) h

pub absent_loses : (slot : ℕ) (a b : Tree) → Gains slot a b → (j : ℕ) → has j b ≡ false → has j a ≡ false
absent_loses slot a b g j h = (or_false (nat_eq j slot) (has j a) (sym (has_gains slot a b g j) ∙ h)).1

pub size_gains : (slot : ℕ) (a b : Tree) → Gains slot a b → size b ≡ 1 + size a
size_gains slot a b (Last x) = refl
size_gains slot a b (Left i x y l m r g) = let e = size_gains slot l m g in omega (arith, e)
size_gains slot a b (Right i x y l r m g) = let e = size_gains slot r m g in omega (arith, e)

-- ---- within the arena

pub within_gains : (slot : ℕ) (a b : Tree) → Gains slot a b → (n : ℕ) → slot < n → IsWithinArena n a → IsWithinArena n b
within_gains slot a b (Last x) n h w = (h, tt, tt)
within_gains slot a b (Left i x y l m r g) n h w = (w.0, within_gains slot l m g n h w.1, w.2)
within_gains slot a b (Right i x y l r m g) n h w = (w.0, w.1, within_gains slot r m g n h w.2)

pub within_loses : (slot : ℕ) (a b : Tree) → Gains slot a b → (n : ℕ) → IsWithinArena n b → IsWithinArena n a
within_loses slot a b (Last x) n w = tt
within_loses slot a b (Left i x y l m r g) n w = (w.0, within_loses slot l m g n w.1, w.2)
within_loses slot a b (Right i x y l r m g) n w = (w.0, w.1, within_loses slot r m g n w.2)

-- ---- each slot once

pub apart_gains : (slot : ℕ) (a b : Tree) → Gains slot a b → has slot a ≡ false → IsApart a → IsApart b
apart_gains slot a b (Last x) h p = (refl, refl, λ j q. refl, tt, tt)
apart_gains slot a b (Left i x y l m r g) h p =
    let o = other_slot slot i x l r h in
    let ne = test_differ slot i o.0 in (
      absent_gains slot l m g i p.0 (λ e. ne (sym e)),
      p.1,
      λ j q. elim (bool_cases (nat_eq j slot)) [
        | inl e ↦ ap (λ (k : ℕ). has k r) (test_eq j slot e) ∙ o.2
        | inr f ↦ p.2 j (sym (has_gains slot l m g j ∙ ap (λ (t : Bool). t || has j l) f) ∙ q)
      ],
      apart_gains slot l m g o.1 p.3,
      p.4,
    )
apart_gains slot a b (Right i x y l r m g) h p =
    let o = other_slot slot i x l r h in
    let ne = test_differ slot i o.0 in (
      p.0,
      absent_gains slot r m g i p.1 (λ e. ne (sym e)),
      λ j q. absent_gains slot r m g j (p.2 j q) (λ e. let z = sym q ∙ (ap (λ (k : ℕ). has k l) e ∙ o.1) in absurd (cc)),
      p.3,
      apart_gains slot r m g o.2 p.4,
    )

apart_from : (i j : ℕ) (t : Tree) → has i t ≡ false → has j t ≡ true → nat_eq j i ≡ false
apart_from i j t h k = differ_test j i (λ e. let q = sym k ∙ (ap (λ (m : ℕ). has m t) e ∙ h) in absurd (cc))

pub apart_loses : (slot : ℕ) (a b : Tree) → Gains slot a b → IsApart b → (has slot a ≡ false) × IsApart a
apart_loses slot a b (Last x) p = (refl, tt)
apart_loses slot a b (Left i x y l m r g) p =
    let less = apart_loses slot l m g p.3 in
    let there = gained slot l m g in (
      or_joined _ _ (apart_from i slot m p.0 there) (or_joined _ _ less.0 (p.2 slot there)),
      (absent_loses slot l m g i p.0, p.1, λ j q. p.2 j (kept slot l m g j q), less.1, p.4),
    )
apart_loses slot a b (Right i x y l r m g) p =
    let less = apart_loses slot r m g p.4 in
    let there = gained slot r m g in (
      or_joined _ _ (apart_from i slot m p.1 there) (or_joined _ _ (contrary (has slot l) (has slot m) (p.2 slot) there) less.0),
      (p.0, absent_loses slot r m g i p.1, λ j q. absent_loses slot r m g j (p.2 j q), p.3, less.1),
    )
