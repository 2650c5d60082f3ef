-- The way down finds the least key with the room.
use Rattle.std.proofs.Common.{◌≡◌, ℕ, zero, suc, ◌+◌, ◌<◌, ◌≤◌, min, Bool, true, false, cond, Option, Some, None, nat_eq, nat_lt, nat_le, refl, arith, sym, ◌∙◌, subst, ◌⊎◌, inl, inr}
use Rattle.std.proofs.lemmas.Bool.{cases_lt}
use Rattle.std.proofs.lemmas.Bool.Decides.{nat_tests}
use Rattle.ms_gap_tree.specs.refinement.Tree.{Tree, Empty, Fork, fits, half, least, look, lowest, HasRoom, IsBelow, IsLowest, IsInOrder}
use Rattle.ms_gap_tree.specs.declared.node.Item.{Item}
use Rattle.ms_gap_tree.proofs.Inserted.{cond_true, cond_false, lt_true, lt_false}
use Rattle.ms_gap_tree.proofs.Laws.{half_more, half_none, half_one}
use Rattle.ms_gap_tree.proofs.Levels.{look_empty, same_test}

pub bool_cases : (b : Bool) → (b ≡ true) ⊎ (b ≡ false)
bool_cases true = inl refl
bool_cases false = inr refl

pub two_halves : (d : ℕ) → half d + half d ≤ half (suc d)
two_halves zero = let x = half_one in let y = half_none in omega arith
two_halves (suc d) = let x = half_more d in omega arith

pub test_eq : (k m : ℕ) → nat_eq k m ≡ true → k ≡ m
test_eq k m h = grind (arith, nat_tests)

test_lt : (k m : ℕ) → nat_lt k m ≡ true → k < m
test_lt k m h = grind (arith, nat_tests)

test_ge : (k m : ℕ) → nat_lt k m ≡ false → m ≤ k
test_ge k m h = grind (arith, nat_tests)

pub test_le : (k m : ℕ) → nat_le k m ≡ true → k ≤ m
test_le k m h = grind (arith, nat_tests)

pub test_gt : (k m : ℕ) → nat_le k m ≡ false → m < k
test_gt k m h = grind (arith, nat_tests)

nothing : (r : ℕ) → None ≡ Some r → ⊥
nothing r h = cc

-- where a room is kept
places : (d low i : ℕ) (item : Item) (left right : Tree) (k r : ℕ) → look (suc d) low k (Fork i item left right) ≡ Some r → ((k ≡ item.key) × (item.room ≡ r)) ⊎ (((k < low + half d) × (look d low k left ≡ Some r)) ⊎ ((low + half d ≤ k) × (look d (low + half d) k right ≡ Some r)))
places d low i item left right k r h =
    elim (bool_cases (nat_eq k item.key)) [
      | inl e ↦ let q : Some item.room ≡ Some r = sym (cond_true _ _ _ e) ∙ h in inl (test_eq k item.key e, (cc))
      | inr e ↦
          let q = sym (cond_false _ _ _ e) ∙ h in
          elim (cases_lt k (low + half d)) [
            | inl l ↦ inr (inl (l, sym (cond_true _ _ _ (lt_true _ _ l)) ∙ q))
            | inr l ↦ inr (inr (l, sym (cond_false _ _ _ (lt_false _ _ l)) ∙ q))
          ]
    ]

pub heap : (d low : ℕ) (tree : Tree) (m k r : ℕ) → IsInOrder d low tree → IsBelow m tree → look d low k tree ≡ Some r → r ≤ m
heap zero low tree m k r s b h = absurd (nothing r h)
heap (suc d) low Empty m k r s b h = absurd (nothing r h)
heap (suc d) low (Fork i item left right) m k r s b h =
    elim (places d low i item left right k r h) [
      | inl p ↦ omega (arith, p.1)
      | inr p ↦ elim p [
        | inl q ↦ let x = heap d low left item.room k r s.5 s.3 q.1 in omega arith
        | inr q ↦ let x = heap d (low + half d) right item.room k r s.6 s.4 q.1 in omega arith
      ]
    ]

pub in_range : (d low : ℕ) (tree : Tree) (k r : ℕ) → IsInOrder d low tree → look d low k tree ≡ Some r → (low ≤ k) × (k < low + half d)
in_range zero low tree k r s h = absurd (nothing r h)
in_range (suc d) low Empty k r s h = absurd (nothing r h)
in_range (suc d) low (Fork i item left right) k r s h =
    let t = two_halves d in
    elim (places d low i item left right k r h) [
      | inl p ↦ (let a = s.0 in omega (arith, p.0), let b = s.1 in omega (arith, p.0))
      | inr p ↦ elim p [
        | inl q ↦ let x = in_range d low left k r s.5 q.1 in (omega arith, omega arith)
        | inr q ↦ let x = in_range d (low + half d) right k r s.6 q.1 in (omega arith, omega arith)
      ]
    ]

fits_yes : (d low n : ℕ) (tree : Tree) → IsInOrder d low tree → fits n tree ≡ true → (k : ℕ) × HasRoom d low n tree k
fits_yes d low n Empty s h = let q : false ≡ true = h in absurd (cc)
fits_yes zero low n (Fork i item left right) s h = absurd s
fits_yes (suc d) low n (Fork i item left right) s h = (item.key, (item.room, cond_true _ _ _ (same_test item.key), test_le n item.room h))

fits_no : (d low n : ℕ) (tree : Tree) → IsInOrder d low tree → fits n tree ≡ false → (k : ℕ) → HasRoom d low n tree k → ⊥
fits_no d low n Empty s h k p = nothing p.0 (sym (look_empty d low k) ∙ p.1)
fits_no d low n (Fork i item left right) s h k p = let x = heap d low (Fork i item left right) item.room k p.0 s (omega arith) p.1 in let y = test_gt n item.room h in let z = p.2 in omega arith

at_root : (d low n i : ℕ) (item : Item) (left right : Tree) → n ≤ item.room → HasRoom (suc d) low n (Fork i item left right) item.key
at_root d low n i item left right h = (item.room, cond_true _ _ _ (same_test item.key), h)

at_left : (d low n i : ℕ) (item : Item) (left right : Tree) (k : ℕ) → n ≤ item.room → IsInOrder d low left → HasRoom d low n left k → HasRoom (suc d) low n (Fork i item left right) k
at_left d low n i item left right k h s p =
    let x = in_range d low left k p.0 s p.1 in
    elim (bool_cases (nat_eq k item.key)) [
      | inl e ↦ (item.room, cond_true _ _ _ e, h)
      | inr e ↦ (p.0, cond_false _ _ _ e ∙ (cond_true _ _ _ (lt_true _ _ x.1) ∙ p.1), p.2)
    ]

at_right : (d low n i : ℕ) (item : Item) (left right : Tree) (k : ℕ) → n ≤ item.room → IsInOrder d (low + half d) right → HasRoom d (low + half d) n right k → HasRoom (suc d) low n (Fork i item left right) k
at_right d low n i item left right k h s p =
    let x = in_range d (low + half d) right k p.0 s p.1 in
    elim (bool_cases (nat_eq k item.key)) [
      | inl e ↦ (item.room, cond_true _ _ _ e, h)
      | inr e ↦ (p.0, cond_false _ _ _ e ∙ (cond_false _ _ _ (lt_false _ _ x.0) ∙ p.1), p.2)
    ]

by_left : (d low n i : ℕ) (item : Item) (left right : Tree) (o : Option ℕ) → n ≤ item.room → IsInOrder (suc d) low (Fork i item left right) → (k : ℕ) → HasRoom d low n left k → IsLowest d low n left o → IsLowest (suc d) low n (Fork i item left right) (Some (least item.key o))
by_left d low n i item left right None h s k p l = absurd (l k p)
by_left d low n i item left right (Some key) h s k p l =
    let x = in_range d low left key l.0.0 s.5 l.0.1 in (
      elim (cases_lt item.key key) [
        | inl c ↦ let e : item.key ≡ min item.key key = omega arith in subst (HasRoom (suc d) low n (Fork i item left right)) e (at_root d low n i item left right h)
        | inr c ↦ let e : key ≡ min item.key key = omega arith in subst (HasRoom (suc d) low n (Fork i item left right)) e (at_left d low n i item left right key h s.5 l.0)
      ],
      λ other b q. elim (places d low i item left right other q.0 q.1) [
        | inl w ↦ let e = w.0 in omega arith
        | inr w ↦ elim w [
          | inl u ↦ let c : other < key = omega arith in l.1 other c (q.0, u.1, q.2)
          | inr u ↦ let c = u.0 in omega arith
        ]
      ],
    )

by_right : (d low n i : ℕ) (item : Item) (left right : Tree) (o : Option ℕ) → n ≤ item.room → IsInOrder (suc d) low (Fork i item left right) → ((k : ℕ) → HasRoom d low n left k → ⊥) → IsLowest d (low + half d) n right o → IsLowest (suc d) low n (Fork i item left right) (Some (least item.key o))
by_right d low n i item left right None h s f l = (
  at_root d low n i item left right h,
  λ other b q. elim (places d low i item left right other q.0 q.1) [
    | inl w ↦ let e = w.0 in omega arith
    | inr w ↦ elim w [
      | inl u ↦ f other (q.0, u.1, q.2)
      | inr u ↦ l other (q.0, u.1, q.2)
    ]
  ],
)
by_right d low n i item left right (Some key) h s f l = (
  elim (cases_lt item.key key) [
    | inl c ↦ let e : item.key ≡ min item.key key = omega arith in subst (HasRoom (suc d) low n (Fork i item left right)) e (at_root d low n i item left right h)
    | inr c ↦ let e : key ≡ min item.key key = omega arith in subst (HasRoom (suc d) low n (Fork i item left right)) e (at_right d low n i item left right key h s.6 l.0)
  ],
  λ other b q. elim (places d low i item left right other q.0 q.1) [
    | inl w ↦ let e = w.0 in omega arith
    | inr w ↦ elim w [
      | inl u ↦ f other (q.0, u.1, q.2)
      | inr u ↦ let c : other < key = omega arith in l.1 other c (q.0, u.1, q.2)
    ]
  ],
)

-- what the way down finds is the least key with the room
pub lowest_law : (d low n : ℕ) (tree : Tree) → IsInOrder d low tree → IsLowest d low n tree (lowest n tree)
lowest_law d low n Empty s = λ k p. nothing p.0 (sym (look_empty d low k) ∙ p.1)
lowest_law zero low n (Fork i item left right) s = absurd s
lowest_law (suc d) low n (Fork i item left right) s =
    let tree = Fork i item left right in
    let way = cond (fits n left) (lowest n left) (lowest n right) in
    elim (cases_lt item.room n) [
      | inl h ↦ subst (IsLowest (suc d) low n tree) (sym (cond_true (nat_lt item.room n) None (Some (least item.key way)) (lt_true _ _ h)))
          (λ k p. let x = heap (suc d) low tree item.room k p.0 s (omega arith) p.1 in let z = p.2 in omega arith)
      | inr h ↦ subst (IsLowest (suc d) low n tree) (sym (cond_false (nat_lt item.room n) None (Some (least item.key way)) (lt_false _ _ h)))
          (elim (bool_cases (fits n left)) [
            | inl f ↦ let y = fits_yes d low n left s.5 f in subst (λ (o : Option ℕ). IsLowest (suc d) low n tree (Some (least item.key o))) (sym (cond_true (fits n left) (lowest n left) (lowest n right) f)) (by_left d low n i item left right (lowest n left) h s y.0 y.1 (lowest_law d low n left s.5))
            | inr f ↦ subst (λ (o : Option ℕ). IsLowest (suc d) low n tree (Some (least item.key o))) (sym (cond_false (fits n left) (lowest n left) (lowest n right) f)) (by_right d low n i item left right (lowest n right) h s (fits_no d low n left s.5 f) (lowest_law d (low + half d) n right s.6))
          ])
    ]
