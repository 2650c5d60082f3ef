-- Joined instances, and the parts that are put together.
use Rattle.std.proofs.Common.{◌≡◌, ◌<◌, ◌≤◌, ℕ, zero, suc, Bool, true, false, cond, eqb, List, [], ◌∷◌, length, map, slice_get, Some, option_map, drop, take, ◌++◌, ◌⊎◌, eq-eqb, append-nil, refl, sym, ap, subst, ◌∙◌, arith, inl, inr}
use Rattle.std.proofs.lemmas.Bool.{eqb-true}
use Rattle.std.proofs.lemmas.List.{drop_all, length-map, take_all}
use Rattle.std.proofs.lemmas.Option.{slice_get-map, slice_get_within}
use Rattle.ms_machine.specs.Store.{Store}
use Rattle.ms_tasks.specs.Joined.{Joined, Shares, back, itself, on}
use Rattle.ms_tasks.specs.refinement.Parting.{AreParts, KeepsTogether, PutsTogether, renumbered}

-- ---- chains

pub joined_trans : (s : Store) (n m k : ℕ) → Joined s n m → Joined s m k → Joined s n k
joined_trans s n m k first itself = first
joined_trans s n m k first (on q p rest shares) = on q p (joined_trans s n m q first rest) shares
joined_trans s n m k first (back q p rest shares) = back q p (joined_trans s n m q first rest) shares

pub joined_sym : (s : Store) (n m : ℕ) → Joined s n m → Joined s m n
joined_sym s n m itself = itself
joined_sym s n m (on q p rest shares) = joined_trans s p q n (back p q itself shares) (joined_sym s n q rest)
joined_sym s n m (back q p rest shares) = joined_trans s p q n (on p q itself shares) (joined_sym s n q rest)

pub joined_by : (s : Store) (n m : ℕ) → Shares s n m → Joined s n m
joined_by s n m shares = on n m itself shares

-- ---- at first each instance is a part of its own

pub parts_at_first : (s : Store) (parts : List ℕ) → length parts ≡ length s.instances → ((k p : ℕ) → slice_get parts k ≡ Some p → p ≡ k) → AreParts s parts
parts_at_first s parts each own = record {
  each = each;
  below = λ n p found. let e = own n p found in let lt = slice_get_within parts n p found in omega (arith, e, lt, each);
  joined = λ m n p first second. subst (λ k. Joined s m k) (sym (own m p first) ∙ own n p second) itself;
}

-- ---- two parts become one

module _ (from to : ℕ) where
  -- the number that an instance has behind it, by the one that it had
  renumber_cases : (p q : ℕ) → renumbered from to p ≡ q → ((p ≡ from) × (to ≡ q)) ⊎ (p ≡ q)
  renumber_cases p q e = by (eqb p from) refl where
    by : (b : Bool) → eqb p from ≡ b → ((p ≡ from) × (to ≡ q)) ⊎ (p ≡ q)
    by true is = inl (eqb-true p from is, sym (ap (λ t. cond t to p) is) ∙ e)
    by false is = inr (sym (ap (λ t. cond t to p) is) ∙ e)

  get_renumbered : (parts : List ℕ) (n q : ℕ) → slice_get (map (renumbered from to) parts) n ≡ Some q → (p : ℕ) × (slice_get parts n ≡ Some p) × (renumbered from to p ≡ q)
  get_renumbered [] n q e = absurd cc
  get_renumbered (p ∷ ps) zero q e = (p, refl, cc)
  get_renumbered (p ∷ ps) (suc n) q e = get_renumbered ps n q e

  renumber_keeps : (parts : List ℕ) → KeepsTogether parts (map (renumbered from to) parts)
  renumber_keeps parts m n together =
      slice_get-map (renumbered from to) parts m ∙ (ap (λ o. option_map (renumbered from to) o) together ∙ sym (slice_get-map (renumbered from to) parts n))

  renumber_same : renumbered from to from ≡ to
  renumber_same = ap (λ t. cond t to from) (eq-eqb from from refl)

  renumber_itself : renumbered from to to ≡ to
  renumber_itself = by (eqb to from) refl where
    by : (b : Bool) → eqb to from ≡ b → renumbered from to to ≡ to
    by true is = ap (λ t. cond t to to) is
    by false is = ap (λ t. cond t to to) is

  module _ (s : Store) (parts : List ℕ) (i j : ℕ) (are : AreParts s parts) (first : slice_get parts i ≡ Some to) (second : slice_get parts j ≡ Some from) (chain : Joined s i j) where
    -- each that has the number now is joined with the one whose number it is
    to_first : (n p q : ℕ) → slice_get parts n ≡ Some p → (p ≡ from) × (to ≡ q) → Joined s n i
    to_first n p q found is = joined_trans s n j i (are.joined n j from (found ∙ ap Some is.0) second) (joined_sym s i j chain)

    all_joined : (m n q : ℕ) → slice_get (map (renumbered from to) parts) m ≡ Some q → slice_get (map (renumbered from to) parts) n ≡ Some q → Joined s m n
    all_joined m n q one other =
        let a = get_renumbered parts m q one in
        let b = get_renumbered parts n q other in
        elim (renumber_cases a.0 q a.2) [
          | inl x ↦ elim (renumber_cases b.0 q b.2) [
            | inl y ↦ joined_trans s m i n (to_first m a.0 q a.1 x) (joined_sym s n i (to_first n b.0 q b.1 y))
            | inr y ↦ joined_trans s m i n (to_first m a.0 q a.1 x) (are.joined i n to first (b.1 ∙ ap Some (y ∙ sym x.1)))
          ]
          | inr x ↦ elim (renumber_cases b.0 q b.2) [
            | inl y ↦ joined_trans s m i n (are.joined m i to (a.1 ∙ ap Some (x ∙ sym y.1)) first) (joined_sym s n i (to_first n b.0 q b.1 y))
            | inr y ↦ are.joined m n q (a.1 ∙ ap Some x) (b.1 ∙ ap Some y)
          ]
        ]

    renumber_parts : AreParts s (map (renumbered from to) parts)
    renumber_parts = record {
      each = length-map parts (renumbered from to) ∙ are.each;
      below = λ n q found.
          let a = get_renumbered parts n q found in
          elim (renumber_cases a.0 q a.2) [
            | inl x ↦ subst (λ k. k < length s.instances) x.1 (are.below i to first)
            | inr x ↦ subst (λ k. k < length s.instances) x (are.below n a.0 a.1)
          ];
      joined = all_joined;
    }

pub put_same : (parts : List ℕ) (i j p : ℕ) → slice_get parts i ≡ Some p → slice_get parts j ≡ Some p → PutsTogether i j parts parts
put_same parts i j p first second = record {
  kept = λ m n together. together;
  together = first ∙ sym second;
  sound = λ s are chain. are;
}

pub put_renumbered : (parts : List ℕ) (i j to from : ℕ) → slice_get parts i ≡ Some to → slice_get parts j ≡ Some from → PutsTogether i j parts (map (renumbered from to) parts)
put_renumbered parts i j to from first second = record {
  kept = renumber_keeps from to parts;
  together =
      slice_get-map (renumbered from to) parts i
      ∙ (ap (λ o. option_map (renumbered from to) o) first
      ∙ (ap Some (renumber_itself from to ∙ sym (renumber_same from to))
      ∙ (sym (ap (λ o. option_map (renumbered from to) o) second)
      ∙ sym (slice_get-map (renumbered from to) parts j))));
  sound = λ s are chain. renumber_parts from to s parts i j are first second chain;
}

pub mapped_all : (f : ℕ → ℕ) (xs ys : List ℕ) (i : ℕ) → length xs ≤ i → ys ≡ map f (take i xs) ++ drop i xs → ys ≡ map f xs
mapped_all f xs ys i past is = is ∙ (ap (λ zs. map f zs ++ drop i xs) (take_all i xs past) ∙ (ap (λ zs. map f xs ++ zs) (drop_all i xs past) ∙ append-nil (map f xs)))
