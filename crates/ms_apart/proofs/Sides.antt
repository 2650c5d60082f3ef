-- The two sides of a linked store, by a set of instances that shares nothing with the others.
use Rattle.std.proofs.Common.{◌≡◌, ◌==◌, ℕ, zero, suc, inl, inr, Bool, true, false, cond, if◌then◌else◌, List, [], ◌∷◌, slice_get, Option, Some, None, refl, sym, ap, ◌∙◌}
use Rattle.std.proofs.lemmas.Bool.{cases_Bool, cases_eq, eq-eqb, ne_eqb}
use Rattle.ms_machine.specs.Store.{Store}
use Rattle.ms_machine.specs.declared.store.Instance.{Instance}
use Rattle.ms_tasks.specs.Joined as joined
use Rattle.ms_tasks.specs.Joined.{IsClosed}
use Rattle.ms_apart.specs.refinement.Apart.{IsSided, Sides}
use Rattle.ms_apart.proofs.Tables.{IsLinked}

true_false : true ≡ false → ⊥
true_false e = cc

-- ---- whether an instance of a set passes a test

abbrev first : (mine passes rest : Bool) → Bool
first true true rest = true
first true false rest = rest
first false passes rest = rest

first_true : (a b rest : Bool) → a ≡ true → b ≡ true → first a b rest ≡ true
first_true true true rest e f = refl
first_true true false rest e f = absurd (true_false (sym f))
first_true false true rest e f = absurd (true_false (sym e))
first_true false false rest e f = absurd (true_false (sym e))

first_rest : (a b rest : Bool) → rest ≡ true → first a b rest ≡ true
first_rest true true rest e = refl
first_rest true false rest e = e
first_rest false true rest e = e
first_rest false false rest e = e

module _ (test : Instance → Bool) where
  abbrev any_of : (ℕ → Bool) → List Instance → Bool
  any_of set [] = false
  any_of set (i ∷ is) = first (set zero) (test i) (any_of (λ k. set (suc k)) is)

  pub record Found (set : ℕ → Bool) (is : List Instance) : Type 0 where
    pub number : ℕ
    pub its : Instance
    pub stands : slice_get is number ≡ Some its
    pub mine : set number ≡ true
    pub passes : test its ≡ true

  found : (set : ℕ → Bool) (is : List Instance) (k : ℕ) (i : Instance) → slice_get is k ≡ Some i → set k ≡ true → test i ≡ true → any_of set is ≡ true
  found set [] zero i at mine passes = absurd cc
  found set [] (suc k) i at mine passes = absurd cc
  found set (j ∷ is) zero i at mine passes = let same : j ≡ i = cc in first_true (set zero) (test j) (any_of (λ k. set (suc k)) is) mine (ap test same ∙ passes)
  found set (j ∷ is) (suc k) i at mine passes = first_rest (set zero) (test j) (any_of (λ k. set (suc k)) is) (found (λ k. set (suc k)) is k i at mine passes)

  finds : (set : ℕ → Bool) (is : List Instance) → any_of set is ≡ true → Found set is
  finds set [] e = absurd cc
  finds set (i ∷ is) e = by (set zero) refl (test i) refl e (finds (λ k. set (suc k)) is) where
    later : Found (λ k. set (suc k)) is → Found set (i ∷ is)
    later x = record { number = suc x.number; its = x.its; stands = x.stands; mine = x.mine; passes = x.passes }

    by : (a : Bool) → set zero ≡ a → (b : Bool) → test i ≡ b → first a b (any_of (λ k. set (suc k)) is) ≡ true → (any_of (λ k. set (suc k)) is ≡ true → Found (λ k. set (suc k)) is) → Found set (i ∷ is)
    by true a_is true b_is f go = record { number = zero; its = i; stands = refl; mine = a_is; passes = b_is }
    by true a_is false b_is f go = later (go f)
    by false a_is true b_is f go = later (go f)
    by false a_is false b_is f go = later (go f)

  -- where all that pass are of one side with this one, it tells the side
  side_is : (set : ℕ → Bool) (is : List Instance) (n : ℕ) (i : Instance) → slice_get is n ≡ Some i → test i ≡ true → ((k : ℕ) (j : Instance) → slice_get is k ≡ Some j → test j ≡ true → set k ≡ set n) → any_of set is ≡ set n
  side_is set is n i at passes alike =
      elim (cases_Bool (set n)) [
        | inl mine ↦ found set is n i at mine passes ∙ sym mine
        | inr other ↦ elim (cases_Bool (any_of set is)) [
          | inl e ↦ absurd (let x = finds set is e in true_false (sym x.mine ∙ (alike x.number x.its x.stands x.passes ∙ other)))
          | inr e ↦ e ∙ sym other
        ]
      ]

-- ---- whether an address is named

module _ (a : ℕ) where
  abbrev is_at : Option ℕ → Bool
  is_at None = false
  is_at (Some b) = b == a

  is_there : (o : Option ℕ) → o ≡ Some a → is_at o ≡ true
  is_there o e = ap is_at e ∙ eq-eqb a a refl

  there_is : (o : Option ℕ) → is_at o ≡ true → o ≡ Some a
  there_is None e = absurd (true_false (sym e))
  there_is (Some b) e = elim (cases_eq b a) [
    | inl same ↦ ap Some same
    | inr other ↦ absurd (true_false (sym e ∙ ne_eqb b a other))
  ]

  abbrev has : List ℕ → Bool
  has [] = false
  has (b ∷ bs) = if b == a then true else has bs

  has_it : (bs : List ℕ) (x : ℕ) → slice_get bs x ≡ Some a → has bs ≡ true
  has_it [] zero e = absurd cc
  has_it [] (suc x) e = absurd cc
  has_it (b ∷ bs) zero e = let same : b ≡ a = cc in ap (λ t. cond t true (has bs)) (eq-eqb b a same)
  has_it (b ∷ bs) (suc x) e = by (b == a) (has_it bs x e) where
    by : (t : Bool) → has bs ≡ true → cond t true (has bs) ≡ true
    by true f = refl
    by false f = f

  it_has : (bs : List ℕ) → has bs ≡ true → (x : ℕ) × (slice_get bs x ≡ Some a)
  it_has [] e = absurd (true_false (sym e))
  it_has (b ∷ bs) e = elim (cases_eq b a) [
    | inl same ↦ (zero, ap Some same)
    | inr other ↦ let rest = it_has bs (sym (ap (λ t. cond t true (has bs)) (ne_eqb b a other)) ∙ e) in (suc rest.0, rest.1)
  ]

-- ---- the sides

abbrev pub sides_of : (ℕ → Bool) → Store → Sides
sides_of set s = record {
  instances = set;
  tables = λ a. any_of (λ i. is_at a i.table) set s.instances;
  memories = λ a. any_of (λ i. is_at a i.memory) set s.instances;
  globals = λ a. any_of (λ i. has a i.globals) set s.instances;
}

pub is_sided : (set : ℕ → Bool) (s : Store) → IsClosed set s → IsLinked s → IsSided (sides_of set s) s
is_sided set s closed linked =
    let tables_are : (n a : ℕ) (i : Instance) → slice_get s.instances n ≡ Some i → i.table ≡ Some a → any_of (λ i. is_at a i.table) set s.instances ≡ set n = λ n a i at is.
    side_is (λ i. is_at a i.table) set s.instances n i at (is_there a i.table is) (λ k j k_at passes. closed n k (joined.table k a i j at k_at is (there_is a j.table passes))) in
    record {
      funcs = λ n x a i f at x_at found_it. closed n f.instance (joined.func x a i f at x_at found_it);
      tables = tables_are;
      memories = λ n a i at is. side_is (λ i. is_at a i.memory) set s.instances n i at (is_there a i.memory is) (λ k j k_at passes. closed n k (joined.memory k a i j at k_at is (there_is a j.memory passes)));
      globals = λ n x a i at x_at. side_is (λ i. has a i.globals) set s.instances n i at (has_it a i.globals x x_at) (λ k j k_at passes. let y = it_has a j.globals passes in closed n k (joined.global k x y.0 a i j at k_at x_at y.1));
      entries = λ a k t e f t_at e_at found_it. let l = linked.entries a k t e t_at e_at in closed l.number f.instance (joined.func l.index e.func.address l.its f l.stands l.names found_it) ∙ sym (tables_are l.number a l.its l.stands l.has);
    }
