-- Tasks that are alone in their part: they are apart, and the others are joined with another one.
use Rattle.std.proofs.Common.{◌≡◌, ◌<◌, ◌≤◌, ◌+◌, ℕ, zero, suc, Bool, true, false, cond, eqb, List, [], ◌∷◌, drop, length, map, replicate, slice_get, slice_index, slice_set, Option, Some, None, option_and_then, option_map, IfSome, ◌^◌, refl, sym, ap, subst, ◌∙◌, arith, inl, inr, ◌⊎◌, eq-eqb}
use Rattle.std.proofs.lemmas.Bool.{cases_eq, eqb-true, false_from_ne_true, ltb-false, ltb-true, true≢false}
use Rattle.std.proofs.lemmas.List.{length-map}
use Rattle.ms_machine.specs.Store.{Store}
use Rattle.ms_machine.specs.Typing.{StoreTyped, outline_of}
use Rattle.ms_task.specs.declared.func.FuncInst.{FuncInst}
use Rattle.ms_tasks.specs.Joined.{AreApart, IsApart, IsJoined, instance_of}
use Rattle.ms_tasks.specs.refinement.Parting.{AreCounts, AreParts, AreWhole, counted, is_alone, is_few, part_at, tasks_in}
use Rattle.ms_tasks.proofs.Noting.{definer_below, get_there}

-- ---- lists

get_mapped : {A B : Type 0} (f : A → B) (xs : List A) (k : ℕ) (y : B) → slice_get (map f xs) k ≡ Some y → (x : A) × (slice_get xs k ≡ Some x) × (f x ≡ y)
get_mapped f [] k y found = absurd cc
get_mapped f (x ∷ xs) zero y found = (x, refl, cc)
get_mapped f (x ∷ xs) (suc k) y found = get_mapped f xs k y found

pub map_at : {A B : Type 0} (f : A → B) (xs : List A) (k : ℕ) (x : A) (y : B) → slice_get xs k ≡ Some x → f x ≡ y → slice_get (map f xs) k ≡ Some y
map_at f [] k x y found is = absurd cc
map_at f (z ∷ xs) zero x y found is = let e : z ≡ x = cc in ap Some (ap f e ∙ is)
map_at f (z ∷ xs) (suc k) x y found is = map_at f xs k x y found is

drop_get : (xs : List (Option ℕ)) (i : ℕ) (x : Option ℕ) → slice_get xs i ≡ Some x → drop i xs ≡ x ∷ drop (i + 1) xs
drop_get xs i x found = by xs i found ∙ ap (λ k. x ∷ drop k xs) (let e : suc i ≡ i + 1 = omega arith in e) where
  by : (ys : List (Option ℕ)) (k : ℕ) → slice_get ys k ≡ Some x → drop k ys ≡ x ∷ drop (suc k) ys
  by [] k is = absurd cc
  by (y ∷ ys) zero is = let e : y ≡ x = cc in ap (λ z. z ∷ ys) e
  by (y ∷ ys) (suc k) is = by ys k is

-- ---- how many tasks a part has

tasks_head : (ps : List (Option ℕ)) (p : ℕ) → tasks_in (Some p ∷ ps) p ≡ suc (tasks_in ps p)
tasks_head ps p = ap (λ b. cond b (suc (tasks_in ps p)) (tasks_in ps p)) (eq-eqb p p refl)

tasks_other : (ps : List (Option ℕ)) (q p : ℕ) → (q ≡ p → ⊥) → tasks_in (Some q ∷ ps) p ≡ tasks_in ps p
tasks_other ps q p differs = ap (λ b. cond b (suc (tasks_in ps p)) (tasks_in ps p)) (false_from_ne_true (eqb q p) (λ e. differs (eqb-true q p e)))

tasks_tail : (o : Option ℕ) (ps : List (Option ℕ)) (p : ℕ) → tasks_in ps p ≤ tasks_in (o ∷ ps) p
tasks_tail None ps p = omega arith
tasks_tail (Some q) ps p =
    elim (cases_eq q p) [
      | inl same ↦ let e = tasks_head ps p in let e' : tasks_in (Some q ∷ ps) p ≡ suc (tasks_in ps p) = ap (λ x. tasks_in (Some x ∷ ps) p) same ∙ e in omega (arith, e')
      | inr differs ↦ let e = tasks_other ps q p differs in omega (arith, e)
    ]

pub tasks_within : (ps : List (Option ℕ)) (p : ℕ) → tasks_in ps p ≤ length ps
tasks_within [] p = omega arith
tasks_within (None ∷ ps) p = let h = tasks_within ps p in omega (arith, h)
tasks_within (Some q ∷ ps) p =
    let h = tasks_within ps p in
    elim (cases_eq q p) [
      | inl same ↦ let e : tasks_in (Some q ∷ ps) p ≡ suc (tasks_in ps p) = ap (λ x. tasks_in (Some x ∷ ps) p) same ∙ tasks_head ps p in omega (arith, e, h)
      | inr differs ↦ let e = tasks_other ps q p differs in omega (arith, e, h)
    ]

has_one : (ps : List (Option ℕ)) (p k : ℕ) → slice_get ps k ≡ Some (Some p) → 0 < tasks_in ps p
has_one [] p k found = absurd cc
has_one (o ∷ ps) p zero found = let is : o ≡ Some p = cc in let e : tasks_in (o ∷ ps) p ≡ suc (tasks_in ps p) = ap (λ x. tasks_in (x ∷ ps) p) is ∙ tasks_head ps p in omega (arith, e)
has_one (o ∷ ps) p (suc k) found = let h = has_one ps p k found in let t = tasks_tail o ps p in omega (arith, h, t)

one_there : (ps : List (Option ℕ)) (p : ℕ) → 0 < tasks_in ps p → (k : ℕ) × (slice_get ps k ≡ Some (Some p))
one_there [] p some = absurd (omega (arith, some))
one_there (None ∷ ps) p some = let h = one_there ps p some in (suc h.0, h.1)
one_there (Some q ∷ ps) p some =
    elim (cases_eq q p) [
      | inl same ↦ (zero, ap (λ x. Some (Some x)) same)
      | inr differs ↦ let e = tasks_other ps q p differs in let h = one_there ps p (omega (arith, e, some)) in (suc h.0, h.1)
    ]

-- beside the one at a place
another : (ps : List (Option ℕ)) (p n : ℕ) → 1 < tasks_in ps p → (k : ℕ) × (k ≡ n → ⊥) × (slice_get ps k ≡ Some (Some p))
another [] p n some = absurd (omega (arith, some))
another (None ∷ ps) p zero some = let h = one_there ps p (omega (arith, some)) in (suc h.0, λ e. absurd (omega (arith, e)), h.1)
another (None ∷ ps) p (suc n) some = let h = another ps p n some in (suc h.0, λ e. h.1 (omega (arith, e)), h.2)
another (Some q ∷ ps) p zero some =
    let h = one_there ps p (elim (cases_eq q p) [
      | inl same ↦ let e : tasks_in (Some q ∷ ps) p ≡ suc (tasks_in ps p) = ap (λ x. tasks_in (Some x ∷ ps) p) same ∙ tasks_head ps p in omega (arith, e, some)
      | inr differs ↦ let e = tasks_other ps q p differs in omega (arith, e, some)
    ]) in
    (suc h.0, λ e. absurd (omega (arith, e)), h.1)
another (Some q ∷ ps) p (suc n) some =
    elim (cases_eq q p) [
      | inl same ↦ (zero, λ e. absurd (omega (arith, e)), ap (λ x. Some (Some x)) same)
      | inr differs ↦ let e = tasks_other ps q p differs in let h = another ps p n (omega (arith, e, some)) in (suc h.0, λ e'. h.1 (omega (arith, e')), h.2)
    ]

only_one : (ps : List (Option ℕ)) (p n k : ℕ) → tasks_in ps p < 2 → slice_get ps n ≡ Some (Some p) → slice_get ps k ≡ Some (Some p) → k ≡ n
only_one [] p n k few here there = absurd cc
only_one (o ∷ ps) p zero zero few here there = refl
only_one (o ∷ ps) p zero (suc k) few here there =
    let is : o ≡ Some p = cc in
    let e : tasks_in (o ∷ ps) p ≡ suc (tasks_in ps p) = ap (λ x. tasks_in (x ∷ ps) p) is ∙ tasks_head ps p in
    let h = has_one ps p k there in
    absurd (omega (arith, e, h, few))
only_one (o ∷ ps) p (suc n) zero few here there =
    let is : o ≡ Some p = cc in
    let e : tasks_in (o ∷ ps) p ≡ suc (tasks_in ps p) = ap (λ x. tasks_in (x ∷ ps) p) is ∙ tasks_head ps p in
    let h = has_one ps p n here in
    absurd (omega (arith, e, h, few))
only_one (o ∷ ps) p (suc n) (suc k) few here there = let t = tasks_tail o ps p in ap suc (only_one ps p n k (omega (arith, t, few)) here there)

-- ---- counting them

-- each count and the tasks that are still to be counted are all
abbrev pub Counting : List (Option ℕ) → (i : ℕ) → (counts : List ℕ) → Type 0
Counting ps i counts = (p c : ℕ) → slice_get counts p ≡ Some c → c + tasks_in (drop i ps) p ≡ tasks_in ps p

get_zeros : (n p c : ℕ) → slice_get (replicate n 0) p ≡ Some c → c ≡ 0
get_zeros zero p c found = absurd cc
get_zeros (suc n) zero c found = cc
get_zeros (suc n) (suc p) c found = get_zeros n p c found

pub counting_none : (ps : List (Option ℕ)) (n : ℕ) (counts : List ℕ) → counts ≡ replicate n 0 → Counting ps 0 counts
counting_none ps n counts is = λ p c found. let e = get_zeros n p c (ap (λ xs. slice_get xs p) (sym is) ∙ found) in omega (arith, e)

pub counting_past : (ps : List (Option ℕ)) (i : ℕ) (counts : List ℕ) → slice_get ps i ≡ Some None → Counting ps i counts → Counting ps (i + 1) counts
counting_past ps i counts is counting = λ p c found. ap (λ xs. c + tasks_in xs p) (sym (drop_get ps i None is)) ∙ counting p c found

get_set : (xs : List ℕ) (q x p c : ℕ) → slice_get (slice_set xs q x) p ≡ Some c → ((q ≡ p) × (x ≡ c) × (p < length xs)) ⊎ ((q ≡ p → ⊥) × (slice_get xs p ≡ Some c))
get_set [] q x p c found = absurd cc
get_set (y ∷ ys) zero x zero c found = inl (refl, cc, omega arith)
get_set (y ∷ ys) zero x (suc p) c found = inr (λ e. absurd (omega (arith, e)), found)
get_set (y ∷ ys) (suc q) x zero c found = inr (λ e. absurd (omega (arith, e)), found)
get_set (y ∷ ys) (suc q) x (suc p) c found =
    elim (get_set ys q x p c found) [
      | inl here ↦ let lt = here.2 in inl (ap suc here.0, here.1, omega (arith, lt))
      | inr other ↦ inr (λ e. other.0 (omega (arith, e)), other.1)
    ]

get_index : (xs : List ℕ) (k : ℕ) → k < length xs → slice_get xs k ≡ Some (slice_index xs k)
get_index [] k low = absurd (omega (arith, low))
get_index (x ∷ xs) zero low = refl
get_index (x ∷ xs) (suc k) low = get_index xs k (omega (arith, low))

pub counting_one : (ps : List (Option ℕ)) (i q : ℕ) (counts : List ℕ) → slice_get ps i ≡ Some (Some q) → Counting ps i counts → Counting ps (i + 1) (slice_set counts q (slice_index counts q + 1))
counting_one ps i q counts is counting = λ p c found.
    elim (get_set counts q (slice_index counts q + 1) p c found) [
      | inl here ↦
          let same = here.0 in
          let value = here.1 in
          let before = counting p (slice_index counts p) (get_index counts p here.2) in
          let e : tasks_in (drop i ps) p ≡ suc (tasks_in (drop (i + 1) ps) p) = ap (λ xs. tasks_in xs p) (drop_get ps i (Some q) is) ∙ (ap (λ x. tasks_in (Some x ∷ drop (i + 1) ps) p) same ∙ tasks_head (drop (i + 1) ps) p) in
          let v : slice_index counts p + 1 ≡ c = ap (λ x. slice_index counts x + 1) (sym same) ∙ value in
          omega (arith, e, v, before)
      | inr other ↦
          let before = counting p c other.1 in
          let e : tasks_in (drop i ps) p ≡ tasks_in (drop (i + 1) ps) p = ap (λ xs. tasks_in xs p) (drop_get ps i (Some q) is) ∙ tasks_other (drop (i + 1) ps) q p other.0 in
          omega (arith, e, before)
    ]

pub counting_more : (ps : List (Option ℕ)) (i : ℕ) (o : Option ℕ) (counts : List ℕ) → slice_get ps i ≡ Some o → Counting ps i counts → Counting ps (i + 1) (counted o counts)
counting_more ps i None counts is counting = counting_past ps i counts is counting
counting_more ps i (Some q) counts is counting = counting_one ps i q counts is counting

pub counting_low : (ps : List (Option ℕ)) (i p : ℕ) (counts : List ℕ) → p < length counts → Counting ps i counts → slice_index counts p ≤ length ps
counting_low ps i p counts low counting =
    let e = counting p (slice_index counts p) (get_index counts p low) in
    let h = tasks_within ps p in
    omega (arith, e, h)

pub counting_all : (ps : List (Option ℕ)) (i : ℕ) (counts : List ℕ) → length ps ≤ i → Counting ps i counts → AreCounts ps counts
counting_all ps i counts all counting = λ p c found.
    let e = counting p c found in
    let none : tasks_in (drop i ps) p ≡ 0 = ap (λ xs. tasks_in xs p) (past ps i all) in
    omega (arith, e, none) where
      past : (xs : List (Option ℕ)) (k : ℕ) → length xs ≤ k → drop k xs ≡ []
      past [] zero low = refl
      past [] (suc k) low = refl
      past (x ∷ xs) zero low = absurd (omega (arith, low))
      past (x ∷ xs) (suc k) low = past xs k (omega (arith, low))

-- ---- the part of a task

module _ (s : Store) (parts : List ℕ) where
  part_in : (o : Option FuncInst) (p : ℕ) → option_and_then (λ (f : FuncInst). slice_get parts f.instance) o ≡ Some p → (f : FuncInst) × (o ≡ Some f) × (slice_get parts f.instance ≡ Some p)
  part_in None p is = absurd cc
  part_in (Some f) p is = (f, refl, is)

  pub part_below : (a p : ℕ) → AreParts s parts → part_at s parts a ≡ Some p → p < length s.instances
  part_below a p are is = let h = part_in (slice_get s.funcs a) p is in are.below h.0.instance p h.2

  -- it has a count, which is no greater than the number of tasks
  pub part_there : (a : ℕ) (o : Option ℕ) (counts : List ℕ) → AreParts s parts → part_at s parts a ≡ o → length counts ≡ length parts → IfSome o (λ p. p < length counts)
  part_there a None counts are is each = tt
  part_there a (Some p) counts are is each = let lt = part_below a p are is in let e = are.each in omega (arith, lt, e, each)

pub count_room : (ps : List (Option ℕ)) (i : ℕ) (o : Option ℕ) (counts : List ℕ) → length ps < 2 ^ 63 → IfSome o (λ p. p < length counts) → Counting ps i counts → IfSome o (λ p. slice_index counts p < 2 ^ 63)
count_room ps i None counts few low counting = tt
count_room ps i (Some p) counts few low counting = let h = counting_low ps i p counts low counting in omega (arith, few, h)

module _ (s : Store) (addresses : List ℕ) (parts : List ℕ) (typed : StoreTyped (outline_of s)) (whole : AreWhole s parts) where
  abbrev are : AreParts s parts
  are = whole.parts_are

  abbrev ps : List (Option ℕ)
  ps = map (part_at s parts) addresses

  -- what is known of a task with an instance: its address, and its part
  abbrev HasPart : (n m : ℕ) → Type 0
  HasPart n m = (a : ℕ) × (p : ℕ) × (slice_get addresses n ≡ Some a) × (slice_get parts m ≡ Some p) × (part_at s parts a ≡ Some p)

  func_of : (o : Option ℕ) (m : ℕ) → option_map (λ (f : FuncInst). f.instance) (option_and_then (slice_get s.funcs) o) ≡ Some m → (a : ℕ) × (f : FuncInst) × (o ≡ Some a) × (slice_get s.funcs a ≡ Some f) × (f.instance ≡ m)
  func_of None m is = absurd cc
  func_of (Some a) m is = by (slice_get s.funcs a) refl where
    by : (g : Option FuncInst) → slice_get s.funcs a ≡ g → (b : ℕ) × (f : FuncInst) × (Some a ≡ Some b) × (slice_get s.funcs b ≡ Some f) × (f.instance ≡ m)
    by None e = let no_one : None ≡ Some m = ap (option_map (λ (f : FuncInst). f.instance)) (sym e) ∙ is in absurd cc
    by (Some f) e = let one : Some f.instance ≡ Some m = ap (option_map (λ (g : FuncInst). g.instance)) (sym e) ∙ is in (a, f, refl, e, cc)

  has_part : (n m : ℕ) → instance_of s addresses n ≡ Some m → HasPart n m
  has_part n m is =
      let h = func_of (slice_get addresses n) m is in
      let low : m < length parts = let lt = definer_below s h.0 h.1 typed h.3 in let e = are.each in let i = h.4 in omega (arith, lt, e, i) in
      let p = get_there parts m low in
      (h.0, p.0, h.2, p.1, ap (λ o. option_and_then (λ (f : FuncInst). slice_get parts f.instance) o) h.3 ∙ (ap (λ k. slice_get parts k) h.4 ∙ p.1))

  -- the instance of a task with a part
  instance_in : (n a p : ℕ) → slice_get addresses n ≡ Some a → part_at s parts a ≡ Some p → (m : ℕ) × (instance_of s addresses n ≡ Some m) × (slice_get parts m ≡ Some p)
  instance_in n a p at is =
      let h = part_in s parts (slice_get s.funcs a) p is in (
        h.0.instance,
        ap (λ o. option_map (λ (f : FuncInst). f.instance) (option_and_then (slice_get s.funcs) o)) at ∙ ap (λ o. option_map (λ (f : FuncInst). f.instance) o) h.1,
        h.2,
      )

  -- ---- a task that is alone

  abbrev is_in : Option ℕ → ℕ → Bool
  is_in None p = false
  is_in (Some q) p = eqb q p

  apart_without : (n a : ℕ) → slice_get addresses n ≡ Some a → part_at s parts a ≡ None → IsApart s addresses n
  apart_without n a at none = record {
    set = λ m. false;
    closed = λ m k shares. refl;
    own = λ m is.
        let h = has_part n m is in
        let here = h.2 in
        let same : a ≡ h.0 = cc in
        let other = ap (part_at s parts) same ∙ h.4 in
        absurd cc;
    others = λ k m differs is. refl;
  }

  module _ (n a p : ℕ) (at : slice_get addresses n ≡ Some a) (is : part_at s parts a ≡ Some p) where
    apart_within : tasks_in ps p < 2 → IsApart s addresses n
    apart_within few = record {
      set = λ m. is_in (slice_get parts m) p;
      closed = λ m k shares. ap (λ o. is_in o p) (sym (whole.closed m k shares));
      own = λ m own.
          let h = has_part n m own in
          let here = h.2 in
          let same : a ≡ h.0 = cc in
          let other : Some p ≡ Some h.1 = sym is ∙ (ap (part_at s parts) same ∙ h.4) in
          let e : h.1 ≡ p = cc in
          ap (λ o. is_in o p) h.3 ∙ eq-eqb h.1 p e;
      others = λ k m differs theirs.
          let h = has_part k m theirs in
          false_from_ne_true (is_in (slice_get parts m) p) (λ has.
          let e : h.1 ≡ p = eqb-true h.1 p (ap (λ o. is_in o p) (sym h.3) ∙ has) in
          differs (only_one ps p n k few (map_at (part_at s parts) addresses n a (Some p) at is) (map_at (part_at s parts) addresses k h.0 (Some p) h.2 (h.4 ∙ ap Some e))));
    }

    joined_within : 1 < tasks_in ps p → IsJoined s addresses n
    joined_within some =
        let h = another ps p n some in
        let t = get_mapped (part_at s parts) addresses h.0 (Some p) h.2 in
        let mine = instance_in n a p at is in
        let yours = instance_in h.0 t.0 p t.1 t.2 in
        record {
          other = h.0;
          from = mine.0;
          to = yours.0;
          differs = h.1;
          own = mine.1;
          theirs = yours.1;
          chain = are.joined mine.0 yours.0 p mine.2 yours.2;
        }

  -- ---- all of them

  module _ (counts : List ℕ) (each : length counts ≡ length parts) (counted : AreCounts (map (part_at s parts) addresses) counts) where
    count_at : (p : ℕ) → p < length s.instances → (c : ℕ) × (slice_get counts p ≡ Some c) × (c ≡ tasks_in (map (part_at s parts) addresses) p)
    count_at p low = let e = are.each in let h = get_there counts p (omega (arith, low, e, each)) in (h.0, h.1, counted p h.0 h.1)

    apart_by : (n a : ℕ) → slice_get addresses n ≡ Some a → (o : Option ℕ) → part_at s parts a ≡ o → is_alone counts o ≡ true → IsApart s addresses n
    apart_by n a at None is true_is = apart_without n a at is
    apart_by n a at (Some p) is true_is =
        let c = count_at p (part_below s parts a p are is) in
        let few = ltb-true c.0 2 (ap is_few (sym c.1) ∙ true_is) in
        let e = c.2 in
        apart_within n a p at is (omega (arith, few, e))

    joined_by : (n a : ℕ) → slice_get addresses n ≡ Some a → (o : Option ℕ) → part_at s parts a ≡ o → is_alone counts o ≡ false → IsJoined s addresses n
    joined_by n a at None is false_is = absurd (true≢false false_is)
    joined_by n a at (Some p) is false_is =
        let c = count_at p (part_below s parts a p are is) in
        let some = ltb-false c.0 2 (ap is_few (sym c.1) ∙ false_is) in
        let e = c.2 in
        joined_within n a p at is (omega (arith, some, e))

pub are_apart : (s : Store) (addresses parts counts : List ℕ) (flags : List Bool) → StoreTyped (outline_of s) → AreWhole s parts → length counts ≡ length parts → AreCounts (map (part_at s parts) addresses) counts → flags ≡ map (λ a. is_alone counts (part_at s parts a)) addresses → AreApart s addresses flags
are_apart s addresses parts counts flags typed whole each counted are =
    let flag = λ (a : ℕ). is_alone counts (part_at s parts a) in
    subst (AreApart s addresses) (sym are) (record {
      each = length-map addresses flag;
      apart = λ n is. let h = get_mapped flag addresses n true is in apart_by s addresses parts typed whole counts each counted n h.0 h.1 (part_at s parts h.0) refl h.2;
      joined = λ n is. let h = get_mapped flag addresses n false is in joined_by s addresses parts typed whole counts each counted n h.0 h.1 (part_at s parts h.0) refl h.2;
    })
