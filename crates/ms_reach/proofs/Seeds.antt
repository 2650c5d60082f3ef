-- The first ranges are those of own values and own globals; and what is counted in the end.
use Rattle.std.proofs.Common.{◌≡◌, ◌==◌, ◌||◌, inl, inr, ℕ, ◌<◌, ◌≤◌, Bool, true, false, List, [], ◌∷◌, ◌++◌, length, Option, Some, None, slice_get, refl, sym, ap, subst, ◌∙◌, arith}
use Rattle.std.specs.List.{Contains, flat_map}
use Rattle.std.proofs.Math.ListN.{get_or}
use Rattle.std.proofs.lemmas.Bool.{eq-eqb, eqb-true}
use Rattle.std.proofs.lemmas.List.{length-replicate}
use Rattle.std.proofs.lemmas.List.Elements.{Contains-append_cases, Contains-append_left, Contains-append_right, Contains-get_or}
use Rattle.ms_linear.specs.declared.global.GlobalInst.{GlobalInst}
use Rattle.ms_linear.specs.declared.value.Value.{Value}
use Rattle.ms_live.specs.declared.gaps.Live.{Live}
use Rattle.ms_segment.specs.Memory.{Memory}
use Rattle.ms_task.specs.declared.func.FuncInst.{FuncInst}
use Rattle.ms_task.specs.declared.task.Task.{Task}
use Rattle.ms_task.specs.refinement.View.{thread_of}
use Rattle.ms_machine.specs.declared.store.Instance.{Instance}
use Rattle.ms_machine.specs.refinement.Holding.{Each, EachGlobal, Fits, StoreFits, ThreadFits}
use Rattle.ms_machine.specs.Store.{Store, global_address}
use Rattle.ms_machine.proofs.SafePaints.{Contains-cases, Contains-first, Contains-later, Contains-none}
use Rattle.ms_reach.specs.declared.leading.Range.{Range}
use Rattle.ms_reach.specs.Count.{HasByte, IsCount, is_among, lent}
use Rattle.ms_reach.specs.Reach.{IsOwnGlobal, IsReached, ValueLeadsTo, by_global, by_value}
use Rattle.ms_reach.specs.refinement.Closing.{Advances, Gathers, HasMark, IsClosing, IsKnown, IsOver, IsRange, State}
use Rattle.ms_reach.specs.refinement.Leading.{EndBelow, IsRising, IsValueInside, value_range}
use Rattle.ms_reach.specs.refinement.Marking.{IsMarked, trues}
use Rattle.ms_reach.specs.refinement.Reaching.{IsNew, MarksReached, nothing}
use Rattle.ms_reach.specs.refinement.OwnValues.{lent_values, task_values, value_at, value_if, values_if, values_of}
use Rattle.ms_reach.proofs.Closings.{closed}
use Rattle.ms_reach.proofs.Counts.{count_same, marks_count}
use Rattle.ms_reach.proofs.Gathering.{gather_is, gather_none, gather_on}
use Rattle.ms_reach.proofs.Leads.{at_place, global_get, global_implied, place_of, range_value_leads, sound_end, value_inside, value_leads_range, value_within}
use Rattle.ms_reach.proofs.Marks.{none_marked}
use Rattle.ms_reach.proofs.OwnValues.{ended_has_none, going_has_all, lent_has, lent_is_own, own_has, own_is_lent, task_is_own}
use Rattle.ms_reach.proofs.Reached.{contains_each}

-- ---- the numbers of a set

pub among_has : (set : List ℕ) (n : ℕ) → is_among set n ≡ true → Contains set n
among_has [] n is = absurd (cc)
among_has (m ∷ set) n is = by (m == n) refl (among_has set n) is where
  by : (b : Bool) → (m == n) ≡ b → (is_among set n ≡ true → Contains set n) → (b || is_among set n) ≡ true → Contains (m ∷ set) n
  by true same later h = subst (Contains (m ∷ set)) (eqb-true m n same) (Contains-first m set)
  by false other later h = Contains-later m set n (later h)

pub has_among : (set : List ℕ) (n : ℕ) → Contains set n → is_among set n ≡ true
has_among [] n has = absurd (Contains-none n has)
has_among (m ∷ set) n has =
    elim (Contains-cases m set n has) [
      | inl same ↦ ap (λ b. b || is_among set n) (eq-eqb m n same)
      | inr later ↦ by (m == n) (has_among set n later)
    ]
  where
    by : (b : Bool) → is_among set n ≡ true → (b || is_among set n) ≡ true
    by true h = refl
    by false h = h

-- ---- lists of lists

module _ {X A : Type 0} (f : X → List A) where
  pub flat_has : (xs : List X) (y : A) → Contains (flat_map f xs) y → (x : X) × Contains xs x × Contains (f x) y
  flat_has [] y has = absurd (Contains-none y has)
  flat_has (x ∷ xs) y has =
      elim (Contains-append_cases (f x) (flat_map f xs) y has) [
        | inl here ↦ (x, Contains-first x xs, here)
        | inr more ↦ let at = flat_has xs y more in (at.0, Contains-later x xs at.0 at.1, at.2)
      ]

  pub has_flat : (xs : List X) (x : X) (y : A) → Contains xs x → Contains (f x) y → Contains (flat_map f xs) y
  has_flat [] x y has there = absurd (Contains-none x has)
  has_flat (z ∷ xs) x y has there =
      elim (Contains-cases z xs x has) [
        | inl same ↦ Contains-append_left (f z) (flat_map f xs) y (subst (λ w. Contains (f w) y) (sym same) there)
        | inr later ↦ Contains-append_right (f z) (flat_map f xs) y (has_flat xs x y later there)
      ]

-- ---- own globals

module _ (s : Store) (set : List ℕ) where
  value_has : (o : Option GlobalInst) (v : Value) → Contains (value_if o) v → (g : GlobalInst) × (o ≡ Some g) × (g.value ≡ v)
  value_has None v has = absurd (Contains-none v has)
  value_has (Some g) v has = elim (Contains-cases g.value [] v has) [ inl same ↦ (g, refl, same) | inr none ↦ absurd (Contains-none v none) ]

  instance_has : (n : ℕ) (o : Option Instance) (v : Value) → slice_get s.instances n ≡ o → Contains (values_if s.globals o) v
      → (x : ℕ) × (a : ℕ) × (g : GlobalInst) × (global_address (slice_get s.instances n) x ≡ Some a) × (slice_get s.globals a ≡ Some g) × (g.value ≡ v)
  instance_has n None v is has = absurd (Contains-none v has)
  instance_has n (Some i) v is has =
      let in_it = flat_has (value_at s.globals) i.globals v has in
      let global = value_has (slice_get s.globals in_it.0) v in_it.2 in
      let at = place_of i.globals in_it.0 in_it.1 in
      (at.0, in_it.0, global.0, ap (λ o. global_address o at.0) is ∙ at.1, global.1, global.2)

  pub global_of : (v : Value) → Contains (flat_map (values_of s) set) v → (a : ℕ) × (g : GlobalInst) × IsOwnGlobal (is_among set) s a × (slice_get s.globals a ≡ Some g) × (g.value ≡ v)
  global_of v has =
      let at = flat_has (values_of s) set v has in
      let it = instance_has at.0 (slice_get s.instances at.0) v refl at.2 in
      (it.1, it.2, (at.0, it.0, has_among set at.0 at.1, it.3), it.4, it.5)

  in_instance : (x a : ℕ) (g : GlobalInst) (o : Option Instance) → global_address o x ≡ Some a → slice_get s.globals a ≡ Some g → Contains (values_if s.globals o) g.value
  in_instance x a g None address there = absurd (cc)
  in_instance x a g (Some i) address there =
      has_flat (value_at s.globals) i.globals a g.value (at_place i.globals x a address) (subst (λ o. Contains (value_if o) g.value) (sym there) (Contains-first g.value []))

  pub own_global : (a : ℕ) (g : GlobalInst) → IsOwnGlobal (is_among set) s a → slice_get s.globals a ≡ Some g → Contains (flat_map (values_of s) set) g.value
  own_global a g own there =
      has_flat (values_of s) set own.0 g.value (among_has set own.0 own.2) (in_instance own.1 a g (slice_get s.instances own.0) own.3 there)

-- ---- a task that may have ended

module _ (live : List Live) (inside : ℕ → Bool) (funcs : List FuncInst) where
  pub ended_gathers : (t : Task) (c : State) → (thread_of funcs t).work ≡ [] → Gathers live (lent_values inside funcs t) c c
  ended_gathers t c is = gather_is live [] (lent_values inside funcs t) c c (sym (ended_has_none (thread_of funcs t).work (task_values inside funcs t) is)) (gather_none live c)

  pub going_gathers : (of : List FuncInst) (t : Task) (c c' : State) → of ≡ funcs → ((thread_of funcs t).work ≡ [] → ⊥) → Gathers live (task_values inside of t) c c' → Gathers live (lent_values inside funcs t) c c'
  going_gathers of t c c' same is gathers =
      let all = ap (λ (fs : List FuncInst). task_values inside fs t) same ∙ sym (going_has_all (thread_of funcs t).work (task_values inside funcs t) is) in
      gather_is live (task_values inside of t) (lent_values inside funcs t) c c' all gathers

-- ---- the live segments as the code has them

module _ (s : Store) (live : List Live) (same : live ≡ s.segments.live) where
  pub live_rising : StoreFits s → IsRising live
  live_rising store = subst IsRising (sym same) store.segments.rising

  pub live_end : StoreFits s → EndBelow live 4294967295
  live_end store = subst (λ (l : List Live). EndBelow l 4294967295) (sym same) (sound_end s.segments store.segments)

  pub live_few : StoreFits s → length live < 4294967296
  live_few store = omega (arith, store.segments.few, ap (λ (l : List Live). length l) same)

  pub is_new : (n : ℕ) (c : State) → StoreFits s → c ≡ nothing n → EndBelow live n → ((k : ℕ) → EndBelow live k → n ≤ k) → IsNew s.segments c
  is_new n c store new covers least =
      let bytes : EndBelow s.segments.live (length s.segments.bytes) = λ k d below. (store.segments.placed.within k d below).0 in
      (n, new, subst (λ (l : List Live). EndBelow l n) same covers, least (length s.segments.bytes) (subst (λ (l : List Live). EndBelow l (length s.segments.bytes)) (sym same) bytes))

  pub globals_inside : StoreFits s → EachGlobal (IsValueInside live) s.globals
  globals_inside store =
      subst (λ (l : List Live). EachGlobal (IsValueInside l) s.globals) (sym same) (global_implied (Fits s.segments) (IsValueInside s.segments.live) (value_inside s.segments) s.globals store.globals)

-- ---- the first ranges

module _ (s : Store) (set : List ℕ) (t : Task) where
  -- they fit
  pub task_inside : StoreFits s → ThreadFits s (thread_of s.funcs t) → Each (IsValueInside s.segments.live) (task_values (is_among set) s.funcs t)
  task_inside store task =
      contains_each (IsValueInside s.segments.live) (task_values (is_among set) s.funcs t)
      (λ v has. value_inside s.segments v (own_has (is_among set) s.funcs (Fits s.segments) (thread_of s.funcs t) v task (task_is_own (is_among set) s.funcs t v has)))

  first_inside : StoreFits s → ThreadFits s (thread_of s.funcs t) → (v : Value) → Contains (lent_values (is_among set) s.funcs t ++ flat_map (values_of s) set) v → IsValueInside s.segments.live v
  first_inside store task v has =
      elim (Contains-append_cases (lent_values (is_among set) s.funcs t) (flat_map (values_of s) set) v has) [
        | inl own ↦ value_inside s.segments v (own_has (is_among set) s.funcs (Fits s.segments) (thread_of s.funcs t) v task (task_is_own (is_among set) s.funcs t v (lent_has (thread_of s.funcs t).work (task_values (is_among set) s.funcs t) v own)))
        | inr global ↦ let it = global_of s set v global in value_inside s.segments v (subst (Fits s.segments) it.4 (global_get (Fits s.segments) s.globals it.0 it.1 store.globals it.3))
      ]

  module _ (n : ℕ) (c : State) (gathers : Gathers s.segments.live (lent_values (is_among set) s.funcs t ++ flat_map (values_of s) set) (nothing n) c) where
    len : length c.marks ≡ n
    len = ap (λ (bs : List Bool). length bs) gathers.marks ∙ length-replicate n false

    led_of : (r : Range) → Contains c.todo r → (v : Value) × Contains (lent_values (is_among set) s.funcs t ++ flat_map (values_of s) set) v × (value_range s.segments.live v ≡ Some r)
    led_of r has = elim (gathers.from r has) [ inl none ↦ absurd (Contains-none r none) | inr of ↦ of ]

    pub begun_over : StoreFits s → ThreadFits s (thread_of s.funcs t) → EndBelow s.segments.live n → n ≤ length s.segments.bytes → IsOver s.segments c
    begun_over store task ends long = record {
      sound = store.segments;
      long = omega (arith, long, len);
      covers = subst (EndBelow s.segments.live) (sym len) ends;
      todo = λ k d below.
          let has = Contains-get_or c.todo k d below in
          let of = led_of (get_or c.todo k d) has in
          subst (λ m. IsRange m (get_or c.todo k d)) (sym len) (value_within s.segments of.0 (get_or c.todo k d) n ends (first_inside store task of.0 of.1) of.2);
    }

    led_by : (v : Value) (k : ℕ) → Contains (lent_values (is_among set) s.funcs t ++ flat_map (values_of s) set) v → ValueLeadsTo s.segments v k → IsKnown c 0 0 k
    led_by v k has leads = let range = value_leads_range s.segments v k leads in inr (inl (range.0, gathers.all v range.0 has range.1, range.2, range.3))

    unmarked : (k : ℕ) → IsMarked c.marks k → ⊥
    unmarked k is = none_marked n k (subst (λ (bs : List Bool). IsMarked bs k) gathers.marks is)

    reached_first : (k : ℕ) → IsKnown c 0 0 k → IsReached (is_among set) s (lent (thread_of s.funcs t)) k
    reached_first k (inl is) = absurd (unmarked k is)
    reached_first k (inr (inl led)) =
        let of = led_of led.0 led.1 in
        let leads = range_value_leads s.segments of.0 led.0 k of.2 led.2 led.3 in
        elim (Contains-append_cases (lent_values (is_among set) s.funcs t) (flat_map (values_of s) set) of.0 of.1) [
          | inl own ↦ by_value (lent_is_own (is_among set) s.funcs t of.0 own) leads
          | inr global ↦ let it = global_of s set of.0 global in by_global it.2 it.3 (subst (λ v. ValueLeadsTo s.segments v k) (sym it.4) leads)
        ]
    reached_first k (inr (inr here)) = absurd (omega (arith, here.1))

    pub begun : IsClosing (is_among set) s (lent (thread_of s.funcs t)) (IsMarked c.marks) (IsKnown c 0 0)
    begun = record {
      reached = reached_first;
      values = λ v k has leads. led_by v k (Contains-append_left (lent_values (is_among set) s.funcs t) (flat_map (values_of s) set) v (own_is_lent (is_among set) s.funcs t v has)) leads;
      globals = λ a g k own there leads. led_by g.value k (Contains-append_right (lent_values (is_among set) s.funcs t) (flat_map (values_of s) set) g.value (own_global s set a g own there)) leads;
      pieces = λ place h i k is there leads. absurd (unmarked place is);
    }

    -- ---- the end

    module _ (c' : State) (advances : Advances s.segments c 0 0 c' 0 0) (done : c'.todo ≡ []) where
      ended : IsClosing (is_among set) s (lent (thread_of s.funcs t)) (IsMarked c'.marks) (IsKnown c' 0 0)
      ended = advances.keeps (is_among set) s (lent (thread_of s.funcs t)) refl begun

      marked_all : (k : ℕ) → IsKnown c' 0 0 k → IsMarked c'.marks k
      marked_all k (inl is) = is
      marked_all k (inr (inl led)) = absurd (Contains-none led.0 (subst (λ (rs : List Range). Contains rs led.0) done led.1))
      marked_all k (inr (inr here)) = absurd (omega (arith, here.1))

      pub marked_reached : (k : ℕ) → IsMarked c'.marks k → IsReached (is_among set) s (lent (thread_of s.funcs t)) k
      marked_reached k is = ended.reached k (inl is)

      pub reached_marked : (k : ℕ) → IsReached (is_among set) s (lent (thread_of s.funcs t)) k → IsMarked c'.marks k
      reached_marked = closed (is_among set) s (lent (thread_of s.funcs t)) (IsMarked c'.marks) (IsKnown c' 0 0) ended marked_all

      marks_reached : MarksReached (is_among set) s (lent (thread_of s.funcs t)) c'.marks
      marks_reached = record { covers = advances.over.covers; marked = marked_reached; reached = reached_marked }

  -- ---- as the code has it

  module _ (live : List Live) (same : live ≡ s.segments.live) where
    pub live_covered : (marks : List Bool) → MarksReached (is_among set) s (lent (thread_of s.funcs t)) marks → EndBelow live (length marks)
    live_covered marks is = subst (λ (l : List Live). EndBelow l (length marks)) (sym same) is.covers

    pub own_inside : StoreFits s → ThreadFits s (thread_of s.funcs t) → Each (IsValueInside live) (task_values (is_among set) s.funcs t)
    own_inside store task = subst (λ (l : List Live). Each (IsValueInside l) (task_values (is_among set) s.funcs t)) (sym same) (task_inside store task)

    module _ (n : ℕ) (c0 c1 c2 : State) (new : c0 ≡ nothing n) (own : Gathers live (lent_values (is_among set) s.funcs t) c0 c1) (global : Gathers live (flat_map (values_of s) set) c1 c2) where
      gathered : Gathers s.segments.live (lent_values (is_among set) s.funcs t ++ flat_map (values_of s) set) (nothing n) c2
      gathered =
          let vs = lent_values (is_among set) s.funcs t ++ flat_map (values_of s) set in
          subst (λ (l : List Live). Gathers l vs (nothing n) c2) same
          (subst (λ (c : State). Gathers live vs c c2) new (gather_on live (lent_values (is_among set) s.funcs t) (flat_map (values_of s) set) c0 c1 c2 own global))

      pub all_over : (m : Memory) → m ≡ s.segments → StoreFits s → ThreadFits s (thread_of s.funcs t) → EndBelow s.segments.live n → n ≤ length s.segments.bytes → IsOver m c2
      all_over m here store task ends long = subst (λ (x : Memory). IsOver x c2) (sym here) (begun_over n c2 gathered store task ends long)

      pub all_marked : (m : Memory) (c' : State) → m ≡ s.segments → Advances m c2 0 0 c' 0 0 → c'.todo ≡ [] → MarksReached (is_among set) s (lent (thread_of s.funcs t)) c'.marks
      all_marked m c' here advances done = marks_reached n c2 gathered c' (subst (λ (x : Memory). Advances x c2 0 0 c' 0 0) here advances) done

  -- ---- what is counted

  pub bytes_count : (marks : List Bool) → MarksReached (is_among set) s (lent (thread_of s.funcs t)) marks → IsCount (IsReached (is_among set) s (lent (thread_of s.funcs t))) (trues marks)
  bytes_count marks is = count_same (IsMarked marks) (IsReached (is_among set) s (lent (thread_of s.funcs t))) (trues marks) is.marked is.reached (marks_count marks)

  pub segments_count : (marks : List Bool) (live : List Live) (k : ℕ) → live ≡ s.segments.live → MarksReached (is_among set) s (lent (thread_of s.funcs t)) marks → IsCount (HasMark marks live) k
      → IsCount (HasByte (IsReached (is_among set) s (lent (thread_of s.funcs t))) s.segments) k
  segments_count marks live k same is count =
      count_same (HasMark marks s.segments.live) (HasByte (IsReached (is_among set) s (lent (thread_of s.funcs t))) s.segments) k
      (λ i has. (has.0, has.1, has.2, has.3, has.4, is.marked has.1 has.5)) (λ i has. (has.0, has.1, has.2, has.3, has.4, is.reached has.1 has.5))
      (subst (λ (l : List Live). IsCount (HasMark marks l) k) same count)
