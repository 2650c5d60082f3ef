-- The own values of a thread are those that the code keeps from two places on.
use Rattle.std.proofs.Common.{◌≡◌, ◌≤◌, ◌+◌, ◌-◌, inl, inr, ℕ, min, Bool, true, false, cond, List, [], ◌∷◌, ◌++◌, length, take, drop, slice_get, refl, sym, ap, subst, ◌∙◌, arith, length-take}
use Rattle.std.specs.List.{Contains}
use Rattle.std.proofs.lemmas.List.{drop-append-le, take-append-drop}
use Rattle.std.proofs.lemmas.List.Elements.{Contains-append_cases, Contains-append_left, Contains-append_right}
use Rattle.ms_linear.specs.declared.value.Value.{Value}
use Rattle.ms_module.specs.declared.instr.Instr.{Instr}
use Rattle.ms_task.specs.declared.func.FuncInst.{FuncInst}
use Rattle.ms_task.specs.declared.marks.Mark.{Mark}
use Rattle.ms_task.specs.declared.marks.Mark.TheVariants as marks
use Rattle.ms_task.specs.declared.task.Task.{Task}
use Rattle.ms_task.specs.Thread.{Activation, Do, Item, Label, Thread, dos, sequence, thread}
use Rattle.ms_task.specs.refinement.View.{items_of, rest_at, thread_of}
use Rattle.ms_segment.proofs.Finds.{Contains-take}
use Rattle.ms_machine.specs.refinement.Holding.{Each, EachKept, ThreadHolds}
use Rattle.ms_machine.proofs.SafePaints.{Contains-cases, Contains-none}
use Rattle.ms_machine.specs.Crews.{by_work}
use Rattle.ms_reach.specs.Count.{lent}
use Rattle.ms_reach.specs.refinement.OwnValues.{floor_in, lent_values, lowest, task_values}
use Rattle.ms_reach.specs.Reach.{callers_locals, floor, is_in, own_values}

-- ---- by whether something is left to do

pub ended_has_none : (w : List Item) (xs : List Value) → w ≡ [] → by_work w [] xs ≡ []
ended_has_none [] xs is = refl
ended_has_none (i ∷ w) xs is = absurd (cc)

pub going_has_all : (w : List Item) (xs : List Value) → (w ≡ [] → ⊥) → by_work w [] xs ≡ xs
going_has_all [] xs is = absurd (is refl)
going_has_all (i ∷ w) xs is = refl

pub lent_has : (w : List Item) (xs : List Value) (v : Value) → Contains (by_work w [] xs) v → Contains xs v
lent_has [] xs v has = absurd (Contains-none v has)
lent_has (i ∷ w) xs v has = has

-- ---- what holds of each item of the second of two lists

module _ (P : Value → Type 0) where
  pub each_behind : (us vs : List Value) → Each P (us ++ vs) → Each P vs
  each_behind [] vs all = all
  each_behind (u ∷ us) vs all = each_behind us vs all.1

module _ (inside : ℕ → Bool) (funcs : List FuncInst) where
  floor_dos : (is : List Instr) (w : List Item) → floor inside funcs (dos is ++ w) ≡ floor inside funcs w
  floor_dos [] w = refl
  floor_dos (i ∷ is) w = floor_dos is w

  callers_dos : (is : List Instr) (w : List Item) → callers_locals inside funcs (dos is ++ w) ≡ callers_locals inside funcs w
  callers_dos [] w = refl
  callers_dos (i ∷ is) w = callers_dos is w

  pub floor_items : (f : ℕ) (below : List Value) (ms : List Mark) → floor inside funcs (items_of funcs f below ms) ≡ floor_in inside funcs ms
  floor_items f below [] = refl
  floor_items f below (marks.Label keeps height s next again ∷ ms) = floor_dos (drop next (sequence funcs f s)) (items_of funcs f below ms) ∙ floor_items f below ms
  floor_items f below (marks.Activation keeps height g s next base saved ∷ ms) =
      ap (λ n. cond (is_in inside (slice_get funcs g)) n height) (floor_dos (drop next (sequence funcs g s)) (items_of funcs g (take base below) ms) ∙ floor_items g (take base below) ms)

  lowest_le : (low : ℕ) (ms : List Mark) → lowest inside funcs low ms ≤ low
  lowest_le low [] = omega arith
  lowest_le low (marks.Label keeps height s next again ∷ ms) = lowest_le low ms
  lowest_le low (marks.Activation keeps height g s next base saved ∷ ms) = by (is_in inside (slice_get funcs g)) (lowest_le (min base low) ms) where
    by : (b : Bool) → lowest inside funcs (min base low) ms ≤ min base low → cond b (lowest inside funcs (min base low) ms) low ≤ low
    by true le = omega arith
    by false le = omega arith

  -- as the code has it
  module _ (t : Task) (ms : List Mark) (base at : ℕ) (all : List Value) (are_marks : ms ≡ t.marks) (is_base : base ≡ length t.frames.0) (are_all : all ≡ t.frames.0 ++ t.frames.1) (is_at : at ≡ lowest inside funcs base ms) where
    pub locals_from : drop at all ≡ drop (lowest inside funcs (length t.frames.0) t.marks) (t.frames.0 ++ t.frames.1)
    locals_from =
        let place = is_at ∙ (ap (λ n. lowest inside funcs n ms) is_base ∙ ap (lowest inside funcs (length t.frames.0)) are_marks) in
        ap (λ n. drop n all) place ∙ ap (drop (lowest inside funcs (length t.frames.0) t.marks)) are_all

  drop_all : (xs : List Value) → drop (length xs) xs ≡ []
  drop_all [] = refl
  drop_all (x ∷ xs) = drop_all xs

  -- from a place below the seam on
  drop_seamed : (k base : ℕ) (xs : List Value) → k ≤ min base (length xs) → drop k xs ≡ drop k (take base xs) ++ drop base xs
  drop_seamed k base xs le =
      ap (drop k) (sym (take-append-drop base xs)) ∙ drop-append-le k (take base xs) (drop base xs) (omega (arith, length-take base xs))

  -- the locals of the callers above it are those in the list from that place on
  pub callers_are : (f : ℕ) (below : List Value) (ms : List Mark) (v : Value) → Contains (callers_locals inside funcs (items_of funcs f below ms)) v → Contains (drop (lowest inside funcs (length below) ms) below) v
  callers_are f below [] v has = absurd (Contains-none v has)
  callers_are f below (marks.Label keeps height s next again ∷ ms) v has =
      callers_are f below ms v (subst (λ (xs : List Value). Contains xs v) (callers_dos (drop next (sequence funcs f s)) (items_of funcs f below ms)) has)
  callers_are f below (marks.Activation keeps height g s next base saved ∷ ms) v has = by (is_in inside (slice_get funcs g)) (callers_are g (take base below) ms v) has where
    by : (b : Bool) → (Contains (callers_locals inside funcs (items_of funcs g (take base below) ms)) v → Contains (drop (lowest inside funcs (length (take base below)) ms) (take base below)) v)
        → Contains (cond b (drop base below ++ callers_locals inside funcs (rest_at funcs g s next ++ items_of funcs g (take base below) ms)) []) v → Contains (drop (cond b (lowest inside funcs (min base (length below)) ms) (length below)) below) v
    by true later has =
        let low : ℕ = lowest inside funcs (min base (length below)) ms in
        let is = drop_seamed (lowest inside funcs (min base (length below)) ms) base below (lowest_le (min base (length below)) ms) in
        subst (λ (xs : List Value). Contains xs v) (sym is)
        (elim (Contains-append_cases (drop base below) (callers_locals inside funcs (rest_at funcs g s next ++ items_of funcs g (take base below) ms)) v has) [
          | inl here ↦ Contains-append_right (drop (lowest inside funcs (min base (length below)) ms) (take base below)) (drop base below) v here
          | inr more ↦ Contains-append_left (drop (lowest inside funcs (min base (length below)) ms) (take base below)) (drop base below) v
              (subst (λ n. Contains (drop (lowest inside funcs n ms) (take base below)) v) (length-take base below)
              (later (subst (λ (xs : List Value). Contains xs v) (callers_dos (drop next (sequence funcs g s)) (items_of funcs g (take base below) ms)) more)))
        ])
    by false later has = absurd (Contains-none v has)

  pub are_callers : (f : ℕ) (below : List Value) (ms : List Mark) (v : Value) → Contains (drop (lowest inside funcs (length below) ms) below) v → Contains (callers_locals inside funcs (items_of funcs f below ms)) v
  are_callers f below [] v has = absurd (Contains-none v (subst (λ (xs : List Value). Contains xs v) (drop_all below) has))
  are_callers f below (marks.Label keeps height s next again ∷ ms) v has =
      subst (λ (xs : List Value). Contains xs v) (sym (callers_dos (drop next (sequence funcs f s)) (items_of funcs f below ms))) (are_callers f below ms v has)
  are_callers f below (marks.Activation keeps height g s next base saved ∷ ms) v has = by (is_in inside (slice_get funcs g)) (are_callers g (take base below) ms v) has where
    by : (b : Bool) → (Contains (drop (lowest inside funcs (length (take base below)) ms) (take base below)) v → Contains (callers_locals inside funcs (items_of funcs g (take base below) ms)) v)
        → Contains (drop (cond b (lowest inside funcs (min base (length below)) ms) (length below)) below) v → Contains (cond b (drop base below ++ callers_locals inside funcs (rest_at funcs g s next ++ items_of funcs g (take base below) ms)) []) v
    by true later has =
        let is = drop_seamed (lowest inside funcs (min base (length below)) ms) base below (lowest_le (min base (length below)) ms) in
        elim (Contains-append_cases (drop (lowest inside funcs (min base (length below)) ms) (take base below)) (drop base below) v (subst (λ (xs : List Value). Contains xs v) is has)) [
          | inl lower ↦ Contains-append_right (drop base below) (callers_locals inside funcs (rest_at funcs g s next ++ items_of funcs g (take base below) ms)) v
              (subst (λ (xs : List Value). Contains xs v) (sym (callers_dos (drop next (sequence funcs g s)) (items_of funcs g (take base below) ms)))
              (later (subst (λ n. Contains (drop (lowest inside funcs n ms) (take base below)) v) (sym (length-take base below)) lower)))
          | inr here ↦ Contains-append_left (drop base below) (callers_locals inside funcs (rest_at funcs g s next ++ items_of funcs g (take base below) ms)) v here
        ]
    by false later has = absurd (Contains-none v (subst (λ (xs : List Value). Contains xs v) (drop_all below) has))

  -- ---- all own values

  module _ (t : Task) where
    floor_is : floor inside funcs (thread_of funcs t).work ≡ floor_in inside funcs t.marks
    floor_is = floor_dos (drop t.place (sequence funcs t.function t.sequence)) (items_of funcs t.function t.frames.0 t.marks) ∙ floor_items t.function t.frames.0 t.marks

    callers_is : callers_locals inside funcs (thread_of funcs t).work ≡ callers_locals inside funcs (items_of funcs t.function t.frames.0 t.marks)
    callers_is = callers_dos (drop t.place (sequence funcs t.function t.sequence)) (items_of funcs t.function t.frames.0 t.marks)

    locals_are : drop (lowest inside funcs (length t.frames.0) t.marks) (t.frames.0 ++ t.frames.1) ≡ drop (lowest inside funcs (length t.frames.0) t.marks) t.frames.0 ++ t.frames.1
    locals_are = drop-append-le (lowest inside funcs (length t.frames.0) t.marks) t.frames.0 t.frames.1 (lowest_le (length t.frames.0) t.marks)

    front : ℕ → List Value
    front n = take (length t.operands - n) t.operands

    pub own_is_task : (v : Value) → Contains (own_values inside funcs (thread_of funcs t)) v → Contains (task_values inside funcs t) v
    unfolding front
    own_is_task v has =
        let top = take (length t.operands - floor_in inside funcs t.marks) t.operands in
        let all = drop (lowest inside funcs (length t.frames.0) t.marks) (t.frames.0 ++ t.frames.1) in
        let below = drop (lowest inside funcs (length t.frames.0) t.marks) t.frames.0 in
        elim (Contains-append_cases (front (floor inside funcs (thread_of funcs t).work)) (t.frames.1 ++ callers_locals inside funcs (thread_of funcs t).work) v has) [
          | inl on_top ↦ Contains-append_left top all v (subst (λ n. Contains (front n) v) floor_is on_top)
          | inr local ↦ Contains-append_right top all v (subst (λ (xs : List Value). Contains xs v) (sym locals_are)
              (elim (Contains-append_cases t.frames.1 (callers_locals inside funcs (thread_of funcs t).work) v local) [
                | inl current ↦ Contains-append_right below t.frames.1 v current
                | inr caller ↦ Contains-append_left below t.frames.1 v (callers_are t.function t.frames.0 t.marks v (subst (λ (xs : List Value). Contains xs v) callers_is caller))
              ]))
        ]

    pub task_is_own : (v : Value) → Contains (task_values inside funcs t) v → Contains (own_values inside funcs (thread_of funcs t)) v
    unfolding front
    task_is_own v has =
        let top = take (length t.operands - floor_in inside funcs t.marks) t.operands in
        let all = drop (lowest inside funcs (length t.frames.0) t.marks) (t.frames.0 ++ t.frames.1) in
        let below = drop (lowest inside funcs (length t.frames.0) t.marks) t.frames.0 in
        let tops = front (floor inside funcs (thread_of funcs t).work) in
        let callers = callers_locals inside funcs (thread_of funcs t).work in
        elim (Contains-append_cases top all v has) [
          | inl on_top ↦ Contains-append_left tops (t.frames.1 ++ callers) v (subst (λ n. Contains (front n) v) (sym floor_is) on_top)
          | inr local ↦ Contains-append_right tops (t.frames.1 ++ callers) v
              (elim (Contains-append_cases below t.frames.1 v (subst (λ (xs : List Value). Contains xs v) locals_are local)) [
                | inl caller ↦ Contains-append_right t.frames.1 callers v (subst (λ (xs : List Value). Contains xs v) (sym callers_is) (are_callers t.function t.frames.0 t.marks v caller))
                | inr current ↦ Contains-append_left t.frames.1 callers v current
              ])
        ]

  -- ---- those of a thread that may have ended

  module _ (t : Thread) (xs : List Value) (v : Value) where
    lent_to : (w : List Item) → (Contains (own_values inside funcs (thread t.frame t.operands w)) v → Contains xs v)
        → Contains (own_values inside funcs (lent (thread t.frame t.operands w))) v → Contains (by_work w [] xs) v
    lent_to [] h has = has
    lent_to (i ∷ w) h has = h has

    to_lent : (w : List Item) → (Contains xs v → Contains (own_values inside funcs (thread t.frame t.operands w)) v)
        → Contains (by_work w [] xs) v → Contains (own_values inside funcs (lent (thread t.frame t.operands w))) v
    to_lent [] h has = has
    to_lent (i ∷ w) h has = h has

  pub own_is_lent : (t : Task) (v : Value) → Contains (own_values inside funcs (lent (thread_of funcs t))) v → Contains (lent_values inside funcs t) v
  own_is_lent t v has = lent_to (thread_of funcs t) (task_values inside funcs t) v (thread_of funcs t).work (own_is_task t v) has

  pub lent_is_own : (t : Task) (v : Value) → Contains (lent_values inside funcs t) v → Contains (own_values inside funcs (lent (thread_of funcs t))) v
  lent_is_own t v has = to_lent (thread_of funcs t) (task_values inside funcs t) v (thread_of funcs t).work (task_is_own t v) has

  -- ---- what holds of all values of a thread holds of its own ones

  module _ (P : Value → Type 0) where
    pub each_has : (vs : List Value) (v : Value) → Each P vs → Contains vs v → P v
    each_has [] v all has = absurd (Contains-none v has)
    each_has (u ∷ vs) v all has = elim (Contains-cases u vs v has) [ inl same ↦ subst P same all.0 | inr later ↦ each_has vs v all.1 later ]

    kept_has : (w : List Item) (v : Value) → EachKept P w → Contains (callers_locals inside funcs w) v → P v
    kept_has [] v all has = absurd (Contains-none v has)
    kept_has (Do i ∷ w) v all has = kept_has w v all has
    kept_has (Label k h g ∷ w) v all has = kept_has w v all has
    kept_has (Activation k h caller ∷ w) v all has = by (is_in inside (slice_get funcs caller.function)) (kept_has w v all.1) has where
      by : (b : Bool) → (Contains (callers_locals inside funcs w) v → P v) → Contains (cond b (caller.locals ++ callers_locals inside funcs w) []) v → P v
      by true rest there = elim (Contains-append_cases caller.locals (callers_locals inside funcs w) v there) [ inl here ↦ each_has caller.locals v all.0 here | inr more ↦ rest more ]
      by false rest there = absurd (Contains-none v there)

    pub own_has : (t : Thread) (v : Value) → ThreadHolds P t → Contains (own_values inside funcs t) v → P v
    own_has t v holds has =
        let n = length t.operands - floor inside funcs t.work in
        elim (Contains-append_cases (take n t.operands) (t.frame.locals ++ callers_locals inside funcs t.work) v has) [
          | inl top ↦ each_has t.operands v holds.operands (Contains-take n t.operands v top)
          | inr local ↦ elim (Contains-append_cases t.frame.locals (callers_locals inside funcs t.work) v local) [
            | inl current ↦ each_has t.frame.locals v holds.locals current
            | inr caller ↦ kept_has t.work v holds.kept caller
          ]
        ]
