-- What is asked of what a run records is so at each of its steps.
use Rattle.std.proofs.Common.{◌≡◌, ◌==◌, ℕ, zero, suc, inl, inr, Bool, true, false, cond, List, [], ◌∷◌, ◌++◌, All, slice_get, Option, Some, None, refl, sym, ap, ◌∙◌, subst}
use Rattle.std.proofs.lemmas.Bool.{cases_eq, eq-eqb, ne_eqb}
use Rattle.std.proofs.lemmas.List.Elements.{All-head, All-tail}
use Rattle.ms_event.specs.declared.event.Event.{Event}
use Rattle.ms_task.specs.Thread.{Item, Thread}
use Rattle.ms_machine.specs.Crews.{Crew, Input, Results, Run, Start, Task, Whose, are_ended, behind, by_work, deed, ends, is_over, marked, moved, passed, results, run_entries, takers, task_turn, turn, with_start, with_task}
use Rattle.ms_machine.specs.Moves as moves
use Rattle.ms_machine.specs.Moves.{Goes, Move, move_of, rest_of}
use Rattle.ms_apart.specs.Runs.{IsGranted, IsOwn, IsQuiet, own_of}
use Rattle.ms_apart.specs.refinement.Calm.{Calm, CalmEntry, CalmMove, CalmStart, CalmTurn, CalmWork, IsCalm, WasGranted}

-- ---- where all tasks have ended, there is no step

ended_at : (ts : List Thread) (k : ℕ) (t : Thread) (i : Item) (w : List Item) → are_ended ts ≡ true → slice_get ts k ≡ Some t → t.work ≡ i ∷ w → ⊥
ended_at [] k t i w over at is = cc
ended_at (u ∷ ts) zero t i w over at is =
    let same : u ≡ t = cc in
    let going : u.work ≡ i ∷ w = ap (λ (v : Thread). v.work) same ∙ is in
    let no : false ≡ true = sym (ap (λ x. by_work x (are_ended ts) false) going) ∙ over in
    cc
ended_at (u ∷ ts) (suc k) t i w over at is = by u.work over (λ rest. ended_at ts k t i w rest at is) where
  by : (x : List Item) → by_work x (are_ended ts) false ≡ true → (are_ended ts ≡ true → ⊥) → ⊥
  by [] rest none = none rest
  by (j ∷ x) rest none = cc

module _ (n : ℕ) where
  -- ---- what a run records, and what that of its rest does

  takes_rest : (whose : Whose) (took : Bool) (xs : List Whose) → All (IsOwn n) (takers whose took ++ xs) → All (IsOwn n) xs
  takes_rest whose true xs h = All-tail (IsOwn n) whose xs h
  takes_rest whose false xs h = h

  events_rest : (whose : Whose) (event : Option Event) (es : List (Whose × Event)) → All IsGranted (own_of n (marked whose event ++ es)) → All IsGranted (own_of n es)
  events_rest whose None es h = h
  events_rest Start (Some e) es h = h
  events_rest (Task k) (Some e) es h = by (k == n) h where
    by : (b : Bool) → All IsGranted (cond b (e ∷ own_of n es) (own_of n es)) → All IsGranted (own_of n es)
    by true g = All-tail IsGranted e (own_of n es) g
    by false g = g

  rest_quiet : (whose : Whose) (took : Bool) (put : Option ℕ) (event : Option Event) (r : Run) → IsQuiet n (behind (deed whose took put event) r).deeds → IsQuiet n r.deeds
  rest_quiet whose took put event r h = record { takes = takes_rest whose took r.deeds.takes h.takes; events = events_rest whose event r.deeds.events h.events }

  passed_quiet : (r : Run) → IsQuiet n (behind passed r).deeds → IsQuiet n r.deeds
  passed_quiet r h = record { takes = h.takes; events = h.events }

  -- ---- a step of a task

  granted : (k : ℕ) (event : Option Event) (es : List (Whose × Event)) → k ≡ n → All IsGranted (own_of n (marked (Task k) event ++ es)) → WasGranted event
  granted k None es is h = tt
  granted k (Some e) es is h = All-head IsGranted e (own_of n es) (subst (λ b. All IsGranted (cond b (e ∷ own_of n es) (own_of n es))) (eq-eqb k n is) h)

  untaken : (k : ℕ) (took : Bool) (xs : List Whose) → (k ≡ n → ⊥) → All (IsOwn n) (takers (Task k) took ++ xs) → took ≡ false
  untaken k true xs other h = absurd (other (All-head (IsOwn n) (Task k) xs h))
  untaken k false xs other h = refl

  step_calm : (k : ℕ) (took : Bool) (put : Option ℕ) (event : Option Event) (r : Run) → IsQuiet n (behind (deed (Task k) took put event) r).deeds → IsCalm (k == n) took event
  step_calm k took put event r h =
      elim (cases_eq k n) [
        | inl is ↦ subst (λ b. IsCalm b took event) (sym (eq-eqb k n is)) (granted k event r.deeds.events is h.events)
        | inr other ↦ subst (λ b. IsCalm b took event) (sym (ne_eqb k n other)) (untaken k took r.deeds.takes other h.takes)
      ]

  -- ---- an entry, where what follows is calm

  module _ (go : Crew → Input → Run) (Next : Crew → Input → Type 0) (calm : (c : Crew) (input : Input) → IsQuiet n (go c input).deeds → Next c input) where
    move_calm : (k : ℕ) (m : Move) (c : Crew) (input : Input) → IsQuiet n (moved (Task k) m c input (with_task c k) go).deeds → CalmMove n k m c input Next
    move_calm k (Goes s t took put event) c input h =
        let r = go (with_task c k s t) (rest_of took input) in (step_calm k took put event r h, calm (with_task c k s t) (rest_of took input) (rest_quiet (Task k) took put event r h))
    move_calm k (moves.Trap how) c input h = tt
    move_calm k moves.Stuck c input h = tt

    start_calm : (m : Move) (c : Crew) (ts : List Thread) (input : Input) → IsQuiet n (moved Start m c input (with_start c ts) go).deeds → CalmStart m c ts input Next
    start_calm (Goes s t took put event) c ts input h = calm (with_start c ts s t) (rest_of took input) (rest_quiet Start took put event (go (with_start c ts s t) (rest_of took input)) h)
    start_calm (moves.Trap how) c ts input h = tt
    start_calm moves.Stuck c ts input h = tt

    turn_calm : (k : ℕ) (o : Option Thread) (c : Crew) (input : Input) → IsQuiet n (task_turn o k c input go).deeds → CalmTurn n k o c input Next
    turn_calm k None c input h = calm c input (passed_quiet (go c input) h)
    turn_calm k (Some t) c input h = by t.work h where
      by : (w : List Item) → IsQuiet n (by_work w (behind passed (go c input)) (moved (Task k) (move_of c.store t input) c input (with_task c k) go)).deeds → CalmWork n k w (move_of c.store t input) c input Next
      by [] g = calm c input (passed_quiet (go c input) g)
      by (i ∷ w) g = move_calm k (move_of c.store t input) c input g

    entry_calm : (k : ℕ) (chain : List Thread) (c : Crew) (input : Input) → IsQuiet n (turn chain k c input go).deeds → CalmEntry n k chain c input Next
    entry_calm k [] c input h = turn_calm k (slice_get c.tasks k) c input h
    entry_calm k (t ∷ ts) c input h = start_calm (move_of c.store t input) c ts input h

  -- ---- all entries

  over_calm : (ks : List ℕ) (c : Crew) (input : Input) → is_over c.chain c.tasks ≡ true → Calm n ks c input
  over_calm [] c input over = tt
  over_calm (k ∷ ks) c input over = chained c.chain over (over_calm ks c input over) where
    task : (o : Option Thread) → slice_get c.tasks k ≡ o → are_ended c.tasks ≡ true → Calm n ks c input → CalmTurn n k o c input (Calm n ks)
    task None at all rest = rest
    task (Some t) at all rest = by t.work refl where
      by : (w : List Item) → t.work ≡ w → CalmWork n k w (move_of c.store t input) c input (Calm n ks)
      by [] is = rest
      by (i ∷ w) is = absurd (ended_at c.tasks k t i w all at is)

    chained : (chain : List Thread) → is_over chain c.tasks ≡ true → Calm n ks c input → CalmEntry n k chain c input (Calm n ks)
    chained [] all rest = task (slice_get c.tasks k) refl all rest
    chained (t ∷ ts) all rest = absurd (let no : false ≡ true = all in cc)

  -- Where no other task takes input in a run, and no segment is refused to the task, it is so along the steps.
  pub quiet_calm : (ks : List ℕ) (c : Crew) (input : Input) → IsQuiet n (run_entries ks c input).deeds → Calm n ks c input
  quiet_calm [] c input h = tt
  quiet_calm (k ∷ ks) c input h = by (is_over c.chain c.tasks) refl h (quiet_calm ks) where
    by : (b : Bool) → is_over c.chain c.tasks ≡ b → IsQuiet n (cond b (ends (Results (results c.tasks)) c input) (turn c.chain k c input (run_entries ks))).deeds → ((c' : Crew) (rest : Input) → IsQuiet n (run_entries ks c' rest).deeds → Calm n ks c' rest) → Calm n (k ∷ ks) c input
    by true over g rest = over_calm (k ∷ ks) c input over
    by false over g rest = entry_calm (run_entries ks) (Calm n ks) rest k c.chain c input g
