-- What each step keeps of a store and of all threads, a run by any schedule keeps.
use Rattle.std.proofs.Common.{◌≡◌, ◌≢◌, ℕ, Bool, true, false, cond, List, [], ◌∷◌, ◌++◌, slice_get, Option, Some, None, refl, sym, ap, subst, ◌∙◌, append-nil, append_assoc}
use Rattle.std.specs.List.{All}
use Rattle.std.proofs.lemmas.List.Elements.{All-cons, All-head, All-set, All-tail, All-weaker}
use Rattle.std.proofs.lemmas.Option.{get_or_from_slice_get, slice_get_within}
use Rattle.ms_event.specs.declared.event.Event.{Event}
use Rattle.ms_task.specs.Thread.{Item, Thread}
use Rattle.ms_machine.specs.Store.{Store}
use Rattle.ms_machine.specs.Crews.{Crew, Deeds, End, Input, OutOfBudget, Results, Run, Start, Stuck, Task, Trap, Whose, ahead, behind, both, by_work, deed, ends, events_of, is_over, moved, passed, results, run_entries, task_turn, turn, with_start, with_task}
use Rattle.ms_machine.specs.Moves as moves
use Rattle.ms_machine.specs.Moves.{Goes, Move, move_of, rest_of}
use Rattle.ms_machine.specs.Running.{with_event}
use Rattle.ms_tasks.proofs.Deeds.{both_events, deed_events}

-- ---- what is in front of the chain has something left to do

abbrev pub IsGoing : List Thread → Type 0
IsGoing [] = Unit {0}
IsGoing (t ∷ ts) = t.work ≢ []

pub by_work_has : {A : Type 0} (F : A → Type 0) (w : List Item) (ended going : A) → F ended → (w ≢ [] → F going) → F (by_work w ended going)
by_work_has F [] ended going e g = e
by_work_has F (i ∷ w) ended going e g = g (λ is. absurd cc)

pub ahead_going : (ts : List Thread) → IsGoing (ahead ts)
ahead_going [] = tt
ahead_going (t ∷ ts) = by_work_has IsGoing t.work (ahead ts) (t ∷ ts) (ahead_going ts) (λ going. going)

pub ahead_all : (P : Thread → Type 0) (ts : List Thread) → All P ts → All P (ahead ts)
ahead_all P [] all = all
ahead_all P (t ∷ ts) all = by_work_has (All P) t.work (ahead ts) (t ∷ ts) (ahead_all P ts (All-tail P t ts all)) (λ going. all)

pub all_get : (P : Thread → Type 0) (ts : List Thread) (k : ℕ) (t : Thread) → All P ts → slice_get ts k ≡ Some t → P t
all_get P ts k t all found = subst P (get_or_from_slice_get ts k t t found) (all k t (slice_get_within ts k t found))

pub cond_has : {A : Type 0} (F : A → Type 0) (b : Bool) (over going : A) → F over → F going → F (cond b over going)
cond_has F true over going o g = o
cond_has F false over going o g = g

-- ---- the run

module _ (S : List Event → Store → Type 0) (P : List Event → Store → Thread → Type 0) where
  abbrev pub Kept : List Event → Crew → Type 0
  Kept es c = S es c.store × All (P es c.store) c.chain × All (P es c.store) c.tasks × IsGoing c.chain

  abbrev pub StepKeeps : Type 0
  StepKeeps = (es : List Event) (s s' : Store) (t t' : Thread) (input : Input) (took : Bool) (put : Option ℕ) (event : Option Event) → S es s → P es s t → t.work ≢ [] → move_of s t input ≡ Goes s' t' took put event
      → S (es ++ with_event event []) s' × P (es ++ with_event event []) s' t' × ((u : Thread) → P es s u → P (es ++ with_event event []) s' u)

  abbrev pub NeverSticks : Type 0
  NeverSticks = (es : List Event) (s : Store) (t : Thread) (input : Input) → S es s → P es s t → t.work ≢ [] → move_of s t input ≢ moves.Stuck

  abbrev pub RunKeeps : List Event → Run → Type 0
  RunKeeps es r = Kept (es ++ events_of r.deeds) r.crew × (r.end ≢ Stuck)

  ends_keep : (es : List Event) (end : End) (c : Crew) (input : Input) → end ≢ Stuck → Kept es c → RunKeeps es (ends end c input)
  ends_keep es end c input is kept = (subst (λ x. Kept x c) (sym (append-nil es)) kept, is)

  behind_keeps : (es : List Event) (d : Deeds) (r : Run) → RunKeeps (es ++ events_of d) r → RunKeeps es (behind d r)
  behind_keeps es d r keeps =
      let e : (es ++ events_of d) ++ events_of r.deeds ≡ es ++ events_of (both d r.deeds) = append_assoc es (events_of d) (events_of r.deeds) ∙ ap (λ x. es ++ x) (sym (both_events d r.deeds)) in
      (subst (λ x. Kept x r.crew) e keeps.0, keeps.1)

  quiet_keeps : (es : List Event) (r : Run) → RunKeeps es r → RunKeeps es (behind passed r)
  quiet_keeps es r keeps = behind_keeps es passed r (subst (λ x. RunKeeps x r) (sym (append-nil es)) keeps)

  module _ (keeps : StepKeeps) (unstuck : NeverSticks) where
    -- where what follows each step keeps it
    moved_keeps : (es : List Event) (whose : Whose) (c : Crew) (t : Thread) (input : Input) (next : Store → Thread → Crew) (go : Crew → Input → Run) → Kept es c → P es c.store t → t.work ≢ []
        → ((es' : List Event) (s' : Store) (t' : Thread) → S es' s' → P es' s' t' → ((u : Thread) → P es c.store u → P es' s' u) → Kept es' (next s' t'))
        → ((es' : List Event) (c' : Crew) (input' : Input) → Kept es' c' → RunKeeps es' (go c' input'))
        → (m : Move) → move_of c.store t input ≡ m → RunKeeps es (moved whose m c input next go)
    moved_keeps es whose c t input next go kept mine going nexts goes (Goes s' t' took put event) is =
        let k = keeps es c.store s' t t' input took put event kept.0 mine going is in
        behind_keeps es (deed whose took put event) (go (next s' t') (rest_of took input))
        (subst (λ x. RunKeeps (es ++ x) (go (next s' t') (rest_of took input))) (sym (deed_events whose took put event)) (goes (es ++ with_event event []) (next s' t') (rest_of took input) (nexts (es ++ with_event event []) s' t' k.0 k.1 k.2)))
    moved_keeps es whose c t input next go kept mine going nexts goes (moves.Trap kind) is =
        quiet_keeps es (ends (Trap whose kind) c input) (ends_keep es (Trap whose kind) c input (λ e. absurd cc) kept)
    moved_keeps es whose c t input next go kept mine going nexts goes moves.Stuck is = absurd (unstuck es c.store t input kept.0 mine going is)

    task_keeps : (es : List Event) (k : ℕ) (c : Crew) (input : Input) (go : Crew → Input → Run) → Kept es c → ((es' : List Event) (c' : Crew) (input' : Input) → Kept es' c' → RunKeeps es' (go c' input'))
        → (o : Option Thread) → slice_get c.tasks k ≡ o → RunKeeps es (task_turn o k c input go)
    task_keeps es k c input go kept goes None is = quiet_keeps es (go c input) (goes es c input kept)
    task_keeps es k c input go kept goes (Some t) is =
        let mine = all_get (P es c.store) c.tasks k t kept.2 is in
        by_work_has (RunKeeps es) t.work (behind passed (go c input)) (moved (Task k) (move_of c.store t input) c input (with_task c k) go) (quiet_keeps es (go c input) (goes es c input kept))
        (λ going. moved_keeps es (Task k) c t input (with_task c k) go kept mine going
        (λ es' s' t' store thread others. (store, All-weaker (P es c.store) (P es' s') others c.chain kept.1, All-set (P es' s') c.tasks k t' thread (All-weaker (P es c.store) (P es' s') others c.tasks kept.2), kept.3))
        goes (move_of c.store t input) refl)

    turn_keeps : (es : List Event) (k : ℕ) (c : Crew) (input : Input) (go : Crew → Input → Run) → Kept es c → ((es' : List Event) (c' : Crew) (input' : Input) → Kept es' c' → RunKeeps es' (go c' input'))
        → (chain : List Thread) → c.chain ≡ chain → RunKeeps es (turn chain k c input go)
    turn_keeps es k c input go kept goes [] is = task_keeps es k c input go kept goes (slice_get c.tasks k) refl
    turn_keeps es k c input go kept goes (t ∷ ts) is =
        let all = subst (All (P es c.store)) is kept.1 in
        moved_keeps es Start c t input (with_start c ts) go kept (All-head (P es c.store) t ts all) (subst IsGoing is kept.3)
        (λ es' s' t' store thread others. (store, ahead_all (P es' s') (t' ∷ ts) (All-cons (P es' s') t' ts thread (All-weaker (P es c.store) (P es' s') others ts (All-tail (P es c.store) t ts all))), All-weaker (P es c.store) (P es' s') others c.tasks kept.2, ahead_going (t' ∷ ts)))
        goes (move_of c.store t input) refl

    pub entries_keep : (ks : List ℕ) (es : List Event) (c : Crew) (input : Input) → Kept es c → RunKeeps es (run_entries ks c input)
    entries_keep [] es c input kept =
        cond_has (RunKeeps es) (is_over c.chain c.tasks) _ _ (ends_keep es (Results (results c.tasks)) c input (λ e. absurd cc) kept) (ends_keep es OutOfBudget c input (λ e. absurd cc) kept)
    entries_keep (k ∷ ks) es c input kept =
        cond_has (RunKeeps es) (is_over c.chain c.tasks) _ _ (ends_keep es (Results (results c.tasks)) c input (λ e. absurd cc) kept)
        (turn_keeps es k c input (run_entries ks) kept (λ es' c' input'. entries_keep ks es' c' input') c.chain refl)
