-- A trace is judged event by event.
use Rattle.std.proofs.Common.{◌≡◌, ◌∙◌, ℕ, ◌+◌, ◌<◌, ◌≤◌, List, [], ◌∷◌, ◌++◌, Ok, Err, length, get_or, take, drop, ap, refl, sym, subst, arith, length-take-le}
use Rattle.std.proofs.lemmas.List.{drop_more, take-append-drop, take_all, take_more}
use Rattle.ms_event.specs.declared.event.Event.{Event}
use Rattle.ms_event.specs.Monitor.{Accepts, May, State, after, after_all, nothing_yet}
use Rattle.ms_event.proofs.Traces.{accepted_by_steps}
use Rattle.ms_monitor.specs.refinement.Judging.{Judges}
use Rattle.ms_monitor.specs.refinement.Kept.{Kept}
use Rattle.ms_monitor.specs.refinement.Showing.{Shows}
use Rattle.ms_monitor.specs.Traces.{RejectsAt}
use Rattle.ms_monitor.specs.declared.monitor.Verdict.{Verdict}
use Rattle.ms_monitor.specs.declared.monitor.Verdict.TheVariants.{Reject}

-- so many events were accepted, and the monitor shows the state after them
pub record Follows (capacity : ℕ) (events : List Event) (count : ℕ) (k : Kept) : Type 0 where
  pub over : k.capacity ≡ capacity
  pub accepted : Accepts capacity (take count events)
  pub shows : Shows k (after_all nothing_yet (take count events))

after_one_more : (s : State) (es : List Event) (e : Event) → after_all s (es ++ e ∷ []) ≡ after (after_all s es) e
after_one_more s [] e = refl
after_one_more s (d ∷ es) e = after_one_more (after s d) es e

pub begins : (capacity : ℕ) (events : List Event) (k : Kept) → Shows k nothing_yet → k.capacity ≡ capacity → Follows capacity events 0 k
begins capacity events k shows over = record { over = over; accepted = tt; shows = shows }

pub ends : (capacity : ℕ) (events : List Event) (count : ℕ) (k : Kept) → length events ≤ count → Follows capacity events count k → Accepts capacity events
ends capacity events count k all f = subst (Accepts capacity) (take_all count events all) f.accepted

module _ (capacity : ℕ) (events : List Event) (count : ℕ) (d : Event) (old new : Kept) (below : count < length events) (f : Follows capacity events count old) where
  pub one_more : Judges old new (get_or events count d) (Ok tt) → Follows capacity events (count + 1) new
  one_more judged =
      let s = after_all nothing_yet (take count events) in
      let e = get_or events count d in
      let front : take (count + 1) events ≡ take count events ++ e ∷ [] = take_more events count d below in
      let judged_here = judged.1 s f.shows in
      let may : May capacity s e = subst (λ (n : ℕ). May n s e) f.over judged_here.0 in
      let state : after_all nothing_yet (take (count + 1) events) ≡ after s e = ap (after_all nothing_yet) front ∙ after_one_more nothing_yet (take count events) e in
      record {
        over = judged.0 ∙ f.over;
        accepted = subst (Accepts capacity) (sym front) ((accepted_by_steps capacity nothing_yet (take count events) e).1 (f.accepted, may));
        shows = subst (Shows new) (sym state) judged_here.1;
      }

  pub rejects : (v : Verdict) → v ≡ Reject → Judges old new (get_or events count d) (Err v) → RejectsAt capacity events (count + 1)
  rejects v is answer =
      let s = after_all nothing_yet (take count events) in
      let e = get_or events count d in
      let judged = subst (λ (x : Verdict). Judges old new e (Err x)) is answer in
      record {
        front = take count events;
        event = e;
        more = drop (count + 1) events;
        events_are = sym (take-append-drop count events) ∙ ap (λ (es : List Event). take count events ++ es) (drop_more events count d below);
        number_is = ap (λ (n : ℕ). n + 1) (sym (length-take-le count events (omega arith)));
        accepted = f.accepted;
        rejected = λ may. judged.1 s f.shows (subst (λ (n : ℕ). May n s e) (sym f.over) may);
      }
