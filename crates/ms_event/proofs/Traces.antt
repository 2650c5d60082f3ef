-- Traces, a step at a time.
use Rattle.std.proofs.Common.{◌↔◌, ℕ, List, [], ◌∷◌, ◌++◌}
use Rattle.ms_event.specs.declared.event.Event.{Event}
use Rattle.ms_event.specs.Monitor.{AcceptsFrom, May, State, after, after_all}

pub front_is_accepted : (capacity : ℕ) (s : State) (es fs : List Event) → AcceptsFrom capacity s (es ++ fs) → AcceptsFrom capacity s es
front_is_accepted capacity s [] fs h = tt
front_is_accepted capacity s (e ∷ es) fs h = (h.0, front_is_accepted capacity (after s e) es fs h.1)

last_may_come : (capacity : ℕ) (s : State) (es : List Event) (e : Event) → AcceptsFrom capacity s (es ++ e ∷ []) → May capacity (after_all s es) e
last_may_come capacity s [] e h = h.0
last_may_come capacity s (d ∷ es) e h = last_may_come capacity (after s d) es e h.1

one_more_is_accepted : (capacity : ℕ) (s : State) (es : List Event) (e : Event) → AcceptsFrom capacity s es → May capacity (after_all s es) e → AcceptsFrom capacity s (es ++ e ∷ [])
one_more_is_accepted capacity s [] e h may = (may, tt)
one_more_is_accepted capacity s (d ∷ es) e h may = (h.0, one_more_is_accepted capacity (after s d) es e h.1 may)

pub accepted_by_steps : (capacity : ℕ) (s : State) (es : List Event) (e : Event) → AcceptsFrom capacity s (es ++ e ∷ []) ↔ (AcceptsFrom capacity s es × May capacity (after_all s es) e)
accepted_by_steps capacity s es e =
    (λ h. (front_is_accepted capacity s es (e ∷ []) h, last_may_come capacity s es e h), λ h. one_more_is_accepted capacity s es e h.0 h.1)
