-- A trace is accepted or not, and its first event that is rejected is one.
use Rattle.std.proofs.Common.{◌≡◌, ◌∙◌, ℕ, suc, ◌+◌, List, [], ◌∷◌, ◌++◌, length, ap, refl, sym, subst}
use Rattle.ms_event.specs.declared.event.Event.{Event}
use Rattle.ms_event.specs.Monitor.{Accepts, AcceptsFrom, May, State, after, after_all, nothing_yet}
use Rattle.ms_monitor.specs.Traces.{RejectsAt}

same_front : (capacity : ℕ) (s : State) (f g : List Event) (d e : Event) (xs ys : List Event)
    → f ++ d ∷ xs ≡ g ++ e ∷ ys → AcceptsFrom capacity s f → ¬ (May capacity (after_all s f) d) → AcceptsFrom capacity s g → ¬ (May capacity (after_all s g) e)
    → length f ≡ length g
same_front capacity s [] [] d e xs ys same f_goes no_d g_goes no_e = refl
same_front capacity s [] (b ∷ g) d e xs ys same f_goes no_d g_goes no_e =
    let heads : b ≡ d = cc in
    absurd (no_d (subst (May capacity s) heads g_goes.0))
same_front capacity s (a ∷ f) [] d e xs ys same f_goes no_d g_goes no_e =
    let heads : a ≡ e = cc in
    absurd (no_e (subst (May capacity s) heads f_goes.0))
same_front capacity s (a ∷ f) (b ∷ g) d e xs ys same f_goes no_d g_goes no_e =
    let heads : b ≡ a = cc in
    let tails : f ++ d ∷ xs ≡ g ++ e ∷ ys = cc in
    let Goes : Event → Type 0 = λ x. AcceptsFrom capacity (after s x) g in
    let Ends : Event → Type 0 = λ x. ¬ (May capacity (after_all (after s x) g) e) in
    ap suc (same_front capacity (after s a) f g d e xs ys tails f_goes.1 no_d (subst Goes heads g_goes.1) (subst Ends heads no_e))

not_both : (capacity : ℕ) (s : State) (f : List Event) (d : Event) (xs : List Event) → AcceptsFrom capacity s (f ++ d ∷ xs) → ¬ (May capacity (after_all s f) d) → ⊥
not_both capacity s [] d xs goes none = none goes.0
not_both capacity s (a ∷ f) d xs goes none = not_both capacity (after s a) f d xs goes.1 none

pub one_rejected : (capacity : ℕ) (es : List Event) (m n : ℕ) → RejectsAt capacity es m → RejectsAt capacity es n → m ≡ n
one_rejected capacity es m n one other =
    let lengths = same_front capacity nothing_yet one.front other.front one.event other.event one.more other.more (sym one.events_are ∙ other.events_are) one.accepted one.rejected other.accepted other.rejected in
    one.number_is ∙ ap (λ (k : ℕ). k + 1) lengths ∙ sym other.number_is

pub accepted_or_rejected : (capacity : ℕ) (es : List Event) (n : ℕ) → Accepts capacity es → RejectsAt capacity es n → ⊥
accepted_or_rejected capacity es n accepted r =
    not_both capacity nothing_yet r.front r.event r.more (subst (AcceptsFrom capacity nothing_yet) r.events_are accepted) r.rejected
