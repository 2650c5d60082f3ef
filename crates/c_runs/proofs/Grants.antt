-- Grants that a thread's run agrees with, however many steps it has.
use Rattle.std.proofs.Common.{◌≡◌, ℕ, ◌+◌, List, [], ◌∷◌, ◌++◌, ◌⊎◌, inl, inr, ⊎_elim, Option, Bool, true, false, refl, sym, ap, ◌∙◌, subst, drop, append_assoc}
use Rattle.ms_event.specs.declared.event.Event.{Event}
use Rattle.ms_event.specs.declared.event.Event.TheVariants.{Alloc, Free, Read, Refused, Seal, Slice, Write}
use Rattle.ms_event.specs.Monitor.{grants}
use Rattle.ms_linear.specs.declared.value.Value.{Value}
use Rattle.ms_machine.specs.Crews.{Input}
use Rattle.ms_machine.specs.Store.{Store}
use Rattle.ms_task.specs.Thread.{Thread}
use Rattle.c_runs.specs.Threads.{Ran, behind, steps_to}

abbrev pub Begins : List Bool → List Bool → Type 0
Begins a b = (c : List Bool) × (b ≡ a ++ c)

-- one is the front of the other
abbrev pub Fit : List Bool → List Bool → Type 0
Fit a b = Begins a b ⊎ Begins b a

begins_tail : (x : Bool) (a b : List Bool) → Begins (x ∷ a) (x ∷ b) → Begins a b
begins_tail x a b h = (h.0, ap (drop 1) h.1)

fit_tail : (x : Bool) (a b : List Bool) → Fit (x ∷ a) (x ∷ b) → Fit a b
fit_tail x a b h = ⊎_elim (λ p. inl (begins_tail x a b p)) (λ p. inr (begins_tail x b a p)) h

pub fit_behind : (p a b : List Bool) → Fit (p ++ a) (p ++ b) → Fit a b
fit_behind [] a b h = h
fit_behind (x ∷ p) a b h = fit_behind p a b (fit_tail x (p ++ a) (p ++ b) h)

-- two that are fronts of one
fronts_fit : (a x b y : List Bool) → a ++ x ≡ b ++ y → Fit a b
fronts_fit [] x b y e = inl (b, refl)
fronts_fit (p ∷ a) x [] y e = inr (p ∷ a, refl)
fronts_fit (p ∷ a) x (q ∷ b) y e =
    let first : p ≡ q = ap (λ (l : List Bool). first_or p l) e in
    ⊎_elim
    (λ h. inl (h.0, ap (λ (l : List Bool). q ∷ l) h.1 ∙ ap (λ (c : Bool). c ∷ (a ++ h.0)) (sym first)))
    (λ h. inr (h.0, ap (λ (l : List Bool). p ∷ l) h.1 ∙ ap (λ (c : Bool). c ∷ (b ++ h.0)) first))
    (fronts_fit a x b y (ap (drop 1) e))
  where
    first_or : Bool → List Bool → Bool
    first_or c [] = c
    first_or c (d ∷ l) = d

pub fit_front : (a x b : List Bool) → Fit (a ++ x) b → Fit a b
fit_front a x b h = ⊎_elim (λ p. inl (x ++ p.0, p.1 ∙ append_assoc a x p.0)) (λ p. fronts_fit a x b p.0 p.1) h

pub grants_append : (a b : List Event) → grants (a ++ b) ≡ grants a ++ grants b
grants_append [] b = refl
grants_append (Alloc id addr size ∷ a) b = ap (λ (l : List Bool). true ∷ l) (grants_append a b)
grants_append (Refused size ∷ a) b = ap (λ (l : List Bool). false ∷ l) (grants_append a b)
grants_append (Slice a1 a2 a3 a4 a5 a6 ∷ a) b = grants_append a b
grants_append (Read a1 a2 a3 a4 a5 a6 ∷ a) b = grants_append a b
grants_append (Write a1 a2 a3 a4 a5 ∷ a) b = grants_append a b
grants_append (Free a1 ∷ a) b = grants_append a b
grants_append (Seal a1 a2 a3 ∷ a) b = grants_append a b

-- the grants of the first steps, however many, and g are one the front of the other
abbrev pub Agrees : (ℕ → Store → Option Value → Input → Ran) → Store → Thread → Input → List Bool → Type 0
Agrees last s t input g = (n : ℕ) → Fit (grants (steps_to last n s t input).events) g

-- kept over a stretch with these events
pub agrees_on : (last : ℕ → Store → Option Value → Input → Ran) (s s' : Store) (t t' : Thread) (input input' : Input) (puts : List ℕ) (events : List Event) (cost : ℕ) (g g' : List Bool)
    → ((k : ℕ) → steps_to last (cost + k) s t input ≡ behind puts events (steps_to last k s' t' input')) → g ≡ grants events ++ g' → Agrees last s t input g → Agrees last s' t' input' g'
agrees_on last s s' t t' input input' puts events cost g g' by e a k =
    fit_behind (grants events) (grants (steps_to last k s' t' input').events) g'
    (subst (λ (x : List Bool). Fit (grants events ++ grants (steps_to last k s' t' input').events) x) e
    (subst (λ (x : List Bool). Fit x g) (ap (λ (r : Ran). grants r.events) (by k) ∙ grants_append events (steps_to last k s' t' input').events) (a (cost + k))))
