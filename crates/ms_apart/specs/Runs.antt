-- What a run of a crew shows of one task, and the run alone.
use Rattle.std.specs.Prelude.{◌≡◌, ◌==◌, ℕ, if◌then◌else◌, List, [], ◌∷◌, ◌++◌, All}
use Rattle.ms_event.specs.declared.event.Event.{Event}
use Rattle.ms_event.specs.declared.event.Event.TheVariants as events
use Rattle.ms_machine.specs.Crews.{Deeds, End, Run, Start, Task, Trap, Whose}
use Rattle.ms_tasks.specs.States.{state_of}
use Rattle.ms_apart.specs.Ranks.{shown}

-- ---- what is a task's own

abbrev pub if_own : {A : Type 0} → ℕ → Whose → A → List A → List A
if_own n Start x xs = xs
if_own n (Task k) x xs = if k == n then x ∷ xs else xs

abbrev pub own_of : {A : Type 0} → ℕ → List (Whose × A) → List A
own_of n [] = []
own_of n (p ∷ ps) = if_own n p.0 p.1 (own_of n ps)

-- another task has trapped
abbrev pub IsCut : ℕ → End → Type 0
IsCut n (Trap (Task k) trap) = k ≡ n → ⊥
IsCut n end = ⊥

-- ---- what is asked of a run: no other task takes input, and no segment that the task asks for is refused; nothing is asked of start
-- functions

abbrev pub IsOwn : ℕ → Whose → Type 0
IsOwn n Start = Unit {0}
IsOwn n (Task k) = k ≡ n

abbrev pub IsGranted : Event → Type 0
IsGranted (events.Refused size) = ⊥
IsGranted event = Unit {0}

pub record IsQuiet (n : ℕ) (d : Deeds) : Type 0 where
  pub takes : All (IsOwn n) d.takes
  pub events : All IsGranted (own_of n d.events)

-- ---- the task's own in two runs: equal, or, where another task has trapped in the first, a front of that of the second

pub record OwnAlike (n : ℕ) (a b : Run) : Type 0 where
  pub rest : List ℕ
  pub puts : own_of n b.deeds.puts ≡ own_of n a.deeds.puts ++ rest
  pub later : List Event
  pub events : shown n [] b.deeds.events ≡ shown n [] a.deeds.events ++ later
  pub whole : (IsCut n a.end → ⊥) → (rest ≡ []) × (later ≡ []) × (state_of n b ≡ state_of n a)
