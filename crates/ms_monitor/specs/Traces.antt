-- Traces as texts, an event a line; and what judging a whole trace answers.
use Rattle.std.specs.Prelude.{◌≡◌, ◌==◌, ℕ, suc, ◌+◌, List, [], ◌∷◌, ◌++◌, length, flat_map, if◌then◌else◌}
use Rattle.ms_event.specs.declared.event.Event.{Event}
use Rattle.ms_event.specs.Monitor.{Accepts, May, after_all, nothing_yet}
use Rattle.ms_event.specs.Text.{IsInRange, text}

-- ---- texts

-- the text of a trace: that of each event, ended by LF
abbrev pub trace_text : List Event → List ℕ
trace_text events = flat_map (λ e. text e ++ 10 ∷ []) events

-- the lines with a byte more in front of the first one
abbrev pub lengthened : ℕ → List (List ℕ) → List (List ℕ)
lengthened b [] = (b ∷ []) ∷ []
lengthened b (line ∷ more) = (b ∷ line) ∷ more

-- the lines of a text, each ended by LF, the last one perhaps by nothing
abbrev pub lines_of : List ℕ → List (List ℕ)
lines_of [] = []
lines_of (b ∷ bs) = if b == 10 then [] ∷ lines_of bs else lengthened b (lines_of bs)

-- the line tells this event
abbrev pub IsOf : List ℕ → Event → Type 0
IsOf line e = IsInRange e × (line ≡ text e)

-- the lines tell these events, one each
pub data AreOf : List (List ℕ) → List Event → Type 0 where
  no_line : AreOf [] []
  one_line : (line : List ℕ) (e : Event) {lines : List (List ℕ)} {es : List Event} → IsOf line e → AreOf lines es → AreOf (line ∷ lines) (e ∷ es)

-- the first line that tells none has this number, counted from k on
pub data FirstMalformed : (k : ℕ) → List (List ℕ) → ℕ → Type 0 where
  malformed : (k : ℕ) (line : List ℕ) (lines : List (List ℕ)) → ((e : Event) → ¬ IsOf line e) → FirstMalformed k (line ∷ lines) k
  later : (k : ℕ) (line : List ℕ) (e : Event) (lines : List (List ℕ)) (n : ℕ) → IsOf line e → FirstMalformed (suc k) lines n → FirstMalformed k (line ∷ lines) n

-- the text is the trace of these events
abbrev pub IsTrace : List ℕ → List Event → Type 0
IsTrace text events = AreOf (lines_of text) events

-- it is none: the line of this number, counted from 1, is the first that tells no event
abbrev pub IsNoTrace : List ℕ → ℕ → Type 0
IsNoTrace text n = FirstMalformed 1 (lines_of text) n

-- ---- judging

-- the event of this number, counted from 1, is the first that may not come next
pub record RejectsAt (capacity : ℕ) (events : List Event) (n : ℕ) : Type 0 where
  pub front : List Event
  pub event : Event
  pub more : List Event
  pub events_are : events ≡ front ++ event ∷ more
  pub number_is : n ≡ length front + 1
  pub accepted : Accepts capacity front
  pub rejected : ¬ May capacity (after_all nothing_yet front) event
