-- The thread of a function that is run (WebAssembly 1.0, 4.5.5), what has happened at a step, and what a source may give.
use Rattle.std.specs.Prelude.{◌≡◌, ◌<◌, ℕ, List, [], ◌∷◌, ◌++◌, map, slice_get, Option, Some, None, MatchOption}
use Rattle.ms_event.specs.declared.event.Event.{Event}
use Rattle.ms_task.specs.Control.{exited as exited_thread, started}
use Rattle.ms_task.specs.declared.func.FuncInst.{FuncInst}
use Rattle.ms_task.specs.Thread.{Thread, thread}
use Rattle.ms_machine.specs.Store.{Store}

-- ---- the thread of a function without parameters

-- of the one at the address; with no function there it has nothing to do
abbrev pub start_of : Store → ℕ → Option FuncInst → Thread
start_of s f None = thread (record { function = f; locals = [] }) [] []
start_of s f (Some g) = exited_thread (started s.funcs f g)

abbrev pub func_thread : Store → ℕ → Thread
func_thread s f = start_of s f (slice_get s.funcs f)

-- ---- what has happened

-- the event, if there is one, in front of later ones
abbrev pub with_event : Option Event → List Event → List Event
with_event None events = events
with_event (Some e) events = e ∷ events

-- ---- the outside, told or not

abbrev pub IsByte : Option ℕ → Type 0
IsByte None = Unit {0}
IsByte (Some b) = b < 256

-- what the takes of an input give are bytes, or none
abbrev pub AreBytes : List (Option ℕ) → Type 0
AreBytes [] = Unit {0}
AreBytes (b ∷ bs) = IsByte b × AreBytes bs

-- What a source may give that has these bytes left: these, where it tells them, and else any bytes.
abbrev pub MayGive : (left : Option (List ℕ)) → (input : List (Option ℕ)) → Type 0
MayGive left input = MatchOption left (AreBytes input) (λ bytes. input ≡ map Some bytes)

-- a source tells what is left before, and so it does after; or it doesn't
abbrev pub TellsAlike : (left left' : Option (List ℕ)) → Type 0
TellsAlike left left' = MatchOption left (left' ≡ None) (λ bytes. (bytes' : List ℕ) × (left' ≡ Some bytes'))

-- the first is what is left of the second
abbrev pub IsLeft : (rest input : List (Option ℕ)) → Type 0
IsLeft rest input = (taken : List (Option ℕ)) × (input ≡ taken ++ rest)
