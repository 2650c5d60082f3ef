-- Steps of a thread inside a set of instances, and what is said of them on two stores.
use Rattle.std.specs.Prelude.{◌≡◌, ◌≤◌, ℕ, zero, suc, Bool, true, List, [], ◌∷◌, Option, Some, None}
use Rattle.ms_event.specs.declared.event.Event.{Event}
use Rattle.ms_task.specs.Thread.{Thread, depth_of}
use Rattle.ms_machine.specs.refinement.Holding.{StoreFits, ThreadFits}
use Rattle.ms_machine.specs.Moves as moves
use Rattle.ms_machine.specs.Moves.{Goes, Move, move_for, move_of, rest_of}
use Rattle.ms_machine.specs.Running.{with_event}
use Rattle.ms_machine.specs.Store.{Store}
use Rattle.ms_machine.specs.Typing.{StoreTyped, TaskTyped, outline_of}
use Rattle.ms_reach.specs.Confined.{Agree, Contents, Stays, grown, with_contents}
use Rattle.ms_reach.specs.Reach.{IsReached, calls_below, is_inside}

-- the store and the thread are well typed, and their handles fit
pub record IsReady (s : Store) (t : Thread) : Type 0 where
  pub typed : StoreTyped (outline_of s)
  pub task : TaskTyped (outline_of s) t
  pub store : StoreFits s
  pub thread : ThreadFits s t

-- ---- one step

-- two moves of one thread, on a store and on the same with other contents
abbrev pub MovesAlike : (ℕ → Bool) → Store → Contents → Thread → Move → Move → Type 0
MovesAlike inside s c t (Goes s1 t1 took put event) (Goes s2 t2 took' put' event') =
    (t2 ≡ t1) × (took' ≡ took) × (put' ≡ put) × (event' ≡ event)
    × ((c1 : Contents) × (s2 ≡ with_contents s1 c1) × Stays inside (grown (IsReached inside s t) event) s c s1 c1
    -- while no call that was entered from outside is left
    × (calls_below inside s.funcs t.work ≤ depth_of t1.work → Agree inside (IsReached inside s1 t1) s1 c1))
MovesAlike inside s c t (moves.Trap kind) (moves.Trap kind') = kind' ≡ kind
MovesAlike inside s c t moves.Stuck moves.Stuck = Unit {0}
MovesAlike inside s c t _ _ = ⊥

-- ---- several steps

-- the thread is in a function of an instance inside, and at least so many calls are open
abbrev pub IsStaying : (ℕ → Bool) → ℕ → Store → Thread → Type 0
IsStaying inside calls s t = (is_inside inside s.funcs t.frame ≡ true) × (calls ≤ depth_of t.work)

abbrev pub with_put : Option ℕ → List ℕ → List ℕ
with_put None puts = puts
with_put (Some byte) puts = byte ∷ puts

-- so many steps, before each of which the thread is there: with what they put and what happened
abbrev pub Walks : (ℕ → Bool) → ℕ → ℕ → Store → Thread → List (Option ℕ) → Store → Thread → List (Option ℕ) → List ℕ → List Event → Type 0
Walks inside calls zero s t input s' t' input' puts events = (s' ≡ s) × (t' ≡ t) × (input' ≡ input) × (puts ≡ []) × (events ≡ [])
Walks inside calls (suc n) s t input s' t' input' puts events =
    IsStaying inside calls s t
    × ((s1 : Store) × (t1 : Thread) × (took : Bool) × (put : Option ℕ) × (event : Option Event) × (puts1 : List ℕ) × (events1 : List Event)
    × (move_of s t input ≡ Goes s1 t1 took put event) × (puts ≡ with_put put puts1) × (events ≡ with_event event events1)
    × Walks inside calls n s1 t1 (rest_of took input) s' t' input' puts1 events1)

-- with the bytes of all segments that are made
abbrev pub grown_all : (ℕ → Type 0) → List Event → ℕ → Type 0
grown_all bytes_in [] = bytes_in
grown_all bytes_in (e ∷ es) = grown_all (grown bytes_in (Some e)) es

-- ---- the laws

abbrev pub StepsConfined : Type 0
StepsConfined =
    (inside : ℕ → Bool) (s : Store) (c : Contents) (t : Thread) (got : Option ℕ)
    → IsReady s t → is_inside inside s.funcs t.frame ≡ true → Agree inside (IsReached inside s t) s c
    → MovesAlike inside s c t (move_for s t got) (move_for (with_contents s c) t got)

abbrev pub RunsConfined : Type 0
RunsConfined =
    (inside : ℕ → Bool) (n : ℕ) (s : Store) (c : Contents) (t : Thread) (input : List (Option ℕ)) (s' : Store) (t' : Thread) (input' : List (Option ℕ)) (puts : List ℕ) (events : List Event)
    → IsReady s t → Agree inside (IsReached inside s t) s c → Walks inside (calls_below inside s.funcs t.work) n s t input s' t' input' puts events
    → (c' : Contents) × Walks inside (calls_below inside s.funcs t.work) n (with_contents s c) t input (with_contents s' c') t' input' puts events
    × Stays inside (grown_all (IsReached inside s t) events) s c s' c'
    × (calls_below inside s.funcs t.work ≤ depth_of t'.work → Agree inside (IsReached inside s' t') s' c')
