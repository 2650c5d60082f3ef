-- The events of a task, each identity as its rank among those that the start functions and the task made, each address as its place
-- in the segment.
use Rattle.std.specs.Prelude.{◌==◌, ◌-◌, ℕ, suc, if◌then◌else◌, List, [], ◌∷◌, ◌++◌, length}
use Rattle.ms_event.specs.declared.event.Event.{Event}
use Rattle.ms_event.specs.declared.event.Event.TheVariants as events
use Rattle.ms_machine.specs.Crews.{Start, Task, Whose}

-- a segment that was made: its identity, and the address at which it lies
pub record Place : Type 0 where
  pub id : ℕ
  pub address : ℕ

abbrev pub rank : List Place → ℕ → ℕ
rank [] id = 0
rank (p ∷ ps) id = if p.id == id then 0 else suc (rank ps id)

abbrev pub start : List Place → ℕ → ℕ
start [] id = 0
start (p ∷ ps) id = if p.id == id then p.address else start ps id

abbrev pub grown : List Place → Event → List Place
grown ps (events.Alloc id addr size) = ps ++ record { id = id; address = addr } ∷ []
grown ps e = ps

abbrev pub ranked : List Place → Event → Event
ranked ps (events.Alloc id addr size) = events.Alloc (length ps) 0 size
ranked ps (events.Refused size) = events.Refused size
ranked ps (events.Seal id lo hi) = events.Seal (rank ps id) lo hi
ranked ps (events.Slice sealed id lo hi lo2 hi2) = events.Slice sealed (rank ps id) lo hi lo2 hi2
ranked ps (events.Read sealed id lo hi addr width) = events.Read sealed (rank ps id) lo hi (addr - start ps id) width
ranked ps (events.Write id lo hi addr width) = events.Write (rank ps id) lo hi (addr - start ps id) width
ranked ps (events.Free id) = events.Free (rank ps id)

-- the events of the task of this number, where these segments were made before
abbrev pub shown : ℕ → List Place → List (Whose × Event) → List Event
shown n ps [] = []
shown n ps ((Start, e) ∷ es) = shown n (grown ps e) es
shown n ps ((Task k, e) ∷ es) = if k == n then ranked ps e ∷ shown n (grown ps e) es else shown n ps es
