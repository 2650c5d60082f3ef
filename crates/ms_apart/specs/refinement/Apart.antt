-- Components of a store that nothing joins, what each of them owns, and two stores in one of which more has happened to others.
use Rattle.std.specs.Prelude.{◌≡◌, ◌≤◌, ◌+◌, ◌-◌, ◌==◌, ℕ, Bool, true, false, if◌then◌else◌, List, [], ◌∷◌, map, option_map, length, slice_get, slice_set, Option, Some, None}
use Rattle.ms_event.specs.declared.event.Event.{Event}
use Rattle.ms_event.specs.declared.event.Event.TheVariants as events
use Rattle.ms_handle.specs.declared.handle.Handle.{Handle}
use Rattle.ms_handle.specs.declared.handle.Handle.TheVariants as handles
use Rattle.ms_linear.specs.declared.global.GlobalInst.{GlobalInst}
use Rattle.ms_linear.specs.declared.table.Entry.{Entry}
use Rattle.ms_linear.specs.declared.value.Value.{Value}
use Rattle.ms_linear.specs.declared.value.Value.TheVariants as values
use Rattle.ms_linear.specs.Table.{Table}
use Rattle.ms_live.specs.declared.gaps.Live.{Live}
use Rattle.ms_machine.specs.Crews.{Crew}
use Rattle.ms_machine.specs.refinement.Holding.{StoreFits, ThreadFits, ThreadHolds}
use Rattle.ms_machine.specs.Store.{Store, with_globals, with_memories, with_segments}
use Rattle.ms_machine.specs.declared.store.Instance.{Instance}
use Rattle.ms_segment.specs.Memory.{Memory, live_of, once_more, with_bytes}
use Rattle.ms_segment.specs.Parts.{entered, with_ended}
use Rattle.ms_handle.specs.declared.handle.Kind.{Kind}
use Rattle.ms_live.specs.Place.{IsPlace}
use Rattle.ms_linear.specs.Memory.{Memory as LinearMemory}
use Rattle.ms_tagged.specs.Bytes.{Byte, Data, Piece, range}
use Rattle.ms_task.specs.Thread.{Activation, Do, Item, Label, Thread}
use Rattle.ms_task.specs.declared.func.FuncInst.{FuncInst}
use Rattle.ms_apart.specs.refinement.Renaming.{Renaming, rename_byte, rename_event, rename_global}

-- ---- two sides of a store: instances, and the addresses of what they name

pub record Sides : Type 0 where
  pub instances : ℕ → Bool
  pub tables : ℕ → Bool
  pub memories : ℕ → Bool
  pub globals : ℕ → Bool

-- nothing is named from both sides, and no table leads from one to the other
pub record IsSided (sides : Sides) (s : Store) : Type 0 where
  pub funcs : (n x a : ℕ) (i : Instance) (f : FuncInst) → slice_get s.instances n ≡ Some i → slice_get i.funcs x ≡ Some a → slice_get s.funcs a ≡ Some f → sides.instances f.instance ≡ sides.instances n
  pub tables : (n a : ℕ) (i : Instance) → slice_get s.instances n ≡ Some i → i.table ≡ Some a → sides.tables a ≡ sides.instances n
  pub memories : (n a : ℕ) (i : Instance) → slice_get s.instances n ≡ Some i → i.memory ≡ Some a → sides.memories a ≡ sides.instances n
  pub globals : (n x a : ℕ) (i : Instance) → slice_get s.instances n ≡ Some i → slice_get i.globals x ≡ Some a → sides.globals a ≡ sides.instances n
  pub entries : (a k : ℕ) (t : Table) (e : Entry) (f : FuncInst) → slice_get s.tables a ≡ Some t → slice_get t.entries k ≡ Some (Some e) → slice_get s.funcs e.func.address ≡ Some f → sides.instances f.instance ≡ sides.tables a

-- an address, if there is one, is on the side of the component
abbrev pub AddressOn : (ℕ → Bool) → Option ℕ → Type 0
AddressOn side None = Unit {0}
AddressOn side (Some a) = side a ≡ true

-- ---- which identities a side owns: its handles name these, and those of the other side name others

abbrev pub Owned : Type 0
Owned = ℕ → Bool

abbrev pub HandleOn : Owned → Bool → Handle → Type 0
HandleOn own side (handles.Good sealed id base size offset) = own id ≡ side
HandleOn own side h = Unit {0}

abbrev pub ValueOn : Owned → Bool → Value → Type 0
ValueOn own side (values.Handle h) = HandleOn own side h
ValueOn own side v = Unit {0}

abbrev pub EachByte : (Handle → Type 0) → List Byte → Type 0
EachByte P [] = Unit {0}
EachByte P (Data n ∷ bytes) = EachByte P bytes
EachByte P (Piece h i ∷ bytes) = P h × EachByte P bytes

-- the bytes of a segment
abbrev pub contents : Memory → Live → List Byte
contents m s = range s.base s.size m.bytes

-- ---- a thread is on a side: all its functions are, and its handles

abbrev pub FunctionOn : Sides → List FuncInst → Bool → ℕ → Type 0
FunctionOn sides funcs side function = (f : FuncInst) → slice_get funcs function ≡ Some f → sides.instances f.instance ≡ side

abbrev pub WorkOn : (ℕ → Type 0) → List Item → Type 0
WorkOn P [] = Unit {0}
WorkOn P (Do i ∷ w) = WorkOn P w
WorkOn P (Label k h g ∷ w) = WorkOn P w
WorkOn P (Activation k h caller ∷ w) = P caller.function × WorkOn P w

pub record ThreadOn (sides : Sides) (own : Owned) (side : Bool) (s : Store) (t : Thread) : Type 0 where
  pub function : FunctionOn sides s.funcs side t.frame.function
  pub callers : WorkOn (FunctionOn sides s.funcs side) t.work
  pub values : ThreadHolds (ValueOn own side) t

-- ---- the handles of each side name what the side owns

abbrev pub SegmentOn : Owned → Memory → (owner : Bool) → Option Live → Type 0
SegmentOn own m owner None = Unit {0}
SegmentOn own m owner (Some s) = EachByte (HandleOn own owner) (contents m s)

pub record Separated (sides : Sides) (own : Owned) (s : Store) : Type 0 where
  pub globals : (a : ℕ) (g : GlobalInst) → slice_get s.globals a ≡ Some g → ValueOn own (sides.globals a) g.value
  pub segments : (id : ℕ) → SegmentOn own s.segments (own id) (live_of s.segments id)

-- ---- two stores that are alike on the side of a component, where the identities have other names

abbrev pub SegmentAlike : Renaming → Memory → Memory → Option Live → Option Live → Type 0
SegmentAlike r m m' None None = Unit {0}
SegmentAlike r m m' (Some s) (Some s') = (s'.size ≡ s.size) × (s'.kind ≡ s.kind) × (contents m' s' ≡ map (rename_byte r) (contents m s))
SegmentAlike r m m' _ _ = ⊥

pub record MemoryAlike (own : Owned) (r : Renaming) (m m' : Memory) : Type 0 where
  pub made : (id : ℕ) → own id ≡ true → (id ≤ m.made) × (r id ≤ m'.made)
  pub different : (i j : ℕ) → own i ≡ true → own j ≡ true → r i ≡ r j → i ≡ j
  pub segments : (id : ℕ) → own id ≡ true → SegmentAlike r m m' (live_of m id) (live_of m' (r id))

pub record Alike (sides : Sides) (own : Owned) (r : Renaming) (s s' : Store) : Type 0 where
  pub funcs : s'.funcs ≡ s.funcs
  pub instances : s'.instances ≡ s.instances
  pub tables : s'.tables ≡ s.tables
  pub memories : (a : ℕ) → sides.memories a ≡ true → slice_get s'.memories a ≡ slice_get s.memories a
  pub globals : (a : ℕ) → sides.globals a ≡ true → slice_get s'.globals a ≡ option_map (rename_global r) (slice_get s.globals a)
  pub segments : MemoryAlike own r s.segments s'.segments

-- ---- events, with each address as the place in its segment

abbrev pub base_in : Option Live → ℕ
base_in None = 0
base_in (Some s) = s.base

abbrev pub placed : Memory → Event → Event
placed m (events.Alloc id addr size) = events.Alloc id 0 size
placed m (events.Read sealed id lo hi addr width) = events.Read sealed id lo hi (addr - base_in (live_of m id)) width
placed m (events.Write id lo hi addr width) = events.Write id lo hi (addr - base_in (live_of m id)) width
placed m e = e

-- the event is of a segment that is owned; an access is of a live one
abbrev pub EventOwn : Owned → Memory → Option Event → Type 0
EventOwn own m (Some (events.Seal id lo hi)) = own id ≡ true
EventOwn own m (Some (events.Slice sealed id lo hi lo2 hi2)) = own id ≡ true
EventOwn own m (Some (events.Read sealed id lo hi addr width)) = (own id ≡ true) × ((s : Live) × (live_of m id ≡ Some s))
EventOwn own m (Some (events.Write id lo hi addr width)) = (own id ≡ true) × ((s : Live) × (live_of m id ≡ Some s))
EventOwn own m (Some (events.Free id)) = own id ≡ true
EventOwn own m event = Unit {0}

abbrev pub EventAlike : Owned → Renaming → Memory → Memory → Option Event → Option Event → Type 0
EventAlike own r m m' e e' = (option_map (placed m') e' ≡ option_map (rename_event r) (option_map (placed m) e)) × EventOwn own m e

-- ---- what a side owns after a step of its own, and the names of that

abbrev pub owned_after : Option Event → Owned → Owned
owned_after (Some (events.Alloc id addr size)) own = λ i. if i == id then true else own i
owned_after event own = own

abbrev pub renamed_after : (event event' : Option Event) → Renaming → Renaming
renamed_after (Some (events.Alloc id addr size)) (Some (events.Alloc id' addr' size')) r = λ i. if i == id then id' else r i
renamed_after event event' r = r

-- the event of no new segment
abbrev pub IsOld : Option Event → Type 0
IsOld (Some (events.Alloc id addr size)) = ⊥
IsOld event = Unit {0}

-- ---- what a step of a thread of one side may do to a store, but for a new segment

pub data MemoryStep (own : Owned) (side : Bool) (m : Memory) : Memory → Type 0 where
  same : MemoryStep own side m m
  counted : MemoryStep own side m (once_more m)
  ended : (id : ℕ) → own id ≡ side → MemoryStep own side m (with_ended m id)
  written : (id k : ℕ) (s : Live) (new : List Byte) → own id ≡ side → live_of m id ≡ Some s → k + length new ≤ s.size → EachByte (HandleOn own side) new → MemoryStep own side m (with_bytes m (s.base + k) new)

pub data StoreStep (sides : Sides) (own : Owned) (side : Bool) (s : Store) : Store → Type 0 where
  kept : StoreStep sides own side s s
  global : (a : ℕ) (g : GlobalInst) (v : Value) → sides.globals a ≡ side → slice_get s.globals a ≡ Some g → ValueOn own side v → StoreStep sides own side s (with_globals s (slice_set s.globals a (record { value = v; mutable = g.mutable })))
  memory : (a : ℕ) (n : LinearMemory) → sides.memories a ≡ side → StoreStep sides own side s (with_memories s (slice_set s.memories a n))
  segments : (m : Memory) → MemoryStep own side s.segments m → StoreStep sides own side s (with_segments s m)

-- a step of a thread of one side: the store and the thread afterwards
pub data Stepped (sides : Sides) (own : Owned) (side : Bool) (s : Store) : Store → Thread → Option Event → Type 0 where
  plain : (s1 : Store) (t : Thread) (event : Option Event) → IsOld event → StoreStep sides own side s s1 → ThreadOn sides own side s t → Stepped sides own side s s1 t event
  makes : (size base : ℕ) (kind : Kind) (t : Thread) → IsPlace s.segments.live (length s.segments.bytes) size (Some base)
      → ((own1 : Owned) → ((i : ℕ) → i ≤ s.segments.made → own1 i ≡ own i) → own1 (s.segments.made + 1) ≡ side → ThreadOn sides own1 side s t)
      → Stepped sides own side s (with_segments s (entered s.segments base size kind)) t (Some (events.Alloc (s.segments.made + 1) base size))

-- ---- a crew in which each thread is of a side: a task of the one, all other tasks of the other

abbrev pub EachThread : (Thread → Type 0) → List Thread → Type 0
EachThread P [] = Unit {0}
EachThread P (t ∷ ts) = P t × EachThread P ts

abbrev pub OnASide : Sides → Owned → Store → Thread → Type 0
OnASide sides own s u = (b : Bool) × ThreadOn sides own b s u × ThreadFits s u

pub record Divided (sides : Sides) (n absent : ℕ) (own : Owned) (c : Crew) (task : Thread) : Type 0 where
  pub sided : IsSided sides c.store
  pub separated : Separated sides own c.store
  pub fits : StoreFits c.store
  pub low : (i : ℕ) → own i ≡ true → i ≤ c.store.segments.made
  pub chain : EachThread (OnASide sides own c.store) c.chain
  pub mine : slice_get c.tasks n ≡ Some task
  pub on : ThreadOn sides own true c.store task
  pub task_fits : ThreadFits c.store task
  pub others : (k : ℕ) (u : Thread) → (k ≡ n → ⊥) → slice_get c.tasks k ≡ Some u → ThreadOn sides own false c.store u × ThreadFits c.store u
  pub missing : slice_get c.tasks absent ≡ None
  pub apart : absent ≡ n → ⊥
