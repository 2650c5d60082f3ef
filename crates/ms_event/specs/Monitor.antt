-- The colour monitor: which traces are safe, after the memory safety of MSWasm (POPL 2023), which gives each allocation a colour and
-- each part of it that may be reached alone a shade, and lets an access pass where its pointer's colour and shade are those of the
-- memory. Each allocation has a colour of its own. Its addresses are painted with the
-- colour, each with its place in the allocation. A shade is a part of an allocation that some handle may reach, and of one of two
-- sorts: writable, or sealed, through which may be read alone.
use Rattle.std.specs.Prelude.{◌≡◌, ◌==◌, ℕ, zero, suc, ◌+◌, ◌%◌, ◌<◌, ◌≤◌, ◌⊎◌, Bool, true, false, not, List, [], ◌∷◌, ◌++◌, length, filter, Contains}
use Rattle.ms_event.specs.declared.event.Event.{Event}
use Rattle.ms_event.specs.declared.event.Event.TheVariants.{Alloc, Free, Read, Refused, Seal, Slice, Write}

-- how many allocations may be live at once
abbrev pub most_live : ℕ
most_live = 65536

-- a painted address, with the colour and the place
pub record Paint : Type 0 where
  pub address : ℕ
  pub colour : ℕ
  pub place : ℕ

pub record Shade : Type 0 where
  pub colour : ℕ
  pub lo : ℕ
  pub hi : ℕ
  pub sealed : Bool

-- the painted addresses, the live colours, all colours used so far, and the known shades, which stay after a free
pub record State : Type 0 where
  pub painted : List Paint
  pub live : List ℕ
  pub used : List ℕ
  pub shades : List Shade

abbrev pub nothing_yet : State
nothing_yet = record { painted = []; live = []; used = []; shades = [] }

-- ---- addresses

abbrev pub IsUnpainted : State → ℕ → Type 0
IsUnpainted s address = (colour place : ℕ) → ¬ (Contains s.painted (record { address = address; colour = colour; place = place }))

-- so many addresses from one on are within the capacity and unpainted
abbrev pub IsGap : ℕ → State → ℕ → ℕ → Type 0
IsGap capacity s address size = (k : ℕ) → k < size → (address + k < capacity) × IsUnpainted s (address + k)

-- each of so many addresses from one on is painted with the colour, at a place inside the shade
abbrev pub IsInside : State → Shade → ℕ → ℕ → Type 0
IsInside s shade address width =
    (k : ℕ) → k < width → (place : ℕ) × (shade.lo ≤ place) × (place < shade.hi) × Contains s.painted (record { address = address + k; colour = shade.colour; place = place })

-- the paint of an allocation, from a place on
abbrev pub coat_from : ℕ → ℕ → ℕ → ℕ → List Paint
coat_from colour address place zero = []
coat_from colour address place (suc size) = record { address = address + place; colour = colour; place = place } ∷ coat_from colour address (suc place) size

abbrev pub coat : ℕ → ℕ → ℕ → List Paint
coat colour address size = coat_from colour address 0 size

-- ---- one event

abbrev pub shade_of : Bool → ℕ → ℕ → ℕ → Shade
shade_of sealed colour lo hi = record { colour = colour; lo = lo; hi = hi; sealed = sealed }

-- an access through a shade
abbrev pub MayAccess : State → Shade → ℕ → ℕ → Type 0
MayAccess s shade address width = Contains s.shades shade × IsInside s shade address width

-- when the event may come next
abbrev pub May : ℕ → State → Event → Type 0
May capacity s (Alloc id addr size) = (length s.live < most_live) × ¬ (Contains s.used id) × (addr % 16 ≡ 0) × IsGap capacity s addr size
May capacity s (Refused size) = (length s.live ≡ most_live) ⊎ ((address : ℕ) → address % 16 ≡ 0 → ¬ (IsGap capacity s address size))
May capacity s (Seal id lo hi) = Contains s.shades (shade_of false id lo hi)
May capacity s (Slice sealed id lo hi lo2 hi2) = Contains s.shades (shade_of sealed id lo hi) × (lo ≤ lo2) × (lo2 ≤ hi2) × (hi2 ≤ hi)
May capacity s (Read sealed id lo hi addr width) = MayAccess s (shade_of sealed id lo hi) addr width
May capacity s (Write id lo hi addr width) = MayAccess s (shade_of false id lo hi) addr width
May capacity s (Free id) = Contains s.live id

-- the state after it
abbrev pub after : State → Event → State
after s (Alloc id addr size) = record {
  painted = s.painted ++ coat id addr size;
  live = s.live ++ id ∷ [];
  used = s.used ++ id ∷ [];
  shades = s.shades ++ shade_of false id 0 size ∷ [];
}
after s (Refused size) = s
after s (Seal id lo hi) = record s { shades = s.shades ++ shade_of true id lo hi ∷ [] }
after s (Slice sealed id lo hi lo2 hi2) = record s { shades = s.shades ++ shade_of sealed id lo2 hi2 ∷ [] }
after s (Read sealed id lo hi addr width) = s
after s (Write id lo hi addr width) = s
after s (Free id) = record s {
  painted = filter (λ p. not (p.colour == id)) s.painted;
  live = filter (λ colour. not (colour == id)) s.live;
}

-- ---- traces

-- each event in turn may come next
abbrev pub AcceptsFrom : ℕ → State → List Event → Type 0
AcceptsFrom capacity s [] = Unit {0}
AcceptsFrom capacity s (e ∷ es) = May capacity s e × AcceptsFrom capacity (after s e) es

abbrev pub Accepts : ℕ → List Event → Type 0
Accepts capacity events = AcceptsFrom capacity nothing_yet events

-- the state after a trace
abbrev pub after_all : State → List Event → State
after_all s [] = s
after_all s (e ∷ es) = after_all (after s e) es

-- which of the segments that were asked for were granted, in order
abbrev pub grants : List Event → List Bool
grants [] = []
grants (Alloc id addr size ∷ es) = true ∷ grants es
grants (Refused size ∷ es) = false ∷ grants es
grants (e ∷ es) = grants es

-- how many bytes were asked for each of those segments, in order
abbrev pub sizes_of : List Event → List ℕ
sizes_of [] = []
sizes_of (Alloc id addr size ∷ es) = size ∷ sizes_of es
sizes_of (Refused size ∷ es) = size ∷ sizes_of es
sizes_of (e ∷ es) = sizes_of es
