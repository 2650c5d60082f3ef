-- What the machine does where the meaning does something to objects.
use Rattle.std.specs.Prelude.{false, ◌≡◌, ℕ, pos, List, [], ◌∷◌, ◌++◌, length, Result, Ok, Err}
use Rattle.c_types.specs.Layout.{Table}
use Rattle.c_types.specs.Types.{Ty}
use Rattle.c_meaning.specs.Shapes.{Shape}
use Rattle.c_meaning.specs.Values.{Value, points}
use Rattle.c_meaning.specs.Objects.{Kind, Object, Unsafe, new_object, at_null, at_invalid, freed, bounds, whole, wrong_kind, readonly, Outcome, gives, stops}
use Rattle.ms_event.specs.declared.event.Event.{Event}
use Rattle.ms_event.specs.declared.event.Event.TheVariants as events
use Rattle.ms_handle.specs.declared.handle.Handle.{Handle}
use Rattle.ms_handle.specs.declared.handle.Handle.TheVariants as handles
use Rattle.ms_segment.specs.Memory.{Memory}
use Rattle.ms_segment.specs.Calls.{Change}
use Rattle.ms_segment.specs.declared.trap.SegTrap.{SegTrap}
use Rattle.ms_segment.specs.declared.trap.SegTrap.TheVariants as traps
use Rattle.ms_relate.specs.refinement.Homes.{Home, handle, IsOf, word}
use Rattle.ms_relate.specs.refinement.Relation.{Related}

-- an unsafe end is that trap
pub data Ends : Unsafe → SegTrap → Type 0 where
  null_ends : Ends at_null traps.Null
  invalid_ends : Ends at_invalid traps.Invalid
  freed_ends : Ends freed traps.Freed
  bounds_ends : Ends bounds traps.Bounds
  whole_ends : Ends whole traps.Whole
  kind_ends : Ends wrong_kind traps.Kind
  readonly_ends : Ends readonly traps.Readonly

module _ (table : Table) (places : Ty → ℕ → ℕ) (homes : List Home) where
  -- a number or a function is read
  pub data Reads (t : Ty) : Outcome Value → Result (ℕ × Event) SegTrap → Type 0 where
    reads : {v : Value} {e : Event} → IsOf table places homes t v → Reads t (gives v) (Ok (word places t v, e))
    stopped : {u : Unsafe} {e : SegTrap} → Ends u e → Reads t (stops u) (Err e)

  -- a pointer is read
  pub data ReadsPointer (t : Ty) : Outcome Value → Result (Handle × Event) SegTrap → Type 0 where
    reads_pointer : {v : Value} {e : Event} → IsOf table places homes t v → ReadsPointer t (gives v) (Ok (handle homes v, e))
    pointer_stopped : {u : Unsafe} {e : SegTrap} → Ends u e → ReadsPointer t (stops u) (Err e)

  -- objects are changed
  pub data Changes : Outcome (List Object) → Result Change SegTrap → Type 0 where
    changes : {objects : List Object} {c : Change} → Related table places homes objects c.memory → Changes (gives objects) (Ok c)
    change_stopped : {u : Unsafe} {e : SegTrap} → Ends u e → Changes (stops u) (Err e)

  -- an object of n elements is asked for, of so many bytes: it is made, and a pointer to it given; or there is no room
  pub data Creates (objects : List Object) (m : Memory) (k : Kind) (s : Shape) (n bytes : ℕ) : Handle → Event → Memory → Type 0 where
    created : {id base : ℕ} {h : Handle} {after : Memory} → Related table places (homes ++ record { id = id; shape = s; count = n } ∷ []) (objects ++ new_object k s n ∷ []) after
        → h ≡ handle (homes ++ record { id = id; shape = s; count = n } ∷ []) (points (record { object = length objects; path = []; index = pos 0; sealed = false })) → Creates objects m k s n bytes h (events.Alloc id base bytes) after
    refused : Creates objects m k s n bytes handles.Null (events.Refused bytes) m
