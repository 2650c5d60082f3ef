-- What an instruction on segments does where the meaning does something to objects: an operand is the value of C, and the
-- rest of the stack stays.
use Rattle.std.specs.Prelude.{◌≡◌, ℕ, ℤ, pos, List, [], ◌∷◌, ◌++◌, length, Some, None, false, if◌then◌else◌}
use Rattle.c_types.specs.Layout.{Table}
use Rattle.c_types.specs.Types.{Ty, integer}
use Rattle.c_types.specs.declared.integers.IntType.{IntType}
use Rattle.c_types.specs.declared.integers.IntType.TheVariants.{Char, SignedChar, UnsignedChar, Short, UnsignedShort, LongLong, UnsignedLongLong}
use Rattle.c_meaning.specs.Shapes.{Shape}
use Rattle.ms_relate.specs.refinement.Laid.{is_handle}
use Rattle.c_meaning.specs.Values.{Value, number, points}
use Rattle.c_meaning.specs.Objects.{Kind, Object, Outcome, Unsafe, gives, new_object, stops, at_null, at_invalid, freed, bounds, whole, wrong_kind, readonly, apart}
use Rattle.ms_event.specs.declared.event.Event.{Event}
use Rattle.ms_event.specs.declared.event.Event.TheVariants as events
use Rattle.ms_handle.specs.declared.handle.Handle.TheVariants as handles
use Rattle.ms_host.specs.declared.trap.TrapKind.{TrapKind}
use Rattle.ms_host.specs.declared.trap.TrapKind.TheVariants as traps
use Rattle.ms_linear.specs.declared.value.Value.{Value as Operand}
use Rattle.ms_linear.specs.declared.value.Value.TheVariants as operands
use Rattle.ms_machine.specs.Segments.{Effect, Gives, Trap}
use Rattle.ms_module.specs.declared.access.LoadOp.{LoadOp}
use Rattle.ms_module.specs.declared.access.LoadOp.TheVariants as loads
use Rattle.ms_module.specs.declared.access.StoreOp.{StoreOp}
use Rattle.ms_module.specs.declared.access.StoreOp.TheVariants as stores
use Rattle.ms_module.specs.declared.access.Segment.{Segment}
use Rattle.ms_module.specs.declared.access.Segment.TheVariants.{Load, Store, LoadHandle, StoreHandle}
use Rattle.ms_num.specs.Integers.{wrapped}
use Rattle.ms_segment.specs.Memory.{Memory, once_more}
use Rattle.ms_relate.specs.refinement.Homes.{Home, handle, IsOf, word}
use Rattle.ms_relate.specs.refinement.Relation.{Related}

-- ---- operands

abbrev pub integer_operand : IntType → ℤ → Operand
integer_operand LongLong z = operands.I64 (wrapped 64 z)
integer_operand UnsignedLongLong z = operands.I64 (wrapped 64 z)
integer_operand t z = operands.I32 (wrapped 32 z)

abbrev pub operand : (Ty → ℕ → ℕ) → List Home → Ty → Value → Operand
operand places homes (integer t) (number z) = integer_operand t z
operand places homes t v = if is_handle t then operands.Handle (handle homes v) else operands.I32 (word places t v)

-- ---- instructions

abbrev pub load_of : IntType → LoadOp
load_of Char = loads.I32Load8S
load_of SignedChar = loads.I32Load8S
load_of UnsignedChar = loads.I32Load8U
load_of Short = loads.I32Load16S
load_of UnsignedShort = loads.I32Load16U
load_of LongLong = loads.I64Load
load_of UnsignedLongLong = loads.I64Load
load_of _ = loads.I32Load

abbrev pub store_of : IntType → StoreOp
store_of Char = stores.I32Store8
store_of SignedChar = stores.I32Store8
store_of UnsignedChar = stores.I32Store8
store_of Short = stores.I32Store16
store_of UnsignedShort = stores.I32Store16
store_of LongLong = stores.I64Store
store_of UnsignedLongLong = stores.I64Store
store_of _ = stores.I32Store

abbrev pub load_instr : Ty → Segment
load_instr (integer t) = Load (load_of t)
load_instr t = if is_handle t then LoadHandle else Load loads.I32Load

abbrev pub store_instr : Ty → Segment
store_instr (integer t) = Store (store_of t)
store_instr t = if is_handle t then StoreHandle else Store stores.I32Store

-- ---- ends

pub data Traps : Unsafe → TrapKind → Type 0 where
  null_traps : Traps at_null traps.Null
  invalid_traps : Traps at_invalid traps.Invalid
  freed_traps : Traps freed traps.Freed
  bounds_traps : Traps bounds traps.Bounds
  whole_traps : Traps whole traps.Whole
  kind_traps : Traps wrong_kind traps.Kind
  readonly_traps : Traps readonly traps.Readonly
  apart_traps : Traps apart traps.Apart

-- ---- what an instruction does, by the rest of the operands: what it gives or ends with is one for every rest

-- a difference, in bytes
pub data DiffActs (m : Memory) (f : List Operand → Effect) : Outcome ℤ → Type 0 where
  diff_gives : {z : ℤ} → ((rest : List Operand) → f rest ≡ Gives (operands.I64 (wrapped 64 z) ∷ rest) m None) → DiffActs m f (gives z)
  diff_traps : {u : Unsafe} {k : TrapKind} → Traps u k → ((rest : List Operand) → f rest ≡ Trap k) → DiffActs m f (stops u)

module _ (table : Table) (places : Ty → ℕ → ℕ) (homes : List Home) where
  -- a value is read
  pub data LoadActs (t : Ty) (m : Memory) (f : List Operand → Effect) : Outcome Value → Type 0 where
    loads' : {v : Value} {e : Event} → IsOf table places homes t v → ((rest : List Operand) → f rest ≡ Gives (operand places homes t v ∷ rest) (once_more m) (Some e)) → LoadActs t m f (gives v)
    load_traps : {u : Unsafe} {k : TrapKind} → Traps u k → ((rest : List Operand) → f rest ≡ Trap k) → LoadActs t m f (stops u)

  -- objects are changed
  pub data ChangeActs (f : List Operand → Effect) : Outcome (List Object) → Type 0 where
    changes' : {objects : List Object} {m : Memory} {e : Event} → Related table places homes objects m → ((rest : List Operand) → f rest ≡ Gives rest m (Some e)) → ChangeActs f (gives objects)
    change_traps : {u : Unsafe} {k : TrapKind} → Traps u k → ((rest : List Operand) → f rest ≡ Trap k) → ChangeActs f (stops u)

  -- an object is made, and a pointer to it given, or there is no room
  pub data NewActs (objects : List Object) (m : Memory) (k : Kind) (s : Shape) (n bytes : ℕ) (f : List Operand → Effect) : Type 0 where
    new_created : {id base : ℕ} {after : Memory} → Related table places (homes ++ record { id = id; shape = s; count = n } ∷ []) (objects ++ new_object k s n ∷ []) after
        → ((rest : List Operand) → f rest ≡ Gives (operands.Handle (handle (homes ++ record { id = id; shape = s; count = n } ∷ []) (points (record { object = length objects; path = []; index = pos 0; sealed = false }))) ∷ rest) after (Some (events.Alloc id base bytes)))
        → NewActs objects m k s n bytes f
    new_refused : ((rest : List Operand) → f rest ≡ Gives (operands.Handle handles.Null ∷ rest) m (Some (events.Refused bytes))) → NewActs objects m k s n bytes f
