-- Identities of segments under other names.
use Rattle.std.specs.Prelude.{ℕ, List, [], ◌∷◌, map, option_map}
use Rattle.ms_event.specs.declared.event.Event.{Event}
use Rattle.ms_event.specs.declared.event.Event.TheVariants as events
use Rattle.ms_handle.specs.declared.handle.Handle.{Handle}
use Rattle.ms_handle.specs.declared.handle.Handle.TheVariants as handles
use Rattle.ms_linear.specs.declared.global.GlobalInst.{GlobalInst}
use Rattle.ms_linear.specs.declared.value.Value.{Value}
use Rattle.ms_linear.specs.declared.value.Value.TheVariants as values
use Rattle.ms_tagged.specs.Bytes.{Byte, Data, Piece}
use Rattle.ms_task.specs.Thread.{Activation, Do, Frame, Item, Label, Thread, thread}
use Rattle.ms_tasks.specs.declared.state.TaskState.{TaskState}
use Rattle.ms_tasks.specs.declared.state.TaskState.TheVariants.{Unended, Ended, Trapped}

abbrev pub Renaming : Type 0
Renaming = ℕ → ℕ

abbrev pub rename_handle : Renaming → Handle → Handle
rename_handle r handles.Null = handles.Null
rename_handle r handles.Broken = handles.Broken
rename_handle r (handles.Good sealed id base size offset) = handles.Good sealed (r id) base size offset

abbrev pub rename : Renaming → Value → Value
rename r (values.I32 n) = values.I32 n
rename r (values.I64 n) = values.I64 n
rename r (values.Handle h) = values.Handle (rename_handle r h)

abbrev pub rename_all : Renaming → List Value → List Value
rename_all r = map (rename r)

abbrev pub rename_frame : Renaming → Frame → Frame
rename_frame r fr = record { function = fr.function; locals = rename_all r fr.locals }

abbrev pub rename_work : Renaming → List Item → List Item
rename_work r [] = []
rename_work r (Do i ∷ w) = Do i ∷ rename_work r w
rename_work r (Label k h g ∷ w) = Label k h g ∷ rename_work r w
rename_work r (Activation k h caller ∷ w) = Activation k h (rename_frame r caller) ∷ rename_work r w

abbrev pub rename_thread : Renaming → Thread → Thread
rename_thread r t = thread (rename_frame r t.frame) (rename_all r t.operands) (rename_work r t.work)

abbrev pub rename_global : Renaming → GlobalInst → GlobalInst
rename_global r g = record { value = rename r g.value; mutable = g.mutable }

abbrev pub rename_byte : Renaming → Byte → Byte
rename_byte r (Data n) = Data n
rename_byte r (Piece h i) = Piece (rename_handle r h) i

-- the identity of an event
abbrev pub rename_event : Renaming → Event → Event
rename_event r (events.Alloc id addr size) = events.Alloc (r id) addr size
rename_event r (events.Refused size) = events.Refused size
rename_event r (events.Seal id lo hi) = events.Seal (r id) lo hi
rename_event r (events.Slice sealed id lo hi lo2 hi2) = events.Slice sealed (r id) lo hi lo2 hi2
rename_event r (events.Read sealed id lo hi addr width) = events.Read sealed (r id) lo hi addr width
rename_event r (events.Write id lo hi addr width) = events.Write (r id) lo hi addr width
rename_event r (events.Free id) = events.Free (r id)

-- how a task stands
abbrev pub rename_state : Renaming → TaskState → TaskState
rename_state r Unended = Unended
rename_state r (Ended v) = Ended (option_map (rename r) v)
rename_state r (Trapped kind) = Trapped kind
