-- What a run leaves outside: of the input and the output, told or not, and in the log.
use Rattle.std.specs.Prelude.{◌≡◌, ℕ, List, ◌++◌, Option}
use Rattle.ms_event.specs.declared.event.Event.{Event}
use Rattle.ms_machine.specs.Crews.{Input, Run, bytes_of, events_of}
use Rattle.ms_machine.specs.Running.{IsLeft, MayGive, TellsAlike}
use Rattle.ms_outside.specs.Sink.{IsFront, Puts}
use Rattle.ms_outside.specs.declared.sink.Put.TheVariants as puts
use Rattle.ms_tasks.specs.refinement.Logs.{Log, all_seen, logged}

-- After a run over what the source gave: the source has left what the run leaves, the sink has got all bytes of the run, and
-- the log has grown by its entries and events.
pub record HasRun (left left' held held' : Option (List ℕ)) (old new : Log) (given : Input) (r : Run) : Type 0 where
  pub alike : TellsAlike left left'
  pub may : MayGive left given
  pub rest : MayGive left' r.input
  pub out : Puts puts.Done (bytes_of r.deeds) held held'
  pub log : new ≡ logged r.deeds old

-- a list of events is the front of another
abbrev pub IsFirst : (front whole : List Event) → Type 0
IsFirst front whole = (rest : List Event) × (whole ≡ front ++ rest)

-- After a part of it: the source has lost only what the run takes, the sink has got a front of the run's bytes, and the log
-- has kept a front of its events, where it keeps them.
pub record HasBegun (left left' held held' : Option (List ℕ)) (old new : Log) (given : Input) (r : Run) : Type 0 where
  pub alike : TellsAlike left left'
  pub may : MayGive left given
  pub now : Input
  pub rest : MayGive left' now
  pub taken : IsLeft now given
  pub to_take : IsLeft r.input now
  pub front : List ℕ
  pub is_front : IsFront front (bytes_of r.deeds)
  pub out : Puts puts.Done front held held'
  pub seen : List Event
  pub is_seen : IsFirst seen (events_of r.deeds)
  pub kept : new.trace.events ≡ (all_seen seen old.trace).events
