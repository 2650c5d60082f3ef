-- A crew that may be run: its store and its threads are well typed, and their handles fit.
use Rattle.std.specs.Prelude.{List, ◌++◌, All}
use Rattle.ms_task.specs.Thread.{Thread}
use Rattle.ms_machine.specs.Crews.{Crew, ahead}
use Rattle.ms_machine.specs.refinement.Holding.{StoreFits, ThreadFits}
use Rattle.ms_machine.specs.Typing.{StoreTyped, TaskTyped, outline_of}

-- what may still be run of it
abbrev pub threads_of : Crew → List Thread
threads_of c = ahead c.chain ++ c.tasks

pub record IsReady (c : Crew) : Type 0 where
  pub store : StoreTyped (outline_of c.store)
  pub chain : All (TaskTyped (outline_of c.store)) c.chain
  pub tasks : All (TaskTyped (outline_of c.store)) c.tasks
  pub store_fits : StoreFits c.store
  pub chain_fits : All (ThreadFits c.store) c.chain
  pub tasks_fit : All (ThreadFits c.store) c.tasks
